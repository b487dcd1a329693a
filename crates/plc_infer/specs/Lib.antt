-- what contracts of public calls say
pub mod Programs
pub mod Resuming
-- words of private functions alone
pub mod Faults
pub mod FlowLists
pub mod Graphs
pub mod Iteration
pub mod Relaxing
pub mod Starts
pub mod WorkLists
pub mod Trials
