mod Leading
mod Missing
mod Omitting
