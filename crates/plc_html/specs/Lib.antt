-- what contracts of public calls say
pub mod Escaping
pub mod Tags
pub mod Fragments
pub mod Badges
pub mod Frame
pub mod Laws
