pub mod Graph
pub mod Order
pub mod Laws
pub mod Simple
pub mod Inside
pub mod Visits
pub mod Search
pub mod Ranks
