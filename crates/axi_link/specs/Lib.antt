pub mod LinkInside
pub mod LinkView
pub mod Moves
pub mod LinkWords
