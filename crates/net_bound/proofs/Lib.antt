pub mod Sums
pub mod Patience
pub mod HopBeats
pub mod LinkBeats
pub mod ItemMoves
pub mod InTime
