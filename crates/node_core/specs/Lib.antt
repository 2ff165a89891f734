pub mod Acted
pub mod Fits
pub mod Pace
pub mod PaceInside
pub mod Paces
pub mod Rows
pub mod Turn
pub mod TurnInside
