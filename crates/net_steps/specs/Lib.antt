pub mod Calls
pub mod NetInside
pub mod NetView
pub mod Offers
pub mod Unfinished
