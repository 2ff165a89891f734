pub mod Bus
pub mod Response
pub mod Codes
pub mod Lanes
