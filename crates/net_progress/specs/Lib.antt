pub mod Moving
pub mod Transfers
