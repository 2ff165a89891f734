pub mod Network
pub mod Wired
