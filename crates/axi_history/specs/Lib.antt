pub mod Answered
pub mod Delivered
pub mod KnownHistories
pub mod KnownTraces
pub mod PortHistory
pub mod PortRules
pub mod Records
