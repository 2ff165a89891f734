pub mod Example
pub mod PortLaws
pub mod PortView
pub mod WordSchedule
