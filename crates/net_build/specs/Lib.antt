pub mod Linked
pub mod NetInside
pub mod NetRun
pub mod Noted
pub mod Notes
pub mod Shown
pub mod Source
pub mod Stands
