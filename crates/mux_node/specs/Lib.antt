pub mod MuxInside
pub mod MuxLaws
pub mod MuxState
pub mod MuxTable
pub mod MuxTrail
