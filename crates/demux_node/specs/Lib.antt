pub mod DemuxInside
pub mod DemuxLaws
pub mod DemuxState
pub mod DemuxTable
pub mod DemuxTrail
