pub mod SliceInside
pub mod SliceLaws
pub mod SliceState
pub mod SliceTable
pub mod SliceTrail
