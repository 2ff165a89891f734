pub mod RemapInside
pub mod RemapLaws
pub mod RemapState
pub mod RemapTable
pub mod RemapTrail
