pub mod CutLaws
pub mod PartLaws
pub mod Parts
