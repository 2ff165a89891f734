pub mod UpBeats
pub mod UpCut
pub mod UpInside
pub mod UpLaws
pub mod UpState
pub mod UpTable
pub mod UpTrail
