pub mod SplitInside
pub mod SplitLaws
pub mod SplitState
pub mod SplitTable
pub mod SplitTrail
