pub mod NodeCuts
pub mod NodeHolds
pub mod NodeKind
pub mod NodeTable
