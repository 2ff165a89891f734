pub mod CutLemmas
pub mod DoLemmas
pub mod GroupStatuses
pub mod StatusLemmas
