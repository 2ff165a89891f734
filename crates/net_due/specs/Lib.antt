pub mod DueLaws
pub mod KnownRuns
