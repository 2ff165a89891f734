pub mod ValueLemmas
pub mod ReadLemmas
pub mod FormedLemmas
