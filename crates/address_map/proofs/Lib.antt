pub mod RegionLemmas
pub mod ApartLemmas
pub mod PairLemmas
pub mod PortLemmas
