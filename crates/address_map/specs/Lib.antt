pub mod Regions
pub mod Order
pub mod Maps
pub mod Laws
