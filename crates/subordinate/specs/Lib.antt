pub mod PacedRows
pub mod Parts
pub mod Places
pub mod Service
pub mod SubordinateState
pub mod SubordinateTable
pub mod Tracks
