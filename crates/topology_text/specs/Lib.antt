pub mod Document
pub mod Form
pub mod Shape
pub mod Seen
pub mod Node
pub mod Text
pub mod Formed
