-- What the program tells `clap` of its words, and what its answers are.
pub mod AxinetCommand
pub mod Chosen
