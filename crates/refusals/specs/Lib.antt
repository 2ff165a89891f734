pub mod Cause
pub mod Refusal
