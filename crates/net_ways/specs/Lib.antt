pub mod Known
pub mod Sound
pub mod SoundLaws
pub mod Ways
