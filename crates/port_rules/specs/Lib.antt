-- for callers: what a checker stands for, what is unanswered, and what holds of histories, whatever judges them
pub mod StandsFor
pub mod Unanswered
pub mod Laws
-- the inside: what a checker keeps, how it judges a round by it, and what it keeps after the round
pub mod Kept
pub mod KeptFaults
pub mod Offers
pub mod Unpaired
pub mod OpenWrites
pub mod OpenReads
-- what the things that are kept stand for
pub mod Held
pub mod LiteHeld
pub mod WritesHeld
pub mod ReadsHeld
