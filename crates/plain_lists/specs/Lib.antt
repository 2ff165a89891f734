-- entries under keys
pub mod Keys
-- beginnings of lists
pub mod Prefixes
-- lists that grow from round to round
pub mod Rounds
-- lists whose elements are numbered
pub mod Numbered
-- what holds of all these
pub mod Laws
