pub mod Splits
pub mod Engines
-- What no public contract says: words of the contracts inside this room, public since the proofs of the room read them.
pub mod Assigning
