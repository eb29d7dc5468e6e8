pub mod Spares
pub mod Kernels
pub mod Histories
pub mod Plans
-- What no public contract says: words of the contracts inside this room, public since the proofs of the room read them.
pub mod Frames
pub mod Sources
pub mod Suspects
pub mod Rounds
pub mod Flags
pub mod Steps
pub mod Lookups
pub mod Spots
pub mod Changes
