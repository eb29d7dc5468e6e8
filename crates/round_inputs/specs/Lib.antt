pub mod Inputs
pub mod Movers
pub mod Sources
pub mod Links
pub mod TwoRounds
pub mod Numbers
pub mod BroughtLaws
pub mod SourceLaws
pub mod InputLaws
-- What no public contract says: words of the contracts inside this room, public since the proofs of the room read them.
pub mod StillLinks
