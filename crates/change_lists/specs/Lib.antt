pub mod ChangeLists
pub mod ChangeLaws
pub mod ValueLaws
pub mod UnchangedLaws
-- What no public contract says: words of the contracts inside this room, public since the proofs of the room read them.
pub mod Chained
