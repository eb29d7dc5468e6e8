pub mod Views
pub mod RowLists
pub mod Lives
pub mod Links
pub mod Listings
pub mod Counts
pub mod TurnedArcs
pub mod TwoViews
pub mod RowLaws
pub mod FilterLaws
pub mod ViewLaws
pub mod ListLaws
pub mod CopyLaws
-- What no public contract says: words of the contracts inside this room, public since the proofs of the room read them.
pub mod Places
