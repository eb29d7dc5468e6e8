pub mod ShortCodes
pub mod ShortSpans
pub mod Spans
pub mod Tallies
pub mod Numbers
pub mod SentLaws
