pub mod Multisets
pub mod Laws
pub mod CountLaws
pub mod FoldLaws
pub mod OrderLaws
pub mod SortLaws
pub mod SumLaws
