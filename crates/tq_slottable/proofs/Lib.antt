pub mod OrderedLists
pub mod PlaceLemmas
pub mod TableLemmas
pub mod SortLemmas
