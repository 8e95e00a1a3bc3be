pub mod ByteLemmas
pub mod SetLemmas
pub mod RangeLemmas
