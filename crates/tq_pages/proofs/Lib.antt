pub mod FreeLemmas
pub mod StoreLemmas
pub mod PageLemmas
pub mod ChainLemmas
pub mod ContentLemmas
pub mod AdoptLemmas
pub mod KeptLemmas
pub mod NumberLemmas
