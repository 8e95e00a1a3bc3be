pub mod Filled
pub mod Distinct
pub mod Ends
pub mod LabelOrder
pub mod Ids
pub mod Same
pub mod TextRuns
