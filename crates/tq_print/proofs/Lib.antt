pub mod Extents
pub mod TextRuns
