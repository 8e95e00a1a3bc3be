pub mod Cutting
pub mod Kinds
pub mod Named
pub mod Numerals
pub mod Places
pub mod Reads
pub mod Rows
pub mod Runs
