pub mod Layout
pub mod Reading
pub mod Frame
pub mod Log
pub mod Loading
pub mod Scanning
pub mod Loaded
