pub mod Payload
pub mod Page
pub mod Place
pub mod Record
pub mod File
pub mod Loading
pub mod Commit
