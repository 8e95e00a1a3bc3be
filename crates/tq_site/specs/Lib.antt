pub mod Base
pub mod Journal
pub mod InMemory
pub mod Errors
pub mod Payloads
