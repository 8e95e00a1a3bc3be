pub mod Steps
pub mod Bytes
pub mod Within
pub mod AllDevices
pub mod RunLemmas
pub mod QuietLemmas
pub mod Causes
mod Images
mod ReplayLemmas
mod Views
