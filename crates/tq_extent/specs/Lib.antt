pub mod Clusters
pub mod Pages
pub mod TakeError
pub mod Owner
pub mod Bytes
