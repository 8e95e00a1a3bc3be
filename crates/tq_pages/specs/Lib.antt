pub mod FreePages
pub mod Store
pub mod Content
pub mod Buffer
pub mod Adopting
