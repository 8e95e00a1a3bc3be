pub mod SpaceCalls
pub mod Fields
pub mod Tables
pub mod Entries
pub mod MachineViews
