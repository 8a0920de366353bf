pub mod Refused
pub mod Stages
pub mod Told
