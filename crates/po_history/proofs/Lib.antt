pub mod Outcomes
pub mod Volumes
pub mod Written
