pub mod Alone
pub mod Beginnings
pub mod Steps
pub mod Written
