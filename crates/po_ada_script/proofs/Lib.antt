pub mod NoCalls
pub mod Refused
