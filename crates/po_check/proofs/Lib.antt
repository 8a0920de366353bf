pub mod CheckLemmas
pub mod EarlyEnds
pub mod FirstFault
pub mod WarningLemmas
