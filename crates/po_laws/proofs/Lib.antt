mod Attempts
mod Leading
mod Moments
mod Opening
mod Picks
mod Runs
mod Turns
mod Words
pub mod AllocatorLawLemmas
pub mod BufferLawLemmas
pub mod GatheredLemmas
pub mod HistoryLemmas
pub mod MeetingLawLemmas
pub mod MeetingPhases
pub mod MeetingQueues
pub mod MeetingStates
pub mod MeetingTrails
pub mod PulseBusyLemmas
pub mod PulseIdleLemmas
pub mod PulseLawLemmas
