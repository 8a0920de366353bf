pub mod WordLemmas
pub mod PlaceLemmas
