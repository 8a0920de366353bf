pub mod ExclusionLemmas
