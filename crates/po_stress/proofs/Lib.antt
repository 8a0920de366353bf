pub mod CallEnds
pub mod EndSums
pub mod Parts
