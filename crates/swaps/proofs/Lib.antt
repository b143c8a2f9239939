pub mod WorkersOwn
pub mod Swaps
pub mod SwapExamples
