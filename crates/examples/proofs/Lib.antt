pub mod Examples
pub mod OrderExamples
pub mod ListingExamples
pub mod LinkedExamples
pub mod DelayedExamples
pub mod GrowthExamples
