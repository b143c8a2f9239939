pub mod RunsAccepted
pub mod RunsJudged
pub mod Examples
