pub mod Judgement
pub mod Kinds
