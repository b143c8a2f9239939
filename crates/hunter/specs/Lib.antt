pub mod Hunter
