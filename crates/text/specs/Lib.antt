pub mod Quoted
pub mod Same
pub mod Numbers
pub mod Words
pub mod Commands
pub mod Outs
