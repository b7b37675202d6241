pub mod StaysOver
pub mod Woken
pub mod Pass
