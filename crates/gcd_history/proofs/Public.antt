pub mod Laws
pub mod Facts
pub mod BlockLaws
pub mod TeamLaws
