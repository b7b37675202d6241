pub use Rattle.gcd_history.specs.Sources
pub use Rattle.gcd_history.specs.Values
pub mod BlockValues
pub mod Contents
pub mod Ends
pub mod Jobs
pub mod StripValues
