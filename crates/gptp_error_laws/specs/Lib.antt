pub mod TimeError
pub mod HopLaws
pub mod WayLaws
pub mod Examples
pub mod ExampleSync
