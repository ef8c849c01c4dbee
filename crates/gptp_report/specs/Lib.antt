pub mod FrameLine
pub mod SystemLines
pub mod Report
pub mod Run
pub mod Transitions
pub mod Following
pub use Rattle.gptp_sink.specs.Sink
pub use Rattle.gptp_world.specs.Observing
