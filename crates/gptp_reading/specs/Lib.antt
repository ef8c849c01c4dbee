pub mod Reading
pub mod ReadingLaws
pub mod Readings
pub mod Age
