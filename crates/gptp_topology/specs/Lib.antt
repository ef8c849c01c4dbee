pub mod Course
pub mod Trouble
pub mod Tables
pub mod After
pub mod Times
