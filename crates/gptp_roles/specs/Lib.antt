pub mod Choice
pub mod Role
pub mod Selection
pub mod SystemTrace
