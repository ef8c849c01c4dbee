pub mod Members
pub mod SystemSpecLaws
