pub mod ParentLemmas
pub mod RoleLemmas
pub mod LineLemmas
