pub mod Examples
pub mod Parts
pub mod Resolvers
pub mod Rule
pub mod RuleLaws
