pub mod AdmissionLaws
pub mod ConflictExamples
pub mod ConflictLaws
pub mod Examples
pub mod ResolverLaws
pub mod SerialMapLaws
pub mod StampExamples
