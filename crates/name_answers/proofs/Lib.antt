pub mod FormLaws
pub mod NameLaws
pub mod VersionLaws
pub mod Numbers
