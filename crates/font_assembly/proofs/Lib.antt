pub mod TotalLemmas
pub mod FileLemmas
pub mod DirectoryLemmas
pub mod DirectoryLaws
pub mod Examples
