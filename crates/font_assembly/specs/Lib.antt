pub mod Checksum
pub mod File
pub mod Assembled
pub mod Directory
