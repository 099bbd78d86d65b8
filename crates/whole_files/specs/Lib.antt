pub mod Transfers
pub mod Requests
pub mod Printing
