pub mod Goes
pub mod Lines
