-- What workers write down in their turns at a turnstile. fontc's own.
pub mod Turns
