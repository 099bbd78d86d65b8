mod Skipped
mod Inside
