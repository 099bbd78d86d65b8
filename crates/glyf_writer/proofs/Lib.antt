mod Components
mod Runs
mod Steps
mod Rows
