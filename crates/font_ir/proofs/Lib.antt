mod Names
pub mod NotdefLaws
