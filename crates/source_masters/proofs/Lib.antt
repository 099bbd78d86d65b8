mod Examples
pub mod RuleWords
pub mod SoundMasters
pub mod TableLaws
