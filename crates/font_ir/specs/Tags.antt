-- The tags that a source gives: OpenType 1.9 has a tag's bytes from 0x20 to 0x7E, with spaces at
-- its
-- end alone ("Data types").
use Rattle.std.specs.Prelude.{◌≡◌, ℕ, ◌≤◌, ◌-◌, List, ◌++◌, length, replicate}
use Rattle.std.specs.List.{All}
use Rattle.font_ir.specs.declared.tag.Tag.{Tag}

-- a byte of a tag that is no space
abbrev pub IsTagByte : ℕ → Type 0
IsTagByte byte = (0x21 ≤ byte) × (byte ≤ 0x7E)

-- a tag is 1 to 4 such bytes, and spaces up to the fourth
pub record IsTag (tag : Tag) : Type 0 where
  pub word : List ℕ
  pub long : (1 ≤ length word) × (length word ≤ 4)
  pub bytes : All IsTagByte word
  pub padded : tag.0 ≡ word ++ replicate (4 - length word) 0x20
