-- what the characters that are left add makes the text in UTF-16
use Rattle.std.proofs.Common.{◌≡◌, ◌++◌, length, drop}
use Rattle.std.specs.List.{flat_map}
use Rattle.std.specs.Str.{chars}
use Rattle.name_tables.specs.Texts.{utf16_character}
use Rattle.name_tables.proofs.utf16.push_utf16.Given as goal

abbrev pub invariant-loop-character : goal.invariant-loop-character
invariant-loop-character l =
    l.bytes.items ++ flat_map utf16_character (drop (length l.yielded) (chars l.text))
    ≡ l.fn.bytes.items ++ flat_map utf16_character (chars l.text)
