-- What names add to the records and to the texts that stand already.
use Rattle.std.specs.Prelude.{◌≡◌, ℕ, ◌+◌, ◌*◌, ◌≤◌, ◌&&◌, nat_lt, if◌then◌else◌, List, [], ◌∷◌}
use Rattle.std.specs.Prelude.{◌++◌, length}
use Rattle.name_tables.specs.declared.store.NameStore.{NameStore}
use Rattle.name_tables.specs.Texts.{NamedText, is_postscript}
use Rattle.name_tables.specs.Names.{name_records, string_data}

-- so many bytes a text takes at most
abbrev pub text_room : ℕ
text_room = 600

pub record Adds (before after : NameStore) (names : List NamedText) : Type 0 where
  pub records : after.records.items
      ≡ before.records.items ++ name_records (length before.texts.items) names
  pub texts : after.texts.items ≡ before.texts.items ++ string_data names
  pub room : length after.texts.items ≤ length before.texts.items + text_room * length names

-- a store has the records and the texts of these names
pub record Holds (store : NameStore) (names : List NamedText) : Type 0 where
  pub records : store.records.items ≡ name_records 0 names
  pub texts : store.texts.items ≡ string_data names

-- a PostScript name with a character more, where it may have it and isn't full
abbrev pub with_postscript : List ℕ → ℕ → List ℕ
with_postscript text b =
    if nat_lt (length text) 55 && is_postscript b then text ++ b ∷ [] else text
