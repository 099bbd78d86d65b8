-- What is known of each index that a job of a source's graph makes. fontc's own.
use Rattle.std.specs.Prelude.{◌<◌, ◌^◌, List, length, nat_eq}
use Rattle.std.specs.List.{IsDistinct}
use Rattle.std.specs.Map.{keys_of}
use Rattle.std.specs.Cmp.Lexicographic.{pointwise}
use Rattle.glyphs_source.specs.IndexReading.{AreNamed, AreCoded, IsNotdefExported, AreNumbered}
use Rattle.character_codes.specs.CharacterCodes.{Entry}

pub record IsIndex (index : List Entry) : Type 0 where
  pub few : length index < 2 ^ 32
  pub named : AreNamed index
  pub coded : AreCoded index
  pub notdef : IsNotdefExported index
  pub numbered : AreNumbered index
  pub different : IsDistinct (pointwise nat_eq) (keys_of index)
