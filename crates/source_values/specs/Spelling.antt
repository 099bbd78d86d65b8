-- What it is that a text spells a decimal, in the words of its parts: a sign, digits, and maybe a
-- point and more digits, of which those after the ninth don't count. A law above `Decimals`.
-- fontc's own reading of the numbers of the Glyphs file format, version 3.
use Rattle.std.specs.Prelude.{◌≡◌, ℕ, Bool, true, false, List, [], ◌∷◌, ◌++◌, take, codes}
use Rattle.std.specs.List.{list_all}
use Rattle.std.specs.Char.{is_ascii_digit}
use Rattle.source_values.specs.declared.decimals.Decimal.{Decimal}
use Rattle.source_values.specs.Decimals.{are_digits, digits_value}

-- a minus, or nothing
abbrev pub sign : Bool → List ℕ
sign true = codes "-"
sign false = []

-- a point with the digits behind it, or nothing
abbrev pub point_with : List ℕ → List ℕ
point_with [] = []
point_with (d ∷ ds) = codes "." ++ d ∷ ds

-- nine digits of a fraction: those after the ninth don't count, and zeros stand where it has fewer
abbrev pub nine_digits : List ℕ → List ℕ
nine_digits fraction = take 9 (fraction ++ codes "000000000")

pub record Spells (text : List ℕ) (d : Decimal) : Type 0 where
  pub whole : List ℕ
  pub fraction : List ℕ
  pub parts : text ≡ sign d.negative ++ whole ++ point_with fraction
  pub whole_digits : are_digits whole ≡ true
  pub fraction_digits : list_all is_ascii_digit fraction ≡ true
  pub whole_part : d.whole ≡ digits_value whole
  pub billionths : d.billionths ≡ digits_value (nine_digits fraction)
