-- What a source's values say: a text, a decimal, a list, a dictionary, or none of them. fontc's
-- own.
use Rattle.std.specs.Prelude.{ℕ, Bool, true, false, not, ◌&&◌, ◌==◌, nat_le, List, [], ◌∷◌, length}
use Rattle.std.specs.Prelude.{Option, Some, None, is_some, option_and_then, unwrap_or}
use Rattle.std.specs.Prelude.{if◌then◌else◌}
use Rattle.std.specs.Option.{option_map_or}
use Rattle.plist_reader.specs.declared.tree.Tree.{Tree}
use Rattle.plist_reader.specs.Tree.{node_at, items_of, pairs_of, text_at, find_in}
use Rattle.refusal_codes.specs.declared.limits.TheConstants.{COORDINATE}
use Rattle.source_values.specs.declared.decimals.Decimal.{Decimal}
use Rattle.source_values.specs.declared.kinds.Range.{Range}
use Rattle.source_values.specs.declared.kinds.Range.TheVariants.{Any, Natural, Code, Coordinate}
use Rattle.source_values.specs.Decimals.{decimal_of, is_whole, is_natural_in}

-- the place of a value in the source
abbrev pub place_at : Tree → ℕ → ℕ
place_at t n = option_map_or (λ node. node.place) (node_at t n) 0

-- the values of a list, where the value is one
abbrev pub items_at : Tree → ℕ → Option (List ℕ)
items_at t n = option_and_then (λ node. items_of node.value) (node_at t n)

-- the keys and values of a dictionary, where the value is one
abbrev pub pairs_at : Tree → ℕ → Option (List (ℕ × ℕ))
pairs_at t n = option_and_then (λ node. pairs_of node.value) (node_at t n)

abbrev pub is_list : Tree → ℕ → Bool
is_list t n = is_some (items_at t n)

abbrev pub is_dictionary : Tree → ℕ → Bool
is_dictionary t n = is_some (pairs_at t n)

-- the decimal that a text spells, where the value is such a text
unfoldable pub decimal_at : Tree → ℕ → Option Decimal
decimal_at t n = option_and_then decimal_of (text_at t.nodes n)

-- a character code may be no surrogate and not 65535
abbrev pub is_code : ℕ → Bool
is_code c = not (nat_le 55296 c && nat_le c 57343) && not (c == 65535)

-- whether there is a decimal, and it is 0
abbrev pub is_zero : Option Decimal → Bool
is_zero None = false
is_zero (Some d) = is_whole d && d.whole == 0

-- whether a whole number is in its range
abbrev pub in_range : Range → Decimal → Bool
in_range Any d = true
in_range (Natural low high) d = is_natural_in low high d
in_range Code d = is_natural_in 0 1114111 d && is_code d.whole
in_range Coordinate d = nat_le d.whole COORDINATE

-- a whole number in a range, and its lower end where the value isn't one
abbrev pub natural_by : ℕ → ℕ → Option Decimal → ℕ
natural_by low high None = low
natural_by low high (Some d) = if is_whole d && is_natural_in low high d then d.whole else low

unfoldable pub natural_in : ℕ → ℕ → Tree → ℕ → ℕ
natural_in low high t n = natural_by low high (decimal_at t n)

-- the number under a key, and another one where the key is missing
abbrev pub natural_or : ℕ → ℕ → ℕ → Tree → ℕ → List ℕ → ℕ
natural_or low high missing t pairs key =
    option_map_or (natural_in low high t) (find_in t pairs key) missing

-- the values of the list under a key, and none where there is no such list
abbrev pub items_under : Tree → ℕ → List ℕ → List ℕ
items_under t pairs key = unwrap_or (option_and_then (items_at t) (find_in t pairs key)) []

-- the text under a key, where there is one
abbrev pub text_under : Tree → ℕ → List ℕ → Option (List ℕ)
text_under t pairs key = option_and_then (text_at t.nodes) (find_in t pairs key)

-- the text under a key, and an empty one where there is none
abbrev pub text_or_empty : Tree → ℕ → List ℕ → List ℕ
text_or_empty t pairs key = unwrap_or (text_under t pairs key) []

-- the decimal under a key, where there is one
abbrev pub decimal_under : Tree → ℕ → List ℕ → Option Decimal
decimal_under t pairs key = option_and_then (decimal_at t) (find_in t pairs key)
