-- The rules that each kind of value fails: a value of another kind than the one asked is of a wrong
-- shape, a number with a fraction isn't whole, and a number or a length may be outside its range.
-- Of these only the first is found at one value. A dictionary that lacks a key fails itself.
-- fontc's own.
use Rattle.std.specs.Prelude.{ℕ, Bool, false, ◌&&◌, ◌==◌, nat_le, List, [], ◌∷◌, length, Option}
use Rattle.std.specs.Prelude.{Some, None, is_some, flat_map, if◌then◌else◌}
use Rattle.plist_reader.specs.declared.tree.Tree.{Tree}
use Rattle.plist_reader.specs.Tree.{text_at, find_in}
use Rattle.refusal_codes.specs.declared.rule.Rule.{Rule}
use Rattle.refusal_codes.specs.declared.rule.Rule.TheVariants.{WrongShape, MissingKey, NotWhole}
use Rattle.refusal_codes.specs.declared.rule.Rule.TheVariants.{OutOfRange, CoordinateTooLarge}
use Rattle.refusal_codes.specs.declared.first.Failure.{Failure}
use Rattle.refusal_codes.specs.declared.limits.TheConstants.{NAME_BYTES}
use Rattle.source_values.specs.declared.decimals.Decimal.{Decimal}
use Rattle.source_values.specs.declared.kinds.Range.{Range}
use Rattle.source_values.specs.declared.kinds.Range.TheVariants.{Any, Natural, Code, Coordinate}
use Rattle.source_values.specs.Decimals.{is_whole}
use Rattle.source_values.specs.Values.{place_at, items_at, pairs_at, is_dictionary, decimal_at}
use Rattle.source_values.specs.Values.{in_range}

-- this rule fails at this value
abbrev pub fails : Rule → Tree → ℕ → List Failure
fails rule t n = record { rule = rule; place = place_at t n } ∷ []

-- ---- single values

-- the rule that a number outside its range fails
abbrev pub range_rule : Range → Rule
range_rule Any = OutOfRange
range_rule (Natural low high) = OutOfRange
range_rule Code = OutOfRange
range_rule Coordinate = CoordinateTooLarge

-- a whole number in a range
abbrev pub whole_failures_by : Range → Tree → ℕ → Option Decimal → List Failure
whole_failures_by range t n None = fails WrongShape t n
whole_failures_by range t n (Some d) =
    if is_whole d
    then (if in_range range d then [] else fails (range_rule range) t n)
    else fails NotWhole t n

unfoldable pub whole_failures : Range → Tree → ℕ → List Failure
whole_failures range t n = whole_failures_by range t n (decimal_at t n)

-- a text
unfoldable pub text_failures : Tree → ℕ → List Failure
text_failures t n = if is_some (text_at t.nodes n) then [] else fails WrongShape t n

-- a name: a text of 1 to 255 bytes
abbrev pub name_failures_by : Tree → ℕ → Option (List ℕ) → List Failure
name_failures_by t n None = fails WrongShape t n
name_failures_by t n (Some text) =
    if nat_le 1 (length text) && nat_le (length text) NAME_BYTES then [] else fails OutOfRange t n

unfoldable pub name_failures : Tree → ℕ → List Failure
name_failures t n = name_failures_by t n (text_at t.nodes n)

-- a dictionary, whatever it holds
unfoldable pub dictionary_failures : Tree → ℕ → List Failure
dictionary_failures t n = if is_dictionary t n then [] else fails WrongShape t n

-- a form that isn't built: nothing but an empty list is of the right shape
abbrev pub is_empty_list : Option (List ℕ) → Bool
is_empty_list None = false
is_empty_list (Some items) = length items == 0

unfoldable pub empty_list_failures : Tree → ℕ → List Failure
empty_list_failures t n = if is_empty_list (items_at t n) then [] else fails WrongShape t n

-- the same: nothing but an empty dictionary
abbrev pub is_empty_dictionary : Option (List (ℕ × ℕ)) → Bool
is_empty_dictionary None = false
is_empty_dictionary (Some pairs) = length pairs == 0

unfoldable pub empty_dictionary_failures : Tree → ℕ → List Failure
empty_dictionary_failures t n =
    if is_empty_dictionary (pairs_at t n) then [] else fails WrongShape t n

-- ---- values in others

-- a list, each value of which may fail
abbrev pub each_by : (ℕ → List Failure) → Tree → ℕ → Option (List ℕ) → List Failure
each_by failures t n None = fails WrongShape t n
each_by failures t n (Some items) = flat_map failures items

abbrev pub each : (Tree → ℕ → List Failure) → Tree → ℕ → List Failure
each failures t n = each_by (failures t) t n (items_at t n)

-- a dictionary, whose parts may fail
abbrev pub dictionary : (Tree → ℕ → List Failure) → Tree → ℕ → List Failure
dictionary failures t n = if is_dictionary t n then failures t n else fails WrongShape t n

-- what fails of the value under a key: of a value that is there, and where there is none
abbrev pub under_by : (ℕ → List Failure) → List Failure → Option ℕ → List Failure
under_by failures missing None = missing
under_by failures missing (Some n) = failures n

-- a key that a dictionary must have
abbrev pub required : List ℕ → (Tree → ℕ → List Failure) → Tree → ℕ → List Failure
required key failures t pairs = under_by (failures t) (fails MissingKey t pairs)
    (find_in t pairs key)

-- a key that a dictionary may have
abbrev pub optional : List ℕ → (Tree → ℕ → List Failure) → Tree → ℕ → List Failure
optional key failures t pairs = under_by (failures t) [] (find_in t pairs key)
