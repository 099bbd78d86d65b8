-- What each kind of value is asked, as tables: of each rule, the values that fail it. fontc's own.
use Rattle.std.specs.Prelude.{ℕ, Bool, true, false, not, ◌&&◌, ◌||◌, nat_le, List, ◌++◌, length}
use Rattle.std.specs.Prelude.{is_some}
use Rattle.std.specs.Option.{option_map_or}
use Rattle.plist_reader.specs.declared.tree.Tree.{Tree}
use Rattle.plist_reader.specs.Tree.{text_at}
use Rattle.refusal_codes.specs.declared.rule.Rule.{Rule}
use Rattle.refusal_codes.specs.declared.rule.Rule.TheVariants.{WrongShape, MissingKey, NotWhole}
use Rattle.refusal_codes.specs.declared.rule.Rule.TheVariants.{OutOfRange}
use Rattle.refusal_codes.specs.declared.limits.TheConstants.{NAME_BYTES}
use Rattle.source_values.specs.declared.decimals.Decimal.{Decimal}
use Rattle.source_values.specs.declared.kinds.Range.{Range}
use Rattle.source_values.specs.Decimals.{is_whole}
use Rattle.source_values.specs.Values.{items_at, pairs_at, is_list, is_dictionary, decimal_at}
use Rattle.source_values.specs.Values.{in_range}
use Rattle.source_values.specs.Asking.{range_rule, is_empty_list, is_empty_dictionary}
use Rattle.source_values.specs.Ways.{Row, under, each_item, when, here, behind, has}

-- ---- single values

abbrev pub is_text_value : Tree → ℕ → Bool
is_text_value t n = is_some (text_at t.nodes n)

abbrev pub is_decimal_value : Tree → ℕ → Bool
is_decimal_value t n = is_some (decimal_at t n)

-- of a decimal, that it passes a test
abbrev pub decimal_passes : (Decimal → Bool) → Tree → ℕ → Bool
decimal_passes test t n = option_map_or test (decimal_at t n) true

-- of a text, that it passes a test
abbrev pub text_passes : (List ℕ → Bool) → Tree → ℕ → Bool
text_passes test t n = option_map_or test (text_at t.nodes n) true

-- of a decimal without a fraction, that it is in a range
abbrev pub is_within : Range → Decimal → Bool
is_within range d = not (is_whole d) || in_range range d

-- a decimal with a fraction, and a whole number outside a range
abbrev pub has_fraction : Tree → ℕ → Bool
has_fraction t n = option_map_or (λ d. not (is_whole d)) (decimal_at t n) false

abbrev pub is_outside : Range → Tree → ℕ → Bool
is_outside range t n =
    option_map_or (λ d. is_whole d && not (in_range range d)) (decimal_at t n) false

-- a whole number in a range
abbrev pub whole_table : Range → List Row
whole_table range =
    here WrongShape is_decimal_value
    ++ here NotWhole (decimal_passes is_whole)
    ++ here (range_rule range) (decimal_passes (is_within range))

-- a decimal that passes a test
abbrev pub decimal_table : Rule → (Decimal → Bool) → List Row
decimal_table rule test = here WrongShape is_decimal_value ++ here rule (decimal_passes test)

abbrev pub text_table : List Row
text_table = here WrongShape is_text_value

-- a name has 1 to 255 bytes
abbrev pub has_name_length : List ℕ → Bool
has_name_length text = nat_le 1 (length text) && nat_le (length text) NAME_BYTES

-- a text that is shorter or longer
abbrev pub has_other_length : Tree → ℕ → Bool
has_other_length t n = option_map_or (λ text. not (has_name_length text)) (text_at t.nodes n) false

abbrev pub name_table : List Row
name_table = here WrongShape is_text_value ++ here OutOfRange (text_passes has_name_length)

abbrev pub dictionary_table : List Row
dictionary_table = here WrongShape is_dictionary

abbrev pub empty_list_table : List Row
empty_list_table = here WrongShape (λ t n. is_empty_list (items_at t n))

abbrev pub empty_dictionary_table : List Row
empty_dictionary_table = here WrongShape (λ t n. is_empty_dictionary (pairs_at t n))

-- ---- values in others

abbrev pub required_table : List ℕ → List Row → List Row
required_table key rows = here MissingKey (has key) ++ behind (under key) rows

abbrev pub optional_table : List ℕ → List Row → List Row
optional_table key rows = behind (under key) rows

abbrev pub each_table : List Row → List Row
each_table rows = here WrongShape is_list ++ behind each_item rows

-- what a dictionary holds
abbrev pub inside_table : List Row → List Row
inside_table rows = here WrongShape is_dictionary ++ behind (when is_dictionary) rows
