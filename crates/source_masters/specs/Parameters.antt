-- The parameters of a font or of a master (Glyphs file format, version 3, `customParameters`): a
-- list of dictionaries, each with a name and a value. An entry without one of the two says nothing,
-- and nor does one with `disabled = 1`; of the others the first with a name counts. Which
-- parameters are read is fontc's own.
use Rattle.std.specs.Prelude.{ℕ, Bool, false, not, ◌&&◌, ◌==◌, List, [], ◌++◌, Option, Some, None}
use Rattle.std.specs.Prelude.{codes, option_and_then, unwrap_or}
use Rattle.std.specs.Option.{option_map_or}
use Rattle.std.specs.List.{find}
use Rattle.plist_reader.specs.declared.tree.Tree.{Tree}
use Rattle.plist_reader.specs.Tree.{find_in, spells}
use Rattle.refusal_codes.specs.declared.first.Failure.{Failure}
use Rattle.source_values.specs.declared.decimals.Decimal.{Decimal}
use Rattle.source_values.specs.declared.kinds.Range.TheVariants.{Any}
use Rattle.source_values.specs.Decimals.{is_whole}
use Rattle.source_values.specs.Values.{items_at, items_under, text_under, decimal_under}
use Rattle.source_values.specs.Asking.{whole_failures, text_failures, each, dictionary, optional}
use Rattle.source_values.specs.Ways.{has}

-- ---- which entry counts

-- whether there is a decimal, and it is 1
abbrev pub is_one : Option Decimal → Bool
is_one None = false
is_one (Some d) = not d.negative && d.whole == 1 && is_whole d

-- whether an entry sets the parameter of this name: it has the name and a value, and isn't disabled
abbrev pub sets : List ℕ → Tree → ℕ → Bool
sets name t entry =
    spells name (text_under t entry (codes "name"))
    && has (codes "value") t entry
    && not (is_one (decimal_under t entry (codes "disabled")))

-- the value that the first of these entries gives to the parameter of this name
unfoldable pub parameter_in : List ℕ → Tree → List ℕ → Option ℕ
parameter_in name t entries =
    option_and_then (λ entry. find_in t entry (codes "value")) (find (sets name t) entries)

-- the same of a list of parameters, and of the one that a dictionary has
abbrev pub parameter_at : List ℕ → Tree → ℕ → Option ℕ
parameter_at name t n = parameter_in name t (unwrap_or (items_at t n) [])

abbrev pub parameter_under : List ℕ → Tree → ℕ → Option ℕ
parameter_under name t pairs = parameter_in name t (items_under t pairs (codes "customParameters"))

-- ---- local rules

-- what each entry is asked: its name is a text, and `disabled` a whole number
unfoldable pub entry_failures : Tree → ℕ → List Failure
entry_failures t entry =
    optional (codes "name") text_failures t entry
    ++ optional (codes "disabled") (whole_failures Any) t entry

-- a list of parameters, of which one is read: the value that counts is asked to be of its kind, and
-- no other value is looked at
unfoldable pub parameters_failures : List ℕ → (Tree → ℕ → List Failure) → Tree → ℕ → List Failure
parameters_failures name failures t n =
    each (dictionary entry_failures) t n ++ option_map_or (failures t) (parameter_at name t n) []

-- the parameters of the font: the id of its default master
abbrev pub font_parameters_failures : Tree → ℕ → List Failure
font_parameters_failures = parameters_failures (codes "Variable Font Origin") text_failures
