-- The rules that the masters of a source may fail as a whole, where no local rule fails: there is
-- one and there are at most 32, no id stands twice, each master has one coordinate per axis, and
-- the font's origin is the id of one of them. The rules are fontc's own.
use Rattle.std.specs.Prelude.{ℕ, Bool, ◌==◌, nat_lt, is_some, List, [], ◌∷◌, ◌++◌, length, flat_map}
use Rattle.std.specs.Prelude.{position, codes, Option, Some, option_and_then}
use Rattle.std.specs.Prelude.{if◌then◌else◌}
use Rattle.std.specs.Option.{option_map_or}
use Rattle.plist_reader.specs.declared.tree.Tree.{Tree}
use Rattle.plist_reader.specs.Tree.{find_in, spells, text_at}
use Rattle.plist_reader.specs.Keys.{is_among}
use Rattle.refusal_codes.specs.declared.rule.Rule.TheVariants.{TooManyMasters, NoMaster, AxisCount}
use Rattle.refusal_codes.specs.declared.rule.Rule.TheVariants.{DuplicateMaster, OriginUnknown}
use Rattle.refusal_codes.specs.declared.first.Failure.{Failure}
use Rattle.refusal_codes.specs.declared.limits.TheConstants.{MASTERS}
use Rattle.source_values.specs.Values.{items_at, items_under, text_under, text_or_empty}
use Rattle.source_values.specs.Asking.{fails, is_empty_list}
use Rattle.source_masters.specs.Parameters.{parameter_under}

-- the masters
unfoldable pub master_numbers : Tree → List ℕ
master_numbers t = items_under t t.top (codes "fontMaster")

-- ---- how many there are

-- more than 32, at the list
abbrev pub crowded : Tree → ℕ → List Failure
crowded t n =
    if nat_lt MASTERS (length (master_numbers t)) then fails TooManyMasters t n else []

unfoldable pub too_many_masters : Tree → List Failure
too_many_masters t = option_map_or (crowded t) (find_in t t.top (codes "fontMaster")) []

-- an empty list, at itself
abbrev pub deserted : Tree → ℕ → List Failure
deserted t n = if is_empty_list (items_at t n) then fails NoMaster t n else []

unfoldable pub no_master : Tree → List Failure
no_master t = option_map_or (deserted t) (find_in t t.top (codes "fontMaster")) []

-- ---- ids

unfoldable pub master_id : Tree → ℕ → List ℕ
master_id t m = text_or_empty t m (codes "id")

-- each master whose id an earlier one has, where these are the ids before
abbrev pub repeated_ids : Tree → List (List ℕ) → List ℕ → List Failure
repeated_ids t ids [] = []
repeated_ids t ids (m ∷ ms) =
    (if is_among (master_id t m) ids then fails DuplicateMaster t m else [])
    ++ repeated_ids t (ids ++ master_id t m ∷ []) ms

unfoldable pub duplicate_masters : Tree → List Failure
duplicate_masters t = repeated_ids t [] (master_numbers t)

-- ---- coordinates

-- a master of a font with so many axes, which must have so many coordinates
unfoldable pub axis_count : ℕ → Tree → ℕ → List Failure
axis_count axes t m =
    if length (items_under t m (codes "axesValues")) == axes then [] else fails AxisCount t m

unfoldable pub axis_counts : ℕ → Tree → List Failure
axis_counts axes t = flat_map (axis_count axes t) (master_numbers t)

-- ---- the default master

abbrev pub has_id : List ℕ → Tree → ℕ → Bool
has_id id t m = spells id (text_under t m (codes "id"))

-- the position of the master with the id that this value is
unfoldable pub master_named : Tree → ℕ → Option ℕ
master_named t n =
    option_and_then (λ id. position (has_id id t) (master_numbers t)) (text_at t.nodes n)

-- the value of the font's origin
unfoldable pub origin_value : Tree → Option ℕ
origin_value t = parameter_under (codes "Variable Font Origin") t t.top

-- the position of the default master: the first one, or the first one with the id that is the
-- font's origin; none where no master has it
unfoldable pub origin_of : Tree → Option ℕ
origin_of t = option_map_or (master_named t) (origin_value t) (Some 0)

-- an origin that no master has as its id, at the value
abbrev pub unknown : Tree → ℕ → List Failure
unknown t n = if is_some (master_named t n) then [] else fails OriginUnknown t n

unfoldable pub unknown_origin : Tree → List Failure
unknown_origin t = option_map_or (unknown t) (origin_value t) []
