-- What a call that builds a table or a font answered.
use Rattle.std.specs.Prelude.{◌≡◌, ℕ, min, nat_lt, if◌then◌else◌, Option, Some, None, Result, Ok}
use Rattle.std.specs.Prelude.{Err}
use Rattle.refusal_codes.specs.declared.limits.TheConstants.{TABLE_BYTES}
use Rattle.table_bytes.specs.declared.errors.TableError.{TableError}
use Rattle.table_bytes.specs.declared.errors.TableError.TheVariants as table_errors

-- a length that is more than four bytes can say. A number that is above the greatest of 64 bits is
-- told as that one.
abbrev pub over_limit : ℕ → Option ℕ
over_limit n = if nat_lt TABLE_BYTES n then Some (min n 18446744073709551615) else None

-- `too_large` is the length that is over the limit, if one is. Exactly then it is the error, and
-- else what was built, seen by view, is the value, unless memory ran out.
abbrev pub BuildsRefused : TableError → Option ℕ → Type 0
BuildsRefused (table_errors.TooLarge n) too_large = too_large ≡ Some n
BuildsRefused table_errors.NoMemory too_large = too_large ≡ None

abbrev pub Builds : {X Y : Type 0} → (X → Y) → Result X TableError → Option ℕ → Y → Type 0
Builds view (Ok x) too_large value = (too_large ≡ None) × (view x ≡ value)
Builds view (Err e) too_large value = BuildsRefused e too_large
