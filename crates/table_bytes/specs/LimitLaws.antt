-- When a length is over the limit, told by the number of 64 bits that it is cut to. For the proofs
-- of other crates alone.
use Rattle.std.proofs.Common.{◌≡◌, ℕ, ◌<◌, ◌≤◌, min, nat_lt, Bool, true, false, Some, None, ap, sym}
use Rattle.std.proofs.Common.{◌∙◌, arith}
use Rattle.std.specs.Prelude.{if◌then◌else◌}
use Rattle.std.proofs.lemmas.Bool.Decides.{nat_tests}
use Rattle.refusal_codes.specs.declared.limits.TheConstants.{TABLE_BYTES}
use Rattle.table_bytes.specs.Tables.{over_limit}

pub is_over : (n cut : ℕ) → cut ≡ min n 18446744073709551615 → TABLE_BYTES < cut
    → over_limit n ≡ Some cut
is_over n cut is over =
    let long : nat_lt TABLE_BYTES n ≡ true = grind (arith, nat_tests) in
    ap (λ (b : Bool). if b then Some (min n 18446744073709551615) else None) long ∙ ap Some (sym is)

pub is_within : (n cut : ℕ) → cut ≡ min n 18446744073709551615 → cut ≤ TABLE_BYTES
    → over_limit n ≡ None
is_within n cut is within =
    let short : nat_lt TABLE_BYTES n ≡ false = grind (arith, nat_tests) in
    ap (λ (b : Bool). if b then Some (min n 18446744073709551615) else None) short
