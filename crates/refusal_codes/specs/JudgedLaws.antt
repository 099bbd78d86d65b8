-- What a job's answer says of its failures.
use Rattle.std.proofs.Common.{◌≡◌, List, Option, Some, None, Result, Ok, refl}
use Rattle.refusal_codes.specs.declared.refusal.Refusal.{Refusal}
use Rattle.refusal_codes.specs.declared.first.Failure.{Failure}
use Rattle.refusal_codes.specs.First.{judged}

-- where a job answers a value, no rule fails, and it is that value
pub judged_ok : {Y : Type 0} (refusal : Failure → Refusal) (least whole : Option Failure)
    (value y : Y) → judged refusal least whole value ≡ Ok y
    → (least ≡ None) × (whole ≡ None) × (value ≡ y)
judged_ok refusal (Some f) whole value y e = absurd cc
judged_ok refusal None (Some f) value y e = absurd cc
judged_ok refusal None None value y e = (refl, refl, cc)
