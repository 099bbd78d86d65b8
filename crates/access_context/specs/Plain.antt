-- What came of a job, without the pointer by which a value is shared. fontc's own.
use Rattle.std.specs.Prelude.{List, Option, Some, None, Bool, true, false}
use Rattle.refusal_codes.specs.declared.refusal.Refusal.{Refusal}
use Rattle.access_context.specs.declared.access.Spec.{Spec}
use Rattle.access_context.specs.declared.settled.Settled.{Settled}
use Rattle.access_context.specs.declared.settled.Settled.TheVariants as settled
use Rattle.access_context.specs.declared.settled.Outcome.{Outcome}

-- a value, the rule that fails, or nothing, since an item that the job reads has no value
pub data Plain (V : Type 0) : Type 0 where
  Done : V → Plain V
  Refused : Refusal → Plain V
  Blocked : Plain V

-- the value, where there is one
abbrev pub done_value : {V : Type 0} → Plain V → Option V
done_value (Done value) = Some value
done_value (Refused refusal) = None
done_value Blocked = None

abbrev pub is_done : {V : Type 0} → Plain V → Bool
is_done (Done value) = true
is_done (Refused refusal) = false
is_done Blocked = false

abbrev pub plain : {V : Type 0} → Settled V → Plain V
plain (settled.Done value) = Done value.value
plain (settled.Refused refusal) = Refused refusal
plain settled.Blocked = Blocked

-- what came of a job, and the jobs that it adds
pub record PlainOutcome (V Id : Type 0) : Type 0 where
  pub value : Plain V
  pub added : List (Spec Id)

abbrev pub plain_outcome : {V Id : Type 0} → Outcome V Id → PlainOutcome V Id
plain_outcome o = record { value = plain o.value; added = o.added }
