-- The least of a list of failures: the least place wins, and at one place the rule that comes first
-- in the list of rules. fontc's own.
use Rattle.std.specs.Prelude.{◌≡◌, ℕ, Bool, false, Contains, ◌||◌, ◌&&◌, ◌==◌, nat_lt, List, []}
use Rattle.std.specs.Prelude.{◌∷◌, Option, Some, None, Result, Ok, Err, if◌then◌else◌}
use Rattle.std.specs.List.{AllByRecursion}
use Rattle.refusal_codes.specs.Rules.{rule_number}
use Rattle.refusal_codes.specs.declared.job.Job.{Job}
use Rattle.refusal_codes.specs.declared.first.Failure.{Failure}
use Rattle.refusal_codes.specs.declared.refusal.Refusal.{Refusal}

-- whether a failure comes before another one
abbrev pub is_before : Failure → Failure → Bool
is_before a b = nat_lt a.place b.place ||
    (a.place == b.place && nat_lt (rule_number a.rule) (rule_number b.rule))

-- the earlier of the least failure so far, if there is one, and another failure; the first of two
-- alike
abbrev pub earlier : Option Failure → Failure → Failure
earlier None f = f
earlier (Some least) f = if is_before f least then f else least

-- the least of a failure, if there is one, and of those of a list
abbrev pub noted : Option Failure → List Failure → Option Failure
noted least [] = least
noted least (f ∷ fs) = noted (Some (earlier least f)) fs

-- the least of a list of failures
abbrev pub first_of : List Failure → Option Failure
first_of fs = noted None fs

-- the refusal of a failure that a job of this kind, with this name, finds
abbrev pub refusal_of : Job → List ℕ → Failure → Refusal
refusal_of job name f = record {
  stratum = job.stratum;
  kind = job.kind;
  name = name;
  rule
      = f.rule;
  place = f.place;
}

-- the first of a list of failures, which is in the order of the rules
abbrev pub foremost : List Failure → Option Failure
foremost [] = None
foremost (f ∷ fs) = Some f

-- what a job answers: its least local failure, else the first failure of its whole rules, else its
-- value
abbrev pub judged : {Y : Type 0} → (Failure → Refusal) → Option Failure → Option Failure → Y
    → Result Y Refusal
judged refusal (Some f) whole value = Err (refusal f)
judged refusal None (Some f) value = Err (refusal f)
judged refusal None None value = Ok value

-- the failure of a rule, and where it has none that of the next rule
abbrev pub or_next : Option Failure → Option Failure → Option Failure
or_next None next = next
or_next (Some f) next = Some f

-- a failure is among these, and none of them comes before it
pub record IsFirst (fs : List Failure) (f : Failure) : Type 0 where
  pub there : Contains fs f
  pub none_before : AllByRecursion (λ g. is_before g f ≡ false) fs
