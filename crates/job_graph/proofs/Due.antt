-- What comes of a claimed job.
use Rattle.std.proofs.Common.{◌≡◌, Bool, true, false, List, Result, Ok, Err, sym, ap, ◌∙◌, cond}
use Rattle.std.specs.Prelude.{IfOk}
use Rattle.access_context.specs.Plain.{Plain, PlainOutcome}
use Rattle.access_context.specs.Read.{all_done}
use Rattle.job_graph.specs.Meaning.{Meaning}
use Rattle.job_graph.specs.Rounds.{blocked, reads_in, outcome_of, outcome_in, limit, IsDue}
use Rattle.job_graph.specs.Rounds.{IsOutcomeOf}

pub if_ok : {T E : Type 0} (r : Result T E) (P Q : T → Type 0) → ((x : T) → P x → Q x) → IfOk r P
    → IfOk r Q
if_ok (Ok x) P Q f h = f x h
if_ok (Err e) P Q f h = tt

module _ {Id V : Type 0} (same : Id → Id → Bool) (plan : Meaning Id V) where
  pub outcome_done : (id : Id) (reads : List (Id × Plain V)) → all_done reads ≡ true
      → outcome_of same plan id reads ≡ plan.outcome id reads
  outcome_done id reads e = ap (λ b. cond b (plan.outcome id reads) blocked) e

  pub outcome_blocked : (id : Id) (reads : List (Id × Plain V)) → all_done reads ≡ false
      → outcome_of same plan id reads ≡ blocked
  outcome_blocked id reads e = ap (λ b. cond b (plan.outcome id reads) blocked) e

  outcome_due : (id : Id) (reads : List (Id × Plain V)) → (d : IsDue same plan id reads)
      → outcome_in same plan (limit same plan) d.job ≡ outcome_of same plan id reads
  outcome_due id reads d = ap (λ k. outcome_of same plan k
      (reads_in same (limit same plan) d.job.access.reads)) d.named
      ∙ ap (outcome_of same plan id) (sym d.reads_are)

  pub due_blocked : (id : Id) (reads : List (Id × Plain V)) → IsDue same plan id reads
      → all_done reads ≡ false → IsOutcomeOf same plan id blocked
  due_blocked id reads d e = record {
    job = d.job;
    added = d.added;
    named = d.named;
    is
        = sym (outcome_due id reads d ∙ outcome_blocked id reads e);
  }

  pub due_done : (id : Id) (reads : List (Id × Plain V)) → IsDue same plan id reads
      → all_done reads ≡ true → (o : PlainOutcome V Id) → o ≡ plan.outcome id reads
      → IsOutcomeOf same plan id o
  due_done id reads d e o is = record {
    job = d.job;
    added = d.added;
    named = d.named;
    is = is
        ∙ sym (outcome_due id reads d ∙ outcome_done id reads e);
  }
