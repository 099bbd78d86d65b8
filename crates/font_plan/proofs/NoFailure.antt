-- A source is accepted exactly where none of its parts fails, and else refused by the least
-- failure.
use Rattle.std.specs.Prelude.{◌≡◌, ℕ, List, Ok, Err}
use Rattle.refusal_codes.specs.declared.refusal.Refusal.{Refusal}
use Rattle.font_graph.specs.Fails.{IsLeastFailure}
use Rattle.font_graph.specs.Judged.{none_fails, unrefused_of_made, accepted_made, made_accepted}
use Rattle.font_graph.specs.Judged.{verdict_fails}
use Rattle.font_graph.specs.Unrefused.{unrefused_made}
use Rattle.font_graph.specs.declared.ids.JobId.{JobId}
use Rattle.font_plan.specs.Accepted.{IsRefusedBy}
use Rattle.font_plan.specs.Failing.{FailsBy}
use Rattle.font_plan.specs.Font.{font_of}
use Rattle.font_plan.specs.Jobs.{parts}
use Rattle.font_graph.specs.PartFailures.{fails_by, by_fails}

pub accepted_fails_not : (source font : List ℕ) → font_of source ≡ Ok font → (id : JobId)
    (r : Refusal) → FailsBy source id r → ⊥
unfolding font_of
accepted_fails_not source font e id r f =
    let p = parts source in
    none_fails p (unrefused_of_made p font (accepted_made p font e)) id r (by_fails (parts source) id r f)

pub accepted_unfailed : (source : List ℕ)
    → ((id : JobId) (r : Refusal) → FailsBy source id r → ⊥)
    → (font : List ℕ) × (font_of source ≡ Ok font)
unfolding font_of
accepted_unfailed source none =
    let p = parts source in
    let made = unrefused_made p (λ id r f. none id r (fails_by (parts source) id r f)) in
    (made.0, made_accepted p made.0 made.1)

least_of_jobs : (source : List ℕ) (r : Refusal) → IsLeastFailure (parts source) r
    → IsRefusedBy source r
least_of_jobs source r l = record {
  id = l.id;
  fails = fails_by (parts source) l.id r l.fails;
  none_less = λ other s f. l.none_less other s (by_fails (parts source) other s f);
}

least_of_parts : (source : List ℕ) (r : Refusal) → IsRefusedBy source r
    → IsLeastFailure (parts source) r
least_of_parts source r l = record {
  id = l.id;
  fails = by_fails (parts source) l.id r l.fails;
  none_less = λ other s f. l.none_less other s (fails_by (parts source) other s f);
}

pub least_refuses : (source : List ℕ) (r : Refusal) → font_of source ≡ Err r → IsRefusedBy source r
unfolding font_of
least_refuses source r e =
    least_of_jobs source r ((verdict_fails (parts source) r).0 e)

pub refused_by_least : (source : List ℕ) (r : Refusal) → IsRefusedBy source r
    → font_of source ≡ Err r
unfolding font_of
refused_by_least source r l =
    (verdict_fails (parts source) r).1 (least_of_parts source r l)
