-- What workers hold between two calls of a board, as the tests keep it. fontc's own.
use Rattle.std.specs.Prelude.{◌≡◌, ℕ, Bool, List, map, Option, option_map, IfSome, All}
use Rattle.access_context.specs.Plain.{Plain}
use Rattle.job_graph.specs.declared.event.Event.{Event}
use Rattle.job_graph.specs.Meaning.{Meaning}
use Rattle.job_graph.specs.Rounds.{IsDue}
use Rattle.job_graph.specs.Histories.{out_of}

-- each worker holds the job that it has out, and what that job reads
pub record IsHeld {Id V : Type 0} (same : Id → Id → Bool) (plan : Meaning Id V) (workers : ℕ)
    (events : List (Event Id)) (hands : List (Option (Id × List (Id × Plain V)))) : Type 0 where
  pub outs : map (option_map (λ hand. hand.0)) hands ≡ out_of workers events
  pub due : All (λ hand. IfSome hand (λ h. IsDue same plan h.0 h.1)) hands
