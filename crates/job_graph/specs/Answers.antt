-- What a board answers to a claim, and the board after it. fontc's own.
use Rattle.std.specs.Prelude.{◌≡◌, ℕ, ◌<◌, Bool, true, false, List, [], ◌∷◌, ◌++◌, Contains, Some}
use Rattle.std.specs.List.{list_any}
use Rattle.std.specs.Ordering.{is_lt}
use Rattle.std.specs.declared.cmp.Ordering.{Ordering}
use Rattle.access_context.specs.declared.access.Spec.{Spec}
use Rattle.access_context.specs.Plain.{Plain}
use Rattle.job_graph.specs.declared.event.Event.{Event}
use Rattle.job_graph.specs.declared.event.Event.TheVariants as event
use Rattle.job_graph.specs.declared.event.End.TheVariants as end
use Rattle.job_graph.specs.declared.claim.Claim.{Claim}
use Rattle.job_graph.specs.declared.claim.Claim.TheVariants as claim
use Rattle.job_graph.specs.Meaning.{Meaning}
use Rattle.job_graph.specs.Rounds.{is_ready, reads_in, IsDue}
use Rattle.job_graph.specs.Histories.{has_halted, running, was_claimed, state_of, is_claimable}
use Rattle.job_graph.specs.Histories.{end_of}
use Rattle.job_graph.specs.BoardView.{BoardView, NowHas}

module _ {Id V : Type 0} (same : Id → Id → Bool) (plan : Meaning Id V) where
  -- a ready job that wasn't claimed, with exactly what it reads, each item settled as in the limit
  pub record HandsOut (events : List (Event Id)) (id : Id) (reads : List (Id × Plain V))
      : Type 0 where
    pub job : Spec Id
    pub added : Contains (state_of same plan events).jobs job
    pub named : job.id ≡ id
    pub ready : is_ready same plan (state_of same plan events) job ≡ true
    pub new : was_claimed same events id ≡ false
    pub reads_are : reads ≡ reads_in same (state_of same plan events) job.access.reads
    pub due : IsDue same plan id reads

  -- a ready job wasn't claimed
  abbrev pub some_claimable : List (Event Id) → Bool
  some_claimable events = list_any (is_claimable same plan (state_of same plan events) events)
      (state_of same plan events).jobs

  -- of the jobs that can be claimed, none has an id below this one, by an order of ids
  abbrev pub IsLeast : (Id → Id → Ordering) → List (Event Id) → Id → Type 0
  IsLeast order events id = (job : Spec Id) → Contains (state_of same plan events).jobs job
      → is_claimable same plan (state_of same plan events) events job ≡ true
      → is_lt (order job.id id) ≡ false

  -- a job that is handed out is the least that can be claimed
  abbrev pub IsLeastRun : {P : Type 0} → (Id → Id → Ordering) → List (Event Id) → Claim P Id V
      → Type 0
  IsLeastRun order events (claim.Run id reads) = IsLeast order events id
  IsLeastRun order events (claim.Idle count) = Unit {0}
  IsLeastRun order events claim.Ended = Unit {0}
  IsLeastRun order events claim.Halted = Unit {0}
  IsLeastRun order events claim.NoMemory = Unit {0}

  -- the answer to a worker's claim, and the board after it
  abbrev pub IsAnswer : {P : Type 0} → BoardView P Id → ℕ → Claim P Id V → BoardView P Id → Type 0
  IsAnswer old worker (claim.Run id reads) new = (has_halted old.events ≡ false)
      × HandsOut old.events id reads × (new
      ≡ record old { events = old.events ++ event.Claim worker id ∷ [] })
      × NowHas old new worker (Some id)
  IsAnswer old worker (claim.Idle count) new = (has_halted old.events ≡ false)
      × (some_claimable old.events ≡ false) × (running old.workers old.events ≡ count) × (0 < count)
      × (new ≡ old)
  IsAnswer old worker claim.Ended new = (end_of same plan old.workers old.events ≡ end.Ended)
      × (new ≡ old)
  IsAnswer old worker claim.Halted new = (has_halted old.events ≡ true) × (new ≡ old)
  -- want of memory changes nothing
  IsAnswer old worker claim.NoMemory new = new ≡ old
