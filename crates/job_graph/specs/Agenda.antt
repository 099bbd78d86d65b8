-- What the agenda of a board keeps: of each job that it has seen, whether it is taken, stands in a
-- queue or waits for an item that it reads. It serves the body of a board, and no contract of a
-- public call. fontc's own.
use Rattle.std.specs.Prelude.{◌≡◌, ◌⊎◌, ℕ, zero, suc, ◌<◌, ◌≤◌, Bool, true, false, not, ◌||◌}
use Rattle.std.specs.Prelude.{nat_le, List, [], take, length, Option, Some, None, is_some}
use Rattle.std.specs.Prelude.{slice_get}
use Rattle.std.specs.List.{list_all, list_any}
use Rattle.std.specs.Ordering.{is_gt}
use Rattle.std.specs.BTreeMap as tree
use Rattle.std.specs.BTreeMap.{BTreeMap}
use Rattle.std.specs.declared.cmp.Ordering.{Ordering}
use Rattle.std.specs.declared.vec.Vec.{Vec}
use Rattle.std.specs.declared.alloc.Global.{Global}
use Rattle.access_context.specs.declared.access.Spec.{Spec}
use Rattle.access_context.specs.Plain.{Plain}
use Rattle.access_context.specs.Read.{read_of}
use Rattle.job_graph.specs.Meaning.{Meaning}
use Rattle.job_graph.specs.Rounds.{State, is_settled, awaits_nothing, is_ready, reads_in}
use Rattle.job_graph.specs.Members.{In}
use Rattle.job_graph.specs.declared.queues.Turn.{Turn}
use Rattle.job_graph.specs.declared.agenda.Agenda.{Agenda}

-- the queue of a job, by what it awaits: the first where it awaits nothing
abbrev pub rank_of : Option ℕ → ℕ
rank_of None = 0
rank_of (Some stratum) = suc stratum

-- what the jobs of a queue await
abbrev pub awaited_by : ℕ → Option ℕ
awaited_by zero = None
awaited_by (suc stratum) = Some stratum

-- a worker has this job out
abbrev pub is_out_of : {Id : Type 0} → (Id → Id → Bool) → Id → Option Id → Bool
is_out_of same id None = false
is_out_of same id (Some job) = same job id

-- a job is settled or out
abbrev pub is_taken : {Id V : Type 0} → (Id → Id → Bool) → State Id V → List (Option Id) → Id → Bool
is_taken same state outs id = is_settled same state id || list_any (is_out_of same id) outs

-- a job stands in the line at this place
pub record StandsAt (lines : List (Vec ℕ Global)) (place number : ℕ) : Type 0 where
  pub line : Vec ℕ Global
  pub there : slice_get lines place ≡ Some line
  pub stands : In number line.items

-- no job leaves a line, and no line goes
pub record Joins (old new : List (Vec ℕ Global)) : Type 0 where
  pub count : length old ≤ length new
  pub kept : (place number : ℕ) → StandsAt old place number → StandsAt new place number

-- a job with this number stands in the line of this item
pub record Waits {Id : Type 0} (order : Id → Id → Ordering) (places : BTreeMap Id ℕ)
    (lines : List (Vec ℕ Global)) (number : ℕ) (id : Id) : Type 0 where
  pub place : ℕ
  pub found : tree.get order places id ≡ Some place
  pub stands : StandsAt lines place number

-- each place is that of a line
abbrev pub AreWithin : {Id : Type 0} → (Id → Id → Ordering) → BTreeMap Id ℕ → List (Vec ℕ Global)
    → Type 0
AreWithin {Id} order places lines = (id : Id) (place : ℕ) → tree.get order places id ≡ Some place
    → place < length lines

-- a job with this number stands in a queue under this id
pub record IsQueued {Id : Type 0} (order : Id → Id → Ordering) (queues : List (BTreeMap Id ℕ))
    (rank : ℕ) (id : Id) (number : ℕ) : Type 0 where
  pub queue : BTreeMap Id ℕ
  pub there : slice_get queues rank ≡ Some queue
  pub found : tree.get order queue id ≡ Some number

-- a job stands in a queue under this id
abbrev pub HasJob : {Id : Type 0} → (Id → Id → Ordering) → List (BTreeMap Id ℕ) → ℕ → Id → Type 0
HasJob order queues rank id = (number : ℕ) × IsQueued order queues rank id number

-- no job stands in a queue
abbrev pub AreEmpty : {Id : Type 0} → (Id → Id → Ordering) → List (BTreeMap Id ℕ) → Type 0
AreEmpty {Id} order queues = (rank : ℕ) (queue : BTreeMap Id ℕ) → slice_get queues rank ≡ Some queue
    → (id : Id) → tree.get order queue id ≡ None

module _ {Id V : Type 0} (same : Id → Id → Bool) (order : Id → Id → Ordering) (state : State Id V)
    (outs : List (Option Id)) where
  -- the first so many values count as told: lines of other items aren't woken yet
  module _ (places : BTreeMap Id ℕ) (lines : List (Vec ℕ Global)) (queues : List (BTreeMap Id ℕ))
      (told : ℕ) where
    -- where a job stands
    pub data IsPlaced : ℕ → Spec Id → Type 0 where
      taken : (number : ℕ) (job : Spec Id) → is_taken same state outs job.id ≡ true
          → IsPlaced number job
      queued : (number : ℕ) (job : Spec Id)
          → HasJob order queues (rank_of job.access.awaits) job.id → IsPlaced number job
      waits : (number : ℕ) (job : Spec Id) (read : Id) → In read job.access.reads
          → Waits order places lines number read
          → is_some (read_of same (take told state.values) read) ≡ false → IsPlaced number job

  -- a job that stands in a queue: all that it reads is settled, and it is neither settled nor out
  pub record IsDueAt (rank : ℕ) (id : Id) (number : ℕ) : Type 0 where
    pub job : Spec Id
    pub there : slice_get state.jobs number ≡ Some job
    pub named : job.id ≡ id
    pub ranked : rank_of job.access.awaits ≡ rank
    pub reads : list_all (is_settled same state) job.access.reads ≡ true
    pub free : is_taken same state outs id ≡ false

  -- all that the agenda says is right
  pub record IsSound (queues : List (BTreeMap Id ℕ)) (used : ℕ) (cursors : List ℕ) : Type 0 where
    pub queued : (rank : ℕ) (id : Id) (number : ℕ) → IsQueued order queues rank id number
        → IsDueAt rank id number
    pub used_all : (rank : ℕ) (id : Id) (number : ℕ) → IsQueued order queues rank id number
        → rank < used
    pub read : (number cursor : ℕ) (job : Spec Id) → slice_get state.jobs number ≡ Some job
        → slice_get cursors number ≡ Some cursor
        → list_all (is_settled same state) (take cursor job.access.reads) ≡ true

-- a job doesn't hold up one that awaits this stratum
abbrev pub lets_pass : {Id V : Type 0} → (Id → Id → Bool) → Meaning Id V → State Id V → ℕ → Spec Id
    → Bool
lets_pass same plan state stratum job = not (nat_le (plan.stratum job.id) stratum)
    || is_settled same state job.id

-- so many of the first jobs don't hold up one that awaits this stratum
abbrev pub IsPassed : {Id V : Type 0} → (Id → Id → Bool) → Meaning Id V → State Id V → ℕ → ℕ
    → Type 0
IsPassed same plan state stratum count = (count ≤ length state.jobs)
    × (list_all (lets_pass same plan state stratum) (take count state.jobs) ≡ true)

-- the same of each queue
abbrev pub ArePassed : {Id V : Type 0} → (Id → Id → Bool) → Meaning Id V → State Id V → List ℕ
    → Type 0
ArePassed same plan state passed = (stratum count : ℕ) → slice_get passed (suc stratum) ≡ Some count
    → IsPassed same plan state stratum count

-- no id that stands in one of the queues below this one is below this id, but in those that are
-- held up
abbrev pub IsFirst : {Id V : Type 0} → (Id → Id → Bool) → (Id → Id → Ordering) → Meaning Id V
    → State Id V → List (BTreeMap Id ℕ) → ℕ → Id → Type 0
IsFirst {Id} same order plan state queues below first =
    (rank : ℕ) (id : Id) (number : ℕ) → rank < below → IsQueued order queues rank id number
    → awaits_nothing same plan state (awaited_by rank) ≡ true → is_gt (order first id) ≡ false

-- of the queues below this one: the job with the least id whose queue isn't held up, or none
abbrev pub IsBest : {Id V : Type 0} → (Id → Id → Bool) → (Id → Id → Ordering) → Meaning Id V
    → State Id V → List (BTreeMap Id ℕ) → ℕ → Option (Turn Id) → Type 0
IsBest {Id} same order plan state queues below None =
    (rank : ℕ) (id : Id) (number : ℕ) → rank < below → IsQueued order queues rank id number
    → awaits_nothing same plan state (awaited_by rank) ≡ false
IsBest same order plan state queues below (Some turn) =
    IsQueued order queues turn.queue turn.id turn.number
    × (awaits_nothing same plan state (awaited_by turn.queue) ≡ true)
    × IsFirst same order plan state queues below turn.id

-- the same of one queue
abbrev pub IsBestOf : {Id V : Type 0} → (Id → Id → Bool) → (Id → Id → Ordering) → Meaning Id V
    → State Id V → List (BTreeMap Id ℕ) → ℕ → Option (Turn Id) → Type 0
IsBestOf {Id} same order plan state queues rank None =
    (id : Id) (number : ℕ) → IsQueued order queues rank id number
    → awaits_nothing same plan state (awaited_by rank) ≡ false
IsBestOf {Id} same order plan state queues rank (Some turn) =
    IsQueued order queues turn.queue turn.id turn.number
    × (awaits_nothing same plan state (awaited_by turn.queue) ≡ true)
    × ((id : Id) (number : ℕ) → IsQueued order queues rank id number
    → is_gt (order turn.id id) ≡ false)

-- the answer is one of two, and none only where both are none
abbrev pub IsEither : {X : Type 0} → Option X → Option X → Option X → Type 0
IsEither one other answer = ((answer ≡ one) ⊎ (answer ≡ other))
    × (answer ≡ None → (one ≡ None) × (other ≡ None))

-- neither of two has an id below that of the answer
abbrev pub IsLesser : {Id : Type 0} → (Id → Id → Ordering) → Option (Turn Id) → Option (Turn Id)
    → Option (Turn Id) → Type 0
IsLesser {Id} order one other answer = (first turn : Turn Id) → answer ≡ Some first
    → (one ≡ Some turn) ⊎ (other ≡ Some turn) → is_gt (order first.id turn.id) ≡ false

-- all that an agenda keeps
pub record IsAgenda {Id V : Type 0} (same : Id → Id → Bool) (order : Id → Id → Ordering)
    (state : State Id V) (outs : List (Option Id)) (agenda : Agenda Id) : Type 0 where
  pub identity : (x y : Id) → same x y ≡ true → x ≡ y
  pub placed : (number : ℕ) (job : Spec Id) → number < length agenda.cursors.items
      → slice_get state.jobs number ≡ Some job → In number agenda.waking.items
      ⊎ IsPlaced same order state outs agenda.lines.places agenda.lines.lines.items
      agenda.queues.queues.items agenda.told number job
  pub sound : IsSound same order state outs agenda.queues.queues.items agenda.queues.used
      agenda.cursors.items
  pub within : AreWithin order agenda.lines.places agenda.lines.lines.items
  pub queues : length agenda.queues.queues.items ≡ 257
  pub used : agenda.queues.used ≤ 257
  pub seen : length agenda.cursors.items ≤ length state.jobs
  pub told : agenda.told ≤ length state.values

-- the agenda was told of all jobs and values
pub record IsCurrent {Id V : Type 0} (state : State Id V) (agenda : Agenda Id) : Type 0 where
  pub jobs : length agenda.cursors.items ≡ length state.jobs
  pub values : agenda.told ≡ length state.values
  pub waking : agenda.waking.items ≡ []

-- the agenda was told of nothing
pub record IsNewAgenda {Id : Type 0} (order : Id → Id → Ordering) (agenda : Agenda Id) : Type 0
  where
    pub within : AreWithin order agenda.lines.places agenda.lines.lines.items
    pub empty : AreEmpty order agenda.queues.queues.items
    pub queues : length agenda.queues.queues.items ≡ 257
    pub used : agenda.queues.used ≡ 0
    pub cursors : agenda.cursors.items ≡ []
    pub told : agenda.told ≡ 0

-- of as many jobs and values as before
pub record SameCounts {Id : Type 0} (old new : Agenda Id) : Type 0 where
  pub jobs : length new.cursors.items ≡ length old.cursors.items
  pub told : new.told ≡ old.told

-- the job left its queue, and no other job did
pub record LeftQueue {Id : Type 0} (same : Id → Id → Bool) (order : Id → Id → Ordering)
    (old new : Agenda Id) (turn : Turn Id) : Type 0 where
  pub kept : (rank : ℕ) (id : Id) (number : ℕ)
      → IsQueued order old.queues.queues.items rank id number
      → HasJob order new.queues.queues.items rank id ⊎ (same turn.id id ≡ true)
  pub others : (rank : ℕ) (id : Id) (number : ℕ)
      → IsQueued order new.queues.queues.items rank id number
      → IsQueued order old.queues.queues.items rank id number
      × (rank ≡ turn.queue → same turn.id id ≡ false)
  pub used : new.queues.used ≡ old.queues.used
  pub count : length new.queues.queues.items ≡ length old.queues.queues.items

-- no job is ready that isn't taken
abbrev pub IsNoneLeft : {Id V : Type 0} → (Id → Id → Bool) → Meaning Id V → State Id V
    → List (Option Id) → Type 0
IsNoneLeft {Id} same plan state outs = (job : Spec Id) → In job state.jobs
    → is_ready same plan state job ≡ true → is_taken same state outs job.id ≡ false → ⊥

-- of the jobs that are ready and aren't taken none has an id below this one
abbrev pub IsLeastLeft : {Id V : Type 0} → (Id → Id → Bool) → (Id → Id → Ordering) → Meaning Id V
    → State Id V → List (Option Id) → Id → Type 0
IsLeastLeft {Id} same order plan state outs first = (job : Spec Id) → In job state.jobs
    → is_ready same plan state job ≡ true → is_taken same state outs job.id ≡ false
    → is_gt (order first job.id) ≡ false

-- a job that stands in a queue, is ready and isn't taken, the least of these
pub record IsReadyAt {Id V : Type 0} (same : Id → Id → Bool) (order : Id → Id → Ordering)
    (plan : Meaning Id V) (state : State Id V) (outs : List (Option Id)) (agenda : Agenda Id)
    (turn : Turn Id) : Type 0 where
  pub due : IsDueAt same order state outs turn.queue turn.id turn.number
  pub ready : is_ready same plan state due.job ≡ true
  pub within : turn.queue < length agenda.queues.queues.items
  pub least : IsLeastLeft same order plan state outs turn.id

-- the job that is next: none where none is left
abbrev pub IsTurn : {Id V : Type 0} → (Id → Id → Bool) → (Id → Id → Ordering) → Meaning Id V
    → State Id V → List (Option Id) → Agenda Id → Option (Turn Id) → Type 0
IsTurn same order plan state outs agenda None = IsNoneLeft same plan state outs
IsTurn same order plan state outs agenda (Some turn) =
    IsReadyAt same order plan state outs agenda turn

-- the job that is next, with what it reads
abbrev pub IsNextRun : {Id V : Type 0} → (Id → Id → Bool) → (Id → Id → Ordering) → Meaning Id V
    → State Id V → List (Option Id) → Agenda Id → Option (Turn Id × List (Id × Plain V)) → Type 0
IsNextRun same order plan state outs agenda None = IsNoneLeft same plan state outs
IsNextRun same order plan state outs agenda (Some next) =
    (at : IsReadyAt same order plan state outs agenda next.0)
    × (next.1 ≡ reads_in same state at.due.job.access.reads)
