-- What becomes of an agenda as a board goes on, and what it tells.
use Rattle.std.proofs.Common.{◌≡◌, ℕ, zero, suc, ◌<◌, Bool, true, false, ◌||◌, ◌⊎◌, inl, inr, List}
use Rattle.std.proofs.Common.{[], ◌∷◌, ◌++◌, length, take, Option, Some, None, is_some, refl, sym}
use Rattle.std.proofs.Common.{ap, ◌∙◌, subst, arith}
use Rattle.std.specs.Prelude.{slice_get, slice_set}
use Rattle.std.specs.List.{list_all, list_any}
use Rattle.std.specs.declared.cmp.Ordering.{Ordering}
use Rattle.std.proofs.Math.Seq.{take-length}
use Rattle.std.proofs.lemmas.Bool.{and_from, or_cases, or_left, or_right, false≢true, cases_Bool}
use Rattle.std.proofs.lemmas.Bool.{false_from_ne_true, not_from_false}
use Rattle.std.proofs.lemmas.List.{length-append, take-append-le}
use Rattle.std.proofs.lemmas.Option.{slice_get_within}
use Rattle.access_context.specs.declared.access.Spec.{Spec}
use Rattle.access_context.specs.Plain.{Plain}
use Rattle.access_context.specs.Read.{read_of}
use Rattle.job_graph.specs.Meaning.{Meaning}
use Rattle.job_graph.specs.Rounds.{State, state_from, is_settled, awaits_nothing, is_ready}
use Rattle.job_graph.specs.Members.{In, slice_get-In, list_all-In, list_all-from, list_any-In}
use Rattle.job_graph.specs.Growth.{none≢some, some_of, some_is, read_of-append_left}
use Rattle.job_graph.specs.Growth.{read_of-push_cases, read_of-push_last, ready_reads, ready_awaits}
use Rattle.job_graph.specs.declared.agenda.Agenda.{Agenda}
use Rattle.job_graph.specs.Histories.{some_ready}
use Rattle.job_graph.specs.declared.lines.Lines.{Lines}
use Rattle.job_graph.specs.declared.queues.Turn.{Turn}
use Rattle.std.specs.declared.vec.Vec.{Vec}
use Rattle.std.specs.declared.alloc.Global.{Global}
use Rattle.job_graph.specs.Agenda.{rank_of, awaited_by, is_out_of, is_taken, IsPlaced, taken}
use Rattle.job_graph.specs.Agenda.{queued, waits, AreWithin, Waits, IsDueAt, IsBest, IsAgenda}
use Rattle.job_graph.specs.Agenda.{IsCurrent, LeftQueue, IsNoneLeft, IsTurn, IsNewAgenda, IsNextRun}
use Rattle.job_graph.specs.Agenda.{ArePassed, lets_pass, HasJob, IsLeastLeft}
use Rattle.job_graph.proofs.Waiting.{get_append}

-- lists

pub get_of_In : {X : Type 0} (xs : List X) (x : X) → In x xs
    → (i : ℕ) × (i < length xs) × (slice_get xs i ≡ Some x)
get_of_In [] x h = absurd h
get_of_In (y ∷ ys) x h = elim h [
  | inl e ↦ (0, omega arith, ap Some e)
  | inr i ↦ (let r = get_of_In ys x i in (suc r.0, omega (arith, r.1), r.2))
]

all_mono : {X : Type 0} (p q : X → Bool) (xs : List X) → ((x : X) → p x ≡ true → q x ≡ true)
    → list_all p xs ≡ true → list_all q xs ≡ true
all_mono p q xs up a = list_all-from q xs (λ x i. up x (list_all-In p xs x a i))

any_set_new : {X : Type 0} (p : X → Bool) (xs : List X) (w : ℕ) (x v : X) → slice_get xs w ≡ Some x
    → p v ≡ true → list_any p (slice_set xs w v) ≡ true
any_set_new p [] w x v e is = cc
any_set_new p (y ∷ ys) zero x v e is = or_left (p v) (list_any p ys) is
any_set_new p (y ∷ ys) (suc w) x v e is = or_right (p y) _ (any_set_new p ys w x v e is)

any_set_old : {X : Type 0} (p : X → Bool) (xs : List X) (w : ℕ) (x v : X) → slice_get xs w ≡ Some x
    → list_any p xs ≡ true → (p x ≡ true) ⊎ (list_any p (slice_set xs w v) ≡ true)
any_set_old p [] w x v e a = cc
any_set_old p (y ∷ ys) zero x v e a =
    let s : y ≡ x = cc in
    elim (or_cases (p y) (list_any p ys) a) [
      | inl h ↦ inl (sym (ap p s) ∙ h)
      | inr t ↦ inr (or_right (p v) (list_any p ys) t)
    ]
any_set_old p (y ∷ ys) (suc w) x v e a =
    elim (or_cases (p y) (list_any p ys) a) [
      | inl h ↦ inr (or_left (p y) _ h)
      | inr t ↦ elim (any_set_old p ys w x v e t) [
        | inl here ↦ inl here
        | inr there ↦ inr (or_right (p y) _ there)
      ]
    ]

any_set_from : {X : Type 0} (p : X → Bool) (xs : List X) (w : ℕ) (v : X)
    → list_any p (slice_set xs w v) ≡ true → (p v ≡ true) ⊎ (list_any p xs ≡ true)
any_set_from p [] w v a = absurd (false≢true a)
any_set_from p (y ∷ ys) zero v a = elim (or_cases (p v) (list_any p ys) a) [
  | inl h ↦ inl h
  | inr t ↦ inr (or_right (p y) (list_any p ys) t)
]
any_set_from p (y ∷ ys) (suc w) v a = elim (or_cases (p y) _ a) [
  | inl h ↦ inr (or_left (p y) (list_any p ys) h)
  | inr t ↦ elim (any_set_from p ys w v t) [
    | inl new ↦ inl new
    | inr old ↦ inr (or_right (p y) (list_any p ys) old)
  ]
]

pub any_at : {X : Type 0} (p : X → Bool) (xs : List X) (w : ℕ) (x : X) → slice_get xs w ≡ Some x
    → p x ≡ true → list_any p xs ≡ true
any_at p [] w x e is = cc
any_at p (y ∷ ys) zero x e is = let s : y ≡ x = cc in or_left (p y) (list_any p ys) (ap p s ∙ is)
any_at p (y ∷ ys) (suc w) x e is = or_right (p y) (list_any p ys) (any_at p ys w x e is)

or_false_parts : (a b : Bool) → (a || b) ≡ false → (a ≡ false) × (b ≡ false)
or_false_parts true b e = absurd (false≢true (sym e))
or_false_parts false b e = (refl, e)

or_false_from : (a b : Bool) → a ≡ false → b ≡ false → (a || b) ≡ false
or_false_from true b e f = absurd (false≢true (sym e))
or_false_from false b e f = f

awaited_back : (awaits : Option ℕ) → awaited_by (rank_of awaits) ≡ awaits
awaited_back None = refl
awaited_back (Some stratum) = refl

module _ {Id V : Type 0} (same : Id → Id → Bool) where
  settled_more : (values more : List (Id × Plain V)) (id : Id)
      → is_some (read_of same values id) ≡ true → is_some (read_of same (values ++ more) id) ≡ true
  settled_more values more id e =
      let s = some_of (read_of same values id) e in
      some_is (read_of same (values ++ more) id) s.0
      (read_of-append_left same values more id s.0 s.1)

  -- a job that is finished was out, and is settled
  module _ (state after : State Id V) (outs : List (Option Id)) (w : ℕ) (id k : Id)
      (value : Plain V)
      (out : slice_get outs w ≡ Some (Some id)) (named : k ≡ id)
      (values : after.values ≡ state.values ++ (k, value) ∷ []) where
    pub finish_up : (q : Id) → is_taken same state outs q ≡ true
        → is_taken same after (slice_set outs w None) q ≡ true
    finish_up q t =
        let settles : is_some (read_of same (state.values ++ (k, value) ∷ []) q) ≡ true
        → is_taken same after (slice_set outs w None) q ≡ true = λ e.
        or_left _ _ (ap (λ vs. is_some (read_of same vs q)) values ∙ e) in
        elim (or_cases _ _ t) [
          | inl s ↦ settles (settled_more state.values _ q s)
          | inr o ↦ elim (any_set_old (is_out_of same q) outs w (Some id) None out o) [
            | inl here ↦ settles (read_of-push_last same state.values k q value
                (ap (λ j. same j q) named ∙ here))
            | inr there ↦ or_right _ _ there
          ]
        ]

    pub finish_down : (q : Id) → is_taken same state outs q ≡ false
        → is_taken same after (slice_set outs w None) q ≡ false
    finish_down q t =
        let p = or_false_parts _ _ t in
        false_from_ne_true _ (λ u. elim (or_cases _ _ u) [
          | inl s ↦ (let v = some_of _ (sym (ap (λ vs. is_some (read_of same vs q)) values) ∙ s) in
              elim (read_of-push_cases same state.values k q value v.0 v.1) [
                | inl old ↦ false≢true (sym p.0 ∙ some_is _ _ old)
                | inr new ↦ false≢true (sym p.1 ∙ any_at (is_out_of same q) outs w (Some id) out
                    (sym (ap (λ j. same j q) named) ∙ new.0))
              ])
          | inr o ↦ elim (any_set_from (is_out_of same q) outs w None o) [
            | inl none ↦ false≢true none
            | inr old ↦ false≢true (sym p.1 ∙ old)
          ]
        ])

  module _ (order : Id → Id → Ordering) where
    -- an agenda over more jobs and values, where the same jobs are taken
    pub agenda_grown : (state : State Id V) (outs outs' : List (Option Id)) (added : List (Spec Id))
        (more : List (Id × Plain V)) (a : Agenda Id) → IsAgenda same order state outs a
        → (after : State Id V) → after.jobs ≡ state.jobs ++ added
        → after.values ≡ state.values ++ more
        → ((id : Id) → is_taken same state outs id ≡ true → is_taken same after outs' id ≡ true)
        → ((id : Id) → is_taken same state outs id ≡ false → is_taken same after outs' id ≡ false)
        → IsAgenda same order after outs' a
    agenda_grown state outs outs' added more a ag after js vs up down =
        let at : (number : ℕ) → number < length state.jobs
        → slice_get after.jobs number ≡ slice_get state.jobs number = λ number lt.
        ap (λ xs. slice_get xs number) js ∙ get_append state.jobs added number lt in
        let settles : (id : Id) → is_settled same state id ≡ true
        → is_settled same after id ≡ true = λ id e.
        ap (λ xs. is_some (read_of same xs id)) vs ∙ settled_more state.values more id e in
        let first : take a.told after.values ≡ take a.told state.values
        = ap (take a.told) vs ∙ take-append-le a.told state.values more ag.told in
        record {
          identity = ag.identity;
          placed = λ number job lt there. elim (ag.placed number job lt
              (sym (at number (omega (arith, ag.seen))) ∙ there)) [
                | inl wakes ↦ inl wakes
                | inr p ↦ inr (placed_grown first p)
              ];
          sound = record {
            queued = λ rank id number q.
                let d = ag.sound.queued rank id number q in
                record {
                  job = d.job;
                  there = at number (slice_get_within state.jobs number d.job d.there) ∙ d.there;
                  named = d.named;
                  ranked = d.ranked;
                  reads = all_mono _ _ d.job.access.reads settles d.reads;
                  free = down id d.free;
                };
            used_all = ag.sound.used_all;
            read = λ number cursor job there c. all_mono _ _ (take cursor job.access.reads) settles
                (ag.sound.read number cursor job
                (sym (at number (let lt = slice_get_within a.cursors.items number cursor c
                in omega (arith, ag.seen))) ∙ there) c);
          };
          within = ag.within;
          queues = ag.queues;
          used = ag.used;
          seen = (let n = ap length js ∙ length-append state.jobs added in omega (arith, ag.seen));
          told = (let n = ap length vs ∙ length-append state.values more in omega (arith, ag.told));
        }
      where
        placed_grown : {number : ℕ} {job : Spec Id}
            → take a.told after.values ≡ take a.told state.values
            → IsPlaced same order state outs a.lines.places a.lines.lines.items
            a.queues.queues.items a.told number job
            → IsPlaced same order after outs' a.lines.places a.lines.lines.items
            a.queues.queues.items a.told number job
        placed_grown first (taken number job t) = taken number job (up job.id t)
        placed_grown first (queued number job q) = queued number job q
        placed_grown first (waits number job read i w u) = waits number job read i w
            (ap (λ xs. is_some (read_of same xs read)) first ∙ u)

    -- an agenda whose job was handed out
    pub agenda_handed : (state : State Id V) (outs : List (Option Id)) (a b : Agenda Id)
        → IsAgenda same order state outs a → (turn : Turn Id) (w : ℕ)
        → slice_get outs w ≡ Some None → IsDueAt same order state outs turn.queue turn.id
        turn.number
        → ((x : Id) → same x x ≡ true)
        → ((i j : ℕ) (job other : Spec Id) → slice_get state.jobs i ≡ Some job
        → slice_get state.jobs j ≡ Some other → job.id ≡ other.id → job ≡ other)
        → b.lines ≡ a.lines → b.waking ≡ a.waking → b.cursors ≡ a.cursors → b.told ≡ a.told
        → LeftQueue same order a b turn
        → IsAgenda same order state (slice_set outs w (Some turn.id)) b
    agenda_handed state outs a b ag turn w out due itself one lines waking cursors told left =
        let up : (id : Id) → is_taken same state outs id ≡ true
        → is_taken same state (slice_set outs w (Some turn.id)) id ≡ true = λ id t.
        elim (or_cases _ _ t) [
          | inl s ↦ or_left _ _ s
          | inr o ↦ elim (any_set_old (is_out_of same id) outs w None (Some turn.id) out o) [
            | inl none ↦ absurd (false≢true none)
            | inr still ↦ or_right _ _ still
          ]
        ] in
        let n : length b.cursors.items ≡ length a.cursors.items
        = ap (λ (v : Vec ℕ Global). length v.items) cursors in
        record {
          identity = ag.identity;
          placed = λ number job lt there. elim (ag.placed number job (omega (arith, n, lt)) there) [
            | inl wakes ↦ inl (subst (λ (v : Vec ℕ Global). In number v.items) (sym waking) wakes)
            | inr p ↦ inr (placed_handed up p)
          ];
          sound = record {
            queued = λ rank id number q.
                let old = left.others rank id number q in
                let d = ag.sound.queued rank id number old.0 in
                record {
                  job = d.job;
                  there = d.there;
                  named = d.named;
                  ranked = d.ranked;
                  reads = d.reads;
                  free = free_still id d.free (other_id rank id number d old.1);
                };
            used_all = λ rank id number q. (let k = left.used
                in let lt = ag.sound.used_all rank id number (left.others rank id number q).0
                in omega arith);
            read = λ number cursor job there c. ag.sound.read number cursor job there
                (ap (λ (v : Vec ℕ Global). slice_get v.items number) (sym cursors) ∙ c);
          };
          within = subst (λ (l : Lines Id). AreWithin order l.places l.lines.items) (sym lines)
              ag.within;
          queues = left.count ∙ ag.queues;
          used = (let k = left.used in let m = ag.used in omega arith);
          seen = (let k = ag.seen in omega (arith, n));
          told = (let k = ag.told in omega (arith, told));
        }
      where
        -- the ids of jobs in queues differ from the one that was handed out
        other_id : (rank : ℕ) (id : Id) (number : ℕ)
            → IsDueAt same order state outs rank id number
            → (rank ≡ turn.queue → same turn.id id ≡ false) → same turn.id id ≡ false
        other_id rank id number d apart = elim (cases_Bool (same turn.id id)) [
          | inr differs ↦ differs
          | inl equal ↦
              let is : d.job ≡ due.job = one number turn.number d.job due.job d.there due.there
              (d.named ∙ sym (ag.identity turn.id id equal) ∙ sym due.named) in
              apart (sym d.ranked ∙ ap (λ (j : Spec Id). rank_of j.access.awaits) is ∙ due.ranked)
        ]

        free_still : (id : Id) → is_taken same state outs id ≡ false → same turn.id id ≡ false
            → is_taken same state (slice_set outs w (Some turn.id)) id ≡ false
        free_still id free differs =
            let p = or_false_parts _ _ free in
            or_false_from _ _ p.0 (false_from_ne_true _ (λ t.
            elim (any_set_from (is_out_of same id) outs w (Some turn.id) t) [
              | inl new ↦ false≢true (sym differs ∙ new)
              | inr old ↦ false≢true (sym p.1 ∙ old)
            ]))

        placed_handed : {number : ℕ} {job : Spec Id}
            → ((id : Id) → is_taken same state outs id ≡ true
            → is_taken same state (slice_set outs w (Some turn.id)) id ≡ true)
            → IsPlaced same order state outs a.lines.places a.lines.lines.items
            a.queues.queues.items a.told number job
            → IsPlaced same order state (slice_set outs w (Some turn.id)) b.lines.places
            b.lines.lines.items b.queues.queues.items b.told number job
        placed_handed up (taken number job t) = taken number job (up job.id t)
        placed_handed up (queued number job q) =
            elim (left.kept (rank_of job.access.awaits) job.id q.0 q.1) [
              | inl still ↦ queued number job still
              | inr same_id ↦ taken number job (or_right _ _
                  (any_set_new (is_out_of same job.id) outs w None (Some turn.id) out same_id))
            ]
        placed_handed up (waits number job read i w' u) = waits number job read i
            (subst (λ (l : Lines Id). Waits order l.places l.lines.items number read) (sym lines)
            w')
            (ap (λ k. is_some (read_of same (take k state.values) read)) told ∙ u)

  module _ (order : Id → Id → Ordering) (plan : Meaning Id V) (state : State Id V)
      (outs : List (Option Id)) (a : Agenda Id) (ag : IsAgenda same order state outs a) where
    -- a job that is ready and isn't taken stands in its queue
    stands : IsCurrent state a → (job : Spec Id) → In job state.jobs
        → is_ready same plan state job ≡ true → is_taken same state outs job.id ≡ false
        → HasJob order a.queues.queues.items (rank_of job.access.awaits) job.id
    stands now job here ready free =
        let n = get_of_In state.jobs job here in
        elim (ag.placed n.0 job (omega (arith, n.1, now.jobs)) n.2) [
          | inl wakes ↦ absurd (subst (λ xs. In n.0 xs) now.waking wakes)
          | inr p ↦ placed_in p ready free
        ]
      where
        all_told : take a.told state.values ≡ state.values
        all_told = ap (λ k. take k state.values) now.values ∙ take-length state.values

        placed_in : {number : ℕ} {job : Spec Id} → IsPlaced same order state outs a.lines.places
            a.lines.lines.items a.queues.queues.items a.told number job
            → is_ready same plan state job ≡ true → is_taken same state outs job.id ≡ false
            → HasJob order a.queues.queues.items (rank_of job.access.awaits) job.id
        placed_in (taken number job t) ready free = absurd (false≢true (sym free ∙ t))
        placed_in (queued number job q) ready free = q
        placed_in (waits number job read i w u) ready free =
            absurd (false≢true (sym u ∙ ap (λ xs. is_some (read_of same xs read)) all_told
            ∙ list_all-In (is_settled same state) job.access.reads read
            (ready_reads same plan state job ready) i))

    -- and its queue isn't held up
    open_of : (job : Spec Id) → is_ready same plan state job ≡ true
        → awaits_nothing same plan state (awaited_by (rank_of job.access.awaits)) ≡ true
    open_of job ready = ap (awaits_nothing same plan state) (awaited_back job.access.awaits)
        ∙ ready_awaits same plan state job ready

    -- no job can be handed out
    pub none_left : IsCurrent state a
        → IsBest same order plan state a.queues.queues.items a.queues.used None
        → IsNoneLeft same plan state outs
    none_left now none job here ready free =
        let q = stands now job here ready free in
        let rank = rank_of job.access.awaits in
        false≢true (sym (none rank job.id q.0 (ag.sound.used_all rank job.id q.0 q.1) q.1)
        ∙ open_of job ready)

    -- no job that can be handed out has an id below that of the best
    least_left : IsCurrent state a → (turn : Turn Id)
        → IsBest same order plan state a.queues.queues.items a.queues.used (Some turn)
        → IsLeastLeft same order plan state outs turn.id
    least_left now turn best job here ready free =
        let q = stands now job here ready free in
        let rank = rank_of job.access.awaits in
        best.2 rank job.id q.0 (ag.sound.used_all rank job.id q.0 q.1) q.1 (open_of job ready)

    -- the job that is handed out is ready, and not taken
    pub best_is : (turn : Turn Id)
        → IsBest same order plan state a.queues.queues.items a.queues.used (Some turn)
        → (due : IsDueAt same order state outs turn.queue turn.id turn.number)
        × (is_ready same plan state due.job ≡ true)
    best_is turn best =
        let due = ag.sound.queued turn.queue turn.id turn.number best.0 in
        let free = or_false_parts _ _ due.free in
        let unsettled : is_settled same state due.job.id ≡ false
        = subst (λ k. is_settled same state k ≡ false) (sym due.named) free.0 in
        let awaits : awaits_nothing same plan state due.job.access.awaits ≡ true
        = ap (awaits_nothing same plan state) (sym (awaited_back due.job.access.awaits)
        ∙ ap awaited_by due.ranked) ∙ best.1 in
        (due, and_from _ _ (not_from_false _ unsettled) (and_from _ _ due.reads awaits))

    -- the job that is next
    pub turn_is : IsCurrent state a → (best : Option (Turn Id))
        → IsBest same order plan state a.queues.queues.items a.queues.used best
        → IsTurn same order plan state outs a best
    turn_is now None b = none_left now b
    turn_is now (Some turn) b =
        let is = best_is turn b in
        record {
          due = is.0;
          ready = is.1;
          within = slice_get_within a.queues.queues.items turn.queue (b.0).queue (b.0).there;
          least = least_left now turn b;
        }

    -- a job stands first, so one is ready
    pub some_is_ready : (turn : Turn Id)
        → IsBest same order plan state a.queues.queues.items a.queues.used (Some turn)
        → some_ready same plan state ≡ true
    some_is_ready turn b =
        let is = best_is turn b in
        list_any-In (is_ready same plan state) state.jobs (is.0).job
        (slice_get-In state.jobs turn.number (is.0).job (is.0).there) is.1

-- where none is ready, none is left
pub none_ready_left : {Id V : Type 0} (same : Id → Id → Bool) (plan : Meaning Id V)
    (state : State Id V) (outs : List (Option Id)) → some_ready same plan state ≡ false
    → IsNoneLeft same plan state outs
none_ready_left same plan state outs e = λ job here ready free.
    false≢true (sym e ∙ list_any-In (is_ready same plan state) state.jobs job here ready)

-- an agenda that was told of nothing
pub agenda_new : {Id V : Type 0} (same : Id → Id → Bool) (order : Id → Id → Ordering)
    (state : State Id V) (outs : List (Option Id)) (a : Agenda Id) → IsNewAgenda order a
    → ((x y : Id) → same x y ≡ true → x ≡ y) → IsAgenda same order state outs a
agenda_new same order state outs a new identity =
    let none : length a.cursors.items ≡ 0 = ap length new.cursors in
    record {
      identity = identity;
      placed = λ number job lt there. absurd (omega (arith, none, lt));
      sound = record {
        queued = λ rank id number q. absurd (none≢some number _
            (new.empty rank q.queue q.there id) q.found);
        used_all = λ rank id number q. absurd (none≢some number _
            (new.empty rank q.queue q.there id) q.found);
        read = λ number cursor job there c. (let lt
            = slice_get_within a.cursors.items number cursor c
            in absurd (omega (arith, none)));
      };
      within = new.within;
      queues = new.queues;
      used = omega (arith, new.used);
      seen = omega (arith, none);
      told = omega (arith, new.told);
    }

-- the same agenda and the same queues, by the lists of a board
module _ {Id V : Type 0} (same : Id → Id → Bool) (order : Id → Id → Ordering) (plan : Meaning Id V)
    (js jobs : List (Spec Id)) (vs values : List (Id × Plain V)) (os outs : List (Option Id))
    (a : js ≡ jobs) (v : vs ≡ values) (o : os ≡ outs) where
  pub agenda_moved : (agenda : Agenda Id) → IsAgenda same order (state_from js vs) os agenda
      → IsAgenda same order (state_from jobs values) outs agenda
  agenda_moved agenda n = subst (λ x. IsAgenda same order (state_from x values) outs agenda) a
      (subst (λ y. IsAgenda same order (state_from js y) outs agenda) v
      (subst (λ z. IsAgenda same order (state_from js vs) z agenda) o n))

  pub passed_moved : (passed : List ℕ) → ArePassed same plan (state_from js vs) passed
      → ArePassed same plan (state_from jobs values) passed
  passed_moved passed n = subst (λ x. ArePassed same plan (state_from x values) passed) a
      (subst (λ y. ArePassed same plan (state_from js y) passed) v n)

  pub run_moved : (agenda : Agenda Id) (next answer : Option (Turn Id × List (Id × Plain V)))
      → next ≡ answer → IsNextRun same order plan (state_from js vs) os agenda next
      → IsNextRun same order plan (state_from jobs values) outs agenda answer
  run_moved agenda next answer e n =
      subst (λ x. IsNextRun same order plan (state_from x values) outs agenda answer) a
      (subst (λ y. IsNextRun same order plan (state_from js y) outs agenda answer) v
      (subst (λ z. IsNextRun same order plan (state_from js vs) z agenda answer) o
      (subst (λ w. IsNextRun same order plan (state_from js vs) os agenda w) e n)))

-- what doesn't hold up a queue never will, where jobs are added at the end
pub passed_grown : {Id V : Type 0} (same : Id → Id → Bool) (plan : Meaning Id V)
    (state after : State Id V) (added : List (Spec Id)) (more : List (Id × Plain V))
    → after.jobs ≡ state.jobs ++ added → after.values ≡ state.values ++ more
    → (passed : List ℕ) → ArePassed same plan state passed → ArePassed same plan after passed
passed_grown same plan state after added more js vs passed old = λ stratum count at.
    let p = old stratum count at in (
      omega (arith, p.0, ap length js, length-append state.jobs added),
      ap (λ xs. list_all (lets_pass same plan after stratum) (take count xs)) js
          ∙ ap (list_all (lets_pass same plan after stratum))
          (take-append-le count state.jobs added p.0)
          ∙ all_mono _ _ (take count state.jobs) (λ job e. elim (or_cases _ _ e) [
            | inl high ↦ or_left _ _ high
            | inr settled ↦ or_right _ _ (ap (λ xs. is_some (read_of same xs job.id)) vs
                ∙ settled_more same state.values more job.id settled)
          ]) p.1,
    )
