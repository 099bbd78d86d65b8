-- What becomes of an agenda as jobs find their places.
use Rattle.std.proofs.Common.{◌≡◌, ℕ, ◌+◌, ◌-◌, ◌<◌, ◌≤◌, Bool, true, false, ◌⊎◌, inl, inr, List}
use Rattle.std.proofs.Common.{[], ◌∷◌, ◌++◌, length, take, drop, Option, Some, None, is_some, refl}
use Rattle.std.proofs.Common.{sym, ap, ◌∙◌, subst, get_or, nat_eq, arith}
use Rattle.std.specs.Prelude.{slice_get, slice_set, option_map, Result, Ok, Err, OnOk, vec_len}
use Rattle.std.specs.Option.{option_to_list}
use Rattle.std.specs.List.{list_all}
use Rattle.std.specs.declared.cmp.Ordering.{Ordering}
use Rattle.std.specs.declared.vec.Vec.{Vec}
use Rattle.std.specs.declared.alloc.Global.{Global}
use Rattle.std.proofs.lemmas.Bool.{false≢true, false_from_ne_true, cases_lt, cases_Bool, eq-eqb}
use Rattle.std.proofs.lemmas.List.{length-append, length-set, take-append-drop, take_all, take_more}
use Rattle.std.proofs.lemmas.Option.{same_Some, get_or_from_slice_get, slice_get-get_or}
use Rattle.access_context.specs.declared.access.Spec.{Spec}
use Rattle.access_context.specs.Plain.{Plain}
use Rattle.access_context.specs.Read.{read_of}
use Rattle.job_graph.specs.Rounds.{State, is_settled}
use Rattle.job_graph.specs.Members.{In, In-append_left, In-append_right, In-append_cases}
use Rattle.job_graph.specs.Growth.{some_of, some_is, read_of-append_left, read_of-push_cases}
use Rattle.job_graph.specs.declared.agenda.Agenda.{Agenda}
use Rattle.job_graph.specs.declared.lines.Lines.{Lines}
use Rattle.job_graph.specs.declared.queues.Queues.{Queues}
use Rattle.job_graph.specs.Agenda.{rank_of, is_taken, IsPlaced, taken, queued, waits, Waits}
use Rattle.job_graph.specs.Agenda.{AreWithin, IsQueued, HasJob, IsAgenda}
use Rattle.job_graph.proofs.Run.{get_set_cases}
use Rattle.job_graph.proofs.Ranges.{get_push_cases}

map_some : {X Y : Type 0} (o : Option (X × Y)) (x : X)
    → option_map (λ (item : X × Y). item.0) o ≡ Some x
    → (item : X × Y) × (o ≡ Some item) × (item.0 ≡ x)
map_some None x e = cc
map_some (Some item) x e = (item, refl, same_Some _ _ e)

module _ {Id V : Type 0} (same : Id → Id → Bool) (order : Id → Id → Ordering) (state : State Id V)
    (outs : List (Option Id)) where
  -- where lines keep their jobs, queues theirs, and the told values are no more
  moved : (a b : Agenda Id) → ((number : ℕ) (id : Id)
      → Waits order a.lines.places a.lines.lines.items number id
      → Waits order b.lines.places b.lines.lines.items number id)
      → ((rank : ℕ) (id : Id) (number : ℕ) → IsQueued order a.queues.queues.items rank id number
      → HasJob order b.queues.queues.items rank id) → b.told ≡ a.told
      → {number : ℕ} {job : Spec Id} → IsPlaced same order state outs a.lines.places
      a.lines.lines.items a.queues.queues.items
      a.told number job
      → IsPlaced same order state outs b.lines.places b.lines.lines.items b.queues.queues.items
      b.told number job
  moved a b lines queues told (taken number job t) = taken number job t
  moved a b lines queues told (queued number job q) = queued number job
      (queues (rank_of job.access.awaits) job.id q.0 q.1)
  moved a b lines queues told (waits number job read i w u) = waits number job read i
      (lines number read w)
      (ap (λ k. is_some (read_of same (take k state.values) read)) told ∙ u)

  module _ (a : Agenda Id) (ag : IsAgenda same order state outs a) where
    -- a job joined a queue, or tried to
    pub agenda_queued : (q : Queues Id) (number : ℕ) (job : Spec Id)
        → slice_get state.jobs number ≡ Some job
        → list_all (is_settled same state) job.access.reads ≡ true
        → is_taken same state outs job.id ≡ false
        → ((rank : ℕ) (id : Id) (n : ℕ) → IsQueued order a.queues.queues.items rank id n
        → HasJob order q.queues.items rank id)
        → ((rank : ℕ) (id : Id) (n : ℕ) → IsQueued order q.queues.items rank id n
        → IsQueued order a.queues.queues.items rank id n
        ⊎ ((rank ≡ rank_of job.access.awaits) × (same job.id id ≡ true) × (n ≡ number)))
        → (a.queues.used ≤ q.used) → rank_of job.access.awaits < q.used → q.used ≤ 257
        → length q.queues.items ≡ length a.queues.queues.items
        → IsAgenda same order state outs (record a { queues = q })
    agenda_queued q number job there reads free kept others used here small count = record {
      identity = ag.identity;
      placed = λ n j lt at. elim (ag.placed n j lt at) [
        | inl wakes ↦ inl wakes
        | inr p ↦ inr (moved a (record a { queues = q }) (λ n id w. w) kept refl p)
      ];
      sound = record {
        queued = λ rank id n i. elim (others rank id n i) [
          | inl old ↦ ag.sound.queued rank id n old
          | inr new ↦ record {
            job = job;
            there = ap (slice_get state.jobs) new.2 ∙ there;
            named = ag.identity job.id id new.1;
            ranked = sym new.0;
            reads = reads;
            free = subst (λ k. is_taken same state outs k ≡ false)
                (ag.identity job.id id new.1) free;
          }
        ];
        used_all = λ rank id n i. elim (others rank id n i) [
          | inl old ↦ (let lt = ag.sound.used_all rank id n old in omega arith)
          | inr new ↦ omega (arith, new.0)
        ];
        read = ag.sound.read;
      };
      within = ag.within;
      queues = count ∙ ag.queues;
      used = small;
      seen = ag.seen;
      told = ag.told;
    }

    -- lines with more jobs
    pub agenda_lines : (l : Lines Id) → AreWithin order l.places l.lines.items
        → ((number : ℕ) (id : Id) → Waits order a.lines.places a.lines.lines.items number id
        → Waits order l.places l.lines.items number id)
        → IsAgenda same order state outs (record a { lines = l })
    agenda_lines l within kept = record {
      identity = ag.identity;
      placed = λ n j lt at. elim (ag.placed n j lt at) [
        | inl wakes ↦ inl wakes
        | inr p ↦ inr (moved a (record a { lines = l }) kept (λ rank id n i. (n, i)) refl p)
      ];
      sound = ag.sound;
      within = within;
      queues = ag.queues;
      used = ag.used;
      seen = ag.seen;
      told = ag.told;
    }

    -- of one job more is known
    pub agenda_read : (cursors : Vec ℕ Global) (number read : ℕ) (job : Spec Id)
        → slice_get state.jobs number ≡ Some job
        → list_all (is_settled same state) (take read job.access.reads) ≡ true
        → cursors.items ≡ slice_set a.cursors.items number read
        → IsAgenda same order state outs (record a { cursors = cursors })
    agenda_read cursors number read job there settled is =
        let n : length cursors.items ≡ length a.cursors.items
        = ap length is ∙ length-set a.cursors.items number read in
        record {
          identity = ag.identity;
          placed = λ k j lt at. ag.placed k j (omega (arith, n, lt)) at;
          sound = record {
            queued = ag.sound.queued;
            used_all = ag.sound.used_all;
            read = λ k cursor j at c. elim (get_set_cases a.cursors.items number k read cursor
                (ap (λ xs. slice_get xs k) (sym is) ∙ c)) [
                  | inl here ↦
                      let is_job : job ≡ j = same_Some _ _ (sym there
                      ∙ ap (slice_get state.jobs) here.0 ∙ at) in
                      subst (λ m. list_all (is_settled same state) (take m j.access.reads) ≡ true)
                      here.1 (subst (λ (t : Spec Id). list_all (is_settled same state)
                      (take read t.access.reads) ≡ true) is_job settled)
                  | inr other ↦ ag.sound.read k cursor j at other.1
                ];
          };
          within = ag.within;
          queues = ag.queues;
          used = ag.used;
          seen = (let s = ag.seen in omega (arith, n));
          told = ag.told;
        }

    -- one job found its place
    pub agenda_woken : (waking : Vec ℕ Global) (number : ℕ)
        → a.waking.items ≡ waking.items ++ number ∷ []
        → ((job : Spec Id) → number < length a.cursors.items
        → slice_get state.jobs number ≡ Some job
        → IsPlaced same order state outs a.lines.places a.lines.lines.items a.queues.queues.items
        a.told number job)
        → IsAgenda same order state outs (record a { waking = waking })
    agenda_woken waking number is placed = record {
      identity = ag.identity;
      placed = λ k j lt at. elim (ag.placed k j lt at) [
        | inl wakes ↦ elim (In-append_cases waking.items (number ∷ []) k
            (subst (λ (xs : List ℕ). In k xs) is wakes)) [
              | inl still ↦ inl still
              | inr last ↦ elim last [
                | inl e ↦ inr (subst (λ m. IsPlaced same order state outs a.lines.places
                    a.lines.lines.items a.queues.queues.items a.told m j) e
                    (placed j (omega (arith, e, lt)) (ap (slice_get state.jobs) e ∙ at)))
                | inr none ↦ absurd none
              ]
            ]
        | inr p ↦ inr p
      ];
      sound = ag.sound;
      within = ag.within;
      queues = ag.queues;
      used = ag.used;
      seen = ag.seen;
      told = ag.told;
    }

    -- room for more
    pub agenda_same : (waking cursors : Vec ℕ Global) → waking.items ≡ a.waking.items
        → cursors.items ≡ a.cursors.items
        → IsAgenda same order state outs (record a { waking = waking; cursors = cursors })
    agenda_same waking cursors ws cs =
        let n : length cursors.items ≡ length a.cursors.items = ap length cs in
        record {
          identity = ag.identity;
          placed = λ k j lt at. elim (ag.placed k j (omega (arith, n, lt)) at) [
            | inl wakes ↦ inl (subst (λ (xs : List ℕ). In k xs) (sym ws) wakes)
            | inr p ↦ inr p
          ];
          sound = record {
            queued = ag.sound.queued;
            used_all = ag.sound.used_all;
            read = λ k cursor j at c. ag.sound.read k cursor j at
                (ap (λ xs. slice_get xs k) (sym cs) ∙ c);
          };
          within = ag.within;
          queues = ag.queues;
          used = ag.used;
          seen = (let s = ag.seen in omega (arith, n));
          told = ag.told;
        }

    -- one more job
    pub agenda_admitted : (waking cursors : Vec ℕ Global) (number : ℕ)
        → number ≡ length a.cursors.items → length a.cursors.items < length state.jobs
        → waking.items ≡ a.waking.items ++ number ∷ [] → cursors.items ≡ a.cursors.items ++ 0 ∷ []
        → IsAgenda same order state outs (record a { waking = waking; cursors = cursors })
    agenda_admitted waking cursors number e more ws cs =
        let n : length cursors.items ≡ length a.cursors.items + 1
        = ap length cs ∙ length-append a.cursors.items (0 ∷ []) in
        record {
          identity = ag.identity;
          placed = λ k j lt at. elim (cases_lt k (length a.cursors.items)) [
            | inl old ↦ elim (ag.placed k j old at) [
              | inl wakes ↦ inl (subst (λ (xs : List ℕ). In k xs) (sym ws)
                  (In-append_left a.waking.items (number ∷ []) k wakes))
              | inr p ↦ inr p
            ]
            | inr new ↦ inl (subst (λ (xs : List ℕ). In k xs) (sym ws)
                (In-append_right a.waking.items (number ∷ []) k (inl (omega (arith, n, lt)))))
          ];
          sound = record {
            queued = ag.sound.queued;
            used_all = ag.sound.used_all;
            read = λ k cursor j at c. elim (get_push_cases a.cursors.items 0 cursor k
                (ap (λ xs. slice_get xs k) (sym cs) ∙ c)) [
                  | inl old ↦ ag.sound.read k cursor j at old
                  | inr new ↦ ap (λ m. list_all (is_settled same state) (take m j.access.reads))
                      (sym new.1)
                ];
          };
          within = ag.within;
          queues = ag.queues;
          used = ag.used;
          seen = omega (arith, n, more);
          told = ag.told;
        }

    -- one more value
    pub agenda_told : (l : Lines Id) (waking : Vec ℕ Global) (told : ℕ) (id : Id)
        → AreWithin order l.places l.lines.items → told ≡ a.told + 1
        → a.told < length state.values
        → option_map (λ (item : Id × Plain V). item.0) (slice_get state.values a.told) ≡ Some id
        → a.waking.items ≡ []
        → ((number : ℕ) → Waits order a.lines.places a.lines.lines.items number id
        → In number waking.items)
        → ((number : ℕ) (q : Id) → Waits order a.lines.places a.lines.lines.items number q
        → Waits order l.places l.lines.items number q ⊎ In number waking.items)
        → IsAgenda same order state outs (record a { lines = l; waking = waking; told = told })
    agenda_told l waking told id within is more named awake left kept = record {
      identity = ag.identity;
      placed = λ k j lt at. elim (ag.placed k j lt at) [
        | inl wakes ↦ absurd (subst (λ (xs : List ℕ). In k xs) awake wakes)
        | inr p ↦ told_place p
      ];
      sound = ag.sound;
      within = within;
      queues = ag.queues;
      used = ag.used;
      seen = ag.seen;
      told = omega (arith, is, more);
    }
      where
        now_told : (read : Id) → is_some (read_of same (take a.told state.values) read) ≡ false
            → is_some (read_of same (take told state.values) read) ≡ true → id ≡ read
        now_told read u now =
            let it = map_some (slice_get state.values a.told) id named in
            let item = it.0 in
            let e : take told state.values ≡ take a.told state.values ++ (item.0, item.1) ∷ []
            = ap (λ k. take k state.values) is ∙ take_more state.values a.told item more
            ∙ ap (λ (x : Id × Plain V). take a.told state.values ++ x ∷ [])
            (get_or_from_slice_get state.values a.told item item it.1) in
            let v = some_of _ now in
            elim (read_of-push_cases same (take a.told state.values) item.0 read item.1 v.0
            (sym (ap (λ vs. read_of same vs read) e) ∙ v.1)) [
              | inl old ↦ absurd (false≢true (sym u ∙ some_is _ _ old))
              | inr new ↦ sym it.2 ∙ ag.identity item.0 read new.0
            ]

        told_place : {number : ℕ} {job : Spec Id} → IsPlaced same order state outs a.lines.places
            a.lines.lines.items a.queues.queues.items a.told number job
            → In number waking.items ⊎ IsPlaced same order state outs l.places l.lines.items
            a.queues.queues.items told number job
        told_place (taken number job t) = inr (taken number job t)
        told_place (queued number job q) = inr (queued number job q)
        told_place (waits number job read i w u) = elim (kept number read w) [
          | inr wakes ↦ inl wakes
          | inl still ↦ elim (cases_Bool (is_some (read_of same (take told state.values) read))) [
            | inr unread ↦ inr (waits number job read i still unread)
            | inl now ↦ inl (left number (subst (λ q. Waits order a.lines.places
                a.lines.lines.items number q) (sym (now_told read u now)) w))
          ]
        ]

  -- what isn't settled wasn't told
  pub untold : (told : ℕ) (read : Id) → is_settled same state read ≡ false
      → is_some (read_of same (take told state.values) read) ≡ false
  untold told read e = false_from_ne_true _ (λ t.
      let s = some_of _ t in
      let all : take told state.values ++ drop told state.values ≡ state.values
      = take-append-drop told state.values in
      false≢true (sym e ∙ ap (λ vs. is_some (read_of same vs read)) (sym all)
      ∙ some_is _ s.0 (read_of-append_left same (take told state.values)
      (drop told state.values) read s.0 s.1)))

  -- where the job with this number stands
  module _ (b : Agenda Id) (number : ℕ) (job : Spec Id)
      (there : slice_get state.jobs number ≡ Some job) where
    Stands : Spec Id → Type 0
    Stands j = IsPlaced same order state outs b.lines.places b.lines.lines.items
        b.queues.queues.items b.told number j

    it : (j : Spec Id) → slice_get state.jobs number ≡ Some j → job ≡ j
    it j at = same_Some _ _ (sym there ∙ at)

    pub stands_taken : is_taken same state outs job.id ≡ true → (j : Spec Id)
        → slice_get state.jobs number ≡ Some j → IsPlaced same order state outs b.lines.places
        b.lines.lines.items b.queues.queues.items b.told number j
    unfolding Stands
    stands_taken t j at = subst Stands (it j at) (taken number job t)

    pub stands_queued : HasJob order b.queues.queues.items (rank_of job.access.awaits) job.id
        → (j : Spec Id) → slice_get state.jobs number ≡ Some j
        → IsPlaced same order state outs b.lines.places b.lines.lines.items b.queues.queues.items
        b.told number j
    unfolding Stands
    stands_queued q j at = subst Stands (it j at) (queued number job q)

    pub stands_waits : (read : Id) → In read job.access.reads
        → Waits order b.lines.places b.lines.lines.items number read
        → is_settled same state read ≡ false → (j : Spec Id) → slice_get state.jobs number ≡ Some j
        → IsPlaced same order state outs b.lines.places b.lines.lines.items b.queues.queues.items
        b.told number j
    unfolding Stands
    stands_waits read i w u j at = subst Stands (it j at)
        (waits number job read i w (untold b.told read u))

pub there_is : {X : Type 0} (xs : List X) (i : ℕ) (x : X) → i < length xs → x ≡ get_or xs i x
    → slice_get xs i ≡ Some x
there_is xs i x lt is = slice_get-get_or xs i x lt ∙ ap Some (sym is)

-- all of a list that is known as far as it goes
pub all_known : {X : Type 0} (p : X → Bool) (xs : List X) (n : ℕ) → length xs ≤ n
    → list_all p (take n xs) ≡ true → list_all p xs ≡ true
all_known p xs n le e = ap (list_all p) (sym (take_all n xs le)) ∙ e

-- what holds where there was memory
pub on_ok : {T E : Type 0} (r : Result T E) (P Q : Type 0) → (P → Q) → OnOk r P → OnOk r Q
on_ok (Ok x) P Q f p = f p
on_ok (Err e) P Q f p = tt

-- the last item is the one that was read
pub last_read : (old new : Vec ℕ Global) (rest : List ℕ) (popped : Option ℕ) (number len : ℕ)
    → new ≡ old → len ≡ vec_len old → number ≡ get_or old.items (len - 1) number
    → 0 < vec_len new
    → ((d : ℕ) → 0 < vec_len new → popped ≡ Some (get_or new.items (vec_len new - 1) d))
    → new.items ≡ rest ++ option_to_list popped → new.items ≡ rest ++ number ∷ []
last_read old new rest popped number len same at read pos value items =
    let is : popped ≡ Some number = value number pos
    ∙ ap (λ (v : Vec ℕ Global). Some (get_or v.items (vec_len v - 1) number)) same
    ∙ ap (λ n. Some (get_or old.items (n - 1) number)) (sym at) ∙ ap Some (sym read) in
    items ∙ ap (λ o. rest ++ option_to_list o) is

pub not_empty : (n : ℕ) (b : Bool) → b ≡ nat_eq n 0 → b ≡ false → 0 < n
not_empty n b is e = elim (cases_lt 0 n) [
  | inl lt ↦ lt
  | inr none ↦ absurd (false≢true (sym e ∙ is ∙ eq-eqb n 0 (omega arith)))
]
