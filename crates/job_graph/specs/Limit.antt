-- The rounds are a growth, and end in a state without a ready job.
use Rattle.std.proofs.Common.{◌≡◌, ℕ, zero, suc, ◌+◌, ◌<◌, ◌≤◌, Bool, true, false, ◌⊎◌, inl, inr}
use Rattle.std.proofs.Common.{List, [], ◌∷◌, ◌++◌, map, length, Some, is_some, refl, sym, ap, ◌∙◌}
use Rattle.std.proofs.Common.{subst, cond, arith, append_assoc}
use Rattle.std.specs.List.{list_any, flat_map, filter}
use Rattle.std.proofs.lemmas.Bool.{or_parts, false≢true, cases_Bool, false_from_ne_true}
use Rattle.access_context.specs.declared.access.Spec.{Spec}
use Rattle.access_context.specs.Read.{read_of}
use Rattle.job_graph.specs.Meaning.{Meaning}
use Rattle.job_graph.specs.Rounds.{State, is_settled, is_ready, outcome_in, with_outcomes, round}
use Rattle.job_graph.specs.Rounds.{rounds, limit}
use Rattle.job_graph.specs.Laws.{IsLawful}
use Rattle.job_graph.specs.Histories.{some_ready}
use Rattle.job_graph.specs.Members.{In, In-from_Contains, Contains-from_In, In-filter, list_any-In}
use Rattle.job_graph.specs.Members.{list_any-found}
use Rattle.job_graph.specs.Growth.{Within, within_itself, within_through, settled_within}
use Rattle.job_graph.specs.Growth.{ready_unsettled, settle, within_settle, Grown, begun, grown}
use Rattle.job_graph.specs.Confluence.{nil_append, IsOrderly, orderly_within, below}

-- how many elements pass a test
abbrev pub counted : {X : Type 0} → (X → Bool) → List X → ℕ
counted p [] = 0
counted p (x ∷ xs) = cond (p x) 1 0 + counted p xs

-- a test that more elements pass
pub count_more : {X : Type 0} (p q : X → Bool) (xs : List X) → ((x : X) → p x ≡ true → q x ≡ true)
    → counted p xs ≤ counted q xs
count_more p q [] more = omega arith
count_more p q (x ∷ xs) more =
    let rest = count_more p q xs more in
    elim (p x) as (λ b. p x ≡ b → cond b 1 0 + counted p xs ≤ cond (q x) 1 0 + counted q xs) [
      | true ↦ λ e. subst (λ b. 1 + counted p xs ≤ cond b 1 0 + counted q xs) (sym (more x e))
          (omega arith)
      | false ↦ λ e. omega arith
    ] refl

pub count_one_more : {X : Type 0} (p q : X → Bool) (xs : List X)
    → ((x : X) → p x ≡ true → q x ≡ true) → (x : X) → In x xs → p x ≡ false → q x ≡ true
    → counted p xs < counted q xs
count_one_more p q [] more x i not_p so = absurd i
count_one_more p q (y ∷ ys) more x i not_p so =
    elim i [
      | inl here ↦
          let rest = count_more p q ys more in
          let py : p y ≡ false = ap p here ∙ not_p in
          let qy : q y ≡ true = ap q here ∙ so in
          subst (λ b. cond b 1 0 + counted p ys < cond (q y) 1 0 + counted q ys) (sym py)
          (subst (λ b. 0 + counted p ys < cond b 1 0 + counted q ys) (sym qy) (omega arith))
      | inr there ↦
          let rest = count_one_more p q ys more x there not_p so in
          elim (p y) as (λ b. p y ≡ b → cond b 1 0 + counted p ys < cond (q y) 1 0 + counted q ys) [
            | true ↦ λ e. subst (λ b. 1 + counted p ys < cond b 1 0 + counted q ys) (sym (more y e))
                (omega arith)
            | false ↦ λ e. omega arith
          ] refl
    ]

pub count_all : {X : Type 0} (p : X → Bool) (xs : List X) → counted p xs ≤ length xs
count_all p [] = omega arith
count_all p (x ∷ xs) =
    let rest = count_all p xs in
    elim (p x) as (λ b. cond b 1 0 + counted p xs ≤ length (x ∷ xs))
    [ true ↦ omega arith | false ↦ omega arith ]

filter_none : {X : Type 0} (p : X → Bool) (xs : List X) → list_any p xs ≡ false → filter p xs ≡ []
filter_none p [] e = refl
filter_none p (x ∷ xs) e =
    subst (λ b. cond b (x ∷ filter p xs) (filter p xs) ≡ [])
    (sym (or_parts (p x) (list_any p xs) e).0)
    (filter_none p xs (or_parts (p x) (list_any p xs) e).1)

pub filter-from : {X : Type 0} (p : X → Bool) (xs : List X) (x : X) → In x xs → p x ≡ true
    → In x (filter p xs)
filter-from p [] x i e = absurd i
filter-from p (y ∷ ys) x i e =
    elim (p y) as (λ b. p y ≡ b → In x (cond b (y ∷ filter p ys) (filter p ys))) [
      | true ↦ λ is. elim i [ inl here ↦ inl here | inr there ↦ inr (filter-from p ys x there e) ]
      | false ↦ λ is. elim i [
        | inl here ↦ absurd (false≢true (sym is ∙ (ap p here ∙ e)))
        | inr there ↦ filter-from p ys x there e
      ]
    ] refl

module _ {Id X : Type 0} (same : Id → Id → Bool) where
  read_of-append_some : (xs ys : List (Id × X)) (id : Id) → is_some (read_of same ys id) ≡ true
      → is_some (read_of same (xs ++ ys) id) ≡ true
  read_of-append_some [] ys id e = e
  read_of-append_some (x ∷ xs) ys id e =
      elim (same x.0 id) as (λ b. is_some (cond b (Some x.1) (read_of same (xs ++ ys) id)) ≡ true) [
        | true ↦ refl
        | false ↦ read_of-append_some xs ys id e
      ]

  read_of-map : (value : Spec Id → X) (jobs : List (Spec Id)) (job : Spec Id)
      → same job.id job.id ≡ true → In job jobs
      → is_some (read_of same (map (λ j. (j.id, value j)) jobs) job.id) ≡ true
  read_of-map value [] job e i = absurd i
  read_of-map value (j ∷ jobs) job e i =
      elim (same j.id job.id) as (λ b. same j.id job.id ≡ b
      → is_some (cond b (Some (value j)) (read_of same (map (λ j. (j.id, value j)) jobs)
      job.id)) ≡ true) [
        | true ↦ λ is. refl
        | false ↦ λ is. elim i [
          | inl here ↦ absurd (false≢true (sym is ∙ (ap (λ k. same k.id job.id) here ∙ e)))
          | inr there ↦ read_of-map value jobs job e there
        ]
      ] refl

module _ {Id V : Type 0} (same : Id → Id → Bool) (plan : Meaning Id V) where
  with_none : (by a : State Id V) → with_outcomes same plan by a [] ≡ a
  with_none by a = λ i. record { jobs = nil_append a.jobs i; values = nil_append a.values i }

  one_and_more : (by a : State Id V) (job : Spec Id) (jobs : List (Spec Id))
      → with_outcomes same plan by (settle same plan by a job) jobs
      ≡ with_outcomes same plan by a (job ∷ jobs)
  one_and_more by a job jobs =
      let new = (outcome_in same plan by job).added in
      let more = flat_map (λ j. (outcome_in same plan by j).added) jobs in
      let e : (a.jobs ++ (new ++ [])) ++ more
      ≡ a.jobs ++ (new ++ more) = ap (λ n. (a.jobs ++ n) ++ more) (nil_append new)
      ∙ append_assoc a.jobs new more in
      let f : (a.values ++ (job.id, (outcome_in same plan by job).value) ∷ [])
      ++ map (λ j. (j.id, (outcome_in same plan by j).value)) jobs
      ≡ a.values ++ (job.id, (outcome_in same plan by job).value)
      ∷ map (λ j. (j.id, (outcome_in same plan by j).value)) jobs = append_assoc a.values _ _ in
      λ i. record { jobs = e i; values = f i }

  all_grown : (by : State Id V) → Grown same plan by → (jobs : List (Spec Id))
      → ((job : Spec Id) → In job jobs → In job by.jobs × (is_ready same plan by job ≡ true))
      → (a : State Id V) → Grown same plan a → Within same plan by a
      → Grown same plan (with_outcomes same plan by a jobs)
  all_grown by gby [] ready a ga w = subst (Grown same plan) (sym (with_none by a)) ga
  all_grown by gby (job ∷ jobs) ready a ga w =
      let r = ready job (inl refl) in
      subst (Grown same plan) (one_and_more by a job jobs)
      (all_grown by gby jobs (λ j i. ready j (inr i)) (settle same plan by a job)
      (grown job ga gby w r.0 r.1) (within_through same plan by a (settle same plan by a job) w
      (within_settle same plan by a job)))

  pub rounds_grown : (n : ℕ) → Grown same plan (rounds same plan n)
  rounds_grown zero = begun
  rounds_grown (suc n) =
      let before = rounds same plan n in
      all_grown before (rounds_grown n) (filter (is_ready same plan before) before.jobs)
      (λ job i. In-filter (is_ready same plan before) before.jobs job i) before (rounds_grown n)
      (within_itself same plan before)

  within_round : (by a : State Id V) (jobs : List (Spec Id))
      → Within same plan a (with_outcomes same plan by a jobs)
  within_round by a [] = subst (Within same plan a) (sym (with_none by a))
      (within_itself same plan a)
  within_round by a (job ∷ jobs) =
      subst (Within same plan a) (one_and_more by a job jobs)
      (within_through same plan a (settle same plan by a job) _ (within_settle same plan by a job)
      (within_round by (settle same plan by a job) jobs))

  -- a round without a ready job changes nothing
  pub round_stalled : (a : State Id V) → some_ready same plan a ≡ false → round same plan a ≡ a
  round_stalled a e = ap (with_outcomes same plan a a) (filter_none (is_ready same plan a) a.jobs e)
      ∙ with_none a a

  pub none_ready : (a : State Id V) → some_ready same plan a ≡ false → (job : Spec Id)
      → In job a.jobs → is_ready same plan a job ≡ false
  none_ready a e job i = false_from_ne_true _
      (λ r. false≢true (sym e ∙ list_any-In (is_ready same plan a) a.jobs job i r))

  rounds_stay : (n k : ℕ) → some_ready same plan (rounds same plan n) ≡ false
      → rounds same plan (k + n) ≡ rounds same plan n
  rounds_stay n zero e = let s : 0 + n ≡ n = omega arith in ap (rounds same plan) s
  rounds_stay n (suc k) e =
      let s : suc k + n ≡ suc (k + n) = omega arith in
      let before = rounds_stay n k e in
      ap (rounds same plan) s ∙ ap (round same plan) before ∙ round_stalled (rounds same plan n) e

  module _ (lawful : IsLawful same plan) where
    -- a round with one settles an id more
    round_settles : (n : ℕ) → some_ready same plan (rounds same plan n) ≡ true
        → counted (is_settled same (rounds same plan n)) plan.universe < counted
        (is_settled same (rounds same plan (suc n))) plan.universe
    round_settles n e =
        let before = rounds same plan n in
        let f = list_any-found (is_ready same plan before) before.jobs e in
        let job = f.0 in
        let w : Within same plan before (round same plan before)
        = within_round before before (filter (is_ready same plan before) before.jobs) in
        let in_u : In job.id plan.universe = In-from_Contains plan.universe job.id
        (lawful.in_universe n job (Contains-from_In before.jobs job f.1)) in
        let itself : same job.id job.id ≡ true = (lawful.identity job.id job.id).1 refl in
        let now : is_settled same (round same plan before) job.id ≡ true =
        read_of-append_some same before.values _ job.id
        (read_of-map same (λ j. (outcome_in same plan before j).value)
        (filter (is_ready same plan before) before.jobs) job itself
        (filter-from (is_ready same plan before) before.jobs job f.1 f.2)) in
        count_one_more (is_settled same before) (is_settled same (round same plan before))
        plan.universe (λ id s. settled_within same plan before (round same plan before) w id s)
        job.id in_u (ready_unsettled same plan before job f.2) now

    rounds_go : (n : ℕ) → (some_ready same plan (rounds same plan n) ≡ false)
        ⊎ (n ≤ counted (is_settled same (rounds same plan n)) plan.universe)
    rounds_go zero = inr (omega arith)
    rounds_go (suc n) =
        elim (cases_Bool (some_ready same plan (rounds same plan n))) [
          | inr over ↦ inl (ap (some_ready same plan) (round_stalled (rounds same plan n) over)
              ∙ over)
          | inl more ↦ elim (rounds_go n) [
            | inl over ↦ absurd (false≢true (sym over ∙ more))
            | inr many ↦ (let s = round_settles n more in inr (omega arith))
          ]
        ]

    -- in the limit no job is ready
    pub limit_over : some_ready same plan (limit same plan) ≡ false
    unfolding limit
    limit_over =
        let n = length plan.universe in
        elim (cases_Bool (some_ready same plan (rounds same plan n))) [
          | inr over ↦ over
          | inl more ↦ elim (rounds_go n) [
            | inl over ↦ over
            | inr many ↦
                (let s = round_settles n more in
                let b = count_all (is_settled same (rounds same plan (suc n))) plan.universe in
                absurd (omega arith))
          ]
        ]

    -- it is the first such state, and every later one
    pub limit_first : (n : ℕ) → some_ready same plan (rounds same plan n) ≡ false
        → limit same plan ≡ rounds same plan n
    unfolding limit
    limit_first n e =
        let last = length plan.universe in
        let s : n + last ≡ last + n = omega arith in
        sym (rounds_stay last n limit_over) ∙ ap (rounds same plan) s ∙ rounds_stay n last e

    pub limit_grown : Grown same plan (limit same plan)
    unfolding limit
    limit_grown = rounds_grown (length plan.universe)

    pub limit_orderly : IsOrderly same plan lawful.identity (limit same plan)
    unfolding limit
    limit_orderly =
        let n = length plan.universe in
        let c = rounds same plan n in
        record {
          one = λ job other i j e. lawful.one_spec n job other (Contains-from_In c.jobs job i)
              (Contains-from_In c.jobs other j) e;
          maker = λ job added i r j. lawful.above_maker n job added (Contains-from_In c.jobs job i)
              (Contains-from_In _ added j);
          reads = λ job read i j. lawful.above_reads n job read (Contains-from_In c.jobs job i)
              (Contains-from_In job.access.reads read j);
        }

    -- what no job is ready in, and grew, has all that the limit has; and nothing that grows has
    -- more
    pub below_limit : (a : State Id V) → Grown same plan a → Within same plan a (limit same plan)
    below_limit a ga = below same plan lawful.identity (limit same plan) limit_orderly limit_grown
        (λ job i. none_ready (limit same plan) limit_over job i) a ga

    pub limit_below : (a : State Id V) → Grown same plan a → some_ready same plan a ≡ false
        → Within same plan (limit same plan) a
    limit_below a ga e =
        below same plan lawful.identity a (orderly_within same plan lawful.identity a
        (limit same plan) (below_limit a ga) limit_orderly) ga (λ job i. none_ready a e job i)
        (limit same plan) limit_grown
