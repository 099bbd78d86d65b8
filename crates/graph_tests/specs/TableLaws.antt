-- A plan that a sound table gives keeps the laws. Plans of tables are fontc's own, for the tests.
use Rattle.std.proofs.Common.{◌≡◌, ℕ, zero, suc, ◌<◌, ◌≤◌, nat_le, nat_eq, true, false, ◌&&◌, List}
use Rattle.std.proofs.Common.{[], ◌∷◌, ◌++◌, map, inl, inr, Option, Some, None, refl, sym, ap, ◌∙◌}
use Rattle.std.proofs.Common.{subst, cond}
use Rattle.std.specs.Prelude.{slice_get, fold}
use Rattle.std.specs.List.{list_all, flat_map, filter}
use Rattle.std.proofs.lemmas.Bool.{and_parts, eqb-true, eq-eqb, leb-true, ltb-true, false≢true}
use Rattle.access_context.specs.declared.access.Spec.{Spec}
use Rattle.access_context.specs.Plain.{Plain, PlainOutcome, Done, Refused, is_done}
use Rattle.access_context.specs.Read.{all_done}
use Rattle.job_graph.specs.Rounds.{State, blocked, is_ready, reads_in, outcome_in, rounds}
use Rattle.job_graph.specs.Laws.{IsLawful}
use Rattle.graph_tests.specs.Tables.{Row, row_stratum, row_access, row_added, row_refuses, is_above}
use Rattle.graph_tests.specs.Tables.{stratum_at, job_at, is_sound_row, is_sound, add_read}
use Rattle.graph_tests.specs.Tables.{refusal_at, outcome_at, table}
use Rattle.job_graph.specs.Members.{In, slice_get-In, In-append_left, In-append_right}
use Rattle.job_graph.specs.Members.{In-append_cases, In-flat_map, list_all-In, In-from_Contains}
use Rattle.job_graph.specs.Members.{Contains-from_In}

In-map : {X Y : Type 0} (f : X → Y) (xs : List X) (y : Y) → In y (map f xs)
    → (x : X) × In x xs × (f x ≡ y)
In-map f [] y h = absurd h
In-map f (x ∷ xs) y h =
    elim h [
      | inl e ↦ (x, inl refl, e)
      | inr i ↦ let m = In-map f xs y i in (m.0, inr m.1, m.2)
    ]

-- the ids that a row adds are in the universe
added_few : (rows : List Row) (id k : ℕ) → In k (row_added (slice_get rows id))
    → In k (flat_map (λ row. row.2) rows)
added_few [] id k i = absurd i
added_few (row ∷ rows) zero k i = In-append_left row.2 (flat_map (λ row. row.2) rows) k i
added_few (row ∷ rows) (suc id) k i = In-append_right row.2 (flat_map (λ row. row.2) rows) k
    (added_few rows id k i)

module _ (opening : List ℕ) (rows : List Row) where
  pub record Known (job : Spec ℕ) : Type 0 where
    pub is : job ≡ job_at rows job.id
    pub few : In job.id (opening ++ flat_map (λ row. row.2) rows)

  known_from : (ids : List ℕ) → ((k : ℕ) → In k ids
      → In k (opening ++ flat_map (λ row. row.2) rows)) → (job : Spec ℕ)
      → In job (map (job_at rows) ids) → Known job
  known_from ids few job i =
      let m = In-map (job_at rows) ids job i in
      subst Known m.2 (record { is = refl; few = few m.0 m.1 })

  abbrev refused_at : ℕ → PlainOutcome ℕ ℕ
  refused_at id = record { value = Refused (refusal_at rows id); added = [] }

  abbrev done_at : ℕ → List (ℕ × Plain ℕ) → PlainOutcome ℕ ℕ
  done_at id reads = record {
    value = Done
        (fold (add_read reads) id (row_access (slice_get rows id)).reads);
    added
        = map (job_at rows) (row_added (slice_get rows id));
  }

  -- a job that is refused adds nothing, and any other has a value
  refused_adds_none : (id : ℕ) (reads : List (ℕ × Plain ℕ))
      → is_done (outcome_at rows id reads).value ≡ false → (outcome_at rows id reads).added ≡ []
  refused_adds_none id reads =
      elim (row_refuses (slice_get rows id))
      as (λ b. is_done (cond b (refused_at id) (done_at id reads)).value ≡ false
      → (cond b (refused_at id) (done_at id reads)).added ≡ []) [
        | true ↦ λ e. refl
        | false ↦ λ e. absurd (false≢true (sym e))
      ]

  added_at : (id : ℕ) (reads : List (ℕ × Plain ℕ)) (job : Spec ℕ)
      → In job (outcome_at rows id reads).added
      → In job (map (job_at rows) (row_added (slice_get rows id)))
  added_at id reads job =
      elim (row_refuses (slice_get rows id))
      as (λ b. In job (cond b (refused_at id) (done_at id reads)).added
      → In job (map (job_at rows) (row_added (slice_get rows id)))) [
        | true ↦ λ i. absurd i
        | false ↦ λ i. i
      ]

  -- only what is done adds, and it adds the jobs of its row
  added_in : (state : State ℕ ℕ) (maker job : Spec ℕ)
      → In job (outcome_in nat_eq (table opening rows) state maker).added
      → In job (map (job_at rows) (row_added (slice_get rows maker.id)))
  added_in state maker job =
      let reads = reads_in nat_eq state maker.access.reads in
      elim (all_done reads) as (λ b. In job
      (cond b ((table opening rows).outcome maker.id reads) blocked).added
      → In job (map (job_at rows) (row_added (slice_get rows maker.id)))) [
        | true ↦ λ i. added_at maker.id reads job i
        | false ↦ λ i. absurd i
      ]

  pub known : (n : ℕ) (job : Spec ℕ) → In job (rounds nat_eq (table opening rows) n).jobs
      → Known job
  known zero job i = known_from opening (λ k j. In-append_left opening
      (flat_map (λ row. row.2) rows) k j) job i
  known (suc n) job i =
      let plan = table opening rows in
      let state = rounds nat_eq plan n in
      elim (In-append_cases state.jobs _ job i) [
        | inl old ↦ known n job old
        | inr new ↦ (let f = In-flat_map (λ m. (outcome_in nat_eq plan state m).added)
            (filter (is_ready nat_eq plan state) state.jobs) job new in
            known_from (row_added (slice_get rows (f.0).id))
            (λ k j. In-append_right opening (flat_map (λ row. row.2) rows) k
            (added_few rows (f.0).id k j)) job (added_in state f.0 job f.2))
      ]

  -- what the test of a row says, where there is one
  added_above : (o : Option Row) → ((row : Row) → o ≡ Some row → is_sound_row rows row ≡ true)
      → (k : ℕ) → In k (row_added o) → row_stratum o ≤ stratum_at rows k
  added_above None sound k i = absurd i
  added_above (Some row) sound k i =
      let p = and_parts (list_all (λ read. nat_le (stratum_at rows read) row.0) row.1.reads)
      (is_above row.0 row.1.awaits && list_all (λ added. nat_le row.0 (stratum_at rows added))
      row.2) (sound row refl) in
      let q = and_parts (is_above row.0 row.1.awaits)
      (list_all (λ added. nat_le row.0 (stratum_at rows added)) row.2) p.1 in
      leb-true _ _ (list_all-In (λ added. nat_le row.0 (stratum_at rows added)) row.2 k q.1 i)

  reads_below : (o : Option Row) → ((row : Row) → o ≡ Some row → is_sound_row rows row ≡ true)
      → (k : ℕ) → In k (row_access o).reads → stratum_at rows k ≤ row_stratum o
  reads_below None sound k i = absurd i
  reads_below (Some row) sound k i =
      let p = and_parts (list_all (λ read. nat_le (stratum_at rows read) row.0) row.1.reads)
      (is_above row.0 row.1.awaits && list_all (λ added. nat_le row.0 (stratum_at rows added))
      row.2) (sound row refl) in
      leb-true _ _ (list_all-In (λ read. nat_le (stratum_at rows read) row.0) row.1.reads k p.0 i)

  awaits_below : (o : Option Row) → ((row : Row) → o ≡ Some row → is_sound_row rows row ≡ true)
      → (k : ℕ) → (row_access o).awaits ≡ Some k → k < row_stratum o
  awaits_below None sound k e = cc
  awaits_below (Some row) sound k e =
      let p = and_parts (list_all (λ read. nat_le (stratum_at rows read) row.0) row.1.reads)
      (is_above row.0 row.1.awaits && list_all (λ added. nat_le row.0 (stratum_at rows added))
      row.2) (sound row refl) in
      let q = and_parts (is_above row.0 row.1.awaits)
      (list_all (λ added. nat_le row.0 (stratum_at rows added)) row.2) p.1 in
      ltb-true _ _ (subst (λ a. is_above row.0 a ≡ true) e q.0)

  pub table_lawful : is_sound rows ≡ true → IsLawful nat_eq (table opening rows)
  table_lawful all =
      let sound : (id : ℕ) (row : Row) → slice_get rows id ≡ Some row
      → is_sound_row rows row ≡ true = λ id row e. list_all-In (is_sound_row rows) rows row all
      (slice_get-In rows id row e) in
      record {
        identity = λ x y. (eqb-true x y, eq-eqb x y);
        quiet = refused_adds_none;
        above_maker = λ n maker job i j.
            let m = In-map (job_at rows) (row_added (slice_get rows maker.id)) job
            (added_in (rounds nat_eq (table opening rows) n) maker job
            (In-from_Contains _ job j)) in
            subst (λ (t : Spec ℕ). stratum_at rows maker.id ≤ stratum_at rows t.id) m.2
            (added_above (slice_get rows maker.id) (sound maker.id) m.0 m.1);
        above_awaited = λ n job k i e. awaits_below (slice_get rows job.id) (sound job.id) k
            (sym (ap (λ (t : Spec ℕ). t.access.awaits) (known n job (In-from_Contains _ job i)).is)
            ∙ e);
        above_reads = λ n job k i j. reads_below (slice_get rows job.id) (sound job.id) k
            (subst (λ (t : Spec ℕ). In k t.access.reads) (known n job (In-from_Contains _ job i)).is
            (In-from_Contains _ k j));
        one_spec = λ n job other i j e. (known n job (In-from_Contains _ job i)).is
            ∙ ap (job_at rows) e ∙ sym (known n other (In-from_Contains _ other j)).is;
        in_universe = λ n job i. Contains-from_In _ job.id
            (known n job (In-from_Contains _ job i)).few;
      }
