-- The refusals of a source are those that its jobs fail by, and others that are never the least.
-- Lemmas.
use Rattle.std.proofs.Common.{◌≡◌, ℕ, true, false, cond, ◌⊎◌, inl, inr, List}
use Rattle.std.proofs.Common.{Option, Some, None, Result, Ok, Err, refl, sym, ap, ◌∙◌, subst}
use Rattle.std.specs.Prelude.{option_and_then}
use Rattle.std.specs.declared.cmp.Ordering.TheVariants.{Less}
use Rattle.std.proofs.lemmas.Bool.{false≢true, cases_Bool}
use Rattle.refusal_codes.specs.declared.refusal.Refusal.{Refusal}
use Rattle.refusal_codes.specs.Order.{refusal_cmp}
use Rattle.access_context.specs.declared.access.Spec.{Spec}
use Rattle.access_context.specs.Plain.{Plain, Done, Refused, Blocked, is_done, done_value}
use Rattle.access_context.specs.Read.{all_done}
use Rattle.job_graph.specs.Rounds.{blocked, limit}
use Rattle.job_graph.specs.Members.{In, list_all-In, In-from_Contains}
use Rattle.job_graph.specs.Members.{In-flat_map, flat_map-In, In-append_left, In-append_right}
use Rattle.job_graph.specs.Members.{In-append_cases}
use Rattle.font_graph.specs.Parts.{Parts}
use Rattle.font_graph.specs.Descent.{Leads, to_base, through, LeadsToUnread, LeadsToCycle, endless}
use Rattle.font_graph.specs.Descent.{ends_not}
use Rattle.font_graph.specs.Graph.{Item, as_raw, as_index, outcome, settled, reads_with, numbers}
use Rattle.font_graph.specs.Graph.{all, bases, is_read, is_found, raw_known, index_known, raw_value}
use Rattle.font_graph.specs.Graph.{Reached, by_base, value_of, spec_of, There, plan}
use Rattle.font_graph.specs.Outcomes.{map-In, with_value, items, value, base_there}
use Rattle.font_graph.specs.Solved.{reached_there}
use Rattle.font_graph.specs.PartRefusals.{raw_source, raw_so, refused_by_part}
use Rattle.font_graph.specs.Values.{Source, index_is}
use Rattle.font_graph.specs.Made.{part_done, of_answer}
use Rattle.font_graph.specs.Same.{same_id, identity}
use Rattle.font_graph.specs.Due.{solved}
use Rattle.font_graph.specs.Grounds.{IsFounded, grounded, founded_there, founded_flat}
use Rattle.font_graph.specs.Grounds.{founded_found}
use Rattle.font_graph.specs.Verdicts.{refused, refused_in, ended_value, ended_as, endless_in}
use Rattle.font_graph.specs.Verdicts.{endless_of, refusals_of, refusals}
use Rattle.font_graph.specs.Fails.{EndsNever, IsEndless, Fails, IsLeast, IsLeastFailure}
use Rattle.font_graph.specs.Least.{not_below}
use Rattle.font_graph.specs.declared.ids.JobId.{JobId}
use Rattle.font_graph.specs.declared.ids.JobId.TheVariants as job
use Rattle.font_graph.specs.declared.items.Item.TheVariants as an

module _ (p : Parts) where
  -- ---- what a job that is refused reads

  blocked≢refused : (r : Refusal) → ◌≡◌ {A = Plain (Item p)} Blocked (Refused r) → ⊥
  blocked≢refused r e = cc

  asked : (id : JobId) (reads : List (JobId × Plain (Item p))) (r : Refusal)
      → (settled p same_id id reads).value ≡ Refused r → all_done reads ≡ true
  asked id reads r e =
      elim (all_done reads) as (λ b. (cond b (outcome p same_id id reads) blocked).value ≡ Refused r
      → b ≡ true) [
        | true ↦ λ f. refl
        | false ↦ λ f. absurd (blocked≢refused r f)
      ] e

  pub all_read : (id : JobId) (r : Refusal) → value_of p same_id id ≡ Refused r
      → all_done (items p same_id id) ≡ true
  all_read id r e = asked id (items p same_id id) r (value p same_id id ∙ e)

  pub refused_reads : (id : JobId) (r : Refusal) → value_of p same_id id ≡ Refused r
      → (read : JobId) → In read (reads_with p same_id (numbers p same_id) id)
      → is_done (value_of p same_id read) ≡ true
  refused_reads id r e read there = list_all-In (λ (item : JobId × Plain (Item p)). is_done item.1)
      (items p same_id id) (with_value p same_id read)
      (all_read id r e)
      (map-In (with_value p same_id) (reads_with p same_id (numbers p same_id) id) read there)

  -- ---- what has come of a job in the end

  pub ended_own : (id : JobId) (x : Plain (Item p)) → ended_value p id ≡ Some x
      → There p same_id id × IsFounded p id × (x ≡ value_of p same_id id)
  ended_own id x e = let f = (solved p).values id x e in (founded_there p id f.0, f.0, f.1)

  -- what has its own refusal
  pub refused_ended : (id : JobId) (r : Refusal) → There p same_id id
      → value_of p same_id id ≡ Refused r → ended_value p id ≡ Some (Refused r)
  refused_ended id r there e = (solved p).founded id (grounded p id there (refused_reads id r e))
      ∙ ap Some e

  -- a glyph that is read has contours in the end exactly where it is found
  pub stuck_not_found : (glyph : ℕ) → There p same_id (job.Flat glyph)
      → ended_value p (job.Flat glyph) ≡ None → is_found p same_id glyph ≡ false
  stuck_not_found glyph there e = elim (cases_Bool (is_found p same_id glyph)) [
    | inl is ↦ absurd (none_some (value_of p same_id (job.Flat glyph)) (sym e
        ∙ (solved p).founded (job.Flat glyph) (founded_flat p glyph there.0 is)))
    | inr not ↦ not
  ]
    where
      none_some : (x : Plain (Item p)) → ◌≡◌ {A = Option (Plain (Item p))} None (Some x) → ⊥
      none_some x e = cc

  not_found_stuck : (glyph : ℕ) → is_found p same_id glyph ≡ false
      → ended_value p (job.Flat glyph) ≡ None
  not_found_stuck glyph not = by (ended_value p (job.Flat glyph)) refl
    where
      by : (o : Option (Plain (Item p))) → ended_value p (job.Flat glyph) ≡ o
          → ended_value p (job.Flat glyph) ≡ None
      by None e = e
      by (Some x) e = absurd (false≢true (sym not
          ∙ founded_found p glyph (ended_own (job.Flat glyph) x e).1))

  -- ---- the refusals of a job

  pub refused_is : (v : Plain (Item p)) (r : Refusal) → In r (refused p v) → v ≡ Refused r
  refused_is (Done item) r i = absurd i
  refused_is (Refused s) r i = elim i [ inl e ↦ ap Refused e | inr none ↦ absurd none ]
  refused_is Blocked r i = absurd i

  pub in_some : (o : Option (Plain (Item p))) (r : Refusal) → In r (refused_in p o)
      → o ≡ Some (Refused r)
  in_some None r i = absurd i
  in_some (Some v) r i = ap Some (refused_is v r i)

  pub some_in : (o : Option (Plain (Item p))) (r : Refusal) → o ≡ Some (Refused r)
      → In r (refused_in p o)
  some_in o r e = subst (λ o. In r (refused_in p o)) (sym e) (inl refl)

  -- what stands among the refusals of a glyph without contours
  record Endless (raw : Option p.Raw) (index : Option p.Index) (flat : Option (Plain (Item p)))
      (r : Refusal) : Type 0 where
    its_raw : p.Raw
    its_index : p.Index
    raw_is : raw ≡ Some its_raw
    index_is : index ≡ Some its_index
    flat_is : flat ≡ None
    refusal_is : p.endless its_raw its_index ≡ r

  in_endless : (raw : Option p.Raw) (index : Option p.Index) (flat : Option (Plain (Item p)))
      (r : Refusal) → In r (endless_in p raw index flat) → Endless raw index flat r
  in_endless (Some raw) (Some index) None r i = elim i [
    | inl e ↦ record {
      its_raw = raw;
      its_index = index;
      raw_is = refl;
      index_is = refl;
      flat_is = refl;
      refusal_is = e;
    }
    | inr nothing ↦ absurd nothing
  ]
  in_endless None index flat r i = absurd i
  in_endless (Some raw) None flat r i = absurd i
  in_endless (Some raw) (Some index) (Some x) r i = absurd i

  endless_there : (raw : Option p.Raw) (index : Option p.Index) (flat : Option (Plain (Item p)))
      (r : Refusal) → Endless raw index flat r → In r (endless_in p raw index flat)
  endless_there raw index flat r m =
      subst (λ o. In r (endless_in p o index flat)) (sym m.raw_is)
      (subst (λ o. In r (endless_in p (Some m.its_raw) o flat)) (sym m.index_is)
      (subst (λ o. In r (endless_in p (Some m.its_raw) (Some m.its_index) o)) (sym m.flat_is)
      (inl m.refusal_is)))

  -- a glyph that is read, and whose contours are never drawn
  pub record Stuck (glyph : ℕ) (r : Refusal) : Type 0 where
    pub there : There p same_id (job.Flat glyph)
    pub raw : p.Raw
    pub index : p.Index
    pub raw_is : raw_known p same_id glyph ≡ Some raw
    pub index_is : index_known p same_id ≡ Some index
    pub not_found : is_found p same_id glyph ≡ false
    pub refusal_is : p.endless raw index ≡ r

  -- what was read in the end is what is read
  ended_known : {A : Type 0} (kind : Item p → Option A) (id : JobId) (a : A)
      → ended_as p kind id ≡ Some a
      → (x : Plain (Item p)) × (ended_value p id ≡ Some x)
      × (option_and_then kind (done_value (value_of p same_id id)) ≡ Some a)
  ended_known kind id a e = by (ended_value p id) refl e
    where
      by : (o : Option (Plain (Item p))) → ended_value p id ≡ o
          → option_and_then kind (option_and_then done_value o) ≡ Some a
          → (x : Plain (Item p)) × (ended_value p id ≡ Some x)
          × (option_and_then kind (done_value (value_of p same_id id)) ≡ Some a)
      by None f g = absurd cc
      by (Some x) f g = (
        x,
        f,
        ap (λ v. option_and_then kind (done_value v)) (sym (ended_own id x f).2) ∙ g,
      )

  known_ended : {A : Type 0} (kind : Item p → Option A) (id : JobId) (a : A) → IsFounded p id
      → option_and_then kind (done_value (value_of p same_id id)) ≡ Some a
      → ended_as p kind id ≡ Some a
  known_ended kind id a f e = ap (λ o. option_and_then kind (option_and_then done_value o))
      ((solved p).founded id f) ∙ e

  raw_read : (glyph : ℕ) (raw : p.Raw) → raw_known p same_id glyph ≡ Some raw
      → is_read p same_id glyph ≡ true
  raw_read glyph raw e = by (raw_value p same_id glyph) e
    where
      by : (v : Plain (Item p)) → option_and_then (as_raw p) (done_value v) ≡ Some raw
          → is_done v ≡ true
      by (Done item) f = refl
      by (Refused refusal) f = absurd cc
      by Blocked f = absurd cc

  pub endless_stuck : (glyph : ℕ) (r : Refusal) → In r (endless_of p glyph) → Stuck glyph r
  endless_stuck glyph r i =
      let m = in_endless (ended_as p (as_raw p) (job.Raw glyph)) (ended_as p (as_index p) job.Index)
      (ended_value p (job.Flat glyph)) r i in
      let raw = ended_known (as_raw p) (job.Raw glyph) m.its_raw m.raw_is in
      let index = ended_known (as_index p) job.Index m.its_index m.index_is in
      let there : There p same_id (job.Flat glyph) = (
        (ended_own (job.Raw glyph) raw.0 raw.1).0,
        raw_read glyph m.its_raw raw.2,
      ) in
      record {
        there = there;
        raw = m.its_raw;
        index = m.its_index;
        raw_is = raw.2;
        index_is = index.2;
        not_found = stuck_not_found glyph there m.flat_is;
        refusal_is = m.refusal_is;
      }

  pub stuck_endless : (glyph : ℕ) (r : Refusal) → Stuck glyph r → In r (endless_of p glyph)
  stuck_endless glyph r s = endless_there (ended_as p (as_raw p) (job.Raw glyph))
      (ended_as p (as_index p) job.Index) (ended_value p (job.Flat glyph)) r (record {
        its_raw = s.raw;
        its_index = s.index;
        raw_is = known_ended (as_raw p) (job.Raw glyph) s.raw
            (grounded p (job.Raw glyph) s.there.0 (raw_grounds glyph s.there.1)) s.raw_is;
        index_is = known_ended (as_index p) job.Index s.index
            (grounded p job.Index tt (index_grounds glyph s.there.1)) s.index_is;
        flat_is = not_found_stuck glyph s.not_found;
        refusal_is = s.refusal_is;
      })
    where
      raw_grounds : (glyph : ℕ) → is_read p same_id glyph ≡ true → (read : JobId)
          → In read (reads_with p same_id (numbers p same_id) (job.Raw glyph))
          → is_done (value_of p same_id read) ≡ true
      raw_grounds glyph done = part_done p same_id identity (job.Raw glyph) done

      index_grounds : (glyph : ℕ) → is_read p same_id glyph ≡ true → (read : JobId)
          → In read (reads_with p same_id (numbers p same_id) job.Index)
          → is_done (value_of p same_id read) ≡ true
      index_grounds glyph done = part_done p same_id identity job.Index
          (part_done p same_id identity (job.Raw glyph) done job.Index (inr (inr (inl refl))))

  -- ---- the refusals of all jobs

  own_in : (id : JobId) (r : Refusal) → In r (refused_in p (ended_value p id))
      → In r (refusals_of p id)
  own_in (job.Flat glyph) r i = In-append_left (refused_in p (ended_value p (job.Flat glyph)))
      (endless_of p glyph) r i
  own_in _ r i = i

  in_refusals : (id : JobId) (r : Refusal) → There p same_id id → In r (refusals_of p id)
      → In r (refusals p)
  in_refusals id r there i = flat_map-In (λ (job : Spec JobId). refusals_of p job.id)
      (limit same_id (plan p same_id)).jobs (spec_of p same_id id) r
      (In-from_Contains (limit same_id (plan p same_id)).jobs (spec_of p same_id id)
      ((solved p).all_there id there)) i

  pub own_refusal : (id : JobId) (r : Refusal) → There p same_id id
      → value_of p same_id id ≡ Refused r → In r (refusals p)
  own_refusal id r there e = in_refusals id r there
      (own_in id r (some_in (ended_value p id) r (refused_ended id r there e)))

  pub stuck_refusal : (glyph : ℕ) (r : Refusal) → Stuck glyph r → In r (refusals p)
  stuck_refusal glyph r s = in_refusals (job.Flat glyph) r s.there
      (In-append_right (refused_in p (ended_value p (job.Flat glyph))) (endless_of p glyph) r
      (stuck_endless glyph r s))

  -- each is a job's own, or of a glyph that is stuck
  pub record Own (r : Refusal) : Type 0 where
    pub id : JobId
    pub there : There p same_id id
    pub refused_so : value_of p same_id id ≡ Refused r

  pub own_of : (id : JobId) (r : Refusal) → In r (refused_in p (ended_value p id)) → Own r
  own_of id r i =
      let own = ended_own id (Refused r) (in_some (ended_value p id) r i) in
      record { id = id; there = own.0; refused_so = sym own.2 }

  abbrev pub Cause : Refusal → Type 0
  Cause r = Own r ⊎ ((glyph : ℕ) × Stuck glyph r)

  cause_of : (id : JobId) (r : Refusal) → In r (refusals_of p id) → Cause r
  cause_of (job.Flat glyph) r i = elim
      (In-append_cases (refused_in p (ended_value p (job.Flat glyph))) (endless_of p glyph) r i) [
        | inl own ↦ inl (own_of (job.Flat glyph) r own)
        | inr j ↦ inr (glyph, endless_stuck glyph r j)
      ]
  cause_of id r i = inl (own_of id r i)

  pub cause : (r : Refusal) → In r (refusals p) → Cause r
  cause r i =
      let m = In-flat_map (λ (job : Spec JobId). refusals_of p job.id)
      (limit same_id (plan p same_id)).jobs r i in
      cause_of m.0.id r m.2

  -- ---- a glyph that is stuck

  abbrev Led : ℕ → ℕ → Type 0
  Led glyph other = Leads (bases p same_id) (is_read p same_id) glyph other

  reached_led : (glyph other : ℕ) → Reached p same_id glyph → Led glyph other
      → Reached p same_id other
  reached_led glyph other reached (to_base _ _ i) = by_base glyph other reached i
  reached_led glyph other reached (through _ base _ i rest) =
      reached_led base other (by_base glyph base reached i) rest

  abbrev Ends : ℕ → Type 0
  Ends glyph = LeadsToUnread (bases p same_id) (is_read p same_id) glyph
      ⊎ LeadsToCycle (bases p same_id) (is_read p same_id) glyph

  why : (glyph : ℕ) (r : Refusal) → Stuck glyph r → Ends glyph
  why glyph r s = endless (bases p same_id) (is_read p same_id) (all p same_id)
      (base_there p same_id) glyph (reached_there p same_id glyph s.there.0) s.not_found

  -- a glyph that it leads to isn't read, for a lesser refusal
  pub record Lesser (r : Refusal) : Type 0 where
    pub refusal : Refusal
    pub other : ℕ
    pub fails : Fails p (job.Raw other) refusal
    pub less : refusal_cmp refusal r ≡ Less

  same_index : (a b : p.Index) → ◌≡◌ {A = Option p.Index} (Some a) (Some b) → a ≡ b
  same_index a b e = cc

  lesser_of : (glyph : ℕ) (r : Refusal) → Stuck glyph r → (other : ℕ) → Led glyph other
      → is_read p same_id other ≡ false → Lesser r
  lesser_of glyph r s other leads unread =
      let source = raw_source p glyph s.there.1 in
      by source (same_index s.index source.index (sym s.index_is
      ∙ ap (λ v. option_and_then (as_index p) (done_value v)) (index_is p source)))
      (p.raw source.tree source.header source.index other) refl
    where
      by : (source : Source p) → s.index ≡ source.index → (made : Result p.Raw Refusal)
          → p.raw source.tree source.header source.index other ≡ made → Lesser r
      by source is (Ok raw) e = absurd (false≢true (sym unread
          ∙ ap is_done (of_answer p same_id identity an.Raw
          (p.raw source.tree source.header source.index other) (raw_value p same_id other) raw
          (raw_so p source other) e)))
      by source is (Err refusal) e = record {
        refusal = refusal;
        other = other;
        fails = record {
          there = reached_led glyph other s.there.0 leads;
          refused = inl (refused_by_part p an.Raw
              (p.raw source.tree source.header source.index other) (raw_value p same_id other)
              refusal (raw_so p source other) e);
        };
        less = subst (λ t. refusal_cmp refusal t ≡ Less)
            (ap (λ i. p.endless s.raw i) (sym is) ∙ s.refusal_is)
            (p.endless_last source.tree source.header source.index other refusal s.raw e);
      }

  -- so where no lesser job fails its bases lead to a cycle
  pub stuck_fails : (glyph : ℕ) (r : Refusal) → Stuck glyph r → (Lesser r → ⊥)
      → Fails p (job.Flat glyph) r
  stuck_fails glyph r s least = record {
    there = s.there;
    refused = inr (record {
      raw = s.raw;
      index = s.index;
      raw_is = s.raw_is;
      index_is = s.index_is;
      all_read = read;
      cycle = elim (why glyph r s) [
        | inl u ↦ absurd (elim u.leads [
          | inl e ↦ false≢true (sym u.unread
              ∙ subst (λ g. is_read p same_id g ≡ true) e s.there.1)
          | inr leads ↦ least (lesser_of glyph r s u.other leads u.unread)
        ])
        | inr c ↦ c
      ];
      refusal_is = s.refusal_is;
    });
  }
    where
      read : (other : ℕ) → Led glyph other → is_read p same_id other ≡ true
      read other leads = elim (cases_Bool (is_read p same_id other)) [
        | inl is ↦ is
        | inr not ↦ absurd (least (lesser_of glyph r s other leads not))
      ]

  never_stuck : (glyph : ℕ) (r : Refusal) → There p same_id (job.Flat glyph) → EndsNever p glyph r
      → Stuck glyph r
  never_stuck glyph r there never = record {
    there = there;
    raw = never.raw;
    index = never.index;
    raw_is = never.raw_is;
    index_is = never.index_is;
    not_found = elim (cases_Bool (is_found p same_id glyph)) [
      | inl is ↦ absurd (ends_not (bases p same_id) (is_read p same_id) (all p same_id)
          (base_there p same_id) glyph is (inr never.cycle))
      | inr not ↦ not
    ];
    refusal_is = never.refusal_is;
  }

  -- ---- the least

  endless_refusal : (id : JobId) (r : Refusal) → There p same_id id → IsEndless p id r
      → In r (refusals p)
  endless_refusal (job.Flat glyph) r there e = stuck_refusal glyph r (never_stuck glyph r there e)
  endless_refusal _ r there e = absurd e

  pub fails_refused : (id : JobId) (r : Refusal) → Fails p id r → In r (refusals p)
  fails_refused id r f = elim f.refused [
    | inl own ↦ own_refusal id r f.there own
    | inr e ↦ endless_refusal id r f.there e
  ]

  own_fails : (r : Refusal) (o : Own r) → Fails p o.id r
  own_fails r o = record { there = o.there; refused = inl o.refused_so }

  -- the least refusal is the least by which a job fails
  pub least_fails : (r : Refusal) → IsLeast r (refusals p) → IsLeastFailure p r
  least_fails r l = elim (cause r l.there) [
    | inl own ↦ record {
      id = own.id;
      fails = own_fails r own;
      none_less = λ other s f. l.none_less s (fails_refused other s f);
    }
    | inr m ↦ record {
      id = job.Flat m.0;
      fails = stuck_fails m.0 r m.1 (λ less. l.none_less less.refusal
          (fails_refused (job.Raw less.other) less.refusal less.fails) less.less);
      none_less = λ other s f. l.none_less s (fails_refused other s f);
    }
  ]

  pub failing_least : (r : Refusal) → IsLeastFailure p r → IsLeast r (refusals p)
  failing_least r l = record {
    there = fails_refused l.id r l.fails;
    none_less = λ s i. elim (cause s i) [
      | inl own ↦ l.none_less own.id s (own_fails s own)
      | inr m ↦ λ less. l.none_less (job.Flat m.0) s (stuck_fails m.0 s m.1 (λ lower.
          not_below r lower.refusal s
          (l.none_less (job.Raw lower.other) lower.refusal lower.fails) lower.less less)) less
    ];
  }
