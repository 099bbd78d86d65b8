-- Glyphs have bases, and those have theirs. Which glyphs come to an end: those that lead to no
-- cycle,
-- and to none that isn't read. fontc's own.
use Rattle.std.proofs.Common.{◌≡◌, ℕ, zero, suc, ◌≤◌, Bool, true, false, ◌⊎◌, inl, inr, List, []}
use Rattle.std.proofs.Common.{◌∷◌, length, refl, sym, ap, ◌∙◌, subst, arith}
use Rattle.std.specs.Prelude.{◌&&◌}
use Rattle.std.specs.List.{list_all}
use Rattle.std.proofs.lemmas.Bool.{false≢true, and_parts, and_from, cases_Bool}
use Rattle.job_graph.specs.Members.{In, list_all-In, list_all-from}

-- ---- lists

-- a list without one of its items
without : {X : Type 0} (xs : List X) (x : X) → In x xs → List X
without [] x i = []
without (y ∷ xs) x i = elim i [ inl e ↦ xs | inr j ↦ y ∷ without xs x j ]

without_length : {X : Type 0} (xs : List X) (x : X) (i : In x xs)
    → suc (length (without xs x i)) ≡ length xs
unfolding without
without_length [] x i = absurd i
without_length (y ∷ xs) x (inl e) = refl
without_length (y ∷ xs) x (inr j) = ap suc (without_length xs x j)

-- the others are still there
without_others : {X : Type 0} (xs : List X) (x : X) (i : In x xs) (other : X) → In other xs
    → (x ≡ other) ⊎ In other (without xs x i)
unfolding without
without_others [] x i other j = absurd i
without_others (y ∷ xs) x (inl e) other (inl f) = inl (sym e ∙ f)
without_others (y ∷ xs) x (inl e) other (inr j) = inr j
without_others (y ∷ xs) x (inr i) other (inl f) = inr (inl f)
without_others (y ∷ xs) x (inr i) other (inr j) = elim (without_others xs x i other j) [
  | inl e ↦ inl e
  | inr k ↦ inr (inr k)
]

nothing_in : {X : Type 0} (xs : List X) (x : X) → length xs ≤ 0 → In x xs → ⊥
nothing_in [] x short i = i
nothing_in (y ∷ xs) x short i = absurd (omega (arith, short))

one_fails : {X : Type 0} (test : X → Bool) (xs : List X) → list_all test xs ≡ false
    → (x : X) × In x xs × (test x ≡ false)
one_fails test [] e = absurd (false≢true (sym e))
one_fails test (y ∷ xs) e = elim (cases_Bool (test y)) [
  | inl holds ↦
      let rest : list_all test xs ≡ false = sym (ap (λ b. b && list_all test xs) holds) ∙ e in
      let m = one_fails test xs rest in
      (m.0, inr m.1, m.2)
  | inr fails ↦ (y, inl refl, fails)
]

module _ (bases : ℕ → List ℕ) (is_read : ℕ → Bool) where
  -- the glyph is read, and so are all glyphs that it leads to, which are less than this many bases
  -- away
  unfoldable pub ends_within : ℕ → ℕ → Bool
  ends_within zero glyph = false
  ends_within (suc depth) glyph = is_read glyph && list_all (ends_within depth) (bases glyph)

  -- from a glyph to its bases, to theirs and so on
  pub data Leads : ℕ → ℕ → Type 0 where
    to_base : (glyph base : ℕ) → In base (bases glyph) → Leads glyph base
    through : (glyph base other : ℕ) → In base (bases glyph) → Leads base other → Leads glyph other

  -- it leads to a glyph that isn't read, or isn't read itself
  pub record LeadsToUnread (glyph : ℕ) : Type 0 where
    pub other : ℕ
    pub leads : (glyph ≡ other) ⊎ Leads glyph other
    pub unread : is_read other ≡ false

  -- it leads to a glyph that leads to itself
  pub record LeadsToCycle (glyph : ℕ) : Type 0 where
    pub other : ℕ
    pub leads : Leads glyph other
    pub again : Leads other other

  -- ---- walks

  leads_on : (glyph other base : ℕ) → Leads glyph other → In base (bases other)
      → Leads glyph base
  leads_on glyph other base (to_base _ _ i) j = through glyph other base i (to_base other base j)
  leads_on glyph other base (through _ first _ i rest) j =
      through glyph first base i (leads_on first other base rest j)

  abbrev IsEndless : ℕ → Type 0
  IsEndless glyph = LeadsToUnread glyph ⊎ LeadsToCycle glyph

  before : (glyph base : ℕ) → In base (bases glyph) → IsEndless base → IsEndless glyph
  before glyph base i (inl u) = inl (record {
    other = u.other;
    leads = inr (elim u.leads [
      | inl e ↦ subst (Leads glyph) e (to_base glyph base i)
      | inr l ↦ through glyph base u.other i l
    ]);
    unread = u.unread;
  })
  before glyph base i (inr c) = inr (record {
    other = c.other;
    leads = through glyph base c.other i c.leads;
    again = c.again;
  })

  -- ---- what ends

  pub none_at_once : (glyph : ℕ) → ends_within zero glyph ≡ true → ⊥
  unfolding ends_within
  none_at_once glyph e = false≢true e

  pub ended_read : (depth glyph : ℕ) → ends_within depth glyph ≡ true → is_read glyph ≡ true
  unfolding ends_within
  ended_read zero glyph e = absurd (false≢true e)
  ended_read (suc depth) glyph e = (and_parts (is_read glyph) _ e).0

  pub ended_base : (depth glyph base : ℕ) → ends_within (suc depth) glyph ≡ true
      → In base (bases glyph) → ends_within depth base ≡ true
  unfolding ends_within
  ended_base depth glyph base e i = list_all-In (ends_within depth) (bases glyph) base
      (and_parts (is_read glyph) _ e).1 i

  pub ended_by : (depth glyph : ℕ) → is_read glyph ≡ true
      → ((base : ℕ) → In base (bases glyph) → ends_within depth base ≡ true)
      → ends_within (suc depth) glyph ≡ true
  unfolding ends_within
  ended_by depth glyph read each = and_from (is_read glyph) _ read
      (list_all-from (ends_within depth) (bases glyph) each)

  -- what ends within some bases ends within one more
  pub ends_later : (depth glyph : ℕ) → ends_within depth glyph ≡ true
      → ends_within (suc depth) glyph ≡ true
  unfolding ends_within
  ends_later zero glyph e = absurd (false≢true e)
  ends_later (suc depth) glyph e = ended_by (suc depth) glyph (ended_read (suc depth) glyph e)
      (λ base i. ends_later depth base (ended_base depth glyph base e i))

  ended_there : (depth glyph other : ℕ) → ends_within (suc depth) glyph ≡ true
      → Leads glyph other → ends_within depth other ≡ true
  unfolding ends_within
  ended_there depth glyph other e (to_base _ _ i) = ended_base depth glyph other e i
  ended_there zero glyph other e (through _ base _ i rest) =
      absurd (false≢true (ended_base zero glyph base e i))
  ended_there (suc depth) glyph other e (through _ base _ i rest) = ends_later depth other
      (ended_there depth base other (ended_base (suc depth) glyph base e i) rest)

  -- it leads to what ends
  pub ended_leads : (depth glyph other : ℕ) → ends_within depth glyph ≡ true → Leads glyph other
      → ends_within depth other ≡ true
  ended_leads depth glyph other e leads = ended_there depth glyph other (ends_later depth glyph e)
      leads

  -- so it leads to no cycle, and to none that isn't read
  pub no_cycle : (depth glyph : ℕ) → ends_within depth glyph ≡ true → Leads glyph glyph → ⊥
  unfolding ends_within
  no_cycle zero glyph e leads = false≢true e
  no_cycle (suc depth) glyph e leads = no_cycle depth glyph
      (ended_there depth glyph glyph e leads) leads

  never_endless : (depth glyph : ℕ) → ends_within depth glyph ≡ true → IsEndless glyph → ⊥
  never_endless depth glyph e (inl u) = false≢true (sym u.unread ∙ elim u.leads [
    | inl is ↦ subst (λ g. is_read g ≡ true) is (ended_read depth glyph e)
    | inr leads ↦ ended_read depth u.other (ended_leads depth glyph u.other e leads)
  ])
  never_endless depth glyph e (inr c) = no_cycle depth c.other
      (ended_leads depth glyph c.other e c.leads) c.again

  -- ---- what doesn't, among so many glyphs

  module _ (all : List ℕ)
      (bases_there : (glyph base : ℕ) → In base (bases glyph) → In base all) where
    -- a walk over glyphs that don't end comes to one that was seen, once no other is left
    walk : (depth : ℕ) (seen left : List ℕ) (glyph : ℕ) → ends_within depth glyph ≡ false
        → length left ≤ depth → ((x : ℕ) → In x all → In x seen ⊎ In x left)
        → ((x : ℕ) → In x seen → Leads x glyph) → In glyph all → IsEndless glyph
    unfolding ends_within
    walk zero seen left glyph e short either led there = elim (either glyph there) [
      | inl s ↦
          inr (record { other = glyph; leads = led glyph s; again = led glyph s })
      | inr l ↦ absurd (nothing_in left glyph short l)
    ]
    walk (suc depth) seen left glyph e short either led there = elim (either glyph there) [
      | inl s ↦
          inr (record { other = glyph; leads = led glyph s; again = led glyph s })
      | inr l ↦ elim (cases_Bool (is_read glyph)) [
        | inl read ↦
            let rest : list_all (ends_within depth) (bases glyph) ≡ false
            = sym (ap (λ b. b && list_all (ends_within depth) (bases glyph)) read) ∙ e in
            let m = one_fails (ends_within depth) (bases glyph) rest in
            let shorter = without_length left glyph l in
            before glyph m.0 m.1
            (walk depth (glyph ∷ seen) (without left glyph l) m.0 m.2
            (omega (arith, short, shorter))
            (λ x i. elim (either x i) [
              | inl s ↦ inl (inr s)
              | inr k ↦ elim (without_others left glyph l x k) [
                | inl is ↦ inl (inl is)
                | inr other ↦ inr other
              ]
            ])
            (λ x i. elim i [
              | inl is ↦ subst (λ y. Leads y m.0) is (to_base glyph m.0 m.1)
              | inr s ↦ leads_on x glyph m.0 (led x s) m.1
            ])
            (bases_there glyph m.0 m.1))
        | inr unread ↦
            inl (record { other = glyph; leads = inl refl; unread = unread })
      ]
    ]

    -- within as many bases as there are glyphs
    abbrev pub ends : ℕ → Bool
    ends glyph = ends_within (suc (length all)) glyph

    pub endless : (glyph : ℕ) → In glyph all → ends glyph ≡ false
        → LeadsToUnread glyph ⊎ LeadsToCycle glyph
    endless glyph there e = walk (suc (length all)) [] all glyph e (omega arith) (λ x i. inr i)
        (λ x i. absurd i) there

    pub ends_not : (glyph : ℕ) → ends glyph ≡ true → LeadsToUnread glyph ⊎ LeadsToCycle glyph → ⊥
    ends_not glyph e not = never_endless (suc (length all)) glyph e not

    -- a glyph that ends does so within as many bases as there are others
    settles : (glyph : ℕ) → In glyph all → ends glyph ≡ true
        → ends_within (length all) glyph ≡ true
    settles glyph there e = elim (cases_Bool (ends_within (length all) glyph)) [
      | inl is ↦ is
      | inr not ↦ absurd (ends_not glyph e
          (walk (length all) [] all glyph not (omega arith) (λ x i. inr i) (λ x i. absurd i) there))
    ]

    -- and so does what ends within any number of them
    pub settled_in : (depth glyph : ℕ) → In glyph all → ends_within depth glyph ≡ true
        → ends glyph ≡ true
    settled_in depth glyph there e = elim (cases_Bool (ends glyph)) [
      | inl is ↦ is
      | inr not ↦ absurd (never_endless depth glyph e (endless glyph there not))
    ]

    -- a glyph ends exactly where it is read and its bases end
    pub base_ends : (glyph base : ℕ) → ends glyph ≡ true → In base (bases glyph)
        → ends_within (length all) base ≡ true
    base_ends glyph base e i = ended_base (length all) glyph base e i

    pub ends_by : (glyph : ℕ) → is_read glyph ≡ true
        → ((base : ℕ) → In base (bases glyph) → ends base ≡ true) → ends glyph ≡ true
    ends_by glyph read each = ended_by (length all) glyph read
        (λ base i. settles base (bases_there glyph base i) (each base i))
