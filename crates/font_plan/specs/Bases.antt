-- The glyphs of a source by their numbers, and the bases of a glyph's components among them. fontc's
-- own.
use Rattle.std.proofs.Common.{◌≡◌, ℕ, ◌+◌, Bool, true, false, ◌⊎◌, inl, inr, List, [], ◌∷◌, ◌++◌, map}
use Rattle.std.proofs.Common.{Option, Some, None, Result, Ok, Err, refl, ap, subst, arith}
use Rattle.std.proofs.lemmas.Bool.Decides.{nat_tests}
use Rattle.std.specs.Prelude.{◌↔◌, nat_eq, if◌then◌else◌}
use Rattle.std.specs.Prelude.{IsSome}
use Rattle.std.specs.List.{All, list_any, flat_map}
use Rattle.std.specs.Cmp.Lexicographic.{pointwise}
use Rattle.std.specs.declared.cmp.Ordering.TheVariants.{Less}
use Rattle.refusal_codes.specs.declared.refusal.Refusal.{Refusal}
use Rattle.refusal_codes.specs.declared.rule.Rule.TheVariants.{ComponentCycle}
use Rattle.refusal_codes.specs.declared.first.Failure.{Failure}
use Rattle.refusal_codes.specs.First.{refusal_of, judged}
use Rattle.refusal_codes.specs.Order.{refusal_cmp}
use Rattle.refusal_codes.specs.declared.job.TheConstants.{RAW, FLAT}
use Rattle.font_ir.specs.declared.glyph.Shape.{Shape}
use Rattle.font_ir.specs.declared.glyph.Shape.TheVariants.{Path, Component}
use Rattle.font_ir.specs.declared.glyph.GlyphIr.{GlyphIr}
use Rattle.font_ir.specs.declared.glyph.FlatGlyph.{FlatGlyph}
use Rattle.font_ir.specs.Glyphs.{gid_of}
use Rattle.font_ir.specs.declared.header.Header.{Header}
use Rattle.plist_reader.specs.declared.tree.Tree.{Tree}
use Rattle.glyphs_layers.specs.GlyphReading.{name_in, judged_glyph}
use Rattle.component_flatten.specs.Drawing.{first_shapes}
use Rattle.job_graph.specs.Members.{In, In-append_cases, In-flat_map, list_any-In, list_any-found}
use Rattle.character_codes.specs.CharacterCodes.{Entry}
use Rattle.character_codes.specs.OrderLaws.{first_from, chosen_from}
use Rattle.font_plan.specs.Order.{is_notdef, is_other, others_from, notdef_from, number_of}
use Rattle.font_plan.specs.Order.{numbers_in}

-- ---- numbers

-- the numbers of entries that are numbered from this number on
abbrev pub numbers_from : ℕ → List Entry → List ℕ
numbers_from n [] = []
numbers_from n (entry ∷ index) = n ∷ numbers_from (n + 1) index

-- the numbers of all glyphs
abbrev pub all_in : List Entry → List ℕ
all_in index = numbers_from 0 index

-- whether a glyph goes into the font
abbrev pub is_exported : List Entry → ℕ → Bool
is_exported index glyph = list_any (nat_eq glyph) (numbers_in index)

-- the glyph with this name, with its number, of entries numbered from this number on
abbrev pub named_from : ℕ → List ℕ → List Entry → Option (ℕ × Entry)
named_from n name index = first_from (λ entry. pointwise nat_eq name entry.0) n index

-- ---- bases

-- the base of a component; a path has none
abbrev pub shape_bases : List Entry → Shape → List ℕ
shape_bases index (Path contour) = []
shape_bases index (Component base at scale quarters) = number_of (named_from 0 base index)

-- the bases of a glyph's components, in their order
abbrev pub bases_in : GlyphIr → List Entry → List ℕ
bases_in glyph index = flat_map (shape_bases index) (first_shapes glyph)

-- the base of each component that a glyph keeps is one of these names
abbrev pub HasBasesIn : List (List ℕ) → FlatGlyph → Type 0
HasBasesIn names glyph = All (λ kept. IsSome (gid_of names kept.base)) glyph.kept

-- the refusal of a glyph whose components lead to a cycle
abbrev pub endless_in : GlyphIr → List Entry → Refusal
endless_in glyph index = refusal_of FLAT (name_in index glyph.number)
    (record { rule = ComponentCycle; place = glyph.place })

-- ---- what is numbered so is in the index

first_there : (test : Entry → Bool) (n : ℕ) (index : List Entry) (glyph : ℕ)
    → In glyph (number_of (first_from test n index)) → In glyph (numbers_from n index)
first_there test n [] glyph i = absurd i
first_there test n (entry ∷ index) glyph i =
    by (test entry) (first_there test (n + 1) index glyph) i
  where
    by : (b : Bool) → (In glyph (number_of (first_from test (n + 1) index))
        → In glyph (numbers_from (n + 1) index))
        → In glyph (number_of (if b then Some (n, entry) else first_from test (n + 1) index))
        → In glyph (numbers_from n (entry ∷ index))
    by true rest (inl e) = inl e
    by true rest (inr j) = absurd j
    by false rest j = inr (rest j)

chosen_there : (test : Entry → Bool) (n : ℕ) (index : List Entry) (glyph : ℕ)
    → In glyph (map (λ chosen. chosen.0) (chosen_from test n index))
    → In glyph (numbers_from n index)
chosen_there test n [] glyph i = absurd i
chosen_there test n (entry ∷ index) glyph i =
    by (test entry) (chosen_there test (n + 1) index glyph) i
  where
    by : (b : Bool) → (In glyph (map (λ (chosen : ℕ × Entry). chosen.0)
        (chosen_from test (n + 1) index)) → In glyph (numbers_from (n + 1) index))
        → In glyph (map (λ (chosen : ℕ × Entry). chosen.0)
        (if b then (n, entry) ∷ chosen_from test (n + 1) index
        else chosen_from test (n + 1) index))
        → In glyph (numbers_from n (entry ∷ index))
    by true rest (inl e) = inl e
    by true rest (inr j) = inr (rest j)
    by false rest j = inr (rest j)

pub numbers_there : (index : List Entry) (glyph : ℕ) → In glyph (numbers_in index)
    → In glyph (all_in index)
numbers_there index glyph i = elim (In-append_cases (number_of (notdef_from 0 index))
    (map (λ chosen. chosen.0) (others_from 0 index)) glyph i) [
      | inl j ↦ first_there is_notdef 0 index glyph j
      | inr j ↦ chosen_there is_other 0 index glyph j
    ]

shape_there : (index : List Entry) (shape : Shape) (base : ℕ) → In base (shape_bases index shape)
    → In base (all_in index)
shape_there index (Path contour) base i = absurd i
shape_there index (Component name at scale quarters) base i =
    first_there (λ entry. pointwise nat_eq name entry.0) 0 index base i

pub bases_there : (glyph : GlyphIr) (index : List Entry) (base : ℕ)
    → In base (bases_in glyph index) → In base (all_in index)
bases_there glyph index base i =
    let m = In-flat_map (shape_bases index) (first_shapes glyph) base i in
    shape_there index m.0 base m.2

same_number : (m n : ℕ) → nat_eq m n ≡ true → n ≡ m
same_number m n e = grind (arith, nat_tests)

pub exported_are : (index : List Entry) (glyph : ℕ)
    → (is_exported index glyph ≡ true) ↔ In glyph (numbers_in index)
exported_are index glyph = (
  λ e. let m = list_any-found (nat_eq glyph) (numbers_in index) e in
      subst (λ n. In n (numbers_in index)) (same_number glyph m.0 m.2) m.1,
  λ i. list_any-In (nat_eq glyph) (numbers_in index) glyph i (same glyph),
)
  where
    same : (n : ℕ) → nat_eq n n ≡ true
    same n = grind (arith, nat_tests)

-- ---- a refusal to read a glyph is less than one for a cycle

judged_before : (name : List ℕ) (least whole : Option Failure) (value : GlyphIr) (r : Refusal)
    (other : GlyphIr) (index : List Entry)
    → judged (refusal_of RAW name) least whole value ≡ Err r
    → refusal_cmp r (endless_in other index) ≡ Less
judged_before name (Some f) whole value r other index e =
    let same : refusal_of RAW name f ≡ r = cc in
    subst (λ r. refusal_cmp r (endless_in other index) ≡ Less) same refl
judged_before name None (Some f) value r other index e =
    let same : refusal_of RAW name f ≡ r = cc in
    subst (λ r. refusal_cmp r (endless_in other index) ≡ Less) same refl
judged_before name None None value r other index e = absurd cc

pub raw_before : (local : List Failure) (tree : Tree) (header : Header)
    (index : List Entry) (number : ℕ) (r : Refusal) (other : GlyphIr) (behind : List Entry)
    → judged_glyph local tree header index number ≡ Err r
    → refusal_cmp r (endless_in other behind) ≡ Less
unfolding judged_glyph
raw_before local tree header index number r other behind e =
    judged_before (name_in index number) _ _ _ r other behind e
