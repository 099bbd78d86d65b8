-- Glyphs whose components have lower numbers than their own lead nowhere back.
use Rattle.std.proofs.Common.{◌≡◌, ℕ, zero, suc, ◌<◌, ◌≤◌, ℤ, pos, List, [], ◌∷◌, ◌++◌, length}
use Rattle.std.proofs.Common.{get_or, map, take, sym, subst, ap, ◌∙◌, arith, Option, Some, None}
use Rattle.std.proofs.lemmas.Int.{ints}
use Rattle.std.proofs.lemmas.List.{length-map}
use Rattle.std.proofs.lemmas.List.Elements.{All-append, All-cons, All-nil, All-weaker}
use Rattle.std.proofs.lemmas.List.Elements.{recursion_from_All}
use Rattle.std.specs.Prelude.{IfSome}
use Rattle.std.specs.List.{All, AllByRecursion, Contains, flat_map}
use Rattle.std.specs.Option.{option_to_list}
use Rattle.font_ir.specs.FlatGlyphs.{IsFlatGlyph, IsSmall}
use Rattle.font_ir.specs.Glyphs.{gid_of}
use Rattle.font_ir.specs.declared.header.Header.{Header}
use Rattle.font_ir.specs.declared.glyph.FlatGlyph.{FlatGlyph}
use Rattle.font_ir.specs.declared.glyph.Kept.{Kept}
use Rattle.metrics_tables.specs.Changes.{BeginsWithMasters, master_places}
use Rattle.metrics_tables.specs.Nesting.{IsChain, NoneLeadsToItself, bases_at, bases_in, bases_of}
use Rattle.fixtures.specs.Families.{ends}
use Rattle.table_bench.specs.Fonts.{AreMeasurable, IsLowerComponent, IsMeasurable}

-- ---- chains

module _ (bases : List (List ℕ))
    (lower : (gid : ℕ) → All (λ base. base < gid) (bases_at bases gid)) where
  base_is_lower : (gid base : ℕ) → Contains (bases_at bases gid) base → base < gid
  base_is_lower gid base (k, within, is) =
      let Lower : ℕ → Type 0 = λ base. base < gid in subst Lower is (lower gid k base within)

  chain_falls : (gid : ℕ) (between : List ℕ) (last : ℕ) → IsChain bases gid (between ++ last ∷ [])
      → last < gid
  chain_falls gid [] last chain = base_is_lower gid last chain.0
  chain_falls gid (base ∷ between) last chain =
      let first = base_is_lower gid base chain.0 in
      let rest = chain_falls base between last chain.1 in omega (arith, first, rest)

  pub none_leads : NoneLeadsToItself bases
  none_leads gid between chain = omega (arith, chain_falls gid between gid chain)

-- ---- glyphs by their numbers

module _ (f : FlatGlyph → List ℕ) where
  each_at : (P : ℕ → List ℕ → Type 0) (xs : List FlatGlyph) → ((k : ℕ) → P k [])
      → ((k : ℕ) (d : FlatGlyph) → k < length xs → P k (f (get_or xs k d)))
      → (k : ℕ) → P k (get_or (map f xs) k [])
  each_at P [] none all k = none k
  each_at P (x ∷ xs) none all zero = all 0 x (omega arith)
  each_at P (x ∷ xs) none all (suc k) = each_at (λ n. P (suc n)) xs (λ n. none (suc n))
      (λ n d within. all (suc n) d (omega (arith, within))) k

pub one_more : (P : ℕ → FlatGlyph → Type 0) (xs : List FlatGlyph) (x : FlatGlyph)
    → ((k : ℕ) (d : FlatGlyph) → k < length xs → P k (get_or xs k d)) → P (length xs) x
    → (k : ℕ) (d : FlatGlyph) → k < length (xs ++ x ∷ []) → P k (get_or (xs ++ x ∷ []) k d)
one_more P [] x all one zero d within = one
one_more P [] x all one (suc k) d within = absurd (omega (arith, within))
one_more P (y ∷ ys) x all one zero d within = all 0 d (omega arith)
one_more P (y ∷ ys) x all one (suc k) d within = one_more (λ n. P (suc n)) ys x
    (λ n e below. all (suc n) e (omega (arith, below))) one k d (omega (arith, within))

-- ---- what measuring asks for

module _ (names : List (List ℕ)) (glyphs : List FlatGlyph) (are : AreMeasurable names glyphs) where
  pub all_flat : All IsFlatGlyph glyphs
  all_flat = λ k d within. (are k d within).flat

  pub none_lead : NoneLeadsToItself (bases_in names glyphs)
  none_lead = none_leads (bases_in names glyphs)
      (each_at (bases_of names) (λ gid. All (λ base. base < gid)) glyphs
      (λ gid. All-nil (λ base. base < gid)) (λ k d within. (are k d within).lower))

  module _ (header : Header) (masters : master_places header ≡ ends) where
    two : length header.masters ≡ 2
    two = sym (length-map header.masters (λ master. master.location)) ∙ ap length masters

    pub all_begin : All (BeginsWithMasters header) glyphs
    all_begin = λ k d within.
        let glyph = get_or glyphs k d in
        ap (λ n. take n glyph.places) two ∙ ap (take 2) (are k d within).places ∙ sym masters

-- ---- a glyph with components

abbrev still : List (ℤ × ℤ)
still = (pos 0, pos 0) ∷ (pos 0, pos 0) ∷ []

still_is_small : All (λ offset. IsSmall offset.0 × IsSmall offset.1) still
still_is_small =
    let Small : ℤ × ℤ → Type 0 = λ offset. IsSmall offset.0 × IsSmall offset.1 in
    let zero_is : Small (pos 0, pos 0) = (
      (omega (arith, ints), omega (arith, ints)),
      (omega (arith, ints), omega (arith, ints)),
    ) in
    All-cons Small (pos 0, pos 0) ((pos 0, pos 0) ∷ []) zero_is
    (All-cons Small (pos 0, pos 0) [] zero_is (All-nil Small))

-- the components of one are lower where each is
lower_or_none : (gid : ℕ) (found : Option ℕ) → IfSome found (λ base. base < gid)
    → All (λ base. base < gid) (option_to_list found)
lower_or_none gid None h = All-nil (λ base. base < gid)
lower_or_none gid (Some base) h = All-cons (λ base. base < gid) base [] h (All-nil (λ base. base < gid))

module _ (names : List (List ℕ)) (gid : ℕ) where
  abbrev bases : List Kept → List ℕ
  bases kept = flat_map (λ k. option_to_list (gid_of names k.base)) kept

  all_lower : (kept : List Kept) → AllByRecursion (IsLowerComponent names gid) kept
      → All (λ base. base < gid) (bases kept)
  all_lower [] each = All-nil (λ base. base < gid)
  all_lower (k ∷ kept) each = All-append (λ base. base < gid)
      (option_to_list (gid_of names k.base)) (bases kept)
      (lower_or_none gid (gid_of names k.base) each.0.lower) (all_lower kept each.1)

  pub with_components : (glyph : FlatGlyph) (kept : List Kept) → IsFlatGlyph glyph
      → glyph.places ≡ ends → length kept ≤ 2 → All (IsLowerComponent names gid) kept
      → IsMeasurable names gid (record glyph { kept = kept })
  with_components glyph kept flat places few each = record {
    flat = record {
      places = flat.places;
      widths = flat.widths;
      drawn = flat.drawn;
      offsets = All-weaker (IsLowerComponent names gid)
          (λ (k : Kept). length k.at ≡ length glyph.places)
          (λ k is. ap length is.at ∙ sym (ap length places)) kept each;
      one_shape = flat.one_shape;
      few_points = flat.few_points;
      no_empty_contour = flat.no_empty_contour;
      few_kept = omega (arith, few);
      small_points = flat.small_points;
      small_offsets = All-weaker (IsLowerComponent names gid)
          (λ (k : Kept). All (λ offset. IsSmall offset.0 × IsSmall offset.1) k.at)
          (λ k is. subst (All (λ (offset : ℤ × ℤ). IsSmall offset.0 × IsSmall offset.1))
          (sym is.at) still_is_small) kept each;
      small_anchors = flat.small_anchors;
      width_range = flat.width_range;
      anchors = flat.anchors;
    };
    places = places;
    lower = all_lower kept (recursion_from_All (IsLowerComponent names gid) kept each);
  }
