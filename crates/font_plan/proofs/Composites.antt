-- The components that a composite keeps are glyphs of its font.
use Rattle.std.proofs.Common.{◌≡◌, ℕ, ◌+◌, ◌<◌, Bool, true, false, ◌&&◌, not, cond, inl, inr}
use Rattle.std.proofs.Common.{List, [], ◌∷◌, ◌++◌, map, length, Option, Some, None, refl, sym, ap}
use Rattle.std.proofs.Common.{◌∙◌, subst, arith}
use Rattle.std.specs.Prelude.{codes, ◌==◌, nat_eq, IsSome, if◌then◌else◌}
use Rattle.std.specs.List.{All, AllByRecursion, flat_map, list_all}
use Rattle.std.specs.Option.{option_to_list}
use Rattle.std.specs.Map.{lookup}
use Rattle.std.specs.Cmp.Lexicographic.{pointwise}
use Rattle.std.proofs.lemmas.Bool.{and_parts}
use Rattle.font_ir.specs.Glyphs.{Glyphs, gid_of}
use Rattle.font_ir.specs.declared.header.Header.{Header}
use Rattle.font_ir.specs.declared.glyph.Kept.{Kept}
use Rattle.font_ir.specs.declared.glyph.GlyphIr.{GlyphIr}
use Rattle.font_ir.specs.declared.glyph.FlatGlyph.{FlatGlyph}
use Rattle.font_ir.specs.declared.glyph.Shape.{Shape}
use Rattle.font_ir.specs.declared.glyph.Shape.TheVariants.{Path, Component}
use Rattle.font_ir.specs.declared.glyph.LayerIr.{LayerIr}
use Rattle.component_flatten.specs.Numbered.{flat_numbered}
use Rattle.component_flatten.specs.Composites.{is_exported_entry, is_exported, has_exported_base}
use Rattle.component_flatten.specs.Composites.{kept_of, kept_shape, stays_composite}
use Rattle.component_flatten.specs.Composites.{are_only_moved}
use Rattle.component_flatten.specs.Drawing.{first_shapes}
use Rattle.job_graph.specs.Members.{In, list_any-In}
use Rattle.character_codes.specs.CharacterCodes.{Entry}
use Rattle.font_graph.specs.Running as running
use Rattle.font_plan.specs.Bases.{HasBasesIn}
use Rattle.font_plan.specs.Jobs.{parts, is_composite}
use Rattle.font_plan.specs.Order.{is_notdef, is_other, others_from, order_in, is_order_of}
use Rattle.font_plan.proofs.Made.{flat_known}
use Rattle.font_plan.proofs.Names.{has_place}
use Rattle.font_plan.proofs.Nesting.{same_bytes}
use Rattle.font_plan.proofs.Orders.{all_by}

-- ---- an exported glyph is in the order

abbrev names_from : ℕ → List Entry → List (List ℕ)
names_from n index = codes ".notdef" ∷ map (λ glyph. glyph.1.0) (others_from n index)

abbrev IsNameFrom : ℕ → List Entry → List ℕ → Type 0
IsNameFrom n index name = (other : List ℕ) × In other (names_from n index)
    × (pointwise nat_eq name other ≡ true)

abbrev others_or : ℕ → Entry → List Entry → Bool → List (ℕ × Entry)
others_or n entry index b =
    if b then (n, entry) ∷ others_from (n + 1) index else others_from (n + 1) index

both_true : (a b : Bool) → a ≡ true → b ≡ false → (a && not b) ≡ true
both_true true false e f = refl
both_true true true e f = absurd cc
both_true false b e f = absurd cc

exported_from : (n : ℕ) (index : List Entry) (name : List ℕ)
    → is_exported_entry (lookup (pointwise nat_eq name) index) ≡ true → IsNameFrom n index name
exported_from n [] name e = absurd cc
exported_from n (entry ∷ index) name e =
    here (pointwise nat_eq name entry.0) refl e (exported_from (n + 1) index name)
  where
    more : (b : Bool) (other : List ℕ)
        → In other (map (λ (glyph : ℕ × Entry). glyph.1.0) (others_from (n + 1) index))
        → In other (map (λ (glyph : ℕ × Entry). glyph.1.0) (others_or n entry index b))
    more true other i = inr i
    more false other i = i

    behind : IsNameFrom (n + 1) index name → IsNameFrom n (entry ∷ index) name
    behind found = elim found.1 [
      | inl is ↦ (found.0, inl is, found.2)
      | inr j ↦ (found.0, inr (more (is_other entry) found.0 j), found.2)
    ]

    either : (b : Bool) → is_notdef entry ≡ b → entry.1.exported ≡ true
        → pointwise nat_eq name entry.0 ≡ true → IsNameFrom n (entry ∷ index) name
    either true is exported same = (
      codes ".notdef",
      inl refl,
      ap (pointwise nat_eq name) (sym (same_bytes entry.0 (codes ".notdef") is)) ∙ same,
    )
    either false is exported same = (
      entry.0,
      inr (subst (λ b. In entry.0 (map (λ (glyph : ℕ × Entry). glyph.1.0)
          (others_or n entry index b)))
          (sym (both_true entry.1.exported (is_notdef entry) exported is)) (inl refl)),
      same,
    )

    here : (b : Bool) → pointwise nat_eq name entry.0 ≡ b
        → is_exported_entry (cond b (Some entry.1) (lookup (pointwise nat_eq name) index)) ≡ true
        → (is_exported_entry (lookup (pointwise nat_eq name) index) ≡ true
        → IsNameFrom (n + 1) index name)
        → IsNameFrom n (entry ∷ index) name
    here true is f rest = either (is_notdef entry) refl f is
    here false is f rest = behind (rest f)

exported_placed : (index : List Entry) (name : List ℕ) → is_exported index name ≡ true
    → IsSome (gid_of (order_in index).names name)
exported_placed index name e =
    let found = exported_from 0 index name e in
    has_place (pointwise nat_eq name) (order_in index).names
    (list_any-In (pointwise nat_eq name) (order_in index).names found.0 found.1 found.2)

-- ---- what is kept is exported

third : (a b c : Bool) → (a && b && c) ≡ true → c ≡ true
third true true c e = e
third true false c e = absurd cc
third false b c e = absurd cc

each_true : {X : Type 0} (test : X → Bool) (xs : List X) → list_all test xs ≡ true
    → AllByRecursion (λ x. test x ≡ true) xs
each_true test [] e = tt
each_true test (x ∷ xs) e =
    let both = and_parts (test x) (list_all test xs) e in (both.0, each_true test xs both.1)

kept_placed : (index : List Entry) (layers : List LayerIr) (n : ℕ) (shapes : List Shape)
    → AllByRecursion (λ shape. has_exported_base index shape ≡ true) shapes
    → AllByRecursion (λ kept. IsSome (gid_of (order_in index).names kept.base))
    (flat_numbered (kept_shape layers) n shapes)
kept_placed index layers n [] each = tt
kept_placed index layers n (Path contour ∷ shapes) each =
    kept_placed index layers (n + 1) shapes each.1
kept_placed index layers n (Component base at scale quarters ∷ shapes) each =
    (exported_placed index base each.0, kept_placed index layers (n + 1) shapes each.1)

glyph_placed : (index : List Entry) (raw : GlyphIr)
    → AllByRecursion (λ kept. IsSome (gid_of (order_in index).names kept.base)) (kept_of index raw)
glyph_placed index raw = by (stays_composite index raw) refl
  where
    by : (b : Bool) → stays_composite index raw ≡ b
        → AllByRecursion (λ (kept : Kept). IsSome (gid_of (order_in index).names kept.base))
        (if b then flat_numbered (kept_shape raw.layers) 0 (first_shapes raw) else [])
    by true is = kept_placed index raw.layers 0 (first_shapes raw)
        (each_true (has_exported_base index) (first_shapes raw)
        (third (not (length (first_shapes raw) == 0)) (list_all are_only_moved raw.layers)
        (list_all (has_exported_base index) (first_shapes raw)) is))
    by false is = tt

-- ---- so a composite's bases are glyphs of the font

pub composite_bases : (source : List ℕ) (header : Header) (order : Glyphs) (flat : FlatGlyph)
    → running.IsCompositeOf (parts source) header order flat → HasBasesIn order.names flat
composite_bases source header order flat of =
    let d = of.drawn_so in
    let is = is_order_of of.index order of.in_order.glyphs_ordered in
    let kept = (flat_known of.index d.raw d.of_bases flat d.flat_made).kept in
    subst (λ (o : Glyphs). HasBasesIn o.names flat) (sym is)
    (all_by (λ (kept : Kept). IsSome (gid_of (order_in of.index).names kept.base)) flat.kept
    (subst (AllByRecursion (λ (kept : Kept). IsSome (gid_of (order_in of.index).names kept.base)))
    (sym kept) (glyph_placed of.index d.raw)))

-- and each of them has its number

pub numbers_counted : (names : List (List ℕ)) (kept : List Kept)
    → AllByRecursion (λ component. IsSome (gid_of names component.base)) kept
    → length (flat_map (λ component. option_to_list (gid_of names component.base)) kept)
    ≡ length kept
numbers_counted names [] each = refl
numbers_counted names (component ∷ kept) each =
    by (gid_of names component.base) each.0 (numbers_counted names kept each.1)
  where
    by : (gid : Option ℕ) → IsSome gid
        → length (flat_map (λ (c : Kept). option_to_list (gid_of names c.base)) kept) ≡ length kept
        → length (option_to_list gid
        ++ flat_map (λ (c : Kept). option_to_list (gid_of names c.base)) kept)
        ≡ length (component ∷ kept)
    by None is rest = absurd cc
    by (Some gid) is rest = omega (arith, rest)

pub some_kept : (glyph : FlatGlyph) → is_composite glyph ≡ true → 0 < length glyph.kept
some_kept glyph e = by glyph.kept e
  where
    by : (kept : List Kept) → not (nat_eq (length kept) 0) ≡ true → 0 < length kept
    by [] f = absurd cc
    by (component ∷ kept) f = omega arith
