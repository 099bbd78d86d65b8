-- What flat glyphs draw is what the source's glyphs do: bases are asked only for their locations
-- and contours, and components are followed as far as they lead.
use Rattle.std.proofs.Common.{◌≡◌, ℕ, zero, suc, ◌+◌, ◌≤◌, List, [], ◌∷◌, ◌++◌, map, Option, Some}
use Rattle.std.proofs.Common.{None, refl, sym, ap, ◌∙◌, subst, arith}
use Rattle.std.specs.Prelude.{drop}
use Rattle.std.specs.List.{AllByRecursion}
use Rattle.fixed_math.specs.declared.F2Dot14.{F2Dot14}
use Rattle.font_ir.specs.declared.glyph.Contour.{Contour}
use Rattle.font_ir.specs.declared.glyph.Shape.{Shape}
use Rattle.font_ir.specs.declared.glyph.Shape.TheVariants.{Path, Component}
use Rattle.font_ir.specs.declared.glyph.LayerIr.{LayerIr}
use Rattle.font_ir.specs.declared.glyph.GlyphIr.{GlyphIr}
use Rattle.font_ir.specs.declared.glyph.FlatGlyph.{FlatGlyph}
use Rattle.font_ir.specs.Places.{place_at}
use Rattle.glyphs_source.specs.declared.entries.IndexEntry.{IndexEntry}
use Rattle.component_flatten.specs.Numbered.{numbered}
use Rattle.component_flatten.specs.Places.{number_of, placed_at, placed}
use Rattle.component_flatten.specs.declared.transform.Transform.{Transform}
use Rattle.component_flatten.specs.Drawing.{transformed_contour, first_base_drawn, shapes_drawn}
use Rattle.component_flatten.specs.Drawing.{layer_drawn, glyph_drawn, component_names}
use Rattle.component_flatten.specs.Flattening.{flat_record}
use Rattle.component_flatten.specs.SourceDrawing.{NestsWithin, outline_of, drawn_within, DrawsAs}
use Rattle.component_flatten.specs.SourceDrawing.{DrawAsNamed, DepthsDrawAlike}
use Rattle.component_flatten.specs.SourceDrawing.{FlatGlyphsDrawAsTheirSource}
use Rattle.component_flatten.proofs.FlatLaws.{answered}
use Rattle.component_flatten.specs.Judging.{rule_of}

-- ---- what drawing asks of a base

abbrev core : List (List F2Dot14) → List (List Contour) → FlatGlyph
core places drawn = record {
  number = 0;
  place = 0;
  places = places;
  widths = [];
  drawn = drawn;
  kept = [];
  anchors = [];
}

abbrev core_of : FlatGlyph → FlatGlyph
core_of base = core base.places base.drawn

core_placed_at : (base : FlatGlyph) (at : List F2Dot14) (o : Option ℕ)
    → placed_at base at o ≡ placed_at (core_of base) at o
core_placed_at base at None = refl
core_placed_at base at (Some k) = refl

core_placed : (base : FlatGlyph) (at : List F2Dot14) → placed base at ≡ placed (core_of base) at
core_placed base at = core_placed_at base at (number_of base at)

core_first : (at : List F2Dot14) (transform : Transform) (bases : List FlatGlyph)
    → first_base_drawn at transform bases ≡ first_base_drawn at transform (map core_of bases)
core_first at transform [] = refl
core_first at transform (base ∷ bases) =
    ap (λ (contours : List Contour). map (transformed_contour transform) contours)
    (core_placed base at)

core_behind : (bases : List FlatGlyph) → drop 1 (map core_of bases) ≡ map core_of (drop 1 bases)
core_behind [] = refl
core_behind (base ∷ bases) = refl

both_parts : {X : Type 0} {a b c d : List X} → a ≡ b → c ≡ d → (a ++ c) ≡ (b ++ d)
both_parts {X} {a} {b} {c} {d} e f =
    ap (λ (xs : List X). xs ++ c) e ∙ ap (λ (xs : List X). b ++ xs) f

core_shapes : (at : List F2Dot14) (bases : List FlatGlyph) (shapes : List Shape)
    → shapes_drawn at bases shapes ≡ shapes_drawn at (map core_of bases) shapes
core_shapes at bases [] = refl
core_shapes at bases (Path contour ∷ shapes) =
    ap (λ (contours : List Contour). contour ∷ contours) (core_shapes at bases shapes)
core_shapes at bases (Component base to scale quarters ∷ shapes) =
    both_parts
    (core_first at (record { at = to; scale = scale; quarters = quarters }) bases)
    (core_shapes at (drop 1 bases) shapes
    ∙ ap (λ (others : List FlatGlyph). shapes_drawn at others shapes) (sym (core_behind bases)))

core_layers : (places : List (List F2Dot14)) (bases : List FlatGlyph) (k : ℕ)
    (layers : List LayerIr) → numbered (layer_drawn places bases) k layers
    ≡ numbered (layer_drawn places (map core_of bases)) k layers
core_layers places bases k [] = refl
core_layers places bases k (layer ∷ layers) =
    ap (λ (contours : List Contour).
    contours ∷ numbered (layer_drawn places bases) (k + 1) layers)
    (core_shapes (place_at places k) bases layer.shapes)
    ∙ ap (λ (others : List (List Contour)).
    layer_drawn places (map core_of bases) k layer ∷ others)
    (core_layers places bases (k + 1) layers)

same_bases : (glyph : GlyphIr) (bases others : List FlatGlyph)
    → map core_of bases ≡ map core_of others → glyph_drawn glyph bases ≡ glyph_drawn glyph others
same_bases glyph bases others e =
    core_layers glyph.places bases 0 glyph.layers
    ∙ ap (λ (cores : List FlatGlyph). glyph_drawn glyph cores) e
    ∙ sym (core_layers glyph.places others 0 glyph.layers)

-- ---- how far components are followed

all_as : {X : Type 0} (P Q : X → Type 0) → ((x : X) → P x → Q x) → (xs : List X)
    → AllByRecursion P xs → AllByRecursion Q xs
all_as P Q holds [] h = tt
all_as P Q holds (x ∷ xs) h = (holds x h.0, all_as P Q holds xs h.1)

same_maps : {X Y : Type 0} (f g : X → Y) (xs : List X) → AllByRecursion (λ x. f x ≡ g x) xs
    → map f xs ≡ map g xs
same_maps f g [] h = refl
same_maps {X} {Y} f g (x ∷ xs) h =
    ap (λ (y : Y). y ∷ map f xs) h.0 ∙ ap (λ (ys : List Y). g x ∷ ys) (same_maps f g xs h.1)

module _ (source : List ℕ → GlyphIr) where
  abbrev outline : ℕ → List ℕ → FlatGlyph
  outline depth name = outline_of (source name) (drawn_within source depth (source name))

  nests_more : (m n : ℕ) (glyph : GlyphIr) → m ≤ n → NestsWithin source m glyph
      → NestsWithin source n glyph
  nests_more zero zero glyph le h = h
  nests_more zero (suc n) glyph le h =
      subst (λ (names : List (List ℕ)).
      AllByRecursion (λ name. NestsWithin source n (source name)) names) (sym h) tt
  nests_more (suc m) zero glyph le h = absurd (omega (arith, le))
  nests_more (suc m) (suc n) glyph le h =
      all_as (λ name. NestsWithin source m (source name))
      (λ name. NestsWithin source n (source name))
      (λ name inner. nests_more m n (source name) (omega (arith, le)) inner)
      (component_names glyph) h

  settled : (m n : ℕ) (glyph : GlyphIr) → m ≤ n → NestsWithin source m glyph
      → drawn_within source m glyph ≡ drawn_within source n glyph
  settled zero zero glyph le h = refl
  settled zero (suc n) glyph le h =
      ap (λ (names : List (List ℕ)). glyph_drawn glyph (map (outline n) names)) (sym h)
  settled (suc m) zero glyph le h = absurd (omega (arith, le))
  settled (suc m) (suc n) glyph le h =
      ap (λ (bases : List FlatGlyph). glyph_drawn glyph bases)
      (same_maps (outline m) (outline n) (component_names glyph)
      (all_as (λ name. NestsWithin source m (source name)) (λ name. outline m name ≡ outline n name)
      (λ name inner. ap (λ (drawn : List (List Contour)). outline_of (source name) drawn)
      (settled m n (source name) (omega (arith, le)) inner))
      (component_names glyph) h))

  -- bases in a row draw as glyphs that are followed equally far
  abbrev Together : List (List ℕ) → List FlatGlyph → Type 0
  Together names bases =
      (depth : ℕ) × AllByRecursion (λ name. NestsWithin source depth (source name)) names
      × (map core_of bases ≡ map core_of (map (outline depth) names))

  base_core : (name : List ℕ) (base : FlatGlyph) (n : ℕ)
      (draws : DrawsAs source (source name) base) → draws.depth ≤ n
      → core_of base ≡ core_of (outline n name)
  base_core name base n draws le =
      ap (λ (places : List (List F2Dot14)). core places base.drawn) draws.places
      ∙ ap (λ (drawn : List (List Contour)). core (source name).places drawn)
      (draws.drawn ∙ settled draws.depth n (source name) le draws.nests)

  together : (names : List (List ℕ)) (bases : List FlatGlyph) → DrawAsNamed source names bases
      → Together names bases
  together [] [] h = (0, tt, refl)
  together [] (base ∷ bases) h = absurd h
  together (name ∷ names) [] h = absurd h
  together (name ∷ names) (base ∷ bases) h =
      let (depth, nest, same) = together names bases h.1 in
      let all : ℕ = h.0.depth + depth in
      let longer : depth ≤ all = omega arith in
      let own : h.0.depth ≤ all = omega arith in (
        all,
        (
          nests_more h.0.depth all (source name) own h.0.nests,
          all_as (λ name. NestsWithin source depth (source name))
              (λ name. NestsWithin source all (source name))
              (λ name inner. nests_more depth all (source name) longer inner) names nest,
        ),
        ap (λ (first : FlatGlyph). first ∷ map core_of bases)
            (base_core name base all h.0 own)
            ∙ ap (λ (others : List FlatGlyph). core_of (outline all name) ∷ others)
            (same ∙ ap (λ (outlines : List FlatGlyph). map core_of outlines)
            (same_maps (outline depth) (outline all) names
            (all_as (λ name. NestsWithin source depth (source name))
            (λ name. outline depth name ≡ outline all name)
            (λ name inner. ap (λ (drawn : List (List Contour)). outline_of (source name) drawn)
            (settled depth all (source name) longer inner)) names nest))),
      )

pub depths_draw_alike : DepthsDrawAlike
depths_draw_alike source glyph m n first second =
    settled source m (m + n) glyph (omega arith) first
    ∙ sym (settled source n (m + n) glyph (omega arith) second)

drawn_as : (source : List ℕ → GlyphIr) (index : List (List ℕ × IndexEntry)) (glyph : GlyphIr)
    (bases : List FlatGlyph) → DrawAsNamed source (component_names glyph) bases
    → DrawsAs source glyph (flat_record index glyph bases)
unfolding flat_record
drawn_as source index glyph bases h =
    let (depth, nest, same) = together source (component_names glyph) bases h in
    record {
      places = refl;
      depth = suc depth;
      nests = nest;
      drawn = same_bases glyph bases (map (outline source depth) (component_names glyph)) same;
    }

pub flat_glyphs_draw_as_their_source : FlatGlyphsDrawAsTheirSource
flat_glyphs_draw_as_their_source source index name glyph bases flat h e =
    let parts = answered index name glyph bases (rule_of glyph bases) flat refl e in
    subst (λ (x : FlatGlyph). DrawsAs source glyph x) parts.1 (drawn_as source index glyph bases h)
