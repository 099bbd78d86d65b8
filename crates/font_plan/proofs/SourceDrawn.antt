-- The glyphs of a font draw what their source says: by recursion on the jobs by which they are
-- drawn.
use Rattle.std.proofs.Common.{◌≡◌, ℕ, suc, ◌<◌, List, [], ◌∷◌, ◌++◌, length, Option, Some, None, Ok}
use Rattle.std.proofs.Common.{refl, sym, ap, ◌∙◌, subst, arith, true, is_some}
use Rattle.std.specs.Prelude.{slice_get, nat_eq}
use Rattle.std.specs.List.{All, AllByRecursion, flat_map, IsDistinct}
use Rattle.std.specs.Map.{keys_of, lookup}
use Rattle.std.specs.Cmp.Lexicographic.{pointwise}
use Rattle.plist_reader.specs.declared.tree.Tree.{Tree}
use Rattle.font_ir.specs.declared.header.Header.{Header}
use Rattle.font_ir.specs.declared.glyph.Shape.{Shape}
use Rattle.font_ir.specs.declared.glyph.Shape.TheVariants.{Path, Component}
use Rattle.font_ir.specs.declared.glyph.GlyphIr.{GlyphIr}
use Rattle.font_ir.specs.declared.glyph.FlatGlyph.{FlatGlyph}
use Rattle.glyphs_source.specs.HeaderReading.{header_of}
use Rattle.layer_shapes.specs.ReadLayers.{bases_of}
use Rattle.glyphs_layers.specs.Bases.{is_glyph}
use Rattle.glyphs_layers.specs.GlyphReading.{glyph_of}
use Rattle.component_flatten.specs.Drawing.{names_of, first_shapes, component_names}
use Rattle.component_flatten.specs.SourceDrawing.{DrawsAs, DrawAsNamed}
use Rattle.component_flatten.specs.SourceDrawing.{FlatGlyphsDrawAsTheirSource}
use Rattle.character_codes.specs.CharacterCodes.{Entry}
use Rattle.font_graph.specs.Fonts.{AllDrawn, no_more, one_more}
use Rattle.font_plan.specs.Bases.{named_from, shape_bases, bases_in}
use Rattle.font_plan.specs.Drawn.{DrawingLaws}
use Rattle.font_plan.specs.Jobs.{parts, raw_at, raw_in, flat_in}
use Rattle.font_plan.specs.Order.{number_of}
use Rattle.font_plan.specs.SourceGlyphs.{source_glyph, glyph_found, glyph_as_read, DrawsItsSource}
use Rattle.font_plan.specs.SourceGlyphs.{GlyphsDrawAsTheirSource}
use Rattle.font_plan.proofs.Made.{found_number, first_known, raw_known, raw_whole, flat_known}
use Rattle.font_plan.proofs.Nesting.{EntriesAreNamed, found_by_name}
use Rattle.font_plan.proofs.Orders.{all_by}

-- these are the numbers of the glyphs with these names
abbrev AreNumbersOf : List Entry → List ℕ → List (List ℕ) → Type 0
AreNumbersOf index [] [] = Unit {0}
AreNumbersOf index [] (name ∷ names) = ⊥
AreNumbersOf index (number ∷ numbers) [] = ⊥
AreNumbersOf index (number ∷ numbers) (name ∷ names) =
    ((entry : Entry) × (named_from 0 name index ≡ Some (number, entry)))
    × AreNumbersOf index numbers names

-- one number stands for a name that has one
number_first : (index : List Entry) (name : List ℕ) (numbers : List ℕ) (names : List (List ℕ))
    (found : Option (ℕ × Entry)) → named_from 0 name index ≡ found
    → length (number_of found) ≡ 1 → AreNumbersOf index numbers names
    → AreNumbersOf index (number_of found ++ numbers) (name ∷ names)
number_first index name numbers names None is one rest = absurd cc
number_first index name numbers names (Some found) is one rest = ((found.1, is), rest)

-- the bases of components have the numbers of the components' names
shapes_numbered : (index : List Entry) (shapes : List Shape)
    → AllByRecursion (λ base. is_glyph index base ≡ true) (bases_of shapes)
    → AreNumbersOf index (flat_map (shape_bases index) shapes) (names_of shapes)
shapes_numbered index [] known = tt
shapes_numbered index (Path contour ∷ shapes) known = shapes_numbered index shapes known
shapes_numbered index (Component base at scale quarters ∷ shapes) known =
    number_first index base (flat_map (shape_bases index) shapes) (names_of shapes)
    (named_from 0 base index) refl (found_number 0 index base known.0)
    (shapes_numbered index shapes known.1)

-- a glyph of the index is the source's glyph of its name
named_raw : (tree : Tree) (header : Header) (index : List Entry) (name : List ℕ) (number : ℕ)
    (entry : Entry) (raw : GlyphIr) → named_from 0 name index ≡ Some (number, entry)
    → raw_in tree header index number ≡ Ok raw → source_glyph tree header index name ≡ raw
named_raw tree header index name number entry raw named made =
    ap (glyph_found tree header index) named ∙ at (slice_get index number) made
  where
    at : (there : Option Entry) → raw_at tree header index number there ≡ Ok raw
        → glyph_as_read (glyph_of tree header index number) ≡ raw
    at None e = absurd cc
    at (Some found) e = ap glyph_as_read e

module _ (laws : DrawingLaws) (alike : FlatGlyphsDrawAsTheirSource) (source : List ℕ) (tree : Tree)
    (header : Header) (index : List Entry) (read : header_of tree ≡ Ok header) where
  -- the bases of a glyph that is read have the numbers of its components' names
  bases_numbered : (number : ℕ) (raw : GlyphIr) → raw_in tree header index number ≡ Ok raw
      → AreNumbersOf index (bases_in raw index) (component_names raw)
  bases_numbered number raw made =
      let whole = raw_whole laws.glyphs tree header index number raw read made in
      shapes_numbered index (first_shapes raw) (first_known raw.layers index whole.bases)

  -- a glyph draws what its source says, where its bases do
  one_draws : (name : List ℕ) (number : ℕ) (entry : Entry) (raw : GlyphIr)
      (of_bases : List FlatGlyph) (flat : FlatGlyph)
      → named_from 0 name index ≡ Some (number, entry)
      → raw_in tree header index number ≡ Ok raw
      → DrawAsNamed (source_glyph tree header index) (component_names raw) of_bases
      → flat_in raw index of_bases ≡ Ok flat
      → DrawsAs (source_glyph tree header index) (source_glyph tree header index name) flat
  one_draws name number entry raw of_bases flat named made below drawn =
      let known = flat_known index raw of_bases flat drawn in
      let is = named_raw tree header index name number entry raw named made in
      subst (λ (glyph : GlyphIr). DrawsAs (source_glyph tree header index) glyph flat) (sym is)
      (alike (source_glyph tree header index) index known.name raw of_bases flat below
      known.drawn_so)

  named_draw : (numbers : List ℕ) (flats : List FlatGlyph) (names : List (List ℕ))
      → AllDrawn (parts source) tree header index numbers flats
      → AreNumbersOf index numbers names
      → DrawAsNamed (source_glyph tree header index) names flats
  named_draw _ _ [] no_more numbered = tt
  named_draw _ _ (name ∷ names) no_more numbered = absurd numbered
  named_draw _ _ [] (one_more glyph raw of_bases flat glyphs flats made below drawn rest) numbered =
      absurd numbered
  named_draw _ _ (name ∷ names) (one_more glyph raw of_bases flat glyphs flats made below drawn rest)
      numbered = (
        one_draws name glyph numbered.0.0 raw of_bases flat numbered.0.1 made
            (named_draw (bases_in raw index) of_bases (component_names raw) below
            (bases_numbered glyph raw made)) drawn,
        named_draw glyphs flats names rest numbered.1,
      )

  -- a glyph of the index draws what the source says of it
  number_draws : IsDistinct (pointwise nat_eq) (keys_of index) → (glyph : ℕ) (raw : GlyphIr)
      (of_bases : List FlatGlyph) (flat : FlatGlyph) → raw_in tree header index glyph ≡ Ok raw
      → AllDrawn (parts source) tree header index (bases_in raw index) of_bases
      → flat_in raw index of_bases ≡ Ok flat → DrawsItsSource tree header index flat
  number_draws distinct glyph raw of_bases flat made below drawn =
      at (slice_get index glyph) refl made
    where
      number_is : flat.number ≡ glyph
      number_is = (flat_known index raw of_bases flat drawn).number
          ∙ (raw_known tree header index glyph raw made).number_is

      at : (there : Option Entry) → slice_get index glyph ≡ there
          → raw_at tree header index glyph there ≡ Ok raw → DrawsItsSource tree header index flat
      at None is e = absurd cc
      at (Some entry) is e =
          let named = found_by_name 0 index (glyph, entry) glyph (omega arith) is distinct in
          record {
            entry = entry;
            is_numbered = ap (slice_get index) number_is ∙ is;
            is_read = ap (glyph_of tree header index) number_is ∙ e
                ∙ ap Ok (sym (named_raw tree header index entry.0 glyph entry raw named made));
            draws = one_draws entry.0 glyph entry raw of_bases flat named made
                (named_draw (bases_in raw index) of_bases (component_names raw) below
                (bases_numbered glyph raw made)) drawn;
          }

  all_draw : IsDistinct (pointwise nat_eq) (keys_of index) → (numbers : List ℕ)
      (flats : List FlatGlyph) → AllDrawn (parts source) tree header index numbers flats
      → AllByRecursion (DrawsItsSource tree header index) flats
  all_draw distinct _ _ no_more = tt
  all_draw distinct _ _ (one_more glyph raw of_bases flat glyphs flats made below drawn rest) = (
    number_draws distinct glyph raw of_bases flat made below drawn,
    all_draw distinct glyphs flats rest,
  )

pub glyphs_draw_as_their_source : DrawingLaws → EntriesAreNamed → FlatGlyphsDrawAsTheirSource
    → GlyphsDrawAsTheirSource
glyphs_draw_as_their_source laws named alike source font f =
    all_by (DrawsItsSource f.tree f.header f.index) f.glyphs
    (all_draw laws alike source f.tree f.header f.index f.header_read
    (named f.tree f.index f.index_read) _ f.glyphs f.glyphs_drawn)
