-- What is known of a glyph that was read or drawn: its number, where it stands, and its bases.
use Rattle.std.proofs.Common.{◌≡◌, ℕ, suc, ◌<◌, ◌+◌, List, [], ◌∷◌, ◌++◌, map, length, take}
use Rattle.std.proofs.Common.{Option, Some, None, Ok, refl, sym, ap, ◌∙◌, inl, inr, subst, arith}
use Rattle.std.proofs.Common.{Bool, true, false, cond, is_some, pos}
use Rattle.std.specs.Prelude.{slice_get, slice_index_or, nat_eq, if◌then◌else◌}
use Rattle.std.specs.List.{All, AllByRecursion, flat_map}
use Rattle.std.specs.Map.{lookup}
use Rattle.std.specs.Cmp.Lexicographic.{pointwise}
use Rattle.std.proofs.lemmas.List.{length-append}
use Rattle.std.proofs.lemmas.Option.{slice_get_within}
use Rattle.fixed_math.specs.declared.F2Dot14.{F2Dot14}
use Rattle.refusal_codes.specs.First.{refusal_of, foremost}
use Rattle.refusal_codes.specs.declared.job.TheConstants.{FLAT}
use Rattle.refusal_codes.specs.JudgedLaws.{judged_ok}
use Rattle.plist_reader.specs.declared.tree.Tree.{Tree}
use Rattle.font_ir.specs.Places.{axis_count}
use Rattle.font_ir.specs.declared.header.Header.{Header}
use Rattle.font_ir.specs.declared.header.Master.{Master}
use Rattle.font_ir.specs.declared.glyph.Shape.{Shape}
use Rattle.font_ir.specs.declared.glyph.Shape.TheVariants.{Path, Component}
use Rattle.font_ir.specs.declared.glyph.LayerIr.{LayerIr}
use Rattle.font_ir.specs.declared.glyph.GlyphIr.{GlyphIr}
use Rattle.font_ir.specs.declared.glyph.FlatGlyph.{FlatGlyph}
use Rattle.glyphs_source.specs.HeaderReading.{header_of}
use Rattle.layer_shapes.specs.ReadLayers.{bases_of}
use Rattle.glyphs_layers.specs.Bases.{is_glyph}
use Rattle.glyphs_layers.specs.GlyphReading.{glyph_of, judged_glyph, glyph_record, glyph_in}
use Rattle.glyphs_layers.specs.SourceGlyphs.{ReadGlyphsAreWhole, IsWholeGlyph}
use Rattle.component_flatten.specs.Composites.{kept_of}
use Rattle.component_flatten.specs.Drawing.{names_of, first_shapes}
use Rattle.component_flatten.specs.Flattening.{flat_of, flat_record, limit_failures, IsBase}
use Rattle.component_flatten.specs.Flattening.{HasBases}
use Rattle.metrics_tables.specs.Changes.{master_places}
use Rattle.job_graph.specs.Members.{In}
use Rattle.character_codes.specs.CharacterCodes.{Entry}
use Rattle.font_graph.specs.Fonts.{AllDrawn, no_more, one_more, DrawnSo}
use Rattle.font_plan.specs.Bases.{numbers_from, all_in, named_from, shape_bases, bases_in}
use Rattle.font_plan.specs.Drawn.{IsDrawn, DrawingLaws}
use Rattle.font_plan.specs.Jobs.{parts, raw_at, raw_in, flat_at, flat_in}
use Rattle.font_plan.specs.Order.{number_of}
use Rattle.font_plan.proofs.Orders.{all_by, by_all}

-- ---- a glyph that was read

pub record IsRawOf (index : List Entry) (number : ℕ) (raw : GlyphIr) : Type 0 where
  pub number_is : raw.number ≡ number
  pub within : number < length index

record_is : (tree : Tree) (header : Header) (index : List Entry) (number : ℕ) (raw : GlyphIr)
    → glyph_of tree header index number ≡ Ok raw
    → glyph_record tree header number (glyph_in index number) ≡ raw
unfolding judged_glyph
record_is tree header index number raw e = (judged_ok _ _ _ _ _ e).2

record_number : (tree : Tree) (header : Header) (number glyph : ℕ)
    → (glyph_record tree header number glyph).number ≡ number
unfolding glyph_record
record_number tree header number glyph = refl

pub raw_known : (tree : Tree) (header : Header) (index : List Entry) (number : ℕ) (raw : GlyphIr)
    → raw_in tree header index number ≡ Ok raw → IsRawOf index number raw
raw_known tree header index number raw e = at (slice_get index number) refl e
  where
    at : (entry : Option Entry) → slice_get index number ≡ entry
        → raw_at tree header index number entry ≡ Ok raw → IsRawOf index number raw
    at None is f = absurd cc
    at (Some entry) is f = record {
      number_is = sym (ap (λ (r : GlyphIr). r.number)
          (record_is tree header index number raw f))
          ∙ record_number tree header number (glyph_in index number);
      within = slice_get_within index number entry is;
    }

-- its layers begin with those of the masters
pub raw_whole : ReadGlyphsAreWhole → (tree : Tree) (header : Header) (index : List Entry)
    (number : ℕ) (raw : GlyphIr) → header_of tree ≡ Ok header
    → raw_in tree header index number ≡ Ok raw → IsWholeGlyph tree header index number raw
raw_whole whole tree header index number raw read e = at (slice_get index number) e
  where
    at : (entry : Option Entry) → raw_at tree header index number entry ≡ Ok raw
        → IsWholeGlyph tree header index number raw
    at None f = absurd cc
    at (Some entry) f = whole tree header index number raw read f

-- ---- a glyph that was drawn

module _ (index : List Entry) (raw : GlyphIr) (bases : List FlatGlyph) where
  flat_record_is : (name : List ℕ) (flat : FlatGlyph) → flat_of index name raw bases ≡ Ok flat
      → flat_record index raw bases ≡ flat
  unfolding flat_of
  flat_record_is name flat e = (judged_ok (refusal_of FLAT name) None
      (foremost (limit_failures bases (flat_record index raw bases)))
      (flat_record index raw bases) flat e).2

  flat_record_places : (flat_record index raw bases).places ≡ raw.places
  unfolding flat_record
  flat_record_places = refl

  flat_record_number : (flat_record index raw bases).number ≡ raw.number
  unfolding flat_record
  flat_record_number = refl

  flat_record_kept : (flat_record index raw bases).kept ≡ kept_of index raw
  unfolding flat_record
  flat_record_kept = refl

  -- what is drawn of a glyph keeps its places and its number
  pub record IsFlatOf (flat : FlatGlyph) : Type 0 where
    pub places : flat.places ≡ raw.places
    pub number : flat.number ≡ raw.number
    pub kept : flat.kept ≡ kept_of index raw
    pub name : List ℕ
    pub drawn_so : flat_of index name raw bases ≡ Ok flat

  pub flat_known : (flat : FlatGlyph) → flat_in raw index bases ≡ Ok flat → IsFlatOf flat
  flat_known flat e = at (slice_get index raw.number) e
    where
      at : (entry : Option Entry) → flat_at raw index bases entry ≡ Ok flat → IsFlatOf flat
      at None f = absurd cc
      at (Some entry) f =
          let is = flat_record_is entry.0 flat f in record {
            places = sym (ap (λ (g : FlatGlyph). g.places) is) ∙ flat_record_places;
            number = sym (ap (λ (g : FlatGlyph). g.number) is) ∙ flat_record_number;
            kept = sym (ap (λ (g : FlatGlyph). g.kept) is) ∙ flat_record_kept;
            name = entry.0;
            drawn_so = f;
          }

take_masters : (masters : List Master) (others : List (List F2Dot14))
    → take (length masters) (map (λ master. master.location) masters ++ others)
    ≡ map (λ master. master.location) masters
take_masters [] others = refl
take_masters (master ∷ masters) others =
    ap (λ rest. master.location ∷ rest) (take_masters masters others)

-- what begins with the masters has as many axes as they
axes_first : (masters : List Master) (places : List (List F2Dot14)) → 0 < length masters
    → take (length masters) places ≡ map (λ master. master.location) masters
    → axis_count places ≡ axis_count (map (λ master. master.location) masters)
axes_first [] places some e = absurd (omega (arith, some))
axes_first (master ∷ masters) [] some e = absurd cc
axes_first (master ∷ masters) (place ∷ places) some e =
    ap axis_count e

-- a source's header, of which glyphs are drawn
module _ (laws : DrawingLaws) (tree : Tree) (header : Header) (index : List Entry)
    (read : header_of tree ≡ Ok header) where
  whole : (number : ℕ) (raw : GlyphIr) → raw_in tree header index number ≡ Ok raw
      → IsWholeGlyph tree header index number raw
  whole number raw made = raw_whole laws.glyphs tree header index number raw read made

  some_masters : 0 < length header.masters
  some_masters =
      let origin = (laws.headers tree header read).origin in omega (arith, origin)

  -- a glyph that is read stands at the masters first
  raw_begins : (number : ℕ) (raw : GlyphIr) → raw_in tree header index number ≡ Ok raw
      → take (length header.masters) raw.places ≡ master_places header
  raw_begins number raw made =
      let first = (whole number raw made).masters in
      ap (take (length header.masters)) first.places ∙ take_masters header.masters first.others

  -- and is drawn so, where its bases are
  pub bases_fit : (number : ℕ) (raw : GlyphIr) (bases : List FlatGlyph)
      → raw_in tree header index number ≡ Ok raw → AllByRecursion (IsDrawn header) bases
      → AllByRecursion (IsBase raw.places) bases
  bases_fit number raw [] made each = tt
  bases_fit number raw (base ∷ bases) made each = (
    record {
      flat = each.0.flat;
      axes = axes_first header.masters base.places some_masters each.0.places
          ∙ sym (axes_first header.masters raw.places some_masters (raw_begins number raw made));
    },
    bases_fit number raw bases made each.1,
  )

  is_drawn : (number : ℕ) (raw : GlyphIr) (bases : List FlatGlyph) (flat : FlatGlyph)
      → raw_in tree header index number ≡ Ok raw → flat_in raw index bases ≡ Ok flat
      → AllByRecursion (IsDrawn header) bases → IsDrawn header flat
  is_drawn number raw bases flat made drawn_so each =
      let known = flat_known index raw bases flat drawn_so in
      record {
        flat = laws.drawn index known.name raw bases flat (whole number raw made).read
            (all_by (IsBase raw.places) bases (bases_fit number raw bases made each))
            known.drawn_so;
        places = ap (take (length header.masters)) known.places ∙ raw_begins number raw made;
      }

  pub all_drawn : (source : List ℕ) (glyphs : List ℕ) (flats : List FlatGlyph)
      → AllDrawn (parts source) tree header index glyphs flats
      → AllByRecursion (IsDrawn header) flats
  all_drawn source _ _ no_more = tt
  all_drawn source _ _ (one_more glyph raw of_bases flat glyphs flats made below drawn_so rest) = (
    is_drawn glyph raw of_bases flat made drawn_so
        (all_drawn source (bases_in raw index) of_bases below),
    all_drawn source glyphs flats rest,
  )

  pub one_drawn : (source : List ℕ) (glyph : ℕ) (flat : FlatGlyph)
      → DrawnSo (parts source) tree header index glyph flat → IsDrawn header flat
  one_drawn source glyph flat d = is_drawn glyph d.raw d.of_bases flat d.raw_made d.flat_made
      (all_drawn source (bases_in d.raw index) d.of_bases d.bases_drawn)

-- it is the glyph of its number
pub drawn_number : (source : List ℕ) (tree : Tree) (header : Header) (index : List Entry)
    (number : ℕ) (flat : FlatGlyph) → DrawnSo (parts source) tree header index number flat
    → (flat.number ≡ number) × (number < length index)
drawn_number source tree header index number flat d =
    let known = raw_known tree header index number d.raw d.raw_made in
    ((flat_known index d.raw d.of_bases flat d.flat_made).number ∙ known.number_is, known.within)

-- a name of the index has a number
pub found_number : (n : ℕ) (index : List Entry) (name : List ℕ)
    → is_some (lookup (pointwise nat_eq name) index) ≡ true
    → length (number_of (named_from n name index)) ≡ 1
found_number n [] name e = absurd cc
found_number n (entry ∷ index) name e =
    by (pointwise nat_eq name entry.0) e (found_number (n + 1) index name)
  where
    by : (b : Bool) → is_some (cond b (Some entry.1) (lookup (pointwise nat_eq name) index)) ≡ true
        → (is_some (lookup (pointwise nat_eq name) index) ≡ true
        → length (number_of (named_from (n + 1) name index)) ≡ 1)
        → length (number_of (if b then Some (n, entry) else named_from (n + 1) name index)) ≡ 1
    by true f rest = refl
    by false f rest = rest f

-- one base for each component, since all of them are in the index
shape_count : (index : List Entry) (shapes : List Shape)
    → AllByRecursion (λ base. is_glyph index base ≡ true) (bases_of shapes)
    → length (flat_map (shape_bases index) shapes) ≡ length (names_of shapes)
shape_count index [] known = refl
shape_count index (Path contour ∷ shapes) known = shape_count index shapes known
shape_count index (Component base at scale quarters ∷ shapes) known =
    let rest = shape_count index shapes known.1 in
    let one = found_number 0 index base known.0 in
    let joined = length-append (shape_bases index (Component base at scale quarters))
    (flat_map (shape_bases index) shapes) in
    omega (arith, rest, one, joined)

pub first_known : (layers : List LayerIr) (index : List Entry)
    → All (λ layer. All (λ base. is_glyph index base ≡ true) (bases_of layer.shapes)) layers
    → AllByRecursion (λ base. is_glyph index base ≡ true) (bases_of
    (slice_index_or layers 0 (record { width = pos 0; shapes = []; anchors = [] })).shapes)
first_known [] index known = tt
first_known (layer ∷ layers) index known =
    by_all (λ base. is_glyph index base ≡ true) (bases_of layer.shapes) (known 0 layer (omega arith))

pub drawn_count : (source : List ℕ) (tree : Tree) (header : Header) (index : List Entry)
    (glyphs : List ℕ) (flats : List FlatGlyph)
    → AllDrawn (parts source) tree header index glyphs flats → length flats ≡ length glyphs
drawn_count source tree header index _ _ no_more = refl
drawn_count source tree header index _ _ (one_more glyph raw of_bases flat glyphs flats made below
    so rest) = ap suc (drawn_count source tree header index glyphs flats rest)

pub has_bases : (source : List ℕ) (tree : Tree) (header : Header) (index : List Entry)
    (number : ℕ) (raw : GlyphIr) (flats : List FlatGlyph)
    → IsWholeGlyph tree header index number raw
    → AllDrawn (parts source) tree header index (bases_in raw index) flats → HasBases raw flats
has_bases source tree header index number raw flats whole drawn =
    drawn_count source tree header index (bases_in raw index) flats drawn
    ∙ shape_count index (first_shapes raw) (first_known raw.layers index whole.bases)

-- ---- the numbers of glyphs are those of glyphs of the index

within_from : (n : ℕ) (index : List Entry) (number : ℕ) → In number (numbers_from n index)
    → number < n + length index
within_from n [] number i = absurd i
within_from n (entry ∷ index) number (inl e) =
    subst (λ m. m < n + length (entry ∷ index)) e (omega arith)
within_from n (entry ∷ index) number (inr j) =
    let rest = within_from (n + 1) index number j in omega (arith, rest)

pub number_within : (index : List Entry) (number : ℕ) → In number (all_in index)
    → number < length index
number_within index number i = let within = within_from 0 index number i in omega (arith, within)
