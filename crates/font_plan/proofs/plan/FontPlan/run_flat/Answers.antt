-- what the job finds is what its part reads
use Rattle.std.proofs.Common.{◌≡◌, ℕ, List, [], map, ap, sym, ◌∙◌, subst, Some}
use Rattle.std.specs.Arc.{arc_value}
use Rattle.std.specs.declared.alloc.Global.{Global}
use Rattle.std.specs.declared.sync.Arc.{Arc}
use Rattle.std.specs.Prelude.{IsSome}
use Rattle.std.specs.List.{All}
use Rattle.std.proofs.lemmas.Simd.{map-map}
use Rattle.font_ir.specs.declared.glyph.FlatGlyph.{FlatGlyph}
use Rattle.font_ir.specs.declared.glyph.GlyphIr.{GlyphIr}
use Rattle.font_ir.specs.FlatGlyphs.{glyphs_of}
use Rattle.character_codes.specs.CharacterCodes.{Entry}
use Rattle.font_graph.specs.Running.{flat_finds, flat_read, flats_read}
use Rattle.font_plan.specs.Bases.{bases_in}
use Rattle.font_plan.specs.Jobs.{parts}
use Rattle.font_plan.specs.Reading.{PlanReads}
use Rattle.font_plan.specs.Settling.{Comes}
use Rattle.font_plan.proofs.Found.{FoundFlat, found_flat, each_there, collected_are}
use Rattle.font_plan.proofs.Runs.{flat_comes}
use Rattle.font_plan.proofs.plan.FontPlan.run_flat.Goals as goal

pub raw_in-requires : goal.raw_in-requires
raw_in-requires c = (flat_finds (parts c.args.self.now) c.args.glyph c.args.reads.now c.requires.due
    c.requires.done).raw

pub index_in-requires : goal.index_in-requires
index_in-requires c = (flat_finds (parts c.args.self.now) c.args.glyph c.args.reads.now
    c.requires.due c.requires.done).index

pub flats_in-requires : goal.flats_in-requires
flats_in-requires c =
    let found = flat_finds (parts c.args.self.now) c.args.glyph c.args.reads.now c.requires.due
    c.requires.done in
    subst (All (λ glyph. IsSome (flat_read (parts []) glyph c.args.reads.now)))
    (sym (c.as_slice-glyphs.ensures.value ∙ c.in_ok-numbers.ensures))
    (each_there (bases_in c.get-raw.result.now c.get-index.result.now) c.args.reads.now
    (found.flats c.get-raw.result.now c.get-index.result.now
    (c.raw_in.ensures ∙ ap Some (sym c.get-raw.ensures.value))
    (c.index_in.ensures ∙ ap Some (sym c.get-index.ensures.value))))

-- what is collected of the bases is what is read of them
collected : (raw : GlyphIr) (index : List Entry) (reads : PlanReads) (glyphs : List ℕ)
    (items bases : List (Arc FlatGlyph Global)) → glyphs ≡ bases_in raw index → bases ≡ items
    → map (λ flat. Some (arc_value flat)) items
    ≡ map (λ glyph. flat_read (parts []) glyph reads) glyphs
    → flats_read (parts []) (bases_in raw index) reads ≡ Some (glyphs_of bases)
collected raw index reads glyphs items bases glyphs_are bases_are is =
    collected_are (bases_in raw index) reads (glyphs_of bases)
    (map-map Some arc_value bases ∙ ap (map (λ flat. Some (arc_value flat))) bases_are ∙ is
    ∙ ap (map (λ glyph. flat_read (parts []) glyph reads)) glyphs_are)

found : (c : goal.After-as_slice-bases) → FoundFlat c.get-index.result.now c.args.glyph
    c.get-raw.result.now (glyphs_of c.as_slice-bases.result.now)
found c = found_flat c.drawing_laws.ensures c.args.self.now c.args.glyph c.args.reads.now
    (flat_finds (parts c.args.self.now) c.args.glyph c.args.reads.now c.requires.due
    c.requires.done) c.get-raw.result.now c.get-index.result.now
    (glyphs_of c.as_slice-bases.result.now)
    (c.raw_in.ensures ∙ ap Some (sym c.get-raw.ensures.value))
    (c.index_in.ensures ∙ ap Some (sym c.get-index.ensures.value))
    (collected c.get-raw.result.now c.get-index.result.now c.args.reads.now
    c.as_slice-glyphs.result.now c.in_ok-flats.flats.items c.as_slice-bases.result.now
    (c.as_slice-glyphs.ensures.value ∙ c.in_ok-numbers.ensures) c.as_slice-bases.ensures.value
    c.in_ok-flats.ensures.flats)

pub run_flat-requires-clause-number : goal.run_flat-requires-clause-number
run_flat-requires-clause-number c = (found c).number

pub run_flat-requires-clause-glyph : goal.run_flat-requires-clause-glyph
run_flat-requires-clause-glyph c = (found c).within

pub run_flat-requires-clause-enough : goal.run_flat-requires-clause-enough
run_flat-requires-clause-enough c = (found c).enough

pub run_flat-requires-clause-bases : goal.run_flat-requires-clause-bases
run_flat-requires-clause-bases c = (found c).bases

pub returns : goal.returns
returns c = subst (Comes c.run_flat.result)
    (flat_comes c.args.self.now c.args.reads.now c.args.glyph c.get-raw.result.now
    c.get-index.result.now (glyphs_of c.as_slice-bases.result.now)
    (c.raw_in.ensures ∙ ap Some (sym c.get-raw.ensures.value))
    (c.index_in.ensures ∙ ap Some (sym c.get-index.ensures.value))
    (collected c.get-raw.result.now c.get-index.result.now c.args.reads.now
    c.as_slice-glyphs.result.now c.in_ok-flats.flats.items c.as_slice-bases.result.now
    (c.as_slice-glyphs.ensures.value ∙ c.in_ok-numbers.ensures) c.as_slice-bases.ensures.value
    c.in_ok-flats.ensures.flats))
    c.run_flat.ensures
