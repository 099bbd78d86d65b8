-- what the job finds is what its part reads
use Rattle.std.proofs.Common.{map, ap, sym, ◌∙◌, subst, Some}
use Rattle.std.specs.Arc.{arc_value}
use Rattle.std.proofs.lemmas.List.{length-map}
use Rattle.std.proofs.lemmas.Simd.{map-map}
use Rattle.font_ir.specs.FlatGlyphs.{glyphs_of}
use Rattle.font_ir.specs.Headers.{IsHeader}
use Rattle.font_graph.specs.Running.{advances_finds}
use Rattle.font_graph.specs.declared.items.Item.TheVariants as an
use Rattle.font_plan.specs.Jobs.{parts, measures_over}
use Rattle.font_plan.specs.Settling.{Comes, made_by, none}
use Rattle.font_plan.proofs.Found.{glyphs_there, glyphs_found}
use Rattle.font_plan.proofs.Runs.{advances_comes}
use Rattle.font_plan.proofs.plan.FontPlan.run_advances.Goals as goal

pub header_in-requires : goal.header_in-requires
header_in-requires c =
    (advances_finds (parts c.args.self.now) c.args.reads.now c.requires.due c.requires.done).header

pub order_in-order-requires : goal.order_in-order-requires
order_in-order-requires c =
    (advances_finds (parts c.args.self.now) c.args.reads.now c.requires.due c.requires.done).order

pub glyphs_in-requires-clause-there : goal.glyphs_in-requires-clause-there
glyphs_in-requires-clause-there c = glyphs_there c.args.self.now c.args.reads.now
    c.get-header.result.now c.order_in-order.result.now
    (advances_finds (parts c.args.self.now) c.args.reads.now c.requires.due c.requires.done)
    (c.header_in.ensures ∙ ap Some (sym c.get-header.ensures.value)) c.order_in-order.ensures

pub run_advances-requires-clause-drawn : goal.run_advances-requires-clause-drawn
run_advances-requires-clause-drawn c = (glyphs_found c.drawing_laws.ensures c.entries_are_numbered.ensures.named c.args.self.now
    c.args.reads.now c.get-header.result.now c.order_in-order.result.now
    (glyphs_of c.as_slice.result.now)
    (advances_finds (parts c.args.self.now) c.args.reads.now c.requires.due c.requires.done)
    (c.header_in.ensures ∙ ap Some (sym c.get-header.ensures.value))
    c.order_in-order.ensures
    (map-map Some arc_value c.as_slice.result.now
    ∙ ap (λ items. map (λ glyph. Some (arc_value glyph)) items) c.as_slice.ensures.value
    ∙ c.in_ok-glyphs.ensures.glyphs)
    (c.made_notdef_is_flat.ensures c.get-header.result.now
    (subst IsHeader (sym c.get-header.ensures.value) c.get-header.ensures.holds))).drawn_are

pub run_advances-requires-clause-order : goal.run_advances-requires-clause-order
run_advances-requires-clause-order c = sym (length-map c.as_slice.result.now arc_value)
    ∙ (glyphs_found c.drawing_laws.ensures c.entries_are_numbered.ensures.named c.args.self.now
    c.args.reads.now c.get-header.result.now c.order_in-order.result.now
    (glyphs_of c.as_slice.result.now)
    (advances_finds (parts c.args.self.now) c.args.reads.now c.requires.due c.requires.done)
    (c.header_in.ensures ∙ ap Some (sym c.get-header.ensures.value))
    c.order_in-order.ensures
    (map-map Some arc_value c.as_slice.result.now
    ∙ ap (λ items. map (λ glyph. Some (arc_value glyph)) items) c.as_slice.ensures.value
    ∙ c.in_ok-glyphs.ensures.glyphs)
    (c.made_notdef_is_flat.ensures c.get-header.result.now
    (subst IsHeader (sym c.get-header.ensures.value) c.get-header.ensures.holds))).count

pub run_advances-requires-clause-nesting : goal.run_advances-requires-clause-nesting
run_advances-requires-clause-nesting c = (glyphs_found c.drawing_laws.ensures c.entries_are_numbered.ensures.named c.args.self.now
    c.args.reads.now c.get-header.result.now c.order_in-order.result.now
    (glyphs_of c.as_slice.result.now)
    (advances_finds (parts c.args.self.now) c.args.reads.now c.requires.due c.requires.done)
    (c.header_in.ensures ∙ ap Some (sym c.get-header.ensures.value))
    c.order_in-order.ensures
    (map-map Some arc_value c.as_slice.result.now
    ∙ ap (λ items. map (λ glyph. Some (arc_value glyph)) items) c.as_slice.ensures.value
    ∙ c.in_ok-glyphs.ensures.glyphs)
    (c.made_notdef_is_flat.ensures c.get-header.result.now
    (subst IsHeader (sym c.get-header.ensures.value) c.get-header.ensures.holds))).nesting

pub returns : goal.returns
returns c =
    let found = (glyphs_found c.drawing_laws.ensures c.entries_are_numbered.ensures.named c.args.self.now
    c.args.reads.now c.get-header.result.now c.order_in-order.result.now
    (glyphs_of c.as_slice.result.now)
    (advances_finds (parts c.args.self.now) c.args.reads.now c.requires.due c.requires.done)
    (c.header_in.ensures ∙ ap Some (sym c.get-header.ensures.value))
    c.order_in-order.ensures
    (map-map Some arc_value c.as_slice.result.now
    ∙ ap (λ items. map (λ glyph. Some (arc_value glyph)) items) c.as_slice.ensures.value
    ∙ c.in_ok-glyphs.ensures.glyphs)
    (c.made_notdef_is_flat.ensures c.get-header.result.now
    (subst IsHeader (sym c.get-header.ensures.value) c.get-header.ensures.holds))) in
    subst (Comes c.run_advances.result)
    (ap (λ glyphs. made_by an.Advances none (measures_over c.get-header.result.now
    c.order_in-order.result.now.names glyphs)) found.glyphs_are
    ∙ advances_comes c.args.self.now c.args.reads.now c.get-header.result.now
    c.order_in-order.result.now found.flats
    (c.header_in.ensures ∙ ap Some (sym c.get-header.ensures.value))
    c.order_in-order.ensures found.flats_are) c.run_advances.ensures
