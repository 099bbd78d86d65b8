-- what the job finds is what its part reads
use Rattle.std.proofs.Common.{[], ap, sym, ◌∙◌, subst, Some}
use Rattle.std.specs.Prelude.{IsSome}
use Rattle.std.specs.List.{All}
use Rattle.font_graph.specs.Running.{order_finds, flat_read, flats_read}
use Rattle.font_plan.specs.Jobs.{parts}
use Rattle.font_plan.specs.Order.{numbers_in}
use Rattle.font_plan.specs.Settling.{Comes}
use Rattle.font_plan.proofs.Found.{each_there, each_read}
use Rattle.font_plan.proofs.Orders.{some_there}
use Rattle.font_plan.proofs.Runs.{order_comes}
use Rattle.font_plan.proofs.plan.FontPlan.run_order.Goals as goal

pub header_in-requires : goal.header_in-requires
header_in-requires c =
    (order_finds (parts c.args.self.now) c.args.reads.now c.requires.due c.requires.done).header

pub index_in-requires : goal.index_in-requires
index_in-requires c =
    (order_finds (parts c.args.self.now) c.args.reads.now c.requires.due c.requires.done).index

pub outline_jobs-requires : goal.outline_jobs-requires
outline_jobs-requires c =
    let found = order_finds (parts c.args.self.now) c.args.reads.now c.requires.due c.requires.done
    in subst (All (λ glyph. IsSome (flat_read (parts []) glyph c.args.reads.now)))
    (sym (c.as_slice-glyphs.ensures.value ∙ c.in_ok-numbers.ensures))
    (each_there (numbers_in c.get-index.result.now) c.args.reads.now
    (found.flats c.get-index.result.now
    (c.index_in.ensures ∙ ap Some (sym c.get-index.ensures.value))))

pub run_order-requires-clause-glyphs : goal.run_order-requires-clause-glyphs
run_order-requires-clause-glyphs c = c.as_slice-glyphs.ensures.value ∙ c.in_ok-numbers.ensures

pub returns : goal.returns
returns c =
    let found = order_finds (parts c.args.self.now) c.args.reads.now c.requires.due c.requires.done
    in let index = c.index_in.ensures ∙ ap Some (sym c.get-index.ensures.value) in
    let glyphs = c.as_slice-glyphs.ensures.value ∙ c.in_ok-numbers.ensures in
    let flats = some_there (flats_read (parts []) (numbers_in c.get-index.result.now)
    c.args.reads.now) (found.flats c.get-index.result.now index) in
    subst (Comes c.run_order.result)
    (order_comes c.args.self.now c.args.reads.now c.get-header.result.now c.get-index.result.now
    c.as_slice-glyphs.result.now c.as_slice-outlines.result.now flats.0
    (c.header_in.ensures ∙ ap Some (sym c.get-header.ensures.value)) index flats.1
    (each_read (numbers_in c.get-index.result.now) c.args.reads.now flats.0 flats.1) glyphs
    (c.as_slice-outlines.ensures.value ∙ c.in_ok-jobs.ensures))
    c.run_order.ensures
