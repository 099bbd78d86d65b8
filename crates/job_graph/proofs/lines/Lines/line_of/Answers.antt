use Rattle.std.proofs.Common.{Some, None, cond, ap, ◌∙◌}
use Rattle.job_graph.specs.Places.{first_of}
use Rattle.job_graph.proofs.Waiting.{waits_more, joins_push}
use Rattle.job_graph.proofs.lines.Lines.line_of.Goals as goal

pub returns-then-note_place-clause-kept : goal.returns-then-note_place-clause-kept
returns-then-note_place-clause-kept g c =
    waits_more g.Id.Ord.cmp c.args.self.now.places c.note_place.new.places
    c.args.self.now.lines.items c.push.new.self.items
    (joins_push _ _ _ c.in_ok-push.ensures.items)
    (λ q place e. c.note_place.ensures.noted c.if-note_place.true q
    ∙ ap (λ o. first_of o (cond (g.Id.PartialEq.eq c.args.id q) (Some c.len-line.result) None))
    e)

pub returns-else-note_place-clause-kept : goal.returns-else-note_place-clause-kept
returns-else-note_place-clause-kept g c =
    waits_more g.Id.Ord.cmp c.args.self.now.places c.note_place.new.places
    c.args.self.now.lines.items c.push.new.self.items
    (joins_push _ _ _ c.in_ok-push.ensures.items)
    (λ q place e. c.note_place.ensures.kept c.if-note_place.false q ∙ e)
