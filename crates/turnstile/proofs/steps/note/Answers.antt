use Rattle.std.proofs.Common.{length, sym, ap, ◌∙◌, arith}
use Rattle.turnstile.proofs.Lines.{added_of}
use Rattle.turnstile.proofs.Allowed.{note_allowed}
use Rattle.turnstile.proofs.steps.note.Goals as goal

pub store-requires : goal.store-requires
store-requires g c =
    let words = c.requires.table.1 in
    let at = c.requires.served in
    let count = c.count-count.ensures ∙ ap (λ xs. length xs) (sym c.requires.list) in (
      c.requires.table.0,
      omega arith,
      note_allowed g.B.Counted.entries g.B.Counted.root _ _ _ _ _
          at.0 _ at.1 _ _ at.2 at.3 (added_of _ _ at.4) count,
    )
