use Rattle.std.proofs.Common.{◌≡◌, ◌%◌, ◌^◌, [], ◌∷◌, ◌++◌, length, drop, Some, None, refl, sym, ap}
use Rattle.std.proofs.Common.{◌∙◌, subst, arith}
use Rattle.atomic_table.specs.Table.{rest}
use Rattle.turnstile.specs.declared.knowledge.Stage.TheVariants.{Noted}
use Rattle.turnstile.specs.Entries.{AddsAtMostOne}
use Rattle.turnstile.specs.Members.{seen_of}
use Rattle.turnstile.specs.Steps.{seat_of, after_adding}
use Rattle.turnstile.proofs.Lines.{beyond}
use Rattle.turnstile.proofs.Allowed.{slot_value, give_allowed}
use Rattle.turnstile.proofs.Calls.{away_of}
use Rattle.turnstile.proofs.steps.give_back.Goals as goal

pub note-requires-clause-served : goal.note-requires-clause-served
note-requires-clause-served g c =
    let at = c.requires.served in
    let m = at.0 in
    let h = at.1 in
    let list = g.B.Counted.entries c.args.value in
    let seen = sym (ap (λ v. seen_of v.members) h.view) in
    let added = beyond m.worker m.seen list h.list in (
      h.at,
      m,
      h.view,
      added.0 ∙ ap (λ xs. m.seen ++ drop (length xs) list) seen,
      subst (λ xs. AddsAtMostOne m.worker [] (drop (length xs) list)) seen added.1,
    )

pub exchange-empty-requires : goal.exchange-empty-requires
exchange-empty-requires g c =
    let at = c.requires.served in
    let m = at.0 in
    let h = at.1 in
    let noted = c.note.ensures.noted h.at m h.view in
    let slot = noted.1 ∙ h.slot in (
      c.note.ensures.table ∙ c.requires.table.0,
      (None, slot ∙ ap (λ cs. (0, None) ∷ rest cs) (sym slot)),
    )

pub unreachable-requires : goal.unreachable-requires
unreachable-requires g c =
    let at = c.requires.served in
    let m = at.0 in
    let h = at.1 in
    let noted = c.note.ensures.noted h.at m h.view in
    let slot = noted.1 ∙ h.slot in
    c.in_default.not-None (sym (slot_value _ _ _ _ _ _ (sym slot ∙ c.exchange-empty.ensures.2)))

pub store-requires : goal.store-requires
store-requires g c =
    let at = c.requires.served in
    let m = at.0 in
    let h = at.1 in
    let noted = c.note.ensures.noted h.at m h.view in
    let slot = noted.1 ∙ h.slot in
    let put = c.exchange-empty.ensures.3 in
    let words = c.requires.table.1 in
    let ticket : c.args.ticket ≡ h.at % 2 ^ 64 = h.is_ticket in (
      c.exchange-empty.ensures.0 ∙ (c.note.ensures.table ∙ c.requires.table.0),
      omega arith,
      give_allowed g.B.Counted.entries g.B.Counted.root _ _ _ _ _ h.at _ _ c.args.value
          (ap (λ me. me.0) put ∙ noted.0)
          (ap (λ me. me.1) put ∙ ap (λ cs. (0, Some c.args.value) ∷ rest cs) slot) refl h.same_root
          (omega arith),
    )

pub returns-then-peek-next-clause-left : goal.returns-then-peek-next-clause-left
returns-then-peek-next-clause-left g c m h =
    let noted = c.note.ensures.noted h.at m h.view in
    let slot = noted.1 ∙ h.slot in
    let put = c.exchange-empty.ensures.3 in
    let gave = c.store.ensures.2 in
    let list = g.B.Counted.entries c.args.value in
    let seen = ap (λ v. seen_of v.members) h.view in
    let kept = ap (λ me. me.0) put ∙ (noted.0
    ∙ ap (λ xs. seat_of (Noted h.at) (after_adding list (drop (length xs) list) m)) seen) in
    let view = gave.2 ∙ ap (λ v. away_of v) kept in
    let slots = gave.3 ∙ (ap (λ me. rest me.1) put ∙ ap (λ cs. rest cs) slot) in
    λ i. (view i, slots i)

pub returns-else-peek-next-clause-left : goal.returns-else-peek-next-clause-left
returns-else-peek-next-clause-left g c m h =
    let noted = c.note.ensures.noted h.at m h.view in
    let slot = noted.1 ∙ h.slot in
    let put = c.exchange-empty.ensures.3 in
    let gave = c.store.ensures.2 in
    let list = g.B.Counted.entries c.args.value in
    let seen = ap (λ v. seen_of v.members) h.view in
    let kept = ap (λ me. me.0) put ∙ (noted.0
    ∙ ap (λ xs. seat_of (Noted h.at) (after_adding list (drop (length xs) list) m)) seen) in
    let view = gave.2 ∙ ap (λ v. away_of v) kept in
    let slots = gave.3 ∙ (ap (λ me. rest me.1) put ∙ ap (λ cs. rest cs) slot) in
    λ i. (view i, slots i)
