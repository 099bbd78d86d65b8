use Rattle.std.proofs.Common.{◌≡◌, ◌∷◌, Some, None, rules, refl, sym, ap, ◌∙◌, subst}
use Rattle.std.specs.Option.{IsSome}
use Rattle.atomic_table.specs.Table.{rest}
use Rattle.turnstile.specs.declared.knowledge.Stage.TheVariants.{Served}
use Rattle.turnstile.specs.Entries.{entries_of}
use Rattle.turnstile.specs.Steps.{seat_of, after_seeing}
use Rattle.turnstile.proofs.Allowed.{slot_value}
use Rattle.turnstile.proofs.steps.take_turn.Goals as goal

pub wait_for-requires-clause-waiting : goal.wait_for-requires-clause-waiting
wait_for-requires-clause-waiting g c =
    let at = c.requires.away in
    let drawn = c.draw-ticket.ensures.drawn at.0 at.1 in
    (drawn.0, at.0, drawn.1, drawn.2)

pub exchange-requires : goal.exchange-requires
exchange-requires g c =
    let at = c.requires.away in
    let drawn = c.draw-ticket.ensures.drawn at.0 at.1 in
    let took = c.wait_for.ensures.taken drawn.0 at.0 drawn.1 drawn.2 in (
      c.wait_for.ensures.table ∙ (c.draw-ticket.ensures.table ∙ c.requires.table.0),
      (Some took.value, took.slot ∙ ap (λ cs. (0, Some took.value) ∷ rest cs) (sym took.slot)),
    )

pub unwrap-value-requires : goal.unwrap-value-requires
unwrap-value-requires g c =
    let at = c.requires.away in
    let drawn = c.draw-ticket.ensures.drawn at.0 at.1 in
    let took = c.wait_for.ensures.taken drawn.0 at.0 drawn.1 drawn.2 in
    let same : Some took.value ≡ c.exchange.result
    = slot_value _ _ _ _ _ _ (sym took.slot ∙ c.exchange.ensures.2) in
    subst (λ x. IsSome x) same refl

pub returns-clause-turn : goal.returns-clause-turn
returns-clause-turn g c m is =
    let drawn = c.draw-ticket.ensures.drawn m is in
    let took = c.wait_for.ensures.taken drawn.0 m drawn.1 drawn.2 in
    let same : Some took.value ≡ c.exchange.result
    = slot_value _ _ _ _ _ _ (sym took.slot ∙ c.exchange.ensures.2) in
    let value : took.value ≡ c.unwrap-value.result = search rules in
    let now = c.exchange.ensures.3 in record {
      at = drawn.0;
      is_ticket = drawn.1;
      view = ap (λ me. me.0) now ∙ (took.view
          ∙ ap (λ v. seat_of (Served drawn.0) (after_seeing (g.B.Counted.entries v) m)) value);
      slot = ap (λ me. me.1) now ∙ ap (λ cs. (0, None) ∷ rest cs) took.slot;
      begins = (took.begins.0, ap g.B.Counted.entries (sym value) ∙ took.begins.1);
      mine = ap (λ v. entries_of m.worker (g.B.Counted.entries v)) (sym value) ∙ took.mine;
      same_root = ap g.B.Counted.root (sym value) ∙ took.same_root;
    }
