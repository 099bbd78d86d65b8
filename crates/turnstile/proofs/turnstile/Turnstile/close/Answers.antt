use Rattle.std.proofs.Common.{◌≡◌, Some, length, rules, arith, refl, sym, ap, ◌∙◌, subst}
use Rattle.std.specs.List.{All}
use Rattle.std.specs.Option.{IsSome}
use Rattle.std.proofs.lemmas.List.{length-map}
use mathlib.Core.Option.{some-injective}
use Rattle.turnstile.specs.Entries.{entries_of}
use Rattle.turnstile.specs.Members.{AllKnow}
use Rattle.turnstile.specs.Passes.{member_of, IsHistoryOf}
use Rattle.turnstile.proofs.Allowed.{closes}
use Rattle.turnstile.proofs.Ends.{all_history}
use Rattle.turnstile.proofs.turnstile.Turnstile.close.Goals as goal

pub unwrap-requires : goal.unwrap-requires
unwrap-requires g c =
    let items = c.args.passes.items in
    let end = c.gather-seat.ensures.everyone in
    let entries = g.B.Counted.entries in
    let root = g.B.Counted.root in
    let key = c.self.inside.table.shared.key in
    let every : length c.gather-seat.result.me.0.members ≡ key.passes =
    ap (λ me. length me.0.members) end
    ∙ (length-map items member_of ∙ (c.requires.all
    ∙ (sym (ap (λ t. t.passes) c.self.view_is) ∙ sym c.self.invariant.2))) in
    let left = closes entries root key.passes (root key.value.value) c.gather-seat.result.id
    c.gather-seat.result.me.0 _ _ (ap (λ me. me.0.stage) end) every
    c.close_with-closed.ensures.values.2 in
    let same : c.take-value.result ≡ Some left.value
    = some-injective _ _ (sym c.take-value.ensures.value ∙ left.there) in
    subst (λ x. IsSome x) (sym same) refl

pub returns-clause-history : goal.returns-clause-history
returns-clause-history g c =
    let items = c.args.passes.items in
    let end = c.gather-seat.ensures.everyone in
    let entries = g.B.Counted.entries in
    let root = g.B.Counted.root in
    let key = c.self.inside.table.shared.key in
    let every : length c.gather-seat.result.me.0.members ≡ key.passes =
    ap (λ me. length me.0.members) end
    ∙ (length-map items member_of ∙ (c.requires.all
    ∙ (sym (ap (λ t. t.passes) c.self.view_is) ∙ sym c.self.invariant.2))) in
    let left = closes entries root key.passes (root key.value.value) c.gather-seat.result.id
    c.gather-seat.result.me.0 _ _ (ap (λ me. me.0.stage) end) every
    c.close_with-closed.ensures.values.2 in
    let same : c.take-value.result ≡ Some left.value
    = some-injective _ _ (sym c.take-value.ensures.value ∙ left.there) in
    let value : left.value ≡ c.unwrap.result = search rules in
    let know = subst (λ ms. AllKnow (entries left.value) (root key.value.value) ms)
    (ap (λ me. me.0.members) end) left.know in
    subst (λ (b : g.row.B.Denot). All (IsHistoryOf (entries b) (root b)) items) value
    (all_history (entries left.value) (root key.value.value) (root left.value) left.same_root items
    know)

pub returns-clause-nobody_else : goal.returns-clause-nobody_else
returns-clause-nobody_else g c k le =
    let items = c.args.passes.items in
    let end = c.gather-seat.ensures.everyone in
    let entries = g.B.Counted.entries in
    let root = g.B.Counted.root in
    let key = c.self.inside.table.shared.key in
    let every : length c.gather-seat.result.me.0.members ≡ key.passes =
    ap (λ me. length me.0.members) end
    ∙ (length-map items member_of ∙ (c.requires.all
    ∙ (sym (ap (λ t. t.passes) c.self.view_is) ∙ sym c.self.invariant.2))) in
    let left = closes entries root key.passes (root key.value.value) c.gather-seat.result.id
    c.gather-seat.result.me.0 _ _ (ap (λ me. me.0.stage) end) every
    c.close_with-closed.ensures.values.2 in
    let same : c.take-value.result ≡ Some left.value
    = some-injective _ _ (sym c.take-value.ensures.value ∙ left.there) in
    let value : left.value ≡ c.unwrap.result = search rules in
    let passes : key.passes ≡ c.args.self.passes = c.self.invariant.2
    ∙ ap (λ t. t.passes) c.self.view_is in
    ap (λ (b : g.row.B.Denot). entries_of k (entries b)) (sym value)
    ∙ left.nobody_else k (omega arith)
