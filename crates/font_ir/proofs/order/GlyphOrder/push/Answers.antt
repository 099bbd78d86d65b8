use Rattle.std.proofs.Common.{nat_eq, not, is_some, sym, ap, ◌∙◌, cond, ◌≡◌, ◌+◌, length, arith}
use Rattle.std.specs.List.{list_any}
use Rattle.std.specs.Cmp.Lexicographic.{pointwise, bytes_decides}
use Rattle.std.proofs.lemmas.Map.Made.{AllPairs-from_IsDistinct}
use Rattle.std.proofs.lemmas.List.{length-map}
use Rattle.font_ir.specs.Glyphs.{gid_of}
use Rattle.font_ir.proofs.Names.{is_some-position_map, IsDistinct-map, short_inserted}
use Rattle.font_ir.proofs.order.GlyphOrder.push.Goals as goal

pub invariant_of-self-in-Continue-branch-4 : goal.invariant_of-self-in-Continue-branch-4
invariant_of-self-in-Continue-branch-4 c =
    let old = c.self.inside.names.keys in
    let new = c.insert.new.self.keys in
    let grown : length new ≡ length old + 1 = c.in_ok-added.ensures.len
    ∙ ap (λ added. length old + cond added 1 0) c.if-added.true in
    let names_old = length-map old (λ name. name.items) in
    let names_new = length-map new (λ name. name.items) in
    record {
      few = omega (arith, names_old, names_new, ap (λ order. length order.names) c.self.view_is);
      different = AllPairs-from_IsDistinct bytes_decides _
          (IsDistinct-map (pointwise nat_eq) (λ name. name.items) c.insert.new.self.keys
          c.insert.ensures.unique);
      short = short_inserted (λ key. key.items) _ old new _ c.in_ok-added.ensures.keys
          c.self.invariant.short
          (omega (arith, ap length c.in_ok-name.ensures.items, c.requires.short));
      one_number = omega (
        arith,
        names_old,
        names_new,
        c.in_ok-push.ensures.len,
        c.in_ok-reserve.ensures.len,
      );
    }

pub returns-in_ok-push-clause-added : goal.returns-in_ok-push-clause-added
returns-in_ok-push-clause-added c =
    let keys = c.self.inside.names.keys in
    let name = c.args.name.now in
    c.in_ok-added.ensures.added
    ∙ ap (λ bytes. not (list_any (λ key. pointwise nat_eq bytes key.items) keys))
    c.in_ok-name.ensures.items
    ∙ ap not (sym (is_some-position_map (pointwise nat_eq name) (λ key. key.items) keys)
    ∙ ap (λ order. is_some (gid_of order.names name)) c.self.view_is)

pub returns-else-added-clause-added : goal.returns-else-added-clause-added
returns-else-added-clause-added c =
    let keys = c.self.inside.names.keys in
    let name = c.args.name.now in
    c.in_ok-added.ensures.added
    ∙ ap (λ bytes. not (list_any (λ key. pointwise nat_eq bytes key.items) keys))
    c.in_ok-name.ensures.items
    ∙ ap not (sym (is_some-position_map (pointwise nat_eq name) (λ key. key.items) keys)
    ∙ ap (λ order. is_some (gid_of order.names name)) c.self.view_is)
