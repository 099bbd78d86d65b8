use Rattle.std.proofs.Common.{◌≡◌, ◌∙◌, false, not, arith, sym, subst, ap}
use Rattle.std.proofs.Common.{below_more}
use Rattle.axis_space.specs.Repeats.{TellsRepeat, is_again}
use Rattle.axis_space.proofs.RepeatLemmas.{told_some, told_none, first_repeat_tells, seen_more}
use Rattle.axis_space.proofs.RepeatLemmas.{again_by_seen}
use Rattle.axis_space.proofs.repeats.repeated_place.Goals as goal

pub loop-i-preserved : goal.loop-i-preserved
loop-i-preserved c =
    let places = c.args.places.now in
    let key = c.as_slice.result in
    let at = c.as_slice.ensures ∙ c.index-places-i.is in
    let is : is_again places c.loop-i.i ≡ false =
    again_by_seen places c.loop-i.i key.now c.index-places-i.result _ _ c.loop-i-test.true at
    (c.loop-i.invariant.seen key) c.in_ok-insert.ensures.added ∙ ap not c.if-not-branch.false in
    record {
      seen = λ q. seen_more places c.loop-i.i key.now c.index-places-i.result q.now _ _
          c.loop-i-test.true at (c.loop-i.invariant.seen q) (c.in_ok-insert.ensures.updates.0 q);
      none = below_more _ _ c.loop-i.invariant.none is;
    }

pub returns-clause-computed : goal.returns-clause-computed
returns-clause-computed c =
    let past = c.loop-i-test.false in
    told_none c.args.places.now (λ k h. c.loop-i.invariant.none k (omega (arith, h, past)))

pub returns-clause-told : goal.returns-clause-told
returns-clause-told c =
    let places = c.args.places.now in
    subst (TellsRepeat places) (sym (returns-clause-computed c)) (first_repeat_tells places)

pub returns-then-not-branch-clause-computed : goal.returns-then-not-branch-clause-computed
returns-then-not-branch-clause-computed c =
    let places = c.args.places.now in
    let key = c.as_slice.result in
    told_some places c.loop-i.i (record {
      within = c.loop-i-test.true;
      passes = again_by_seen places c.loop-i.i key.now c.index-places-i.result _ _
          c.loop-i-test.true (c.as_slice.ensures ∙ c.index-places-i.is)
          (c.loop-i.invariant.seen key) c.in_ok-insert.ensures.added
          ∙ ap not c.if-not-branch.true;
      before = c.loop-i.invariant.none;
    })

pub returns-then-not-branch-clause-told : goal.returns-then-not-branch-clause-told
returns-then-not-branch-clause-told c =
    let places = c.args.places.now in
    subst (TellsRepeat places) (sym (returns-then-not-branch-clause-computed c))
    (first_repeat_tells places)
