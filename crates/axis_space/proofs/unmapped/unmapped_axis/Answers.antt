use Rattle.std.proofs.Common.{arith, rules, sym, subst}
use Rattle.axis_space.specs.UnmappedAxes.{TellsUnmapped}
use Rattle.axis_space.proofs.UnmappedLemmas.{told_some, told_none, first_unmapped_tells}
use Rattle.axis_space.proofs.unmapped.unmapped_axis.Goals as goal

pub returns-then-not-branch-clause-computed : goal.returns-then-not-branch-clause-computed
returns-then-not-branch-clause-computed c =
    told_some c.args.masters.now c.args.origin c.args.axes c.loop-axis.axis (record {
      within = c.loop-axis-test.true;
      passes = search rules;
      before = c.loop-axis.invariant;
    })

pub returns-then-not-branch-clause-told : goal.returns-then-not-branch-clause-told
returns-then-not-branch-clause-told c =
    subst (TellsUnmapped c.args.masters.now c.args.origin c.args.axes)
    (sym (returns-then-not-branch-clause-computed c))
    (first_unmapped_tells c.args.masters.now c.args.origin c.args.axes)

pub returns-clause-computed : goal.returns-clause-computed
returns-clause-computed c =
    told_none c.args.masters.now c.args.origin c.args.axes
    (λ k h. let past = c.loop-axis-test.false in c.loop-axis.invariant k (omega (arith, h, past)))

pub returns-clause-told : goal.returns-clause-told
returns-clause-told c =
    subst (TellsUnmapped c.args.masters.now c.args.origin c.args.axes)
    (sym (returns-clause-computed c))
    (first_unmapped_tells c.args.masters.now c.args.origin c.args.axes)
