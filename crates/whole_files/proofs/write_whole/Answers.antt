use Rattle.std.proofs.Common.{inr, refl, rules}
use Rattle.whole_files.proofs.Asked.{begun_with, offered, some_offers}
use Rattle.whole_files.proofs.Fronts.{more_written, part_written, others_still, on_error}
use Rattle.whole_files.proofs.write_whole.Goals as goal

pub returns-in_err-count-clause-err : goal.returns-in_err-count-clause-err
returns-in_err-count-clause-err g c =
    on_error _ _ (inr (part_written _ _ _ _ _ c.loop-rest.invariant.written
    c.in_err-count.ensures.err))

pub returns-in_err-begin-clause-asked : goal.returns-in_err-begin-clause-asked
returns-in_err-begin-clause-asked g c =
    some_offers _ _ _ _ _ (begun_with c.args.path.now c.args.bytes.now _ _ c.begin.ensures.called)

pub returns-in_err-count-clause-asked : goal.returns-in_err-count-clause-asked
returns-in_err-count-clause-asked g c =
    some_offers _ _ _ _ _ (offered _ _ _ _ _ _ _ _ c.loop-rest.invariant.asked
    c.in_err-count.ensures.called refl)

pub loop-rest-preserved : goal.loop-rest-preserved
loop-rest-preserved g c = record {
  written = more_written _ _ _ _ _ _ _ c.loop-rest.invariant.written c.behind-rest.ensures
      c.in_ok-count.ensures.ok;
  others = others_still _ _ _ c.loop-rest.invariant.others c.append.ensures.others;
  writes = search rules;
  reads = search rules;
  asked = offered _ _ _ _ _ _ _ _ c.loop-rest.invariant.asked c.in_ok-count.ensures.called
      c.behind-rest.ensures;
}
