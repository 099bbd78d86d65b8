use Rattle.std.proofs.Common.{◌∙◌}
use Rattle.whole_files.specs.Printing.{printed}
use Rattle.whole_files.proofs.Fronts.{on_error}
use Rattle.whole_files.proofs.Prints.{more_printed, part_printed}
use Rattle.whole_files.proofs.printing.print_whole.Goals as goal

pub returns-in_err-count-clause-err : goal.returns-in_err-count-clause-err
returns-in_err-count-clause-err g c =
    let shown = printed g.C.Console.took g.C.Console.failed_writes in
    on_error _ _ (part_printed c.args.bytes.now c.loop-rest.rest.now (shown c.args.console.now)
    (shown c.loop-rest.console) (shown c.write.new.self) c.loop-rest.invariant.printed
    c.loop-rest.invariant.failures c.in_err-count.ensures.err c.in_err-count.ensures.cause)

pub loop-rest-preserved : goal.loop-rest-preserved
loop-rest-preserved g c = record {
  printed = more_printed _ _ _ _ _ _ _ c.loop-rest.invariant.printed c.behind-rest.ensures
      c.in_ok-count.ensures.ok;
  failures = c.in_ok-count.ensures.count_ok ∙ c.loop-rest.invariant.failures;
}
