-- the line that is printed is that of the fault
use Rattle.std.proofs.Common.{ℕ, List, refl, subst, ◌∙◌}
use Rattle.whole_files.specs.Printing.{printed, Prints}
use Rattle.fontc_cli.proofs.lines.tell_fault.Goals as goal

pub returns-in-Ok : goal.returns-in-Ok
returns-in-Ok g c = (
  refl,
  subst (λ (bytes : List ℕ). Prints bytes
      (printed g.C.Console.took g.C.Console.failed_writes c.args.console.now)
      (printed g.C.Console.took g.C.Console.failed_writes c.tell.new.console))
      (c.as_str.ensures.value ∙ c.in-Ok.ensures) c.tell.ensures,
)
