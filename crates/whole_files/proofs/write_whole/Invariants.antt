-- the path holds all of the bytes but the rest
use Rattle.std.proofs.Common.{length}
use Rattle.outside_io.specs.Counts.{NoneRises}
use Rattle.outside_io.specs.Files.{LeavesOthers}
use Rattle.whole_files.specs.Requests.{Since, OfferAll}
use Rattle.whole_files.proofs.Fronts.{IsWritten}
use Rattle.whole_files.proofs.write_whole.Given as goal

abbrev pub invariant-loop-rest : goal.invariant-loop-rest
invariant-loop-rest g l =
    let holds = g.F.Files.holds in
    record {
      written : IsWritten l.bytes l.rest (holds l.fn.files l.path) (holds l.files l.path);
      others : LeavesOthers l.path (holds l.fn.files) (holds l.files);
      writes : NoneRises (g.F.Files.failed_writes l.fn.files) (g.F.Files.failed_writes l.files);
      reads : NoneRises (g.F.Files.failed_reads l.fn.files) (g.F.Files.failed_reads l.files);
      asked : Since (λ calls. OfferAll l.path l.bytes calls l.rest) (g.F.Files.calls l.fn.files)
          (g.F.Files.calls l.files);
    }

abbrev pub decreases-loop-rest : goal.decreases-loop-rest
decreases-loop-rest g l = length l.rest
