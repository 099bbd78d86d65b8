-- what was read are first bytes of what the path holds
use Rattle.std.proofs.Common.{◌≤◌, ◌+◌, ◌-◌, vec_len}
use Rattle.outside_io.specs.Counts.{NoneRises}
use Rattle.outside_io.specs.Files.{LeavesAll}
use Rattle.whole_files.specs.Requests.{Since, least_room, AreRoomyReads}
use Rattle.whole_files.specs.Transfers.{BeginsWith}
use Rattle.whole_files.proofs.read_whole.Given as goal

abbrev pub invariant-loop-bytes : goal.invariant-loop-bytes
invariant-loop-bytes g l = record {
  front : BeginsWith (g.F.Files.holds l.fn.files l.path) l.bytes.items;
  fits : vec_len l.bytes ≤ l.limit;
  room : least_room ≤ vec_len l.buffer;
  paths : LeavesAll (g.F.Files.holds l.fn.files) (g.F.Files.holds l.files);
  reads : NoneRises (g.F.Files.failed_reads l.fn.files) (g.F.Files.failed_reads l.files);
  writes : NoneRises (g.F.Files.failed_writes l.fn.files) (g.F.Files.failed_writes l.files);
  asked : Since (AreRoomyReads l.path) (g.F.Files.calls l.fn.files) (g.F.Files.calls l.files);
}

abbrev pub decreases-loop-bytes : goal.decreases-loop-bytes
decreases-loop-bytes g l = l.limit + 1 - vec_len l.bytes
