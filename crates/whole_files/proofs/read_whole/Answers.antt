use Rattle.std.proofs.Common.{rules, refl}
use Rattle.outside_io.specs.Files.{told_bytes}
use Rattle.whole_files.proofs.Asked.{no_reads_yet}
use Rattle.whole_files.proofs.Fronts.{nothing_read}
use Rattle.whole_files.proofs.read_whole.Goals as goal

pub loop-bytes-init : goal.loop-bytes-init
loop-bytes-init g c = record {
  front = nothing_read (told_bytes (g.F.Files.holds c.args.files.now c.args.path.now))
      c.new-bytes.result.items c.new-bytes.ensures.items;
  fits = search rules;
  room = search rules;
  paths = λ path. refl;
  reads = λ path. refl;
  writes = λ path. refl;
  asked = no_reads_yet c.args.path.now (g.F.Files.calls c.args.files.now);
}
