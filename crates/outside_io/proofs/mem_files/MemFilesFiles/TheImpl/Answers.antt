use Rattle.std.proofs.Common.{refl, arith}
use Rattle.std.proofs.lemmas.Grind.{common_steps}
use Rattle.outside_io.proofs.MemoryLaws.{begin-path, begin-others, append-path, append-others}
use Rattle.outside_io.proofs.mem_files.MemFilesFiles.TheImpl.Goals as goal

pub begin-tells : goal.begin-tells
begin-tells c =
    let ok = begin-path c.args.self.now c.new.self.now c.args.path.now c.result c.ensures.after in
    let others = begin-others c.args.self.now c.new.self.now c.args.path.now c.result
    c.ensures.after in
    record {
      ok = ok;
      err = grind (arith, common_steps);
      others = others;
      cause = grind (arith, common_steps);
      writes = grind (arith, common_steps);
      writes_ok = grind (arith, common_steps);
      reads = grind (arith, common_steps);
      called = refl;
    }

pub append-tells : goal.append-tells
append-tells c =
    let ok = append-path c.args.self.now c.new.self.now c.args.path.now c.args.bytes.now c.result
    c.ensures.ok in
    let others = append-others c.args.self.now c.new.self.now c.args.path.now c.args.bytes.now
    c.result c.ensures.ok c.ensures.err in
    record {
      some = grind (arith, common_steps);
      ok = ok;
      err = grind (arith, common_steps);
      others = others;
      cause = grind (arith, common_steps);
      writes = grind (arith, common_steps);
      writes_ok = grind (arith, common_steps);
      reads = grind (arith, common_steps);
      called = refl;
    }
