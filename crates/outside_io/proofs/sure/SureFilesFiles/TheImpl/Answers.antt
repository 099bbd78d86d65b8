use Rattle.std.proofs.Common.{ℕ, ◌-◌, ◌<◌, ◌≤◌, ◌⊎◌, length, min, take, sym, ap, arith, inr, refl}
use Rattle.outside_io.specs.Counts.{HasRisen, NoneRises}
use Rattle.outside_io.specs.Files.{Holding, Leaves, replaced_by, followed_by}
use Rattle.outside_io.specs.Sure.{Sure, sure_holding}
use Rattle.outside_io.proofs.SureLaws.{never_err, never_err_if_ok, on_ok, if_ok_at, sure_gives}
use Rattle.outside_io.proofs.SureLaws.{sure_ends, untold}
use Rattle.outside_io.proofs.sure.SureFilesFiles.TheImpl.Goals as goal

pub read_some-tells : goal.read_some-tells
read_some-tells g c =
    let s = c.args.self.now in
    let space = length c.args.into.now in
    let count = c.ensures.count in
    record {
      fits = if_ok_at (λ n. n ≤ space) c.result _ count (omega arith);
      bytes = sure_gives s c.args.place space c.args.into.now c.new.into.now c.result count
          c.ensures.into;
      end = sure_ends s c.args.place space c.result count;
      paths = λ path. ap sure_holding c.ensures.after;
      cause = never_err _ c.result _ count;
      reads = λ path. omega arith;
      reads_ok = on_ok _ c.result (λ path. refl);
      writes = λ path. refl;
      called = refl;
    }

pub begin-tells : goal.begin-tells
begin-tells g c =
    let written = ap (λ (s : Sure). s.is_written) c.ensures.after in
    record {
      ok = on_ok _ c.result (untold c.new.self.now _ written);
      err = never_err_if_ok _ c.result c.ensures.ok;
      others = λ other ne. untold c.new.self.now _ written;
      cause = never_err_if_ok _ c.result c.ensures.ok;
      writes = λ path. omega arith;
      writes_ok = on_ok _ c.result (λ path. refl);
      reads = λ path. refl;
      called = refl;
    }

pub append-tells : goal.append-tells
append-tells g c =
    let written = ap (λ (s : Sure). s.is_written) c.ensures.after in
    record {
      some = if_ok_at (λ n. (0 < n) × (n ≤ length c.args.bytes.now)) c.result _ c.ensures.count
          (c.requires, omega arith);
      ok = if_ok_at _ c.result _ c.ensures.count (untold c.new.self.now _ written);
      err = never_err _ c.result _ c.ensures.count;
      others = λ other ne. untold c.new.self.now _ written;
      cause = never_err _ c.result _ c.ensures.count;
      writes = λ path. omega arith;
      writes_ok = on_ok _ c.result (λ path. refl);
      reads = λ path. refl;
      called = refl;
    }
