use Rattle.std.proofs.Common.{refl, ap, inl}
use Rattle.outside_io.specs.Real.{Real}
use Rattle.outside_io.proofs.SureLaws.{on_ok, if_ok_all, on_err_all}
use Rattle.outside_io.proofs.RealLaws.{counted_up, counted_ok_paths}
use Rattle.outside_io.proofs.real.RealFilesFiles.TheImpl.Goals as goal

pub read_some-tells : goal.read_some-tells
read_some-tells g c =
    let reads = ap (λ (f : Real). f.failed_reads) c.ensures.after in
    let writes = ap (λ (f : Real). f.failed_writes) c.ensures.after in
    record {
      fits = c.ensures.fits;
      bytes = if_ok_all _ c.result (λ n. tt);
      end = λ zero h. tt;
      paths = λ path. refl;
      cause = c.ensures.cause;
      reads = λ path. counted_up _ _ c.result c.ensures.cause reads;
      reads_ok = counted_ok_paths _ _ c.result reads;
      writes = λ path. writes;
      called = refl;
    }

pub begin-tells : goal.begin-tells
begin-tells g c =
    let reads = ap (λ (f : Real). f.failed_reads) c.ensures.after in
    let writes = ap (λ (f : Real). f.failed_writes) c.ensures.after in
    record {
      ok = on_ok _ c.result (inl refl);
      err = on_err_all _ c.result (inl (inl refl));
      others = λ other ne. inl refl;
      cause = c.ensures.cause;
      writes = λ path. counted_up _ _ c.result c.ensures.cause writes;
      writes_ok = counted_ok_paths _ _ c.result writes;
      reads = λ path. reads;
      called = refl;
    }

pub append-tells : goal.append-tells
append-tells g c =
    let reads = ap (λ (f : Real). f.failed_reads) c.ensures.after in
    let writes = ap (λ (f : Real). f.failed_writes) c.ensures.after in
    record {
      some = c.ensures.some;
      ok = if_ok_all _ c.result (λ n. inl refl);
      err = on_err_all _ c.result (inl refl);
      others = λ other ne. inl refl;
      cause = c.ensures.cause;
      writes = λ path. counted_up _ _ c.result c.ensures.cause writes;
      writes_ok = counted_ok_paths _ _ c.result writes;
      reads = λ path. reads;
      called = refl;
    }
