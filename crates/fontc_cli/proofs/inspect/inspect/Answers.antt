-- reading changes nothing, and a font that is too long is at fault for that
use Rattle.std.proofs.Common.{◌≡◌, Result, Ok, Err}
use Rattle.whole_files.specs.declared.ReadWholeError.{ReadWholeError}
use Rattle.whole_files.specs.declared.ReadWholeError.TheVariants.{TooLong, Failed}
use Rattle.fontc_cli.proofs.Inspections.{long_is_too_large, point_told_ends, read_is_inspected}
use Rattle.fontc_cli.proofs.inspect.inspect.Goals as goal

-- what is read, or is too long, is no fault of a read
ok_is_no_fault : {A : Type 0} (a : A) → ◌≡◌ {A = Result A ReadWholeError} (Ok a) (Err Failed) → ⊥
ok_is_no_fault a e = cc

long_is_no_fault : {A : Type 0} (fault : ReadWholeError) → fault ≡ TooLong
    → ◌≡◌ {A = Result A ReadWholeError} (Err fault) (Err Failed) → ⊥
long_is_no_fault fault is e = cc

pub returns-in-Err-TooLong-clause-ends : goal.returns-in-Err-TooLong-clause-ends
returns-in-Err-TooLong-clause-ends g c = point_told_ends _ c.tell_too_large.result _ _ _
    (record {
      paths = c.in-Err-TooLong.ensures.paths;
      reads = c.in-Err-TooLong.ensures.reads_ok
          (long_is_no_fault _ c.in-Err-TooLong.field-0-is);
      writes = c.in-Err-TooLong.ensures.writes;
    })
    (long_is_too_large _ _ (c.in-Err-TooLong.ensures.too_long search))
    c.tell_too_large.ensures

pub returns-in-Ok-clause-ends : goal.returns-in-Ok-clause-ends
returns-in-Ok-clause-ends g c = point_told_ends _ c.tell_point.result _ _ _
    (record {
      paths = c.in-Ok.ensures.paths;
      reads = c.in-Ok.ensures.reads_ok (ok_is_no_fault _);
      writes = c.in-Ok.ensures.writes;
    })
    (read_is_inspected _ _ _ _ c.as_slice.ensures.value c.in-Ok.ensures.ok)
    c.tell_point.ensures
