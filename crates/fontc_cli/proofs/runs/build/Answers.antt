-- reading changes nothing, and a source that is too long is refused for that
use Rattle.std.proofs.Common.{◌≡◌, ℕ, ◌<◌, List, length, Option, Some, None, IfSome, Result, Ok, Err}
use Rattle.std.proofs.Common.{refl}
use Rattle.whole_files.specs.declared.ReadWholeError.{ReadWholeError}
use Rattle.whole_files.specs.declared.ReadWholeError.TheVariants.{TooLong, Failed}
use Rattle.refusal_codes.specs.declared.refusal.Refusal.{Refusal}
use Rattle.font_plan.specs.Font.{font_of}
use Rattle.fontc_cli.proofs.AskedLaws.{asked_after}
use Rattle.fontc_cli.proofs.BoardLaws.{board_after, none_told}
use Rattle.fontc_cli.proofs.Ends.{ends_after, refused_ends}
use Rattle.fontc_cli.proofs.runs.build.Goals as goal

refused_if_told : (told : Option (List ℕ)) (r : Refusal)
    → ((source : List ℕ) → 67108864 < length source → font_of source ≡ Err r)
    → IfSome told (λ bytes. 67108864 < length bytes) → IfSome told (λ bytes. font_of bytes ≡ Err r)
refused_if_told None r refused long = tt
refused_if_told (Some bytes) r refused long = refused bytes long

-- what is read, or is too long, is no fault
ok_is_no_fault : {A : Type 0} (a : A) → ◌≡◌ {A = Result A ReadWholeError} (Ok a) (Err Failed) → ⊥
ok_is_no_fault a e = cc

long_is_no_fault : {A : Type 0} (fault : ReadWholeError) → fault ≡ TooLong
    → ◌≡◌ {A = Result A ReadWholeError} (Err fault) (Err Failed) → ⊥
long_is_no_fault fault is e = cc

pub returns-in-Err-TooLong-clause-ends : goal.returns-in-Err-TooLong-clause-ends
returns-in-Err-TooLong-clause-ends g c = rw c.of.ensures
    (refused_ends _ c.source_too_large.result c.refuse.result _ _
    (record {
      paths = c.in-Err-TooLong.ensures.paths;
      reads = c.in-Err-TooLong.ensures.reads_ok
          (long_is_no_fault _ c.in-Err-TooLong.field-0-is);
      writes = c.in-Err-TooLong.ensures.writes;
    })
    (refused_if_told _ c.source_too_large.result c.source_too_large.ensures.refuses
    (c.in-Err-TooLong.ensures.too_long search))
    c.refuse.ensures)

pub returns-in-Err-TooLong-clause-board : goal.returns-in-Err-TooLong-clause-board
returns-in-Err-TooLong-clause-board g c = rw c.of.ensures
    (none_told c.source_too_large.result c.refuse.result _ _ c.refuse.ensures)

pub returns-in-Ok-clause-ends : goal.returns-in-Ok-clause-ends
returns-in-Ok-clause-ends g c = ends_after _ c.build_source.result.status _ _ _
    (record {
      paths = c.in-Ok.ensures.paths;
      reads = c.in-Ok.ensures.reads_ok (ok_is_no_fault _);
      writes = c.in-Ok.ensures.writes;
    })
    refl c.build_source.ensures.ends

pub returns-in-Ok-clause-board : goal.returns-in-Ok-clause-board
returns-in-Ok-clause-board g c = board_after _ c.build_source.result.status
    c.build_source.result.board _ _ _
    (record {
      paths = c.in-Ok.ensures.paths;
      reads = c.in-Ok.ensures.reads_ok (ok_is_no_fault _);
      writes = c.in-Ok.ensures.writes;
    })
    c.build_source.ensures.board

pub returns-in-Ok-clause-asked : goal.returns-in-Ok-clause-asked
returns-in-Ok-clause-asked g c = asked_after _ c.build_source.result.status _ _ _
    c.in-Ok.ensures.asked c.build_source.ensures.asked
