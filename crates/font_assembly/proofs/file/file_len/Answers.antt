use Rattle.std.proofs.Common.{◌≡◌, ℕ, ◌+◌, ◌^◌, ◌<◌, min, arith, drop, refl}
use Rattle.std.proofs.Math.ListN.{drop_of_length-le}
use Rattle.font_assembly.specs.File.{room_of_all}
use Rattle.font_assembly.specs.Assembled.{tables_of}
use Rattle.font_assembly.proofs.file.file_len.Goals as goal

whole : (len rest total : ℕ) → len < 2 ^ 64 → rest ≡ 0
    → min (len + rest) 18446744073709551615 ≡ total → len ≡ total
whole len rest total fits none e = omega arith

pub returns : goal.returns
returns c =
    let none : room_of_all (tables_of (drop c.loop-table.table-index c.args.tables.now)) ≡ 0 =
    rw (drop_of_length-le c.args.tables.now c.loop-table-test.false) refl
    in
    whole _ _ _ c.loop-table.invariant.fits none c.loop-table.invariant.so_far
