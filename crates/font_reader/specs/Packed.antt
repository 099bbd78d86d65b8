-- Packed numbers of points and packed deltas (OpenType 1.9, "Font variations common table formats",
-- "Packed point numbers" and "Packed deltas"): runs of up to 128 and of up to 64 numbers. A run
-- that goes on after the last number that is asked for is read no further.
use Rattle.std.specs.Prelude.{ℕ, ℤ, pos, ◌+◌, ◌-◌, ◌%◌, Bool, true, false, List, Option}
use Rattle.std.specs.Prelude.{Some, None, Result, Ok, Err, nat_eq, nat_lt, nat_le, if◌then◌else◌}
use Rattle.std.specs.Prelude.{◌||◌}
use Rattle.font_reader.specs.declared.faults.FontFault.{FontFault}
use Rattle.font_reader.specs.declared.faults.FaultKind.TheVariants.{BadFormat}
use Rattle.font_reader.specs.declared.fields.Table.{Table}
use Rattle.font_reader.specs.declared.packed.NamedPoint.{NamedPoint}
use Rattle.font_reader.specs.declared.packed.Nearest.{Nearest}
use Rattle.font_reader.specs.declared.packed.PointRun.{PointRun}
use Rattle.font_reader.specs.declared.packed.DeltaRun.{DeltaRun}
use Rattle.font_reader.specs.declared.packed.Pair.{Pair}
use Rattle.font_reader.specs.declared.packed.Target.{Target}
use Rattle.font_reader.specs.declared.packed.Deltas.{Deltas}
use Rattle.font_reader.specs.Fields.{◌>>=◌, fault, read_byte, read_i16, read_i8, read_u16}
use Rattle.font_reader.specs.Fold.{folded}

-- ---- the named points of a contour that matter to a point: itself, the first and the last of all,
-- and the nearest before it and after it. Of a point that is named again, the last naming counts.

abbrev pub none_named : Nearest
none_named = record { here = None; first = None; last = None; before = None; after = None }

-- the first one stays, unless it is named again
abbrev pub kept : Option NamedPoint → NamedPoint → Option NamedPoint
kept None named = Some named
kept (Some other) named = if nat_eq other.point named.point then Some named else Some other

unfoldable pub with_named : Target → Nearest → NamedPoint → Nearest
with_named target near named =
    if nat_lt named.point target.first || nat_lt target.last named.point then near
    else (if nat_lt named.point target.index then record {
      here = near.here;
      first = kept near.first named;
      last = Some named;
      before = Some named;
      after = near.after;
    } else (if nat_lt target.index named.point then record {
      here = near.here;
      first = kept near.first named;
      last = Some named;
      before = near.before;
      after = kept near.after named;
    } else record {
      here = Some named;
      first = kept near.first named;
      last = Some named;
      before = near.before;
      after = near.after;
    }))

abbrev pub or_else : Option NamedPoint → Option NamedPoint → Option NamedPoint
or_else (Some named) other = Some named
or_else None other = other

abbrev pub pair_of : Option NamedPoint → Option NamedPoint → Option Pair
pair_of (Some before) (Some after) = Some (record { before = before; after = after })
pair_of (Some before) None = None
pair_of None after = None

-- going around the contour: the nearest before the point, and the nearest after it
unfoldable pub chosen : Nearest → Option Pair
chosen near = pair_of (or_else near.here (or_else near.before near.last))
    (or_else near.here (or_else near.after near.first))

-- ---- packed numbers of points: each is how much more than the one before it

unfoldable pub next_control : List ℕ → Table → PointRun → Result PointRun FontFault
next_control bytes gvar run = if nat_lt 0 run.left then Ok run else
    (read_byte bytes gvar run.at >>= λ control. Ok (record run {
      at = run.at + 1;
      left = control % 128 + 1;
      words = nat_le 128 control;
    }))

unfoldable pub point_step : List ℕ → Table → PointRun → Result ℕ FontFault
point_step bytes gvar run = if run.words then read_u16 bytes gvar run.at
    else read_byte bytes gvar run.at

abbrev pub width_of : Bool → ℕ
width_of true = 2
width_of false = 1

-- the next number, which has to be that of a point
unfoldable pub next_named : List ℕ → Table → Target → ℕ → PointRun → Result PointRun FontFault
next_named bytes gvar target i before = do
  run ← next_control bytes gvar before
  step ← point_step bytes gvar run
  (if nat_lt (run.number + step) target.points then Ok (record {
    at = run.at + width_of run.words;
    left = run.left - 1;
    words = run.words;
    number = run.number + step;
    near = with_named target run.near (record { ordinal = i; point = run.number + step });
  }) else Err (fault BadFormat (gvar.offset + run.at)))

-- so many numbers, from a place on: where they end, and the points that matter
unfoldable pub named_points : List ℕ → Table → Target → ℕ → ℕ → Result PointRun FontFault
named_points bytes gvar target at count = folded (next_named bytes gvar target) 0 count
    (record { at = at; left = 0; words = false; number = 0; near = none_named })

-- ---- packed deltas, of which those of two named points are kept. A run can't be both of zeros and
-- of words.

unfoldable pub delta_control : List ℕ → Table → DeltaRun → Result DeltaRun FontFault
delta_control bytes gvar run = if nat_lt 0 run.left then Ok run else
    (read_byte bytes gvar run.at >>= λ control.
    (if nat_le 192 control then Err (fault BadFormat (gvar.offset + run.at)) else Ok (record run {
      at = run.at + 1;
      left = control % 64 + 1;
      width = if nat_le 128 control then 0 else (if nat_le 64 control then 2 else 1);
    })))

unfoldable pub delta_of_width : List ℕ → Table → ℕ → ℕ → Result ℤ FontFault
delta_of_width bytes gvar width at = if nat_eq width 0 then Ok (pos 0)
    else (if nat_eq width 1 then read_i8 bytes gvar at else read_i16 bytes gvar at)

unfoldable pub next_delta : List ℕ → Table → Pair → ℕ → DeltaRun → Result DeltaRun FontFault
next_delta bytes gvar pair i before = do
  run ← delta_control bytes gvar before
  delta ← delta_of_width bytes gvar run.width run.at
  Ok (record {
    at = run.at + run.width;
    left = run.left - 1;
    width = run.width;
    before = if nat_eq i pair.before.ordinal then delta else run.before;
    after = if nat_eq i pair.after.ordinal then delta else run.after;
  })

-- so many deltas, from a place on
unfoldable pub deltas_from : List ℕ → Table → Pair → ℕ → ℕ → Result DeltaRun FontFault
deltas_from bytes gvar pair at count = folded (next_delta bytes gvar pair) 0 count
    (record { at = at; left = 0; width = 0; before = pos 0; after = pos 0 })

-- first those in x, then those in y
unfoldable pub deltas_of : List ℕ → Table → Pair → ℕ → ℕ → Result Deltas FontFault
deltas_of bytes gvar pair at count = do
  xs ← deltas_from bytes gvar pair at count
  ys ← deltas_from bytes gvar pair xs.at count
  Ok (record {
    before_x = xs.before;
    after_x = xs.after;
    before_y = ys.before;
    after_y = ys.after;
  })
