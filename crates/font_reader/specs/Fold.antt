-- A value that is carried over some numbers, in their order, until a fault.
use Rattle.std.specs.Prelude.{ℕ, zero, suc, ◌+◌, Result, Ok, Err}
use Rattle.font_reader.specs.declared.faults.FontFault.{FontFault}

-- from `i` on, so many of them
abbrev pub folded : {S : Type 0} → (ℕ → S → Result S FontFault) → ℕ → ℕ → S → Result S FontFault
folded f i zero s = Ok s
folded f i (suc left) s = elim (f i s) [
  | Ok next ↦ folded f (i + 1) left next
  | Err fault ↦ Err fault
]
