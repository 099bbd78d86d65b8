-- The first of some numbers, in their order, for which something is found.
use Rattle.std.specs.Prelude.{ℕ, zero, suc, ◌+◌, Option, Some, None, Result, Ok, Err}
use Rattle.font_reader.specs.declared.faults.FontFault.{FontFault}

-- from `i` on, so many of them
abbrev pub first_some : {X : Type 0} → (ℕ → Option X) → ℕ → ℕ → Option X
first_some f i zero = None
first_some f i (suc left) = elim (f i) [ Some x ↦ Some x | None ↦ first_some f (i + 1) left ]

-- the same where a fault ends the search
abbrev pub first_found : {X : Type 0} → (ℕ → Result (Option X) FontFault) → ℕ → ℕ
    → Result (Option X) FontFault
first_found f i zero = Ok None
first_found f i (suc left) = elim (f i) [
  | Ok found ↦ elim found [ Some x ↦ Ok (Some x) | None ↦ first_found f (i + 1) left ]
  | Err fault ↦ Err fault
]
