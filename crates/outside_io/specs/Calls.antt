-- What calls of files ask for, in their order, as far as an object tells it. fontc's own.
use Rattle.std.specs.Prelude.{ℕ, List, [], ◌∷◌, ◌++◌, Option, option_map, Result, Ok, Err}

-- a call, by its path
pub data Call : Type 0 where
  -- a read that offers room for so many bytes
  ReadCall : (path : List ℕ) (room : ℕ) → Call
  BeginCall : (path : List ℕ) → Call
  -- an append that offers these bytes, of which so many first ones are taken
  AppendCall : (path offered : List ℕ) (taken : ℕ) → Call

-- the calls so far and then this one, where they are told
abbrev pub followed_by_call : Call → Option (List Call) → Option (List Call)
followed_by_call call calls = option_map (λ so_far. so_far ++ call ∷ []) calls

-- how many bytes an append took, by its answer
abbrev pub taken_by : {E : Type 0} → Result ℕ E → ℕ
taken_by (Ok n) = n
taken_by (Err e) = 0
