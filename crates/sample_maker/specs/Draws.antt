-- The numbers that a sample is made of: a linear congruential generator of 32 bits. fontc's own.
use Rattle.std.specs.Prelude.{ℕ, zero, suc, ◌+◌, ◌*◌, ◌/◌, ◌%◌, ◌^◌}

-- the state behind a state
unfoldable pub next : ℕ → ℕ
next x = (1664525 * x + 1013904223) % (2 ^ 32)

-- the state behind so many draws
abbrev pub after : ℕ → ℕ → ℕ
after zero x = x
after (suc draws) x = after draws (next x)

-- the number below n that stands for a state: its upper half's remainder
unfoldable pub below : ℕ → ℕ → ℕ
below n x = x / 65536 % n

-- the number below n that a draw gives, where so many draws came before it
abbrev pub drawn : ℕ → ℕ → ℕ → ℕ
drawn before n x = below n (after (suc before) x)
