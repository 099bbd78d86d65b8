-- What RealFiles counts. fontc's own.
use Rattle.std.specs.Prelude.{ℕ, Bool, true, false, if◌then◌else◌}
use Rattle.outside_io.specs.Counts.{raised}

-- how many reads have failed, and how many calls of `begin` and `append`, on all paths together
pub record Real : Type 0 where
  pub failed_reads : ℕ
  pub failed_writes : ℕ

-- a count after a call that succeeded, or failed
abbrev pub after_call : Bool → ℕ → ℕ
after_call is_ok count = if is_ok then count else raised count
