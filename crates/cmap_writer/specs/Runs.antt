-- Runs of codes that follow each other and whose glyph numbers do too. They are what the segments
-- of format 4 and the groups of format 12 stand for (OpenType 1.9, "cmap"). That each run is as
-- long as can be is fontc's own.
use Rattle.std.specs.Prelude.{◌≡◌, ℕ, zero, suc, ◌+◌, Bool, ◌==◌, ◌&&◌, nat_le, if◌then◌else◌, List}
use Rattle.std.specs.Prelude.{[], ◌∷◌}
use Rattle.std.specs.List.{filter, flat_map}
use Rattle.cmap_writer.specs.declared.runs.Run.{Run}

-- codes with their glyph numbers
abbrev pub Codes : Type 0
Codes = List (ℕ × ℕ)

-- what a run stands for: its first code with that one's glyph number, and so many more, each one
-- higher than the one before it
abbrev pub codes_from : ℕ → ℕ → ℕ → Codes
codes_from code glyph zero = (code, glyph) ∷ []
codes_from code glyph (suc more) = (code, glyph) ∷ codes_from (code + 1) (glyph + 1) more

abbrev pub codes_of : Run → Codes
codes_of run = codes_from run.first run.glyph run.more

-- a run begins where another one ends
abbrev pub Continues : Run → Run → Type 0
Continues run next = (next.first ≡ run.first + run.more + 1)
    × (next.glyph ≡ run.glyph + run.more + 1)

-- no two neighbours could be one run
abbrev pub IsApart : Run → List Run → Type 0
IsApart run [] = Unit {0}
IsApart run (next ∷ runs) = ¬ (Continues run next)

abbrev pub AreApart : List Run → Type 0
AreApart [] = Unit {0}
AreApart (run ∷ runs) = IsApart run runs × AreApart runs

-- the runs stand for exactly these codes, in order, and each is as long as can be
pub record AreLongestRuns (codes : Codes) (runs : List Run) : Type 0 where
  pub whole : flat_map codes_of runs ≡ codes
  pub apart : AreApart runs

-- The same as a function: from the last code on, each one begins a run, and takes in the run after
-- it where that one goes on.
abbrev pub run_of : (ℕ × ℕ) → Run
run_of code = record { first = code.0; glyph = code.1; more = 0 }

abbrev pub continues : Run → Run → Bool
continues run next = (next.first == run.first + run.more + 1)
    && (next.glyph == run.glyph + run.more + 1)

abbrev pub both : Run → Run → Run
both run next = record { first = run.first; glyph = run.glyph; more = run.more + 1 + next.more }

abbrev pub joined : Run → List Run → List Run
joined run [] = run ∷ []
joined run (next ∷ runs) = if continues run next then both run next ∷ runs else run ∷ next ∷ runs

abbrev pub longest_runs : Codes → List Run
longest_runs [] = []
longest_runs (code ∷ codes) = joined (run_of code) (longest_runs codes)

-- the codes up to 65534, which are those that format 4 holds
abbrev pub short_codes : Codes → Codes
short_codes codes = filter (λ code. nat_le code.0 65534) codes
