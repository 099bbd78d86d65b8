-- Jobs with the numbers below one, and one more.
use Rattle.std.proofs.Common.{◌≡◌, ℕ, ◌+◌, ◌++◌, ◌∷◌, [], map, arith}
use Rattle.std.specs.List.{range_with_len}
use Rattle.std.proofs.lemmas.List.FromFn.{map-range_with_len_more}
use Rattle.board_bench.specs.declared.job.Job.{Job}

pub one_more : (job : ℕ → Job) (n : ℕ) → map job (range_with_len 0 (n + 1))
    ≡ map job (range_with_len 0 n) ++ job n ∷ []
one_more job n =
    let at : 0 + n ≡ n = omega arith in
    map-range_with_len_more job 0 n n at
