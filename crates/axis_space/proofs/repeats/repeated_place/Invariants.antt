use Rattle.std.proofs.Common.{◌≡◌, ℕ, ◌<◌, false, take, List, Bor}
use Rattle.std.specs.BTreeSet.{contains}
use Rattle.std.specs.List.{list_any}
use Rattle.fixed_math.specs.declared.F2Dot14.{F2Dot14}
use Rattle.axis_space.specs.Repeats.{same_place, is_again}
use Rattle.axis_space.proofs.RepeatLemmas.{place_cmp}
use Rattle.axis_space.proofs.repeats.repeated_place.Given as goal

abbrev pub invariant-loop-i : goal.invariant-loop-i
invariant-loop-i l = record {
  seen : (q : Bor (List F2Dot14)) → contains (λ a b. place_cmp a.now b.now) l.seen q
      ≡ list_any (same_place q.now) (take l.i l.places);
  none : (k : ℕ) → k < l.i → is_again l.places k ≡ false;
}
