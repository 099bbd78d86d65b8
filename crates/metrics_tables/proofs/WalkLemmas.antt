-- A walk down the components keeps what it promises, and less of it is left after each step.
use Rattle.std.proofs.Common.{◌≡◌, ℕ, zero, suc, ◌+◌, ◌*◌, ◌^◌, ◌<◌, ◌≤◌, true, List}
use Rattle.std.proofs.Common.{[], ◌∷◌, ◌++◌, length, map, get_or, set, refl, sym, ap, ◌∙◌, subst}
use Rattle.std.proofs.Common.{arith}
use Rattle.std.proofs.Common.{inl, inr, ◌⊎◌, max, Option, None, Some, is_some, zero-add, replicate}
use Rattle.std.specs.Prelude.{if◌then◌else◌}
use Rattle.std.specs.List.{All, AllByRecursion, range_with_len}
use Rattle.std.specs.Option.{unwrap_or}
use Rattle.std.proofs.Math.ListN.{length-set, length-replicate}
use Rattle.std.proofs.lemmas.List.Elements.{recursion_from_All}
use Rattle.std.proofs.Math.Nat.{pow-succ', mul-le-mul_right}
use Rattle.metrics_tables.specs.Comparisons.{greatest_count}
use Rattle.metrics_tables.specs.Nesting.{bases_at, depth_of}
use Rattle.metrics_tables.specs.Walks.{AreBases, AreDepths, AreOwed, AreThere, IsCovered, IsKnown}
use Rattle.metrics_tables.specs.Walks.{IsOwed, IsWalk, Occurs, cost, depth_known}
use Rattle.metrics_tables.specs.Walks.{depth_over, depths_after, entries_of, entry_of, gid_in}
use Rattle.metrics_tables.specs.Walks.{known_depth, stack_after}
use Rattle.metrics_tables.specs.declared.nesting.Step.{Step}
use Rattle.metrics_tables.specs.declared.nesting.Step.TheVariants.{Enter, Leave}
use Rattle.metrics_tables.proofs.NestingLemmas.{depth_below, one_more, deeper}

-- ---- what is known

known_is : (known : Option ℕ) (bases : List (List ℕ)) (gid : ℕ) → is_some known ≡ true
    → ((depth : ℕ) → known ≡ Some depth → depth ≡ depth_of bases gid)
    → unwrap_or known 0 ≡ depth_of bases gid
known_is None bases gid there right = absurd cc
known_is (Some depth) bases gid there right = right depth refl

-- of components that are known, one more than the deepest
over_known : (bases : List (List ℕ)) (depths : List (Option ℕ)) (gids : List ℕ)
    → AreDepths bases depths → AllByRecursion (λ gid. gid < length bases) gids
    → AllByRecursion (IsKnown depths) gids
    → depth_over depths gids ≡ greatest_count (map (λ gid. 1 + depth_of bases gid) gids)
over_known bases depths [] are there known = refl
over_known bases depths (gid ∷ gids) are there known =
    let first = known_is (depth_known depths gid) bases gid known.0
    (λ depth e. are.right gid depth there.0 e) in
    let rest = over_known bases depths gids are there.1 known.1 in
    (λ i. max (1 + first i) (rest i))

-- a depth that is known is small
small_or_none : (known : Option ℕ) (bases : List (List ℕ)) (gid : ℕ)
    → ((depth : ℕ) → known ≡ Some depth → depth ≡ depth_of bases gid)
    → depth_of bases gid < 65535 → unwrap_or known 0 < 65535
small_or_none None bases gid right small = omega arith
small_or_none (Some depth) bases gid right small =
    let is = right depth refl in omega (arith, is, small)

pub known_small : (bases : List (List ℕ)) (depths : List (Option ℕ)) (gid : ℕ) → AreBases bases
    → AreDepths bases depths → gid < length bases → known_depth depths gid < 65535
known_small bases depths gid is are h =
    let below = depth_below bases is.within is.none_leads gid h in
    let few = is.few in
    small_or_none (depth_known depths gid) bases gid (λ depth e. are.right gid depth h e)
    (omega (arith, below, few))

-- those of a glyph's components are
pub all_small : (bases : List (List ℕ)) (depths : List (Option ℕ)) (gid : ℕ) (found gids : List ℕ)
    → AreBases bases → AreDepths bases depths → gid < length bases
    → found ≡ get_or bases gid found → gids ≡ found
    → All (λ base. known_depth depths base < 65535) gids
all_small bases depths gid found gids is are h e f = λ k d within.
    let same : gids ≡ bases_at bases gid = f ∙ e ∙ at_any bases gid found [] h in
    let below = subst (All (λ base. base < length bases)) (sym same) (is.within gid) in
    known_small bases depths (get_or gids k d) is are (below k d within)
  where
    at_any : (lists : List (List ℕ)) (k : ℕ) (c d : List ℕ) → k < length lists
        → get_or lists k c ≡ get_or lists k d
    at_any [] k c d inside = absurd (omega (arith, inside))
    at_any (x ∷ xs) zero c d inside = refl
    at_any (x ∷ xs) (suc k) c d inside = at_any xs k c d (omega (arith, inside))

-- ---- the stack

occurs_front : (gid : ℕ) (below : List Step) (step : Step) → Occurs gid (below ++ step ∷ [])
    → (gid_in step ≡ gid) ⊎ Occurs gid below
occurs_front gid [] step (inl here) = inl here
occurs_front gid [] step (inr there) = absurd there
occurs_front gid (s ∷ below) step (inl here) = inr (inl here)
occurs_front gid (s ∷ below) step (inr there) = by (occurs_front gid below step there)
  where
    by : (gid_in step ≡ gid) ⊎ Occurs gid below → (gid_in step ≡ gid) ⊎ Occurs gid (s ∷ below)
    by (inl last) = inl last
    by (inr front) = inr (inr front)

occurs_more : (gid : ℕ) (below more : List Step) → Occurs gid below → Occurs gid (below ++ more)
occurs_more gid [] more there = absurd there
occurs_more gid (s ∷ below) more (inl here) = inl here
occurs_more gid (s ∷ below) more (inr there) = inr (occurs_more gid below more there)

occurs_next : (gid : ℕ) (below : List Step) (step : Step) (more : List Step) → gid_in step ≡ gid
    → Occurs gid (below ++ step ∷ more)
occurs_next gid [] step more e = inl e
occurs_next gid (s ∷ below) step more e = inr (occurs_next gid below step more e)

-- what was owed where a step stood at the end, after it
module _ (depths after : List (Option ℕ)) (keeps : (gid : ℕ) → IsKnown depths gid
    → IsKnown after gid) where
  owed_done : (below : List Step) (step : Step) → IsKnown after (gid_in step) → (gid : ℕ)
      → IsOwed depths (below ++ step ∷ []) gid → IsOwed after below gid
  owed_done below step done gid (inl known) = inl (keeps gid known)
  owed_done below step done gid (inr there) = by (occurs_front gid below step there)
    where
      by : (gid_in step ≡ gid) ⊎ Occurs gid below → IsOwed after below gid
      by (inl e) = inl (subst (IsKnown after) e done)
      by (inr front) = inr front

  all_owed_done : (below : List Step) (step : Step) → IsKnown after (gid_in step)
      → (gids : List ℕ) → AreOwed depths (below ++ step ∷ []) gids → AreOwed after below gids
  all_owed_done below step done [] owed = tt
  all_owed_done below step done (gid ∷ gids) owed =
      (owed_done below step done gid owed.0, all_owed_done below step done gids owed.1)

  covered_done : (bases : List (List ℕ)) (below : List Step) (step : Step)
      → IsKnown after (gid_in step) → IsCovered bases depths (below ++ step ∷ [])
      → IsCovered bases after below
  covered_done bases [] step done covered = tt
  covered_done bases (Enter gid ∷ below) step done covered =
      covered_done bases below step done covered
  covered_done bases (Leave gid ∷ below) step done covered = (
    all_owed_done below step done (bases_at bases gid) covered.0,
    covered_done bases below step done covered.1,
  )

-- and what is owed where a glyph is left instead of entered, below its components
owed_left : (depths : List (Option ℕ)) (below more : List Step) (entered gid : ℕ)
    → IsOwed depths (below ++ Enter entered ∷ []) gid
    → IsOwed depths (below ++ Leave entered ∷ more) gid
owed_left depths below more entered gid (inl known) = inl known
owed_left depths below more entered gid (inr there) =
    by (occurs_front gid below (Enter entered) there)
  where
    by : (entered ≡ gid) ⊎ Occurs gid below → IsOwed depths (below ++ Leave entered ∷ more) gid
    by (inl e) = inr (occurs_next gid below (Leave entered) more e)
    by (inr front) = inr (occurs_more gid below (Leave entered ∷ more) front)

all_owed_left : (depths : List (Option ℕ)) (below more : List Step) (entered : ℕ) (gids : List ℕ)
    → AreOwed depths (below ++ Enter entered ∷ []) gids
    → AreOwed depths (below ++ Leave entered ∷ more) gids
all_owed_left depths below more entered [] owed = tt
all_owed_left depths below more entered (gid ∷ gids) owed = (
  owed_left depths below more entered gid owed.0,
  all_owed_left depths below more entered gids owed.1,
)

covered_left : (bases : List (List ℕ)) (depths : List (Option ℕ)) (below more : List Step)
    (entered : ℕ) → IsCovered bases depths (below ++ Enter entered ∷ [])
    → AreOwed depths more (bases_at bases entered) → IsCovered bases depths more
    → IsCovered bases depths (below ++ Leave entered ∷ more)
covered_left bases depths [] more entered covered owed above = (owed, above)
covered_left bases depths (Enter gid ∷ below) more entered covered owed above =
    covered_left bases depths below more entered covered owed above
covered_left bases depths (Leave gid ∷ below) more entered covered owed above = (
  all_owed_left depths below more entered (bases_at bases gid) covered.0,
  covered_left bases depths below more entered covered.1 owed above,
)

-- the components of the last glyph that is to be left are all known
last_known : (bases : List (List ℕ)) (depths : List (Option ℕ)) (below : List Step) (gid : ℕ)
    → IsCovered bases depths (below ++ Leave gid ∷ [])
    → AllByRecursion (IsKnown depths) (bases_at bases gid)
last_known bases depths [] gid covered = each (bases_at bases gid) covered.0
  where
    each : (gids : List ℕ) → AreOwed depths [] gids → AllByRecursion (IsKnown depths) gids
    each [] owed = tt
    each (g ∷ gids) ((inl known), rest) = (known, each gids rest)
    each (g ∷ gids) ((inr there), rest) = absurd there
last_known bases depths (Enter g ∷ below) gid covered = last_known bases depths below gid covered
last_known bases depths (Leave g ∷ below) gid covered = last_known bases depths below gid covered.1

-- entries
entry_owed : (known : Option ℕ) (depths : List (Option ℕ)) (gid : ℕ) (others : List Step)
    → depth_known depths gid ≡ known
    → IsOwed depths ((if is_some known then [] else Enter gid ∷ []) ++ others) gid
entry_owed None depths gid others e = inr (inl refl)
entry_owed (Some depth) depths gid others e = inl (ap is_some e)

owed_behind : (depths : List (Option ℕ)) (front others : List Step) (gids : List ℕ)
    → AreOwed depths others gids → AreOwed depths (front ++ others) gids
owed_behind depths front others [] owed = tt
owed_behind depths front others (gid ∷ gids) owed = (
  by owed.0,
  owed_behind depths front others gids owed.1,
)
  where
    behind : (front : List Step) → Occurs gid others → Occurs gid (front ++ others)
    behind [] there = there
    behind (s ∷ front) there = inr (behind front there)

    by : IsOwed depths others gid → IsOwed depths (front ++ others) gid
    by (inl known) = inl known
    by (inr there) = inr (behind front there)

entries_owed : (depths : List (Option ℕ)) (gids : List ℕ)
    → AreOwed depths (entries_of depths gids) gids
entries_owed depths [] = tt
entries_owed depths (gid ∷ gids) = (
  entry_owed (depth_known depths gid) depths gid (entries_of depths gids) refl,
  owed_behind depths (entry_of depths gid) (entries_of depths gids) gids
      (entries_owed depths gids),
)

entries_covered : (bases : List (List ℕ)) (depths : List (Option ℕ)) (gids : List ℕ)
    → IsCovered bases depths (entries_of depths gids)
entries_covered bases depths [] = tt
entries_covered bases depths (gid ∷ gids) =
    by (depth_known depths gid) (entries_covered bases depths gids)
  where
    by : (known : Option ℕ) → IsCovered bases depths (entries_of depths gids)
        → IsCovered bases depths
        ((if is_some known then [] else Enter gid ∷ []) ++ entries_of depths gids)
    by None rest = rest
    by (Some depth) rest = rest

entries_there : (bases : List (List ℕ)) (depths : List (Option ℕ)) (gids : List ℕ)
    → AllByRecursion (λ gid. gid < length bases) gids → AreThere bases (entries_of depths gids)
entries_there bases depths [] within = tt
entries_there bases depths (gid ∷ gids) within =
    by (depth_known depths gid) (entries_there bases depths gids within.1)
  where
    by : (known : Option ℕ) → AreThere bases (entries_of depths gids) → AreThere bases
        ((if is_some known then [] else Enter gid ∷ []) ++ entries_of depths gids)
    by None rest = (within.0, rest)
    by (Some depth) rest = rest

pub there_front : (bases : List (List ℕ)) (below : List Step) (step : Step)
    → AreThere bases (below ++ step ∷ []) → AreThere bases below × (gid_in step < length bases)
there_front bases [] step there = (tt, there.0)
there_front bases (s ∷ below) step there =
    let rest = there_front bases below step there.1 in ((there.0, rest.0), rest.1)

there_more : (bases : List (List ℕ)) (below more : List Step) → AreThere bases below
    → AreThere bases more → AreThere bases (below ++ more)
there_more bases [] more there others = others
there_more bases (s ∷ below) more there others =
    (there.0, there_more bases below more there.1 others)

-- ---- a step

-- knowing one more glyph forgets none
keeps_set : (depths : List (Option ℕ)) (at depth gid : ℕ) → IsKnown depths gid
    → IsKnown (set depths at (Some depth)) gid
keeps_set [] at depth gid known = known
keeps_set (d ∷ depths) zero depth zero known = refl
keeps_set (d ∷ depths) zero depth (suc gid) known = known
keeps_set (d ∷ depths) (suc at) depth zero known = known
keeps_set (d ∷ depths) (suc at) depth (suc gid) known = keeps_set depths at depth gid known

known_set : (depths : List (Option ℕ)) (at depth : ℕ) → at < length depths
    → IsKnown (set depths at (Some depth)) at
known_set [] at depth h = absurd (omega (arith, h))
known_set (d ∷ depths) zero depth h = refl
known_set (d ∷ depths) (suc at) depth h = known_set depths at depth (omega (arith, h))

-- a depth that is known after one more is that one or was known before
known_before : (depths : List (Option ℕ)) (at depth gid other : ℕ)
    → depth_known (set depths at (Some depth)) gid ≡ Some other
    → ((at ≡ gid) × (depth ≡ other)) ⊎ (depth_known depths gid ≡ Some other)
known_before [] at depth gid other e = inr e
known_before (d ∷ depths) zero depth zero other e = inl (refl, (cc))
known_before (d ∷ depths) zero depth (suc gid) other e = inr e
known_before (d ∷ depths) (suc at) depth zero other e = inr e
known_before (d ∷ depths) (suc at) depth (suc gid) other e =
    by (known_before depths at depth gid other e)
  where
    by : ((at ≡ gid) × (depth ≡ other)) ⊎ (depth_known depths gid ≡ Some other)
        → ((suc at ≡ suc gid) × (depth ≡ other)) ⊎ (depth_known depths gid ≡ Some other)
    by (inl new) = let same : at ≡ gid = new.0 in inl (ap suc same, new.1)
    by (inr old) = inr old

module _ (bases : List (List ℕ)) (is : AreBases bases) where
  within_of : (gid : ℕ) → AllByRecursion (λ base. base < length bases) (bases_at bases gid)
  within_of gid = recursion_from_All (λ base. base < length bases) (bases_at bases gid)
      (is.within gid)

  depths_left : (depths : List (Option ℕ)) (gid : ℕ) → AreDepths bases depths
      → gid < length bases → AllByRecursion (IsKnown depths) (bases_at bases gid)
      → AreDepths bases (depths_after bases depths (Leave gid))
  depths_left depths gid are h known = record {
    as_many = length-set depths gid (Some depth) ∙ are.as_many;
    right = λ other found inside e. by other found inside
        (known_before depths gid depth other found e);
  }
    where
      depth : ℕ
      depth = depth_over depths (bases_at bases gid)

      is_depth : depth ≡ depth_of bases gid
      is_depth = over_known bases depths (bases_at bases gid) are (within_of gid) known
          ∙ sym (one_more bases is.within is.none_leads gid h)

      by : (other found : ℕ) → other < length bases
          → ((gid ≡ other) × (depth ≡ found)) ⊎ (depth_known depths other ≡ Some found)
          → found ≡ depth_of bases other
      by other found inside (inl new) = sym new.1 ∙ is_depth ∙ ap (depth_of bases) new.0
      by other found inside (inr old) = are.right other found inside old

  -- the walk goes on
  pub walk_on : (depths : List (Option ℕ)) (below : List Step) (step : Step) (root : ℕ)
      → IsWalk bases depths (below ++ step ∷ []) root
      → IsWalk bases (depths_after bases depths step) (stack_after bases depths below step) root
  walk_on depths below (Leave gid) root walk =
      let there = there_front bases below (Leave gid) walk.there in
      let inside : gid < length bases = there.1 in
      let depth : ℕ = depth_over depths (bases_at bases gid) in
      let many : length depths ≡ length bases = walk.settled.as_many in
      let done : IsKnown (set depths gid (Some depth)) gid
      = known_set depths gid depth (omega (arith, many, inside)) in
      let keeps = keeps_set depths gid depth in
      record {
        settled = depths_left depths gid walk.settled inside
            (last_known bases depths below gid walk.covered);
        there = there.0;
        owed = owed_done depths (set depths gid (Some depth)) keeps below (Leave gid) done root
            walk.owed;
        covered = covered_done depths (set depths gid (Some depth)) keeps bases below (Leave gid)
            done walk.covered;
      }
  walk_on depths below (Enter gid) root walk = by (depth_known depths gid) refl
    where
      there : AreThere bases below × (gid < length bases)
      there = there_front bases below (Enter gid) walk.there

      next : Option ℕ → List Step
      next known = if is_some known then below
          else below ++ Leave gid ∷ entries_of depths (bases_at bases gid)

      by : (known : Option ℕ) → depth_known depths gid ≡ known
          → IsWalk bases depths (next known) root
      by (Some depth) e =
          let done : IsKnown depths gid = ap is_some e in
          let keeps : (other : ℕ) → IsKnown depths other → IsKnown depths other
          = λ other known. known
          in record {
            settled = walk.settled;
            there = there.0;
            owed = owed_done depths depths keeps below (Enter gid) done root walk.owed;
            covered = covered_done depths depths keeps bases below (Enter gid) done walk.covered;
          }
      by None e =
          let above = entries_of depths (bases_at bases gid) in
          record {
            settled = walk.settled;
            there = there_more bases below (Leave gid ∷ above) there.0
                (there.1, entries_there bases depths (bases_at bases gid) (within_of gid));
            owed = owed_left depths below above gid root walk.owed;
            covered = covered_left bases depths below above gid walk.covered
                (entries_owed depths (bases_at bases gid))
                (entries_covered bases depths (bases_at bases gid));
          }

  -- ---- how much is left

  cost_append : (below above : List Step)
      → cost bases (below ++ above) ≡ cost bases below + cost bases above
  cost_append [] above = omega arith
  cost_append (step ∷ below) above =
      let rest = cost_append below above in omega (arith, rest)

  power_next : (n : ℕ) → 300 ^ (1 + n) ≡ 300 * 300 ^ n
  power_next n = let one : 1 + n ≡ suc n = omega arith in ap (λ m. 300 ^ m) one ∙ pow-succ' 300 n

  power_positive : (n : ℕ) → 1 ≤ 300 ^ n
  power_positive zero = omega arith
  power_positive (suc n) =
      let rest = power_positive n in let next = pow-succ' 300 n in omega (arith, rest, next)

  power_rises : (n m : ℕ) → n ≤ m → 300 ^ n ≤ 300 ^ m
  power_rises zero m h = power_positive m
  power_rises (suc n) zero h = absurd (omega (arith, h))
  power_rises (suc n) (suc m) h =
      let rest = power_rises n m (omega (arith, h)) in
      let low = pow-succ' 300 n in
      let high = pow-succ' 300 m in omega (arith, rest, low, high)

  entry_cost : (known : Option ℕ) (gid deep : ℕ) (others : List Step)
      → 1 + depth_of bases gid ≤ deep
      → cost bases ((if is_some known then [] else Enter gid ∷ []) ++ others)
      ≤ 300 ^ deep + cost bases others
  entry_cost None gid deep others h =
      let less = power_rises (1 + depth_of bases gid) deep h in omega (arith, less)
  entry_cost (Some depth) gid deep others h = omega arith

  entries_cost : (depths : List (Option ℕ)) (gids : List ℕ) (deep : ℕ)
      → AllByRecursion (λ gid. 1 + depth_of bases gid ≤ deep) gids
      → cost bases (entries_of depths gids) ≤ length gids * 300 ^ deep
  entries_cost depths [] deep less = omega arith
  entries_cost depths (gid ∷ gids) deep less =
      let first = entry_cost (depth_known depths gid) gid deep (entries_of depths gids) less.0 in
      let rest = entries_cost depths gids deep less.1 in
      grind (arith, first, rest)

  small_cost : (count deep entries : ℕ) → count ≤ 256 → entries ≤ count * 300 ^ deep
      → suc (1 + entries) ≤ 300 ^ (1 + deep)
  small_cost count deep entries few h =
      let some = power_positive deep in
      let next : 300 ^ (1 + deep) ≡ 300 * 300 ^ deep = power_next deep in
      let most : count * 300 ^ deep ≤ 256 * 300 ^ deep = mul-le-mul_right (300 ^ deep) few in
      omega (arith, some, next, most, h)

  -- less is left after a step
  pub less_left : (depths : List (Option ℕ)) (below : List Step) (step : Step)
      → gid_in step < length bases
      → cost bases (stack_after bases depths below step) < cost bases (below ++ step ∷ [])
  less_left depths below (Leave gid) inside =
      let whole = cost_append below (Leave gid ∷ []) in omega (arith, whole)
  less_left depths below (Enter gid) inside = by (depth_known depths gid)
    where
      deep : ℕ
      deep = depth_of bases gid

      whole : cost bases (below ++ Enter gid ∷ []) ≡ cost bases below + (300 ^ (1 + deep) + 0)
      whole = cost_append below (Enter gid ∷ [])

      by : (known : Option ℕ) → cost bases (if is_some known then below
          else below ++ Leave gid ∷ entries_of depths (bases_at bases gid))
          < cost bases (below ++ Enter gid ∷ [])
      by (Some depth) =
          let some = power_positive (1 + deep) in omega (arith, some, whole)
      by None =
          let gids = bases_at bases gid in
          let less = entries_cost depths gids deep
          (recursion_from_All (λ base. 1 + depth_of bases base ≤ deep) gids
          (λ k d within. deeper bases is.within is.none_leads gid k d inside within)) in
          let small = small_cost (length gids) deep (cost bases (entries_of depths gids))
          (is.narrow gid) less in
          let now = cost_append below (Leave gid ∷ entries_of depths gids) in
          omega (arith, small, now, whole)

-- ---- the greatest depth

range_last : (a n : ℕ) → range_with_len a (suc n) ≡ range_with_len a n ++ (a + n) ∷ []
range_last a zero = let same : a ≡ a + 0 = omega arith in ap (λ k. k ∷ []) same
range_last a (suc n) =
    let same : a + 1 + n ≡ a + suc n = omega arith in
    ap (λ rest. a ∷ rest) (range_last (a + 1) n)
    ∙ ap (λ k. a ∷ range_with_len (a + 1) n ++ k ∷ []) same

greatest_last : (f : ℕ → ℕ) (xs : List ℕ) (x : ℕ)
    → greatest_count (map f (xs ++ x ∷ [])) ≡ max (greatest_count (map f xs)) (f x)
greatest_last f [] x = omega arith
greatest_last f (y ∷ xs) x = let rest = greatest_last f xs x in omega (arith, rest)

-- with the depth of one more glyph
pub depth_more : (bases : List (List ℕ)) (depths : List (Option ℕ)) (gid so_far next : ℕ)
    (found : Option ℕ) → AreDepths bases depths → IsKnown depths gid → gid < length bases
    → so_far ≡ greatest_count (map (depth_of bases) (range_with_len 0 gid))
    → found ≡ get_or depths gid found → next ≡ max so_far (unwrap_or found 0)
    → next ≡ greatest_count (map (depth_of bases) (range_with_len 0 (gid + 1)))
depth_more bases depths gid so_far next found are known h e f is =
    let many = are.as_many in
    let same : found ≡ depth_known depths gid
    = f ∙ at_any depths gid found None (omega (arith, many, h)) in
    let depth : unwrap_or found 0 ≡ depth_of bases gid
    = ap (λ k. unwrap_or k 0) same
    ∙ known_is (depth_known depths gid) bases gid known (λ d g. are.right gid d h g) in
    let one : gid + 1 ≡ suc gid = omega arith in
    is ∙ (λ i. max (e i) (depth i))
    ∙ sym (greatest_last (depth_of bases) (range_with_len 0 gid) gid)
    ∙ ap (λ gids. greatest_count (map (depth_of bases) gids))
    (sym (ap (range_with_len 0) one ∙ range_last 0 gid
    ∙ ap (λ k. range_with_len 0 gid ++ k ∷ []) (zero-add gid)))
  where
    at_any : (lists : List (Option ℕ)) (k : ℕ) (c d : Option ℕ) → k < length lists
        → get_or lists k c ≡ get_or lists k d
    at_any [] k c d inside = absurd (omega (arith, inside))
    at_any (x ∷ xs) zero c d inside = refl
    at_any (x ∷ xs) (suc k) c d inside = at_any xs k c d (omega (arith, inside))

-- before the first glyph none is known
pub none_known : (bases : List (List ℕ)) → AreDepths bases (replicate (length bases) None)
none_known bases = record {
  as_many = length-replicate (length bases) None;
  right = λ gid depth inside e. absurd (by (length bases) gid depth e);
}
  where
    by : (n gid depth : ℕ) → depth_known (replicate n None) gid ≡ Some depth → ⊥
    by zero gid depth e = cc
    by (suc n) zero depth e = cc
    by (suc n) (suc gid) depth e = by n gid depth e
