-- That a code is found in exactly one group and one segment, by the runs that stand for the codes.
use Rattle.std.proofs.Common.{◌≡◌, inl, inr, ℕ, zero, suc, ◌+◌, ◌-◌, ◌%◌, ◌<◌, ◌≤◌, List, [], ◌∷◌}
use Rattle.std.proofs.Common.{◌++◌, map, get_or, refl, ap, sym, subst, ◌∙◌, arith, ⊎_elim}
use Rattle.std.proofs.lemmas.Bool.{cases_lt}
use Rattle.std.proofs.lemmas.List.{get_or_default}
use Rattle.std.proofs.lemmas.List.Elements.{All-nil, All-cons, All-head, All-tail, All-weaker}
use Rattle.std.proofs.lemmas.List.Elements.{All-contains, All-map, All-contains_itself}
use Rattle.std.proofs.lemmas.List.Elements.{Contains-append_left, Contains-append_right}
use Rattle.std.proofs.lemmas.List.Elements.{Contains-append_cases}
use Rattle.std.proofs.lemmas.List.Kept.{AllPairs-cons}
use Rattle.std.proofs.lemmas.List.Quantifiers.{all_pairs_push}
use Rattle.std.specs.List.{flat_map, All, AllPairs, Contains}
use Rattle.cmap_writer.specs.declared.runs.Run.{Run}
use Rattle.cmap_writer.specs.declared.segments.Segment.{Segment}
use Rattle.cmap_writer.specs.Runs.{Codes, codes_from, codes_of, longest_runs}
use Rattle.cmap_writer.specs.Subtables.{segment_of, last_segment, segments_of}
use Rattle.cmap_writer.specs.Reading.{AreGlyphNumbers, IsInSegment, SegmentsLead, IsInGroup}
use Rattle.cmap_writer.specs.Reading.{glyph_in_group, GroupsLead}
use Rattle.cmap_writer.proofs.Joins.{whole}
use Rattle.cmap_writer.proofs.Bounds.{Rises, pairs-head, pairs-tail}

-- ---- lists

all_right : {X : Type 0} (P : X → Type 0) (xs ys : List X) → All P (xs ++ ys) → All P ys
all_right P [] ys h = h
all_right P (x ∷ xs) ys h = all_right P xs ys (All-tail P x (xs ++ ys) h)

pairs_right : {X : Type 0} (R : X → X → Type 0) (xs ys : List X) → AllPairs R (xs ++ ys)
    → AllPairs R ys
pairs_right R [] ys h = h
pairs_right R (x ∷ xs) ys h = pairs_right R xs ys (pairs-tail R x (xs ++ ys) h)

pairs_across : {X : Type 0} (R : X → X → Type 0) (xs ys : List X) → AllPairs R (xs ++ ys)
    → All (λ x. All (R x) ys) xs
pairs_across R [] ys h = All-nil (λ x. All (R x) ys)
pairs_across R (x ∷ xs) ys h =
    All-cons (λ x. All (R x) ys) x xs (all_right (R x) xs ys (pairs-head R x (xs ++ ys) h))
    (pairs_across R xs ys (pairs-tail R x (xs ++ ys) h))

pairs-map : {X Y : Type 0} (R : Y → Y → Type 0) (f : X → Y) (xs : List X)
    → AllPairs (λ a b. R (f a) (f b)) xs → AllPairs R (map f xs)
pairs-map R f [] h = λ i j d below in_list. absurd (omega arith)
pairs-map R f (x ∷ xs) h =
    AllPairs-cons R (f x) (map f xs)
    (All-map (R (f x)) f xs (pairs-head (λ a b. R (f a) (f b)) x xs h))
    (pairs-map R f xs (pairs-tail (λ a b. R (f a) (f b)) x xs h))

contains-map : {X Y : Type 0} (f : X → Y) (xs : List X) → All (λ x. Contains (map f xs) (f x)) xs
contains-map f [] = All-nil (λ x. Contains (map f []) (f x))
contains-map f (x ∷ xs) =
    All-cons (λ y. Contains (map f (x ∷ xs)) (f y)) x xs
    (zero, omega arith, refl)
    (All-weaker (λ y. Contains (map f xs) (f y)) (λ y. Contains (map f (x ∷ xs)) (f y))
    (λ y h. Contains-append_right (f x ∷ []) (map f xs) (f y) h) xs (contains-map f xs))

-- what rises is apart: only one of the intervals has a number
only_one : {X : Type 0} (low high : X → ℕ) (xs : List X) → AllPairs (λ a b. high a < low b) xs
    → (n : ℕ) (s t : X)
    → Contains xs s → Contains xs t → low s ≤ n → n ≤ high s → low t ≤ n → n ≤ high t → s ≡ t
only_one low high xs rise n s t (i, i_in, is) (j, j_in, jt) s_from s_to t_from t_to =
    let js : get_or xs j s ≡ t = get_or_default xs j s t j_in ∙ jt in
    ⊎_elim
    (λ (less : i < j).
    let apart : high (get_or xs i s) < low (get_or xs j s) = rise i j s less j_in in
    let a : high (get_or xs i s) ≡ high s = ap high is in
    let b : low (get_or xs j s) ≡ low t = ap low js in
    absurd (omega arith))
    (λ (more : j ≤ i).
    ⊎_elim
    (λ (less : j < i).
    let apart : high (get_or xs j s) < low (get_or xs i s) = rise j i s less i_in in
    let a : high (get_or xs j s) ≡ high t = ap high js in
    let b : low (get_or xs i s) ≡ low s = ap low is in
    absurd (omega arith))
    (λ (least : i ≤ j).
    let same : i ≡ j = omega arith in
    sym is ∙ ap (λ k. get_or xs k s) same ∙ js)
    (cases_lt j i))
    (cases_lt i j)

-- ---- one run

abbrev IsOf : ℕ → ℕ → ℕ → (ℕ × ℕ) → Type 0
IsOf code glyph more p = (code ≤ p.0) × (p.0 ≤ code + more) × (p.1 ≡ glyph + (p.0 - code))

codes_are : (code glyph more : ℕ) → All (IsOf code glyph more) (codes_from code glyph more)
codes_are code glyph zero = All-cons (IsOf code glyph zero) (code, glyph) []
    (omega arith, omega arith, omega arith) (All-nil (IsOf code glyph zero))
codes_are code glyph (suc more) =
    All-cons (IsOf code glyph (suc more)) (code, glyph) (codes_from (code + 1) (glyph + 1) more)
    (omega arith, omega arith, omega arith)
    (All-weaker (IsOf (code + 1) (glyph + 1) more) (IsOf code glyph (suc more))
    (λ p h. let a = h.0 in let b = h.1 in let e = h.2 in (omega arith, omega arith, omega arith))
    (codes_from (code + 1) (glyph + 1) more) (codes_are (code + 1) (glyph + 1) more))

code_there : (code glyph more n : ℕ) → code ≤ n → n ≤ code + more
    → Contains (codes_from code glyph more) (n, glyph + (n - code))
code_there code glyph zero n from to =
    let c : code ≡ n = omega arith in
    let g : glyph ≡ glyph + (n - code) = omega arith in
    (zero, omega arith, λ i. (c i, g i))
code_there code glyph (suc more) n from to =
    ⊎_elim
    (λ (later : code < n).
    let g : glyph + 1 + (n - (code + 1)) ≡ glyph + (n - code) = omega arith in
    let there = code_there (code + 1) (glyph + 1) more n (omega arith) (omega arith) in
    let P : ℕ → Type 0 = λ h. Contains (codes_from code glyph (suc more)) (n, h) in
    subst P g (Contains-append_right ((code, glyph) ∷ []) (codes_from (code + 1) (glyph + 1) more)
    (n, glyph + 1 + (n - (code + 1))) there))
    (λ (here : n ≤ code).
    let c : code ≡ n = omega arith in
    let g : glyph ≡ glyph + (n - code) = omega arith in
    (zero, omega arith, λ i. (c i, g i)))
    (cases_lt code n)

first_code : (code glyph more : ℕ) (P : (ℕ × ℕ) → Type 0) (rest : Codes)
    → All P (codes_from code glyph more ++ rest) → P (code, glyph)
first_code code glyph zero P rest h = All-head P (code, glyph) rest h
first_code code glyph (suc more) P rest h
    = All-head P (code, glyph) (codes_from (code + 1) (glyph + 1) more ++ rest) h

-- ---- groups

abbrev all_codes : List Run → Codes
all_codes runs = flat_map codes_of runs

firsts : (P : (ℕ × ℕ) → Type 0) (runs : List Run) → All P (all_codes runs)
    → All (λ run. P (run.first, run.glyph)) runs
firsts P [] h = All-nil (λ run. P (run.first, run.glyph))
firsts P (run ∷ runs) h =
    All-cons (λ r. P (r.first, r.glyph)) run runs
    (first_code run.first run.glyph run.more P (all_codes runs) h)
    (firsts P runs (all_right P (codes_of run) (all_codes runs) h))

groups_rise : (runs : List Run) → AllPairs Rises (all_codes runs)
    → AllPairs (λ a b. a.first + a.more < b.first) runs
groups_rise [] h = λ i j d below in_list. absurd (omega arith)
groups_rise (run ∷ runs) h =
    let across = pairs_across Rises (codes_of run) (all_codes runs) h in
    let end = code_there run.first run.glyph run.more (run.first + run.more) (omega arith)
    (omega arith) in
    let last = All-contains (λ x. All (Rises x) (all_codes runs)) (codes_of run)
    (run.first + run.more, run.glyph + (run.first + run.more - run.first)) across end in
    AllPairs-cons (λ a b. a.first + a.more < b.first) run runs
    (firsts (λ p. run.first + run.more < p.0) runs last)
    (groups_rise runs (pairs_right Rises (codes_of run) (all_codes runs) h))

abbrev Finds : List Run → ℕ → ℕ → Type 0
Finds runs code glyph = (g : Run) × Contains runs g × IsInGroup code g
    × (glyph_in_group code g ≡ glyph)

group_found : (runs : List Run) (code glyph : ℕ) → Contains (all_codes runs) (code, glyph)
    → Finds runs code glyph
group_found [] code glyph (k, k_in, is) = absurd (omega arith)
group_found (run ∷ runs) code glyph h =
    elim (Contains-append_cases (codes_of run) (all_codes runs) (code, glyph) h) [
      | inl here ↦
          let p = All-contains (IsOf run.first run.glyph run.more) (codes_of run) (code, glyph)
          (codes_are run.first run.glyph run.more) here in
          (run, (zero, omega arith, refl), record { from = p.0; to = p.1 }, sym p.2)
      | inr there ↦
          let f = group_found runs code glyph there in
          (f.0, Contains-append_right (run ∷ []) runs f.0 f.1, f.2, f.3)
    ]

abbrev HasAll : Codes → Run → Type 0
HasAll codes g = (code : ℕ) → IsInGroup code g → Contains codes (code, glyph_in_group code g)

groups_have : (runs : List Run) → All (HasAll (all_codes runs)) runs
groups_have [] = All-nil (HasAll [])
groups_have (run ∷ runs) =
    All-cons (HasAll (all_codes (run ∷ runs))) run runs
    (λ code h. Contains-append_left (codes_of run) (all_codes runs) (code, glyph_in_group code run)
    (code_there run.first run.glyph run.more code h.from h.to))
    (All-weaker (HasAll (all_codes runs)) (HasAll (all_codes (run ∷ runs)))
    (λ g h code i. Contains-append_right (codes_of run) (all_codes runs)
    (code, glyph_in_group code g) (h code i)) runs (groups_have runs))

runs_lead : (runs : List Run) → AllPairs Rises (all_codes runs) → GroupsLead (all_codes runs) runs
runs_lead runs h = record {
  rise = groups_rise runs h;
  found = group_found runs;
  one = λ code g k gs ks ig ik. only_one (λ r. r.first) (λ r. r.first + r.more) runs
      (groups_rise runs h) code g k gs ks ig.from ig.to ik.from ik.to;
  no_other = λ code g gs ig. (
    glyph_in_group code g,
    All-contains (HasAll (all_codes runs)) runs g
        (groups_have runs) gs code ig,
  );
}

pub groups_lead : (codes : Codes) → AllPairs Rises codes → GroupsLead codes (longest_runs codes)
groups_lead codes rise =
    let runs = longest_runs codes in
    let P : Codes → Type 0 = λ cs. GroupsLead cs runs in
    let Q : Codes → Type 0 = λ cs. AllPairs Rises cs in
    subst P (whole codes) (runs_lead runs (subst Q (sym (whole codes)) rise))

-- ---- segments

abbrev Below : Segment → Segment → Type 0
Below a b = a.end_code < b.start_code

abbrev EndsShort : Run → Type 0
EndsShort run = run.first + run.more ≤ 65534

segments_rise : (runs : List Run) → AllPairs (λ a b. a.first + a.more < b.first) runs
    → All EndsShort runs → AllPairs Below (segments_of runs)
segments_rise runs rise short =
    let ends : All (λ s. s.end_code < 65535) (map segment_of runs) =
    All-map (λ s. s.end_code < 65535) segment_of runs
    (All-weaker EndsShort (λ r. r.first + r.more < 65535)
    (λ r (h : r.first + r.more ≤ 65534). omega arith) runs short) in
    all_pairs_push Below (map segment_of runs) last_segment (pairs-map Below segment_of runs rise)
    (λ k d in_list. ends k d in_list)

delta_gives : (code first g glyph : ℕ) → first ≤ code → code ≤ 65534 → g + (code - first) ≡ glyph
    → glyph < 65536 → (code + (g + (65536 - first)) % 65536) % 65536 ≡ glyph
delta_gives code first g glyph from to is fits = omega arith

pub segments_lead : (codes : Codes) → AllPairs Rises codes → AreGlyphNumbers codes
    → All EndsShort (longest_runs codes) → SegmentsLead codes (segments_of (longest_runs codes))
segments_lead codes rise numbers short =
    let runs = longest_runs codes in
    let groups = groups_lead codes rise in
    let apart = segments_rise runs groups.rise short in
    record {
      rise = apart;
      found = λ code glyph h.
          let f = groups.found code glyph h in
          let fits : glyph < 65536 = All-contains (λ c. c.1 < 65536) codes (code, glyph) numbers h
          in
          let end : f.0.first + f.0.more ≤ 65534 = All-contains EndsShort runs f.0 short f.1 in
          let to = f.2.to in (
            segment_of f.0,
            Contains-append_left (map segment_of runs) (last_segment ∷ []) (segment_of f.0)
                (All-contains (λ r. Contains (map segment_of runs) (segment_of r)) runs f.0
                (contains-map segment_of runs) f.1),
            record { from = f.2.from; to = f.2.to },
            refl,
            delta_gives code f.0.first f.0.glyph glyph f.2.from (omega arith) f.3 fits,
          );
      one = λ code s t ss ts is it. only_one (λ r. r.start_code) (λ r. r.end_code)
          (segments_of runs) apart code s t ss ts is.from is.to it.from it.to;
      no_other = λ code s small ss is.
          elim (Contains-append_cases (map segment_of runs) (last_segment ∷ []) s ss) [
            | inl here ↦
                All-contains (λ t. IsInSegment code t → (glyph : ℕ) × Contains codes (code, glyph))
                (map segment_of runs) s
                (All-map (λ t. IsInSegment code t → (glyph : ℕ) × Contains codes (code, glyph))
                segment_of runs
                (All-weaker (Contains runs) (λ r. IsInSegment code (segment_of r)
                → (glyph : ℕ) × Contains codes (code, glyph))
                (λ r rs i. groups.no_other code r rs (record { from = i.from; to = i.to })) runs
                (All-contains_itself runs)))
                here is
            | inr last ↦
                let start : s.start_code ≡ 65535 = All-contains (λ t. t.start_code ≡ 65535)
                (last_segment ∷ []) s
                (All-cons (λ t. t.start_code ≡ 65535) last_segment [] refl
                (All-nil (λ t. t.start_code ≡ 65535))) last in
                let from = is.from in
                absurd (omega arith)
          ];
    }
