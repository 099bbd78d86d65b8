-- The tables tell what the header and the index fail.
use Rattle.std.proofs.Common.{inl, inr, ◌≡◌, ◌⊎◌, ℕ, Bool, true, false, cond, List, [], ◌++◌, Option}
use Rattle.std.proofs.Common.{Some, None, is_some, refl, sym, ◌∙◌, subst, true≢false}
use Rattle.std.specs.Prelude.{codes}
use Rattle.plist_reader.specs.declared.tree.Tree.{Tree}
use Rattle.plist_reader.specs.Tree.{value_in, find_in}
use Rattle.refusal_codes.specs.declared.rule.Rule.TheVariants.{WrongShape, MissingKey, WrongVersion}
use Rattle.refusal_codes.specs.declared.first.Failure.{Failure}
use Rattle.source_values.specs.declared.kinds.Range.TheVariants.{Any, Natural, Code}
use Rattle.source_values.specs.Values.{pairs_at, is_list, is_dictionary}
use Rattle.source_values.specs.Asking.{fails, dictionary, under_by, required, optional}
use Rattle.source_values.specs.Ways.{IsOneOf}
use Rattle.source_values.specs.WayLaws.{among_left, among_right, among_cases, by_rule}
use Rattle.source_values.specs.Tables.{decimal_table, optional_table, each_table, inside_table}
use Rattle.source_values.specs.Telling.{Told, whole, text, name, no_items, no_pairs, measured, also}
use Rattle.source_values.specs.Telling.{must, can, every, within, choice}
use Rattle.source_axes.specs.AxisReading.{axes_failures}
use Rattle.source_axes.specs.InstanceReading.{instances_failures}
use Rattle.source_masters.specs.Parameters.{font_parameters_failures}
use Rattle.source_masters.specs.Metrics.{metrics_failures, used_metrics}
use Rattle.source_masters.specs.MasterRules.{masters_failures}
use Rattle.glyphs_source.specs.HeaderReading.{is_version, version_failures_by, version_failures}
use Rattle.glyphs_source.specs.HeaderReading.{name_and_numbers_failures, design_failures}
use Rattle.glyphs_source.specs.HeaderReading.{feature_forms_failures, top_failures}
use Rattle.glyphs_source.specs.IndexReading.{codes_failures, glyph_parts_failures}
use Rattle.glyphs_source.specs.IndexReading.{glyph_list_failures}
use Rattle.glyphs_source.specs.SourceTables.{name_and_numbers_table, feature_forms_table}
use Rattle.glyphs_source.specs.SourceTables.{header_table, FailsUnder, FailsInDesign}
use Rattle.glyphs_source.specs.SourceTables.{HeaderIsTabled, codes_table, glyph_table, index_table}

-- ---- the header

version_told : Told (decimal_table WrongVersion is_version) version_failures
unfolding version_failures
version_told = measured WrongVersion is_version version_failures_by (λ t n. refl) (λ t n d. refl)

numbers_told : Told name_and_numbers_table name_and_numbers_failures
unfolding name_and_numbers_failures
numbers_told =
    also (also (also (also (must (codes ".formatVersion") version_told)
    (must (codes "unitsPerEm") (whole (Natural 16 16384))))
    (must (codes "familyName") name))
    (can (codes "versionMajor") (whole (Natural 0 32767))))
    (can (codes "versionMinor") (whole (Natural 0 999)))

features_told : Told feature_forms_table feature_forms_failures
unfolding feature_forms_failures
features_told =
    also (also (also (can (codes "classes") no_items) (can (codes "featurePrefixes") no_items))
    (can (codes "features") no_items))
    (can (codes "kerningLTR") no_pairs)

-- what fails no rule
abbrev none_of : Tree → ℕ → List Failure
none_of t n = []

nothing_told : Told [] none_of
nothing_told = record { tells = λ t n f. (λ p. absurd p, λ p. absurd p) }

-- what the header asks beside the values of its design space
abbrev pub own_failures : Tree → ℕ → List Failure
own_failures t n =
    name_and_numbers_failures t n
    ++ required (codes "fontMaster") none_of t n
    ++ feature_forms_failures t n

pub own_told : Told header_table (dictionary own_failures)
own_told = within (also (also numbers_told (must (codes "fontMaster") nothing_told)) features_told)

-- ---- the design space beside it

has_pairs : (t : Tree) (key : List ℕ) (o : Option (List (ℕ × ℕ))) (m : ℕ)
    → value_in t key o ≡ Some m → is_some o ≡ true
has_pairs t key None m e = absurd cc
has_pairs t key (Some pairs) m e = refl

has_dictionary : (t : Tree) (n : ℕ) (key : List ℕ) (m : ℕ) → find_in t n key ≡ Some m
    → is_dictionary t n ≡ true
has_dictionary t n key m e = has_pairs t key (pairs_at t n) m e

module _ (t : Tree) (f : Failure) where
  abbrev Under : List ℕ → (Tree → ℕ → List Failure) → Type 0
  Under key g = FailsUnder t key g f

  is_there : (key : List ℕ) (g : Tree → ℕ → List Failure) → Under key g
      → is_dictionary t t.top ≡ true
  is_there key g p = has_dictionary t t.top key p.0 p.1

  design_there : FailsInDesign t f → is_dictionary t t.top ≡ true
  design_there (inl p) = is_there (codes "axes") axes_failures p
  design_there (inr (inl p)) = is_there (codes "metrics") metrics_failures p
  design_there (inr (inr (inl p))) = is_there (codes "instances") instances_failures p
  design_there (inr (inr (inr (inl p)))) =
      is_there (codes "customParameters") font_parameters_failures p
  design_there (inr (inr (inr (inr p)))) =
      is_there (codes "fontMaster") (masters_failures (used_metrics t)) p

  of_under : (key : List ℕ) (g : Tree → ℕ → List Failure) (o : Option ℕ)
      → find_in t t.top key ≡ o → IsOneOf (under_by (g t) [] o) f → Under key g
  of_under key g None e p = absurd p
  of_under key g (Some n) e p = (n, e, p)

  to_under : (key : List ℕ) (g : Tree → ℕ → List Failure) (missing : List Failure) → Under key g
      → IsOneOf (under_by (g t) missing (find_in t t.top key)) f
  to_under key g missing (n, e, p) =
      subst (λ (o : Option ℕ). IsOneOf (under_by (g t) missing o) f) (sym e) p

  of_masters : (o : Option ℕ) → find_in t t.top (codes "fontMaster") ≡ o
      → IsOneOf (under_by (masters_failures (used_metrics t) t) (fails MissingKey t t.top) o) f
      → IsOneOf (under_by (none_of t) (fails MissingKey t t.top) o) f
      ⊎ Under (codes "fontMaster") (masters_failures (used_metrics t))
  of_masters None e p = inl p
  of_masters (Some n) e p = inr (n, e, p)

  to_missing : (o : Option ℕ)
      → IsOneOf (under_by (none_of t) (fails MissingKey t t.top) o) f
      → IsOneOf (under_by (masters_failures (used_metrics t) t) (fails MissingKey t t.top) o) f
  to_missing None p = p
  to_missing (Some n) p = absurd p

  abbrev Axes : List Failure
  Axes = optional (codes "axes") axes_failures t t.top

  abbrev Metrics : List Failure
  Metrics = optional (codes "metrics") metrics_failures t t.top

  abbrev Instances : List Failure
  Instances = optional (codes "instances") instances_failures t t.top

  abbrev Parameters : List Failure
  Parameters = optional (codes "customParameters") font_parameters_failures t t.top

  abbrev Masters : List Failure
  Masters = required (codes "fontMaster") (masters_failures (used_metrics t)) t t.top

  abbrev There : List Failure
  There = required (codes "fontMaster") none_of t t.top

  of_design : IsOneOf ((((Axes ++ Metrics) ++ Instances) ++ Parameters) ++ Masters) f
      → IsOneOf There f ⊎ FailsInDesign t f
  of_design p = elim (among_cases f (((Axes ++ Metrics) ++ Instances) ++ Parameters) Masters p) [
    | inr m ↦ (elim (of_masters (find_in t t.top (codes "fontMaster")) refl m) [
      | inl q ↦ inl q
      | inr q ↦ inr (inr (inr (inr (inr q))))
    ])
    | inl a ↦ (elim (among_cases f ((Axes ++ Metrics) ++ Instances) Parameters a) [
      | inr q ↦ inr (inr (inr (inr (inl (of_under (codes "customParameters")
          font_parameters_failures (find_in t t.top (codes "customParameters")) refl q)))))
      | inl b ↦ (elim (among_cases f (Axes ++ Metrics) Instances b) [
        | inr q ↦ inr (inr (inr (inl (of_under (codes "instances") instances_failures
            (find_in t t.top (codes "instances")) refl q))))
        | inl c ↦ (elim (among_cases f Axes Metrics c) [
          | inl q ↦ inr (inl (of_under (codes "axes") axes_failures
              (find_in t t.top (codes "axes")) refl q))
          | inr q ↦ inr (inr (inl (of_under (codes "metrics") metrics_failures
              (find_in t t.top (codes "metrics")) refl q)))
        ])
      ])
    ])
  ]

  in_front : IsOneOf (((Axes ++ Metrics) ++ Instances) ++ Parameters) f
      → IsOneOf ((((Axes ++ Metrics) ++ Instances) ++ Parameters) ++ Masters) f
  in_front p = among_left f (((Axes ++ Metrics) ++ Instances) ++ Parameters) Masters p

  to_design : FailsInDesign t f
      → IsOneOf ((((Axes ++ Metrics) ++ Instances) ++ Parameters) ++ Masters) f
  to_design (inl p) =
      in_front (among_left f ((Axes ++ Metrics) ++ Instances) Parameters
      (among_left f (Axes ++ Metrics) Instances
      (among_left f Axes Metrics (to_under (codes "axes") axes_failures [] p))))
  to_design (inr (inl p)) =
      in_front (among_left f ((Axes ++ Metrics) ++ Instances) Parameters
      (among_left f (Axes ++ Metrics) Instances
      (among_right f Axes Metrics (to_under (codes "metrics") metrics_failures [] p))))
  to_design (inr (inr (inl p))) =
      in_front (among_left f ((Axes ++ Metrics) ++ Instances) Parameters
      (among_right f (Axes ++ Metrics) Instances
      (to_under (codes "instances") instances_failures [] p)))
  to_design (inr (inr (inr (inl p)))) =
      in_front (among_right f ((Axes ++ Metrics) ++ Instances) Parameters
      (to_under (codes "customParameters") font_parameters_failures [] p))
  to_design (inr (inr (inr (inr p)))) =
      among_right f (((Axes ++ Metrics) ++ Instances) ++ Parameters) Masters
      (to_under (codes "fontMaster") (masters_failures (used_metrics t))
      (fails MissingKey t t.top) p)

  abbrev Numbers : List Failure
  Numbers = name_and_numbers_failures t t.top

  abbrev Design : List Failure
  Design = design_failures t t.top

  abbrev Features : List Failure
  Features = feature_forms_failures t t.top

  abbrev Own : List Failure
  Own = (Numbers ++ There) ++ Features

  design_cases : IsOneOf Design f → IsOneOf There f ⊎ FailsInDesign t f
  unfolding design_failures
  design_cases p = of_design p

  of_top : IsOneOf (top_failures t t.top) f → IsOneOf Own f ⊎ FailsInDesign t f
  unfolding top_failures
  of_top p = elim (among_cases f (Numbers ++ Design) Features p) [
    | inr q ↦ inl (among_right f (Numbers ++ There) Features q)
    | inl q ↦ (elim (among_cases f Numbers Design q) [
      | inl r ↦ inl (among_left f (Numbers ++ There) Features (among_left f Numbers There r))
      | inr r ↦ (elim (design_cases r) [
        | inl s ↦ inl (among_left f (Numbers ++ There) Features
            (among_right f Numbers There s))
        | inr s ↦ inr s
      ])
    ])
  ]

  design_in : FailsInDesign t f → IsOneOf Design f
  unfolding design_failures
  design_in p = to_design p

  there_in : IsOneOf There f → IsOneOf Design f
  unfolding design_failures
  there_in p =
      among_right f (((Axes ++ Metrics) ++ Instances) ++ Parameters) Masters
      (to_missing (find_in t t.top (codes "fontMaster")) p)

  in_top : IsOneOf Design f → IsOneOf (top_failures t t.top) f
  unfolding top_failures
  in_top p = among_left f (Numbers ++ Design) Features (among_right f Numbers Design p)

  own_in_top : IsOneOf Own f → IsOneOf (top_failures t t.top) f
  unfolding top_failures
  own_in_top p = elim (among_cases f (Numbers ++ There) Features p) [
    | inr q ↦ among_right f (Numbers ++ Design) Features q
    | inl q ↦ (elim (among_cases f Numbers There q) [
      | inl r ↦ among_left f (Numbers ++ Design) Features (among_left f Numbers Design r)
      | inr r ↦ in_top (there_in r)
    ])
  ]

  of_header : (b : Bool)
      → IsOneOf (cond b (top_failures t t.top) (fails WrongShape t t.top)) f
      → IsOneOf (cond b Own (fails WrongShape t t.top)) f ⊎ FailsInDesign t f
  of_header true p = of_top p
  of_header false p = inl p

  to_header : (b : Bool) → is_dictionary t t.top ≡ b
      → IsOneOf (cond b Own (fails WrongShape t t.top)) f ⊎ FailsInDesign t f
      → IsOneOf (cond b (top_failures t t.top) (fails WrongShape t t.top)) f
  to_header true e (inl p) = own_in_top p
  to_header true e (inr p) = in_top (design_in p)
  to_header false e (inl p) = p
  to_header false e (inr p) = absurd (true≢false (sym (design_there p) ∙ e))

pub header_by_rule : HeaderIsTabled
header_by_rule t rule place =
    let f : Failure = record { rule = rule; place = place } in
    let table = by_rule header_table (dictionary own_failures) own_told.tells t t.top rule place in (
      λ p. elim (of_header t f (is_dictionary t t.top) p) [
        | inl q ↦ inl (table.0 q)
        | inr q ↦ inr q
      ],
      λ p. to_header t f (is_dictionary t t.top) refl (elim p [
        | inl q ↦ inl (table.1 q)
        | inr q ↦ inr q
      ]),
    )

-- ---- the index

codes_told : Told codes_table codes_failures
unfolding codes_failures
codes_told = choice is_list (every (whole Code)) (whole Code)

glyph_told : Told glyph_table glyph_parts_failures
unfolding glyph_parts_failures
glyph_told =
    also (also (also (also (must (codes "glyphname") name) (can (codes "unicode") codes_told))
    (can (codes "export") (whole Any)))
    (can (codes "kernLeft") text))
    (can (codes "kernRight") text)

list_told : Told (optional_table (codes "glyphs") (each_table (inside_table glyph_table)))
    glyph_list_failures
unfolding glyph_list_failures
list_told = can (codes "glyphs") (every (within glyph_told))

pub index_told : Told index_table (dictionary glyph_list_failures)
index_told = within list_told
