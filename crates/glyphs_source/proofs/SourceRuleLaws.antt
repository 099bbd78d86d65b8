-- What the tables of the header and of the index say of single rules.
use Rattle.std.proofs.Common.{inl, inr, ◌≡◌, ◌⊎◌, ℕ, Bool, true, false, not, List, refl, sym, ap}
use Rattle.std.proofs.Common.{◌∙◌, true≢false}
use Rattle.std.specs.Prelude.{codes}
use Rattle.plist_reader.specs.declared.tree.Tree.{Tree}
use Rattle.refusal_codes.specs.declared.rule.Rule.{Rule}
use Rattle.refusal_codes.specs.declared.rule.Rule.TheVariants.{MissingKey, NotWhole, WrongVersion}
use Rattle.refusal_codes.specs.declared.rule.Rule.TheVariants.{OutOfRange, BadTag}
use Rattle.refusal_codes.specs.declared.first.Failure.{Failure}
use Rattle.source_values.specs.Asking.{dictionary}
use Rattle.source_values.specs.Ways.{IsOneOf, Step, Row, FailsRow, Fails, rows_of, has}
use Rattle.source_values.specs.WayLaws.{by_rule}
use Rattle.source_values.specs.declared.kinds.Range.TheVariants.{Code}
use Rattle.source_values.specs.Decimals.{is_whole}
use Rattle.source_values.specs.Tables.{decimal_passes, text_passes, is_within, has_name_length}
use Rattle.source_values.specs.Tables.{has_fraction, is_outside, has_other_length}
use Rattle.source_values.specs.Words.{fraction, outside, other_length, none_outside_any}
use Rattle.source_axes.specs.AxisReading.{axes_failures}
use Rattle.source_axes.specs.AxisTables.{AxesAreTabled, InstancesAreTabled}
use Rattle.source_masters.specs.Parameters.{font_parameters_failures}
use Rattle.source_masters.specs.Metrics.{used_metrics}
use Rattle.source_masters.specs.MasterRules.{masters_failures}
use Rattle.source_masters.specs.MasterTables.{MetricsAreTabled, FontParametersAreTabled}
use Rattle.source_masters.specs.MasterTables.{MastersAreTabled}
use Rattle.glyphs_source.specs.HeaderReading.{is_version}
use Rattle.glyphs_source.specs.IndexReading.{glyph_list_failures}
use Rattle.glyphs_source.specs.SourceTables.{header_table, FailsInDesign, index_table}
use Rattle.glyphs_source.specs.SourceTables.{IndexIsTabled, IsInSource, lacks, to_font, to_version}
use Rattle.glyphs_source.specs.SourceTables.{to_glyphs, MissingKeysOfTheHeader}
use Rattle.glyphs_source.specs.SourceTables.{is_other_version, WrongVersions, MissingKeysOfTheIndex}
use Rattle.glyphs_source.specs.SourceTables.{to_top, to_glyph, to_codes, to_code}
use Rattle.glyphs_source.specs.SourceTables.{FractionsOfTheHeader, FractionsOfTheIndex}
use Rattle.glyphs_source.specs.SourceTables.{RangesOfTheIndex}
use Rattle.glyphs_source.proofs.SourceTableLaws.{header_by_rule, index_told}

pub index_by_rule : IndexIsTabled
index_by_rule t rule place =
    by_rule index_table (dictionary glyph_list_failures) index_told.tells t t.top rule place

-- ---- in words

pub is_not : (b : Bool) → b ≡ false → not b ≡ true
is_not true e = absurd (true≢false e)
is_not false e = refl

pub isnt_not : (b : Bool) → not b ≡ true → b ≡ false
isnt_not true e = absurd (true≢false (sym e))
isnt_not false e = refl

-- one row, whose value fails where a test doesn't hold
module _ (t : Tree) (rule : Rule) (place : ℕ) (way : List Step) (holds : Tree → ℕ → Bool) where
  abbrev row : Row
  row = record { way = way; rule = rule; holds = holds }

  abbrev fails_not : Tree → ℕ → Bool
  fails_not t n = not (holds t n)

  to_words : FailsRow row t t.top (record { rule = rule; place = place })
      → IsInSource t way fails_not place
  to_words (n, reaches, not, same) =
      (n, reaches, is_not (holds t n) not, ap (λ (f : Failure). f.place) same)

  of_words : IsInSource t way fails_not place
      → FailsRow row t t.top (record { rule = rule; place = place })
  of_words (n, reaches, passes, same) = (
    n,
    reaches,
    isnt_not (holds t n) passes,
    ap (λ (p : ℕ). record { rule = rule; place = p }) same,
  )

abbrev HeaderFails : Tree → Rule → ℕ → Type 0
HeaderFails t rule place = Fails (rows_of rule header_table) t t.top
    (record { rule = rule; place = place })

abbrev IndexFails : Tree → Rule → ℕ → Type 0
IndexFails t rule place = Fails (rows_of rule index_table) t t.top
    (record { rule = rule; place = place })

module _ (t : Tree) (place : ℕ) where
  abbrev lacking : List Step → List ℕ → Type 0
  lacking way key = IsInSource t way (lacks key) place

  abbrev Missed : Type 0
  Missed =
      lacking to_font (codes ".formatVersion")
      ⊎ (lacking to_font (codes "unitsPerEm")
      ⊎ (lacking to_font (codes "familyName") ⊎ lacking to_font (codes "fontMaster")))

  to_missed : HeaderFails t MissingKey place → Missed
  to_missed (inl p) = inl (to_words t MissingKey place to_font (has (codes ".formatVersion")) p)
  to_missed (inr (inl p)) = inr (inl (to_words t MissingKey place to_font
      (has (codes "unitsPerEm")) p))
  to_missed (inr (inr (inl p))) = inr (inr (inl (to_words t MissingKey place to_font
      (has (codes "familyName")) p)))
  to_missed (inr (inr (inr (inl p)))) = inr (inr (inr (to_words t MissingKey place to_font
      (has (codes "fontMaster")) p)))
  to_missed (inr (inr (inr (inr p)))) = absurd p

  of_missed : Missed → HeaderFails t MissingKey place
  of_missed (inl p) = inl (of_words t MissingKey place to_font (has (codes ".formatVersion")) p)
  of_missed (inr (inl p)) = inr (inl (of_words t MissingKey place to_font
      (has (codes "unitsPerEm")) p))
  of_missed (inr (inr (inl p))) = inr (inr (inl (of_words t MissingKey place to_font
      (has (codes "familyName")) p)))
  of_missed (inr (inr (inr p))) = inr (inr (inr (inl (of_words t MissingKey place to_font
      (has (codes "fontMaster")) p))))

  to_version_told : HeaderFails t WrongVersion place
      → IsInSource t to_version is_other_version place
  to_version_told (inl p) = to_words t WrongVersion place to_version (decimal_passes is_version) p
  to_version_told (inr p) = absurd p

  of_version_told : IsInSource t to_version is_other_version place
      → HeaderFails t WrongVersion place
  of_version_told p = inl (of_words t WrongVersion place to_version (decimal_passes is_version) p)

  to_nameless : IndexFails t MissingKey place → lacking to_glyphs (codes "glyphname")
  to_nameless (inl p) = to_words t MissingKey place to_glyphs (has (codes "glyphname")) p
  to_nameless (inr p) = absurd p

  of_nameless : lacking to_glyphs (codes "glyphname") → IndexFails t MissingKey place
  of_nameless p = inl (of_words t MissingKey place to_glyphs (has (codes "glyphname")) p)

-- the header's own failures in words, and those of its design space beside them
pub beside : {A B C : Type 0} → (A → B) → A ⊎ C → B ⊎ C
beside f (inl a) = inl (f a)
beside f (inr c) = inr c

pub missing_keys : MissingKeysOfTheHeader
missing_keys t place = (
  λ p. beside (to_missed t place) ((header_by_rule t MissingKey place).0 p),
  λ p. (header_by_rule t MissingKey place).1 (beside (of_missed t place) p),
)

-- nothing of the design space is a version
module _ (axes : AxesAreTabled) (instances : InstancesAreTabled) (metrics : MetricsAreTabled)
    (parameters : FontParametersAreTabled) (masters : MastersAreTabled) (t : Tree) (place : ℕ) where
  abbrev version : Failure
  version = record { rule = WrongVersion; place = place }

  no_axis : (n : ℕ) → IsOneOf (axes_failures t n) version → ⊥
  no_axis n p = elim ((axes t n WrongVersion place).0 p) [
    | inl q ↦ absurd q
    | inr q ↦ (let e : WrongVersion ≡ BadTag = q.0 in cc)
  ]

  no_parameter : (n : ℕ) → IsOneOf (font_parameters_failures t n) version → ⊥
  no_parameter n p = elim ((parameters t n WrongVersion place).0 p) [
    | inl q ↦ absurd q
    | inr q ↦ (let (v, at, r) = q in absurd r)
  ]

  no_master : (n : ℕ) → IsOneOf (masters_failures (used_metrics t) t n) version → ⊥
  no_master n p = elim ((masters (used_metrics t) t n WrongVersion place).0 p) [
    | inl q ↦ absurd q
    | inr (inl q) ↦ (let (i, used, v, reaches, r) = q in absurd r)
    | inr (inr q) ↦ (let (k, reaches, r) = q in let (v, at, s) = r in absurd s)
  ]

  no_version : FailsInDesign t version → ⊥
  no_version (inl (n, e, p)) = no_axis n p
  no_version (inr (inl (n, e, p))) = (metrics t n WrongVersion place).0 p
  no_version (inr (inr (inl (n, e, p)))) = (instances t n WrongVersion place).0 p
  no_version (inr (inr (inr (inl (n, e, p))))) = no_parameter n p
  no_version (inr (inr (inr (inr (n, e, p))))) = no_master n p

  version_alone : HeaderFails t WrongVersion place ⊎ FailsInDesign t version
      → HeaderFails t WrongVersion place
  version_alone (inl p) = p
  version_alone (inr p) = absurd (no_version p)

pub wrong_versions : AxesAreTabled → InstancesAreTabled → MetricsAreTabled
    → FontParametersAreTabled → MastersAreTabled → WrongVersions
wrong_versions axes instances metrics parameters masters t place = (
  λ p. to_version_told t place (version_alone axes instances metrics parameters masters t place
      ((header_by_rule t WrongVersion place).0 p)),
  λ p. (header_by_rule t WrongVersion place).1 (inl (of_version_told t place p)),
)

pub nameless_glyphs : MissingKeysOfTheIndex
nameless_glyphs t place = (
  λ p. to_nameless t place ((index_by_rule t MissingKey place).0 p),
  λ p. (index_by_rule t MissingKey place).1 (of_nameless t place p),
)

-- one row, whose test doesn't hold exactly where another test does
module _ (t : Tree) (rule : Rule) (place : ℕ) (way : List Step) (holds test : Tree → ℕ → Bool)
    (same : (n : ℕ) → not (holds t n) ≡ test t n) where
  in_words : FailsRow (record { way = way; rule = rule; holds = holds }) t t.top
      (record { rule = rule; place = place }) → IsInSource t way test place
  in_words p =
      let (n, reaches, passes, is) = to_words t rule place way holds p in
      (n, reaches, sym (same n) ∙ passes, is)

  from_words : IsInSource t way test place
      → FailsRow (record { way = way; rule = rule; holds = holds }) t t.top
      (record { rule = rule; place = place })
  from_words (n, reaches, passes, is) =
      of_words t rule place way holds (n, reaches, same n ∙ passes, is)

module _ (t : Tree) (place : ℕ) where
  abbrev Broken : List Step → Type 0
  Broken way = IsInSource t way has_fraction place

  abbrev FractionRow : List Step → Type 0
  FractionRow way = FailsRow (record {
    way = way;
    rule = NotWhole;
    holds
        = decimal_passes is_whole;
  })
      t t.top (record { rule = NotWhole; place = place })

  broken_words : (way : List Step) → FractionRow way → Broken way
  broken_words way = in_words t NotWhole place way (decimal_passes is_whole) has_fraction
      (fraction t)

  broken_row : (way : List Step) → Broken way → FractionRow way
  broken_row way = from_words t NotWhole place way (decimal_passes is_whole) has_fraction
      (fraction t)

  abbrev BrokenHeader : Type 0
  BrokenHeader =
      Broken (to_top (codes "unitsPerEm"))
      ⊎ (Broken (to_top (codes "versionMajor")) ⊎ Broken (to_top (codes "versionMinor")))

  to_broken_header : HeaderFails t NotWhole place → BrokenHeader
  to_broken_header (inl p) = inl (broken_words (to_top (codes "unitsPerEm")) p)
  to_broken_header (inr (inl p)) = inr (inl (broken_words (to_top (codes "versionMajor")) p))
  to_broken_header (inr (inr (inl p))) =
      inr (inr (broken_words (to_top (codes "versionMinor")) p))
  to_broken_header (inr (inr (inr p))) = absurd p

  of_broken_header : BrokenHeader → HeaderFails t NotWhole place
  of_broken_header (inl p) = inl (broken_row (to_top (codes "unitsPerEm")) p)
  of_broken_header (inr (inl p)) = inr (inl (broken_row (to_top (codes "versionMajor")) p))
  of_broken_header (inr (inr p)) = inr (inr (inl (broken_row (to_top (codes "versionMinor")) p)))

  abbrev BrokenIndex : Type 0
  BrokenIndex = Broken to_codes ⊎ (Broken to_code ⊎ Broken (to_glyph (codes "export")))

  to_broken_index : IndexFails t NotWhole place → BrokenIndex
  to_broken_index (inl p) = inl (broken_words to_codes p)
  to_broken_index (inr (inl p)) = inr (inl (broken_words to_code p))
  to_broken_index (inr (inr (inl p))) = inr (inr (broken_words (to_glyph (codes "export")) p))
  to_broken_index (inr (inr (inr p))) = absurd p

  of_broken_index : BrokenIndex → IndexFails t NotWhole place
  of_broken_index (inl p) = inl (broken_row to_codes p)
  of_broken_index (inr (inl p)) = inr (inl (broken_row to_code p))
  of_broken_index (inr (inr p)) = inr (inr (inl (broken_row (to_glyph (codes "export")) p)))

  abbrev NoCode : List Step → Type 0
  NoCode way = IsInSource t way (is_outside Code) place

  abbrev CodeRow : List Step → Type 0
  CodeRow way = FailsRow
      (record { way = way; rule = OutOfRange; holds = decimal_passes (is_within Code) })
      t t.top (record { rule = OutOfRange; place = place })

  code_words : (way : List Step) → CodeRow way → NoCode way
  code_words way = in_words t OutOfRange place way (decimal_passes (is_within Code))
      (is_outside Code) (outside Code t)

  code_row : (way : List Step) → NoCode way → CodeRow way
  code_row way = from_words t OutOfRange place way (decimal_passes (is_within Code))
      (is_outside Code) (outside Code t)

  abbrev OutOfIndex : Type 0
  OutOfIndex = IsInSource t (to_glyph (codes "glyphname")) has_other_length place
      ⊎ (NoCode to_codes ⊎ NoCode to_code)

  to_out : IndexFails t OutOfRange place → OutOfIndex
  to_out (inl p) = inl (in_words t OutOfRange place (to_glyph (codes "glyphname"))
      (text_passes has_name_length) has_other_length (other_length t) p)
  to_out (inr (inl p)) = inr (inl (code_words to_codes p))
  to_out (inr (inr (inl p))) = inr (inr (code_words to_code p))
  to_out (inr (inr (inr (inl (n, reaches, fails, is))))) = absurd (none_outside_any t n fails)
  to_out (inr (inr (inr (inr p)))) = absurd p

  of_out : OutOfIndex → IndexFails t OutOfRange place
  of_out (inl p) = inl (from_words t OutOfRange place (to_glyph (codes "glyphname"))
      (text_passes has_name_length) has_other_length (other_length t) p)
  of_out (inr (inl p)) = inr (inl (code_row to_codes p))
  of_out (inr (inr p)) = inr (inr (inl (code_row to_code p)))

pub fractions_of_header : FractionsOfTheHeader
fractions_of_header t place = (
  λ p. beside (to_broken_header t place) ((header_by_rule t NotWhole place).0 p),
  λ p. (header_by_rule t NotWhole place).1 (beside (of_broken_header t place) p),
)

pub fractions_of_index : FractionsOfTheIndex
fractions_of_index t place = (
  λ p. to_broken_index t place ((index_by_rule t NotWhole place).0 p),
  λ p. (index_by_rule t NotWhole place).1 (of_broken_index t place p),
)

pub ranges_of_index : RangesOfTheIndex
ranges_of_index t place = (
  λ p. to_out t place ((index_by_rule t OutOfRange place).0 p),
  λ p. (index_by_rule t OutOfRange place).1 (of_out t place p),
)
