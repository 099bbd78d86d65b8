-- The order of refusals is total, and refusals that are equal in it are one.
use Rattle.std.proofs.Common.{◌≡◌, ℕ, List, [], ◌∷◌, refl, sym, ap, ◌∙◌}
use Rattle.std.specs.List.{slice_index_or}
use Rattle.std.specs.Ordering.{nat_cmp}
use Rattle.std.specs.Cmp.{IsTotalOrder, nat_cmp_total, on_total, then_total}
use Rattle.std.specs.Cmp.Lexicographic.{slice_cmp, nat_list_cmp_total}
use Rattle.std.specs.declared.cmp.Ordering.TheVariants.{Equal}
use Rattle.std.proofs.lemmas.Map.Lookups.{exact_unsigned, exact_bytes, exact_pairs}
use Rattle.refusal_codes.specs.Order.{refusal_cmp}
use Rattle.refusal_codes.specs.Rules.{rule_number}
use Rattle.refusal_codes.specs.declared.rule.Rule.{Rule}
use Rattle.refusal_codes.specs.declared.rule.Rule.TheVariants.{NotUtf8, UnexpectedByte}
use Rattle.refusal_codes.specs.declared.rule.Rule.TheVariants.{UnexpectedEnd, BadEscape}
use Rattle.refusal_codes.specs.declared.rule.Rule.TheVariants.{DuplicateKey, TooDeep, TrailingText}
use Rattle.refusal_codes.specs.declared.rule.Rule.TheVariants.{WrongShape, MissingKey, WrongVersion}
use Rattle.refusal_codes.specs.declared.rule.Rule.TheVariants.{NotWhole, OutOfRange, TooManyAxes}
use Rattle.refusal_codes.specs.declared.rule.Rule.TheVariants.{TooManyMasters, NoMaster, AxisCount}
use Rattle.refusal_codes.specs.declared.rule.Rule.TheVariants.{SameLocation, AxisMapNotRising}
use Rattle.refusal_codes.specs.declared.rule.Rule.TheVariants.{DuplicateGlyph, OriginUnknown}
use Rattle.refusal_codes.specs.declared.rule.Rule.TheVariants.{BadTag, TooLarge, DuplicateMaster}
use Rattle.refusal_codes.specs.declared.rule.Rule.TheVariants.{MissingLayer, CubicNode, OpenContour}
use Rattle.refusal_codes.specs.declared.rule.Rule.TheVariants.{Incompatible, UnknownComponent}
use Rattle.refusal_codes.specs.declared.rule.Rule.TheVariants.{ComponentCycle, UnsupportedTransform}
use Rattle.refusal_codes.specs.declared.rule.Rule.TheVariants.{CoordinateTooLarge, DeltaTooLarge}
use Rattle.refusal_codes.specs.declared.rule.Rule.TheVariants.{TooManyPoints, TooManyComponents}
use Rattle.refusal_codes.specs.declared.rule.Rule.TheVariants.{DuplicateUnicode, LayerPlace}
use Rattle.refusal_codes.specs.declared.rule.Rule.TheVariants.{SameLayerPlace, TooManyLayers}
use Rattle.refusal_codes.specs.declared.rule.Rule.TheVariants.{AlternateName, TooManyRules, Syntax}
use Rattle.refusal_codes.specs.declared.rule.Rule.TheVariants.{Unsupported, UnknownGlyph}
use Rattle.refusal_codes.specs.declared.rule.Rule.TheVariants.{UnknownName, ConflictingRule}
use Rattle.refusal_codes.specs.declared.rule.Rule.TheVariants.{ClassSizes, MixedLookup}
use Rattle.refusal_codes.specs.declared.rule.Rule.TheVariants.{BadContextCall, TooManyGlyphs}
use Rattle.refusal_codes.specs.declared.rule.Rule.TheVariants.{CmapTooLarge, LayoutTooLarge}
use Rattle.refusal_codes.specs.declared.rule.Rule.TheVariants.{RowTooLarge, TableTooLarge}
use Rattle.refusal_codes.specs.declared.rule.Rule.TheVariants.{TooManyRegions, TooManyCells}
use Rattle.refusal_codes.specs.declared.refusal.Refusal.{Refusal}

pub refusal_cmp_total : IsTotalOrder refusal_cmp
refusal_cmp_total =
    then_total (on_total (λ (r : Refusal). r.stratum) nat_cmp_total)
    (then_total (on_total (λ (r : Refusal). r.kind) nat_cmp_total)
    (then_total (on_total (λ (r : Refusal). r.name) nat_list_cmp_total)
    (then_total (on_total (λ (r : Refusal). rule_number r.rule) nat_cmp_total)
    (on_total (λ (r : Refusal). r.place) nat_cmp_total))))

-- the rules in the order of their numbers
abbrev rules : List Rule
rules = NotUtf8 ∷ UnexpectedByte ∷ UnexpectedEnd ∷ BadEscape ∷ DuplicateKey ∷ TooDeep ∷ TrailingText
    ∷ WrongShape ∷ MissingKey ∷ WrongVersion ∷ NotWhole ∷ OutOfRange ∷ TooManyAxes ∷ TooManyMasters
    ∷ NoMaster ∷ AxisCount ∷ SameLocation ∷ AxisMapNotRising ∷ DuplicateGlyph ∷ OriginUnknown
    ∷ BadTag ∷ TooLarge ∷ DuplicateMaster ∷ MissingLayer ∷ CubicNode ∷ OpenContour ∷ Incompatible
    ∷ UnknownComponent ∷ ComponentCycle ∷ UnsupportedTransform ∷ CoordinateTooLarge ∷ DeltaTooLarge
    ∷ TooManyPoints ∷ TooManyComponents ∷ DuplicateUnicode ∷ LayerPlace ∷ SameLayerPlace
    ∷ TooManyLayers ∷ AlternateName ∷ TooManyRules ∷ Syntax ∷ Unsupported ∷ UnknownGlyph
    ∷ UnknownName ∷ ConflictingRule ∷ ClassSizes ∷ MixedLookup ∷ BadContextCall ∷ TooManyGlyphs
    ∷ CmapTooLarge ∷ LayoutTooLarge ∷ RowTooLarge ∷ TableTooLarge ∷ TooManyRegions ∷ TooManyCells
    ∷ []

rule_numbered : (r : Rule) → slice_index_or rules (rule_number r) NotUtf8 ≡ r
rule_numbered NotUtf8 = refl
rule_numbered UnexpectedByte = refl
rule_numbered UnexpectedEnd = refl
rule_numbered BadEscape = refl
rule_numbered DuplicateKey = refl
rule_numbered TooDeep = refl
rule_numbered TrailingText = refl
rule_numbered WrongShape = refl
rule_numbered MissingKey = refl
rule_numbered WrongVersion = refl
rule_numbered NotWhole = refl
rule_numbered OutOfRange = refl
rule_numbered TooManyAxes = refl
rule_numbered TooManyMasters = refl
rule_numbered NoMaster = refl
rule_numbered AxisCount = refl
rule_numbered SameLocation = refl
rule_numbered AxisMapNotRising = refl
rule_numbered DuplicateGlyph = refl
rule_numbered OriginUnknown = refl
rule_numbered BadTag = refl
rule_numbered TooLarge = refl
rule_numbered DuplicateMaster = refl
rule_numbered MissingLayer = refl
rule_numbered CubicNode = refl
rule_numbered OpenContour = refl
rule_numbered Incompatible = refl
rule_numbered UnknownComponent = refl
rule_numbered ComponentCycle = refl
rule_numbered UnsupportedTransform = refl
rule_numbered CoordinateTooLarge = refl
rule_numbered DeltaTooLarge = refl
rule_numbered TooManyPoints = refl
rule_numbered TooManyComponents = refl
rule_numbered DuplicateUnicode = refl
rule_numbered LayerPlace = refl
rule_numbered SameLayerPlace = refl
rule_numbered TooManyLayers = refl
rule_numbered AlternateName = refl
rule_numbered TooManyRules = refl
rule_numbered Syntax = refl
rule_numbered Unsupported = refl
rule_numbered UnknownGlyph = refl
rule_numbered UnknownName = refl
rule_numbered ConflictingRule = refl
rule_numbered ClassSizes = refl
rule_numbered MixedLookup = refl
rule_numbered BadContextCall = refl
rule_numbered TooManyGlyphs = refl
rule_numbered CmapTooLarge = refl
rule_numbered LayoutTooLarge = refl
rule_numbered RowTooLarge = refl
rule_numbered TableTooLarge = refl
rule_numbered TooManyRegions = refl
rule_numbered TooManyCells = refl

-- two rules with one number are one rule
rule_from_number : (a b : Rule) → rule_number a ≡ rule_number b → a ≡ b
rule_from_number a b e = sym (rule_numbered a) ∙ ap (λ (n : ℕ). slice_index_or rules n NotUtf8) e
    ∙ rule_numbered b

exact_rules : (a b : Rule) → nat_cmp (rule_number a) (rule_number b) ≡ Equal → a ≡ b
exact_rules a b e = rule_from_number a b (exact_unsigned (rule_number a) (rule_number b) e)

-- a refusal as nested pairs
abbrev parts : Refusal → ℕ × (ℕ × (List ℕ × (Rule × ℕ)))
parts r = (r.stratum, (r.kind, (r.name, (r.rule, r.place))))

abbrev whole : ℕ × (ℕ × (List ℕ × (Rule × ℕ))) → Refusal
whole p = record {
  stratum = p.0;
  kind = p.1.0;
  name = p.1.1.0;
  rule = p.1.1.1.0;
  place
      = p.1.1.1.1;
}

pub refusal_cmp_exact : (a b : Refusal) → refusal_cmp a b ≡ Equal → a ≡ b
refusal_cmp_exact a b e =
    ap whole (exact_pairs nat_cmp _ exact_unsigned
    (exact_pairs nat_cmp _ exact_unsigned
    (exact_pairs (slice_cmp nat_cmp) _ exact_bytes
    (exact_pairs (λ (x y : Rule). nat_cmp (rule_number x) (rule_number y)) nat_cmp exact_rules
    exact_unsigned)))
    (parts a) (parts b) e)
