-- The order of refusals is total, and refusals that are equal in it are one. fontc's own.
use Rattle.std.proofs.Common.{◌≡◌, ℕ, List, [], ◌∷◌, refl, sym, ap, ◌∙◌}
use Rattle.std.specs.List.{slice_index_or}
use Rattle.std.specs.Ordering.{nat_cmp}
use Rattle.std.specs.Cmp.{IsTotalOrder, nat_cmp_total, on_total, then_total}
use Rattle.std.specs.Cmp.Lexicographic.{slice_cmp, nat_list_cmp_total}
use Rattle.std.specs.declared.cmp.Ordering.TheVariants.{Equal}
use Rattle.std.proofs.lemmas.Map.Lookups.{exact_unsigned, exact_bytes, exact_pairs}
use Rattle.refusal_codes.specs.Order.{refusal_cmp}
use Rattle.refusal_codes.specs.Rules.{rule_number}
use Rattle.refusal_codes.specs.declared.rule.Rule.{Rule}
use Rattle.refusal_codes.specs.declared.rule.Rule.TheVariants as a
use Rattle.refusal_codes.specs.declared.refusal.Refusal.{Refusal}

pub refusals_ordered : IsTotalOrder refusal_cmp
refusals_ordered =
    then_total (on_total (λ (r : Refusal). r.stratum) nat_cmp_total)
    (then_total (on_total (λ (r : Refusal). r.kind) nat_cmp_total)
    (then_total (on_total (λ (r : Refusal). r.name) nat_list_cmp_total)
    (then_total (on_total (λ (r : Refusal). rule_number r.rule) nat_cmp_total)
    (on_total (λ (r : Refusal). r.place) nat_cmp_total))))

-- the rules in the order of their numbers
abbrev rules : List Rule
rules = a.NotUtf8 ∷ a.UnexpectedByte ∷ a.UnexpectedEnd ∷ a.BadEscape ∷ a.DuplicateKey ∷ a.TooDeep
    ∷ a.TrailingText ∷ a.WrongShape ∷ a.MissingKey ∷ a.WrongVersion ∷ a.NotWhole ∷ a.OutOfRange
    ∷ a.TooManyAxes ∷ a.TooManyMasters ∷ a.NoMaster ∷ a.AxisCount ∷ a.SameLocation
    ∷ a.AxisMapNotRising ∷ a.DuplicateGlyph ∷ a.OriginUnknown ∷ a.BadTag ∷ a.TooLarge
    ∷ a.DuplicateMaster ∷ a.MissingLayer ∷ a.CubicNode ∷ a.OpenContour ∷ a.Incompatible
    ∷ a.UnknownComponent ∷ a.ComponentCycle ∷ a.UnsupportedTransform ∷ a.CoordinateTooLarge
    ∷ a.DeltaTooLarge ∷ a.TooManyPoints ∷ a.TooManyComponents ∷ a.DuplicateUnicode ∷ a.LayerPlace
    ∷ a.SameLayerPlace ∷ a.TooManyLayers ∷ a.AlternateName ∷ a.TooManyRules ∷ a.Syntax
    ∷ a.Unsupported ∷ a.UnknownGlyph ∷ a.UnknownName ∷ a.ConflictingRule ∷ a.ClassSizes
    ∷ a.MixedLookup ∷ a.BadContextCall ∷ a.TooManyGlyphs ∷ a.CmapTooLarge ∷ a.LayoutTooLarge
    ∷ a.RowTooLarge ∷ a.TableTooLarge ∷ a.TooManyRegions ∷ a.TooManyCells ∷ []

rule_numbered : (r : Rule) → slice_index_or rules (rule_number r) a.NotUtf8 ≡ r
rule_numbered a.NotUtf8 = refl
rule_numbered _ = refl

-- two rules with one number are one rule
exact_rules : (r s : Rule) → nat_cmp (rule_number r) (rule_number s) ≡ Equal → r ≡ s
exact_rules r s e = sym (rule_numbered r) ∙ ap (λ (n : ℕ). slice_index_or rules n a.NotUtf8)
    (exact_unsigned (rule_number r) (rule_number s) e) ∙ rule_numbered s

-- a refusal as nested pairs
abbrev parts : Refusal → ℕ × (ℕ × (List ℕ × (Rule × ℕ)))
parts r = (r.stratum, (r.kind, (r.name, (r.rule, r.place))))

abbrev whole : ℕ × (ℕ × (List ℕ × (Rule × ℕ))) → Refusal
whole p = record {
  stratum = p.0;
  kind = p.1.0;
  name = p.1.1.0;
  rule = p.1.1.1.0;
  place
      = p.1.1.1.1;
}

pub refusal_exact : (r s : Refusal) → refusal_cmp r s ≡ Equal → r ≡ s
refusal_exact r s e =
    ap whole (exact_pairs nat_cmp _ exact_unsigned
    (exact_pairs nat_cmp _ exact_unsigned
    (exact_pairs (slice_cmp nat_cmp) _ exact_bytes
    (exact_pairs (λ (x y : Rule). nat_cmp (rule_number x) (rule_number y)) nat_cmp exact_rules
    exact_unsigned)))
    (parts r) (parts s) e)
