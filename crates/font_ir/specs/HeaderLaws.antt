-- A header of one master, without axes, instances and kerning, fulfils all conditions on a header
-- where its numbers are in their ranges: no axis has a map to be there, and no two masters could
-- lie at one place. For the proofs of other crates alone.
use Rattle.std.proofs.Common.{◌≡◌, ℕ, ◌≤◌, List, [], ◌∷◌, length, sym, ap, subst, arith}
use Rattle.std.specs.List.{All}
use Rattle.std.proofs.lemmas.List.{length-map}
use Rattle.std.proofs.lemmas.List.Elements.{All-from_recursion}
use Rattle.fixed_math.specs.declared.F2Dot14.{F2Dot14}
use Rattle.font_ir.specs.declared.header.Header.{Header}
use Rattle.font_ir.specs.declared.header.Master.{Master}
use Rattle.font_ir.specs.Headers.{IsNameLong, IsMaster, IsHeader}

abbrev location_of : Master → List F2Dot14
location_of master = master.location

module _ (h : Header) (m : Master) where
  pub one_master_header : (16 ≤ h.upem) × (h.upem ≤ 16384) → IsNameLong h.family
      → h.major ≤ 32767 → h.minor ≤ 999 → h.axes ≡ [] → h.masters ≡ m ∷ [] → IsMaster 0 m
      → h.origin ≡ 0 → h.instances ≡ [] → h.kerning ≡ [] → IsHeader h
  one_master_header units family major minor no_axes one master origin no_instances no_kerning =
      let axes = ap length no_axes in
      let masters = ap length one in
      let instances = ap length no_instances in
      let kerning = ap length no_kerning in
      record {
        units = units;
        family = family;
        major = major;
        minor = minor;
        few_axes = omega (arith, axes);
        axes = λ k d within. absurd (omega (arith, within, axes));
        tags = λ k d within. absurd (omega (arith, within, axes));
        few_masters = omega (arith, masters);
        masters = subst (All (IsMaster (length h.axes))) (sym one)
            (All-from_recursion (IsMaster (length h.axes)) (m ∷ [])
            (subst (λ (n : ℕ). IsMaster n m) (sym axes) master, tt));
        origin = omega (arith, masters, origin);
        few_instances = omega (arith, instances);
        instances = λ k d within. absurd (omega (arith, within, instances));
        kerning = λ k d within. absurd (omega (arith, within, kerning));
        kerning_values = λ k d within. absurd (omega (arith, within, kerning));
        one_value = λ i j d below within. absurd (omega (arith, below, within, kerning));
        locations = λ axis within. absurd (omega (arith, within, axes));
        different = λ i j d below within.
            absurd (omega (arith, below, within, masters, length-map h.masters location_of));
        maps = λ axis within. absurd (omega (arith, within, axes));
      }
