use Rattle.std.proofs.Common.{◌≡◌, rules, ℤ, pos, ◌≤ℤ◌, subst, sym}
use Rattle.font_ir.specs.Normal.{normalised}
use Rattle.axis_space.proofs.NearestLemmas.{normalised_monotone}
use Rattle.axis_space.proofs.normal.normalise.Goals as goal

pub returns-then-v-def-clause-rises : goal.returns-then-v-def-clause-rises
returns-then-v-def-clause-rises c = λ w h k.
    let value : c.over.result.0 ≡ normalised c.args.v.0 c.args.min.0 c.args.def.0 c.args.max.0
    = search rules in
    let bound = normalised_monotone w c.args.v.0 c.args.min.0 c.args.def.0 c.args.max.0 h k
    c.requires.greatest in
    rw value bound

pub returns-then-def-v-clause-rises : goal.returns-then-def-v-clause-rises
returns-then-def-v-clause-rises c = λ w h k.
    let value : c.over-then-def-v.result.0
    ≡ normalised c.args.v.0 c.args.min.0 c.args.def.0 c.args.max.0 = search rules in
    let bound = normalised_monotone w c.args.v.0 c.args.min.0 c.args.def.0 c.args.max.0 h k
    c.requires.greatest in
    rw value bound

pub returns-else-def-v-clause-rises : goal.returns-else-def-v-clause-rises
returns-else-def-v-clause-rises c = λ w h k.
    let value : pos 0 ≡ normalised c.args.v.0 c.args.min.0 c.args.def.0 c.args.max.0 = search rules
    in
    let bound = normalised_monotone w c.args.v.0 c.args.min.0 c.args.def.0 c.args.max.0 h k
    c.requires.greatest in
    let P : ℤ → Type 0 = λ z. normalised w c.args.min.0 c.args.def.0 c.args.max.0 ≤ℤ z in
    subst P (sym value) bound
