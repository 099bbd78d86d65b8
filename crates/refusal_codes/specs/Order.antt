-- The order in which refusals win: by stratum, kind, name (by bytes), rule and place. fontc's own.
use Rattle.std.specs.declared.cmp.Ordering.{Ordering}
use Rattle.std.specs.Ordering.{nat_cmp, ordering_then}
use Rattle.std.specs.Cmp.Lexicographic.{slice_cmp}
use Rattle.refusal_codes.specs.Rules.{rule_number}
use Rattle.refusal_codes.specs.declared.refusal.Refusal.{Refusal}

-- which of two refusals comes first
abbrev pub refusal_cmp : Refusal → Refusal → Ordering
refusal_cmp a b =
    ordering_then (nat_cmp a.stratum b.stratum)
    (ordering_then (nat_cmp a.kind b.kind)
    (ordering_then (slice_cmp nat_cmp a.name b.name)
    (ordering_then (nat_cmp (rule_number a.rule) (rule_number b.rule)) (nat_cmp a.place b.place))))
