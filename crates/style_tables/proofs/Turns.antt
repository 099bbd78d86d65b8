-- One turn of a loop that writes where the axis values stand.
use Rattle.std.proofs.Common.{◌≡◌, ℕ, ◌+◌, ◌<◌, List, ◌++◌, length, drop, sym, ap, ◌∙◌}
use Rattle.std.proofs.Common.{append_assoc}
use Rattle.std.proofs.lemmas.List.{at_drop_more}
use Rattle.table_bytes.specs.DataTypes.{uint16}
use Rattle.style_tables.specs.Stat.{value_offset, value_offsets}
use Rattle.style_tables.specs.declared.axis_values.AxisValue.{AxisValue}

pub offsets_turn : (count i : ℕ) (values : List AxisValue) (d : AxisValue) (table next all : List ℕ)
    → i < length values → next ≡ table ++ uint16 (value_offset count i)
    → table ++ value_offsets count i (drop i values) ≡ all
    → next ++ value_offsets count (i + 1) (drop (i + 1) values) ≡ all
offsets_turn count i values d table next all within e h =
    let rest : List ℕ = value_offsets count (i + 1) (drop (i + 1) values) in
    ap (λ (bytes : List ℕ). bytes ++ rest) e
    ∙ append_assoc table (uint16 (value_offset count i)) rest
    ∙ sym (at_drop_more (λ vs. table ++ value_offsets count i vs) values i d within) ∙ h
