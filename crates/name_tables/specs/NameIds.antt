-- The numbers of the names of the design space, which the tables "name" and "fvar" share (OpenType
-- 1.9, "name", "Name IDs"): those below 256 are reserved. That the axes' names come first and then
-- the instances' is fontc's own.
use Rattle.std.specs.Prelude.{ℕ, ◌+◌, length}
use Rattle.font_ir.specs.declared.header.Header.{Header}

abbrev pub first_axis_id : ℕ
first_axis_id = 256

abbrev pub axis_name_id : ℕ → ℕ
axis_name_id axis = first_axis_id + axis

abbrev pub first_instance_id : Header → ℕ
first_instance_id header = first_axis_id + length header.axes

abbrev pub instance_name_id : Header → ℕ → ℕ
instance_name_id header instance = first_instance_id header + instance
