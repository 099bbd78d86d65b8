-- What a source says of its masters (Glyphs file format, version 3, `fontMaster`). Where they lie
-- on the normalised scale is not read here, so they have no locations yet. The defaults are fontc's
-- own.
use Rattle.std.specs.Prelude.{ℕ, ◌+◌, Bool, ◌&&◌, List, [], ◌∷◌, map, slice_get, codes, Option}
use Rattle.std.specs.Prelude.{option_and_then, unwrap_or}
use Rattle.std.specs.Option.{option_map_or}
use Rattle.std.specs.List.{find}
use Rattle.fixed_math.specs.declared.Fixed.{Fixed}
use Rattle.plist_reader.specs.declared.tree.Tree.{Tree}
use Rattle.plist_reader.specs.Tree.{find_in, spells}
use Rattle.font_ir.specs.declared.header.Master.{Master}
use Rattle.font_ir.specs.Coordinates.{coordinate_at}
use Rattle.source_values.specs.Values.{place_at, items_at, natural_or, text_under}
use Rattle.source_values.specs.Ways.{has}
use Rattle.source_axes.specs.AxisValues.{axis_coordinate, coordinates_under}
use Rattle.source_masters.specs.declared.metrics.Heights.{Heights}
use Rattle.source_masters.specs.Parameters.{parameter_under}
use Rattle.source_masters.specs.Metrics.{metric_numbers, heights_of, missing_heights}
use Rattle.source_masters.specs.WholeRules.{master_numbers, master_id, origin_of}

-- the units per em of a font
abbrev pub units_per_em : Tree → ℕ
units_per_em t = natural_or 16 16384 16 t t.top (codes "unitsPerEm")

-- the place of the list of masters, 0 where there is none
unfoldable pub masters_place : Tree → ℕ
masters_place t = option_map_or (place_at t) (find_in t t.top (codes "fontMaster")) 0

-- ---- coordinates

-- a master's design coordinates, as many as it has values
unfoldable pub design_of : Tree → ℕ → List Fixed
design_of t m = coordinates_under t m (codes "axesValues")

-- whether an entry says where on this axis a master lies
abbrev pub locates : List ℕ → Tree → ℕ → Bool
locates axis t entry =
    spells axis (text_under t entry (codes "Axis")) && has (codes "Location") t entry

-- the value with which the first of these entries does
unfoldable pub location_in : List ℕ → Tree → List ℕ → Option ℕ
location_in axis t entries =
    option_and_then (λ entry. find_in t entry (codes "Location")) (find (locates axis t) entries)

-- the entries of a master's locations on the user's scale
unfoldable pub location_entries : Tree → ℕ → List ℕ
location_entries t m =
    unwrap_or (option_and_then (items_at t) (parameter_under (codes "Axis Location") t m)) []

-- a user coordinate: that of the first entry for the axis, or else the design coordinate
unfoldable pub user_coordinate : Tree → List ℕ → List ℕ → Fixed → Fixed
user_coordinate t entries axis design =
    option_map_or (axis_coordinate t) (location_in axis t entries) design

-- the user coordinates on these axes, of which the first is the one with this number
abbrev pub user_from : Tree → List ℕ → List Fixed → ℕ → List (List ℕ) → List Fixed
user_from t entries design i [] = []
user_from t entries design i (axis ∷ axes) =
    user_coordinate t entries axis (coordinate_at design i)
    ∷ user_from t entries design (i + 1) axes

-- ---- masters

-- the heights of the default master, and what stands for them where there is none
unfoldable pub default_heights : Tree → Heights
default_heights t =
    option_map_or (λ m. heights_of t (metric_numbers t) m (missing_heights (units_per_em t)))
    (option_and_then (slice_get (master_numbers t)) (origin_of t))
    (missing_heights (units_per_em t))

-- a master of a font with axes of these names, where a height that it hasn't is one of these
unfoldable pub master_with : Tree → List (List ℕ) → Heights → ℕ → Master
master_with t axes missing m =
    let heights = heights_of t (metric_numbers t) m missing in
    record {
      id = master_id t m;
      design = design_of t m;
      user = user_from t (location_entries t m) (design_of t m) 0 axes;
      location = [];
      ascender = heights.ascender;
      descender = heights.descender;
      cap = heights.cap;
      xheight = heights.xheight;
      place = place_at t m;
    }

-- the masters of a font with axes of these names. A height that a master hasn't is that of the
-- default master
unfoldable pub masters_of : Tree → List (List ℕ) → List Master
masters_of t axes = map (master_with t axes (default_heights t)) (master_numbers t)
