-- What a source says of the whole font, and the rules that it may fail there (Glyphs file format,
-- version 3; the rules and the defaults are fontc's own). Feature code and kerning aren't built: a
-- form of theirs is of a wrong shape.
use Rattle.std.specs.Prelude.{◌≡◌, ℕ, Bool, not, ◌&&◌, ◌==◌, List, [], ◌++◌, length, map}
use Rattle.std.specs.Prelude.{slice_get, slice_index, unwrap_or, Option, Some, None, Result}
use Rattle.std.specs.Prelude.{codes, if◌then◌else◌}
use Rattle.std.specs.Option.{option_map_or}
use Rattle.plist_reader.specs.declared.tree.Tree.{Tree}
use Rattle.plist_reader.specs.Tree.{find_in}
use Rattle.font_ir.specs.declared.header.Header.{Header}
use Rattle.font_ir.specs.declared.header.Master.{Master}
use Rattle.axis_space.specs.Placing.{placed}
use Rattle.axis_space.specs.Repeats.{first_repeat}
use Rattle.axis_space.specs.UnmappedAxes.{first_unmapped}
use Rattle.refusal_codes.specs.declared.refusal.Refusal.{Refusal}
use Rattle.refusal_codes.specs.declared.rule.Rule.TheVariants.{WrongShape, WrongVersion}
use Rattle.refusal_codes.specs.declared.rule.Rule.TheVariants.{SameLocation, AxisMapNotRising}
use Rattle.refusal_codes.specs.declared.first.Failure.{Failure}
use Rattle.refusal_codes.specs.First.{first_of, foremost, or_next, refusal_of, judged}
use Rattle.refusal_codes.specs.declared.job.TheConstants.{HEADER}
use Rattle.source_values.specs.declared.decimals.Decimal.{Decimal}
use Rattle.source_values.specs.declared.kinds.Range.TheVariants.{Natural}
use Rattle.source_values.specs.Decimals.{is_whole}
use Rattle.source_values.specs.Values.{place_at, decimal_at, natural_or, text_or_empty}
use Rattle.source_values.specs.Asking.{fails, whole_failures, name_failures, empty_list_failures}
use Rattle.source_values.specs.Asking.{empty_dictionary_failures, dictionary, required, optional}
use Rattle.source_axes.specs.AxisReading.{axes_failures, axis_numbers, axes_of, too_many_axes}
use Rattle.source_axes.specs.InstanceReading.{instances_failures, instances_of}
use Rattle.source_axes.specs.InstanceReading.{instance_count_failures}
use Rattle.source_masters.specs.Parameters.{font_parameters_failures}
use Rattle.source_masters.specs.Metrics.{metrics_failures, used_metrics}
use Rattle.source_masters.specs.MasterRules.{masters_failures}
use Rattle.source_masters.specs.WholeRules.{too_many_masters, no_master, duplicate_masters}
use Rattle.source_masters.specs.WholeRules.{axis_counts, origin_of, unknown_origin}
use Rattle.source_masters.specs.MasterReading.{units_per_em, masters_place, masters_of}

-- ---- local rules

-- the version of the format is 3
abbrev pub is_version : Decimal → Bool
is_version d = not d.negative && d.whole == 3 && is_whole d

abbrev pub version_failures_by : Tree → ℕ → Option Decimal → List Failure
version_failures_by t n None = fails WrongShape t n
version_failures_by t n (Some d) = if is_version d then [] else fails WrongVersion t n

unfoldable pub version_failures : Tree → ℕ → List Failure
version_failures t n = version_failures_by t n (decimal_at t n)

unfoldable pub name_and_numbers_failures : Tree → ℕ → List Failure
name_and_numbers_failures t top =
    required (codes ".formatVersion") version_failures t top
    ++ required (codes "unitsPerEm") (whole_failures (Natural 16 16384)) t top
    ++ required (codes "familyName") name_failures t top
    ++ optional (codes "versionMajor") (whole_failures (Natural 0 32767)) t top
    ++ optional (codes "versionMinor") (whole_failures (Natural 0 999)) t top

-- the design space: axes, metrics, instances, the font's parameters, masters
unfoldable pub design_failures : Tree → ℕ → List Failure
design_failures t top =
    optional (codes "axes") axes_failures t top
    ++ optional (codes "metrics") metrics_failures t top
    ++ optional (codes "instances") instances_failures t top
    ++ optional (codes "customParameters") font_parameters_failures t top
    ++ required (codes "fontMaster") (masters_failures (used_metrics t)) t top

unfoldable pub feature_forms_failures : Tree → ℕ → List Failure
feature_forms_failures t top =
    optional (codes "classes") empty_list_failures t top
    ++ optional (codes "featurePrefixes") empty_list_failures t top
    ++ optional (codes "features") empty_list_failures t top
    ++ optional (codes "kerningLTR") empty_dictionary_failures t top

unfoldable pub top_failures : Tree → ℕ → List Failure
top_failures t top =
    name_and_numbers_failures t top ++ design_failures t top ++ feature_forms_failures t top

-- the local rules that the header fails
abbrev pub header_failures : Tree → List Failure
header_failures t = dictionary top_failures t t.top

-- ---- whole rules, in their order

-- the masters and kept instances that haven't one coordinate per axis
unfoldable pub count_failures : Tree → List Failure
count_failures t =
    axis_counts (length (axis_numbers t)) t ++ instance_count_failures t (length (axis_numbers t))

-- those of counts, ids and the origin. Of the coordinates the least place counts
unfoldable pub source_failure : Tree → Option Failure
source_failure t =
    or_next (foremost (too_many_axes t))
    (or_next (foremost (too_many_masters t))
    (or_next (foremost (no_master t))
    (or_next (foremost (duplicate_masters t))
    (or_next (first_of (count_failures t)) (foremost (unknown_origin t))))))

-- the position of the default master
unfoldable pub origin_at : Tree → ℕ
origin_at t = unwrap_or (origin_of t) 0

-- a source that fails no local rule, and none of those before places
pub record HasSoundHeader (t : Tree) : Type 0 where
  pub local : header_failures t ≡ []
  pub whole : source_failure t ≡ None

-- the masters with their locations
unfoldable pub placed_masters : Tree → List Master
placed_masters t =
    placed (origin_at t) (length (axes_of t))
    (masters_of t (map (λ axis. axis.name) (axes_of t)))

-- a master that lies where an earlier one does, where it is the one with this position
abbrev pub same_location_by : List Master → Option ℕ → Option Failure
same_location_by masters None = None
same_location_by masters (Some i) = Some (record {
  rule = SameLocation;
  place = option_map_or (λ master. master.place) (slice_get masters i) 0;
})

-- an axis without a map from user to design coordinates, where it is the one with this number
abbrev pub not_rising_by : Tree → Option ℕ → Option Failure
not_rising_by t None = None
not_rising_by t (Some axis) = Some (record {
  rule = AxisMapNotRising;
  place = place_at t (slice_index (axis_numbers t) axis);
})

-- those of these masters' places: the first master that lies where an earlier one does, else the
-- first axis without a map
unfoldable pub place_failure_of : Tree → List Master → Option Failure
place_failure_of t masters =
    or_next (same_location_by masters (first_repeat (map (λ master. master.location) masters)))
    (not_rising_by t (first_unmapped masters (origin_at t) (length (axes_of t))))

-- ---- the record

-- the place of the value under a key of the top dictionary, 0 where there is none
unfoldable pub place_under : Tree → List ℕ → ℕ
place_under t key = option_map_or (place_at t) (find_in t t.top key) 0

unfoldable pub header_record : Tree → Header
header_record t = record {
  upem = units_per_em t;
  family = text_or_empty t t.top (codes "familyName");
  major = natural_or 0 32767 1 t t.top (codes "versionMajor");
  minor = natural_or 0 999 0 t t.top (codes "versionMinor");
  axes = axes_of t;
  masters = placed_masters t;
  masters_place = masters_place t;
  origin = origin_at t;
  instances = instances_of t;
  kerning = [];
  kern_place = place_under t (codes "kerningLTR");
  features = [];
}

-- what is answered where this is the least local failure
unfoldable pub judged_header : Tree → Option Failure → Result Header Refusal
judged_header t least = judged (refusal_of HEADER []) least
    (or_next (source_failure t) (place_failure_of t (placed_masters t))) (header_record t)

-- what is answered where these are the local failures
unfoldable pub header_by : Tree → List Failure → Result Header Refusal
header_by t failures = judged_header t (first_of failures)

-- what the job of the header answers
unfoldable pub header_of : Tree → Result Header Refusal
header_of t = header_by t (header_failures t)
