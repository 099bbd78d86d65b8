-- Each table of a font, by its tag and what it is made of: its bytes, that the font doesn't have
-- it, or why it can't be written (OpenType 1.9, the chapters of these names). That a font without
-- axes has no avar, fvar, gvar, HVAR, MVAR and STAT, and what is refused, is fontc's own.
use Rattle.std.specs.Prelude.{ℕ, Bool, nat_eq, ℤ, List, length, codes, Option, None, Some}
use Rattle.std.specs.Prelude.{Result, Ok, Err, if◌then◌else◌}
use Rattle.refusal_codes.specs.declared.refusal.Refusal.{Refusal}
use Rattle.refusal_codes.specs.declared.rule.Rule.TheVariants.{CmapTooLarge, DeltaTooLarge}
use Rattle.refusal_codes.specs.declared.rule.Rule.TheVariants.{TableTooLarge}
use Rattle.refusal_codes.specs.declared.job.TheConstants.{TABLE}
use Rattle.refusal_codes.specs.First.{refusal_of}
use Rattle.font_ir.specs.declared.header.Header.{Header}
use Rattle.font_ir.specs.declared.tag.Tag.{Tag}
use Rattle.font_ir.specs.Glyphs.{Glyphs}
use Rattle.table_bytes.specs.Tables.{over_limit}
use Rattle.cmap_writer.specs.Runs.{Codes}
use Rattle.cmap_writer.specs.Cmap as cmap
use Rattle.glyf_writer.specs.Tables as outlines
use Rattle.gvar_writer.specs.Gvar as gvar
use Rattle.metrics_tables.specs.declared.measures.Measures.{Measures}
use Rattle.metrics_tables.specs.Tables as metrics
use Rattle.metrics_tables.specs.Os2.{os2_table}
use Rattle.metrics_tables.specs.Post.{post_table}
use Rattle.metrics_tables.specs.Hvar.{hvar_table}
use Rattle.name_tables.specs.Avar.{avar_table}
use Rattle.name_tables.specs.Fvar.{fvar_table}
use Rattle.name_tables.specs.Names.{name_table}
use Rattle.style_tables.specs.Metrics.{all_metrics, first_large_of}
use Rattle.style_tables.specs.Mvar.{mvar_table}
use Rattle.style_tables.specs.Stat.{stat_table}
use Rattle.font_tables.specs.Tags.{has_name, group_of}
use Rattle.font_tables.specs.Variations.{shared_of}
use Rattle.font_tables.specs.declared.tags.TableGroup.{TableGroup}
use Rattle.font_tables.specs.declared.tags.TableGroup.TheVariants as groups

-- ---- what is absent, and what is refused

abbrev pub has_no_axes : Header → Bool
has_no_axes header = nat_eq (length header.axes) 0

-- a table that a font has where it has axes
abbrev pub where_axes : Header → List ℕ → Option (List ℕ)
where_axes header bytes = if has_no_axes header then None else Some bytes

-- the refusal of a table that is too long
abbrev pub table_too_large : List ℕ → ℕ → Refusal
table_too_large tag length = refusal_of TABLE tag (record { rule = TableTooLarge; place = length })

-- a table, unless a length is too large
abbrev pub unless_too_large : List ℕ → Option ℕ → List ℕ → Result (Option (List ℕ)) Refusal
unless_too_large tag (Some length) bytes = Err (table_too_large tag length)
unless_too_large tag None bytes = Ok (Some bytes)

-- ---- of the header and the order

abbrev pub plain_table : Tag → Header → Glyphs → Option (List ℕ)
plain_table tag header order =
    if has_name (codes "avar") tag then where_axes header (avar_table header)
    else if has_name (codes "fvar") tag then where_axes header (fvar_table header)
    else if has_name (codes "name") tag then Some (name_table header)
    else if has_name (codes "post") tag then Some (post_table header order)
    else None

-- a metric of the whole font changes by too much: the place is the list of masters
abbrev pub metrics_refused : Header → Refusal
metrics_refused header = refusal_of TABLE (codes "MVAR")
    (record { rule = DeltaTooLarge; place = header.masters_place })

abbrev pub metrics_unless : Option (ℕ × ℤ) → Header → Result (Option (List ℕ)) Refusal
metrics_unless (Some large) header = Err (metrics_refused header)
metrics_unless None header = Ok (mvar_table header)

abbrev pub metric_variations : Header → Result (Option (List ℕ)) Refusal
metric_variations header = if has_no_axes header then Ok None else metrics_unless
    (first_large_of header all_metrics) header

abbrev pub style_table : Tag → Header → Result (Option (List ℕ)) Refusal
style_table tag header =
    if has_name (codes "MVAR") tag then metric_variations header
    else if has_name (codes "STAT") tag then Ok (where_axes header (stat_table header))
    else Ok None

-- ---- of codes

-- the refusal of a subtable of format 4 that is too long
abbrev pub cmap_too_large : ℕ → Refusal
cmap_too_large length = refusal_of TABLE (codes "cmap")
    (record { rule = CmapTooLarge; place = length })

abbrev pub cmap_unless : Option ℕ → Codes → Result (Option (List ℕ)) Refusal
cmap_unless (Some length) characters = Err (cmap_too_large length)
cmap_unless None characters = Ok (Some (cmap.cmap_table characters))

abbrev pub code_table : Codes → Result (Option (List ℕ)) Refusal
code_table characters = cmap_unless (cmap.too_large characters) characters

-- ---- of measures

abbrev pub metrics_table : Tag → Header → Measures → Option (List ℕ)
metrics_table tag header measures =
    if has_name (codes "HVAR") tag then where_axes header (hvar_table header measures)
    else if has_name (codes "head") tag then Some (metrics.head_table header measures)
    else if has_name (codes "hhea") tag then Some (metrics.hhea_table header measures)
    else if has_name (codes "hmtx") tag then Some (metrics.hmtx_table measures)
    else if has_name (codes "maxp") tag then Some (metrics.maxp_table measures)
    else None

-- ---- of the glyphs' data

abbrev pub outline_table : Tag → List (List ℕ) → Result (Option (List ℕ)) Refusal
outline_table tag parts =
    if has_name (codes "glyf") tag
    then unless_too_large (codes "glyf") (over_limit (length (outlines.glyf_bytes parts)))
    (outlines.glyf_bytes parts)
    else if has_name (codes "loca") tag
    then unless_too_large (codes "loca") (outlines.too_large parts) (outlines.loca_bytes parts)
    else Ok None

abbrev pub variations_table : Header → List (List ℕ) → Result (Option (List ℕ)) Refusal
variations_table header parts =
    if has_no_axes header then Ok None else unless_too_large (codes "gvar")
    (gvar.too_large (shared_of header) (length header.axes) parts)
    (gvar.gvar_table (shared_of header) (length header.axes) parts)

-- ---- each table

-- what the tables of a font are made of
pub record TableParts : Type 0 where
  pub header : Header
  pub order : Glyphs
  -- the characters, each with the number of its glyph
  pub characters : Codes
  pub measures : Measures
  -- each glyph's data in glyf, and in gvar
  pub outlines : List (List ℕ)
  pub variations : List (List ℕ)

abbrev pub table_in : Option TableGroup → Tag → TableParts → Result (Option (List ℕ)) Refusal
table_in None tag parts = Ok None
table_in (Some groups.Plain) tag parts = Ok (plain_table tag parts.header parts.order)
table_in (Some groups.Style) tag parts = style_table tag parts.header
table_in (Some groups.Codes) tag parts = code_table parts.characters
table_in (Some groups.CodeMetrics) tag parts =
    Ok (Some (os2_table parts.header parts.measures parts.characters))
table_in (Some groups.Metrics) tag parts = Ok (metrics_table tag parts.header parts.measures)
table_in (Some groups.Outlines) tag parts = outline_table tag parts.outlines
table_in (Some groups.Variations) tag parts = variations_table parts.header parts.variations

-- the table with this tag
abbrev pub table_of : Tag → TableParts → Result (Option (List ℕ)) Refusal
table_of tag parts = table_in (group_of tag) tag parts
