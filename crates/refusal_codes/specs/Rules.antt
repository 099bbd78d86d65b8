-- The written rules: of each its number, which is its place among the rules, its letter and number,
-- and its name. fontc's own.
use Rattle.std.specs.Prelude.{ℕ, List, codes}
use Rattle.refusal_codes.specs.declared.rule.Rule.{Rule}
use Rattle.refusal_codes.specs.declared.rule.Rule.TheVariants.{NotUtf8, UnexpectedByte}
use Rattle.refusal_codes.specs.declared.rule.Rule.TheVariants.{UnexpectedEnd, BadEscape}
use Rattle.refusal_codes.specs.declared.rule.Rule.TheVariants.{DuplicateKey, TooDeep, TrailingText}
use Rattle.refusal_codes.specs.declared.rule.Rule.TheVariants.{WrongShape, MissingKey, WrongVersion}
use Rattle.refusal_codes.specs.declared.rule.Rule.TheVariants.{NotWhole, OutOfRange, TooManyAxes}
use Rattle.refusal_codes.specs.declared.rule.Rule.TheVariants.{TooManyMasters, NoMaster, AxisCount}
use Rattle.refusal_codes.specs.declared.rule.Rule.TheVariants.{SameLocation, AxisMapNotRising}
use Rattle.refusal_codes.specs.declared.rule.Rule.TheVariants.{DuplicateGlyph, OriginUnknown}
use Rattle.refusal_codes.specs.declared.rule.Rule.TheVariants.{BadTag, TooLarge, DuplicateMaster}
use Rattle.refusal_codes.specs.declared.rule.Rule.TheVariants.{MissingLayer, CubicNode, OpenContour}
use Rattle.refusal_codes.specs.declared.rule.Rule.TheVariants.{Incompatible, UnknownComponent}
use Rattle.refusal_codes.specs.declared.rule.Rule.TheVariants.{ComponentCycle, UnsupportedTransform}
use Rattle.refusal_codes.specs.declared.rule.Rule.TheVariants.{CoordinateTooLarge, DeltaTooLarge}
use Rattle.refusal_codes.specs.declared.rule.Rule.TheVariants.{TooManyPoints, TooManyComponents}
use Rattle.refusal_codes.specs.declared.rule.Rule.TheVariants.{DuplicateUnicode, LayerPlace}
use Rattle.refusal_codes.specs.declared.rule.Rule.TheVariants.{SameLayerPlace, TooManyLayers}
use Rattle.refusal_codes.specs.declared.rule.Rule.TheVariants.{AlternateName, TooManyRules, Syntax}
use Rattle.refusal_codes.specs.declared.rule.Rule.TheVariants.{Unsupported, UnknownGlyph}
use Rattle.refusal_codes.specs.declared.rule.Rule.TheVariants.{UnknownName, ConflictingRule}
use Rattle.refusal_codes.specs.declared.rule.Rule.TheVariants.{ClassSizes, MixedLookup}
use Rattle.refusal_codes.specs.declared.rule.Rule.TheVariants.{BadContextCall, TooManyGlyphs}
use Rattle.refusal_codes.specs.declared.rule.Rule.TheVariants.{CmapTooLarge, LayoutTooLarge}
use Rattle.refusal_codes.specs.declared.rule.Rule.TheVariants.{RowTooLarge, TableTooLarge}
use Rattle.refusal_codes.specs.declared.rule.Rule.TheVariants.{TooManyRegions, TooManyCells}

-- one row for each rule
abbrev pub rule_row : Rule → ℕ × List ℕ × List ℕ
rule_row NotUtf8 = (0, codes "P1", codes "NotUtf8")
rule_row UnexpectedByte = (1, codes "P2", codes "UnexpectedByte")
rule_row UnexpectedEnd = (2, codes "P3", codes "UnexpectedEnd")
rule_row BadEscape = (3, codes "P4", codes "BadEscape")
rule_row DuplicateKey = (4, codes "P5", codes "DuplicateKey")
rule_row TooDeep = (5, codes "P6", codes "TooDeep")
rule_row TrailingText = (6, codes "P7", codes "TrailingText")
rule_row WrongShape = (7, codes "S1", codes "WrongShape")
rule_row MissingKey = (8, codes "S2", codes "MissingKey")
rule_row WrongVersion = (9, codes "S3", codes "WrongVersion")
rule_row NotWhole = (10, codes "S4", codes "NotWhole")
rule_row OutOfRange = (11, codes "S5", codes "OutOfRange")
rule_row TooManyAxes = (12, codes "S6", codes "TooManyAxes")
rule_row TooManyMasters = (13, codes "S7", codes "TooManyMasters")
rule_row NoMaster = (14, codes "S8", codes "NoMaster")
rule_row AxisCount = (15, codes "S9", codes "AxisCount")
rule_row SameLocation = (16, codes "S10", codes "SameLocation")
rule_row AxisMapNotRising = (17, codes "S11", codes "AxisMapNotRising")
rule_row DuplicateGlyph = (18, codes "S12", codes "DuplicateGlyph")
rule_row OriginUnknown = (19, codes "S13", codes "OriginUnknown")
rule_row BadTag = (20, codes "S14", codes "BadTag")
rule_row TooLarge = (21, codes "S15", codes "TooLarge")
rule_row DuplicateMaster = (22, codes "S16", codes "DuplicateMaster")
rule_row MissingLayer = (23, codes "G1", codes "MissingLayer")
rule_row CubicNode = (24, codes "G2", codes "CubicNode")
rule_row OpenContour = (25, codes "G3", codes "OpenContour")
rule_row Incompatible = (26, codes "G4", codes "Incompatible")
rule_row UnknownComponent = (27, codes "G5", codes "UnknownComponent")
rule_row ComponentCycle = (28, codes "G6", codes "ComponentCycle")
rule_row UnsupportedTransform = (29, codes "G7", codes "UnsupportedTransform")
rule_row CoordinateTooLarge = (30, codes "G8", codes "CoordinateTooLarge")
rule_row DeltaTooLarge = (31, codes "G9", codes "DeltaTooLarge")
rule_row TooManyPoints = (32, codes "G10", codes "TooManyPoints")
rule_row TooManyComponents = (33, codes "G11", codes "TooManyComponents")
rule_row DuplicateUnicode = (34, codes "G12", codes "DuplicateUnicode")
rule_row LayerPlace = (35, codes "G13", codes "LayerPlace")
rule_row SameLayerPlace = (36, codes "G14", codes "SameLayerPlace")
rule_row TooManyLayers = (37, codes "G15", codes "TooManyLayers")
rule_row AlternateName = (38, codes "G16", codes "AlternateName")
rule_row TooManyRules = (39, codes "G17", codes "TooManyRules")
rule_row Syntax = (40, codes "F1", codes "Syntax")
rule_row Unsupported = (41, codes "F2", codes "Unsupported")
rule_row UnknownGlyph = (42, codes "F3", codes "UnknownGlyph")
rule_row UnknownName = (43, codes "F4", codes "UnknownName")
rule_row ConflictingRule = (44, codes "F5", codes "ConflictingRule")
rule_row ClassSizes = (45, codes "F6", codes "ClassSizes")
rule_row MixedLookup = (46, codes "F7", codes "MixedLookup")
rule_row BadContextCall = (47, codes "F8", codes "BadContextCall")
rule_row TooManyGlyphs = (48, codes "B1", codes "TooManyGlyphs")
rule_row CmapTooLarge = (49, codes "B2", codes "CmapTooLarge")
rule_row LayoutTooLarge = (50, codes "B3", codes "LayoutTooLarge")
rule_row RowTooLarge = (51, codes "B4", codes "RowTooLarge")
rule_row TableTooLarge = (52, codes "B5", codes "TableTooLarge")
rule_row TooManyRegions = (53, codes "B6", codes "TooManyRegions")
rule_row TooManyCells = (54, codes "B7", codes "TooManyCells")

-- the rule's place among the rules
abbrev pub rule_number : Rule → ℕ
rule_number rule = (rule_row rule).0

-- the rule's letter and number
abbrev pub rule_code : Rule → List ℕ
rule_code rule = (rule_row rule).1

-- the rule's name
abbrev pub rule_name : Rule → List ℕ
rule_name rule = (rule_row rule).2
