-- How a fault of a font's bytes reads: its kind and its place, as `NotSfnt at 0`. fontc's own.
use Rattle.std.specs.Prelude.{List, ℕ, ◌++◌, codes}
use Rattle.std.specs.Fmt.{decimal}
use Rattle.font_reader.specs.declared.faults.FontFault.{FontFault}
use Rattle.font_reader.specs.declared.faults.FaultKind.{FaultKind}
use Rattle.font_reader.specs.declared.faults.FaultKind.TheVariants.{NotSfnt, NoTable, OutOfTable}
use Rattle.font_reader.specs.declared.faults.FaultKind.TheVariants.{BadFormat, NoPoint, CoordCount}
use Rattle.font_reader.specs.declared.faults.FaultKind.TheVariants.{TooLarge}

-- the kind's name
abbrev pub fault_name : FaultKind → List ℕ
fault_name NotSfnt = codes "NotSfnt"
fault_name NoTable = codes "NoTable"
fault_name OutOfTable = codes "OutOfTable"
fault_name BadFormat = codes "BadFormat"
fault_name NoPoint = codes "NoPoint"
fault_name CoordCount = codes "CoordCount"
fault_name TooLarge = codes "TooLarge"

-- the whole text
abbrev pub fault_text : FontFault → List ℕ
fault_text fault = fault_name fault.kind ++ codes " at " ++ decimal fault.place
