use Rattle.font_ir.proofs.NotdefLaws.{made_notdef_flat}
use Rattle.font_ir.proofs.notdef.made_notdef_is_flat.Goals as goal

pub returns : goal.returns
returns c = made_notdef_flat
