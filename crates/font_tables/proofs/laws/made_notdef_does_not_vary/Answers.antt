use Rattle.font_ir.specs.Notdef.{made_notdef_of}
use Rattle.font_tables.proofs.MadeNotdef.{all_still}
use Rattle.font_tables.proofs.StillRows.{does_not_vary}
use Rattle.font_tables.proofs.laws.made_notdef_does_not_vary.Goals as goal

pub returns : goal.returns
returns c = λ header name is. does_not_vary header (made_notdef_of header)
    (all_still header is (c.made_notdef_is_flat.ensures header is)) name
