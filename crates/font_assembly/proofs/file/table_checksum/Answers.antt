use Rattle.std.proofs.Common.{ap, sym, ◌∙◌}
use Rattle.font_assembly.specs.Assembled.{table_of}
use Rattle.font_assembly.proofs.FileLemmas.{checksum-head}
use Rattle.font_assembly.proofs.file.table_checksum.Goals as goal

pub returns-then-eq : goal.returns-then-eq
returns-then-eq c =
    checksum-head (table_of c.args.table.now) c.as_slice-bytes.result.now c.checksum-front.result
    c.checksum.result
    (c.as_slice-bytes.ensures.value ∙ ap (λ v. v.items) c.deref.ensures)
    (sym c.eq.ensures ∙ c.if-eq.true) c.requires c.checksum-front.ensures c.checksum.ensures
