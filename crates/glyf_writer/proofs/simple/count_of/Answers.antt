use Rattle.std.proofs.Common.{arith}
use Rattle.font_ir.specs.OutlineLaws.{few_contours}
use Rattle.glyf_writer.proofs.simple.count_of.Goals as goal

pub overflow_cast-result : goal.overflow_cast-result
overflow_cast-result c = omega (arith, few_contours c.args.contours.now c.requires.none_empty)
