use Rattle.glyphs_layers.proofs.TableLaws.{tabled}
use Rattle.glyphs_layers.proofs.rule_laws.glyph_rules_are_tabled.Goals as goal

pub returns : goal.returns
returns c = tabled
