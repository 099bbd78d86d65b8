use Rattle.glyphs_source.proofs.SourceRuleLaws.{wrong_versions}
use Rattle.glyphs_source.proofs.rule_laws.wrong_versions_are_refused.Goals as goal

pub returns : goal.returns
returns c =
    wrong_versions c.axis_rules_are_tabled.ensures c.instance_rules_are_tabled.ensures
    c.metric_rules_are_tabled.ensures c.font_parameter_rules_are_tabled.ensures
    c.master_rules_are_tabled.ensures
