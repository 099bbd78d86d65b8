use Rattle.std.proofs.Common.{ap, map, ◌∙◌}
use Rattle.metrics_tables.proofs.ChangeLemmas.{model_axes}
use Rattle.metrics_tables.proofs.changes.masters_model.Goals as goal

pub returns-clause-axes : goal.returns-clause-axes
returns-clause-axes c = model_axes c.args.header.now c.requires _ _ c.new.ensures.places
    (c.as_slice-2.ensures ∙ c.in_ok-places.ensures
    ∙ ap (map (λ master. master.location)) c.as_slice.ensures)
