use Rattle.name_tables.proofs.scales.push_scale.Goals as goal

pub returns : goal.returns
returns c =
    rw (
      c.scale_of-scale.ensures.least,
      c.scale_of-scale.ensures.default,
      c.scale_of-scale.ensures.greatest,
    ) at c.push_scale_fields.ensures
