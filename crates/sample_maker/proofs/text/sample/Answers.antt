-- no text of a sample is too long for a source
use Rattle.std.proofs.Common.{◌∙◌, ap}
use Rattle.sample_maker.proofs.Lengths.{fits_a_source}
use Rattle.sample_maker.proofs.text.sample.Goals as goal

pub returns-clause-short : goal.returns-clause-short
returns-clause-short c = fits_a_source c.into_bytes.result.items c.args.seed c.args.glyphs
    (ap (λ bytes. bytes.items) c.into_bytes.ensures.value ∙ c.in_ok-text.ensures) c.requires.few
