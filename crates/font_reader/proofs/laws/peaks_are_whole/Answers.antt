use Rattle.font_reader.proofs.LawProofs.{peaks_are_whole}
use Rattle.font_reader.proofs.laws.peaks_are_whole.Goals as goal

pub returns : goal.returns
returns c = peaks_are_whole
