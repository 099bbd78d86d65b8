use Rattle.std.proofs.Common.{refl}
use Rattle.plist_reader.specs.Reading.{read_of}
use Rattle.plist_reader.proofs.OneAnswer.{refused, refusal-of, tree-of, answer-of, refusals-same}
use Rattle.plist_reader.proofs.OneAnswer.{not_both}
use Rattle.plist_reader.proofs.GivenTexts.{given}
use Rattle.plist_reader.proofs.source.sources_have_one_answer.Goals as goal

pub returns : goal.returns
returns c = record {
  either = λ source. answer-of source (read_of source) refl;
  not_both = λ source t r h k. not_both source t r h k;
  one = λ source r s h k. refusals-same source r s h k;
  tree_computed = λ source t h. given source t h;
  tree_of_computed = λ source t h. tree-of source t h;
  refusal_computed = λ source r h. refused source r h;
  refusal_of_computed = λ source r h. refusal-of source r h;
}
