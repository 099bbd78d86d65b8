use Rattle.std.proofs.Common.{inl, refl, sym, ap, ◌∙◌}
use Rattle.std.specs.Str.{chars}
use Rattle.refusal_codes.specs.Gives.{Gives}
use Rattle.plist_reader.specs.declared.tree.Tree.{Tree}
use Rattle.plist_reader.specs.Grammar.{HasTree}
use Rattle.plist_reader.specs.Tree.{IsTree}
use Rattle.plist_reader.specs.Reading.{read_of, run, start}
use Rattle.plist_reader.proofs.RunLemmas.{read_of-text, read_of-bad, if_ok-from_Gives}
use Rattle.plist_reader.proofs.GivenTexts.{given}
use Rattle.plist_reader.proofs.SpelledTexts.{read_of-spelled}
use Rattle.plist_reader.proofs.RefusalLemmas.{error-from_Gives}
use Rattle.plist_reader.proofs.OneAnswer.{refused}
use Rattle.plist_reader.proofs.SoundSteps.{read_of-sound}
use Rattle.plist_reader.proofs.source.read.Goals as goal

pub returns-in-Ok : goal.returns-in-Ok
returns-in-Ok c =
    let same = read_of-text c.args.source.now c.in-Ok.ensures.cases.1
    ∙ ap (λ bytes. run start 0 (chars bytes)) (sym c.in-Ok.ensures.cases.0) in
    let exact : Gives {X = Tree} {Y = Tree} (λ t. t) c.read_text.result (read_of c.args.source.now)
    = rw same c.read_text.ensures in
    record {
      refused = error-from_Gives c.args.source.now c.read_text.result c.in-Ok.ensures.cases.1
          exact;
      exact = exact;
      found = if_ok-from_Gives (HasTree c.args.source.now)
          c.read_text.result (read_of c.args.source.now) exact (read_of-spelled c.args.source.now);
      only = λ t h. rw (given c.args.source.now t h) at exact;
      refusals
          = λ r h. rw (refused c.args.source.now r h) at exact;
      tree
          = if_ok-from_Gives IsTree c.read_text.result (read_of c.args.source.now) exact
          (read_of-sound c.args.source.now c.requires);
    }

pub returns-in-Err-clause-exact : goal.returns-in-Err-clause-exact
returns-in-Err-clause-exact c =
    rw (c.refusal.ensures, c.valid_up_to.ensures, c.in-Err.ensures.valid_len)
    (read_of-bad c.args.source.now c.in-Err.ensures.cases.0)

pub returns-in-Err-clause-refused : goal.returns-in-Err-clause-refused
returns-in-Err-clause-refused c =
    rw (c.refusal.ensures, c.valid_up_to.ensures, c.in-Err.ensures.valid_len)
    (inl (c.in-Err.ensures.cases.0, refl))

pub returns-in-Err-clause-only : goal.returns-in-Err-clause-only
returns-in-Err-clause-only c = λ t h. absurd (c.in-Err.ensures.cases.0 h.utf8)

pub returns-in-Err-clause-refusals : goal.returns-in-Err-clause-refusals
returns-in-Err-clause-refusals c = λ r h.
    rw (c.refusal.ensures, c.valid_up_to.ensures, c.in-Err.ensures.valid_len)
    (sym (refused c.args.source.now r h)
    ∙ read_of-bad c.args.source.now c.in-Err.ensures.cases.0)
