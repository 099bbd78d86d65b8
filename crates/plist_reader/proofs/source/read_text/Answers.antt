use Rattle.std.proofs.Common.{◌≡◌, ◌+◌, length, drop, [], ◌∷◌, ◌++◌, sym, ap, ◌∙◌, arith}
use Rattle.std.proofs.lemmas.Iterator.{YieldsList-from_chars}
use Rattle.std.proofs.lemmas.Iterator.Consumers.{YieldsList-turn, YieldsList-end}
use Rattle.std.proofs.lemmas.List.{length_push, at_drop_all}
use Rattle.std.proofs.lemmas.Str.{encodes-chars}
use Rattle.std.proofs.lemmas.Result.{err_from_is_err_and}
use Rattle.std.specs.Str.{chars}
use Rattle.plist_reader.specs.Reading.{run, start, finish}
use Rattle.plist_reader.proofs.RunLemmas.{rest_is, run_step, run_refused, weight_of_rest}
use Rattle.plist_reader.proofs.source.read_text.Goals as goal

pub step-requires : goal.step-requires
step-requires c = omega (arith, c.loop-character.invariant.0)

pub loop-character-init : goal.loop-character-init
loop-character-init c = (
  omega (arith, ap length (encodes-chars c.args.text.now c.utf8.text)),
  ap (λ r. run r 0 (chars c.args.text.now)) c.new-reader.ensures,
)

pub returns-in_err-step : goal.returns-in_err-step
returns-in_err-step c =
    let t = YieldsList-turn (YieldsList-from_chars c.args.text.now c.utf8.text cc)
    c.loop-character.yielded _ c.loop-character.yielded_by _ _ c.in-Some.character c.in-Some.is
    c.next.ensures.steps in
    let cs = drop (length c.loop-character.yielded + 1) (chars c.args.text.now) in
    let e = rest_is _ _ _ t in
    let p = err_from_is_err_and c.from_residual.result c.from_residual.ensures.1 in
    let h = run_refused _ c.loop-character.reader c.loop-character.place c.in-Some.character cs
    c.in_err-step.ensures in
    let same : run c.loop-character.reader c.loop-character.place (c.in-Some.character ∷ cs)
    ≡ run start 0 (chars c.args.text.now)
    = ap (λ x. run c.loop-character.reader c.loop-character.place x) (sym e)
    ∙ c.loop-character.invariant.1 in
    rw (p.1, p.2) (rw same at h)

pub loop-character-preserved : goal.loop-character-preserved
loop-character-preserved c =
    let t = YieldsList-turn (YieldsList-from_chars c.args.text.now c.utf8.text cc)
    c.loop-character.yielded _ c.loop-character.yielded_by _ _ c.in-Some.character c.in-Some.is
    c.next.ensures.steps in
    let e = rest_is _ _ _ t in
    let cs = drop (length c.loop-character.yielded + 1) (chars c.args.text.now) in
    let more : length (c.loop-character.yielded ++ c.in-Some.character ∷ [])
    ≡ length c.loop-character.yielded + 1 = length_push _ _ in
    let same : run c.loop-character.reader c.loop-character.place (c.in-Some.character ∷ cs)
    ≡ run start 0 (chars c.args.text.now)
    = ap (λ x. run c.loop-character.reader c.loop-character.place x) (sym e)
    ∙ c.loop-character.invariant.1 in
    rw (more, c.len_utf8.ensures.value) (
      weight_of_rest (chars c.args.text.now) (length c.loop-character.yielded) c.in-Some.character
          c.loop-character.place _ e c.loop-character.invariant.0,
      sym (run_step _ _ _ _ cs c.in_ok-step.ensures) ∙ same,
    )

pub returns : goal.returns
returns c =
    let t = YieldsList-end (YieldsList-from_chars c.args.text.now c.utf8.text cc)
    c.loop-character.yielded _ c.loop-character.yielded_by _ _ c.in-None.is c.next.ensures.steps
    in
    let last : run c.loop-character.reader c.loop-character.place
    (drop (length c.loop-character.yielded) (chars c.args.text.now))
    ≡ finish c.loop-character.reader c.loop-character.place
    = at_drop_all (λ x. run c.loop-character.reader c.loop-character.place x)
    (chars c.args.text.now) (length c.loop-character.yielded) (omega (arith, t.1)) in
    let same = sym last ∙ c.loop-character.invariant.1 in
    rw same at c.finish.ensures
