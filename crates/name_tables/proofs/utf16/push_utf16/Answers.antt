use Rattle.std.proofs.Common.{◌≡◌, ◌+◌, length, List, ℕ, [], ◌∷◌, ◌++◌, sym, ap, ◌∙◌, arith}
use Rattle.std.proofs.Common.{append-nil}
use Rattle.std.proofs.lemmas.Iterator.{YieldsList-from_chars}
use Rattle.std.proofs.lemmas.Iterator.Consumers.{YieldsList-turn, YieldsList-end}
use Rattle.std.proofs.lemmas.List.{length_push, at_drop_all}
use Rattle.std.specs.List.{flat_map}
use Rattle.std.specs.Str.{chars}
use Rattle.plain_lists.specs.TurnLaws.{flat_map_turn}
use Rattle.name_tables.specs.Texts.{utf16_bytes, utf16_character}
use Rattle.name_tables.proofs.Units.{few_bytes}
use Rattle.name_tables.proofs.utf16.push_utf16.Goals as goal

pub loop-character-preserved : goal.loop-character-preserved
loop-character-preserved c =
    let t = YieldsList-turn (YieldsList-from_chars c.args.text.now c.utf8.text cc)
    c.loop-character.yielded _ c.loop-character.yielded_by _ _ c.in-Some.character c.in-Some.is
    c.next.ensures.steps in
    let more : length (c.loop-character.yielded ++ c.in-Some.character ∷ [])
    ≡ length c.loop-character.yielded + 1 = length_push _ _ in
    let step = c.in_ok-push_character.ensures
    ∙ ap (λ x. c.loop-character.bytes.items ++ utf16_character x) t.1 in
    rw more (flat_map_turn utf16_character (chars c.args.text.now) (length c.loop-character.yielded)
    c.in-Some.character c.loop-character.bytes.items c.push_character.new.bytes.items _ t.0 step
    c.loop-character.invariant)

pub returns-clause-bytes : goal.returns-clause-bytes
unfolding utf16_bytes
returns-clause-bytes c =
    let t = YieldsList-end (YieldsList-from_chars c.args.text.now c.utf8.text cc)
    c.loop-character.yielded _ c.loop-character.yielded_by _ _ c.in-None.is c.next.ensures.steps
    in
    sym (append-nil c.loop-character.bytes.items)
    ∙ sym (at_drop_all (λ (l : List ℕ). c.loop-character.bytes.items ++ flat_map utf16_character l)
    (chars c.args.text.now) (length c.loop-character.yielded) (omega (arith, t.1)))
    ∙ c.loop-character.invariant

pub returns-clause-len : goal.returns-clause-len
returns-clause-len c = few_bytes c.args.text.now c.utf8.text
