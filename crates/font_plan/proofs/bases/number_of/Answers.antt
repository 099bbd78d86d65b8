-- the number of the entry with the name is its place
use Rattle.std.proofs.Common.{◌≡◌, ℕ, ◌+◌, List, Some, ap, ◌∙◌, arith}
use Rattle.std.specs.Prelude.{slice_get}
use Rattle.std.specs.Option.{option_map}
use Rattle.glyphs_source.specs.declared.entries.IndexEntry.{IndexEntry}
use Rattle.character_codes.specs.CharacterCodes.{Entry}
use Rattle.font_plan.proofs.Exported.{named_number}
use Rattle.font_plan.proofs.bases.number_of.Goals as goal

numbered : (index : List Entry)
    → ((place : ℕ) (entry : Entry) → slice_get index place ≡ Some entry
    → entry.1.number ≡ place)
    → (place : ℕ) (entry : Entry) → slice_get index place ≡ Some entry
    → entry.1.number ≡ 0 + place
numbered index law place entry at = let is = law place entry at in omega (arith, is)

pub returns-in-Some : goal.returns-in-Some
returns-in-Some c = ap (option_map (λ (entry : IndexEntry). entry.number)) c.in-Some.ensures
    ∙ named_number 0 c.args.name.now c.args.index.now
    (numbered c.args.index.now c.requires.numbered)

pub returns-in-None : goal.returns-in-None
returns-in-None c = ap (option_map (λ (entry : IndexEntry). entry.number)) c.in-None.ensures
    ∙ named_number 0 c.args.name.now c.args.index.now
    (numbered c.args.index.now c.requires.numbered)
