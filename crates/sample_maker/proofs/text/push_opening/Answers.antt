use Rattle.std.proofs.Common.{◌≡◌, ◌++◌, List, ℕ, ap, ◌∙◌, subst, codes, OnOk}
use Rattle.std.proofs.lemmas.List.{append_assoc}
use Rattle.std.specs.String.{string_bytes}
use Rattle.sample_maker.specs.SampleText.{glyph_name, opening_text}
use Rattle.sample_maker.proofs.text.push_opening.Goals as goal

pub returns : goal.returns
unfolding opening_text
returns c =
    let begun : string_bytes c.push_str.new.self ++ glyph_name c.args.number
    ≡ string_bytes c.args.text.now ++ opening_text c.args.number =
    ap (λ (t : List ℕ). t ++ glyph_name c.args.number) c.in_ok-push_str.ensures.bytes
    ∙ append_assoc (string_bytes c.args.text.now) (codes "{glyphname = ")
    (glyph_name c.args.number) in
    subst (λ (t : List ℕ). OnOk c.push_name.result (string_bytes c.push_name.new.text ≡ t)) begun
    c.push_name.ensures
