use Rattle.std.proofs.Common.{◌≡◌, [], ◌∷◌, ◌++◌, length, drop, ap, ◌∙◌}
use Rattle.byteorder.specs.Endian.{big_number}
use Rattle.font_assembly.proofs.TotalLemmas.{total-last}
use Rattle.font_assembly.proofs.checksums.last_word.Goals as goal

pub returns : goal.returns
returns c =
    let bytes = c.args.bytes.now in
    let read : c.read_u32.result ≡ big_number 4
    (c.copy_from_slice.new.self ++ drop (length bytes) (0 ∷ 0 ∷ 0 ∷ 0 ∷ []))
    = c.read_u32.ensures in
    read
    ∙ ap (λ front. big_number 4 (front ++ drop (length bytes) (0 ∷ 0 ∷ 0 ∷ 0 ∷ [])))
    c.copy_from_slice.ensures.after
    ∙ total-last bytes c.requires
