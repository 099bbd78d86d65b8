-- What becomes of a source by the verdict of its jobs: the font that is defined directly.
use Rattle.std.proofs.Common.{◌≡◌, ℕ, List, [], ◌∷◌, map, replicate, length, Ok, refl}
use Rattle.std.proofs.Common.{ap, ◌∙◌}
use Rattle.font_graph.specs.Judged.{verdict_accepts}
use Rattle.font_plan.specs.Direct.{direct_font}
use Rattle.font_plan.specs.Font.{font_of}
use Rattle.font_plan.specs.Jobs.{parts}
use Rattle.font_graph.specs.Direct.{direct_made, made_direct}

pub font_direct : (source font : List ℕ) → font_of source ≡ Ok font → direct_font source ≡ Ok font
unfolding font_of direct_font
font_direct source font e =
    made_direct (parts source) font ((verdict_accepts (parts source) font).0 e)

pub direct_is_font : (source font : List ℕ) → direct_font source ≡ Ok font
    → font_of source ≡ Ok font
unfolding font_of direct_font
direct_is_font source font e =
    (verdict_accepts (parts source) font).1 (direct_made (parts source) font e)

-- sources that all have one font
pub all_made : (font : List ℕ) (sources : List (List ℕ))
    → map direct_font sources ≡ replicate (length sources) (Ok font)
    → map font_of sources ≡ replicate (length sources) (Ok font)
all_made font [] e = refl
all_made font (source ∷ sources) e =
    let first : direct_font source ≡ Ok font = cc in
    let others : map direct_font sources ≡ replicate (length sources) (Ok font) = cc in
    ap (λ r. r ∷ map font_of sources) (direct_is_font source font first)
    ∙ ap (λ rs. Ok font ∷ rs) (all_made font sources others)
