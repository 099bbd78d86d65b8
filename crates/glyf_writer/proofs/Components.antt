-- Kept components, written one after another.
use Rattle.std.proofs.Common.{◌≡◌, ℕ, zero, suc, ◌+◌, ◌<◌, ◌≤◌, Bool, true, false, List, [], ◌∷◌}
use Rattle.std.proofs.Common.{◌++◌, length, get_or, drop, refl, sym, subst, arith}
use Rattle.std.proofs.lemmas.List.{append-nil}
use Rattle.font_ir.specs.declared.glyph.Kept.{Kept}
use Rattle.glyf_writer.specs.CompositeData.{component_bytes, components_bytes, component_at}
use Rattle.glyf_writer.specs.CompositeData.{components_at}

-- what is written of the components from the i-th on
abbrev pub written_from : ℕ → List Kept → List ℕ → ℕ → List ℕ
written_from place kept gids i = components_bytes (components_at place (drop i kept) (drop i gids))

-- it begins with the i-th; `more` says that another one follows
at_first : (place : ℕ) (kept : List Kept) (gids : List ℕ) (i : ℕ) (k : Kept) (g : ℕ)
    (more : Bool) → length gids ≡ length kept → i < length kept
    → (more ≡ true → suc i < length gids) → (more ≡ false → length gids ≤ suc i)
    → written_from place kept gids i
    ≡ component_bytes more (component_at place (get_or kept i k) (get_or gids i g))
    ++ written_from place kept gids (suc i)
at_first place [] gids i k g more same within some none = absurd (omega arith)
at_first place (kept ∷ others) [] i k g more same within some none = absurd (omega arith)
at_first place (kept ∷ []) (gid ∷ []) zero k g false same within some none =
    sym (append-nil _)
at_first place (kept ∷ []) (gid ∷ []) zero k g true same within some none =
    let two = some refl in absurd (omega arith)
at_first place (kept ∷ []) (gid ∷ next ∷ gids) zero k g more same within some none =
    absurd (omega arith)
at_first place (kept ∷ next ∷ others) (gid ∷ []) zero k g more same within some none =
    absurd (omega arith)
at_first place (kept ∷ next ∷ others) (gid ∷ following ∷ gids) zero k g true same within some
    none = refl
at_first place (kept ∷ next ∷ others) (gid ∷ following ∷ gids) zero k g false same within some
    none = let one = none refl in absurd (omega arith)
at_first place (kept ∷ others) (gid ∷ gids) (suc i) k g more same within some none =
    at_first place others gids i k g more (omega arith) (omega arith)
    (λ e. let more = some e in omega arith) (λ e. let few = none e in omega arith)

pub written_more : (place : ℕ) (kept : List Kept) (gids : List ℕ) (i : ℕ) (k : Kept) (g : ℕ)
    (more : Bool) → length gids ≡ length kept → i < length kept
    → (more ≡ true → i + 1 < length gids) → (more ≡ false → length gids ≤ i + 1)
    → written_from place kept gids i
    ≡ component_bytes more (component_at place (get_or kept i k) (get_or gids i g))
    ++ written_from place kept gids (i + 1)
written_more place kept gids i k g more same within some none =
    let next : suc i ≡ i + 1 = omega arith in
    subst (λ n. written_from place kept gids i
    ≡ component_bytes more (component_at place (get_or kept i k) (get_or gids i g))
    ++ written_from place kept gids n) next
    (at_first place kept gids i k g more same within
    (λ e. let more = some e in omega arith) (λ e. let few = none e in omega arith))
