-- An index that is read has an entry for each glyph of the source's list.
use Rattle.std.proofs.Common.{◌≡◌, ℕ, suc, ◌+◌, List, [], ◌∷◌, length, ap, refl}
use Rattle.plist_reader.specs.declared.tree.Tree.{Tree}
use Rattle.glyphs_source.specs.IndexReading.{entries_from}

pub entries_from_length : (t : Tree) (number : ℕ) (gs : List ℕ)
    → length (entries_from t number gs) ≡ length gs
entries_from_length t number [] = refl
entries_from_length t number (g ∷ gs) = ap suc (entries_from_length t (number + 1) gs)
