-- What the passes know of the value that comes back.
use Rattle.std.proofs.Common.{◌≡◌, ℕ, List, [], ◌∷◌, map, sym, ◌∙◌}
use Rattle.std.specs.List.{All}
use Rattle.std.proofs.lemmas.List.Elements.{All-nil, All-cons}
use Rattle.turnstile.specs.Members.{AllKnow}
use Rattle.turnstile.specs.Passes.{PassView, member_of, IsHistoryOf}

module _ {E T : Type 0} (list : List (ℕ × E)) (origin root : T) (is : root ≡ origin) where
  pub all_history : (ps : List (PassView E T)) → AllKnow list origin (map member_of ps)
      → All (IsHistoryOf list root) ps
  all_history [] know = All-nil (IsHistoryOf list root)
  all_history (p ∷ ps) know =
      let k = know.0 in
      All-cons (IsHistoryOf list root) p ps record
      { begins = k.begins; mine = k.mine; same_root = is ∙ sym k.root } (all_history ps know.1)
