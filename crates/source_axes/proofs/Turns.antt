-- One turn of the loops that go over axes and instances.
use Rattle.std.proofs.Common.{◌≡◌, ℕ, ◌+◌, ◌<◌, Bool, true, false, cond, List, [], ◌∷◌, ◌++◌}
use Rattle.std.proofs.Common.{length}
use Rattle.std.proofs.Common.{map, get_or, drop, Option, refl, sym, ap, ◌∙◌, subst}
use Rattle.std.proofs.lemmas.List.{at_drop_more}
use Rattle.std.specs.Prelude.{flat_map}
use Rattle.std.specs.List.{filter}
use Rattle.plist_reader.specs.declared.tree.Tree.{Tree}
use Rattle.refusal_codes.specs.declared.first.Failure.{Failure}
use Rattle.refusal_codes.specs.First.{noted}
use Rattle.refusal_codes.specs.FirstLaws.{noted-append}
use Rattle.source_axes.specs.AxisReading.{tag_text, again_by, with_tag, repeated_tags}

-- what is noted of the axes that are left is what is noted of the next one, and then of those
-- behind it
pub tag_turn : (t : Tree) (tags next : List (List ℕ)) (axes : List ℕ) (i : ℕ)
    (least here all : Option Failure) → i < length axes
    → here ≡ noted least (again_by t tags (get_or axes i 0) (tag_text t (get_or axes i 0)))
    → next ≡ with_tag tags (tag_text t (get_or axes i 0))
    → noted least (repeated_tags t tags (drop i axes)) ≡ all
    → noted here (repeated_tags t next (drop (i + 1) axes)) ≡ all
tag_turn t tags next axes i least here all lt e f h =
    let a = get_or axes i 0 in
    let rest = drop (i + 1) axes in
    ap (λ (n : Option Failure). noted n (repeated_tags t next rest)) e
    ∙ sym (noted-append least (again_by t tags a (tag_text t a)) (repeated_tags t next rest))
    ∙ ap (λ (ts : List (List ℕ)). noted least
    (again_by t tags a (tag_text t a) ++ repeated_tags t ts rest)) f
    ∙ sym (at_drop_more (λ ys. noted least (repeated_tags t tags ys)) axes i 0 lt)
    ∙ h

module _ (p : ℕ → Bool) (xs : List ℕ) (i : ℕ) (lt : i < length xs) where
  -- of what passes a test: the next one does, or it doesn't
  passes : {Y : Type 0} (F : List ℕ → Y) → p (get_or xs i 0) ≡ true
      → F (filter p (drop i xs)) ≡ F (get_or xs i 0 ∷ filter p (drop (i + 1) xs))
  passes F e =
      at_drop_more (λ ys. F (filter p ys)) xs i 0 lt
      ∙ ap (λ (b : Bool). F (cond b (get_or xs i 0 ∷ filter p (drop (i + 1) xs))
      (filter p (drop (i + 1) xs)))) e

  fails : {Y : Type 0} (F : List ℕ → Y) → p (get_or xs i 0) ≡ false
      → F (filter p (drop i xs)) ≡ F (filter p (drop (i + 1) xs))
  fails F e =
      at_drop_more (λ ys. F (filter p ys)) xs i 0 lt
      ∙ ap (λ (b : Bool). F (cond b (get_or xs i 0 ∷ filter p (drop (i + 1) xs))
      (filter p (drop (i + 1) xs)))) e

  -- what is made so far, and of those that are left
  pub made_more : {Y : Type 0} (f : ℕ → Y) (made more all : List Y) → p (get_or xs i 0) ≡ true
      → more ≡ made ++ f (get_or xs i 0) ∷ []
      → made ++ map f (filter p (drop i xs)) ≡ all
      → more ++ map f (filter p (drop (i + 1) xs)) ≡ all
  made_more {Y} f made more all e m h =
      ap (λ (ys : List Y). ys ++ map f (filter p (drop (i + 1) xs))) m
      ∙ one made
      ∙ sym (passes (λ ys. made ++ map f ys) e)
      ∙ h
    where
      one : (made : List Y) → (made ++ f (get_or xs i 0) ∷ []) ++ map f (filter p (drop (i + 1) xs))
          ≡ made ++ f (get_or xs i 0) ∷ map f (filter p (drop (i + 1) xs))
      one [] = refl
      one (y ∷ ys) = ap (λ (zs : List Y). y ∷ zs) (one ys)

  pub made_same : {Y : Type 0} (f : ℕ → Y) (made all : List Y) → p (get_or xs i 0) ≡ false
      → made ++ map f (filter p (drop i xs)) ≡ all
      → made ++ map f (filter p (drop (i + 1) xs)) ≡ all
  made_same f made all e h = sym (fails (λ ys. made ++ map f ys) e) ∙ h

  -- what is noted of those that are left
  pub noted_more : (f : ℕ → List Failure) (least next all : Option Failure)
      → p (get_or xs i 0) ≡ true → next ≡ noted least (f (get_or xs i 0))
      → noted least (flat_map f (filter p (drop i xs))) ≡ all
      → noted next (flat_map f (filter p (drop (i + 1) xs))) ≡ all
  noted_more f least next all e n h =
      ap (λ (o : Option Failure). noted o (flat_map f (filter p (drop (i + 1) xs)))) n
      ∙ sym (noted-append least (f (get_or xs i 0)) (flat_map f (filter p (drop (i + 1) xs))))
      ∙ sym (passes (λ ys. noted least (flat_map f ys)) e)
      ∙ h

  pub noted_same : (f : ℕ → List Failure) (least all : Option Failure) → p (get_or xs i 0) ≡ false
      → noted least (flat_map f (filter p (drop i xs))) ≡ all
      → noted least (flat_map f (filter p (drop (i + 1) xs))) ≡ all
  noted_same f least all e h = sym (fails (λ ys. noted least (flat_map f ys)) e) ∙ h
