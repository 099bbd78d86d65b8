-- The test of equality, field by field.
use Rattle.std.proofs.Common.{◌≡◌, ◌≢◌, ℕ, suc, ◌+◌, ◌<◌, ◌++◌, Bool, true, false, ◌&&◌, List, []}
use Rattle.std.proofs.Common.{◌∷◌, length, get_or, drop, nat_eq, refl, ap, sym, ◌∙◌, arith}
use Rattle.std.specs.Cmp.Lexicographic.{pointwise, bytes_decides}
use Rattle.table_tree.specs.declared.node.Field.{Field}
use Rattle.table_tree.specs.declared.node.Field.TheVariants.{U8, U16, U32, Bytes, Off16, Off32}
use Rattle.table_tree.specs.declared.node.Field.TheVariants.{Far32, Null16, Null32}
use Rattle.table_tree.specs.Trees.{Tree, end, spelling, spelled_bytes, spelling_prefix}
use Rattle.table_tree.specs.Trees.{bytes_injective}
use Rattle.table_tree.specs.TreeOf.{before, tree_of}
use Rattle.table_tree.specs.Equal.{tree_eq, field_eq, equal_nodes, node_equals_itself}
use Rattle.table_tree.proofs.TreeLemmas.{tree_drop}

same_truth : (a b : Bool) → (a ≡ true → b ≡ true) → (b ≡ true → a ≡ true) → a ≡ b
same_truth true true f g = refl
same_truth true false f g = sym (f refl)
same_truth false true f g = g refl
same_truth false false f g = refl

and_true : (a b : Bool) → (a && b) ≡ true → (a ≡ true) × (b ≡ true)
and_true true b e = (refl, e)
and_true false b e = cc

both_true : (a b : Bool) → a ≡ true → b ≡ true → (a && b) ≡ true
both_true true b e f = f
both_true false b e f = e

near_eq : (x y r s : Tree) → pointwise nat_eq (spelling x ++ spelling r) (spelling y ++ spelling s)
    ≡ (tree_eq x y && tree_eq r s)
near_eq x y r s =
    same_truth _ _
    (λ e. let one = spelling_prefix x y (spelling r) (spelling s)
    ((bytes_decides (spelling x ++ spelling r) (spelling y ++ spelling s)).0 e) in
    both_true _ _ (node_equals_itself x y one.0)
    ((bytes_decides (spelling r) (spelling s)).1 one.1))
    (λ e. let two = and_true (tree_eq x y) (tree_eq r s) e in
    (bytes_decides (spelling x ++ spelling r) (spelling y ++ spelling s)).1
    (λ i. spelling (equal_nodes x y two.0 i) ++ spelling (equal_nodes r s two.1 i)))

content_eq : (c d : List ℕ) (r s : Tree)
    → pointwise nat_eq (spelled_bytes c (spelling r)) (spelled_bytes d (spelling s))
    ≡ (pointwise nat_eq c d && tree_eq r s)
content_eq c d r s =
    same_truth _ _
    (λ e. let one = bytes_injective c d (spelling r) (spelling s)
    ((bytes_decides (spelled_bytes c (spelling r)) (spelled_bytes d (spelling s))).0 e) in
    both_true _ _ ((bytes_decides c d).1 one.0)
    ((bytes_decides (spelling r) (spelling s)).1 one.1))
    (λ e. let two = and_true (pointwise nat_eq c d) (tree_eq r s) e in
    (bytes_decides (spelled_bytes c (spelling r)) (spelled_bytes d (spelling s))).1
    (λ i. spelled_bytes ((bytes_decides c d).0 two.0 i) (spelling (equal_nodes r s two.1 i))))

-- a field before others
before_eq : (f g : Field) (r s : Tree) → tree_eq (before f r) (before g s)
    ≡ (field_eq f g && tree_eq r s)
before_eq (U8 m) (U8 n) r s = refl
before_eq (U16 m) (U16 n) r s = refl
before_eq (U32 m) (U32 n) r s = refl
before_eq (Bytes c) (Bytes d) r s = content_eq c d r s
before_eq (Off16 x) (Off16 y) r s = near_eq x y r s
before_eq (Off32 x) (Off32 y) r s = near_eq x y r s
before_eq (Far32 x) (Far32 y) r s = near_eq x y r s
before_eq Null16 Null16 r s = refl
before_eq Null32 Null32 r s = refl
before_eq f g r s = refl

fields_turn : (fs gs : List Field) (i : ℕ) (f g : Field) → i < length fs
    → f ≡ get_or fs i f → i < length gs → g ≡ get_or gs i g
    → tree_eq (tree_of (drop i fs)) (tree_of (drop i gs))
    ≡ (field_eq f g && tree_eq (tree_of (drop (suc i) fs)) (tree_of (drop (suc i) gs)))
fields_turn fs gs i f g in_fs f_is in_gs g_is =
    (λ j. tree_eq (tree_drop fs i f in_fs f_is j) (tree_drop gs i g in_gs g_is j))
    ∙ before_eq f g (tree_of (drop (suc i) fs)) (tree_of (drop (suc i) gs))

-- two fields that are unequal make the nodes unequal
pub unequal_turn : (fs gs : List Field) (i : ℕ) (f g : Field) → i < length fs
    → f ≡ get_or fs i f → i < length gs → g ≡ get_or gs i g → field_eq f g ≡ false
    → tree_eq (tree_of (drop i fs)) (tree_of (drop i gs)) ≡ false
unequal_turn fs gs i f g in_fs f_is in_gs g_is unlike =
    fields_turn fs gs i f g in_fs f_is in_gs g_is
    ∙ ap (λ b. b && tree_eq (tree_of (drop (suc i) fs)) (tree_of (drop (suc i) gs))) unlike

-- two that are equal leave it to the fields after them
pub equal_turn : (fs gs : List Field) (i : ℕ) (f g : Field) → i < length fs
    → f ≡ get_or fs i f → i < length gs → g ≡ get_or gs i g → field_eq f g ≡ true
    → tree_eq (tree_of (drop i fs)) (tree_of (drop i gs))
    ≡ tree_eq (tree_of (drop (i + 1) fs)) (tree_of (drop (i + 1) gs))
equal_turn fs gs i f g in_fs f_is in_gs g_is alike =
    let next : suc i ≡ i + 1 = omega arith in
    fields_turn fs gs i f g in_fs f_is in_gs g_is
    ∙ ap (λ b. b && tree_eq (tree_of (drop (suc i) fs)) (tree_of (drop (suc i) gs))) alike
    ∙ ap (λ n. tree_eq (tree_of (drop n fs)) (tree_of (drop n gs))) next

end_first : (g : Field) (s : Tree) → tree_eq end (before g s) ≡ false
end_first (U8 n) s = refl
end_first (U16 n) s = refl
end_first (U32 n) s = refl
end_first (Bytes d) s = refl
end_first (Off16 y) s = refl
end_first (Off32 y) s = refl
end_first (Far32 y) s = refl
end_first Null16 s = refl
end_first Null32 s = refl

end_second : (f : Field) (r : Tree) → tree_eq (before f r) end ≡ false
end_second (U8 n) r = refl
end_second (U16 n) r = refl
end_second (U32 n) r = refl
end_second (Bytes d) r = refl
end_second (Off16 y) r = refl
end_second (Off32 y) r = refl
end_second (Far32 y) r = refl
end_second Null16 r = refl
end_second Null32 r = refl

-- equal nodes have as many fields
pub fields_as_many : (fs gs : List Field) → tree_eq (tree_of fs) (tree_of gs) ≡ true
    → length fs ≡ length gs
fields_as_many [] [] e = refl
fields_as_many [] (g ∷ gs) e = let unlike = end_first g (tree_of gs) in cc
fields_as_many (f ∷ fs) [] e = let unlike = end_second f (tree_of fs) in cc
fields_as_many (f ∷ fs) (g ∷ gs) e =
    let both = and_true (field_eq f g) (tree_eq (tree_of fs) (tree_of gs))
    (sym (before_eq f g (tree_of fs) (tree_of gs)) ∙ e) in
    ap suc (fields_as_many fs gs both.1)

pub unlike_lengths : (fs gs : List Field) → length fs ≢ length gs
    → false ≡ tree_eq (tree_of fs) (tree_of gs)
unlike_lengths fs gs ne =
    elim (tree_eq (tree_of fs) (tree_of gs)) as
    (λ b. tree_eq (tree_of fs) (tree_of gs) ≡ b → false ≡ b) [
      | true ↦ λ e. absurd (ne (fields_as_many fs gs e))
      | false ↦ λ e. refl
    ] refl
