-- When two ids name the same job. The test says exactly whether they are the same to a contract.
-- fontc's own.
use Rattle.std.specs.Prelude.{◌≡◌, ◌↔◌, IsTrue, Bool, true, false, nat_eq}
use Rattle.std.proofs.Common.{refl, ap, subst}
use Rattle.std.proofs.lemmas.Bool.{eqb-true, eq-eqb, false≢true}
use Rattle.std.specs.Cmp.{IsEquivalence, decided}
use Rattle.std.specs.Cmp.Lexicographic.{pointwise, bytes_decides}
use Rattle.font_ir.specs.declared.tag.Tag.{Tag}
use Rattle.font_graph.specs.declared.ids.JobId.{JobId}
use Rattle.font_graph.specs.declared.ids.JobId.TheVariants as job

abbrev pub same_id : JobId → JobId → Bool
same_id job.Tree job.Tree = true
same_id job.Header job.Header = true
same_id job.Index job.Index = true
same_id (job.Raw a) (job.Raw b) = nat_eq a b
same_id (job.Flat a) (job.Flat b) = nat_eq a b
same_id (job.Simple a) (job.Simple b) = nat_eq a b
same_id (job.Composite a) (job.Composite b) = nat_eq a b
same_id (job.Variations a) (job.Variations b) = nat_eq a b
same_id job.FeatureParse job.FeatureParse = true
same_id job.Order job.Order = true
same_id job.Advances job.Advances = true
same_id job.Kern job.Kern = true
same_id job.Marks job.Marks = true
same_id job.Rules job.Rules = true
same_id (job.Lookup a) (job.Lookup b) = nat_eq a b
same_id job.Store job.Store = true
same_id (job.Table a) (job.Table b) = pointwise nat_eq a.0 b.0
same_id job.Font job.Font = true
same_id _ _ = false

same_tag : (a b : Tag) → pointwise nat_eq a.0 b.0 ≡ true → a ≡ b
same_tag a b e = ap (λ bytes. record { 0 = bytes }) ((bytes_decides a.0 b.0).0 e)

is_same : (x y : JobId) → same_id x y ≡ true → x ≡ y
is_same job.Tree job.Tree e = refl
is_same job.Header job.Header e = refl
is_same job.Index job.Index e = refl
is_same (job.Raw a) (job.Raw b) e = ap job.Raw (eqb-true a b e)
is_same (job.Flat a) (job.Flat b) e = ap job.Flat (eqb-true a b e)
is_same (job.Simple a) (job.Simple b) e = ap job.Simple (eqb-true a b e)
is_same (job.Composite a) (job.Composite b) e = ap job.Composite (eqb-true a b e)
is_same (job.Variations a) (job.Variations b) e = ap job.Variations (eqb-true a b e)
is_same job.FeatureParse job.FeatureParse e = refl
is_same job.Order job.Order e = refl
is_same job.Advances job.Advances e = refl
is_same job.Kern job.Kern e = refl
is_same job.Marks job.Marks e = refl
is_same job.Rules job.Rules e = refl
is_same (job.Lookup a) (job.Lookup b) e = ap job.Lookup (eqb-true a b e)
is_same job.Store job.Store e = refl
is_same (job.Table a) (job.Table b) e = ap job.Table (same_tag a b e)
is_same job.Font job.Font e = refl
is_same _ _ e = absurd (false≢true e)

is_itself : (x : JobId) → same_id x x ≡ true
is_itself job.Tree = refl
is_itself job.Header = refl
is_itself job.Index = refl
is_itself (job.Raw a) = eq-eqb a a refl
is_itself (job.Flat a) = eq-eqb a a refl
is_itself (job.Simple a) = eq-eqb a a refl
is_itself (job.Composite a) = eq-eqb a a refl
is_itself (job.Variations a) = eq-eqb a a refl
is_itself job.FeatureParse = refl
is_itself job.Order = refl
is_itself job.Advances = refl
is_itself job.Kern = refl
is_itself job.Marks = refl
is_itself job.Rules = refl
is_itself (job.Lookup a) = eq-eqb a a refl
is_itself job.Store = refl
is_itself (job.Table a) = (bytes_decides a.0 a.0).1 refl
is_itself job.Font = refl

pub identity : (x y : JobId) → IsTrue (same_id x y) ↔ (x ≡ y)
identity x y = (λ e. is_same x y e, λ e. subst (λ z. same_id x z ≡ true) e (is_itself x))

pub ids_equiv : IsEquivalence same_id
ids_equiv = decided same_id identity
