-- When two indexes are the same: they have the same glyphs in the same order, with equal names and
-- entries. Fontc's own. The test says exactly whether they are the same to a contract.
use Rattle.std.proofs.Common.{◌≡◌, ℕ, Bool, ◌&&◌, ◌==◌, List, Option, Some, None, nat_eq, unwrap_or}
use Rattle.std.proofs.Common.{is_some, ap, sym, true≢false, refl}
use Rattle.std.proofs.Math.Bool.{beq}
use Rattle.std.specs.Bool.{Decides}
use Rattle.std.specs.Option.{option_eq}
use Rattle.std.specs.Cmp.{IsEquivalence, decided, unsigned_Decides, booleans_Decides}
use Rattle.std.specs.Cmp.Lexicographic.{pointwise, pointwise_decides, bytes_decides}
use Rattle.std.proofs.lemmas.Bool.Decides.{Decides-and}
use Rattle.glyphs_source.specs.declared.entries.IndexEntry.{IndexEntry}

-- two texts, either of which may be missing
abbrev pub same_text : Option (List ℕ) → Option (List ℕ) → Bool
same_text = option_eq (pointwise nat_eq)

abbrev pub same_entry : IndexEntry → IndexEntry → Bool
same_entry a b =
    a.number == b.number
    && (a.node == b.node && (beq a.exported b.exported
    && (pointwise nat_eq a.codes b.codes
    && (same_text a.left b.left && same_text a.right b.right))))

-- a name and its entry
abbrev pub same_named : List ℕ × IndexEntry → List ℕ × IndexEntry → Bool
same_named a b = pointwise nat_eq a.0 b.0 && same_entry a.1 b.1

abbrev pub same_index : List (List ℕ × IndexEntry) → List (List ℕ × IndexEntry) → Bool
same_index = pointwise same_named

-- ---- the test is true exactly of an index and itself

same_text-decides : (a b : Option (List ℕ)) → Decides (same_text a b) (a ≡ b)
same_text-decides None None = (λ e. refl, λ e. refl)
same_text-decides None (Some b) = (
  λ e. absurd (true≢false (sym e)),
  λ e. absurd
      (true≢false (sym (ap is_some e))),
)
same_text-decides (Some a) None = (
  λ e. absurd (true≢false (sym e)),
  λ e. absurd
      (true≢false (ap is_some e)),
)
same_text-decides (Some a) (Some b) = let d = bytes_decides a b
    in (λ e. ap (λ x. Some x) (d.0 e), λ e. d.1 (ap (λ o. unwrap_or o a) e))

texts-decide : (a b : IndexEntry) → Decides (same_text a.left b.left && same_text a.right b.right)
    ((a.left ≡ b.left) × (a.right ≡ b.right))
texts-decide a b = Decides-and (same_text a.left b.left) (same_text a.right b.right)
    (same_text-decides a.left b.left) (same_text-decides a.right b.right)

same_entry-decides : (a b : IndexEntry) → Decides (same_entry a b) (a ≡ b)
same_entry-decides a b =
    let d =
    Decides-and (a.number == b.number) _ (unsigned_Decides a.number b.number)
    (Decides-and (a.node == b.node) _ (unsigned_Decides a.node b.node)
    (Decides-and (beq a.exported b.exported) _ (booleans_Decides a.exported b.exported)
    (Decides-and (pointwise nat_eq a.codes b.codes) _ (bytes_decides a.codes b.codes)
    (texts-decide a b)))) in (
      λ e. let h = d.0 e in λ i. record {
        number = h.0 i;
        node = h.1.0 i;
        exported
            = h.1.1.0 i;
        codes = h.1.1.1.0 i;
        left = h.1.1.1.1.0 i;
        right = h.1.1.1.1.1 i;
      },
      λ e. d.1 (
        ap (λ x. x.number) e,
        (
          ap (λ x. x.node) e,
          (
            ap (λ x. x.exported) e,
            (
              ap (λ x. x.codes) e,
              (ap (λ x. x.left) e, ap (λ x. x.right) e),
            ),
          ),
        ),
      ),
    )

same_named-decides : (a b : List ℕ × IndexEntry) → Decides (same_named a b) (a ≡ b)
same_named-decides a b =
    let d = Decides-and (pointwise nat_eq a.0 b.0) (same_entry a.1 b.1) (bytes_decides a.0 b.0)
    (same_entry-decides a.1 b.1) in
    (λ e. let h = d.0 e in λ i. (h.0 i, h.1 i), λ e. d.1 (ap (λ x. x.0) e, ap (λ x. x.1) e))

pub same_index-decides : (a b : List (List ℕ × IndexEntry)) → Decides (same_index a b) (a ≡ b)
same_index-decides = pointwise_decides same_named-decides

pub same_index_equiv : IsEquivalence same_index
same_index_equiv = decided same_index same_index-decides
