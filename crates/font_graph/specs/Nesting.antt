-- Glyphs that are drawn don't lead back to themselves by their bases. For the plans of crates above.
-- fontc's own.
use Rattle.std.proofs.Common.{◌≡◌, ℕ, zero, suc, ◌+◌, Bool, true, false, inl, inr, List, [], ◌∷◌}
use Rattle.std.proofs.Common.{Result, Ok, Err, refl, sym, ap, subst, arith}
use Rattle.refusal_codes.specs.declared.refusal.Refusal.{Refusal}
use Rattle.job_graph.specs.Members.{In}
use Rattle.font_graph.specs.Parts.{Parts}
use Rattle.font_graph.specs.Descent.{ends_within, Leads, ends_later, ended_by, no_cycle}
use Rattle.font_graph.specs.FailsBy.{is_made, bases_in, reads_of, bases_of}
use Rattle.font_graph.specs.Fonts.{AllDrawn, no_more, one_more}

module _ (p : Parts) (tree : p.Tree) (header : p.Header) (index : p.Index) where
  abbrev EndsWithin : ℕ → ℕ → Type 0
  EndsWithin depth glyph = ends_within (bases_of p tree header index) (reads_of p tree header index) depth glyph ≡ true

  abbrev Ends : ℕ → Type 0
  Ends glyph = (depth : ℕ) × EndsWithin depth glyph

  later : (more depth glyph : ℕ) → EndsWithin depth glyph → EndsWithin (more + depth) glyph
  later zero depth glyph e =
      let same : depth ≡ 0 + depth = omega arith in subst (λ n. EndsWithin n glyph) same e
  later (suc more) depth glyph e =
      let same : suc (more + depth) ≡ suc more + depth = omega arith in
      subst (λ n. EndsWithin n glyph) same
      (ends_later (bases_of p tree header index) (reads_of p tree header index) (more + depth) glyph (later more depth glyph e))

  -- all of these end within as many bases as all of them together
  together : (glyphs : List ℕ) → ((glyph : ℕ) → In glyph glyphs → Ends glyph)
      → (depth : ℕ) × ((glyph : ℕ) → In glyph glyphs → EndsWithin depth glyph)
  together [] each = (0, λ glyph i. absurd i)
  together (first ∷ glyphs) each =
      let one = each first (inl refl) in
      let rest = together glyphs (λ glyph i. each glyph (inr i)) in
      let swapped : rest.0 + one.0 ≡ one.0 + rest.0 = omega arith in (
        one.0 + rest.0,
        λ glyph i. elim i [
          | inl e ↦ subst (EndsWithin (one.0 + rest.0)) e
              (subst (λ n. EndsWithin n first) swapped (later rest.0 one.0 first one.1))
          | inr j ↦ later one.0 rest.0 glyph (rest.1 glyph j)
        ],
      )

  read_ends : (glyph : ℕ) (raw : p.Raw) → p.raw tree header index glyph ≡ Ok raw
      → ((base : ℕ) → In base (p.bases raw index) → Ends base) → Ends glyph
  read_ends glyph raw read each =
      let below = together (p.bases raw index) each in (
        suc below.0,
        ended_by (bases_of p tree header index) (reads_of p tree header index) below.0 glyph (ap (is_made p tree header index) read)
            (λ base i. below.1 base (subst (λ bs. In base bs) (ap (bases_in p tree header index) read) i)),
      )

  drawn_end : (glyphs : List ℕ) (flats : List p.Flat) → AllDrawn p tree header index glyphs flats
      → (glyph : ℕ) → In glyph glyphs → Ends glyph
  drawn_end _ _ no_more other i = absurd i
  drawn_end _ _ (one_more glyph raw of_bases flat glyphs flats read below made rest) other (inl e) =
      subst Ends e (read_ends glyph raw read
      (λ base i. drawn_end (p.bases raw index) of_bases below base i))
  drawn_end _ _ (one_more glyph raw of_bases flat glyphs flats read below made rest) other (inr i) =
      drawn_end glyphs flats rest other i

  -- a glyph that is drawn leads to no cycle of bases
  pub drawn_lead_nowhere : (glyphs : List ℕ) (flats : List p.Flat)
      → AllDrawn p tree header index glyphs flats → (glyph : ℕ) → In glyph glyphs
      → Leads (bases_of p tree header index) (reads_of p tree header index) glyph glyph → ⊥
  drawn_lead_nowhere glyphs flats drawn glyph i leads =
      let ends = drawn_end glyphs flats drawn glyph i in
      no_cycle (bases_of p tree header index) (reads_of p tree header index) ends.0 glyph ends.1 leads
