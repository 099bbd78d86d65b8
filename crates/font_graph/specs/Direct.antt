-- The font of a source without jobs: each part is asked, one after the other, and the first that
-- refuses the source refuses it all. It is the same font. fontc's own.
use Rattle.std.proofs.Common.{◌≡◌, ℕ, zero, suc, ◌+◌, Bool, true, inl, inr, List, [], ◌∷◌, length}
use Rattle.std.proofs.Common.{Result, Ok, Err, refl, sym, ap, ◌∙◌, subst, arith}
use Rattle.refusal_codes.specs.declared.refusal.Refusal.{Refusal}
use Rattle.refusal_codes.specs.Gives.{◌>>=◌}
use Rattle.font_graph.specs.Parts.{Parts}
use Rattle.job_graph.specs.Members.{In}
use Rattle.font_graph.specs.Descent.{ends_within, ends_later, ended_by, ended_base, none_at_once}
use Rattle.font_graph.specs.Descent.{settled_in}
use Rattle.font_graph.specs.Fonts.{AllMade, AllDrawn, no_more, one_more, part, varying, table}
use Rattle.font_graph.specs.Fonts.{IsFontOf}
use Rattle.font_graph.specs.FailsBy.{is_made, bases_in, reads_of, bases_of}

-- what a part answers of each of these, in their order
abbrev pub all_in : {A B : Type 0} → (A → Result B Refusal) → List A → Result (List B) Refusal
all_in make [] = Ok []
all_in make (a ∷ others) = make a >>= λ b. (all_in make others >>= λ bs. Ok (b ∷ bs))

-- what was passed on, and what came of it
pub record Passed {A B : Type 0} (given : Result A Refusal) (next : A → Result B Refusal) (made : B)
    : Type 0 where
  pub value : A
  pub is : given ≡ Ok value
  pub rest : next value ≡ Ok made

pub passed : {A B : Type 0} (given : Result A Refusal) (next : A → Result B Refusal) (made : B)
    → (given >>= next) ≡ Ok made → Passed given next made
passed (Err r) next made e = absurd cc
passed (Ok value) next made e = record { value = value; is = refl; rest = e }

some_more : {B : Type 0} (b : B) (bs made : List B)
    → ◌≡◌ {A = Result (List B) Refusal} (Ok (b ∷ bs)) (Ok made) → made ≡ b ∷ bs
some_more b bs made e = cc

made_so : {A B : Type 0} (make : A → Result B Refusal) (a : A) (others : List A) (b : B)
    (bs made : List B) → made ≡ b ∷ bs → make a ≡ Ok b → AllMade make others bs
    → AllMade make (a ∷ others) made
made_so make a others b bs [] e is rest = absurd cc
made_so make a others b bs (c ∷ cs) e is rest =
    let head : b ≡ c = cc in
    let tail : bs ≡ cs = cc in
    (is ∙ ap Ok head, subst (AllMade make others) tail rest)

pub in_all : {A B : Type 0} (make : A → Result B Refusal) (items : List A) (made : List B)
    → all_in make items ≡ Ok made → AllMade make items made
in_all make [] [] e = tt
in_all make [] (b ∷ bs) e = absurd cc
in_all make (a ∷ others) made e =
    let first = passed (make a) (λ b. (all_in make others >>= λ bs. Ok (b ∷ bs))) made e in
    let rest = passed (all_in make others) (λ bs. Ok (first.value ∷ bs)) made first.rest in
    made_so make a others first.value rest.value made
    (some_more first.value rest.value made rest.rest) first.is
    (in_all make others rest.value rest.is)

pub all_from : {A B : Type 0} (make : A → Result B Refusal) (items : List A) (made : List B)
    → AllMade make items made → all_in make items ≡ Ok made
all_from make [] [] m = refl
all_from make [] (b ∷ bs) m = absurd m
all_from make (a ∷ others) [] m = absurd m
all_from make (a ∷ others) (b ∷ bs) m =
    ap (λ r. r >>= λ b. (all_in make others >>= λ bs. Ok (b ∷ bs))) m.0
    ∙ ap (λ r. r >>= λ bs. Ok (b ∷ bs)) (all_from make others bs m.1)

-- ---- glyphs by their bases

module _ (p : Parts) (tree : p.Tree) (header : p.Header) (index : p.Index) where
  -- a glyph, read and drawn, where its bases are less than this many away. There are no more than
  -- there are glyphs, unless they lead to a cycle.
  abbrev outline : (ℕ → Result p.Flat Refusal) → p.Raw → Result p.Flat Refusal
  outline base raw = all_in base (p.bases raw index) >>= p.flat raw index

  unfoldable pub drawn_within : ℕ → ℕ → Result p.Flat Refusal
  drawn_within zero glyph = p.raw tree header index glyph >>= λ raw. Err (p.endless raw index)
  drawn_within (suc depth) glyph = p.raw tree header index glyph >>= outline (drawn_within depth)

  abbrev pub drawn : ℕ → Result p.Flat Refusal
  drawn = drawn_within (suc (length (p.all index)))

  -- what answers is drawn
  record One (glyph : ℕ) (flat : p.Flat) : Type 0 where
    raw : p.Raw
    of_bases : List p.Flat
    raw_made : p.raw tree header index glyph ≡ Ok raw
    bases_drawn : AllDrawn p tree header index (p.bases raw index) of_bases
    flat_made : p.flat raw index of_bases ≡ Ok flat

  no_more_so : (flats : List p.Flat)
      → ◌≡◌ {A = Result (List p.Flat) Refusal} (Ok []) (Ok flats)
      → AllDrawn p tree header index [] flats
  no_more_so [] e = no_more
  no_more_so (flat ∷ flats) e = absurd cc

  more_so : (glyph : ℕ) (glyphs : List ℕ) (flat : p.Flat) (rest flats : List p.Flat)
      → flats ≡ flat ∷ rest → One glyph flat → AllDrawn p tree header index glyphs rest
      → AllDrawn p tree header index (glyph ∷ glyphs) flats
  more_so glyph glyphs flat rest flats e o d = subst (AllDrawn p tree header index (glyph ∷ glyphs))
      (sym e) (one_more glyph o.raw o.of_bases flat glyphs rest o.raw_made o.bases_drawn o.flat_made
      d)

  each_drawn : (draw : ℕ → Result p.Flat Refusal)
      → ((glyph : ℕ) (flat : p.Flat) → draw glyph ≡ Ok flat → One glyph flat)
      → (glyphs : List ℕ) (flats : List p.Flat) → all_in draw glyphs ≡ Ok flats
      → AllDrawn p tree header index glyphs flats
  each_drawn draw one [] flats e = no_more_so flats e
  each_drawn draw one (glyph ∷ glyphs) flats e =
      let first = passed (draw glyph) (λ b. (all_in draw glyphs >>= λ bs. Ok (b ∷ bs))) flats e in
      let rest = passed (all_in draw glyphs) (λ bs. Ok (first.value ∷ bs)) flats first.rest in
      more_so glyph glyphs first.value rest.value flats
      (some_more first.value rest.value flats rest.rest) (one glyph first.value first.is)
      (each_drawn draw one glyphs rest.value rest.is)

  refused_none : (r : Refusal) (flat : p.Flat)
      → ◌≡◌ {A = Result p.Flat Refusal} (Err r) (Ok flat) → ⊥
  refused_none r flat e = cc

  one_drawn : (depth glyph : ℕ) (flat : p.Flat) → drawn_within depth glyph ≡ Ok flat
      → One glyph flat
  unfolding drawn_within
  one_drawn zero glyph flat e =
      let raw = passed (p.raw tree header index glyph) (λ raw. Err (p.endless raw index)) flat e in
      absurd (refused_none (p.endless raw.value index) flat raw.rest)
  one_drawn (suc depth) glyph flat e =
      let raw = passed (p.raw tree header index glyph) (outline (drawn_within depth)) flat e in
      let below = passed (all_in (drawn_within depth) (p.bases raw.value index))
      (p.flat raw.value index) flat raw.rest in
      record {
        raw = raw.value;
        of_bases = below.value;
        raw_made = raw.is;
        bases_drawn = each_drawn (drawn_within depth) (one_drawn depth) (p.bases raw.value index)
            below.value below.is;
        flat_made = below.rest;
      }

  pub drawn_all : (glyphs : List ℕ) (flats : List p.Flat) → all_in drawn glyphs ≡ Ok flats
      → AllDrawn p tree header index glyphs flats
  drawn_all = each_drawn drawn (one_drawn (suc (length (p.all index))))

  -- ---- and what is drawn answers

  abbrev ends : ℕ → ℕ → Bool
  ends depth glyph = ends_within (bases_of p tree header index) (reads_of p tree header index) depth
      glyph

  later : (more depth glyph : ℕ) → ends depth glyph ≡ true → ends (more + depth) glyph ≡ true
  later zero depth glyph e =
      let same : depth ≡ zero + depth = omega arith in
      subst (λ n. ends n glyph ≡ true) same e
  later (suc more) depth glyph e =
      let one : suc (more + depth) ≡ suc more + depth = omega arith in
      subst (λ n. ends n glyph ≡ true) one (ends_later (bases_of p tree header index)
      (reads_of p tree header index) (more + depth) glyph (later more depth glyph e))

  record EndAll (glyphs : List ℕ) : Type 0 where
    depth : ℕ
    each : (glyph : ℕ) → In glyph glyphs → ends depth glyph ≡ true

  based : (glyph : ℕ) (raw : p.Raw) → p.raw tree header index glyph ≡ Ok raw
      → bases_of p tree header index glyph ≡ p.bases raw index
  based glyph raw e = ap (bases_in p tree header index) e

  all_end : (glyphs : List ℕ) (flats : List p.Flat) → AllDrawn p tree header index glyphs flats
      → EndAll glyphs
  all_end [] [] no_more = record { depth = 0; each = λ glyph i. absurd i }
  all_end [] (flat ∷ flats) d = elim d [ ]
  all_end (glyph ∷ glyphs) [] d = elim d [ ]
  all_end (glyph ∷ glyphs) (flat ∷ flats) (one_more _ raw of_bases _ _ _ read drawn_so made rest) =
      let below = all_end (p.bases raw index) of_bases drawn_so in
      let others = all_end glyphs flats rest in
      let here : ends (suc below.depth) glyph ≡ true = ended_by (bases_of p tree header index)
      (reads_of p tree header index) below.depth glyph (ap (is_made p tree header index) read)
      (λ base i. below.each base (subst (λ bs. In base bs) (based glyph raw read) i)) in
      let swap : suc below.depth + others.depth ≡ others.depth + suc below.depth = omega arith in
      record {
        depth = suc below.depth + others.depth;
        each = λ other i. elim i [
          | inl e ↦ subst (λ g. ends (suc below.depth + others.depth) g ≡ true) e
              (subst (λ n. ends n glyph ≡ true) (sym swap)
              (later others.depth (suc below.depth) glyph here))
          | inr j ↦ later (suc below.depth) others.depth other (others.each other j)
        ];
      }

  -- within a depth in which they end
  drawn_so : (depth : ℕ) (glyphs : List ℕ) (flats : List p.Flat)
      → AllDrawn p tree header index glyphs flats
      → ((glyph : ℕ) → In glyph glyphs → ends depth glyph ≡ true)
      → all_in (drawn_within depth) glyphs ≡ Ok flats
  unfolding drawn_within
  drawn_so depth [] [] no_more each = refl
  drawn_so depth [] (flat ∷ flats) d each = elim d [ ]
  drawn_so depth (glyph ∷ glyphs) [] d each = elim d [ ]
  drawn_so zero (glyph ∷ glyphs) (flat ∷ flats)
      (one_more _ raw of_bases _ _ _ read drawn made rest) each =
      absurd (none_at_once (bases_of p tree header index) (reads_of p tree header index) glyph
      (each glyph (inl refl)))
  drawn_so (suc depth) (glyph ∷ glyphs) (flat ∷ flats)
      (one_more _ raw of_bases _ _ _ read drawn made rest) each =
      let below = drawn_so depth (p.bases raw index) of_bases drawn (λ base i.
      ended_base (bases_of p tree header index) (reads_of p tree header index) depth glyph base
      (each glyph (inl refl)) (subst (λ bs. In base bs) (sym (based glyph raw read)) i)) in
      let first : drawn_within (suc depth) glyph ≡ Ok flat
      = ap (λ r. r >>= outline (drawn_within depth)) read
      ∙ ap (λ r. r >>= p.flat raw index) below ∙ made in
      ap (λ r. r >>= λ b. (all_in (drawn_within (suc depth)) glyphs >>= λ bs. Ok (b ∷ bs))) first
      ∙ ap (λ r. r >>= λ bs. Ok (flat ∷ bs))
      (drawn_so (suc depth) glyphs flats rest (λ g i. each g (inr i)))

  made_there : (made : Result p.Raw Refusal) (base : ℕ)
      → In base (bases_in p tree header index made) → In base (p.all index)
  made_there (Ok raw) base i = p.bases_there raw index base i
  made_there (Err r) base i = absurd i

  pub all_drawn : (flats : List p.Flat)
      → AllDrawn p tree header index (p.numbers index) flats
      → all_in drawn (p.numbers index) ≡ Ok flats
  all_drawn flats d =
      let end = all_end (p.numbers index) flats d in
      drawn_so (suc (length (p.all index))) (p.numbers index) flats d (λ glyph i.
      settled_in (bases_of p tree header index) (reads_of p tree header index) (p.all index)
      (λ g base j. made_there (p.raw tree header index g) base j) end.depth glyph
      (p.numbers_there index glyph i) (end.each glyph i))

module _ (p : Parts) where
  abbrev tabled : p.Header → p.Index → List p.Flat → List p.Data → List p.Data → p.Order
      → p.Measures → Result p.File Refusal
  tabled header index flats parts variations order measures =
      all_in (table p header index order measures parts variations) p.tags >>= p.font

  abbrev measured : p.Header → p.Index → List p.Flat → List p.Data → List p.Data → p.Order
      → Result p.File Refusal
  measured header index flats parts variations order =
      p.measures header order flats >>= tabled header index flats parts variations order

  abbrev varied : p.Header → p.Index → List p.Flat → p.Order → List p.Data
      → Result p.File Refusal
  varied header index flats order parts =
      all_in (p.variations header index) (varying p header flats)
      >>= λ variations. measured header index flats parts variations order

  abbrev ordered : p.Header → p.Index → List p.Flat → p.Order → Result p.File Refusal
  ordered header index flats order = all_in (part p header order) flats
      >>= varied header index flats order

  abbrev glyphs_font : p.Header → p.Index → List p.Flat → Result p.File Refusal
  glyphs_font header index flats = p.order header index flats >>= ordered header index flats

  abbrev index_font : p.Tree → p.Header → p.Index → Result p.File Refusal
  index_font tree header index =
      all_in (drawn p tree header index) (p.numbers index) >>= glyphs_font header index

  abbrev header_font : p.Tree → p.Header → Result p.File Refusal
  header_font tree header = p.index tree >>= index_font tree header

  abbrev tree_font : p.Tree → Result p.File Refusal
  tree_font tree = p.header tree >>= header_font tree

  unfoldable pub direct : Result p.File Refusal
  direct = p.tree >>= tree_font

  pub direct_made : (font : p.File) → direct ≡ Ok font → IsFontOf p font
  unfolding direct
  direct_made font e =
      let tree = passed p.tree tree_font font e in
      let header = passed (p.header tree.value) (header_font tree.value) font tree.rest in
      let index = passed (p.index tree.value) (index_font tree.value header.value) font
      header.rest in
      let flats = passed (all_in (drawn p tree.value header.value index.value)
      (p.numbers index.value)) (glyphs_font header.value index.value) font index.rest in
      let order = passed (p.order header.value index.value flats.value)
      (ordered header.value index.value flats.value) font flats.rest in
      let parts = passed (all_in (part p header.value order.value) flats.value)
      (varied header.value index.value flats.value order.value) font order.rest in
      let variations = passed (all_in (p.variations header.value index.value)
      (varying p header.value flats.value))
      (λ variations. measured header.value index.value flats.value parts.value variations
      order.value) font parts.rest in
      let measures = passed (p.measures header.value order.value flats.value)
      (tabled header.value index.value flats.value parts.value variations.value order.value) font
      variations.rest in
      let make = table p header.value index.value order.value measures.value parts.value
      variations.value in
      let tables = passed (all_in make p.tags) p.font font measures.rest in
      record {
        tree = tree.value;
        header = header.value;
        index = index.value;
        flats = flats.value;
        parts = parts.value;
        variations = variations.value;
        order = order.value;
        measures = measures.value;
        tables = tables.value;
        tree_read = tree.is;
        header_read = header.is;
        index_read = index.is;
        glyphs_drawn = drawn_all p tree.value header.value index.value (p.numbers index.value)
            flats.value flats.is;
        glyphs_written = in_all (part p header.value order.value) flats.value parts.value parts.is;
        glyphs_varied = in_all (p.variations header.value index.value)
            (varying p header.value flats.value) variations.value variations.is;
        glyphs_ordered = order.is;
        glyphs_measured = measures.is;
        tables_made = in_all make p.tags tables.value tables.is;
        is_font = tables.rest;
      }

  pub made_direct : (font : p.File) → IsFontOf p font → direct ≡ Ok font
  unfolding direct
  made_direct font f =
      ap (λ r. r >>= tree_font) f.tree_read
      ∙ ap (λ r. r >>= header_font f.tree) f.header_read
      ∙ ap (λ r. r >>= index_font f.tree f.header) f.index_read
      ∙ ap (λ r. r >>= glyphs_font f.header f.index)
      (all_drawn p f.tree f.header f.index f.flats f.glyphs_drawn)
      ∙ ap (λ r. r >>= ordered f.header f.index f.flats) f.glyphs_ordered
      ∙ ap (λ r. r >>= varied f.header f.index f.flats f.order)
      (all_from (part p f.header f.order) f.flats f.parts f.glyphs_written)
      ∙ ap (λ r. r >>= λ variations. measured f.header f.index f.flats f.parts variations f.order)
      (all_from (p.variations f.header f.index) (varying p f.header f.flats) f.variations
      f.glyphs_varied)
      ∙ ap (λ r. r >>= tabled f.header f.index f.flats f.parts f.variations f.order)
      f.glyphs_measured
      ∙ ap (λ r. r >>= p.font)
      (all_from (table p f.header f.index f.order f.measures f.parts f.variations) p.tags f.tables
      f.tables_made)
      ∙ f.is_font
