-- No glyph of a font leads to itself by the components that it keeps: what it keeps are bases that
-- were drawn before it.
use Rattle.std.proofs.Common.{◌≡◌, ℕ, zero, suc, ◌<◌, ◌+◌, Bool, true, false, inl, inr, List, []}
use Rattle.std.proofs.Common.{◌∷◌, ◌++◌, map, length, Option, Some, None, Result, Ok, Err, refl, sym}
use Rattle.std.proofs.Common.{ap, ◌∙◌, subst, arith, get_or}
use Rattle.std.specs.Prelude.{slice_get, nat_eq, codes, if◌then◌else◌, Contains}
use Rattle.std.specs.List.{All, IsDistinct, AllByRecursion, flat_map}
use Rattle.std.specs.Map.{keys_of}
use Rattle.std.specs.Option.{option_map, option_to_list}
use Rattle.std.specs.Cmp.Lexicographic.{pointwise, nat_list_eq_equiv, bytes_decides}
use Rattle.std.proofs.lemmas.List.Quantifiers.{position-Some}
use Rattle.refusal_codes.specs.declared.refusal.Refusal.{Refusal}
use Rattle.plist_reader.specs.declared.tree.Tree.{Tree}
use Rattle.font_ir.specs.Glyphs.{Glyphs, gid_of}
use Rattle.font_ir.specs.Notdef.{made_notdef_of}
use Rattle.font_ir.specs.declared.header.Header.{Header}
use Rattle.font_ir.specs.declared.glyph.Kept.{Kept}
use Rattle.font_ir.specs.declared.glyph.GlyphIr.{GlyphIr}
use Rattle.font_ir.specs.declared.glyph.FlatGlyph.{FlatGlyph}
use Rattle.font_ir.specs.declared.glyph.Shape.{Shape}
use Rattle.font_ir.specs.declared.glyph.Shape.TheVariants.{Path, Component}
use Rattle.font_ir.specs.declared.glyph.LayerIr.{LayerIr}
use Rattle.glyphs_source.specs.IndexReading.{index_of}
use Rattle.component_flatten.specs.Numbered.{flat_numbered}
use Rattle.component_flatten.specs.Composites.{kept_of, kept_shape, stays_composite}
use Rattle.component_flatten.specs.Drawing.{first_shapes}
use Rattle.metrics_tables.specs.Nesting.{NoneLeadsToItself, IsChain, bases_of, bases_at}
use Rattle.metrics_tables.specs.Nesting.{bases_in as bases_in_order}
use Rattle.job_graph.specs.Members.{In, In-flat_map, In-append_left, In-append_right}
use Rattle.job_graph.specs.Members.{In-from_Contains, Contains-from_In}
use Rattle.character_codes.specs.CharacterCodes.{Entry}
use Rattle.character_codes.specs.OrderLaws.{Stands, first_stands, chosen_stand, chosen_from, at_zero}
use Rattle.font_graph.specs.Descent.{Leads, to_base, through}
use Rattle.font_graph.specs.Fonts.{AllDrawn, no_more, one_more, DrawnSo, AreInOrder}
use Rattle.font_graph.specs.FailsBy.{bases_in as bases_made, bases_of as bases_read, reads_of}
use Rattle.font_graph.specs.Nesting.{drawn_lead_nowhere}
use Rattle.font_plan.specs.Bases.{named_from, shape_bases, bases_in}
use Rattle.font_plan.specs.Jobs.{parts, raw_in, glyphs_with}
use Rattle.font_plan.specs.Order.{is_notdef, is_other, others_from, notdef_from, order_in}
use Rattle.font_plan.specs.Order.{number_of, numbers_in, is_order_of, behind_made}
use Rattle.font_plan.proofs.Made.{flat_known}
use Rattle.font_plan.proofs.Orders.{same_some}

abbrev pub EntriesAreNamed : Type 0
EntriesAreNamed = (tree : Tree) (index : List Entry) → index_of tree ≡ Ok index
    → IsDistinct (pointwise nat_eq) (keys_of index)

-- ---- a glyph of the index by its name

-- no earlier entry has the name of one behind it
apart : (first : List ℕ) (index : List Entry) (place : ℕ) (entry : Entry)
    → AllByRecursion (λ y. pointwise nat_eq first y ≡ false) (keys_of index)
    → slice_get index place ≡ Some entry → pointwise nat_eq first entry.0 ≡ false
apart first [] place entry all e = absurd cc
apart first (other ∷ index) zero entry all e =
    let same : other ≡ entry = cc in
    subst (λ (x : Entry). pointwise nat_eq first x.0 ≡ false) same all.0
apart first (other ∷ index) (suc place) entry all e = apart first index place entry all.1 e

-- so a glyph is found by its name
pub found_by_name : (n : ℕ) (index : List Entry) (glyph : ℕ × Entry) (place : ℕ)
    → glyph.0 ≡ n + place → slice_get index place ≡ Some glyph.1
    → IsDistinct (pointwise nat_eq) (keys_of index)
    → named_from n glyph.1.0 index ≡ Some glyph
unfolding IsDistinct
found_by_name n [] glyph place counted there distinct = absurd cc
found_by_name n (first ∷ index) glyph zero counted there distinct =
    let same : first ≡ glyph.1 = cc in
    let number_is : n ≡ glyph.0 = omega (arith, counted) in
    let named : pointwise nat_eq glyph.1.0 first.0 ≡ true
    = ap (λ (x : Entry). pointwise nat_eq glyph.1.0 x.0) same ∙ nat_list_eq_equiv.refl glyph.1.0 in
    ap (λ (b : Bool). if b then Some (n, first) else named_from (n + 1) glyph.1.0 index) named
    ∙ (λ i. Some (number_is i, same i))
found_by_name n (first ∷ index) glyph (suc place) counted there distinct =
    let other = apart first.0 index place glyph.1 distinct.0 there in
    let unnamed : pointwise nat_eq glyph.1.0 first.0 ≡ false
    = nat_list_eq_equiv.symm glyph.1.0 first.0 ∙ other in
    ap (λ (b : Bool). if b then Some (n, first) else named_from (n + 1) glyph.1.0 index) unnamed
    ∙ found_by_name (n + 1) index glyph place (omega (arith, counted)) there distinct.1

-- ---- the order's numbers and names

-- the glyph with this number has this name
record IsNamed (index : List Entry) (number : ℕ) (name : List ℕ) : Type 0 where
  entry : Entry
  there : slice_get index number ≡ Some entry
  is : entry.0 ≡ name

pub same_bytes : (xs ys : List ℕ) → pointwise nat_eq xs ys ≡ true → xs ≡ ys
same_bytes xs ys e = (bytes_decides xs ys).0 e

all_there : {X : Type 0} (P : X → Type 0) (xs : List X) (x : X) → All P xs → In x xs → P x
all_there P xs x all i =
    let c = Contains-from_In xs x i in subst P c.2 (all c.0 x c.1)

pub chosen_at : (test : Entry → Bool) (index : List Entry) (glyph : ℕ × Entry)
    → In glyph (chosen_from test 0 index) → Stands test 0 index glyph
chosen_at test index glyph i =
    all_there (Stands test 0 index) (chosen_from test 0 index) glyph (chosen_stand test 0 index) i

others_named : (others : List (ℕ × Entry)) (k number : ℕ) (name : List ℕ)
    → slice_get (map (λ glyph. Some glyph.0) others) k ≡ Some (Some number)
    → slice_get (map (λ glyph. glyph.1.0) others) k ≡ Some name
    → (glyph : ℕ × Entry) × In glyph others × (glyph.0 ≡ number) × (glyph.1.0 ≡ name)
others_named [] k number name a b = absurd cc
others_named (glyph ∷ others) zero number name a b =
    let number_is : glyph.0 ≡ number = cc in
    let name_is : glyph.1.0 ≡ name = cc in
    (glyph, inl refl, number_is, name_is)
others_named (glyph ∷ others) (suc k) number name a b =
    let more = others_named others k number name a b in
    (more.0, inr more.1, more.2, more.3)

order_named : (index : List Entry) (gid number : ℕ) (name : List ℕ)
    → slice_get (order_in index).numbers gid ≡ Some (Some number)
    → slice_get (order_in index).names gid ≡ Some name → IsNamed index number name
order_named index zero number name a b = by (notdef_from 0 index) refl a
  where
    by : (first : Option (ℕ × Entry)) → notdef_from 0 index ≡ first
        → ◌≡◌ {A = Option (Option ℕ)} (Some (option_map (λ glyph. glyph.0) first))
        (Some (Some number)) → IsNamed index number name
    by None is f = absurd cc
    by (Some glyph) is f =
        let number_is : glyph.0 ≡ number = cc in
        let name_is : codes ".notdef" ≡ name = cc in
        let stands = first_stands is_notdef 0 index glyph is in
        record {
          entry = glyph.1;
          there = subst (λ n. slice_get index n ≡ Some glyph.1) number_is
              (at_zero is_notdef index glyph stands);
          is = same_bytes glyph.1.0 (codes ".notdef") stands.passes ∙ name_is;
        }
order_named index (suc k) number name a b =
    let found = others_named (others_from 0 index) k number name a b in
    let glyph = found.0 in
    let stands = chosen_at is_other index glyph found.1 in
    record {
      entry = glyph.1;
      there = subst (λ n. slice_get index n ≡ Some glyph.1) found.2
          (at_zero is_other index glyph stands);
      is = found.3;
    }

-- it is one of those that are exported
others_number : (others : List (ℕ × Entry)) (k number : ℕ)
    → slice_get (map (λ glyph. Some glyph.0) others) k ≡ Some (Some number)
    → In number (map (λ glyph. glyph.0) others)
others_number [] k number a = absurd cc
others_number (glyph ∷ others) zero number a = let is : glyph.0 ≡ number = cc in inl is
others_number (glyph ∷ others) (suc k) number a = inr (others_number others k number a)

number_ordered : (index : List Entry) (gid number : ℕ)
    → slice_get (order_in index).numbers gid ≡ Some (Some number)
    → In number (numbers_in index)
number_ordered index zero number e = by (notdef_from 0 index) e
  where
    by : (first : Option (ℕ × Entry))
        → ◌≡◌ {A = Option (Option ℕ)} (Some (option_map (λ glyph. glyph.0) first))
        (Some (Some number))
        → In number (number_of first ++ map (λ glyph. glyph.0) (others_from 0 index))
    by None f = absurd cc
    by (Some glyph) f = let is : glyph.0 ≡ number = cc in inl is
number_ordered index (suc k) number e =
    In-append_right (number_of (notdef_from 0 index)) (map (λ glyph. glyph.0) (others_from 0 index))
    number (others_number (others_from 0 index) k number e)

-- so a component of that name has this number as its base
base_number : (index : List Entry) (number : ℕ) (name : List ℕ) → IsNamed index number name
    → IsDistinct (pointwise nat_eq) (keys_of index)
    → In number (number_of (named_from 0 name index))
base_number index number name named distinct =
    let found = found_by_name 0 index (number, named.entry) number (omega arith) named.there
    distinct in
    let is : named_from 0 name index ≡ Some (number, named.entry)
    = ap (λ n. named_from 0 n index) (sym named.is) ∙ found in
    subst (λ o. In number (number_of o)) (sym is) (inl refl)

-- ---- what a glyph keeps are components of it

kept_numbered : (layers : List LayerIr) (n : ℕ) (shapes : List Shape) (kept : Kept) (index : List Entry)
    → In kept (flat_numbered (kept_shape layers) n shapes)
    → (number : ℕ) → In number (number_of (named_from 0 kept.base index))
    → In number (flat_map (shape_bases index) shapes)
kept_numbered layers n [] kept index i number j = absurd i
kept_numbered layers n (Path contour ∷ shapes) kept index i number j =
    kept_numbered layers (n + 1) shapes kept index i number j
kept_numbered layers n (Component base at scale quarters ∷ shapes) kept index (inl e) number j =
    let name : kept.base ≡ base = sym (ap (λ (k : Kept). k.base) e) in
    In-append_left (number_of (named_from 0 base index)) (flat_map (shape_bases index) shapes) number
    (subst (λ b. In number (number_of (named_from 0 b index))) name j)
kept_numbered layers n (Component base at scale quarters ∷ shapes) kept index (inr i) number j =
    In-append_right (number_of (named_from 0 base index)) (flat_map (shape_bases index) shapes) number
    (kept_numbered layers (n + 1) shapes kept index i number j)

kept_bases : (index : List Entry) (raw : GlyphIr) (kept : Kept) → In kept (kept_of index raw)
    → (number : ℕ) → In number (number_of (named_from 0 kept.base index))
    → In number (bases_in raw index)
kept_bases index raw kept i number j = by (stays_composite index raw) i
  where
    by : (b : Bool) → In kept (if b then flat_numbered (kept_shape raw.layers) 0 (first_shapes raw)
        else []) → In number (bases_in raw index)
    by true k = kept_numbered raw.layers 0 (first_shapes raw) kept index k number j
    by false k = absurd k

-- ---- steps from a glyph of the font to one that it keeps

in_option : (o : Option ℕ) (x : ℕ) → In x (option_to_list o) → o ≡ Some x
in_option None x i = absurd i
in_option (Some y) x (inl e) = ap Some e
in_option (Some y) x (inr i) = absurd i

-- a glyph of the font keeps a component, and that is the glyph with this glyph number
record IsStep (names : List (List ℕ)) (glyphs : List FlatGlyph) (gid base : ℕ) : Type 0 where
  glyph : FlatGlyph
  there : slice_get glyphs gid ≡ Some glyph
  kept : Kept
  keeps : In kept glyph.kept
  is_base : gid_of names kept.base ≡ Some base

step_of : (names : List (List ℕ)) (glyphs : List FlatGlyph) (gid base : ℕ)
    → In base (bases_at (bases_in_order names glyphs) gid) → IsStep names glyphs gid base
step_of names [] gid base i = absurd i
step_of names (glyph ∷ glyphs) zero base i =
    let m = In-flat_map (λ (kept : Kept). option_to_list (gid_of names kept.base)) glyph.kept base i
    in record {
      glyph = glyph;
      there = refl;
      kept = m.0;
      keeps = m.1;
      is_base = in_option (gid_of names m.0.base) base m.2;
    }
step_of names (glyph ∷ glyphs) (suc gid) base i =
    let s = step_of names glyphs gid base i in record {
      glyph = s.glyph;
      there = s.there;
      kept = s.kept;
      keeps = s.keeps;
      is_base = s.is_base;
    }

-- the font's glyph with this glyph number was drawn as this one of the source
record IsDrawnAt (source : List ℕ) (tree : Tree) (header : Header) (index : List Entry)
    (numbers : List (Option ℕ)) (gid : ℕ) (glyph : FlatGlyph) : Type 0 where
  number : ℕ
  number_is : slice_get numbers gid ≡ Some (Some number)
  drawn_so : DrawnSo (parts source) tree header index number glyph

drawn_at : (source : List ℕ) (tree : Tree) (header : Header) (index : List Entry)
    (others : List (ℕ × Entry)) (flats : List FlatGlyph) (gid : ℕ) (glyph : FlatGlyph)
    → AllDrawn (parts source) tree header index (map (λ other. other.0) others) flats
    → slice_get flats gid ≡ Some glyph
    → IsDrawnAt source tree header index (map (λ other. Some other.0) others) gid glyph
drawn_at source tree header index [] _ gid glyph no_more e = absurd cc
drawn_at source tree header index (other ∷ others) _ zero glyph
    (one_more number raw of_bases flat numbers flats made below so rest) e =
    let same : flat ≡ glyph = cc in
    subst (IsDrawnAt source tree header index (map (λ other. Some other.0) (other ∷ others)) 0) same
    (record {
      number = other.0;
      number_is = refl;
      drawn_so = record {
        raw = raw;
        of_bases = of_bases;
        raw_made = made;
        bases_drawn = below;
        flat_made = so;
      };
    })
drawn_at source tree header index (other ∷ others) _ (suc gid) glyph
    (one_more number raw of_bases flat numbers flats made below so rest) e =
    let d = drawn_at source tree header index others flats gid glyph rest e in
    record { number = d.number; number_is = d.number_is; drawn_so = d.drawn_so }

-- a step is from a glyph of the source: a made `.notdef` keeps nothing
stepping : (source : List ℕ) (tree : Tree) (header : Header) (index : List Entry)
    (flats : List FlatGlyph)
    → AllDrawn (parts source) tree header index (numbers_in index) flats → (gid : ℕ)
    (glyph : FlatGlyph) (kept : Kept)
    → slice_get (behind_made (order_in index).numbers (made_notdef_of header) flats) gid
    ≡ Some glyph → In kept glyph.kept
    → IsDrawnAt source tree header index (order_in index).numbers gid glyph
stepping source tree header index flats drawn gid glyph kept there keeps =
    by (notdef_from 0 index) gid drawn there
  where
    others : List (ℕ × Entry)
    others = others_from 0 index

    by : (first : Option (ℕ × Entry)) (gid : ℕ)
        → AllDrawn (parts source) tree header index
        (number_of first ++ map (λ other. other.0) others) flats
        → slice_get (behind_made (option_map (λ other. other.0) first
        ∷ map (λ other. Some other.0) others) (made_notdef_of header) flats) gid ≡ Some glyph
        → IsDrawnAt source tree header index
        (option_map (λ other. other.0) first ∷ map (λ other. Some other.0) others) gid glyph
    by (Some first) gid d e = drawn_at source tree header index (first ∷ others) flats gid glyph d e
    by None zero d e =
        let same : made_notdef_of header ≡ glyph = cc in
        absurd (subst (λ (g : FlatGlyph). In kept g.kept) (sym same) keeps)
    by None (suc gid) d e =
        let at = drawn_at source tree header index others flats gid glyph d e in
        record { number = at.number; number_is = at.number_is; drawn_so = at.drawn_so }

-- ---- a chain of steps back to a glyph leads from it to itself by its bases

there_at : (xs : List (List ℕ)) (i : ℕ) → i < length xs → slice_get xs i ≡ Some (get_or xs i [])
there_at [] i lt = absurd (omega (arith, lt))
there_at (x ∷ xs) zero lt = refl
there_at (x ∷ xs) (suc i) lt = there_at xs i (omega (arith, lt))

position_there : (names : List (List ℕ)) (name : List ℕ) (gid : ℕ) → gid_of names name ≡ Some gid
    → slice_get names gid ≡ Some name
position_there names name gid e =
    let at = position-Some (pointwise nat_eq name) names gid [] e in
    there_at names gid at.0 ∙ ap Some (sym (same_bytes name (get_or names gid []) at.1))

same_number : (a b : ℕ) → ◌≡◌ {A = Option (Option ℕ)} (Some (Some a)) (Some (Some b)) → a ≡ b
same_number a b e = cc

module _ (source : List ℕ) (tree : Tree) (header : Header) (index : List Entry)
    (flats : List FlatGlyph)
    (drawn : AllDrawn (parts source) tree header index (numbers_in index) flats)
    (distinct : IsDistinct (pointwise nat_eq) (keys_of index)) where
  abbrev names : List (List ℕ)
  names = (order_in index).names

  abbrev numbers : List (Option ℕ)
  numbers = (order_in index).numbers

  abbrev glyphs : List FlatGlyph
  glyphs = behind_made numbers (made_notdef_of header) flats

  abbrev bases : List (List ℕ)
  bases = bases_in_order names glyphs

  record Stepped (gid : ℕ) : Type 0 where
    number : ℕ
    number_is : slice_get numbers gid ≡ Some (Some number)
    -- each step from it leads to a base
    to : (base other : ℕ) → In base (bases_at bases gid)
        → slice_get numbers base ≡ Some (Some other)
        → In other (bases_read (parts source) tree header index number)

  stepped : (gid base : ℕ) → In base (bases_at bases gid) → Stepped gid
  stepped gid base i =
      let s = step_of names glyphs gid base i in
      let at = stepping source tree header index flats drawn gid s.glyph s.kept s.there s.keeps in
      record {
        number = at.number;
        number_is = at.number_is;
        to = λ other other_number j other_is.
            let step = step_of names glyphs gid other j in
            let same : s.glyph ≡ step.glyph = same_some s.glyph step.glyph
            (sym s.there ∙ step.there) in
            let d = at.drawn_so in
            let kept : step.glyph.kept ≡ kept_of index d.raw
            = ap (λ (g : FlatGlyph). g.kept) (sym same)
            ∙ (flat_known index d.raw d.of_bases s.glyph d.flat_made).kept in
            let named = order_named index other other_number step.kept.base other_is
            (position_there names step.kept.base other step.is_base) in
            subst (λ (r : Result GlyphIr Refusal). In other_number (bases_made (parts source) tree
            header index r)) (sym d.raw_made)
            (kept_bases index d.raw step.kept
            (subst (λ ks. In step.kept ks) kept step.keeps) other_number
            (base_number index other_number step.kept.base named distinct));
      }

  abbrev LeadsTo : ℕ → ℕ → Type 0
  LeadsTo a b = Leads (bases_read (parts source) tree header index)
      (reads_of (parts source) tree header index) a b

  -- a chain from a glyph to one that has a number, too
  walked : (gid last number other : ℕ) (between : List ℕ)
      → slice_get numbers gid ≡ Some (Some number)
      → slice_get numbers last ≡ Some (Some other)
      → IsChain bases gid (between ++ last ∷ []) → LeadsTo number other
  walked gid last number other [] a b chain =
      let i = In-from_Contains (bases_at bases gid) last chain.0 in
      let s = stepped gid last i in
      let same : s.number ≡ number = same_number s.number number (sym s.number_is ∙ a) in
      to_base number other (subst (λ n. In other (bases_read (parts source) tree header index n))
      same (s.to last other i b))
  walked gid last number other (next ∷ between) a b chain =
      let i = In-from_Contains (bases_at bases gid) next chain.0 in
      let s = stepped gid next i in
      let same : s.number ≡ number = same_number s.number number (sym s.number_is ∙ a) in
      let n = stepping_next between chain.1 in
      through number n.number other
      (subst (λ m. In n.number (bases_read (parts source) tree header index m)) same
      (s.to next n.number i n.number_is))
      (walked next last n.number other between n.number_is b chain.1)
    where
      stepping_next : (between : List ℕ) → IsChain bases next (between ++ last ∷ []) → Stepped next
      stepping_next [] c = stepped next last (In-from_Contains (bases_at bases next) last c.0)
      stepping_next (second ∷ rest) c = stepped next second
          (In-from_Contains (bases_at bases next) second c.0)

  pub lead_nowhere : NoneLeadsToItself bases
  lead_nowhere gid between chain =
      let s = first_step between chain in
      drawn_lead_nowhere (parts source) tree header index (numbers_in index) flats drawn s.number
      (ordered_number s.number s.number_is)
      (walked gid gid s.number s.number between s.number_is s.number_is chain)
    where
      first_step : (between : List ℕ) → IsChain bases gid (between ++ gid ∷ []) → Stepped gid
      first_step [] c = stepped gid gid (In-from_Contains (bases_at bases gid) gid c.0)
      first_step (second ∷ rest) c = stepped gid second
          (In-from_Contains (bases_at bases gid) second c.0)

      ordered_number : (number : ℕ) → slice_get numbers gid ≡ Some (Some number)
          → In number (numbers_in index)
      ordered_number number e = number_ordered index gid number e

pub ordered_lead_nowhere : (source : List ℕ) (header : Header) (index : List Entry)
    (flats : List FlatGlyph) (order : Glyphs)
    → AreInOrder (parts source) header index flats order
    → IsDistinct (pointwise nat_eq) (keys_of index)
    → NoneLeadsToItself (bases_in_order order.names (glyphs_with header order flats))
ordered_lead_nowhere source header index flats order of distinct =
    let is = is_order_of index order of.glyphs_ordered in
    subst (λ (o : Glyphs). NoneLeadsToItself
    (bases_in_order o.names (glyphs_with header o flats))) (sym is)
    (lead_nowhere source of.tree header index flats of.glyphs_drawn distinct)
