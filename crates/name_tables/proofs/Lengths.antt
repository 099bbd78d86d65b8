-- How long the texts of a font's names are, and how many names there are.
use Rattle.std.proofs.Common.{◌≡◌, ℕ, ◌+◌, ◌/◌, ◌<◌, ◌≤◌, ◌∙◌, List, [], ◌∷◌, ◌++◌, length, map}
use Rattle.std.proofs.Common.{get_or, codes, ap, refl, sym, arith, length-append, length-take}
use Rattle.std.proofs.lemmas.List.{length-map}
use Rattle.std.proofs.lemmas.Fmt.{length-decimal-le}
use Rattle.std.proofs.lemmas.List.Elements.{All-get_or}
use Rattle.std.specs.Fmt.{decimal}
use Rattle.std.specs.List.{filter}
use Rattle.font_ir.specs.declared.header.Axis.{Axis}
use Rattle.font_ir.specs.declared.header.Instance.{Instance}
use Rattle.font_ir.specs.declared.header.Header.{Header}
use Rattle.font_ir.specs.Headers.{IsHeader, IsNameLong}
use Rattle.name_tables.specs.declared.store.NameStore.{NameStore}
use Rattle.name_tables.specs.Names.{name_head, name_records, name_table}
use Rattle.name_tables.specs.Stores.{Holds}
use Rattle.name_tables.specs.Texts.{axis_names, font_names, instance_names, is_postscript}
use Rattle.name_tables.specs.Texts.{last_digit, names_of, numbered, postscript_family}
use Rattle.name_tables.specs.Texts.{postscript_text, version_text}

pub version_long : (header : Header) → IsHeader header → length (version_text header) ≤ 9
unfolding version_text
version_long header h =
    let major : length (decimal header.major) ≤ 5
    = length-decimal-le 5 header.major (omega arith) (omega (arith, h.major))
    (omega (arith, h.major)) in
    omega (
      arith,
      major,
      length-append (decimal header.major) (codes "."),
      length-append (decimal header.major ++ codes ".")
          (last_digit (header.minor / 100) ∷ last_digit (header.minor / 10)
          ∷ last_digit header.minor
          ∷ []),
    )

pub postscript_long : (header : Header) → length (postscript_text header) ≤ 63
unfolding postscript_text
postscript_long header =
    omega (
      arith,
      length-append (postscript_family header.family) (codes "-Regular"),
      length-take 55 (filter is_postscript header.family),
    )

numbered_length : (id : ℕ) (texts : List (List ℕ)) → length (numbered id texts) ≡ length texts
numbered_length id [] = refl
numbered_length id (text ∷ texts) = omega (arith, numbered_length (id + 1) texts)

pub axis_names_length : (header : Header) → length (axis_names header) ≡ length header.axes
axis_names_length header =
    simp length-map at (numbered_length 256 (map (λ (axis : Axis). axis.name) header.axes))

pub instance_names_length : (header : Header)
    → length (instance_names header) ≡ length header.instances
instance_names_length header =
    simp length-map at (numbered_length (256 + length header.axes)
    (map (λ (instance : Instance). instance.name) header.instances))

names_length : (header : Header)
    → length (names_of header) ≡ 6 + length header.axes + length header.instances
names_length header =
    omega (
      arith,
      axis_names_length header,
      instance_names_length header,
      length-append (font_names header ++ axis_names header) (instance_names header),
      length-append (font_names header) (axis_names header),
    )

-- the table is its head, the records and the texts
pub table_is : (header : Header) (store : NameStore) (count : ℕ) (head with_records all : List ℕ)
    → count ≡ 6 + length header.axes + length header.instances → Holds store (names_of header)
    → head ≡ name_head count → with_records ≡ head ++ store.records.items
    → all ≡ with_records ++ store.texts.items → all ≡ name_table header
unfolding name_table
table_is header store count head with_records all is held start middle end =
    let counted : count ≡ length (names_of header) = is ∙ sym (names_length header) in
    end ∙ ap (λ (l : List ℕ). l ++ store.texts.items) middle
    ∙ ap (λ (l : List ℕ). (l ++ store.records.items) ++ store.texts.items)
    (start ∙ ap name_head counted)
    ∙ ap (λ (l : List ℕ). (name_head (length (names_of header)) ++ l) ++ store.texts.items)
    held.records
    ∙ ap (λ (l : List ℕ). (name_head (length (names_of header)) ++ name_records 0 (names_of header))
    ++ l) held.texts

-- the name of an axis, and of an instance
pub axis_name_short : (header : Header) (i : ℕ) (axis : Axis) → IsHeader header
    → i < length header.axes → axis ≡ get_or header.axes i axis → length axis.name ≤ 255
axis_name_short header i axis h within is =
    let found = All-get_or (λ (a : Axis). IsNameLong a.name) header.axes i axis within h.axes in
    omega (arith, ap (λ (a : Axis). length a.name) is, found.1)
