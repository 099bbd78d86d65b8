-- the name stood there exactly where it was among the keys, and a new name goes last
use Rattle.std.proofs.Common.{◌≡◌, List, ℕ, [], ◌∷◌, ◌++◌, None, is_some, ap, sym, ◌∙◌, nat_eq}
use Rattle.std.specs.Map.{keys_of}
use Rattle.std.specs.Cmp.Lexicographic.{pointwise}
use Rattle.indexmap.specs.IndexMap.{get}
use Rattle.plist_reader.specs.Keys.{is_among}
use Rattle.indexmap.proofs.CallerLemmas.{insert_entry-new}
use Rattle.glyphs_source.specs.declared.entries.IndexEntry.{IndexEntry}
use Rattle.glyphs_source.specs.IndexReading.{glyph_name}
use Rattle.glyphs_source.proofs.Repeating.{among_keys, none_from}
use Rattle.glyphs_source.proofs.index.add_glyph.Goals as goal

pub returns-clause-again : goal.returns-clause-again
returns-clause-again c =
    let m = c.args.entries.now in
    c.is_some.ensures
    ∙ ap is_some c.in_ok-earlier.ensures.old
    ∙ among_keys c.in_ok-name.name m.entries
    ∙ ap (λ (name : List ℕ). is_among name (keys_of m.entries)) c.in_ok-name.ensures

pub returns-clause-added : goal.returns-clause-added
returns-clause-added c = λ e.
    let m = c.args.entries.now in
    let none : get (pointwise nat_eq) m c.in_ok-name.name ≡ None = sym c.in_ok-earlier.ensures.old
    ∙ none_from c.in_ok-earlier.earlier (sym c.is_some.ensures ∙ e) in
    c.in_ok-earlier.ensures.entries
    ∙ insert_entry-new (pointwise nat_eq) m c.in_ok-name.name c.in_ok-entry.entry none
    ∙ ap (λ (name : List ℕ). m.entries ++ (name, c.in_ok-entry.entry) ∷ []) c.in_ok-name.ensures
    ∙ ap (λ (entry : IndexEntry). m.entries ++ (glyph_name c.args.tree.now c.args.glyph, entry)
    ∷ []) c.in_ok-entry.ensures
