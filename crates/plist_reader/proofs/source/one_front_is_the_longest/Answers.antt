use Rattle.std.proofs.Common.{List, ℕ, ◌++◌, subst, append_assoc}
use Rattle.plist_reader.specs.Grammar.{IsTextOf}
use Rattle.plist_reader.proofs.Scalars.{text-source, front-source, source-front}
use Rattle.plist_reader.proofs.Beyond.{beyond-alike}
use Rattle.plist_reader.proofs.BytesAlike.{longest-in-bytes}
use Rattle.plist_reader.proofs.source.one_front_is_the_longest.Goals as goal

pub returns : goal.returns
returns c = record {
  texts = λ v text h. text-source v text h;
  sources = λ front. (λ g. front-source front g, λ h. source-front front h);
  shorter = λ front more g. (
    more ++ g.0,
    g.1,
    subst (λ (x : List ℕ). IsTextOf g.1 x)
        (append_assoc front more g.0) g.2,
  );
  bytes = λ source other front rest t c n u e longest h g. longest-in-bytes source other front rest
      t c n u e longest h g;
  alike = λ front c d h k i g. beyond-alike front c d h k i g;
}
