-- Words of which one may not be given are no command.
use Rattle.std.proofs.Common.{◌≡◌, ℕ, Bool, true, false, ◌&&◌, ◌||◌, List, [], ◌∷◌, None}
use Rattle.std.proofs.Common.{refl, codes, true≢false}
use Rattle.std.specs.List.{list_all}
use Rattle.command_words.specs.Commands.{command_of, is_word, is_path, is_source_option}
use Rattle.command_words.specs.Commands.{build_of, inspect_of, sample_of, text_of}
use Rattle.command_words.specs.Grammar.{may_be_given}
use Rattle.command_words.proofs.Bools.{one_fails, not_both, second_fails}
use Rattle.command_words.proofs.Nones.{is_no_word, no_number, no_place, no_build, no_build_of}
use Rattle.command_words.proofs.Nones.{no_sample, no_seed, no_glyphs, no_output, no_text}
use Rattle.command_words.proofs.Nones.{no_other_text, no_inspect, no_inspect_of, no_glyph, no_index}
use Rattle.command_words.proofs.Nones.{no_place_of}

neither : (a b : Bool) → (a || b) ≡ false → (a ≡ false) × (b ≡ false)
neither false b e = (refl, e)
neither true b e = absurd (true≢false e)

hyphen_of : (word : List ℕ) → may_be_given word ≡ false → is_path word ≡ false
hyphen_of word bad = (neither (is_path word) (is_source_option word) bad).0

other_of : {G : Type 0} (word : List ℕ) → may_be_given word ≡ false → is_source_option word ≡ true
    → G
other_of word bad is =
    not_both (is_source_option word) is (neither (is_path word) (is_source_option word) bad).1

first_path : (a b : List ℕ) → is_path a ≡ false → (is_path a && is_path b) ≡ false
first_path a b hyphen = rw hyphen refl

first_word : (a b : List ℕ) → is_word a (codes "point") ≡ false
    → (is_word a (codes "point") && is_path b) ≡ false
first_word a b other = rw other refl

module _ (w : List ℕ) where
  bad_build : (a b : List ℕ) → list_all may_be_given (w ∷ a ∷ b ∷ []) ≡ false
      → build_of w a b ≡ None
  bad_build a b e = one_fails (may_be_given w) _ e
      (λ bad. no_build w a b (is_no_word w (codes "build") refl (hyphen_of w bad)))
      (λ e. one_fails (may_be_given a) _ e
      (λ bad. no_build_of w a b (first_path a b (hyphen_of a bad)))
      (λ e. one_fails (may_be_given b) true e
      (λ bad. no_build_of w a b (second_fails (is_path a) (is_path b) (hyphen_of b bad)))
      (λ e. absurd (true≢false e))))

  bad_sample : (a b c : List ℕ) → list_all may_be_given (w ∷ a ∷ b ∷ c ∷ []) ≡ false
      → sample_of false w a b c ≡ None
  bad_sample a b c e = one_fails (may_be_given w) _ e
      (λ bad. no_sample false w a b c (is_no_word w (codes "sample") refl (hyphen_of w bad)))
      (λ e. one_fails (may_be_given a) _ e
      (λ bad. no_seed false w a b c (no_number 0 4294967295 a (hyphen_of a bad)))
      (λ e. one_fails (may_be_given b) _ e
      (λ bad. no_glyphs false w a b c (no_number 1 60000 b (hyphen_of b bad)))
      (λ e. one_fails (may_be_given c) true e
      (λ bad. no_output false w a b c (hyphen_of c bad))
      (λ e. absurd (true≢false e)))))

  bad_text : (a b c d : List ℕ) → list_all may_be_given (w ∷ a ∷ b ∷ c ∷ d ∷ []) ≡ false
      → text_of w a b c d ≡ None
  bad_text a b c d e = one_fails (may_be_given w) _ e
      (λ bad. no_other_text w a b c d (is_no_word w (codes "sample") refl (hyphen_of w bad)))
      (λ e. one_fails (may_be_given a) _ e
      (λ bad. let none = no_number 0 4294967295 a (hyphen_of a bad) in
      no_text w a b c d (other_of a bad) (λ _. no_seed true w a c d none)
      (λ _. no_seed true w a b d none) (λ _. no_seed true w a b c none))
      (λ e. one_fails (may_be_given b) _ e
      (λ bad. no_text w a b c d
      (λ _. no_seed true w b c d (no_number 0 4294967295 b (hyphen_of b bad)))
      (other_of b bad)
      (λ _. no_glyphs true w a b d (no_number 1 60000 b (hyphen_of b bad)))
      (λ _. no_glyphs true w a b c (no_number 1 60000 b (hyphen_of b bad))))
      (λ e. one_fails (may_be_given c) _ e
      (λ bad. no_text w a b c d
      (λ _. no_glyphs true w b c d (no_number 1 60000 c (hyphen_of c bad)))
      (λ _. no_glyphs true w a c d (no_number 1 60000 c (hyphen_of c bad)))
      (other_of c bad)
      (λ _. no_output true w a b c (hyphen_of c bad)))
      (λ e. one_fails (may_be_given d) true e
      (λ bad. no_text w a b c d
      (λ _. no_output true w b c d (hyphen_of d bad))
      (λ _. no_output true w a c d (hyphen_of d bad))
      (λ _. no_output true w a b d (hyphen_of d bad))
      (other_of d bad))
      (λ e. absurd (true≢false e))))))

  bad_inspect : (a b c d f : List ℕ)
      → list_all may_be_given (w ∷ a ∷ b ∷ c ∷ d ∷ f ∷ []) ≡ false
      → inspect_of w a b c d f ≡ None
  bad_inspect a b c d f e = one_fails (may_be_given w) _ e
      (λ bad. no_inspect w a b c d f (is_no_word w (codes "inspect") refl (hyphen_of w bad)))
      (λ e. one_fails (may_be_given a) _ e
      (λ bad. no_inspect_of w a b c d f
      (first_word a b (is_no_word a (codes "point") refl (hyphen_of a bad))))
      (λ e. one_fails (may_be_given b) _ e
      (λ bad. no_inspect_of w a b c d f
      (second_fails (is_word a (codes "point")) (is_path b) (hyphen_of b bad)))
      (λ e. one_fails (may_be_given c) _ e
      (λ bad. no_glyph w a b c d f (no_number 0 65535 c (hyphen_of c bad)))
      (λ e. one_fails (may_be_given d) _ e
      (λ bad. no_index w a b c d f (no_number 0 65535 d (hyphen_of d bad)))
      (λ e. one_fails (may_be_given f) true e
      (λ bad. no_place_of w a b c d f (no_place f (hyphen_of f bad)))
      (λ e. absurd (true≢false e)))))))

pub not_given : (words : List (List ℕ)) → list_all may_be_given words ≡ false
    → command_of words ≡ None
not_given [] e = refl
not_given (w ∷ []) e = refl
not_given (w ∷ a ∷ []) e = refl
not_given (w ∷ a ∷ b ∷ []) e = bad_build w a b e
not_given (w ∷ a ∷ b ∷ c ∷ []) e = bad_sample w a b c e
not_given (w ∷ a ∷ b ∷ c ∷ d ∷ []) e = bad_text w a b c d e
not_given (w ∷ a ∷ b ∷ c ∷ d ∷ f ∷ []) e = bad_inspect w a b c d f e
not_given (w ∷ a ∷ b ∷ c ∷ d ∷ f ∷ g ∷ words) e = refl
