-- A text is cut into its words from its front.
use Rattle.std.proofs.Common.{◌≡◌, ◌⊎◌, ℕ, ◌<◌, ◌≤◌, List, [], ◌∷◌, ◌++◌, length, true, false, Bool, refl, sym}
use Rattle.std.proofs.Common.{ap, ◌∙◌, inl, inr, arith, append_assoc, get_or, map, not, suc}
use Rattle.std.proofs.lemmas.Bool.Decides.{nat_tests}
use Rattle.std.proofs.lemmas.List.{get_or_default, map-append}
use Rattle.std.proofs.lemmas.Str.{NoCharPasses-byte}
use Rattle.std.specs.Char.{is_ascii_whitespace}
use Rattle.std.specs.Prelude.{All, if◌then◌else◌}
use Rattle.std.specs.Str.{NoCharPasses}
use Rattle.lipparoy_c.specs.Words.{begins_word, with_front, words_of}

if_yes : (b : Bool) (xs ys : List (List ℕ)) → b ≡ true → (if b then xs else ys) ≡ xs
if_yes true xs ys e = refl
if_yes false xs ys e = cc

if_no : (b : Bool) (xs ys : List (List ℕ)) → b ≡ false → (if b then xs else ys) ≡ ys
if_no false xs ys e = refl
if_no true xs ys e = cc

abbrev IsSpace : List ℕ → Type 0
IsSpace xs = All (λ x. is_ascii_whitespace x ≡ true) xs

abbrev IsWord : List ℕ → Type 0
IsWord xs = All (λ x. is_ascii_whitespace x ≡ false) xs

-- white space in front is in no word
words-of_gap : (gap rest : List ℕ) → IsSpace gap → words_of (gap ++ rest) ≡ words_of rest
unfolding words_of
words-of_gap [] rest h = refl
words-of_gap (x ∷ gap) rest h =
    if_yes (is_ascii_whitespace x) _ _ (h 0 x (omega arith))
    ∙ words-of_gap gap rest (λ k d l. h (suc k) d (omega (arith, l)))

-- bytes of a word before a place where none goes on are the first word
words-of_word : (x : ℕ) (word rest : List ℕ) → IsWord (x ∷ word) → begins_word rest ≡ false →
    words_of ((x ∷ word) ++ rest) ≡ (x ∷ word) ∷ words_of rest
unfolding words_of
words-of_word x [] rest h none =
    if_no (is_ascii_whitespace x) _ _ (h 0 x (omega arith)) ∙ if_no (begins_word rest) _ _ none
words-of_word x (y ∷ word) rest h none =
    if_no (is_ascii_whitespace x) _ _ (h 0 x (omega arith))
    ∙ if_yes (not (is_ascii_whitespace y)) _ _ (ap not (h 1 x (omega arith)))
    ∙ ap (λ (l : List (List ℕ)). with_front x l) (words-of_word y word rest (λ k d l. h (suc k) d (omega (arith, l))) none)

-- a text of white space has no word
pub words-of_none : (text : List ℕ) → IsSpace text → words_of text ≡ []
unfolding words_of
words-of_none [] h = refl
words-of_none (x ∷ text) h =
    if_yes (is_ascii_whitespace x) _ _ (h 0 x (omega arith))
    ∙ words-of_none text (λ k d l. h (suc k) d (omega (arith, l)))

no_word_begins : (sep rest : List ℕ) → IsSpace sep → (length sep ≡ 0 → length rest ≡ 0) →
    begins_word (sep ++ rest) ≡ false
no_word_begins [] [] h e = refl
no_word_begins [] (x ∷ rest) h e = let none = e refl in absurd (omega (arith, none))
no_word_begins (s ∷ sep) rest h e = ap not (h 0 s (omega arith))

black : (x : ℕ) → 128 ≤ x → is_ascii_whitespace x ≡ false
black x l = grind (arith, nat_tests)

low_or_high : (x : ℕ) → (x < 128) ⊎ (128 ≤ x)
low_or_high x = grind arith

-- a text without a character of white space has no byte of it
is_word : (word : List ℕ) → NoCharPasses is_ascii_whitespace word → IsWord word
is_word word none = λ k d l.
    let same : get_or word k d ≡ get_or word k 0 = get_or_default word k d 0 l in
    let here : is_ascii_whitespace (get_or word k 0) ≡ false =
    elim (low_or_high (get_or word k 0)) [
      | inl low ↦ NoCharPasses-byte is_ascii_whitespace word k none l low
      | inr high ↦ black (get_or word k 0) high
    ] in
    ap is_ascii_whitespace same ∙ here

-- after white space a word and what is apart from it come off the front
pub words-of_step : (text gap word sep rest : List ℕ) → text ≡ gap ++ (word ++ (sep ++ rest)) → IsSpace gap →
    0 < length word → NoCharPasses is_ascii_whitespace word → IsSpace sep → (length sep ≡ 0 → length rest ≡ 0) →
    words_of text ≡ word ∷ words_of rest
words-of_step text gap [] sep rest parts space some none apart ends = absurd (omega (arith, some))
words-of_step text gap (x ∷ word) sep rest parts space some none apart ends =
    ap (λ (l : List ℕ). words_of l) parts ∙ words-of_gap gap ((x ∷ word) ++ (sep ++ rest)) space
    ∙ words-of_word x word (sep ++ rest) (is_word (x ∷ word) none) (no_word_begins sep rest apart ends)
    ∙ ap (λ (l : List (List ℕ)). (x ∷ word) ∷ l) (words-of_gap sep rest apart)

-- one more word, and what is read of the rest
pub words_joined : (all done before rest : List (List ℕ)) (word : List ℕ) → all ≡ done ++ before →
    before ≡ word ∷ rest → all ≡ (done ++ (word ∷ [])) ++ rest
words_joined all done before rest word is step =
    is ∙ ap (λ (l : List (List ℕ)). done ++ l) step ∙ sym (append_assoc done (word ∷ []) rest)

pub words_pushed : {X : Type 0} → (f : X → List ℕ) (olds news : List X) (new : X) (word : List ℕ) →
    news ≡ olds ++ (new ∷ []) → f new ≡ word → map f news ≡ map f olds ++ (word ∷ [])
words_pushed f olds news new word pushed is =
    ap (map f) pushed ∙ map-append f olds (new ∷ []) ∙ ap (λ (w : List ℕ). map f olds ++ (w ∷ [])) is
