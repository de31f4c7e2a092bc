-- Words, joined by spaces, are those words again.
use Rattle.std.proofs.Common.{◌≡◌, ℕ, ◌+◌, ◌<◌, ◌≤◌, ◌^◌, List, [], ◌∷◌, ◌++◌, length, refl, ◌∙◌, ap, arith, Bool, true}
use Rattle.std.proofs.Common.{◌&&◌, nat_lt, decimal}
use Rattle.std.specs.List.{join_with_byte, list_all}
use Rattle.std.specs.Char.{is_ascii_hexdigit, digit_value}
use Rattle.std.specs.Str.Parse.{AllDigits}
use Rattle.std.proofs.lemmas.Bool.Decides.{nat_tests}
use Rattle.decimal_words.proofs.Numbers.{decimal_digits, decimal_has}
use Rattle.script_text.specs.Words.{is_graphic, is_word, are_printable, words_in, are_words}
use Rattle.script_text.proofs.Hexadecimals.{and_left, and_right, both}
use Rattle.script_text.proofs.Splitting.{IsWord, more_word, no_space, printable}

-- all of these are words
abbrev pub are_all : List (List ℕ) → Bool
are_all [] = true
are_all (word ∷ words) = is_word word && are_all words

abbrev pub joined : List (List ℕ) → List ℕ
joined words = join_with_byte 32 words

pub word_graphic : (word : List ℕ) → is_word word ≡ true → list_all is_graphic word ≡ true
word_graphic [] h = refl
word_graphic (b ∷ word) h = h

pub graphic_word : (word : List ℕ) → 0 < length word → list_all is_graphic word ≡ true → is_word word ≡ true
graphic_word [] h g = absurd (omega arith)
graphic_word (b ∷ word) h g = g

some_word : (word : List ℕ) → is_word word ≡ true → nat_lt 0 (length word) ≡ true
some_word [] h = cc
some_word (b ∷ word) h = grind (arith, nat_tests)

-- the words of a line with a word at its front, and of one that is a word
pub record IsParted (line word rest : List ℕ) : Type 0 where
  pub printable : are_printable line ≡ are_printable rest
  pub words : words_in line ≡ word ∷ words_in rest

pub parted_at : (word rest : List ℕ) → list_all is_graphic word ≡ true → IsParted (word ++ 32 ∷ rest) word rest
parted_at [] rest h = record { printable = refl; words = refl }
parted_at (c ∷ word) rest h =
    let g = and_left (is_graphic c) (list_all is_graphic word) h in
    let p = printable c g in
    let s = no_space c g in
    let more = parted_at word rest (and_right (is_graphic c) (list_all is_graphic word) h) in
    let printed = more.printable in
    let words = more.words in
    record { printable = rw (p, printed) refl; words = rw (s, words) refl }

one_word : (word : List ℕ) → list_all is_graphic word ≡ true → IsWord word
one_word [] h = record { printable = refl; one = refl }
one_word (c ∷ word) h =
    more_word c word (and_left (is_graphic c) (list_all is_graphic word) h)
    (one_word word (and_right (is_graphic c) (list_all is_graphic word) h))

first_graphic : (word : List ℕ) (words : List (List ℕ)) → are_all (word ∷ words) ≡ true →
    list_all is_graphic word ≡ true
first_graphic word words h = word_graphic word (and_left (is_word word) (are_all words) h)

pub words_joined : (word : List ℕ) (words : List (List ℕ)) → are_all (word ∷ words) ≡ true →
    words_in (joined (word ∷ words)) ≡ word ∷ words
words_joined word [] h = (one_word word (first_graphic word [] h)).one
words_joined word (next ∷ words) h =
    (parted_at word (joined (next ∷ words)) (first_graphic word (next ∷ words) h)).words
    ∙ ap (λ (l : List (List ℕ)). word ∷ l)
    (words_joined next words (and_right (is_word word) (are_all (next ∷ words)) h))

pub printable_joined : (word : List ℕ) (words : List (List ℕ)) → are_all (word ∷ words) ≡ true →
    are_printable (joined (word ∷ words)) ≡ true
printable_joined word [] h = (one_word word (first_graphic word [] h)).printable
printable_joined word (next ∷ words) h =
    (parted_at word (joined (next ∷ words)) (first_graphic word (next ∷ words) h)).printable
    ∙ printable_joined next words (and_right (is_word word) (are_all (next ∷ words)) h)

pub enough_room : (n : ℕ) (words : List (List ℕ)) → are_all words ≡ true → n + length words ≤ 8 →
    are_words n words ≡ true
enough_room n [] h room = refl
enough_room n (word ∷ words) h room =
    let some = some_word word (and_left (is_word word) (are_all words) h) in
    let few : nat_lt n 8 ≡ true = grind (arith, nat_tests) in
    let more = enough_room (n + 1) words (and_right (is_word word) (are_all words) h) (omega arith) in
    rw (some, few, more) refl

-- decimals are words
graphic_decimal : (c : ℕ) → digit_value c < 10 → is_graphic c ≡ true
graphic_decimal c h = grind (arith, nat_tests)

pub decimal_graphic : (text : List ℕ) → AllDigits 10 text → list_all is_graphic text ≡ true
decimal_graphic [] h = refl
decimal_graphic (c ∷ text) h =
    both (is_graphic c) (list_all is_graphic text) (graphic_decimal c h.0) (decimal_graphic text h.1)

pub decimal_word : (n : ℕ) → n < 2 ^ 64 → is_word (decimal n) ≡ true
decimal_word n h =
    graphic_word (decimal n) (decimal_has n (decimal n) h refl).0 (decimal_graphic (decimal n) (decimal_digits n h))

-- and so are hexadecimal digits
graphic_digit : (c : ℕ) → is_ascii_hexdigit c ≡ true → is_graphic c ≡ true
graphic_digit c h = grind (arith, nat_tests)

pub digits_graphic : (text : List ℕ) → list_all is_ascii_hexdigit text ≡ true → list_all is_graphic text ≡ true
digits_graphic [] h = refl
digits_graphic (c ∷ text) h =
    both (is_graphic c) (list_all is_graphic text)
    (graphic_digit c (and_left (is_ascii_hexdigit c) (list_all is_ascii_hexdigit text) h))
    (digits_graphic text (and_right (is_ascii_hexdigit c) (list_all is_ascii_hexdigit text) h))
