-- The words of a line.
use Rattle.std.specs.Prelude.{slice_index_or, map, ℕ, ◌+◌, List, [], ◌∷◌, length, Bool, true, false, ◌&&◌, ◌==◌, nat_lt}
use Rattle.std.specs.Prelude.{nat_le}
use Rattle.std.specs.Borrow.{Bor}
use Rattle.std.specs.List.{slice_split, list_all}

-- a printable byte other than a space: 21 to 7E
abbrev pub is_graphic : ℕ → Bool
is_graphic b = nat_lt 32 b && nat_le b 126

-- a word: at least one of these, and nothing else
abbrev pub is_word : List ℕ → Bool
is_word [] = false
is_word (b ∷ word) = list_all is_graphic (b ∷ word)

-- the bytes 20 to 7E
abbrev pub are_printable : List ℕ → Bool
are_printable [] = true
are_printable (b ∷ line) = (nat_le 32 b && nat_le b 126) && are_printable line

-- the texts of words
abbrev pub texts : List (Bor (List ℕ)) → List (List ℕ)
texts words = map (λ w. w.now) words

-- the words of a text: what is between spaces
abbrev pub words_in : List ℕ → List (List ℕ)
words_in text = slice_split (λ b. b == 32) text

-- none of these words is empty, and after this many others they are at most eight
abbrev pub are_words : ℕ → List (List ℕ) → Bool
are_words count [] = true
are_words count (word ∷ words) = (nat_lt 0 (length word) && nat_lt count 8) && are_words (count + 1) words

-- the word of this number, from 0 on
abbrev pub word_of : List (List ℕ) → ℕ → List ℕ
word_of words k = slice_index_or words k []
