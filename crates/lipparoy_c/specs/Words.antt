-- The words of a text.
use Rattle.std.specs.Prelude.{ℕ, Bool, false, List, [], ◌∷◌, not, if◌then◌else◌}
use Rattle.std.specs.Char.{is_ascii_whitespace}

-- whether a text goes on with a byte of a word
abbrev pub begins_word : List ℕ → Bool
begins_word [] = false
begins_word (byte ∷ rest) = not (is_ascii_whitespace byte)

-- these words, the first of which has this byte in front
abbrev pub with_front : ℕ → List (List ℕ) → List (List ℕ)
with_front byte [] = (byte ∷ []) ∷ []
with_front byte (word ∷ words) = (byte ∷ word) ∷ words

-- The words of a text: its bytes but for the ASCII white space, of which two are in one word where none is between
-- them. A byte of a word joins the word that the text goes on with, or is a word by itself.
unfoldable pub words_of : List ℕ → List (List ℕ)
words_of [] = []
words_of (byte ∷ rest) =
    if is_ascii_whitespace byte then words_of rest
    else (if begins_word rest then with_front byte (words_of rest) else (byte ∷ []) ∷ words_of rest)
