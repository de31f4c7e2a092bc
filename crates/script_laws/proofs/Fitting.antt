-- Each shape's row can be written and read, and is found by its words; and words that have a shape begin with its word.
use Rattle.std.proofs.Common.{◌≡◌, ℕ, List, [], ◌∷◌, refl, sym, subst, Bool, true, false, Some, codes, if◌then◌else◌}
use Rattle.std.proofs.Common.{bytes_eq, rules}
use Rattle.std.proofs.lemmas.Slice.Eq.{bytes_eq-Decides}
use Rattle.script_laws.specs.Names.{Shape, ItmShape, DwtShape, StpShape}
use Rattle.script_laws.specs.Names.{fields_of, fits, first_fitting, shapes_named, shape_named, Row, Values, word_in}
use Rattle.script_laws.specs.Names.{fields_in, itm_row, dwt_row, stp_row, raw_row}
use Rattle.script_text.specs.declared.shapes.Shape.TheVariants.{Itm, Dwt, Stp, Raw}
use Rattle.script_laws.proofs.Fields.{row_sound, row_words}

-- a row can be written and read, and its words have its shape
abbrev pub Checked : {A : Type 0} → Shape → Row A → Type 0
Checked shape r =
    (row_sound r ≡ true) × ((values : Values (fields_in r)) → shape_named (row_words r values) ≡ Some shape)

pub itm_checked : (shape : ItmShape) → Checked (Itm shape) (itm_row shape)
unfolding shape_named
itm_checked shape = search rules

pub dwt_checked : (shape : DwtShape) → Checked (Dwt shape) (dwt_row shape)
unfolding shape_named
dwt_checked shape = search rules

pub stp_checked : (shape : StpShape) → Checked (Stp shape) (stp_row shape)
unfolding shape_named
stp_checked shape = search rules

pub raw_checked : Checked Raw raw_row
unfolding shape_named
raw_checked = (refl, λ v. refl)

-- the word of a shape's items
abbrev pub word_of_shape : Shape → List ℕ
word_of_shape (Itm shape) = word_in (itm_row shape)
word_of_shape (Dwt shape) = word_in (dwt_row shape)
word_of_shape (Stp shape) = word_in (stp_row shape)
word_of_shape Raw = word_in raw_row

-- all of these shapes have this word
abbrev OfWord : List ℕ → List Shape → Type 0
OfWord word [] = Unit {0}
OfWord word (shape ∷ shapes) = (word ≡ word_of_shape shape) × OfWord word shapes

by_word : (word name : List ℕ) (shapes rest : List Shape) → OfWord name shapes → OfWord word rest →
    OfWord word (if bytes_eq word name then shapes else rest)
by_word word name shapes rest own more = go (bytes_eq word name) refl
  where
    go : (v : Bool) → bytes_eq word name ≡ v → OfWord word (if v then shapes else rest)
    go true e = subst (λ (w : List ℕ). OfWord w shapes) (sym ((bytes_eq-Decides word name).0 e)) own
    go false e = more

shapes_have : (word : List ℕ) → OfWord word (shapes_named word)
shapes_have word =
    by_word word (codes "sync") _ _ (refl, tt)
    (by_word word (codes "overflow") _ _ (refl, tt)
    (by_word word (codes "port") _ _ (refl, (refl, (refl, tt)))
    (by_word word (codes "local") _ _ (refl, (refl, (refl, (refl, tt))))
    (by_word word (codes "global1") _ _ (refl, tt)
    (by_word word (codes "global2") _ _ (refl, (refl, tt))
    (by_word word (codes "ext") _ _ (refl, (refl, tt))
    (by_word word (codes "counters") _ _ (refl, tt)
    (by_word word (codes "exception") _ _ (refl, (refl, (refl, tt)))
    (by_word word (codes "pc") _ _ (refl, tt)
    (by_word word (codes "asleep") _ _ (refl, tt)
    (by_word word (codes "cmp") _ _ (refl, (refl, (refl, (refl, (refl, (refl, (refl, (refl, tt))))))))
    (by_word word (codes "hw") _ _ (refl, (refl, (refl, tt)))
    (by_word word (codes "async") _ _ (refl, tt)
    (by_word word (codes "version") _ _ (refl, tt)
    (by_word word (codes "merr") _ _ (refl, tt)
    (by_word word (codes "gerr") _ _ (refl, tt)
    (by_word word (codes "data") _ _ (refl, (refl, (refl, (refl, (refl, (refl, (refl, (refl, (refl, (refl, tt))))))))))
    (by_word word (codes "flag") _ _ (refl, tt)
    (by_word word (codes "trig") _ _ (refl, tt)
    (by_word word (codes "freq") _ _ (refl, tt)
    (by_word word (codes "nullts") _ _ (refl, tt)
    (by_word word (codes "raw") _ _ (refl, tt) tt))))))))))))))))))))))

-- the first that fits has it too
abbrev Fits : List ℕ → List (List ℕ) → Shape → Type 0
Fits word words shape = (word ≡ word_of_shape shape) × (fits (fields_of shape) words ≡ true)

first_is : (word : List ℕ) (shapes : List Shape) (words : List (List ℕ)) (shape : Shape) → OfWord word shapes →
    first_fitting shapes words ≡ Some shape → Fits word words shape
first_is word [] words shape own e = cc
first_is word (first ∷ shapes) words shape own e =
    go (fits (fields_of first) words) refl e (first_is word shapes words shape own.1)
  where
    go : (v : Bool) → fits (fields_of first) words ≡ v →
        (if v then Some first else first_fitting shapes words) ≡ Some shape →
        (first_fitting shapes words ≡ Some shape → Fits word words shape) → Fits word words shape
    go true f e more = (let same : first ≡ shape = cc in subst (Fits word words) same (own.0, f))
    go false f e more = more e

pub shape_fits : (word : List ℕ) (words : List (List ℕ)) (shape : Shape) → shape_named (word ∷ words) ≡ Some shape →
    Fits word words shape
unfolding shape_named
shape_fits word words shape e = first_is word (shapes_named word) words shape (shapes_have word) e
