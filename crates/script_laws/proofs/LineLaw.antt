-- A line that says an item is the text of that item, with its digits in lower case.
use Rattle.std.proofs.Common.{◌≡◌, ℕ, List, [], ◌∷◌, ◌++◌, length, map, refl, sym, ◌∙◌, ap, subst, arith, Bool}
use Rattle.std.proofs.Common.{Some, Ok, Err, decimal, nat_lt, if◌then◌else◌}
use Rattle.std.proofs.lemmas.List.{map-append}
use Rattle.std.proofs.lemmas.List.Splits.{join_with_byte-slice_split}
use Rattle.script_laws.specs.Names.{Plan, Shape, Item, Nothing, Of, LongLine, BadLine, are_printable, words_in}
use Rattle.script_laws.specs.Names.{are_words, shape_named, item_of, line_of_words, line_of, is_nothing, text_of}
use Rattle.script_laws.specs.Names.{IsSayable}
use Rattle.script_text.proofs.LineRanges.{words_are, item_said}
use Rattle.script_laws.specs.Lowered.{lowered}
use Rattle.script_laws.proofs.Joining.{joined}
use Rattle.script_laws.proofs.Items.{words_of}
use Rattle.script_laws.proofs.Fitting.{shape_fits, word_of_shape}
use Rattle.script_laws.proofs.Lowering.{number_lowered}
use Rattle.script_laws.proofs.Fields.{low}
use Rattle.script_laws.proofs.AllItems.{item_says}
use Rattle.script_laws.proofs.TextLaw.{whole_text}

pub joined_low : (words : List (List ℕ)) → map lowered (joined words) ≡ joined (low words)
joined_low [] = refl
joined_low (word ∷ []) = refl
joined_low (word ∷ (next ∷ words)) =
    map-append lowered word (32 ∷ joined (next ∷ words)) ∙ ap (λ (l : List ℕ). map lowered word ++ (32 ∷ l)) (joined_low (next ∷ words))

-- the words of a line that says an item
record SaysWords (words : List (List ℕ)) (id : ℕ) (item : Item) : Type 0 where
  pub words_are : low words ≡ decimal id ∷ words_of item
  pub sayable : IsSayable item

of_same : (a b : ℕ) (x y : Item) → Of a x ≡ Of b y → (a ≡ b) × (x ≡ y)
of_same a b x y e = (cc, cc)

no_shape : (shape : Shape) → shape_named [] ≡ Some shape → ⊥
unfolding shape_named
no_shape shape e = cc

words_say : (plan : Plan) (words : List (List ℕ)) (id : ℕ) (item : Item) → line_of_words plan words ≡ Ok (Of id item) → SaysWords words id item
unfolding line_of_words
words_say plan [] id item e = cc
words_say plan (first ∷ []) id item e = let w = words_are plan first [] (Of id item) e in absurd (no_shape w.shape w.shaped)
words_say plan (first ∷ (word ∷ words)) id item e =
    let w = words_are plan first (word ∷ words) (Of id item) e in
    let same = of_same w.number id w.item item w.is in
    let fit = shape_fits word words w.shape w.shaped in
    let said : item_of w.shape (word_of_shape w.shape ∷ words) ≡ Some w.item = subst (λ (x : List ℕ). item_of w.shape (x ∷ words) ≡ Some w.item) fit.0 w.said in
    let rest = item_says w.shape words w.item fit.1 said in
    let sure : SaysWords (first ∷ (word ∷ words)) w.number w.item = record {
      words_are =
          ap (λ (x : List ℕ). x ∷ low (word ∷ words)) (number_lowered 1 126 w.number first (omega arith) w.numbered)
          ∙ ap (λ (x : List ℕ). decimal w.number ∷ low (x ∷ words)) fit.0
          ∙ ap (λ (l : List (List ℕ)). decimal w.number ∷ l) rest;
      sayable = item_said w.shape (word ∷ words) w.item w.said;
    } in
    subst (λ (x : Item). SaysWords (first ∷ (word ∷ words)) id x) same.1 (subst (λ (n : ℕ). SaysWords (first ∷ (word ∷ words)) n w.item) same.0 sure)

-- a line that says an item is words
line_words : (plan : Plan) (line : List ℕ) (id : ℕ) (item : Item) → line_of plan line ≡ Ok (Of id item) → line_of_words plan (words_in line) ≡ Ok (Of id item)
unfolding line_of
line_words plan line id item e = by (nat_lt 256 (length line)) (is_nothing line) (are_printable line) (are_words 0 (words_in line)) e
  where
    by : (a b c d : Bool) → (if a then Err LongLine else (if b then Ok Nothing else (if c then (if d then line_of_words plan (words_in line) else Err BadLine) else Err BadLine))) ≡ Ok (Of id item) →
        line_of_words plan (words_in line) ≡ Ok (Of id item)
    by a b c d e = grind arith

pub line_says : (plan : Plan) (line : List ℕ) (id : ℕ) (item : Item) → line_of plan line ≡ Ok (Of id item) →
    map lowered line ≡ decimal id ++ (32 ∷ text_of item)
line_says plan line id item e =
    let w = words_say plan (words_in line) id item (line_words plan line id item e) in
    ap (map lowered) (sym (join_with_byte-slice_split 32 line))
    ∙ joined_low (words_in line)
    ∙ ap joined w.words_are
    ∙ sym (whole_text id item w.sayable)
