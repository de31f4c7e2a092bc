-- Bits are cut in one way.
use Rattle.std.proofs.Common.{◌≡◌, ℕ, zero, suc, List, [], ◌∷◌, ◌++◌, Bool, true, false, refl, sym, ◌∙◌, ap, subst, arith, append_assoc}
use Rattle.std.specs.List.{AllByRecursion}
use Rattle.port_slip.specs.Bits.{ones}
use Rattle.port_slip.specs.Segments.{Cut, begins, with_bit, cut}
use Rattle.port_slip.specs.Words.{sync, BeginsWithSync, in_order, SegmentAfter, IsCut}
use Rattle.port_slip.proofs.Cutting.{prefixed, cut_clear, broken}

-- the test tells the word
begins_ones : (n : ℕ) (s : List Bool) → begins n s ≡ true → (more : List Bool) × (s ≡ ones n ++ (false ∷ more))
unfolding ones
begins_ones n [] h = cc
begins_ones zero (true ∷ s) h = cc
begins_ones zero (false ∷ s) h = (s, refl)
begins_ones (suc n) (true ∷ s) h = let i = begins_ones n s h in (i.0, ap (λ l. true ∷ l) i.1)
begins_ones (suc n) (false ∷ s) h = cc

ones_begin : (n : ℕ) (more : List Bool) → begins n (ones n ++ (false ∷ more)) ≡ true
unfolding ones
ones_begin zero more = refl
ones_begin (suc n) more = ones_begin n more

pub begins_word : (s : List Bool) → begins 31 s ≡ true → BeginsWithSync s
begins_word s h = let i = begins_ones 31 s h in (i.0, i.1 ∙ sym (append_assoc (ones 31) (false ∷ []) i.0))

pub word_begins : (s : List Bool) → BeginsWithSync s → begins 31 s ≡ true
word_begins s w = ap (begins 31) (w.1 ∙ append_assoc (ones 31) (false ∷ []) w.0) ∙ ones_begin 31 w.0

-- a segment has its pattern whole
segment_begins : (x : Bool) (s : List Bool) → begins 31 (x ∷ s) ≡ true → BeginsWithSync (x ∷ (cut s).before)
unfolding ones
segment_begins x s h =
    let i = begins_ones 31 (x ∷ s) h in
    let head : x ≡ true = cc in
    let tail : s ≡ ones 30 ++ (false ∷ i.0) = (let e = i.1 in cc) in
    let w = ones 30 ++ false ∷ [] in
    let c : cut s ≡ prefixed w (cut i.0) = ap cut tail ∙ cut_clear w i.0 (broken 30 i.0 (omega arith)) in
    ((cut i.0).before, ap (λ b. b ∷ (cut s).before) head ∙ ap (λ (k : Cut). true ∷ k.before) c)

is_parts : (s : List Bool) → s ≡ (cut s).before ++ in_order (cut s).segments
is_parts [] = refl
is_parts (x ∷ s) = ap (λ l. x ∷ l) (is_parts s) ∙ by (begins 31 (x ∷ s)) where
  by : (t : Bool) →
      x ∷ ((cut s).before ++ in_order (cut s).segments) ≡ (with_bit t x (cut s)).before ++ in_order (with_bit t x (cut s)).segments
  by true = refl
  by false = refl

is_begun : (s : List Bool) → AllByRecursion BeginsWithSync (cut s).segments
is_begun [] = tt
is_begun (x ∷ s) = by (begins 31 (x ∷ s)) refl (is_begun s) where
  by : (t : Bool) → begins 31 (x ∷ s) ≡ t → AllByRecursion BeginsWithSync (cut s).segments →
      AllByRecursion BeginsWithSync (with_bit t x (cut s)).segments
  by true h a = (segment_begins x s h, a)
  by false h a = a

is_all : (s front rest : List Bool) → s ≡ front ++ rest → BeginsWithSync rest → SegmentAfter (cut s) front
is_all [] [] [] e w = absurd (let k = word_begins [] w in cc)
is_all [] [] (x ∷ rest) e w = cc
is_all [] (y ∷ front) rest e w = cc
is_all (x ∷ s) [] rest e w =
    let h : begins 31 (x ∷ s) ≡ true = ap (begins 31) e ∙ word_begins rest w in
    subst (λ (t : Bool). SegmentAfter (with_bit t x (cut s)) []) (sym h) (record { early = []; segment = x ∷ (cut s).before; later = (cut s).segments; parts = refl; before = refl })
is_all (x ∷ s) (y ∷ front) rest e w =
    let head : x ≡ y = cc in
    let tail : s ≡ front ++ rest = cc in
    by (begins 31 (x ∷ s)) head (is_all s front rest tail w) where
      by : (t : Bool) → x ≡ y → SegmentAfter (cut s) front → SegmentAfter (with_bit t x (cut s)) (y ∷ front)
      by true h a = record {
        early = (x ∷ (cut s).before) ∷ a.early;
        segment = a.segment;
        later = a.later;
        parts = ap (λ l. (x ∷ (cut s).before) ∷ l) a.parts;
        before = ap (λ z. z ∷ front) (sym h) ∙ ap (λ l. x ∷ l) a.before;
      }
      by false h a = record {
        early = a.early;
        segment = a.segment;
        later = a.later;
        parts = a.parts;
        before = ap (λ z. z ∷ front) (sym h) ∙ ap (λ l. x ∷ l) a.before;
      }

pub is_cut : (s : List Bool) → IsCut s (cut s)
is_cut s = record { parts = is_parts s; begun = is_begun s; all = is_all s }

-- a cut is its two fields
abbrev made : List Bool → List (List Bool) → Cut
made b g = record { before = b; segments = g }

first_true : (g : List Bool) → BeginsWithSync g → (r : List Bool) × (g ≡ true ∷ r)
unfolding ones
first_true g w = (ones 30 ++ (false ∷ w.0), w.1)

-- where the first bit is before the first segment
skips_one : (x : Bool) (s b : List Bool) (g : List (List Bool)) → IsCut (x ∷ s) (made (x ∷ b) g) →
    IsCut s (made b g) × (begins 31 (x ∷ s) ≡ false)
skips_one x s b g i = (
  record {
    parts = (let e = i.parts in cc);
    begun = i.begun;
    all = λ front rest e w. (
        let a = i.all (x ∷ front) rest (ap (λ l. x ∷ l) e) w in
        record { early = a.early; segment = a.segment; later = a.later; parts = a.parts; before = (let k = a.before in cc) });
  },
  no (begins 31 (x ∷ s)) refl,
) where
  no : (t : Bool) → begins 31 (x ∷ s) ≡ t → begins 31 (x ∷ s) ≡ false
  no false h = h
  no true h = absurd (let a = i.all [] (x ∷ s) refl (begins_word (x ∷ s) h) in let k = a.before in cc)

-- and where it begins one
begins_one : (x : Bool) (s r : List Bool) (g : List (List Bool)) → IsCut (x ∷ s) (made [] ((true ∷ r) ∷ g)) →
    IsCut s (made r g) × (begins 31 (x ∷ s) ≡ true) × (x ≡ true)
begins_one x s r g i =
    let tail : s ≡ r ++ in_order g = (let e = i.parts in cc) in
    let head : x ≡ true = (let e = i.parts in cc) in
    let b = i.begun.0 in
    let word : BeginsWithSync (x ∷ s) = (b.0 ++ in_order g, i.parts ∙ ap (λ (l : List Bool). l ++ in_order g) b.1 ∙ append_assoc sync b.0 (in_order g)) in
    (record { parts = tail; begun = i.begun.1; all = λ front rest e w. later_one front (i.all (x ∷ front) rest (ap (λ l. x ∷ l) e) w) }, word_begins (x ∷ s) word, head) where
      by : (front : List Bool) (early : List (List Bool)) (segment : List Bool) (later : List (List Bool)) →
          (true ∷ r) ∷ g ≡ early ++ segment ∷ later → x ∷ front ≡ in_order early → SegmentAfter (made r g) front
      by front [] segment later p e = cc
      by front (h ∷ early) segment later p e =
          let same : h ≡ true ∷ r = cc in
          let parts : g ≡ early ++ segment ∷ later = cc in
          let all : x ∷ front ≡ (true ∷ r) ++ in_order early = e ∙ ap (λ (l : List Bool). l ++ in_order early) same in
          record { early = early; segment = segment; later = later; parts = parts; before = cc }

      later_one : (front : List Bool) → SegmentAfter (made [] ((true ∷ r) ∷ g)) (x ∷ front) →
          SegmentAfter (made r g) front
      later_one front a = by front a.early a.segment a.later a.parts a.before

only : (s b : List Bool) (g : List (List Bool)) → IsCut s (made b g) → made b g ≡ cut s
only [] [] [] i = refl
only [] [] (h ∷ g) i = absurd (let f = first_true h i.begun.0 in let e : [] ≡ (true ∷ f.0) ++ in_order g = i.parts ∙ ap (λ (l : List Bool). l ++ in_order g) f.1 in cc)
only [] (x ∷ b) g i = absurd (let e = i.parts in cc)
only (x ∷ s) [] [] i = absurd (let e = i.parts in cc)
only (x ∷ s) (y ∷ b) g i =
    let head : y ≡ x = (let e = i.parts in cc) in
    let k = skips_one x s b g (subst (λ (z : Bool). IsCut (x ∷ s) (made (z ∷ b) g)) head i) in
    ap (λ z. made (z ∷ b) g) head ∙ ap (λ c. with_bit false x c) (only s b g k.0) ∙ ap (λ t. with_bit t x (cut s)) (sym k.1)
only (x ∷ s) [] (h ∷ g) i =
    let f = first_true h i.begun.0 in
    let k = begins_one x s f.0 g (subst (λ (z : List Bool). IsCut (x ∷ s) (made [] (z ∷ g))) f.1 i) in
    ap (λ z. made [] (z ∷ g)) f.1 ∙ ap (λ z. made [] ((z ∷ f.0) ∷ g)) (sym k.2) ∙ ap (λ c. with_bit true x c) (only s f.0 g k.0) ∙ ap (λ t. with_bit t x (cut s)) (sym k.1)

pub only_cut : (s : List Bool) (c : Cut) → IsCut s c → c ≡ cut s
only_cut s c i = only s c.before c.segments i
