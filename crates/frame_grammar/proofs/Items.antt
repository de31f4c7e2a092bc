-- Items one after the other, the bytes of a frame, and the half synchronisations in it.
use Rattle.std.proofs.Common.{◌≡◌, ◌≢◌, ℕ, zero, suc, ◌+◌, ◌*◌, ◌<◌, ◌≤◌, List, [], ◌∷◌, ◌++◌, length, refl, sym, ◌∙◌, ap, arith, Bool, true, false, cond, Option, None, append_assoc, append-nil, ◌⊎◌, inl, inr}
use Rattle.std.specs.Prelude.{◌==◌, ◌&&◌, slice_index}
use Rattle.std.proofs.lemmas.List.{length-append}
use Rattle.std.proofs.lemmas.Bool.{eq-eqb, ne_eqb, eqb-true, eqb-false}
use Rattle.frame_grammar.specs.Names.{Cell, Next, End, Placed, units_of, Walked, Within, after}
use Rattle.frame_grammar.specs.Names.{progress}
use Rattle.frame_grammar.specs.Frame.{IsProperBelow, IsProperFrame}
use Rattle.frame_grammar.specs.Port.{PortItem, Full, Half, Frame, half_spelling, IsWord, IsWords, Spells, why, half_words, Between, First, One, Two, Three, State, start, word_ended, rule}
use Rattle.frame_grammar.specs.Reading.{item_cells, item_id, cells_of_items, id_of_items}
use Rattle.frame_grammar.proofs.Deciding.{at, on, port_decided}
use Rattle.trace_values.proofs.Readings as readings

-- items after items
pub id_of_items-append : (id : Option ℕ) (xs ys : List PortItem) → id_of_items id (xs ++ ys) ≡ id_of_items (id_of_items id xs) ys
id_of_items-append id [] ys = refl
id_of_items-append id (x ∷ xs) ys = id_of_items-append (item_id id x) xs ys

pub cells_of_items-append : (id : Option ℕ) (xs ys : List PortItem) → cells_of_items id (xs ++ ys) ≡ cells_of_items id xs ++ cells_of_items (id_of_items id xs) ys
cells_of_items-append id [] ys = refl
cells_of_items-append id (x ∷ xs) ys =
    ap (λ (c : List Cell). item_cells id x ++ c) (cells_of_items-append (item_id id x) xs ys)
    ∙ sym (append_assoc (item_cells id x) (cells_of_items (item_id id x) xs) (cells_of_items (id_of_items (item_id id x) xs) ys))

-- one item more
pub id_of_items-push : (id : Option ℕ) (xs : List PortItem) (p : PortItem) → id_of_items id (xs ++ p ∷ []) ≡ item_id (id_of_items id xs) p
id_of_items-push id xs p = id_of_items-append id xs (p ∷ [])

pub cells_of_items-push : (id : Option ℕ) (xs : List PortItem) (p : PortItem) → cells_of_items id (xs ++ p ∷ []) ≡ cells_of_items id xs ++ item_cells (id_of_items id xs) p
cells_of_items-push id xs p =
    cells_of_items-append id xs (p ∷ []) ∙ ap (λ (c : List Cell). cells_of_items id xs ++ c) (append-nil (item_cells (id_of_items id xs) p))

-- the bytes of halfwords
words_length : (n k : ℕ) (f r : List Placed) → IsWords n k f r → length f ≡ 2 * n
words_length zero k f r (a, e, b) = ap length e
words_length (suc n) k f r (here, later, a, b, g, w, i, ek, ef, m) = let l = words_length n later g w m in let e : length f ≡ suc (suc (length g)) = ap length ef in omega arith

proper_more : (n : ℕ) (a b : Placed) (f g : List Placed) → a.unit ≢ 255 → f ≡ a ∷ (b ∷ g) → IsProperBelow n (units_of g) → IsProperBelow (suc n) (units_of f)
proper_more n a b f g h e p zero l = λ q. h (let k : slice_index (units_of f) 0 ≡ a.unit = ap (λ (u : List Placed). slice_index (units_of u) 0) e in sym k ∙ q)
proper_more n a b f g h e p (suc k) l = λ q. p k (omega arith) (
    let d : 2 * suc k ≡ suc (suc (2 * k)) = omega arith in
    let i : slice_index (units_of f) (2 * suc k) ≡ slice_index (units_of g) (2 * k) = ap (λ (u : List Placed). slice_index (units_of u) (2 * suc k)) e ∙ ap (λ (m : ℕ). slice_index (units_of (a ∷ (b ∷ g))) m) d in
    sym i ∙ q)

words_proper : (n k : ℕ) (f r : List Placed) → IsWords n k f r → IsProperBelow n (units_of f)
words_proper zero k f r w = λ j l. absurd (let d : j < 0 = l in omega arith)
words_proper (suc n) k f r (here, later, a, b, g, w, i, ek, ef, m) = proper_more n a b f g i.proper ef (words_proper n later g w m)

half_length : (n : ℕ) (h : List Placed) → units_of h ≡ half_spelling n → length h ≡ 2 * n
half_length zero [] e = refl
half_length zero (x ∷ h) e = cc
half_length (suc n) [] e = cc
half_length (suc n) (x ∷ []) e = cc
half_length (suc n) (x ∷ (y ∷ h)) e = let m : units_of h ≡ half_spelling n = cc in let k = half_length n h m in let d : length (x ∷ (y ∷ h)) ≡ suc (suc (length h)) = refl in omega arith

word_length : (n : ℕ) (a b : Placed) (r w : List Placed) → IsWord n a b r w → length r ≡ 2 * n + 2 + length w
word_length n a b r w i =
    let h = half_length n i.before i.halves_are in
    let e : length r ≡ length (i.before ++ (a ∷ (b ∷ w))) = ap length i.parts in
    let d = length-append i.before (a ∷ (b ∷ w)) in
    let c : length (a ∷ (b ∷ w)) ≡ suc (suc (length w)) = refl in omega arith

pub spelled_length : (n k : ℕ) (f r : List Placed) → IsWords n k f r → length r ≡ 2 * n + 2 * k
spelled_length zero k f r (a, e, b) = let d = ap length b in omega arith
spelled_length (suc n) k f r (here, later, a, b, g, w, i, ek, ef, m) = let l = spelled_length n later g w m in let d = word_length here a b r w i in omega arith

pub frame_bytes : (f r : List Placed) (halves : ℕ) → Spells (Frame f halves) r → length f ≡ 16
frame_bytes f r halves (a, b, g, w, i, ef, m) = let l = words_length 7 halves g w m in let e : length f ≡ suc (suc (length g)) = ap length ef in omega arith

pub frame_proper : (f r : List Placed) (halves : ℕ) → Spells (Frame f halves) r → IsProperFrame (units_of f)
frame_proper f r halves (a, b, g, w, i, ef, m) = proper_more 7 a b f g i.proper ef (words_proper 7 halves g w m)

pub frame_spelling : (f r : List Placed) (halves : ℕ) → Spells (Frame f halves) r → length r ≡ 16 + 2 * halves
frame_spelling f r halves (a, b, g, w, i, ef, m) = let l = spelled_length 7 halves g w m in let d = word_length 0 a b r w i in omega arith

-- half synchronisations among the halfwords
half_first : (x y : Placed) (r : List Placed) → x.unit ≡ 255 → y.unit ≡ 127 → half_words (x ∷ (y ∷ r)) ≡ half_words r + 1
half_first x y r e f =
    ap (λ (b : Bool). cond (b && y.unit == 127) (half_words r + 1) (half_words r)) (eq-eqb x.unit 255 e) ∙ ap (λ (b : Bool). cond b (half_words r + 1) (half_words r)) (eq-eqb y.unit 127 f)

plain_first : (x y : Placed) (r : List Placed) → x.unit ≢ 255 → half_words (x ∷ (y ∷ r)) ≡ half_words r
plain_first x y r e = ap (λ (b : Bool). cond (b && y.unit == 127) (half_words r + 1) (half_words r)) (ne_eqb x.unit 255 e)

halves_first : (n : ℕ) (h r : List Placed) → units_of h ≡ half_spelling n → half_words (h ++ r) ≡ n + half_words r
halves_first zero [] r e = omega arith
halves_first zero (x ∷ h) r e = cc
halves_first (suc n) [] r e = cc
halves_first (suc n) (x ∷ []) r e = cc
halves_first (suc n) (x ∷ (y ∷ h)) r e =
    let ex : x.unit ≡ 255 = cc in let ey : y.unit ≡ 127 = cc in let m : units_of h ≡ half_spelling n = cc in
    let k = halves_first n h r m in let l = half_first x y (h ++ r) ex ey in
    l ∙ (let d : half_words (h ++ r) + 1 ≡ suc n + half_words r = omega arith in d)

word_halves : (n : ℕ) (a b : Placed) (r w : List Placed) → IsWord n a b r w → half_words r ≡ n + half_words w
word_halves n a b r w i =
    ap half_words i.parts ∙ halves_first n i.before (a ∷ (b ∷ w)) i.halves_are ∙ ap (λ (m : ℕ). n + m) (plain_first a b w i.proper)

words_halves : (n k : ℕ) (f r : List Placed) → IsWords n k f r → k ≡ half_words r
words_halves zero k f r (a, e, b) = a ∙ ap half_words (sym b)
words_halves (suc n) k f r (here, later, a, b, g, w, i, ek, ef, m) = let l = words_halves n later g w m in let d = word_halves here a b r w i in omega arith

pub frame_halves : (f r : List Placed) (halves : ℕ) → Spells (Frame f halves) r → halves ≡ half_words r
frame_halves f r halves (a, b, g, w, i, ef, m) = let l = words_halves 7 halves g w m in let d = word_halves 0 a b r w i in omega arith

-- and in an unfinished frame
pick : (t : Bool) (x y : Next State PortItem) (r : List Placed) (s : State) → after (cond t x y) (λ s. on s r) r ≡ Within s →
    ((t ≡ true) × (after x (λ s. on s r) r ≡ Within s)) ⊎ ((t ≡ false) × (after y (λ s. on s r) r ≡ Within s))
pick true x y r s e = inl (refl, e)
pick false x y r s e = inr (refl, e)

never : (v : PortItem) (r : List Placed) (t : State) → after (End v) (λ s. on s r) r ≡ Within t → ⊥
never v [] t e = cc
never v (x ∷ r) t e = cc

same_halves : (s t : State) → (let x : Walked State PortItem = Within s in let y : Walked State PortItem = Within t in x ≡ y) → t.halves ≡ s.halves
same_halves s t e = ap (λ (u : State). u.halves) (let k : t ≡ s = cc in k)

same_more : (s t : State) (r : List Placed) → (let x : Walked State PortItem = Within s in let y : Walked State PortItem = Within t in x ≡ y) → half_words r ≡ 0 → t.halves ≡ s.halves + half_words r
same_more s t r e z = let k = same_halves s t e in omega arith

inside_halves : (n : ℕ) (f : List Placed) (h : ℕ) (r : List Placed) (t : State) → n ≤ 6 → on (at n f h Between) r ≡ Within t → t.halves ≡ h + half_words r
inside_halves n f h [] t l e = same_more (at n f h Between) t [] e refl
inside_halves n f h (x ∷ []) t l e = elim (pick (x.unit == 255) _ _ [] t e) [
  | inl m ↦ same_more (at n f h One) t (x ∷ []) m.1 refl
  | inr m ↦ same_more (at n f h (First x)) t (x ∷ []) m.1 refl
]
inside_halves n f h (x ∷ (y ∷ r)) t l e = elim (pick (x.unit == 255) _ _ (y ∷ r) t e) [
  | inl m ↦ elim (pick (y.unit == 127) _ _ r t m.1) [
    | inl o ↦ elim (pick (n == 7) _ _ r t o.1) [
      | inl q ↦ absurd (let k = eqb-true n 7 q.0 in omega arith)
      | inr q ↦ (let k = inside_halves n f (h + 1) r t l q.1 in let d = half_first x y r (eqb-true x.unit 255 m.0) (eqb-true y.unit 127 o.0) in one_more h (half_words r) (half_words (x ∷ (y ∷ r))) t.halves k d)
    ]
    | inr o ↦ elim (pick (y.unit == 255) _ _ r t o.1) [
      | inl q ↦ elim (pick (n == 7) _ _ r t q.1) [ inl z ↦ absurd (let k = eqb-true n 7 z.0 in omega arith) | inr z ↦ (let k = z.1 in cc) ]
      | inr q ↦ (let k = q.1 in cc)
    ]
  ]
  | inr m ↦ here n l (λ k d. inside_halves k (f ++ (x ∷ (y ∷ []))) h r t d) (eqb-false x.unit 255 m.0) m.1
] where
  one_more : (h a b c : ℕ) → c ≡ h + 1 + a → b ≡ a + 1 → c ≡ h + b
  one_more h a b c e f = omega arith

  here : (n : ℕ) → n ≤ 6 → ((k : ℕ) → k ≤ 6 → on (at k (f ++ (x ∷ (y ∷ []))) h Between) r ≡ Within t → t.halves ≡ h + half_words r) → x.unit ≢ 255 →
      after (word_ended n (f ++ (x ∷ (y ∷ []))) h) (λ s. on s r) r ≡ Within t → t.halves ≡ h + half_words (x ∷ (y ∷ r))
  here zero l rec ex k = absurd (never (Frame (f ++ (x ∷ (y ∷ []))) h) r t k)
  here (suc m) l rec ex k = rec m (omega arith) k ∙ ap (λ (c : ℕ). h + c) (sym (plain_first x y r ex))

two_full : (x y : Placed) (r : List Placed) → x.unit ≡ 255 → y.unit ≡ 255 → half_words (x ∷ (y ∷ r)) ≡ half_words r
two_full x y r e f =
    ap (λ (b : Bool). cond (x.unit == 255 && b) (half_words r + 1) (half_words r)) (ne_eqb y.unit 127 (λ h. (let k : 255 ≡ 127 = sym f ∙ h in absurd (omega arith))))
    ∙ ap (λ (b : Bool). cond (b && false) (half_words r + 1) (half_words r)) (eq-eqb x.unit 255 e)

sync_halves : (x y : Placed) (r : List Placed) (t : State) → x.unit ≡ 255 → y.unit ≡ 255 → on (at 7 [] 0 Two) r ≡ Within t → t.halves ≡ half_words (x ∷ (y ∷ r))
sync_halves x y [] t e f k = same_halves (at 7 [] 0 Two) t k ∙ sym (two_full x y [] e f)
sync_halves x y (z ∷ []) t e f k = elim (pick (z.unit == 255) _ _ [] t k) [
  | inl m ↦ same_halves (at 7 [] 0 Three) t m.1 ∙ sym (two_full x y (z ∷ []) e f)
  | inr m ↦ (let q = m.1 in cc)
]
sync_halves x y (z ∷ (w ∷ r)) t e f k = elim (pick (z.unit == 255) _ _ (w ∷ r) t k) [
  | inl m ↦ elim (pick (w.unit == 127) _ _ r t m.1) [
    | inl o ↦ absurd (never Full r t o.1)
    | inr o ↦ (let q = o.1 in cc)
  ]
  | inr m ↦ (let q = m.1 in cc)
]

pub walk_halves : (r : List Placed) (t : State) → on start r ≡ Within t → t.halves ≡ half_words r
walk_halves [] t e = same_halves start t e
walk_halves (x ∷ []) t e = elim (pick (x.unit == 255) _ _ [] t e) [
  | inl m ↦ same_halves (at 7 [] 0 One) t m.1
  | inr m ↦ same_halves (at 7 [] 0 (First x)) t m.1
]
walk_halves (x ∷ (y ∷ r)) t e = elim (pick (x.unit == 255) _ _ (y ∷ r) t e) [
  | inl m ↦ elim (pick (y.unit == 127) _ _ r t m.1) [
    | inl o ↦ absurd (never Half r t o.1)
    | inr o ↦ elim (pick (y.unit == 255) _ _ r t o.1) [
      | inl q ↦ sync_halves x y r t (eqb-true x.unit 255 m.0) (eqb-true y.unit 255 q.0) q.1
      | inr q ↦ (let k = q.1 in cc)
    ]
  ]
  | inr m ↦ (
      let k = inside_halves 6 (x ∷ (y ∷ [])) 0 r t (omega arith) m.1 in
      let d = plain_first x y r (eqb-false x.unit 255 m.0) in omega arith
      )
]

-- while there is no fault, the rest leaves the rule in the kept state
pub unfinished_halves : (u : List Placed) → (progress rule start u).fault ≡ None → (progress rule start u).state.halves ≡ half_words (progress rule start u).rest
unfinished_halves u g = walk_halves (progress rule start u).rest (progress rule start u).state (readings.rest_walks Spells why rule start port_decided u g)
