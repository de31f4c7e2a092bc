-- The timestamp of the least size: that there is one, that it makes the word, and that it is the only one.
use Rattle.std.proofs.Common.{◌≡◌, ℕ, zero, suc, ◌+◌, ◌/◌, ◌%◌, ◌^◌, ◌<◌, ◌≤◌, ◌==◌, List, [], ◌∷◌, ◌++◌, refl, sym, ◌∙◌, ap, arith, Bool, true, false, cond, Option, None, Some, inl, inr, unwrap_or}
use Rattle.std.specs.List.{find, range_with_len}
use Rattle.std.proofs.lemmas.Nat.{mod-mul-add, mod_below}
use Rattle.std.proofs.lemmas.Bool.{cases_lt, eq-eqb, ne_eqb, eqb-true}
use Rattle.std.proofs.Math.Nat.{pow-le-pow_right}
use Rattle.stp_encoder.specs.Names.{natural_of, gray_of, SizedWord, sized, nibble_count, WordFits, last_word, next_word}
use Rattle.stp_encoder.specs.Names.{IsLeast}
use Rattle.trace_clock.proofs.GrayCodes.{to_and_fro, fro_and_to}
use Rattle.trace_clock.proofs.LastWords.{word_none, word_more, word_lt}
use Rattle.stp_encoder.specs.Packets.{low_nibbles, shortest_stamp}

pow_pos : (n : ℕ) → 0 < 16 ^ n
pow_pos n = let k : 16 ^ 0 ≤ 16 ^ n = pow-le-pow_right (omega arith) {i = 0} {j = n} (omega arith) in omega (arith, k)

-- the first of a row of numbers that passes a test
module _ (test : ℕ → Bool) where
  find_first : (n k x : ℕ) → k ≤ x → x < k + n → ((y : ℕ) → k ≤ y → y < x → test y ≡ false) → test x ≡ true → find test (range_with_len k n) ≡ Some x
  find_first zero k x l h before here = absurd (omega (arith, l, h))
  find_first (suc n) k x l h before here =
      by (test k) refl (λ g. find_first n (k + 1) x g (omega (arith, h)) (λ y a b. before y (omega (arith, a)) b) here) where
        by : (t : Bool) → test k ≡ t → (k + 1 ≤ x → find test (range_with_len (k + 1) n) ≡ Some x) → cond t (Some k) (find test (range_with_len (k + 1) n)) ≡ Some x
        by true e more = elim (cases_lt k x) [
          | inl s ↦ (let f = before k (omega arith) s in absurd cc)
          | inr s ↦ ap Some (let q : k ≡ x = omega (arith, l, s) in q)
        ]
        by false e more = elim (cases_lt k x) [
          | inl s ↦ more (omega (arith, s))
          | inr s ↦ (let q : k ≡ x = omega (arith, l, s) in let f = ap test q in absurd cc)
        ]

  -- what is found passes, is among them, and none before it passes
  find_passes : (n k x : ℕ) → find test (range_with_len k n) ≡ Some x → (test x ≡ true) × (x < k + n)
  find_passes zero k x e = absurd cc
  find_passes (suc n) k x e = by (test k) refl e (find_passes n (k + 1) x) where
    by : (t : Bool) → test k ≡ t → cond t (Some k) (find test (range_with_len (k + 1) n)) ≡ Some x →
        (find test (range_with_len (k + 1) n) ≡ Some x → (test x ≡ true) × (x < k + 1 + n)) → (test x ≡ true) × (x < k + suc n)
    by true f e more = let q : k ≡ x = cc in (ap test (sym q) ∙ f, omega (arith, q))
    by false f e more = let m = more e in (m.0, let z = m.1 in omega (arith, z))

  find_before : (n k x y : ℕ) → find test (range_with_len k n) ≡ Some x → k ≤ y → y < x → test y ≡ false
  find_before zero k x y e l h = absurd cc
  find_before (suc n) k x y e l h = by (test k) refl e (find_before n (k + 1) x y) where
    by : (t : Bool) → test k ≡ t → cond t (Some k) (find test (range_with_len (k + 1) n)) ≡ Some x →
        (find test (range_with_len (k + 1) n) ≡ Some x → k + 1 ≤ y → y < x → test y ≡ false) → test y ≡ false
    by true f e more = let q : k ≡ x = cc in absurd (omega (arith, q, l, h))
    by false f e more = elim (cases_lt k y) [
      | inl s ↦ more e (omega (arith, s)) h
      | inr s ↦ ap test (let q : y ≡ k = omega (arith, l, s) in q) ∙ f
    ]

  find_none : (n k y : ℕ) → find test (range_with_len k n) ≡ None → k ≤ y → y < k + n → test y ≡ false
  find_none zero k y e l h = absurd (omega (arith, l, h))
  find_none (suc n) k y e l h = by (test k) refl e (find_none n (k + 1) y) where
    by : (t : Bool) → test k ≡ t → cond t (Some k) (find test (range_with_len (k + 1) n)) ≡ None →
        (find test (range_with_len (k + 1) n) ≡ None → k + 1 ≤ y → y < k + 1 + n → test y ≡ false) → test y ≡ false
    by true f e more = absurd cc
    by false f e more = elim (cases_lt k y) [
      | inl s ↦ more e (omega (arith, s)) (omega (arith, h))
      | inr s ↦ ap test (let q : y ≡ k = omega (arith, l, s) in q) ∙ f
    ]

-- the lowest nibbles of a word fit their size
low_fits : (word size : ℕ) → size < 15 → WordFits size (word % 16 ^ nibble_count size)
low_fits word size h = (h, mod_below word (16 ^ nibble_count size) (pow_pos (nibble_count size)))

-- the word of a timestamp that makes this one of the last is its lowest nibbles
low_is : (last target size word : ℕ) → WordFits size word → next_word last (sized size word) ≡ target → word ≡ target % 16 ^ nibble_count size
low_is last target size word f e =
    sym (mod-mul-add (last / 16 ^ nibble_count size) (16 ^ nibble_count size) word f.1) ∙ ap (λ (z : ℕ). z % 16 ^ nibble_count size) e

made_by_low : (last target size word : ℕ) → WordFits size word → next_word last (sized size word) ≡ target → next_word last (low_nibbles target size) ≡ target
made_by_low last target size word f e = ap (λ (z : ℕ). next_word last (sized size z)) (sym (low_is last target size word f e)) ∙ e

makes : ℕ → ℕ → ℕ → Bool
makes last target size = next_word last (low_nibbles target size) == target

-- a timestamp that makes the word, where no smaller one does, is the shortest
pub shortest_is : (last target size word : ℕ) → WordFits size word → next_word last (sized size word) ≡ target →
    ((other w : ℕ) → other < size → WordFits other w → next_word last (sized other w) ≡ target → ⊥) → sized size word ≡ shortest_stamp last target
unfolding shortest_stamp makes
shortest_is last target size word f e least =
    let found : find (makes last target) (range_with_len 0 15) ≡ Some size =
    find_first (makes last target) 15 0 size (omega arith) (let z = f.0 in omega (arith, z))
    (λ y a b. ne_eqb (next_word last (low_nibbles target y)) target (λ q. least y (target % 16 ^ nibble_count y) b (low_fits target y (let z = f.0 in omega (arith, b, z))) q))
    (eq-eqb (next_word last (low_nibbles target size)) target (made_by_low last target size word f e)) in
    ap (sized size) (low_is last target size word f e) ∙ ap (λ (o : Option ℕ). low_nibbles target (unwrap_or o 14)) (sym found)

-- it makes the word
whole_makes : (last word : ℕ) → last < 2 ^ 64 → word < 2 ^ 64 → next_word last (low_nibbles word 14) ≡ word
whole_makes last word l h = omega (arith, l, h)

pub shortest_makes : (last word : ℕ) → last < 2 ^ 64 → word < 2 ^ 64 →
    WordFits (shortest_stamp last word).size (shortest_stamp last word).word × (next_word last (shortest_stamp last word) ≡ word)
unfolding shortest_stamp makes
shortest_makes last word l h = by (find (makes last word) (range_with_len 0 15)) refl where
  by : (o : Option ℕ) → find (makes last word) (range_with_len 0 15) ≡ o →
      WordFits (unwrap_or o 14) (low_nibbles word (unwrap_or o 14)).word × (next_word last (low_nibbles word (unwrap_or o 14)) ≡ word)
  by None e = (low_fits word 14 (omega arith), whole_makes last word l h)
  by (Some x) e =
      let p = find_passes (makes last word) 15 0 x e in
      (low_fits word x (let z = p.1 in omega (arith, z)), eqb-true (next_word last (low_nibbles word x)) word p.0)

-- and no smaller one does
none_smaller : (last word other w : ℕ) → last < 2 ^ 64 → word < 2 ^ 64 → other < (shortest_stamp last word).size → WordFits other w → next_word last (sized other w) ≡ word → ⊥
unfolding shortest_stamp makes
none_smaller last word other w l h less f e = by (find (makes last word) (range_with_len 0 15)) refl less where
  passes : makes last word other ≡ true
  passes = eq-eqb (next_word last (low_nibbles word other)) word (made_by_low last word other w f e)

  by : (o : Option ℕ) → find (makes last word) (range_with_len 0 15) ≡ o → other < unwrap_or o 14 → ⊥
  by None g less = let n = find_none (makes last word) 15 0 other g (omega arith) (omega (arith, less)) in let p = passes in cc
  by (Some x) g less = let n = find_before (makes last word) 15 0 x other g (omega arith) less in let p = passes in cc

pub shortest_least : (stamps : List SizedWord) (word : ℕ) → word < 2 ^ 64 →
    IsLeast false stamps word (shortest_stamp (last_word stamps) word).size (shortest_stamp (last_word stamps) word).word
shortest_least stamps word h =
    let last = last_word stamps in
    let m = shortest_makes last word (word_lt stamps) h in
    record {
      fits = m.0;
      tells = word_more stamps (shortest_stamp last word) m.0 ∙ m.1;
      least = λ other w less f e. none_smaller last word other w (word_lt stamps) h less f (sym (word_more stamps (sized other w) f) ∙ e);
    }

-- the least timestamp after one of the whole last word is the shortest one
after_whole : (last other w : ℕ) → last < 2 ^ 64 → WordFits other w → last_word (sized 14 last ∷ sized other w ∷ []) ≡ next_word last (sized other w)
after_whole last other w l f =
    let whole : last_word (sized 14 last ∷ []) ≡ last =
    word_more [] (sized 14 last) (omega arith, omega (arith, l)) ∙ ap (λ (z : ℕ). next_word z (sized 14 last)) word_none ∙ (let z : next_word 0 (sized 14 last) ≡ last = omega arith in z) in
    word_more (sized 14 last ∷ []) (sized other w) f ∙ ap (λ (z : ℕ). next_word z (sized other w)) whole

plain_least : (last target size word : ℕ) → last < 2 ^ 64 → IsLeast false (sized 14 last ∷ []) target size word → sized size word ≡ shortest_stamp last target
plain_least last target size word l k =
    shortest_is last target size word k.fits (sym (after_whole last size word l k.fits) ∙ k.tells)
    (λ other w less f e. k.least other w less f (after_whole last other w l f ∙ e))

-- where words are Gray, the least timestamp for a time is that for its Gray number
without_gray : (stamps : List SizedWord) (time size word : ℕ) → IsLeast true stamps time size word → time < 2 ^ 64 → IsLeast false stamps (gray_of time) size word
without_gray stamps time size word k h = record {
  fits = k.fits;
  tells = sym (fro_and_to (last_word (stamps ++ sized size word ∷ [])) (word_lt (stamps ++ sized size word ∷ []))) ∙ ap gray_of k.tells;
  least = λ other w less f e. k.least other w less f (ap natural_of e ∙ to_and_fro time h);
}

pub least_is : (gray : Bool) (last time size word : ℕ) → last < 2 ^ 64 → time < 2 ^ 64 → IsLeast gray (sized 14 last ∷ []) time size word →
    sized size word ≡ shortest_stamp last (cond gray (gray_of time) time)
least_is false last time size word l h k = plain_least last time size word l k
least_is true last time size word l h k = plain_least last (gray_of time) size word l (without_gray (sized 14 last ∷ []) time size word k h)
