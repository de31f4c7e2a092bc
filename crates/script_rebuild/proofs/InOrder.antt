-- IDs in increasing order.
use Rattle.std.proofs.Common.{◌≡◌, ℕ, zero, suc, ◌+◌, ◌<◌, ◌≤◌, List, [], ◌∷◌, refl, sym, ap, ◌∙◌, arith, Bool, true}
use Rattle.std.proofs.Common.{false, length, get_or, ◌||◌, ◌==◌, ◌&&◌, nat_le, not, if◌then◌else◌, filter}
use Rattle.std.specs.List.{list_any, range_with_len}
use Rattle.std.proofs.lemmas.Bool.Decides.{nat_tests}
use Rattle.script_rebuild.specs.Names.{are_sound}
use Rattle.script_rebuild.specs.Script.{in_order}
use Rattle.script_rebuild.specs.Encoding.{IsRising}

-- a number is among these
abbrev pub among : List ℕ → ℕ → Bool
among ids x = list_any (λ y. y == x) ids

-- of the numbers from one on, those that pass a test
module _ (p : ℕ → Bool) where
  abbrev kept : ℕ → ℕ → List ℕ
  kept a n = filter p (range_with_len a n)

  abbrev one_before : ℕ → List ℕ → Bool → List ℕ
  one_before a xs v = if v then a ∷ xs else xs

  none_less : (a n x : ℕ) → x < a → among (kept a n) x ≡ false
  none_less a zero x lt = refl
  none_less a (suc n) x lt = by (p a) (none_less (a + 1) n x (omega (arith, lt)))
    where
      by : (v : Bool) → among (kept (a + 1) n) x ≡ false → among (one_before a (kept (a + 1) n) v) x ≡ false
      by true rest = (let other : (a == x) ≡ false = grind (arith, nat_tests) in rw other rest)
      by false rest = rest

  those_kept : (a n x : ℕ) → a ≤ x → x < a + n → among (kept a n) x ≡ p x
  those_kept a zero x le lt = absurd (omega (arith, le, lt))
  those_kept a (suc n) x le lt = by (p a) refl (a == x) refl (λ more. those_kept (a + 1) n x more (omega (arith, lt)))
    where
      by : (v : Bool) → p a ≡ v → (w : Bool) → (a == x) ≡ w → (a + 1 ≤ x → among (kept (a + 1) n) x ≡ p x) →
          among (one_before a (kept (a + 1) n) v) x ≡ p x
      by true h true e more =
          let same : a ≡ x = grind (arith, nat_tests) in
          ap (λ (b : Bool). b || among (kept (a + 1) n) x) e ∙ sym (sym (ap p same) ∙ h)
      by true h false e more =
          let le : a + 1 ≤ x = grind (arith, nat_tests) in
          ap (λ (b : Bool). b || among (kept (a + 1) n) x) e ∙ more le
      by false h true e more =
          let same : a ≡ x = grind (arith, nat_tests) in
          none_less (a + 1) n x (omega (arith, same)) ∙ sym (sym (ap p same) ∙ h)
      by false h false e more = (let le : a + 1 ≤ x = grind (arith, nat_tests) in more le)

  kept_sound : ((x : ℕ) → p x ≡ true → (1 ≤ x) × (x ≤ 111)) → (a n : ℕ) → are_sound (kept a n) ≡ true
  kept_sound within a zero = refl
  kept_sound within a (suc n) =
      by (p a) refl (none_less (a + 1) n a (omega arith)) (kept_sound within (a + 1) n)
    where
      by : (v : Bool) → p a ≡ v → among (kept (a + 1) n) a ≡ false → are_sound (kept (a + 1) n) ≡ true →
          are_sound (one_before a (kept (a + 1) n) v) ≡ true
      by true h once rest =
          let l : 1 ≤ a = (within a h).0 in
          let m : a ≤ 111 = (within a h).1 in
          let low : nat_le 1 a ≡ true = grind (arith, nat_tests) in
          let high : nat_le a 111 ≡ true = grind (arith, nat_tests) in
          rw (low, high, once) rest
      by false h once rest = rest

  from_first : (a n k d : ℕ) → k < length (kept a n) → a ≤ get_or (kept a n) k d
  from_first a zero k d lt = absurd (omega (arith, lt))
  from_first a (suc n) k d lt = by (p a) k (λ m le. from_first (a + 1) n m d le) lt
    where
      by : (v : Bool) (k : ℕ) → ((m : ℕ) → m < length (kept (a + 1) n) → a + 1 ≤ get_or (kept (a + 1) n) m d) →
          k < length (one_before a (kept (a + 1) n) v) → a ≤ get_or (one_before a (kept (a + 1) n) v) k d
      by true zero more lt = omega arith
      by true (suc k) more lt = (let le = more k (omega (arith, lt)) in omega (arith, le))
      by false k more lt = (let le = more k lt in omega (arith, le))

  kept_rising : (a n : ℕ) → IsRising (kept a n)
  kept_rising a zero j k d lt within = absurd (omega (arith, within))
  kept_rising a (suc n) j k d lt within =
      by (p a) j k (λ m le. from_first (a + 1) n m d le) (λ i m less le. kept_rising (a + 1) n i m d less le) lt within
    where
      by : (v : Bool) (j k : ℕ) → ((m : ℕ) → m < length (kept (a + 1) n) → a + 1 ≤ get_or (kept (a + 1) n) m d) →
          ((i m : ℕ) → i < m → m < length (kept (a + 1) n) → get_or (kept (a + 1) n) i d < get_or (kept (a + 1) n) m d) →
          j < k → k < length (one_before a (kept (a + 1) n) v) →
          get_or (one_before a (kept (a + 1) n) v) j d < get_or (one_before a (kept (a + 1) n) v) k d
      by true j zero first more lt within = absurd (omega (arith, lt))
      by true zero (suc k) first more lt within = (let le = first k (omega (arith, within)) in omega (arith, le))
      by true (suc j) (suc k) first more lt within = more j k (omega (arith, lt)) (omega (arith, within))
      by false j k first more lt within = more j k lt within

-- there are no more than in the list: each test for one number passes one number at most
one_more : (p : ℕ → Bool) (y : ℕ) (xs : List ℕ) →
    length (filter (λ x. (y == x) || p x) xs) ≤ length (filter p xs) + length (filter (λ x. y == x) xs)
one_more p y [] = omega arith
one_more p y (x ∷ xs) = by (y == x) (p x) (one_more p y xs)
  where
    by : (v w : Bool) → length (filter (λ x. (y == x) || p x) xs) ≤ length (filter p xs) + length (filter (λ x. y == x) xs) →
        length (if v || w then x ∷ filter (λ x. (y == x) || p x) xs else filter (λ x. (y == x) || p x) xs)
        ≤ length (if w then x ∷ filter p xs else filter p xs)
        + length (if v then x ∷ filter (λ x. y == x) xs else filter (λ x. y == x) xs)
    by true true h = omega (arith, h)
    by true false h = omega (arith, h)
    by false true h = omega (arith, h)
    by false false h = h

none_later : (y a n : ℕ) → y < a → length (filter (λ x. y == x) (range_with_len a n)) ≡ 0
none_later y a zero lt = refl
none_later y a (suc n) lt =
    let other : (y == a) ≡ false = grind (arith, nat_tests) in
    let rest = none_later y (a + 1) n (omega (arith, lt)) in
    rw other rest

one_alone : (y a n : ℕ) → length (filter (λ x. y == x) (range_with_len a n)) ≤ 1
one_alone y a zero = omega arith
one_alone y a (suc n) = by (y == a) refl (one_alone y (a + 1) n)
  where
    by : (v : Bool) → (y == a) ≡ v → length (filter (λ x. y == x) (range_with_len (a + 1) n)) ≤ 1 →
        length (if v then a ∷ filter (λ x. y == x) (range_with_len (a + 1) n) else filter (λ x. y == x) (range_with_len (a + 1) n)) ≤ 1
    by true e few =
        let same : y ≡ a = grind (arith, nat_tests) in
        let none = none_later y (a + 1) n (omega (arith, same)) in
        omega (arith, none)
    by false e few = few

no_more : (ids : List ℕ) (a n : ℕ) → length (filter (among ids) (range_with_len a n)) ≤ length ids
no_more [] a zero = omega arith
no_more [] a (suc n) = no_more [] (a + 1) n
no_more (y ∷ ids) a n =
    let more = one_more (among ids) y (range_with_len a n) in
    let alone = one_alone y a n in
    let few = no_more ids a n in
    omega (arith, more, alone, few)

-- IDs in increasing order
pub in_order_few : (ids : List ℕ) (n : ℕ) → length (filter (among ids) (range_with_len 1 n)) ≤ length ids
in_order_few ids n = no_more ids 1 n

pub in_order_rising : (ids : List ℕ) → IsRising (in_order ids)
unfolding in_order
in_order_rising ids = kept_rising (among ids) 1 126

pub in_order_low : (ids : List ℕ) (k d : ℕ) → k < length (in_order ids) → 1 ≤ get_or (in_order ids) k d
unfolding in_order
in_order_low ids k d lt = from_first (among ids) 1 126 k d lt

pub in_order_among : (ids : List ℕ) (x : ℕ) → 1 ≤ x → x ≤ 126 → among (in_order ids) x ≡ among ids x
unfolding in_order
in_order_among ids x low high = those_kept (among ids) 1 126 x low (omega (arith, high))

pub sound_within : (ids : List ℕ) → are_sound ids ≡ true → (x : ℕ) → among ids x ≡ true → (1 ≤ x) × (x ≤ 111)
sound_within [] h x e = cc
sound_within (y ∷ ids) h x e =
    by (nat_le 1 y) (nat_le y 111) (not (among ids y)) refl refl h (y == x) refl e (λ sound k. sound_within ids sound x k)
  where
    by : (a b c : Bool) → nat_le 1 y ≡ a → nat_le y 111 ≡ b → (a && b && c && are_sound ids) ≡ true →
        (v : Bool) → (y == x) ≡ v → (v || among ids x) ≡ true →
        (are_sound ids ≡ true → among ids x ≡ true → (1 ≤ x) × (x ≤ 111)) → (1 ≤ x) × (x ≤ 111)
    by true true true low high h true e k more =
        let same : y ≡ x = grind (arith, nat_tests) in
        let l : 1 ≤ y = grind (arith, nat_tests) in
        let m : y ≤ 111 = grind (arith, nat_tests) in
        (omega (arith, same, l), omega (arith, same, m))
    by true true true low high h false e k more = more h k
    by true true false low high h v e k more = cc
    by true false c low high h v e k more = cc
    by false b c low high h v e k more = cc

pub in_order_sound : (ids : List ℕ) → are_sound ids ≡ true → are_sound (in_order ids) ≡ true
unfolding in_order
in_order_sound ids h = kept_sound (among ids) (sound_within ids h) 1 126
