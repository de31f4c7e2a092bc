-- Nibbles joined in bytes, and one or more nibbles more.
use Rattle.std.proofs.Common.{◌≡◌, ℕ, ◌+◌, ◌*◌, ◌%◌, ◌==◌, List, [], ◌∷◌, ◌++◌, length, refl, sym, ◌∙◌, ap, arith, cond, append-nil, replicate, Bool, true, false, Option, None, Some}
use Rattle.std.specs.Option.{option_to_list}
use Rattle.stp_encoder.specs.Bytes.{joined, odd_nibble, filled}

pub joined_append : (n m : List ℕ) → joined (n ++ m) ≡ joined n ++ joined (option_to_list (odd_nibble n) ++ m)
joined_append [] m = refl
joined_append (low ∷ []) m = refl
joined_append (low ∷ (high ∷ n)) m = ap (λ (l : List ℕ). (low + 16 * high) ∷ l) (joined_append n m)

pub odd_append : (n m : List ℕ) → odd_nibble (n ++ m) ≡ odd_nibble (option_to_list (odd_nibble n) ++ m)
odd_append [] m = refl
odd_append (low ∷ []) m = refl
odd_append (low ∷ (high ∷ n)) m = odd_append n m

-- how many whole bytes and odd nibbles there are
pub count_joined : (n : List ℕ) → 2 * length (joined n) + length (option_to_list (odd_nibble n)) ≡ length n
count_joined [] = refl
count_joined (low ∷ []) = refl
count_joined (low ∷ (high ∷ n)) = let k = count_joined n in omega (arith, k)

-- a nibble after an even number of nibbles is kept, and after an odd number completes a byte
pub push_even : (n : List ℕ) (b : ℕ) → None ≡ odd_nibble n → (joined n ≡ joined (n ++ b ∷ [])) × (Some b ≡ odd_nibble (n ++ b ∷ []))
push_even [] b e = (refl, refl)
push_even (low ∷ []) b e = absurd cc
push_even (low ∷ (high ∷ n)) b e =
    let k = push_even n b e in (ap (λ (l : List ℕ). (low + 16 * high) ∷ l) k.0, k.1)

pub push_odd : (n : List ℕ) (a b : ℕ) → Some a ≡ odd_nibble n →
    (joined n ++ (a + 16 * b) ∷ [] ≡ joined (n ++ b ∷ [])) × (None ≡ odd_nibble (n ++ b ∷ []))
push_odd [] a b e = absurd cc
push_odd (low ∷ []) a b e = let k : a ≡ low = cc in (ap (λ (z : ℕ). (z + 16 * b) ∷ []) k, refl)
push_odd (low ∷ (high ∷ n)) a b e =
    let k = push_odd n a b e in (ap (λ (l : List ℕ). (low + 16 * high) ∷ l) k.0, k.1)

-- an odd last nibble is what is filled
parity : (n : List ℕ) → (length n % 2 == 0) ≡ (length (option_to_list (odd_nibble n)) % 2 == 0)
parity n = (let k = count_joined n in let e : length n % 2 ≡ length (option_to_list (odd_nibble n)) % 2 = omega (arith, k) in ap (λ (z : ℕ). z == 0) e)

pub joined_kept : (o : Option ℕ) → joined (option_to_list o) ≡ []
joined_kept None = refl
joined_kept (Some b) = refl

pub filled_append : (n : List ℕ) → joined (filled n) ≡ joined n ++ joined (filled (option_to_list (odd_nibble n)))
filled_append n = by (length n % 2 == 0) (length kept % 2 == 0) (parity n) where
  kept : List ℕ
  kept = option_to_list (odd_nibble n)

  by : (s t : Bool) → s ≡ t → joined (cond s n (n ++ 0 ∷ [])) ≡ joined n ++ joined (cond t kept (kept ++ 0 ∷ []))
  by true true e = sym (append-nil (joined n)) ∙ ap (λ (l : List ℕ). joined n ++ l) (sym (joined_kept (odd_nibble n)))
  by false false e = joined_append n (0 ∷ [])
  by true false e = absurd cc
  by false true e = absurd cc

-- what is filled is an even number of nibbles, and has 0 after the others
pub filled_is : (n : List ℕ) → (fill : ℕ) × (filled n ≡ n ++ replicate fill 0) × (None ≡ odd_nibble (filled n))
filled_is n = by (odd_nibble n) (length n % 2 == 0) refl (parity n) where
  by : (o : Option ℕ) (t : Bool) → odd_nibble n ≡ o → t ≡ (length (option_to_list (odd_nibble n)) % 2 == 0) →
      (fill : ℕ) × (cond t n (n ++ 0 ∷ []) ≡ n ++ replicate fill 0) × (None ≡ odd_nibble (cond t n (n ++ 0 ∷ [])))
  by None true e p = (0, sym (append-nil n), sym e)
  by None false e p = (let q : false ≡ true = p ∙ ap (λ (o : Option ℕ). length (option_to_list o) % 2 == 0) e in absurd cc)
  by (Some a) true e p = (let q : true ≡ false = p ∙ ap (λ (o : Option ℕ). length (option_to_list o) % 2 == 0) e in absurd cc)
  by (Some a) false e p = (1, refl, (push_odd n a 0 (sym e)).1)
