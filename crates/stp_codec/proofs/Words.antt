-- Nibbles of words of eight bytes.
use Rattle.std.proofs.Common.{◌≡◌, ℕ, zero, suc, ◌+◌, ◌-◌, ◌*◌, ◌/◌, ◌%◌, ◌^◌, ◌<◌, ◌≤◌, List, [], ◌∷◌, ◌++◌, length}
use Rattle.std.proofs.Common.{take, drop, get_or, refl, sym, ◌∙◌, ap, subst, arith}
use Rattle.std.specs.Prelude.{bit_and, MatchOption, Option, Some}
use Rattle.std.specs.Int.{w64, from_le_bytes, from_be_bytes, to_le_bytes}
use Rattle.std.proofs.Math.Seq.{drop-nil}
use Rattle.std.proofs.lemmas.List.{get_or-drop, length-drop}
use Rattle.std.proofs.lemmas.Nat.{and_block, and_mask, le_bytes_8}
use Rattle.stp_codec.specs.Names.{Lsn, Msn, number}
use Rattle.stp_codec.specs.Wholes.{nibbles_in, between}

-- the first numbers of a list, one by one
abbrev firsts : ℕ → (ℕ → ℕ) → List ℕ
firsts zero f = []
firsts (suc n) f = f 0 ∷ firsts n (λ i. f (suc i))

all_firsts : (r : List ℕ) → firsts (length r) (λ i. get_or r i 0) ≡ r
all_firsts [] = refl
all_firsts (b ∷ r) = ap (λ l. b ∷ l) (all_firsts r)

with_firsts : (n : ℕ) (r : List ℕ) → n ≤ length r → firsts n (λ i. get_or r i 0) ++ drop n r ≡ r
with_firsts zero r h = refl
with_firsts (suc n) [] h = absurd (omega arith)
with_firsts (suc n) (b ∷ r) h = ap (λ l. b ∷ l) (with_firsts n r (omega arith))

-- what is known of the value that there is
pub of_some : {A : Type 0} (P : Type 0) (Q : A → Type 0) (o : Option A) (x : A) → o ≡ Some x → MatchOption o P Q → Q x
of_some {A} P Q o x e m = subst (λ (o : Option A). MatchOption o P Q) e m

-- bytes from one on, and their nibbles
take_twice : (n : ℕ) (l : List ℕ) → take n (take n l) ≡ take n l
take_twice zero l = refl
take_twice (suc n) [] = refl
take_twice (suc n) (b ∷ l) = ap (λ r. b ∷ r) (take_twice n l)

pub eight_from : (first : ℕ) (bytes : List ℕ) → take 8 (take (first + 8 - first) (drop first bytes)) ≡ take 8 (drop first bytes)
eight_from first bytes = ap (λ n. take 8 (take n (drop first bytes))) (let e : first + 8 - first ≡ 8 = omega arith in e) ∙ take_twice 8 (drop first bytes)

drop_nibbles : (first : ℕ) (bytes : List ℕ) → drop (2 * first) (nibbles_in bytes) ≡ nibbles_in (drop first bytes)
drop_nibbles zero bytes = refl
drop_nibbles (suc first) [] = drop-nil (2 * suc first)
drop_nibbles (suc first) (b ∷ bytes) =
    ap (λ n. drop n (nibbles_in (b ∷ bytes))) (let e : 2 * suc first ≡ suc (suc (2 * first)) = omega arith in e) ∙ drop_nibbles first bytes

drop_drop : (n m : ℕ) (l : List ℕ) → drop m (drop n l) ≡ drop (n + m) l
drop_drop zero m l = ap (λ k. drop k l) (let e : m ≡ 0 + m = omega arith in e)
drop_drop (suc n) m [] = drop-nil m ∙ sym (drop-nil (suc n + m))
drop_drop (suc n) m (b ∷ l) = drop_drop n m l ∙ ap (λ k. drop k (b ∷ l)) (let e : suc (n + m) ≡ suc n + m = omega arith in e)

-- two nibbles of a byte
two : (b : ℕ) → b < 256 → b % 16 + 16 * (b / 16 % 16) ≡ b
two b h = omega arith

-- the number of eight bytes is that of their nibbles
eight_firsts : (f : ℕ → ℕ) (rest : List ℕ) → ((i : ℕ) → f i < 256) →
    from_le_bytes w64 (take 8 (firsts 8 f ++ rest)) ≡ number Lsn (take 16 (nibbles_in (firsts 8 f ++ rest)))
eight_firsts f rest h =
    let e0 = two (f 0) (h 0) in
    let e1 = two (f 1) (h 1) in
    let e2 = two (f 2) (h 2) in
    let e3 = two (f 3) (h 3) in
    let e4 = two (f 4) (h 4) in
    let e5 = two (f 5) (h 5) in
    let e6 = two (f 6) (h 6) in
    let e7 = two (f 7) (h 7) in
    omega (arith, e0, e1, e2, e3, e4, e5, e6, e7)

-- one nibble more of a byte after them, and the first one less
next : (a x b : ℕ) → a < 16 → x < 2 ^ 60 → (a + 16 * x + 2 ^ 64 * b) / 2 ^ 4 % 2 ^ 64 ≡ x + 2 ^ 60 * (b % 16)
next a x b h l = omega arith

same : (x b : ℕ) → x < 2 ^ 64 → (x + 2 ^ 64 * b) / 2 ^ 0 % 2 ^ 64 ≡ x
same x b l = omega arith

nine_firsts : (f : ℕ → ℕ) (rest : List ℕ) (half : ℕ) → half < 2 →
    (number Lsn (take 16 (nibbles_in (firsts 9 f ++ rest))) + 2 ^ 64 * f 8) / 2 ^ (4 * half) % 2 ^ 64 ≡ number Lsn (take 16 (drop half (nibbles_in (firsts 9 f ++ rest))))
nine_firsts f rest zero h = same (number Lsn (take 16 (nibbles_in (firsts 9 f ++ rest)))) (f 8) (omega arith)
nine_firsts f rest (suc zero) h = next (f 0 % 16) (number Lsn (take 15 (drop 1 (nibbles_in (firsts 9 f ++ rest))))) (f 8) (omega arith) (omega arith) ∙ omega arith
nine_firsts f rest (suc (suc half)) h = absurd (omega arith)

module _ (bytes : List ℕ) (first : ℕ) where
  abbrev here : List ℕ
  here = drop first bytes

  here_long : (n : ℕ) → first + n ≤ length bytes → n ≤ length here
  here_long n h = let e = length-drop first bytes in omega (arith, e, h)

  here_small : ((i : ℕ) → get_or bytes i 0 < 256) → (i : ℕ) → get_or here i 0 < 256
  here_small h i = subst (λ b. b < 256) (sym (get_or-drop first bytes i 0)) (h (first + i))

  nibbles_here : (half : ℕ) → number Lsn (take 16 (drop half (nibbles_in here))) ≡ number Lsn (between (nibbles_in bytes) (2 * first + half) (2 * first + half + 16))
  nibbles_here half =
      ap (λ l. number Lsn (take 16 (drop half l))) (sym (drop_nibbles first bytes))
      ∙ ap (λ l. number Lsn (take 16 l)) (drop_drop (2 * first) half (nibbles_in bytes))
      ∙ ap (λ n. number Lsn (take n (drop (2 * first + half) (nibbles_in bytes)))) (let e : 16 ≡ 2 * first + half + 16 - (2 * first + half) = omega arith in e)

  pub word_is : first + 8 ≤ length bytes → ((i : ℕ) → get_or bytes i 0 < 256) →
      from_le_bytes w64 (take 8 here) ≡ number Lsn (between (nibbles_in bytes) (2 * first) (2 * first + 16))
  word_is h small =
      subst (λ l. from_le_bytes w64 (take 8 l) ≡ number Lsn (take 16 (nibbles_in l))) (with_firsts 8 here (here_long 8 h)) (eight_firsts (λ i. get_or here i 0) (drop 8 here) (here_small small))
      ∙ nibbles_here 0 ∙ ap (λ n. number Lsn (between (nibbles_in bytes) n (n + 16))) (let e : 2 * first + 0 ≡ 2 * first = omega arith in e)

  pub nibbles_are : (half front byte : ℕ) → half < 2 → first + 9 ≤ length bytes → front ≡ number Lsn (between (nibbles_in bytes) (2 * first) (2 * first + 16)) → byte ≡ get_or bytes (first + 8) 0 →
      (front + 2 ^ 64 * byte) / 2 ^ (4 * half) % 2 ^ 64 ≡ number Lsn (between (nibbles_in bytes) (2 * first + half) (2 * first + half + 16))
  nibbles_are half front byte l h e b =
      let f : front ≡ number Lsn (take 16 (nibbles_in here)) =
      e ∙ ap (λ n. number Lsn (between (nibbles_in bytes) n (n + 16))) (let e : 2 * first ≡ 2 * first + 0 = omega arith in e) ∙ sym (nibbles_here 0) in
      ap (λ n. (n + 2 ^ 64 * byte) / 2 ^ (4 * half) % 2 ^ 64) f
      ∙ ap (λ n. (number Lsn (take 16 (nibbles_in here)) + 2 ^ 64 * n) / 2 ^ (4 * half) % 2 ^ 64) (b ∙ sym (get_or-drop first bytes 8 0))
      ∙ subst (λ l. (number Lsn (take 16 (nibbles_in l)) + 2 ^ 64 * get_or here 8 0) / 2 ^ (4 * half) % 2 ^ 64 ≡ number Lsn (take 16 (drop half (nibbles_in l))))
      (with_firsts 9 here (here_long 9 h)) (nine_firsts (λ i. get_or here i 0) (drop 9 here) half l)
      ∙ nibbles_here half

-- all bits of one byte but the four lowest ones are masked, and so of each byte of a word
mask_step : (h r m : ℕ) → r < 256 → bit_and (r + 256 * h) (m * 256 + 15) ≡ r % 16 + 256 * bit_and h m
mask_step h r m l =
    ap (λ x. bit_and x (m * 256 + 15)) (let e : r + 256 * h ≡ h * 256 + r = omega arith in e)
    ∙ and_block 8 h m r 15 l (omega arith) ∙ ap (λ x. bit_and h m * 256 + x) (and_mask r 4) ∙ omega arith

masked : (d0 d1 d2 d3 d4 d5 d6 d7 : ℕ) → d0 < 256 → d1 < 256 → d2 < 256 → d3 < 256 → d4 < 256 → d5 < 256 → d6 < 256 →
    bit_and (d0 + 256 * (d1 + 256 * (d2 + 256 * (d3 + 256 * (d4 + 256 * (d5 + 256 * (d6 + 256 * d7))))))) 0x0F0F0F0F0F0F0F0F
    ≡ d0 % 16 + 256 * (d1 % 16 + 256 * (d2 % 16 + 256 * (d3 % 16 + 256 * (d4 % 16 + 256 * (d5 % 16 + 256 * (d6 % 16 + 256 * (d7 % 16)))))))
masked d0 d1 d2 d3 d4 d5 d6 d7 l0 l1 l2 l3 l4 l5 l6 =
    mask_step _ d0 0x0F0F0F0F0F0F0F l0 ∙ ap (λ x. d0 % 16 + 256 * x)
    (mask_step _ d1 0x0F0F0F0F0F0F l1 ∙ ap (λ x. d1 % 16 + 256 * x)
    (mask_step _ d2 0x0F0F0F0F0F l2 ∙ ap (λ x. d2 % 16 + 256 * x)
    (mask_step _ d3 0x0F0F0F0F l3 ∙ ap (λ x. d3 % 16 + 256 * x)
    (mask_step _ d4 0x0F0F0F l4 ∙ ap (λ x. d4 % 16 + 256 * x)
    (mask_step _ d5 0x0F0F l5 ∙ ap (λ x. d5 % 16 + 256 * x)
    (mask_step _ d6 0x0F l6 ∙ ap (λ x. d6 % 16 + 256 * x) (and_mask d7 4)))))))

-- the first of two nibbles
low : (a b : ℕ) → a < 16 → (a + 16 * b) % 16 ≡ a
low a b h = omega arith

pair_fits : (a b : ℕ) → a < 16 → b < 16 → a + 16 * b < 256
pair_fits a b h k = omega arith

module _ (f : ℕ → ℕ) (h : (i : ℕ) → f i < 16) where
  evens : bit_and (number Lsn (firsts 16 f)) 0x0F0F0F0F0F0F0F0F
      ≡ f 0 + 256 * (f 2 + 256 * (f 4 + 256 * (f 6 + 256 * (f 8 + 256 * (f 10 + 256 * (f 12 + 256 * f 14))))))
  evens =
      let pair : ℕ → ℕ = λ i. f i + 16 * f (i + 1) in
      let e0 = low (f 0) (f 1) (h 0) in
      let e2 = low (f 2) (f 3) (h 2) in
      let e4 = low (f 4) (f 5) (h 4) in
      let e6 = low (f 6) (f 7) (h 6) in
      let e8 = low (f 8) (f 9) (h 8) in
      let e10 = low (f 10) (f 11) (h 10) in
      let e12 = low (f 12) (f 13) (h 12) in
      let e14 = low (f 14) (f 15) (h 14) in
      let p : number Lsn (firsts 16 f) ≡ pair 0 + 256 * (pair 2 + 256 * (pair 4 + 256 * (pair 6 + 256 * (pair 8 + 256 * (pair 10 + 256 * (pair 12 + 256 * pair 14)))))) = omega arith in
      ap (λ n. bit_and n 0x0F0F0F0F0F0F0F0F) p
      ∙ masked (pair 0) (pair 2) (pair 4) (pair 6) (pair 8) (pair 10) (pair 12) (pair 14)
      (pair_fits (f 0) (f 1) (h 0) (h 1)) (pair_fits (f 2) (f 3) (h 2) (h 3)) (pair_fits (f 4) (f 5) (h 4) (h 5)) (pair_fits (f 6) (f 7) (h 6) (h 7))
      (pair_fits (f 8) (f 9) (h 8) (h 9)) (pair_fits (f 10) (f 11) (h 10) (h 11)) (pair_fits (f 12) (f 13) (h 12) (h 13))
      ∙ omega (arith, e0, e2, e4, e6, e8, e10, e12, e14)

firsts_small : (n most : ℕ) (f : ℕ → ℕ) → ((i : ℕ) → f i < most) → 0 < most → (i : ℕ) → get_or (firsts n f) i 0 < most
firsts_small zero most f h l i = l
firsts_small (suc n) most f h l zero = h 0
firsts_small (suc n) most f h l (suc i) = firsts_small n most (λ i. f (suc i)) (λ i. h (suc i)) l i

-- without the first one
rest_of : (a x : ℕ) → a < 16 → (a + 16 * x) / 16 ≡ x
rest_of a x h = omega arith

module _ (f : ℕ → ℕ) (h : (i : ℕ) → f i < 16) where
  odds : bit_and (number Lsn (firsts 16 f) / 16) 0x0F0F0F0F0F0F0F0F
      ≡ f 1 + 256 * (f 3 + 256 * (f 5 + 256 * (f 7 + 256 * (f 9 + 256 * (f 11 + 256 * (f 13 + 256 * f 15))))))
  odds =
      let g : ℕ → ℕ = λ i. get_or (firsts 15 (λ k. f (suc k))) i 0 in
      ap (λ n. bit_and n 0x0F0F0F0F0F0F0F0F) (rest_of (f 0) (number Lsn (firsts 15 (λ k. f (suc k)))) (h 0) ∙ (let e : number Lsn (firsts 15 (λ k. f (suc k))) ≡ number Lsn (firsts 16 g) = omega arith in e))
      ∙ evens g (firsts_small 15 16 (λ k. f (suc k)) (λ k. h (suc k)) (omega arith))

  -- the bytes with their nibbles turned
  abbrev byte : ℕ → ℕ
  byte k = 16 * f (2 * k) + f (2 * k + 1)

  byte_fits : (k : ℕ) → byte k < 256
  byte_fits k = let a = h (2 * k) in let b = h (2 * k + 1) in omega (arith, a, b)

  turned_firsts : (n pairs : ℕ) → n ≡ number Lsn (firsts 16 f) → pairs ≡ 16 * bit_and n 0x0F0F0F0F0F0F0F0F + bit_and (n / 16) 0x0F0F0F0F0F0F0F0F →
      from_be_bytes w64 (to_le_bytes w64 pairs) ≡ number Msn (firsts 16 f)
  turned_firsts n pairs e p =
      let a = ap (λ n. bit_and n 0x0F0F0F0F0F0F0F0F) e ∙ evens f h in
      let b = ap (λ n. bit_and (n / 16) 0x0F0F0F0F0F0F0F0F) e ∙ odds in
      let made : pairs ≡ from_le_bytes w64 (firsts 8 byte) = omega (arith, p, a, b) in
      ap (from_be_bytes w64) (le_bytes_8 (firsts 8 byte) pairs refl (firsts_small 8 256 byte byte_fits (omega arith)) made) ∙ omega arith

pub turned_is : (r : List ℕ) → length r ≡ 16 → ((i : ℕ) → get_or r i 0 < 16) → (n pairs : ℕ) → n ≡ number Lsn r → pairs ≡ 16 * bit_and n 0x0F0F0F0F0F0F0F0F + bit_and (n / 16) 0x0F0F0F0F0F0F0F0F →
    from_be_bytes w64 (to_le_bytes w64 pairs) ≡ number Msn r
turned_is r l h n pairs e p =
    let f : ℕ → ℕ = λ i. get_or r i 0 in
    let k : firsts 16 f ≡ r = ap (λ n. firsts n f) (sym l) ∙ all_firsts r in
    turned_firsts f h n pairs (e ∙ ap (number Lsn) (sym k)) p ∙ ap (number Msn) k
