-- Packets that eight bytes begin with, and their payloads as words.
use Rattle.std.proofs.Common.{◌≡◌, ℕ, zero, suc, ◌+◌, ◌*◌, ◌/◌, ◌%◌, ◌^◌, ◌<◌, ◌≤◌, ◌⊎◌, inl, inr, List, [], ◌∷◌, length, take, drop, get_or, slice_index, bit_and, Bool, true, false, refl, ◌∙◌, ap, subst, arith}
use Rattle.std.specs.Prelude.{◌==◌}
use Rattle.std.specs.Int.Bits.{and_zero_r}
use Rattle.std.proofs.lemmas.Bool.Decides.{nat_tests}
use Rattle.std.proofs.lemmas.List.{length-take, length-take-le}
use Rattle.std.proofs.lemmas.Nat.{and_block, and_mask}
use Rattle.itm_codec.specs.Names.{Spells, IsExtended, groups, extended, more_bit, number, bit_of}
use Rattle.itm_codec.specs.declared.whole.TheConstants.{VALUES}
use Rattle.itm_codec.specs.declared.whole.InWindow.{InWindow}
use Rattle.itm_codec.specs.declared.whole.InWindow.TheVariants.{Packet, Other}
use Rattle.itm_codec.specs.Windows.{IsFound, four_bytes}
use Rattle.itm_codec.proofs.Waiting.{take_take}

-- what is found in the first bytes is found in all of them
pub found_in : (n : ℕ) (window front : List ℕ) (found : InWindow) → n ≤ length window → front ≡ take n window → IsFound front found → IsFound window found
found_in n window front (Packet bytes packet) h e f =
    let few : bytes ≤ n = (let k : length front ≡ n = ap length e ∙ length-take-le n window h in let m = f.1 in omega (arith, k, m)) in
    (f.0, omega arith, subst (λ (l : List ℕ). Spells packet l) (ap (take bytes) e ∙ take_take bytes n window few h) f.2, f.3)
found_in n window front Other h e f = tt

first_five : (window : List ℕ) (header payload : ℕ) → length window ≡ 8 → header ≡ slice_index window 0 → four_bytes payload ≡ take 4 (drop 1 window) →
    header ∷ four_bytes payload ≡ take 5 window
first_five [] header payload l h e = absurd (omega arith)
first_five (b ∷ window) header payload l h e = ap (λ (x : ℕ). x ∷ four_bytes payload) h ∙ ap (λ (r : List ℕ). b ∷ r) e

pub found_front : (window : List ℕ) (header payload : ℕ) (found : InWindow) → length window ≡ 8 → header ≡ slice_index window 0 → four_bytes payload ≡ take 4 (drop 1 window) →
    IsFound (header ∷ four_bytes payload) found → IsFound window found
found_front window header payload found l h e f = found_in 5 window (header ∷ four_bytes payload) found (omega arith) (first_five window header payload l h e) f

pub one_more : (n header : ℕ) (l : List ℕ) → take (1 + n) (header ∷ l) ≡ header ∷ take n l
one_more n header l = ap (λ (k : ℕ). take k (header ∷ l)) (let e : 1 + n ≡ suc n = omega arith in e)

-- the tables by the code of a size
pub value_is : (payload code : ℕ) → 0 < code → code < 4 → bit_and payload (get_or VALUES.now code 0) ≡ payload % 256 ^ (code + code / 3)
value_is payload zero h l = absurd (omega arith)
value_is payload (suc zero) h l = and_mask payload 8
value_is payload (suc (suc zero)) h l = and_mask payload 16
value_is payload (suc (suc (suc zero))) h l = and_mask payload 32
value_is payload (suc (suc (suc (suc code)))) h l = absurd (omega arith)

-- seven bits of a word, where they are
block : (word high low k : ℕ) → word ≡ high * 2 ^ k + low → low < 2 ^ k → bit_and word (127 * 2 ^ k + 0) ≡ high % 128 * 2 ^ k
block word high low k e h =
    ap (λ (x : ℕ). bit_and x (127 * 2 ^ k + 0)) e ∙ and_block k high 127 low 0 h (omega arith)
    ∙ ap (λ (x : ℕ). x * 2 ^ k + bit_and low 0) (and_mask high 7) ∙ ap (λ (x : ℕ). high % 128 * 2 ^ k + x) (and_zero_r low) ∙ omega arith

pub seven_bits : (word : ℕ) → bit_and word 127 + bit_and (word / 2) 16256 + bit_and (word / 4) 2080768 + bit_and (word / 8) 266338304 ≡ groups (four_bytes word)
seven_bits word =
    let a = and_mask word 7 in
    let b = block (word / 2) (word / 2 / 128) (word / 2 % 128) 7 (omega arith) (omega arith) in
    let c = block (word / 4) (word / 4 / 16384) (word / 4 % 16384) 14 (omega arith) (omega arith) in
    let d = block (word / 8) (word / 8 / 2097152) (word / 8 % 2097152) 21 (omega arith) (omega arith) in
    omega (arith, a, b, c, d)

-- numbers of groups, by how many these are
pub under : (n v k : ℕ) → n ≡ k → v < 128 ^ n → v < 128 ^ k
under n v k e h = subst (λ (m : ℕ). v < 128 ^ m) e h

pub sizes : (n : ℕ) → 0 < n → n ≤ 4 → (n ≡ 1) ⊎ ((n ≡ 2) ⊎ ((n ≡ 3) ⊎ (n ≡ 4)))
sizes n h l = grind arith

pub small : (n v : ℕ) → 0 < n → n ≤ 4 → v < 128 ^ n → v < 268435456
small n v h l f = elim (sizes n h l) [
  | inl e ↦ (let k : v < 128 = under n v 1 e f in omega arith)
  | inr m ↦ elim m [
    | inl e ↦ (let k : v < 16384 = under n v 2 e f in omega arith)
    | inr o ↦ elim o [
      | inl e ↦ (let k : v < 2097152 = under n v 3 e f in omega arith)
      | inr e ↦ (let k : v < 268435456 = under n v 4 e f in k)
    ]
  ]
]

-- four at most
pub four_at_most : (l : List ℕ) → length (take 4 l) ≤ 4
four_at_most l = (let e = length-take 4 l in omega (arith, e))

-- bytes of a list of them
pub bytes_front : (n : ℕ) (l : List ℕ) → ((i : ℕ) → get_or l i 0 < 256) → (i : ℕ) → get_or (take n l) i 0 < 256
bytes_front zero l s i = omega arith
bytes_front (suc n) [] s i = omega arith
bytes_front (suc n) (b ∷ l) s zero = s 0
bytes_front (suc n) (b ∷ l) s (suc i) = bytes_front n l (λ k. s (suc k)) i

pub bytes_behind : (l : List ℕ) → ((i : ℕ) → get_or l i 0 < 256) → (i : ℕ) → get_or (drop 1 l) i 0 < 256
bytes_behind [] s i = omega arith
bytes_behind (b ∷ l) s i = s (suc i)

-- the groups of at most four bytes, as a number has them
pub number_groups : (p : List ℕ) → length p ≤ 4 → ((i : ℕ) → get_or p i 0 < 256) → groups (four_bytes (number p)) ≡ groups p
number_groups [] h s = refl
number_groups (a ∷ []) h s = (let a0 = s 0 in omega (arith, a0))
number_groups (a ∷ (b ∷ [])) h s = (let a0 = s 0 in let b0 = s 1 in omega (arith, a0, b0))
number_groups (a ∷ (b ∷ (c ∷ []))) h s = (let a0 = s 0 in let b0 = s 1 in let c0 = s 2 in omega (arith, a0, b0, c0))
number_groups (a ∷ (b ∷ (c ∷ (d ∷ [])))) h s = (let a0 = s 0 in let b0 = s 1 in let c0 = s 2 in let d0 = s 3 in omega (arith, a0, b0, c0, d0))
number_groups (a ∷ (b ∷ (c ∷ (d ∷ (e ∷ p))))) h s = absurd (omega (arith, h))

-- those of an extension packet, whose fourth byte has eight bits
pub number_extended : (p : List ℕ) → length p ≤ 4 → ((i : ℕ) → get_or p i 0 < 256) → IsExtended p →
    (groups (four_bytes (number p)) + 268435456 * (number p / 2147483648) ≡ extended p) × (extended p < 536870912)
number_extended [] h s x = (refl, omega arith)
number_extended (a ∷ []) h s x = (let a0 = s 0 in (omega (arith, a0), omega arith))
number_extended (a ∷ (b ∷ [])) h s x = (let a0 = s 0 in let b0 = s 1 in (omega (arith, a0, b0), omega arith))
number_extended (a ∷ (b ∷ (c ∷ []))) h s x = (let a0 = s 0 in let b0 = s 1 in let c0 = s 2 in (omega (arith, a0, b0, c0), omega arith))
number_extended (a ∷ (b ∷ (c ∷ (d ∷ [])))) h s x =
    (let a0 = s 0 in let b0 = s 1 in let c0 = s 2 in let d0 = s 3 in (omega (arith, a0, b0, c0, d0), omega (arith, d0)))
number_extended (a ∷ (b ∷ (c ∷ (d ∷ (e ∷ p))))) h s x = absurd (omega (arith, h))

-- and how great they are
pub groups_fit : (p : List ℕ) → groups p < 128 ^ length p
groups_fit [] = omega arith
groups_fit (b ∷ p) =
    let k = groups_fit p in
    let e : 128 ^ suc (length p) ≡ 128 * 128 ^ length p = omega arith in omega (arith, k, e)

pub groups_few : (p : List ℕ) → length p ≤ 4 → groups p < 268435456
groups_few p h = up (length p) h (groups_fit p) where
  up : (n : ℕ) → n ≤ 4 → groups p < 128 ^ n → groups p < 268435456
  up zero h k = omega (arith, k)
  up (suc n) h k = small (suc n) (groups p) (omega arith) h k

-- a bit as a number
by_bit : (m : ℕ) (t : Bool) → (m == 1) ≡ t → m < 2 → bit_of t ≡ m
by_bit m true e h = grind (arith, nat_tests)
by_bit m false e h = grind (arith, nat_tests)

pub bit_is : (m : ℕ) → bit_of (m % 2 == 1) ≡ m % 2
bit_is m = by_bit (m % 2) (m % 2 == 1) refl (omega arith)

-- the header of an extension packet with a payload
pub header_with : (header : ℕ) (p : List ℕ) (dwt : ℕ) → 0 < length p → (128 ≤ header) × (header % 4 ≡ 0) × (header / 8 % 2 ≡ 1) → header < 256 → dwt ≡ header / 4 % 2 →
    header ≡ 128 * more_bit p + 16 * (header / 16 % 8) + 4 * dwt + 8
header_with header [] dwt l k s e = absurd (omega arith)
header_with header (b ∷ p) dwt l k s e = (let a = k.0 in let m = k.1 in let o = k.2 in omega (arith, a, m, o, s, e))
