-- The ones at the ends of a byte.
use Rattle.std.proofs.Common.{◌≡◌, ◌≢◌, ℕ, zero, suc, ◌+◌, ◌-◌, ◌/◌, ◌%◌, ◌^◌, ◌<◌, ◌≤◌, ◌∷◌, ◌++◌, Bool, true, false, cond, nat_lt, refl, sym, ◌∙◌, ap, subst, inl, inr, arith}
use Rattle.std.specs.Prelude.{◌==◌, ◌&&◌, ◌||◌}
use Rattle.std.specs.Int.{w8, trailing_ones, leading_ones}
use Rattle.std.proofs.lemmas.Bool.{eqb-true, ltb-true, cases_lt, and_parts}
use lib.Count.{count_trailing_zeros, count_leading_zeros}
use Rattle.port_slip.specs.Bits.{bits, ones}
use Rattle.port_slip.specs.Runs.{run_after}
use Rattle.port_slip.proofs.Bits.{halved}

-- the ones from bit 0 up
low_ones : ℕ → ℕ → ℕ
low_ones zero b = 0
low_ones (suc n) b = cond (b % 2 == 1) (suc (low_ones n (b / 2))) 0

abbrev Parts : ℕ → ℕ → ℕ → Type 0
Parts n b e = e < n → bits n b ≡ ones e ++ (false ∷ bits (n - suc e) (b / 2 ^ suc e))

parts : (n b : ℕ) → Parts n b (low_ones n b)
unfolding low_ones bits ones
parts zero b h = absurd (omega arith)
parts (suc n) b h = by (b % 2 == 1) refl (parts n (b / 2)) h where
  by : (t : Bool) → (b % 2 == 1) ≡ t → Parts n (b / 2) (low_ones n (b / 2)) → Parts (suc n) b (cond (b % 2 == 1) (suc (low_ones n (b / 2))) 0)
  by true e i = subst (λ (x : Bool). Parts (suc n) b (cond x (suc (low_ones n (b / 2))) 0)) (sym e) (λ h.
      let k = low_ones n (b / 2) in
      let m : n - suc k ≡ suc n - suc (suc k) = omega arith in
      ap (λ x. x ∷ bits n (b / 2)) e ∙ ap (λ l. true ∷ l) (i (omega (arith, h)) ∙ ap (λ x. ones k ++ (false ∷ bits (n - suc k) x)) (sym (halved b (suc k)))
      ∙ ap (λ x. ones k ++ (false ∷ bits x (b / 2 ^ suc (suc k)))) m))
  by false e i = subst (λ (x : Bool). Parts (suc n) b (cond x (suc (low_ones n (b / 2))) 0)) (sym e) (λ h.
      let m : n ≡ suc n - 1 = omega arith in
      let q : b / 2 ≡ b / 2 ^ 1 = refl in
      ap (λ x. x ∷ bits n (b / 2)) e ∙ ap (λ x. false ∷ bits x (b / 2)) m)

-- a test that holds for all numbers below n
all : ℕ → (ℕ → Bool) → Bool
all zero f = true
all (suc n) f = f n && all n f

one : (n : ℕ) (f : ℕ → Bool) → all n f ≡ true → (b : ℕ) → b < n → f b ≡ true
unfolding all
one zero f h b l = absurd (omega arith)
one (suc n) f h b l = elim (cases_lt b n) [
  | inl k ↦ one n f (and_parts (f n) (all n f) h).1 b k
  | inr k ↦ ap f (let e : b ≡ n = omega (arith, k, l) in e) ∙ (and_parts (f n) (all n f) h).0
]

first_test : ℕ → Bool
first_test b = (trailing_ones w8 b == low_ones 8 b) && (b == 255 || nat_lt (trailing_ones w8 b) 8)

last_test : ℕ → Bool
last_test b = (b == 255) || ((leading_ones w8 b == run_after 0 (bits 8 b)) && nat_lt (leading_ones w8 b) 8)

first_all : all 256 first_test ≡ true
unfolding all first_test low_ones count_trailing_zeros
first_all = refl

last_all : all 256 last_test ≡ true
unfolding all last_test bits count_leading_zeros
last_all = refl

other : (b : ℕ) (x : Bool) → b ≢ 255 → (b == 255 || x) ≡ true → x ≡ true
other b x n h = by (b == 255) refl h where
  by : (t : Bool) → (b == 255) ≡ t → (t || x) ≡ true → x ≡ true
  by true e k = absurd (n (eqb-true b 255 e))
  by false e k = k

pub first_parts : (b : ℕ) → b < 256 → b ≢ 255 →
    (trailing_ones w8 b ≤ 7) × (bits 8 b ≡ ones (trailing_ones w8 b) ++ (false ∷ bits (7 - trailing_ones w8 b) (b / 2 ^ (trailing_ones w8 b + 1))))
unfolding first_test
first_parts b h n =
    let t = and_parts (trailing_ones w8 b == low_ones 8 b) (b == 255 || nat_lt (trailing_ones w8 b) 8) (one 256 first_test first_all b h) in
    let same : trailing_ones w8 b ≡ low_ones 8 b = eqb-true (trailing_ones w8 b) (low_ones 8 b) t.0 in
    let few : trailing_ones w8 b < 8 = ltb-true (trailing_ones w8 b) 8 (other b (nat_lt (trailing_ones w8 b) 8) n t.1) in
    let k : suc (trailing_ones w8 b) ≡ trailing_ones w8 b + 1 = omega arith in
    let m : 8 - suc (trailing_ones w8 b) ≡ 7 - trailing_ones w8 b = omega arith in (
      omega (arith, few),
      (subst (λ (e : ℕ). Parts 8 b e) (sym same) (parts 8 b)) few
          ∙ ap (λ x. ones (trailing_ones w8 b) ++ (false ∷ bits x (b / 2 ^ suc (trailing_ones w8 b)))) m
          ∙ ap (λ x. ones (trailing_ones w8 b) ++ (false ∷ bits (7 - trailing_ones w8 b) (b / 2 ^ x))) k,
    )

pub last_run : (b : ℕ) → b < 256 → b ≢ 255 → (leading_ones w8 b ≤ 7) × (run_after 0 (bits 8 b) ≡ leading_ones w8 b)
unfolding last_test
last_run b h n =
    let t = and_parts (leading_ones w8 b == run_after 0 (bits 8 b)) (nat_lt (leading_ones w8 b) 8) (other b ((leading_ones w8 b == run_after 0 (bits 8 b)) && nat_lt (leading_ones w8 b) 8) n (one 256 last_test last_all b h)) in
    let few : leading_ones w8 b < 8 = ltb-true (leading_ones w8 b) 8 t.1 in
    (omega (arith, few), sym (eqb-true (leading_ones w8 b) (run_after 0 (bits 8 b)) t.0))
