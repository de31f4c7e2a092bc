-- Numbers as sums of their digits, in any base.
use Rattle.std.proofs.Common.{◌≡◌, ℕ, zero, suc, ◌+◌, ◌-◌, ◌*◌, ◌/◌, ◌%◌, ◌^◌, ◌<◌, ◌≤◌, inl, inr, sym, ◌∙◌, ap, subst, arith}
use Rattle.std.specs.Int.{sum_through}
use Rattle.std.proofs.Math.Nat.{add-mul-div_right, add-mul-mod_self_right, pow-zero, pow-suc, mul_assoc, mul_comm, zero-mul, div-eq_of_lt, mod-eq_of_lt}
use Rattle.std.proofs.Math.Arith.{mod-mul}
use Rattle.std.proofs.lemmas.Bool.{cases_eq}
use Rattle.std.proofs.lemmas.Nat.{pow-add, mul-le}

-- the number that has these digits from 0 to n
abbrev pub number : ℕ → (ℕ → ℕ) → ℕ → ℕ
number base f n = sum_through (λ k. f k * base ^ k) n

-- digit k of a number
abbrev pub digit : ℕ → ℕ → ℕ → ℕ
digit base v k = v / base ^ k % base

-- digits that are the same make the same number
pub number_same : (base : ℕ) (f g : ℕ → ℕ) (n : ℕ) → ((k : ℕ) → k ≤ n → f k ≡ g k) → number base f n ≡ number base g n
number_same base f g zero same = ap (λ x. x * base ^ 0) (same 0 (omega arith))
number_same base f g (suc n) same =
    let rest : number base f n ≡ number base g n = number_same base f g n (λ k h. same k (omega arith)) in
    let top : f (suc n) * base ^ suc n ≡ g (suc n) * base ^ suc n = ap (λ x. x * base ^ suc n) (same (suc n) (omega arith)) in
    omega (arith, rest, top)

module _ (base : ℕ) (some : 0 < base) where
  first : base ^ 1 ≡ base
  first = let m : base ^ 0 * base ≡ 1 * base = ap (λ x. x * base) (pow-zero base) in omega (arith, m, pow-suc base 0)

  units : (x : ℕ) → x * base ^ 0 ≡ x
  units x = let m : x * base ^ 0 ≡ x * 1 = ap (λ y. x * y) (pow-zero base) in omega (arith, m)

  power : (k : ℕ) → 0 < base ^ k
  power zero = omega (arith, pow-zero base)
  power (suc k) =
      let p = power k in
      let m : 1 * 1 ≤ base ^ k * base = mul-le 1 1 (base ^ k) base (omega (arith, p)) (omega (arith, some)) in
      omega (arith, m, pow-suc base k)

  -- what is added above the lowest k digits stays when these are cleared
  above : (low top k n : ℕ) → k ≤ n → (low + top * base ^ n) / base ^ k * base ^ k ≡ low / base ^ k * base ^ k + top * base ^ n
  above low top k n h =
      let e : n ≡ (n - k) + k = omega arith in
      let p : base ^ n ≡ base ^ (n - k) * base ^ k = ap (λ j. base ^ j) e ∙ pow-add base (n - k) k in
      let m : top * base ^ n ≡ top * base ^ (n - k) * base ^ k = ap (λ x. top * x) p ∙ sym (mul_assoc top (base ^ (n - k)) (base ^ k)) in
      let q : (low + top * base ^ (n - k) * base ^ k) / base ^ k ≡ low / base ^ k + top * base ^ (n - k) = add-mul-div_right low (top * base ^ (n - k)) (power k) in
      ap (λ x. (low + x) / base ^ k * base ^ k) m ∙ ap (λ x. x * base ^ k) q ∙ omega (arith, m)

  -- n + 1 digits make a number below base ^ (n + 1)
  pub number_lt : (f : ℕ → ℕ) (n : ℕ) → ((k : ℕ) → f k < base) → number base f n < base ^ suc n
  number_lt f zero digits =
      let d = digits 0 in
      omega (arith, d, first, units (f 0))
  number_lt f (suc n) digits =
      let rest : number base f n < base ^ suc n = number_lt f n digits in
      let d : f (suc n) < base = digits (suc n) in
      let top : suc (f (suc n)) * base ^ suc n ≤ base * base ^ suc n = mul-le (suc (f (suc n))) (base ^ suc n) base (base ^ suc n) d (omega arith) in
      omega (arith, rest, top, pow-suc base (suc n))

  -- the digits of a number make it
  number_mod : (v n : ℕ) → number base (digit base v) n ≡ v % base ^ suc n
  number_mod v zero =
      let one : v / base ^ 0 ≡ v = ap (λ x. v / x) (pow-zero base) ∙ (let e : v / 1 ≡ v = omega arith in e) in
      units (digit base v 0) ∙ ap (λ x. x % base) one ∙ ap (λ x. v % x) (sym first)
  number_mod v (suc n) =
      let rest : number base (digit base v) n ≡ v % base ^ suc n = number_mod v n in
      let p : base ^ suc (suc n) ≡ base * base ^ suc n = omega (arith, pow-suc base (suc n)) in
      let m : v % base ^ suc (suc n) ≡ digit base v (suc n) * base ^ suc n + v % base ^ suc n = ap (λ x. v % x) p ∙ mod-mul v some (power (suc n)) in
      omega (arith, rest, m)

  pub number_of_digits : (v n : ℕ) → v < base ^ suc n → number base (digit base v) n ≡ v
  number_of_digits v n h = number_mod v n ∙ mod-eq_of_lt h

  -- a number made of digits has these
  pub digit_of_number : (f : ℕ → ℕ) (n i : ℕ) → ((k : ℕ) → f k < base) → i ≤ n → digit base (number base f n) i ≡ f i
  digit_of_number f zero i digits h =
      let e : zero ≡ i = omega arith in
      subst (λ (k : ℕ). digit base (number base f zero) k ≡ f k) e (by (f 0) (digits 0))
    where
      by : (x : ℕ) → x < base → x * base ^ 0 / base ^ 0 % base ≡ x
      by x l =
          let e : x * base ^ 0 / base ^ 0 ≡ x = ap (λ y. y / base ^ 0) (units x) ∙ ap (λ y. x / y) (pow-zero base) ∙ (let o : x / 1 ≡ x = omega arith in o) in
          ap (λ y. y % base) e ∙ mod-eq_of_lt l
  digit_of_number f (suc n) i digits h = elim (cases_eq i (suc n)) [
    | inl e ↦ subst (λ (k : ℕ). digit base (number base f (suc n)) k ≡ f k) (sym e) top
    | inr d ↦ low (omega arith) ∙ digit_of_number f n i digits (omega arith)
  ] where
    top : digit base (number base f (suc n)) (suc n) ≡ f (suc n)
    top =
        let q : (number base f n + f (suc n) * base ^ suc n) / base ^ suc n ≡ number base f n / base ^ suc n + f (suc n) = add-mul-div_right (number base f n) (f (suc n)) (power (suc n)) in
        let z : number base f n / base ^ suc n ≡ 0 = div-eq_of_lt (number_lt f n digits) in
        let e : (number base f n + f (suc n) * base ^ suc n) / base ^ suc n ≡ f (suc n) = omega (arith, q, z) in
        ap (λ x. x % base) e ∙ mod-eq_of_lt (digits (suc n))

    low : i ≤ n → digit base (number base f (suc n)) i ≡ digit base (number base f n) i
    low l =
        let e : suc n ≡ (n - i) + suc i = omega arith in
        let p : base ^ suc n ≡ base ^ (n - i) * base ^ suc i = ap (λ j. base ^ j) e ∙ pow-add base (n - i) (suc i) in
        let s : base ^ (n - i) * base ^ suc i ≡ base ^ (n - i) * base * base ^ i =
        ap (λ x. base ^ (n - i) * x) (pow-suc base i ∙ mul_comm (base ^ i) base) ∙ sym (mul_assoc (base ^ (n - i)) base (base ^ i)) in
        let m : f (suc n) * base ^ suc n ≡ f (suc n) * (base ^ (n - i) * base) * base ^ i = ap (λ x. f (suc n) * x) (p ∙ s) ∙ sym (mul_assoc (f (suc n)) (base ^ (n - i) * base) (base ^ i)) in
        let q : (number base f n + f (suc n) * (base ^ (n - i) * base) * base ^ i) / base ^ i ≡ number base f n / base ^ i + f (suc n) * (base ^ (n - i) * base) =
        add-mul-div_right (number base f n) (f (suc n) * (base ^ (n - i) * base)) (power i) in
        let r : number base f n / base ^ i + f (suc n) * (base ^ (n - i) * base) ≡ number base f n / base ^ i + f (suc n) * base ^ (n - i) * base =
        ap (λ x. number base f n / base ^ i + x) (sym (mul_assoc (f (suc n)) (base ^ (n - i)) base)) in
        ap (λ x. (number base f n + x) / base ^ i % base) m ∙ ap (λ x. x % base) (q ∙ r) ∙ add-mul-mod_self_right (number base f n / base ^ i) (f (suc n) * base ^ (n - i)) base

  -- where only the digits from 0 to j are there, those of the other number are left
  unreplaced : (f g : ℕ → ℕ) (j : ℕ) → ((k : ℕ) → f k < base) → number base g j ≡ number base f j / base ^ suc j * base ^ suc j + number base g j
  unreplaced f g j digits =
      let z : number base f j / base ^ suc j ≡ 0 = div-eq_of_lt (number_lt f j digits) in
      let m : number base f j / base ^ suc j * base ^ suc j ≡ 0 = ap (λ q. q * base ^ suc j) z ∙ zero-mul (base ^ suc j) in
      omega (arith, m)

  -- the digits from 0 to j of a number replaced by those of another
  pub number_replaced : (f g : ℕ → ℕ) (j n : ℕ) → j ≤ n → ((k : ℕ) → f k < base) → ((k : ℕ) → j < k → g k ≡ f k) →
      number base g n ≡ number base f n / base ^ suc j * base ^ suc j + number base g j
  number_replaced f g j zero h digits same =
      let e : zero ≡ j = omega arith in
      subst (λ (k : ℕ). number base g zero ≡ number base f zero / base ^ suc k * base ^ suc k + number base g k) e (unreplaced f g zero digits)
  number_replaced f g j (suc n) h digits same = elim (cases_eq j (suc n)) [
    | inl e ↦ subst (λ (k : ℕ). number base g (suc n) ≡ number base f (suc n) / base ^ suc k * base ^ suc k + number base g k) (sym e) (unreplaced f g (suc n) digits)
    | inr d ↦
        let rest : number base g n ≡ number base f n / base ^ suc j * base ^ suc j + number base g j = number_replaced f g j n (omega arith) digits same in
        let top : g (suc n) * base ^ suc n ≡ f (suc n) * base ^ suc n = ap (λ x. x * base ^ suc n) (same (suc n) (omega arith)) in
        let kept : (number base f n + f (suc n) * base ^ suc n) / base ^ suc j * base ^ suc j ≡ number base f n / base ^ suc j * base ^ suc j + f (suc n) * base ^ suc n =
        above (number base f n) (f (suc n)) (suc j) (suc n) (omega arith) in
        omega (arith, rest, top, kept)
  ]
