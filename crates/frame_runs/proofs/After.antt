-- The ID after a frame: that of the last pair that names one.
use Rattle.std.proofs.Common.{◌≡◌, ◌≢◌, ℕ, zero, suc, ◌+◌, ◌-◌, ◌*◌, ◌/◌, ◌%◌, ◌^◌, ◌<◌, ◌≤◌, List, refl, sym, ◌∙◌, ap, subst, arith, Bool, true, false, cond, bit_or, ◌&&◌, ◌||◌, ⊎_elim, Option}
use Rattle.std.specs.Prelude.{slice_index, nat_lt, ◌==◌}
use Rattle.std.specs.Int.{w64, leading_zeros}
use Rattle.std.specs.Int.Count.{count_leading_zeros}
use Rattle.std.proofs.lemmas.Bool.Decides.{nat_tests}
use Rattle.std.proofs.lemmas.Bool.{agree_below, agree_below_at, and_parts, cases_lt, true≢false}
use Rattle.trace_values.specs.Cells.{source_id}
use Rattle.frame_grammar.specs.Frame.{aux_bit, id_after, id_below, in_effect, names}
use Rattle.frame_runs.proofs.Ends.{each_bit, named_in}

-- the highest place of a number with its bit 0 set
abbrev pub top_of : ℕ → ℕ
top_of n = 63 - leading_zeros w64 (bit_or n 1)

-- no bit is above it, and its own is 1, or none is
few_zeros : ℕ → Bool
few_zeros n = nat_lt (leading_zeros w64 (bit_or n 1)) 64

is_low : ℕ → Bool
is_low n = nat_lt (top_of n) 8

is_own : ℕ → Bool
is_own n = n / 2 ^ top_of n % 2 == 1 || top_of n == 0

is_above : ℕ → ℕ → Bool
is_above n k = n / 2 ^ k % 2 == 1 && nat_lt (top_of n) k

never : ℕ → Bool
never k = false

top_at : ℕ → Bool
top_at n = few_zeros n && (is_low n && (is_own n && agree_below (is_above n) never 8))

tops : (n : ℕ) → n < 256 → top_at n ≡ true
unfolding top_at few_zeros is_low is_own is_above never count_leading_zeros
tops n l = agree_below_at top_at (λ (k : ℕ). true) 256 n refl l

pub record IsTop (n : ℕ) : Type 0 where
  pub zeros : leading_zeros w64 (bit_or n 1) < 64
  pub low : top_of n < 8
  pub own : (n / 2 ^ top_of n % 2 == 1 || top_of n == 0) ≡ true
  pub above : (k : ℕ) → k < 8 → top_of n < k → (n / 2 ^ k % 2 == 1) ≡ false

zeros_are : (n : ℕ) → few_zeros n ≡ true → leading_zeros w64 (bit_or n 1) < 64
unfolding few_zeros
zeros_are n h = grind (arith, nat_tests)

low_is : (n : ℕ) → is_low n ≡ true → top_of n < 8
unfolding is_low
low_is n h = grind (arith, nat_tests)

own_is : (n : ℕ) → is_own n ≡ true → (n / 2 ^ top_of n % 2 == 1 || top_of n == 0) ≡ true
unfolding is_own
own_is n h = h

not_both : (a b : Bool) → b ≡ true → (a && b) ≡ false → a ≡ false
not_both true true e h = h
not_both false b e h = refl
not_both true false e h = absurd (true≢false (sym e))

above_is : (n k : ℕ) → top_of n < k → is_above n k ≡ never k → (n / 2 ^ k % 2 == 1) ≡ false
unfolding is_above never
above_is n k up h = not_both (n / 2 ^ k % 2 == 1) (nat_lt (top_of n) k) (let e : nat_lt (top_of n) k ≡ true = grind (arith, nat_tests) in e) h

pub top_is : (n : ℕ) → n < 256 → IsTop n
unfolding top_at
top_is n l =
    let a = and_parts (few_zeros n) (is_low n && (is_own n && agree_below (is_above n) never 8)) (tops n l) in
    let b = and_parts (is_low n) (is_own n && agree_below (is_above n) never 8) a.1 in
    let c = and_parts (is_own n) (agree_below (is_above n) never 8) b.1 in
    record {
      zeros = zeros_are n a.0;
      low = low_is n b.0;
      own = own_is n c.0;
      above = λ k h up. above_is n k up (agree_below_at (is_above n) never 8 k c.1 h);
    }

pub named_low : (frame : List ℕ) (n : ℕ) → n ≡ named_in frame → n < 256
named_low frame n e = omega (arith, e)

-- at the end of a frame each ID that it names is in effect
in_effect_last : (frame : List ℕ) (k : ℕ) → k < 8 → in_effect frame 16 k ≡ names frame k
in_effect_last frame k l =
    ap (λ (t : Bool). names frame k && t && (aux_bit frame k == 0 || nat_lt (2 * k + 1) 16)) (let e : nat_lt (2 * k) 16 ≡ true = grind (arith, nat_tests) in e)
    ∙ ap (λ (t : Bool). names frame k && true && (aux_bit frame k == 0 || t)) (let e : nat_lt (2 * k + 1) 16 ≡ true = grind (arith, nat_tests) in e)
    ∙ alone (names frame k) (aux_bit frame k == 0) where
      alone : (b c : Bool) → (b && true && (c || true)) ≡ b
      alone true true = refl
      alone true false = refl
      alone false true = refl
      alone false false = refl

module _ (frame : List ℕ) (id : Option ℕ) where
  step : (k : ℕ) (t : Bool) → k < 8 → names frame k ≡ t →
      id_below frame id 16 (suc k) ≡ cond t (source_id (slice_index frame (2 * k) / 2)) (id_below frame id 16 k)
  step k t l e = ap (λ (b : Bool). cond b (source_id (slice_index frame (2 * k) / 2)) (id_below frame id 16 k)) (in_effect_last frame k l ∙ e)

  none_below : (n : ℕ) → n ≤ 8 → ((k : ℕ) → k < n → names frame k ≡ false) → id_below frame id 16 n ≡ id
  none_below zero l h = refl
  none_below (suc n) l h =
      step n false (omega (arith, l)) (h n (omega arith)) ∙ none_below n (omega (arith, l)) (λ k m. h k (omega (arith, m)))

  last_below : (n q : ℕ) → n ≤ 8 → q < n → names frame q ≡ true → ((k : ℕ) → k < n → q < k → names frame k ≡ false) →
      id_below frame id 16 n ≡ source_id (slice_index frame (2 * q) / 2)
  last_below zero q l m e h = absurd (omega (arith, m))
  last_below (suc n) q l m e h =
      ⊎_elim (λ less. step n false (omega (arith, l)) (h n (omega arith) less) ∙ last_below n q (omega (arith, l)) less e (λ k i. h k (omega (arith, i))))
      (λ same. let is : q ≡ n = omega (arith, m, same) in
      step n true (omega (arith, l)) (subst (λ (k : ℕ). names frame k ≡ true) is e)
      ∙ ap (λ (k : ℕ). source_id (slice_index frame (2 * k) / 2)) (sym is)) (cases_lt q n)

  above_top : (n : ℕ) → n ≡ named_in frame → IsTop n → (k : ℕ) → k < 8 → top_of n < k → names frame k ≡ false
  above_top n e top k l h = ap (λ (x : ℕ). x == 1) (sym (each_bit frame n k e l)) ∙ top.above k l h

  -- the last pair that names a source
  pub after_named : (n : ℕ) → n ≡ named_in frame → IsTop n → slice_index frame (2 * top_of n) % 2 ≡ 1 →
      source_id (slice_index frame (2 * top_of n) / 2) ≡ id_after frame id
  after_named n e top h =
      sym (last_below 8 (top_of n) (omega arith) top.low (ap (λ (x : ℕ). x == 1) h) (λ k l m. above_top n e top k l m))

  -- none does
  pub after_none : (n : ℕ) → n ≡ named_in frame → IsTop n → slice_index frame (2 * top_of n) % 2 ≢ 1 → id ≡ id_after frame id
  after_none n e top h =
      let even : (n / 2 ^ top_of n % 2 == 1) ≡ false = (let b = each_bit frame n (top_of n) e top.low in grind (arith, nat_tests)) in
      let none : top_of n ≡ 0 = at_zero (n / 2 ^ top_of n % 2 == 1) even top.own in
      sym (none_below 8 (omega arith) (λ k l. ⊎_elim (λ up. above_top n e top k l (omega (arith, none, up)))
      (λ here. (let is : k ≡ top_of n = omega (arith, none, here) in ap (names frame) is ∙ ap (λ (x : ℕ). x == 1) (sym (each_bit frame n (top_of n) e top.low)) ∙ even)) (cases_lt 0 k))) where
        at_zero : (b : Bool) → b ≡ false → (b || top_of n == 0) ≡ true → top_of n ≡ 0
        at_zero true e h = absurd cc
        at_zero false e h = grind (arith, nat_tests)
