-- The pairs of a frame at which a run ends, one after the other.
use Rattle.std.proofs.Common.{◌≡◌, ◌≢◌, ℕ, zero, suc, ◌+◌, ◌-◌, ◌*◌, ◌/◌, ◌%◌, ◌^◌, ◌<◌, ◌≤◌, List, [], ◌∷◌, refl, sym, ◌∙◌, ap, ap₂, subst, arith, Bool, true, false, cond, bit_and, ◌&&◌, ◌||◌, ⊎_elim}
use Rattle.std.specs.Prelude.{slice_index, ◌==◌}
use Rattle.std.specs.Int.{w64, trailing_zeros}
use Rattle.std.specs.Int.Count.{count_trailing_zeros}
use Rattle.std.specs.List.{filter, range_with_len}
use Rattle.std.proofs.lemmas.Bool.Decides.{nat_tests}
use Rattle.std.proofs.lemmas.Bool.{agree_below_at, and_parts, cases_Bool, cases_lt, eqb-true, true≢false, or_right}
use Rattle.frame_grammar.specs.Frame.{names}
use Rattle.frame_runs.specs.Data.{first_bytes, last_bytes}
use Rattle.frame_runs.specs.Pairs.{bits_of_half, end_at, ends_from, is_end, places}

-- two tests that agree from a on keep the same
same_kept : (f g : ℕ → Bool) (a n : ℕ) → ((k : ℕ) → k < a + n → f k ≡ g k) →
    filter f (range_with_len a n) ≡ filter g (range_with_len a n)
same_kept f g a zero h = refl
same_kept f g a (suc n) h =
    ap₂ (λ (b : Bool) (xs : List ℕ). cond b (a ∷ xs) xs) (h a (omega arith)) (same_kept f g (a + 1) n (λ k l. h k (omega (arith, l))))

-- each bit of the numbers that are gathered
abbrev pub named_in : List ℕ → ℕ
named_in frame = bits_of_half (first_bytes frame) + bits_of_half (last_bytes frame) * 16

pub each_bit : (frame : List ℕ) (bits k : ℕ) → bits ≡ named_in frame → k < 8 → bits / 2 ^ k % 2 ≡ slice_index frame (2 * k) % 2
each_bit frame bits k e l = by k l where
  by : (k : ℕ) → k < 8 → bits / 2 ^ k % 2 ≡ slice_index frame (2 * k) % 2
  by zero l = omega (arith, e)
  by (suc zero) l = omega (arith, e)
  by (suc (suc zero)) l = omega (arith, e)
  by (suc (suc (suc zero))) l = omega (arith, e)
  by (suc (suc (suc (suc zero)))) l = omega (arith, e)
  by (suc (suc (suc (suc (suc zero))))) l = omega (arith, e)
  by (suc (suc (suc (suc (suc (suc zero)))))) l = omega (arith, e)
  by (suc (suc (suc (suc (suc (suc (suc zero))))))) l = omega (arith, e)
  by (suc (suc (suc (suc (suc (suc (suc (suc k)))))))) l = absurd (omega (arith, l))

or_false : (b : Bool) → (b || false) ≡ b
or_false true = refl
or_false false = refl

lower_bit : (named bits k : ℕ) → bits ≡ named % 128 + 128 → k < 7 → bits / 2 ^ k % 2 ≡ named / 2 ^ k % 2
lower_bit named bits zero b l = omega (arith, b)
lower_bit named bits (suc zero) b l = omega (arith, b)
lower_bit named bits (suc (suc zero)) b l = omega (arith, b)
lower_bit named bits (suc (suc (suc zero))) b l = omega (arith, b)
lower_bit named bits (suc (suc (suc (suc zero)))) b l = omega (arith, b)
lower_bit named bits (suc (suc (suc (suc (suc zero))))) b l = omega (arith, b)
lower_bit named bits (suc (suc (suc (suc (suc (suc zero)))))) b l = omega (arith, b)
lower_bit named bits (suc (suc (suc (suc (suc (suc (suc k))))))) b l = absurd (omega (arith, l))

-- with that of the last pair set, they are the ends
each_end : (frame : List ℕ) (named bits k : ℕ) → named ≡ named_in frame → bits ≡ named % 128 + 128 → k < 8 →
    (bits / 2 ^ k % 2 == 1) ≡ is_end frame k
each_end frame named bits k e b l = ⊎_elim (λ low. below low) (λ last. here (omega (arith, last, l))) (cases_lt k 7) where
  below : k < 7 → (bits / 2 ^ k % 2 == 1) ≡ is_end frame k
  below low =
      ap (λ (x : ℕ). x == 1) (lower_bit named bits k b low ∙ each_bit frame named k e l)
      ∙ sym (ap (λ (t : Bool). names frame k || t) (let no : (k == 7) ≡ false = grind (arith, nat_tests) in no) ∙ or_false (names frame k))

  here : k ≡ 7 → (bits / 2 ^ k % 2 == 1) ≡ is_end frame k
  here last =
      ap (λ (n : ℕ). bits / 2 ^ n % 2 == 1) last
      ∙ ap (λ (x : ℕ). x == 1) (let one : bits / 128 % 2 ≡ 1 = omega (arith, b) in one)
      ∙ sym (ap (λ (n : ℕ). names frame k || n == 7) last ∙ or_right (names frame k) true refl)

pub ends_are : (frame : List ℕ) (named bits : ℕ) → named ≡ named_in frame → bits ≡ named % 128 + 128 → places bits ≡ ends_from frame 0
unfolding places ends_from
ends_are frame named bits e b =
    same_kept (λ k. bits / 2 ^ k % 2 == 1) (λ k. is_end frame k) 0 8 (λ k l. each_end frame named bits k e b (omega (arith, l)))

-- where they are
pub late_at : (frame : List ℕ) (k : ℕ) → k < 8 →
    2 * k + (slice_index frame 15 % 128 + (1 - slice_index frame 14 % 2) * 128) / 2 ^ k % 2 ≡ end_at frame k
late_at frame zero l = omega arith
late_at frame (suc zero) l = omega arith
late_at frame (suc (suc zero)) l = omega arith
late_at frame (suc (suc (suc zero))) l = omega arith
late_at frame (suc (suc (suc (suc zero)))) l = omega arith
late_at frame (suc (suc (suc (suc (suc zero))))) l = omega arith
late_at frame (suc (suc (suc (suc (suc (suc zero)))))) l = omega arith
late_at frame (suc (suc (suc (suc (suc (suc (suc zero))))))) l = omega arith
late_at frame (suc (suc (suc (suc (suc (suc (suc (suc k)))))))) l = absurd (omega (arith, l))

-- whether two lists are the same
same : List ℕ → List ℕ → Bool
same [] [] = true
same [] (y ∷ ys) = false
same (x ∷ xs) [] = false
same (x ∷ xs) (y ∷ ys) = x == y && same xs ys

from_same : (xs ys : List ℕ) → same xs ys ≡ true → xs ≡ ys
unfolding same
from_same [] [] e = refl
from_same [] (y ∷ ys) e = absurd (true≢false (sym e))
from_same (x ∷ xs) [] e = absurd (true≢false (sym e))
from_same (x ∷ xs) (y ∷ ys) e =
    let parts = and_parts (x == y) (same xs ys) e in
    ap₂ (λ (z : ℕ) (zs : List ℕ). z ∷ zs) (eqb-true x y parts.0) (from_same xs ys parts.1)

-- the place of the lowest bit is the first, and without that bit the others are left
first_at : ℕ → Bool
unfolding places same
first_at n = n == 0 || same (places n) (trailing_zeros w64 n ∷ places (bit_and n (n - 1)))

pub first_place : (n : ℕ) → n < 256 → n ≢ 0 → places n ≡ trailing_zeros w64 n ∷ places (bit_and n (n - 1))
unfolding first_at count_trailing_zeros
first_place n l some = from_same _ _ (by (n == 0) refl) where
  all : first_at n ≡ true
  all = agree_below_at first_at (λ (k : ℕ). true) 256 n refl l

  by : (b : Bool) → (n == 0) ≡ b → same (places n) (trailing_zeros w64 n ∷ places (bit_and n (n - 1))) ≡ true
  by true e = absurd (some (eqb-true n 0 e))
  by false e = sym (ap (λ (b : Bool). b || same (places n) (trailing_zeros w64 n ∷ places (bit_and n (n - 1)))) e) ∙ all

pub no_place : (n : ℕ) → n ≡ 0 → places n ≡ []
unfolding places
no_place n e = ap (λ (x : ℕ). filter (λ k. x / 2 ^ k % 2 == 1) (range_with_len 0 8)) e

-- what a list of them says: its first one, and that none is before it
record IsNext (frame : List ℕ) (p q : ℕ) (rest : List ℕ) : Type 0 where
  from : p ≤ q
  below : q < 8
  ends : is_end frame q ≡ true
  plain : (k : ℕ) → p ≤ k → k < q → is_end frame k ≡ false
  rest_is : rest ≡ ends_from frame (q + 1)

-- n pairs from p on
abbrev ends_of : List ℕ → ℕ → ℕ → List ℕ
ends_of frame p n = filter (λ k. is_end frame k) (range_with_len p n)

found : (frame : List ℕ) (p n : ℕ) → is_end frame p ≡ true → ends_of frame p (suc n) ≡ p ∷ ends_of frame (p + 1) n
found frame p n h = ap (λ (b : Bool). cond b (p ∷ ends_of frame (p + 1) n) (ends_of frame (p + 1) n)) h

passed : (frame : List ℕ) (p n : ℕ) → is_end frame p ≡ false → ends_of frame p (suc n) ≡ ends_of frame (p + 1) n
passed frame p n h = ap (λ (b : Bool). cond b (p ∷ ends_of frame (p + 1) n) (ends_of frame (p + 1) n)) h

-- a run ends at the first pair, or it does not
next_here : (frame : List ℕ) (n p q : ℕ) (rest : List ℕ) → p + suc n ≡ 8 → is_end frame p ≡ true →
    p ∷ ends_of frame (p + 1) n ≡ q ∷ rest → IsNext frame p q rest
unfolding ends_from
next_here frame n p q rest s h e =
    let first : p ≡ q = cc in
    let left : ends_of frame (p + 1) n ≡ rest = cc in
    record {
      from = omega (arith, first);
      below = omega (arith, first, s);
      ends = subst (λ (k : ℕ). is_end frame k ≡ true) first h;
      plain = λ k low high. absurd (omega (arith, first, low, high));
      rest_is = sym left ∙ ap₂ (λ (a m : ℕ). ends_of frame a m) (ap (λ (k : ℕ). k + 1) first) (omega (arith, first, s));
    }

next_later : (frame : List ℕ) (p q : ℕ) (rest : List ℕ) → is_end frame p ≡ false → IsNext frame (p + 1) q rest → IsNext frame p q rest
next_later frame p q rest h later =
    record {
      from = (let low = later.from in omega (arith, low));
      below = later.below;
      ends = later.ends;
      plain = λ k low high.
          ⊎_elim (λ more. later.plain k (omega (arith, more)) high) (λ most. ap (is_end frame) (omega (arith, low, most)) ∙ h) (cases_lt p k);
      rest_is = later.rest_is;
    }

next_of : (frame : List ℕ) (n p q : ℕ) (rest : List ℕ) → p + n ≡ 8 → ends_of frame p n ≡ q ∷ rest → IsNext frame p q rest
next_of frame zero p q rest s e = let k : [] ≡ q ∷ rest = e in absurd cc
next_of frame (suc n) p q rest s e =
    ⊎_elim (λ h. next_here frame n p q rest s h (sym (found frame p n h) ∙ e))
    (λ h. next_later frame p q rest h (next_of frame n (p + 1) q rest (omega (arith, s)) (sym (passed frame p n h) ∙ e)))
    (cases_Bool (is_end frame p))

pub next_end : (frame : List ℕ) (p q : ℕ) (rest : List ℕ) → p ≤ 8 → ends_from frame p ≡ q ∷ rest →
    (p ≤ q) × (q < 8) × (is_end frame q ≡ true) × ((k : ℕ) → p ≤ k → k < q → is_end frame k ≡ false) × (rest ≡ ends_from frame (q + 1))
unfolding ends_from
next_end frame p q rest l e =
    let n = next_of frame (8 - p) p q rest (omega (arith, l)) e in (n.from, n.below, n.ends, n.plain, n.rest_is)

-- where a list of them is empty, there are none
none_of : (frame : List ℕ) (n p : ℕ) → ends_of frame p n ≡ [] → (k : ℕ) → p ≤ k → k < p + n → is_end frame k ≡ false
none_of frame zero p e k low high = absurd (omega (arith, low, high))
none_of frame (suc n) p e k low high =
    ⊎_elim (λ h. let no : p ∷ ends_of frame (p + 1) n ≡ [] = sym (found frame p n h) ∙ e in absurd cc)
    (λ h. ⊎_elim (λ more. none_of frame n (p + 1) (sym (passed frame p n h) ∙ e) k (omega (arith, more)) (omega (arith, high)))
    (λ most. ap (is_end frame) (omega (arith, low, most)) ∙ h) (cases_lt p k)) (cases_Bool (is_end frame p))

pub no_end : (frame : List ℕ) (p : ℕ) → p ≤ 8 → ends_from frame p ≡ [] → (k : ℕ) → p ≤ k → k < 8 → is_end frame k ≡ false
unfolding ends_from
no_end frame p l e k low high = none_of frame (8 - p) p e k low (omega (arith, l, high))
