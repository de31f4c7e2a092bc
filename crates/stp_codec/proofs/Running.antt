-- Nibbles F, with which an ASYNC begins.
use Rattle.std.proofs.Common.{◌≡◌, ℕ, zero, suc, ◌+◌, ◌*◌, ◌%◌, ◌<◌, ◌≤◌, List, length, get_or, refl, sym, ◌∙◌, ap, subst, arith}
use Rattle.std.proofs.Common.{Bool, true, false, cond, take, ◌-◌}
use Rattle.std.specs.Prelude.{◌==◌}
use Rattle.std.proofs.lemmas.Bool.Decides.{nat_tests}
use Rattle.stp_codec.specs.Names.{Go, End, Within, StpPacket, Async, Partial, Run, Msn, rule}
use Rattle.stp_codec.specs.Cuts.{Leads}
use Rattle.stp_codec.specs.Parts.{run_of}
use Rattle.stp_codec.specs.Wholes.{nibbles_in, between, Ends, Fronts, state_of}
use Rattle.stp_codec.proofs.Between.{low_nibble, high_nibble}
use Rattle.stp_codec.proofs.Cutting.{nibble_leads, none_leads, run_ends}
use Rattle.stp_codec.proofs.Unread.{fewer_front}

run_more : (n : ℕ) → rule Msn (run_of n) 15 ≡ Go (run_of (suc n))
run_more zero = refl
run_more (suc zero) = refl
run_more (suc (suc n)) = ap (λ (k : ℕ). Go (Run k)) (let e : suc (suc n) + 1 ≡ suc (suc (suc n)) = omega arith in e)

run_is : (n : ℕ) → 2 ≤ n → run_of n ≡ Run n
run_is zero h = absurd (omega arith)
run_is (suc zero) h = absurd (omega arith)
run_is (suc (suc n)) h = refl

-- so many of these are F
abbrev pub IsRun : List ℕ → ℕ → Type 0
IsRun xs n = (i : ℕ) → i < n → get_or xs i 0 ≡ 15

module _ (xs : List ℕ) (b : ℕ) where
  run_leads : (n : ℕ) → n ≤ length xs → IsRun xs n → Leads Msn (run_of b) (between xs 0 n) (Go (run_of (b + n)))
  run_leads zero h f =
      subst (λ (k : ℕ). Leads Msn (run_of b) (between xs 0 0) (Go (run_of k))) (let e : b ≡ b + 0 = omega arith in e) (none_leads Msn (run_of b) xs)
  run_leads (suc n) h f =
      subst (λ (i : ℕ). Leads Msn (run_of b) (between xs 0 i) (Go (run_of (b + suc n)))) (let e : n + 1 ≡ suc n = omega arith in e)
      (nibble_leads Msn (run_of b) xs (run_of (b + n)) n 15 (Go (run_of (b + suc n))) (omega (arith, h)) (sym (f n (omega arith)))
      (run_more (b + n) ∙ ap (λ (k : ℕ). Go (run_of k)) (let e : suc (b + n) ≡ b + suc n = omega arith in e))
      (run_leads n (omega (arith, h)) (λ i k. f i (omega (arith, k)))))

  -- they are within an ASYNC
  pub run_fronts : (n : ℕ) → n ≤ length xs → IsRun xs n → Fronts Msn (run_of b) (between xs 0 n)
  run_fronts n h f = let k = run_leads n h f in k ∙ ap (λ (t : Partial). Within t) (sym (ap state_of k))

  -- and with a nibble 0 end it
  pub run_whole : (n : ℕ) → n < length xs → IsRun xs n → 21 ≤ b + n → 0 ≡ get_or xs n 0 → Ends Msn (Go (run_of b)) (between xs 0 (n + 1)) Async
  run_whole n h f g z =
      nibble_leads Msn (run_of b) xs (run_of (b + n)) n 0 (End Async) h z
      (ap (λ (t : Partial). rule Msn t 0) (run_is (b + n) (omega (arith, g))) ∙ run_ends Msn (b + n) g) (run_leads n (omega (arith, h)) f)

-- bytes that are FF, and the first that is not
module _ (bytes : List ℕ) (index : ℕ) (here : index < length bytes) (f : IsRun (nibbles_in bytes) (2 * index)) where
  low_on : (get_or bytes index 0 % 16 ≡ 15) → IsRun (nibbles_in bytes) (2 * index + 1)
  low_on e i h = by (i == 2 * index) refl where
    by : (t : Bool) → (i == 2 * index) ≡ t → get_or (nibbles_in bytes) i 0 ≡ 15
    by true k = ap (λ (j : ℕ). get_or (nibbles_in bytes) j 0) (let q : i ≡ 2 * index = grind (arith, nat_tests) in q) ∙ low_nibble bytes index here ∙ e
    by false k = f i (grind (arith, nat_tests))

  pub byte_on : get_or bytes index 0 ≡ 255 → IsRun (nibbles_in bytes) (2 * (index + 1))
  byte_on e i h = by (i == 2 * index + 1) refl where
    by : (t : Bool) → (i == 2 * index + 1) ≡ t → get_or (nibbles_in bytes) i 0 ≡ 15
    by true k =
        ap (λ (j : ℕ). get_or (nibbles_in bytes) j 0) (let q : i ≡ 2 * index + 1 = grind (arith, nat_tests) in q) ∙ high_nibble bytes index here
        ∙ (let q = e in omega (arith, q))
    by false k = low_on (omega (arith, e)) i (grind (arith, nat_tests))

  pub byte_end : (n : ℕ) → n ≡ cond (get_or bytes index 0 % 16 == 15) 1 0 → IsRun (nibbles_in bytes) (2 * index + n)
  byte_end n e = by (get_or bytes index 0 % 16 == 15) refl where
    by : (t : Bool) → (get_or bytes index 0 % 16 == 15) ≡ t → IsRun (nibbles_in bytes) (2 * index + n)
    by true k = λ i h.
        let one : n ≡ 1 = e ∙ ap (λ (t : Bool). cond t 1 0) k in
        low_on (grind (arith, nat_tests)) i (omega (arith, one, h))
    by false k = λ i h.
        let none : n ≡ 0 = e ∙ ap (λ (t : Bool). cond t 1 0) k in
        f i (omega (arith, none, h))

-- fewer nibbles than end a packet are within it
pub fewer_within : (s : Partial) (xs : List ℕ) (k m : ℕ) (v : StpPacket) → k < m → k < length xs → Ends Msn (Go s) (between xs 0 m) v →
    Fronts Msn s (between xs 0 k)
fewer_within s xs k m v h l e =
    subst (λ (n : ℕ). Fronts Msn s (take n xs)) (let z : k ≡ k - 0 = omega arith in z) (fewer_front Msn s xs k m v h l e)
