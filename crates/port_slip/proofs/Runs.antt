-- Runs of ones, and where a pattern can begin.
use Rattle.std.proofs.Common.{◌≡◌, ℕ, zero, suc, ◌+◌, ◌-◌, ◌<◌, ◌≤◌, List, [], ◌∷◌, ◌++◌, length, min, drop, Bool, true, false, nat_lt, refl, sym, ◌∙◌, ap, inl, inr, arith}
use Rattle.std.specs.Prelude.{◌&&◌}
use Rattle.std.proofs.lemmas.Bool.{ltb-true, lt-ltb, cases_lt, and_parts}
use Rattle.port_slip.specs.Bits.{ones}
use Rattle.port_slip.specs.Segments.{begins}
use Rattle.port_slip.specs.Runs.{run_after, is_quiet, later}

pub run_append : (r : ℕ) (s t : List Bool) → run_after r (s ++ t) ≡ run_after (run_after r s) t
run_append r [] t = refl
run_append r (true ∷ s) t = run_append (suc r) s t
run_append r (false ∷ s) t = run_append 0 s t

pub quiet_append : (r : ℕ) (s t : List Bool) → is_quiet r s ≡ true → is_quiet (run_after r s) t ≡ true →
    is_quiet r (s ++ t) ≡ true
quiet_append r [] t h k = k
quiet_append r (true ∷ s) t h k = quiet_append (suc r) s t h k
quiet_append r (false ∷ s) t h k = let b = and_parts (nat_lt r 31) (is_quiet 0 s) h in ap (λ x. x && is_quiet 0 (s ++ t)) b.0 ∙ quiet_append 0 s t b.1 k

pub quiet_less : (r q : ℕ) (s : List Bool) → q ≤ r → is_quiet r s ≡ true → is_quiet q s ≡ true
quiet_less r q [] h k = refl
quiet_less r q (true ∷ s) h k = quiet_less (suc r) (suc q) s (omega arith) k
quiet_less r q (false ∷ s) h k =
    let b = and_parts (nat_lt r 31) (is_quiet 0 s) k in
    let l : r < 31 = ltb-true r 31 b.0 in ap (λ x. x && is_quiet 0 s) (lt-ltb q 31 (omega (arith, l))) ∙ b.1

-- of two parts the second
pub quiet_end : (r : ℕ) (s t : List Bool) → is_quiet r (s ++ t) ≡ true → is_quiet 0 t ≡ true
quiet_end r [] t h = quiet_less r 0 t (omega arith) h
quiet_end r (true ∷ s) t h = quiet_end (suc r) s t h
quiet_end r (false ∷ s) t h = quiet_end 0 s t (and_parts (nat_lt r 31) (is_quiet 0 (s ++ t)) h).1

pub quiet_later : (s : List Bool) → is_quiet 0 s ≡ true → is_quiet 0 (later s) ≡ true
quiet_later [] h = refl
quiet_later (x ∷ s) h = quiet_end 0 (x ∷ []) s h

-- 31 bits tell the run, as far as it is counted
pub run_late : (r q : ℕ) (s : List Bool) → 31 ≤ length s + r → 31 ≤ length s + q →
    min 31 (run_after r s) ≡ min 31 (run_after q s)
run_late r q [] h k = omega arith
run_late r q (true ∷ s) h k = run_late (suc r) (suc q) s (omega arith) (omega arith)
run_late r q (false ∷ s) h k = refl

pub run_later : (s : List Bool) → 32 ≤ length s → min 31 (run_after 0 s) ≡ min 31 (run_after 0 (later s))
run_later [] h = absurd (omega arith)
run_later (true ∷ s) h = run_late 1 0 s (omega arith) (omega arith)
run_later (false ∷ s) h = refl

-- no pattern of which so many ones are there begins a quiet part that is longer
quiet_not : (m r : ℕ) (s more : List Bool) → is_quiet r s ≡ true → m + r ≡ 31 → m < length s →
    begins m (s ++ more) ≡ false
quiet_not m r [] more h e l = absurd (omega arith)
quiet_not zero r (true ∷ s) more h e l = refl
quiet_not (suc m) r (true ∷ s) more h e l = quiet_not m (suc r) s more h (omega arith) (omega arith)
quiet_not zero r (false ∷ s) more h e l = let k : r < 31 = ltb-true r 31 (and_parts (nat_lt r 31) (is_quiet 0 s) h).0 in absurd (omega arith)
quiet_not (suc m) r (false ∷ s) more h e l = refl

-- no pattern begins at the first n places
abbrev pub Clear : ℕ → List Bool → Type 0
Clear zero s = Unit {0}
Clear (suc n) [] = Unit {0}
Clear (suc n) (x ∷ s) = (begins 31 (x ∷ s) ≡ false) × Clear n s

pub clear_quiet : (n : ℕ) (s more : List Bool) → is_quiet 0 s ≡ true → 31 + n ≤ length s → Clear n (s ++ more)
clear_quiet zero s more h l = tt
clear_quiet (suc n) [] more h l = absurd (omega arith)
clear_quiet (suc n) (x ∷ s) more h l =
    (quiet_not 31 0 (x ∷ s) more h refl (omega arith), clear_quiet n s more (quiet_later (x ∷ s) h) (omega arith))

pub quiet_ones : (r n : ℕ) → is_quiet r (ones n) ≡ true
unfolding ones
quiet_ones r zero = refl
quiet_ones r (suc n) = quiet_ones (suc r) n

pub run_ones : (r n : ℕ) → run_after r (ones n) ≡ r + n
unfolding ones
run_ones r zero = omega arith
run_ones r (suc n) = run_ones (suc r) n ∙ omega arith

pub ones_add : (n m : ℕ) → ones n ++ ones m ≡ ones (n + m)
unfolding ones
ones_add zero m = ap ones (let e : m ≡ 0 + m = omega arith in e)
ones_add (suc n) m = ap (λ l. true ∷ l) (ones_add n m) ∙ ap ones (let e : suc (n + m) ≡ suc n + m = omega arith in e)

-- one more at the end
pub ones_push : (r : ℕ) (s : List Bool) → ones r ++ (true ∷ s) ≡ ones (suc r) ++ s
unfolding ones
ones_push zero s = refl
ones_push (suc r) s = ap (λ l. true ∷ l) (ones_push r s)

-- a run is no longer than what it is counted in
pub run_most : (s : List Bool) (q : ℕ) → run_after q s ≤ length s + q
run_most [] q = omega arith
run_most (true ∷ s) q = let i = run_most s (suc q) in omega arith
run_most (false ∷ s) q = let i = run_most s 0 in omega arith

all_ones : (s : List Bool) (q : ℕ) → length s ≤ run_after q s → s ≡ ones (length s)
unfolding ones
all_ones [] q h = refl
all_ones (true ∷ s) q h = ap (λ l. true ∷ l) (all_ones s (suc q) (omega (arith, h)))
all_ones (false ∷ s) q h = absurd (omega (arith, h, run_most s 0))

-- a run at the end, where there is one that is as long
pub run_parts : (s : List Bool) (m r : ℕ) → m ≤ run_after r s → m ≤ length s → (a : List Bool) × (s ≡ a ++ ones m)
unfolding ones
run_parts [] zero r h l = ([], refl)
run_parts [] (suc m) r h l = absurd (omega arith)
run_parts (true ∷ s) m r h l = elim (cases_lt (length s) m) [
  | inr k ↦ let i = run_parts s m (suc r) h k in (true ∷ i.0, ap (λ w. true ∷ w) i.1)
  | inl k ↦ (let e : length (true ∷ s) ≡ m = omega (arith, k, l) in ([], all_ones (true ∷ s) r (omega (arith, h, e)) ∙ ap ones e))
]
run_parts (false ∷ s) m r h l = let i = run_parts s m 0 h (omega (arith, h, run_most s 0)) in (false ∷ i.0, ap (λ w. false ∷ w) i.1)

-- few bits have no pattern
pub quiet_short : (r : ℕ) (s : List Bool) → length s + r < 32 → is_quiet r s ≡ true
quiet_short r [] h = refl
quiet_short r (true ∷ s) h = quiet_short (suc r) s (omega arith)
quiet_short r (false ∷ s) h = ap (λ x. x && is_quiet 0 s) (lt-ltb r 31 (omega arith)) ∙ quiet_short 0 s (omega arith)

-- a run counts as far as 31
pub quiet_most : (q r : ℕ) (s : List Bool) → (q < 31 → q ≡ r) → is_quiet q s ≡ true → is_quiet r s ≡ true
quiet_most q r [] h k = refl
quiet_most q r (true ∷ s) h k = quiet_most (suc q) (suc r) s (λ l. ap suc (h (omega arith))) k
quiet_most q r (false ∷ s) h k = ap (λ x. nat_lt x 31 && is_quiet 0 s) (sym (h (ltb-true q 31 (and_parts (nat_lt q 31) (is_quiet 0 s) k).0))) ∙ k

pub run_counts : (q r : ℕ) (s : List Bool) → (q < 31 → q ≡ r) → (31 ≤ q → 31 ≤ r) →
    min 31 (run_after q s) ≡ min 31 (run_after r s)
run_counts q r [] h k = elim (cases_lt q 31) [
  | inl l ↦ ap (min 31) (h l)
  | inr l ↦ (let m = k l in omega (arith, l, m))
]
run_counts q r (true ∷ s) h k = run_counts (suc q) (suc r) s (λ l. ap suc (h (omega arith))) (λ l. elim (cases_lt q 31) [
  | inl m ↦ (let e = h m in omega (arith, l, e))
  | inr m ↦ (let n = k m in omega (arith, n))
])
run_counts q r (false ∷ s) h k = refl

pub quiet_drop : (n : ℕ) (s : List Bool) → is_quiet 0 s ≡ true → is_quiet 0 (drop n s) ≡ true
quiet_drop zero s h = h
quiet_drop (suc n) [] h = refl
quiet_drop (suc n) (x ∷ s) h = quiet_drop n s (quiet_later (x ∷ s) h)

pub run_drop : (n : ℕ) (s : List Bool) → 31 + n ≤ length s → min 31 (run_after 0 s) ≡ min 31 (run_after 0 (drop n s))
run_drop zero s h = refl
run_drop (suc n) [] h = absurd (omega arith)
run_drop (suc n) (x ∷ s) h = run_later (x ∷ s) (omega arith) ∙ run_drop n s (omega arith)

drop_one : (n : ℕ) (s : List Bool) → drop (suc n) s ≡ later (drop n s)
drop_one zero [] = refl
drop_one zero (x ∷ s) = refl
drop_one (suc n) [] = refl
drop_one (suc n) (x ∷ s) = drop_one n s

-- with more bits behind them, and how many there are
pub later_append : (k s : List Bool) → 0 < length k → later (k ++ s) ≡ later k ++ s
later_append [] s h = absurd (omega arith)
later_append (x ∷ k) s h = refl

pub later_length : (s : List Bool) → length (later s) ≡ length s - 1
later_length [] = refl
later_length (x ∷ s) = omega arith

pub later_drop : (n : ℕ) (s : List Bool) → later (drop n s) ≡ drop n (later s)
later_drop zero s = refl
later_drop (suc n) [] = refl
later_drop (suc n) (x ∷ s) = sym (drop_one n s)

-- ones and a zero after a run
pub quiet_parts : (r e : ℕ) (z : List Bool) → r + e < 31 → length z ≤ 7 → is_quiet r (ones e ++ (false ∷ z)) ≡ true
quiet_parts r e z h l =
    let o = run_ones r e in
    let k : run_after r (ones e) < 31 = omega (arith, o, h) in
    quiet_append r (ones e) (false ∷ z) (quiet_ones r e) (ap (λ x. x && is_quiet 0 z) (lt-ltb (run_after r (ones e)) 31 k) ∙ quiet_short 0 z (omega arith))

-- nothing begins in quiet bits
pub quiet_none : (m r : ℕ) (s : List Bool) → is_quiet r s ≡ true → m + r ≡ 31 → begins m s ≡ false
quiet_none m r [] h e = refl
quiet_none zero r (true ∷ s) h e = refl
quiet_none (suc m) r (true ∷ s) h e = quiet_none m (suc r) s h (omega arith)
quiet_none zero r (false ∷ s) h e = let k : r < 31 = ltb-true r 31 (and_parts (nat_lt r 31) (is_quiet 0 s) h).0 in absurd (omega arith)
quiet_none (suc m) r (false ∷ s) h e = refl
