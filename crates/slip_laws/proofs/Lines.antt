-- Bits of bytes, and the byte in which a long run of ones ends.
use Rattle.std.proofs.Common.{◌≡◌, ℕ, zero, suc, ◌+◌, ◌%◌, ◌<◌, ◌≤◌, List, [], ◌∷◌, ◌++◌, length, length-append, Bool, true, false, refl, sym, ◌∙◌, ap, subst, ◌⊎◌, inl, inr, arith, append_assoc, append-nil}
use Rattle.std.proofs.lemmas.Bool.{cases_eq}
use Rattle.std.proofs.lemmas.List.{append_cancel_left}
use Rattle.trace_values.proofs.Lists.{fronts_meet}
use Rattle.port_slip.specs.Bits.{bits, bits_of, ones, number}
use Rattle.port_slip.specs.Runs.{run_after}
use Rattle.port_slip.proofs.Bits.{AreBytes, bits_length, bits_join, number_bits}
use Rattle.port_slip.proofs.Runs.{run_append, run_most}
use Rattle.port_slip.proofs.Table.{last_run}
use Rattle.port_slip.proofs.Windows.{run_of_byte, run_of_full}

-- a run that is longer than the bits is all of them
all_run : (f : List Bool) (r : ℕ) → length f < run_after r f → (f ≡ ones (length f)) × (run_after r f ≡ r + length f)
unfolding ones
all_run [] r h = (refl, (let e : r ≡ r + 0 = omega arith in e))
all_run (true ∷ f) r h = let i = all_run f (suc r) (omega (arith, h)) in (ap (λ l. true ∷ l) i.0, (let e = i.1 in omega (arith, e)))
all_run (false ∷ f) r h = absurd (let m = run_most f 0 in omega (arith, h, m))

-- the byte in which the zero after a long run is
pub record Found (r : ℕ) (x : List ℕ) (f : List Bool) : Type 0 where
  pub pre : List ℕ
  pub byte : ℕ
  pub post : List ℕ
  pub count : ℕ
  pub over : List Bool
  pub parts : x ≡ pre ++ (byte ∷ post)
  pub bits_are : f ≡ bits_of pre ++ ones count
  pub byte_is : bits 8 byte ≡ ones count ++ (false ∷ over)
  pub long : 31 ≤ run_after r (bits_of pre) + count

in_byte : (r b : ℕ) (x : List ℕ) (f m : List Bool) (y : Bool) → 31 ≤ run_after r f → y ≡ false →
    bits 8 b ≡ f ++ (y ∷ m) → Found r (b ∷ x) f
in_byte r b x f m y h k e =
    let n : length f + suc (length m) ≡ 8 = sym (length-append f (y ∷ m)) ∙ ap length (sym e) ∙ bits_length 8 b in
    let a = all_run f r (omega (arith, h, n)) in
    record {
      pre = [];
      byte = b;
      post = x;
      count = length f;
      over = m;
      parts = refl;
      bits_are = a.0;
      byte_is = e ∙ ap (λ l. l ++ (y ∷ m)) a.0 ∙ ap (λ z. ones (length f) ++ (z ∷ m)) k;
      long = (let q = a.1 in omega (arith, q, h));
    }

pub find : (r : ℕ) (x : List ℕ) (f rest : List Bool) → 31 ≤ run_after r f → bits_of x ≡ f ++ (false ∷ rest) →
    Found r x f
find r [] [] rest h e = cc
find r [] (y ∷ f) rest h e = cc
find r (b ∷ x) f rest h e = elim (fronts_meet (bits 8 b) f (bits_of x) (false ∷ rest) e) [
  | inl m ↦ (
      let cut : bits_of x ≡ m.0 ++ (false ∷ rest) = append_cancel_left (bits 8 b) (bits_of x) (m.0 ++ (false ∷ rest)) (e ∙ ap (λ (l : List Bool). l ++ (false ∷ rest)) m.1 ∙ append_assoc (bits 8 b) m.0 (false ∷ rest)) in
      let run : run_after r f ≡ run_after (run_after r (bits 8 b)) m.0 = ap (run_after r) m.1 ∙ run_append r (bits 8 b) m.0 in
      let i = find (run_after r (bits 8 b)) x m.0 rest (omega (arith, run, h)) cut in
      record {
        pre = b ∷ i.pre;
        byte = i.byte;
        post = i.post;
        count = i.count;
        over = i.over;
        parts = ap (λ l. b ∷ l) i.parts;
        bits_are = m.1 ∙ ap (λ (l : List Bool). bits 8 b ++ l) i.bits_are ∙ sym (append_assoc (bits 8 b) (bits_of i.pre) (ones i.count));
        byte_is = i.byte_is;
        long = (let l = i.long in let a = run_append r (bits 8 b) (bits_of i.pre) in omega (arith, l, a));
      })
  | inr m ↦ (
      let all : (f ++ (m.1 ∷ m.0)) ++ bits_of x ≡ f ++ (false ∷ rest) = ap (λ (l : List Bool). l ++ bits_of x) (sym m.2) ∙ e in
      let tail : m.1 ∷ (m.0 ++ bits_of x) ≡ false ∷ rest = append_cancel_left f (m.1 ∷ (m.0 ++ bits_of x)) (false ∷ rest) (sym (append_assoc f (m.1 ∷ m.0) (bits_of x)) ∙ all) in
      in_byte r b x f m.0 m.1 h (let k = tail in cc) m.2)
]

-- a list's last
last_of : (x : List ℕ) → ((x ≡ []) ⊎ ((p : List ℕ) × (b : ℕ) × (x ≡ p ++ b ∷ [])))
last_of [] = inl refl
last_of (b ∷ x) = elim (last_of x) [
  | inl e ↦ inr ([], b, ap (λ l. b ∷ l) e)
  | inr m ↦ inr (b ∷ m.0, m.1, ap (λ l. b ∷ l) m.2)
]

last_byte : (p : List ℕ) (b : ℕ) → AreBytes (p ++ b ∷ []) → AreBytes p × (b < 256)
last_byte [] b a = (tt, a.0)
last_byte (x ∷ p) b a = let i = last_byte p b a.1 in ((a.0, i.0), i.1)

-- with at least eight ones at the end the last byte is FF
pub last_full : (x : List ℕ) (n : ℕ) → AreBytes x → 8 + n ≤ run_after 0 (bits_of x) →
    (p : List ℕ) × (x ≡ p ++ 255 ∷ []) × AreBytes p × (n ≤ run_after 0 (bits_of p))
last_full x n a h = elim (last_of x) [
  | inl e ↦ absurd (let k : run_after 0 (bits_of x) ≡ 0 = ap (λ l. run_after 0 (bits_of l)) e in omega (arith, k, h))
  | inr m ↦ (
      let both = last_byte m.0 m.1 (subst AreBytes m.2 a) in
      let split : run_after 0 (bits_of x) ≡ run_after (run_after 0 (bits_of m.0)) (bits 8 m.1) =
      ap (λ l. run_after 0 (bits_of l)) m.2 ∙ ap (run_after 0) (bits_join m.0 (m.1 ∷ []) ∙ ap (λ l. bits_of m.0 ++ l) (append-nil (bits 8 m.1))) ∙ run_append 0 (bits_of m.0) (bits 8 m.1) in
      elim (cases_eq m.1 255) [
        | inl e ↦ (
            let full : run_after (run_after 0 (bits_of m.0)) (bits 8 m.1) ≡ run_after 0 (bits_of m.0) + 8 = ap (λ b. run_after (run_after 0 (bits_of m.0)) (bits 8 b)) e ∙ run_of_full (run_after 0 (bits_of m.0)) in
            (m.0, m.2 ∙ ap (λ b. m.0 ++ b ∷ []) e, both.0, omega (arith, split, full, h)))
        | inr n ↦ absurd (
            let few = run_of_byte (run_after 0 (bits_of m.0)) m.1 both.1 n in
            let last = (last_run m.1 both.1 n).0 in omega (arith, split, few, last, h))
      ])
]

ones_same : (n m : ℕ) (y z : List Bool) → ones n ++ (false ∷ y) ≡ ones m ++ (false ∷ z) → n ≡ m
unfolding ones
ones_same zero zero y z e = refl
ones_same zero (suc m) y z e = cc
ones_same (suc n) zero y z e = cc
ones_same (suc n) (suc m) y z e = ap suc (ones_same n m y z (let k = e in cc))

ones_not : (n m : ℕ) (z : List Bool) → ones n ≡ ones m ++ (false ∷ z) → ⊥
unfolding ones
ones_not zero zero z e = cc
ones_not zero (suc m) z e = cc
ones_not (suc n) zero z e = cc
ones_not (suc n) (suc m) z e = ones_not n m z (let k = e in cc)

pub not_full : (b e : ℕ) (z : List Bool) → bits 8 b ≡ ones e ++ (false ∷ z) → b ≡ 255 → ⊥
unfolding bits ones
not_full b e z h k = ones_not 8 e z (ap (bits 8) (sym k) ∙ h)

pub seven : (b e : ℕ) (z : List Bool) → bits 8 b ≡ ones e ++ (false ∷ z) → b ≡ 127 → e ≡ 7
unfolding bits ones
seven b e z h k = sym (ones_same 7 e [] z (ap (bits 8) (sym k) ∙ h))

pub is_seven : (b : ℕ) (z : List Bool) → b < 256 → bits 8 b ≡ ones 7 ++ (false ∷ z) → (b ≡ 127) × (z ≡ [])
unfolding ones
is_seven b z l h =
    let n : suc (suc (suc (suc (suc (suc (suc (suc (length z)))))))) ≡ 8 = ap length (sym h) ∙ bits_length 8 b in
    let none : z ≡ [] = by z (omega (arith, n)) in
    let v : b % 256 ≡ 127 = sym (number_bits 8 b) ∙ ap number h ∙ ap (λ x. number (true ∷ (true ∷ (true ∷ (true ∷ (true ∷ (true ∷ (true ∷ (false ∷ x))))))))) none in
    (omega (arith, v, l), none) where
      by : (z : List Bool) → length z ≡ 0 → z ≡ []
      by [] e = refl
      by (x ∷ z) e = absurd (omega arith)
