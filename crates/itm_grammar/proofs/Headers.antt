-- Which headers the table gives which class.
use Rattle.std.proofs.Common.{◌≡◌, ℕ, zero, suc, ◌+◌, ◌*◌, ◌/◌, ◌%◌, ◌<◌, ◌≤◌, Bool, true, false, cond, refl, sym, ◌∙◌, ap, subst, ◌⊎◌, inl, inr, arith}
use Rattle.std.specs.Prelude.{nat_lt, nat_le, ◌==◌, ◌&&◌, ◌||◌}
use Rattle.std.proofs.lemmas.Bool.Decides.{nat_tests}
use Rattle.std.proofs.lemmas.Bool.{and_parts, eqb-true, ltb-true}
use Rattle.itm_grammar.specs.declared.packet.Size.{Size}
use Rattle.itm_grammar.specs.declared.packet.Size.TheVariants.{One, Two, Four}
use Rattle.itm_grammar.specs.declared.packet.Lateness.TheVariants.{Exact, StampLate, PacketLate, BothLate}
use Rattle.itm_grammar.specs.declared.header.Class.{Class}
use Rattle.itm_grammar.specs.declared.header.Class.TheVariants.{Zero, Overflow as Overflowed, Source, LocalShort, LocalLong, GlobalFirst as First, GlobalSecond as Second, Extension as Extended, Reserved}
use Rattle.itm_grammar.specs.Header.{class_of, size_of, is_proper_class}
use Rattle.itm_grammar.specs.Spelling.{size_bits, late_bits, bit_of}

-- a choice by a test is one of the two
pub chosen : {A : Type 0} (t : Bool) {x y z : A} → cond t x y ≡ z → ((t ≡ true) × (x ≡ z)) ⊎ ((t ≡ false) × (y ≡ z))
chosen true e = inl (refl, e)
chosen false e = inr (refl, e)

-- the header of a class
abbrev pub header_of : Class → ℕ
header_of Zero = 0
header_of Overflowed = 112
header_of (Source hardware number size) = 8 * number + 4 * bit_of hardware + size_bits size
header_of (LocalShort delta) = 16 * delta
header_of (LocalLong lateness) = 192 + 16 * late_bits lateness
header_of First = 148
header_of Second = 180
header_of (Extended more dwt low) = 128 * bit_of more + 16 * low + 4 * bit_of dwt + 8
header_of Reserved = 256

abbrev is_reserved : Class → Bool
is_reserved Reserved = true
is_reserved c = false

-- that a header is the one of its class, as a test, which is computed for each byte
abbrev is_right : ℕ → Bool
is_right h = is_reserved (class_of h) || (h == header_of (class_of h) && is_proper_class (class_of h))

abbrev all_under : (ℕ → Bool) → ℕ → Bool
all_under f zero = true
all_under f (suc n) = f n && all_under f n

under_at : (f : ℕ → Bool) (n k : ℕ) → all_under f n ≡ true → k < n → f k ≡ true
under_at f zero k e h = absurd (omega arith)
under_at f (suc n) k e h =
    let m = and_parts (f n) (all_under f n) e in
    elim (split k n (omega arith)) [
      | inl l ↦ under_at f n k m.1 l
      | inr l ↦ subst (λ (i : ℕ). f i ≡ true) (sym l) m.0
    ]
  where
    split : (k n : ℕ) → k ≤ n → (k < n) ⊎ (k ≡ n)
    split k n h = grind arith

all_right : all_under is_right 256 ≡ true
all_right = refl

reserved_is : (c : Class) → is_reserved c ≡ true → c ≡ Reserved
reserved_is Reserved e = refl
reserved_is x e = cc

read_right : (s t u : Bool) → (s || (t && u)) ≡ true → (s ≡ true) ⊎ ((t ≡ true) × (u ≡ true))
read_right true t u e = inl refl
read_right false t u e = inr (and_parts t u e)

no_byte : (h : ℕ) → 256 ≤ h → class_of h ≡ Reserved
no_byte h g = let t : nat_lt h 256 ≡ false = grind (arith, nat_tests) in rw t refl

known : (h : ℕ) → (class_of h ≡ Reserved) ⊎ ((h ≡ header_of (class_of h)) × (is_proper_class (class_of h) ≡ true))
known h = elim (ordered h) [
  | inl m ↦ elim (read_right (is_reserved (class_of h)) (h == header_of (class_of h)) (is_proper_class (class_of h)) (under_at is_right 256 h all_right m)) [
    | inl n ↦ inl (reserved_is (class_of h) n)
    | inr n ↦ inr (eqb-true h (header_of (class_of h)) n.0, n.1)
  ]
  | inr m ↦ inl (no_byte h m)
] where
  ordered : (h : ℕ) → (h < 256) ⊎ (256 ≤ h)
  ordered h = grind arith

-- a byte of a class that is a packet's is its header, and its numbers fit
pub header_is : (h : ℕ) (c : Class) → class_of h ≡ c → (c ≡ Reserved → ⊥) → (h ≡ header_of c) × (is_proper_class c ≡ true)
header_is h c k n = elim (known h) [
  | inl m ↦ absurd (n (sym k ∙ m))
  | inr m ↦ (m.0 ∙ ap header_of k, sym (ap is_proper_class k) ∙ m.1)
]

short_under : (delta : ℕ) → (nat_lt 0 delta && nat_lt delta 7) ≡ true → delta < 7
short_under delta e = grind (arith, nat_tests)

tested : (n m : ℕ) (b : Bool) → n ≡ bit_of b → (n == 1) ≡ b
tested n m true e = grind (arith, nat_tests)
tested n m false e = grind (arith, nat_tests)

source_made : (h low number : ℕ) (hardware : Bool) (size : Size) → h < 256 → 0 < low → h % 4 ≡ low → h / 8 ≡ number → (h / 4) % 2 ≡ bit_of hardware → size_of low ≡ size →
    class_of h ≡ Source hardware number size
source_made h low number hardware size a b c d e f =
    let s : nat_lt h 256 ≡ true = grind (arith, nat_tests) in
    let t : nat_lt 0 (h % 4) ≡ true = grind (arith, nat_tests) in
    let u : ((h / 4) % 2 == 1) ≡ hardware = tested ((h / 4) % 2) 0 hardware e in
    rw s (rw t (rw (u, d, c, f) refl))

extension_made : (h low : ℕ) (more dwt : Bool) → h < 256 → h % 4 ≡ 0 → h % 16 ≡ 4 * bit_of dwt + 8 → (h / 16) % 8 ≡ low → h / 128 ≡ bit_of more →
    class_of h ≡ Extended more dwt low
extension_made h low more dwt a b c d e =
    let s : nat_lt h 256 ≡ true = grind (arith, nat_tests) in
    let t : nat_lt 0 (h % 4) ≡ false = grind (arith, nat_tests) in
    let u : (h % 16 == 0) ≡ false = some (h % 16) (omega arith) in
    let v : (h % 16 == 4) ≡ false = other (h % 16) (omega arith) in
    let w : (h % 16 == 12) ≡ dwt = by_dwt (h % 16) dwt c in
    let x : nat_le 128 h ≡ more = by_more more e in
    rw s (rw t (rw u (rw v (rw (x, w, d) refl))))
  where
    some : (n : ℕ) → 0 < n → (n == 0) ≡ false
    some n h = grind (arith, nat_tests)

    other : (n : ℕ) → 4 < n → (n == 4) ≡ false
    other n h = grind (arith, nat_tests)

    by_dwt : (n : ℕ) (dwt : Bool) → n ≡ 4 * bit_of dwt + 8 → (n == 12) ≡ dwt
    by_dwt n true c = grind (arith, nat_tests)
    by_dwt n false c = grind (arith, nat_tests)

    by_more : (more : Bool) → h / 128 ≡ bit_of more → nat_le 128 h ≡ more
    by_more true e = let k : 128 ≤ h = omega arith in grind (arith, nat_tests)
    by_more false e = let k : h < 128 = omega arith in grind (arith, nat_tests)

-- and the header of a class has it
pub made : (c : Class) → is_proper_class c ≡ true → (c ≡ Reserved → ⊥) → class_of (header_of c) ≡ c
made Zero p n = refl
made Overflowed p n = refl
made (Source true number One) p n = let k = ltb-true number 32 p in source_made (8 * number + 4 + 1) 1 number true One (omega arith) (omega arith) (omega arith) (omega arith) (omega arith) refl
made (Source true number Two) p n = let k = ltb-true number 32 p in source_made (8 * number + 4 + 2) 2 number true Two (omega arith) (omega arith) (omega arith) (omega arith) (omega arith) refl
made (Source true number Four) p n = let k = ltb-true number 32 p in source_made (8 * number + 4 + 3) 3 number true Four (omega arith) (omega arith) (omega arith) (omega arith) (omega arith) refl
made (Source false number One) p n = let k = ltb-true number 32 p in source_made (8 * number + 0 + 1) 1 number false One (omega arith) (omega arith) (omega arith) (omega arith) (omega arith) refl
made (Source false number Two) p n = let k = ltb-true number 32 p in source_made (8 * number + 0 + 2) 2 number false Two (omega arith) (omega arith) (omega arith) (omega arith) (omega arith) refl
made (Source false number Four) p n = let k = ltb-true number 32 p in source_made (8 * number + 0 + 3) 3 number false Four (omega arith) (omega arith) (omega arith) (omega arith) (omega arith) refl
made (LocalShort zero) p n = cc
made (LocalShort (suc zero)) p n = refl
made (LocalShort (suc (suc zero))) p n = refl
made (LocalShort (suc (suc (suc zero)))) p n = refl
made (LocalShort (suc (suc (suc (suc zero))))) p n = refl
made (LocalShort (suc (suc (suc (suc (suc zero)))))) p n = refl
made (LocalShort (suc (suc (suc (suc (suc (suc zero))))))) p n = refl
made (LocalShort (suc (suc (suc (suc (suc (suc (suc d)))))))) p n = let k = short_under (suc (suc (suc (suc (suc (suc (suc d))))))) p in absurd (omega arith)
made (LocalLong Exact) p n = refl
made (LocalLong StampLate) p n = refl
made (LocalLong PacketLate) p n = refl
made (LocalLong BothLate) p n = refl
made First p n = refl
made Second p n = refl
made (Extended true true low) p n = let k = ltb-true low 8 p in extension_made (128 + 16 * low + 4 + 8) low true true (omega arith) (omega arith) (omega arith) (omega arith) (omega arith)
made (Extended true false low) p n = let k = ltb-true low 8 p in extension_made (128 + 16 * low + 0 + 8) low true false (omega arith) (omega arith) (omega arith) (omega arith) (omega arith)
made (Extended false true low) p n = let k = ltb-true low 8 p in extension_made (0 + 16 * low + 4 + 8) low false true (omega arith) (omega arith) (omega arith) (omega arith) (omega arith)
made (Extended false false low) p n = let k = ltb-true low 8 p in extension_made (0 + 16 * low + 0 + 8) low false false (omega arith) (omega arith) (omega arith) (omega arith) (omega arith)
made Reserved p n = absurd (n refl)
