-- A frame's bytes with their offsets.
use Rattle.std.proofs.Common.{◌≡◌, ℕ, suc, ◌+◌, ◌<◌, ◌≤◌, List, [], ◌∷◌, ◌++◌, length, take, refl, ◌∙◌, ap, arith}
use Rattle.std.proofs.Math.ListN.{set, length-set}
use Rattle.std.proofs.lemmas.List.{take_more_set, take_all, length-take-le}
use Rattle.deformatter.specs.Names.{Placed, byte_at, units_of, offsets_of}
use Rattle.deformatter.specs.Unfinished.{zipped}

pub zipped_two : (a b : List ℕ) (p q c d : ℕ) → length a ≡ length b →
    zipped ((a ++ p ∷ []) ++ q ∷ []) ((b ++ c ∷ []) ++ d ∷ []) ≡ zipped a b ++ (byte_at p c ∷ (byte_at q d ∷ []))
zipped_two [] [] p q c d e = refl
zipped_two [] (y ∷ b) p q c d e = absurd (omega arith)
zipped_two (x ∷ a) [] p q c d e = absurd (omega arith)
zipped_two (x ∷ a) (y ∷ b) p q c d e = ap (λ (l : List Placed). byte_at x y ∷ l) (zipped_two a b p q c d (omega arith))

units : (a b : List ℕ) → length a ≡ length b → units_of (zipped a b) ≡ b
units [] [] e = refl
units [] (y ∷ b) e = absurd (omega arith)
units (x ∷ a) [] e = absurd (omega arith)
units (x ∷ a) (y ∷ b) e = ap (λ (l : List ℕ). y ∷ l) (units a b (omega arith))

offsets : (a b : List ℕ) → length a ≡ length b → offsets_of (zipped a b) ≡ a
offsets [] [] e = refl
offsets [] (y ∷ b) e = absurd (omega arith)
offsets (x ∷ a) [] e = absurd (omega arith)
offsets (x ∷ a) (y ∷ b) e = ap (λ (l : List ℕ). x ∷ l) (offsets a b (omega arith))

sizes : (a b : List ℕ) → length a ≡ length b → length (zipped a b) ≡ length b
sizes [] [] e = refl
sizes [] (y ∷ b) e = absurd (omega arith)
sizes (x ∷ a) [] e = absurd (omega arith)
sizes (x ∷ a) (y ∷ b) e = ap suc (sizes a b (omega arith))

taken_two : (l : List ℕ) (i x y : ℕ) → i + 1 < length l → take (i + 2) (set (set l i x) (i + 1) y) ≡ (take i l ++ x ∷ []) ++ y ∷ []
taken_two l i x y h =
    ap (λ (n : ℕ). take n (set (set l i x) (i + 1) y)) (let e : i + 2 ≡ i + 1 + 1 = omega arith in e)
    ∙ take_more_set (set l i x) (i + 1) y (let e = length-set l i x in omega arith)
    ∙ ap (λ (r : List ℕ). r ++ y ∷ []) (take_more_set l i x (omega arith))

-- one halfword more
pub added : (bytes offsets : List ℕ) (i p q c d : ℕ) → length bytes ≡ 16 → length offsets ≡ 16 → i ≤ 14 →
    zipped (take (i + 2) (set (set offsets i p) (i + 1) q)) (take (i + 2) (set (set bytes i c) (i + 1) d))
    ≡ zipped (take i offsets) (take i bytes) ++ (byte_at p c ∷ (byte_at q d ∷ []))
added bytes offsets i p q c d e f h =
    ap (λ (l : List ℕ). zipped l (take (i + 2) (set (set bytes i c) (i + 1) d))) (taken_two offsets i p q (omega arith))
    ∙ ap (λ (l : List ℕ). zipped ((take i offsets ++ p ∷ []) ++ q ∷ []) l) (taken_two bytes i c d (omega arith))
    ∙ zipped_two (take i offsets) (take i bytes) p q c d (let m = length-take-le i offsets (omega arith) in let n = length-take-le i bytes (omega arith) in omega arith)

-- the whole frame
pub whole_units : (bytes offsets : List ℕ) (i : ℕ) → length bytes ≡ 16 → length offsets ≡ 16 → i ≡ 16 → units_of (zipped (take i offsets) (take i bytes)) ≡ bytes
whole_units bytes offsets i e f h =
    units (take i offsets) (take i bytes) (let m = length-take-le i offsets (omega arith) in let n = length-take-le i bytes (omega arith) in omega arith)
    ∙ take_all i bytes (omega arith)

pub whole_offsets : (bytes offs : List ℕ) (i : ℕ) → length bytes ≡ 16 → length offs ≡ 16 → i ≡ 16 → offsets_of (zipped (take i offs) (take i bytes)) ≡ offs
whole_offsets bytes offs i e f h =
    offsets (take i offs) (take i bytes) (let m = length-take-le i offs (omega arith) in let n = length-take-le i bytes (omega arith) in omega arith)
    ∙ take_all i offs (omega arith)

pub size : (bytes offsets : List ℕ) (i : ℕ) → length bytes ≡ 16 → length offsets ≡ 16 → i ≤ 16 → length (zipped (take i offsets) (take i bytes)) ≡ i
size bytes offsets i e f h =
    sizes (take i offsets) (take i bytes) (let m = length-take-le i offsets (omega arith) in let n = length-take-le i bytes (omega arith) in omega arith)
    ∙ length-take-le i bytes (omega arith)
