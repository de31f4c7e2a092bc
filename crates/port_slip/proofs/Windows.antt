-- The last bits of an open segment.
use Rattle.std.proofs.Common.{◌≡◌, ◌≢◌, ℕ, zero, suc, ◌+◌, ◌-◌, ◌*◌, ◌/◌, ◌%◌, ◌^◌, ◌<◌, ◌≤◌, List, [], ◌∷◌, ◌++◌, length, length-append, length-drop, take, drop, min, Bool, true, false, refl, sym, ◌∙◌, ap, arith}
use Rattle.std.specs.Prelude.{◌&&◌}
use Rattle.std.proofs.lemmas.Bool.{lt-ltb}
use Rattle.std.specs.Int.{w8, trailing_ones, leading_ones}
use Rattle.std.proofs.Math.Nat.{pow-le-pow_right, mul-le-mul_right}
use Rattle.std.proofs.Math.Pow.{shr_lt}
use Rattle.port_slip.specs.Bits.{bits, ones, whole_bytes}
use Rattle.port_slip.specs.Runs.{run_after, is_quiet, later, IsWindow}
use Rattle.port_slip.proofs.Bits.{bits_length, bits_append, bits_split, bits_drop, bits_take, few_bits, whole_step, whole_low, low_bytes}
use Rattle.port_slip.proofs.Runs.{later_append, later_length, run_append, quiet_append, quiet_ones, quiet_short, quiet_most, run_counts, quiet_drop, run_drop, later_drop, run_ones}
use Rattle.port_slip.proofs.Cutting.{begun}
use Rattle.port_slip.proofs.Table.{first_parts, last_run}

-- the run after a byte that has a zero
zero_in : (r q n : ℕ) (z : List Bool) → run_after r (ones n ++ (false ∷ z)) ≡ run_after q (ones n ++ (false ∷ z))
zero_in r q n z = run_append r (ones n) (false ∷ z) ∙ sym (run_append q (ones n) (false ∷ z))

pub run_of_byte : (r b : ℕ) → b < 256 → b ≢ 255 → run_after r (bits 8 b) ≡ leading_ones w8 b
run_of_byte r b h n =
    let p = (first_parts b h n).1 in
    ap (run_after r) p ∙ zero_in r 0 (trailing_ones w8 b) _ ∙ ap (run_after 0) (sym p) ∙ (last_run b h n).1

pub run_of_full : (r : ℕ) → run_after r (bits 8 255) ≡ r + 8
unfolding bits
run_of_full r = omega arith

pub quiet_full : (r : ℕ) → is_quiet r (bits 8 255) ≡ true
unfolding bits
quiet_full r = refl

pub quiet_byte : (r b : ℕ) → b < 256 → b ≢ 255 → r + trailing_ones w8 b < 31 → is_quiet r (bits 8 b) ≡ true
quiet_byte r b h n l =
    let e = trailing_ones w8 b in
    let p = first_parts b h n in
    let z = bits (7 - e) (b / 2 ^ (e + 1)) in
    let o = run_ones r e in
    let m = bits_length (7 - e) (b / 2 ^ (e + 1)) in
    let s : is_quiet (r + e) (false ∷ z) ≡ true = ap (λ x. x && is_quiet 0 z) (lt-ltb (r + e) 31 l) ∙ quiet_short 0 z (omega (arith, m)) in
    ap (is_quiet r) p.1 ∙ quiet_append r (ones e) (false ∷ z) (quiet_ones r e) (ap (λ k. is_quiet k (false ∷ z)) o ∙ s)

-- of a pattern and the bits after it
begun_value : (n y : ℕ) → n ≤ 7 → y < 128 → 2147483647 + y * 4294967296 % 18446744073709551616 ≡ 2147483647 + y * 2 ^ 32
begun_value n y h l = omega arith

pub begun_bits : (n b : ℕ) → n ≤ 7 → b < 256 →
    bits (39 - n) (2147483647 + b / 2 ^ (n + 1) * 4294967296 % 18446744073709551616) ≡ begun (bits (7 - n) (b / 2 ^ (n + 1)))
unfolding bits ones
begun_bits n b h l =
    let y = b / 2 ^ (n + 1) in
    let few : y < 128 = shr_lt 7 (n + 1) (let k : 8 ≤ 7 + (n + 1) = omega arith in let p = pow-le-pow_right {n = 2} (omega arith) k in omega (arith, p, l)) in
    let k : 39 - n ≡ 32 + (7 - n) = omega arith in
    ap (bits (39 - n)) (begun_value n y h few) ∙ ap (λ m. bits m (2147483647 + y * 2 ^ 32)) k ∙ bits_append 32 (7 - n) 2147483647 y (omega arith)

pub begun_fits : (n b : ℕ) → n ≤ 7 → b < 256 →
    2147483647 + b / 2 ^ (n + 1) * 4294967296 % 18446744073709551616 < 2 ^ (39 - n)
begun_fits zero b h l = omega (arith, l)
begun_fits (suc zero) b h l = omega (arith, l)
begun_fits (suc (suc zero)) b h l = omega (arith, l)
begun_fits (suc (suc (suc zero))) b h l = omega (arith, l)
begun_fits (suc (suc (suc (suc zero)))) b h l = omega (arith, l)
begun_fits (suc (suc (suc (suc (suc zero))))) b h l = omega (arith, l)
begun_fits (suc (suc (suc (suc (suc (suc zero)))))) b h l = omega (arith, l)
begun_fits (suc (suc (suc (suc (suc (suc (suc zero))))))) b h l = omega (arith, l)
begun_fits (suc (suc (suc (suc (suc (suc (suc (suc n)))))))) b h l = absurd (omega arith)

pub begun_window : (run : ℕ) (z : List Bool) → length z ≤ 7 → run ≡ run_after 0 z → run ≤ 7 → IsWindow run (begun z)
unfolding ones
begun_window run z l e m = record {
  long = omega arith;
  quiet = quiet_short 0 z (omega arith);
  run_is = omega (arith, e, m);
}

pub begun_run : (n : ℕ) (z : List Bool) → run_after 0 (ones n ++ (false ∷ z)) ≡ run_after 0 z
begun_run n z = run_append 0 (ones n) (false ∷ z)

-- with one more byte, in which no pattern ends, and without the first eight
pub passed_window : (n run : ℕ) (k b : List Bool) → length b ≡ n → IsWindow run k → is_quiet run b ≡ true →
    IsWindow (min 31 (run_after run b)) (drop n (k ++ b))
passed_window n run k b e w q =
    let r = run_after 0 (later k) in
    let few : run < 31 → run ≡ r = λ h. (let e = w.run_is in omega (arith, e, h)) in
    let many : 31 ≤ run → 31 ≤ r = λ h. (let e = w.run_is in omega (arith, e, h)) in
    let same : later (k ++ b) ≡ later k ++ b = later_append k b (let l = w.long in omega (arith, l)) in
    let all : is_quiet 0 (later (k ++ b)) ≡ true = ap (is_quiet 0) same ∙ quiet_append 0 (later k) b w.quiet (quiet_most run r b few q) in
    record {
      long = (let a = length-append k b in let d = length-drop n (k ++ b) in let l = w.long in omega (arith, a, d, l, e));
      quiet = ap (is_quiet 0) (later_drop n (k ++ b)) ∙ quiet_drop n (later (k ++ b)) all;
      run_is = run_counts run r b few many ∙ ap (min 31) (sym (run_append 0 (later k) b)) ∙ ap (λ l. min 31 (run_after 0 l)) (sym same)
          ∙ run_drop n (later (k ++ b)) (let a = length-append k b in let l = w.long in let o = later_length (k ++ b) in omega (arith, a, l, o, e)) ∙ ap (λ l. min 31 (run_after 0 l)) (sym (later_drop n (k ++ b)));
    }

-- a byte over the bits does not go beyond a word
module _ (held kept b : ℕ) (h : held ≤ 39) (f : kept < 2 ^ held) (l : b < 256) where
  few : 2 ^ held ≤ 549755813888
  few = pow-le-pow_right {n = 2} (omega arith) h

  product : b * 2 ^ held ≤ 255 * 2 ^ held
  product = mul-le-mul_right (2 ^ held) (let k : b ≤ 255 = omega arith in k)

  whole : b * 2 ^ held % 18446744073709551616 ≡ b * 2 ^ held
  whole = omega (arith, few, product)

  pub passed_bits : bits held ((kept + b * 2 ^ held % 18446744073709551616) / 256) ≡ drop 8 (bits held kept ++ bits 8 b)
  passed_bits =
      let k : held + 8 ≡ 8 + held = omega arith in
      ap (λ x. bits held ((kept + x) / 256)) whole ∙ sym (bits_drop 8 held (kept + b * 2 ^ held)) ∙ ap (λ m. drop 8 (bits m (kept + b * 2 ^ held))) (sym k) ∙ ap (drop 8) (bits_append held 8 kept b f)

  pub passed_fits : (kept + b * 2 ^ held % 18446744073709551616) / 256 < 2 ^ held
  passed_fits = let w = whole in let p = product in omega (arith, w, p, f)

  pub passed_room : kept + b * 2 ^ held % 18446744073709551616 < 18446744073709551616
  passed_room = let w = whole in let p = product in let q = few in omega (arith, w, p, q, f)

-- the first byte
pub first_byte : (held kept : ℕ) (s : List Bool) → 8 ≤ held →
    whole_bytes (take 8 (bits held kept) ++ s) ≡ kept % 256 ∷ whole_bytes s
first_byte held kept s h =
    let k : held ≡ 8 + (held - 8) = omega arith in
    let e : take 8 (bits held kept) ≡ bits 8 kept = ap (λ m. take 8 (bits m kept)) k ∙ bits_take 8 (held - 8) kept in
    ap (λ (l : List Bool). whole_bytes (l ++ s)) e ∙ whole_step kept s

-- the whole bytes of a window
pub four_bytes : (held kept : ℕ) → 32 ≤ held → held ≤ 39 →
    whole_bytes (bits held kept) ≡ kept % 256 ∷ (kept / 256 % 256 ∷ (kept / 65536 % 256 ∷ (kept / 16777216 % 256 ∷ [])))
four_bytes held kept h l =
    let m = held - 32 in
    let k : held ≡ 32 + m = omega arith in
    let a : kept / 256 / 256 ≡ kept / 65536 = omega arith in
    let b : kept / 256 / 256 / 256 ≡ kept / 16777216 = omega arith in
    ap (λ n. whole_bytes (bits n kept)) k ∙ ap whole_bytes (bits_split 32 m kept) ∙ whole_low 4 kept (bits m (kept / 2 ^ 32))
    ∙ ap (λ (r : List ℕ). low_bytes 4 kept ++ r) (few_bits (bits m (kept / 2 ^ 32)) (let n = bits_length m (kept / 2 ^ 32) in omega (arith, n, l)))
    ∙ ap (λ x. kept % 256 ∷ (kept / 256 % 256 ∷ (x % 256 ∷ (kept / 256 / 256 / 256 % 256 ∷ [])))) a ∙ ap (λ x. kept % 256 ∷ (kept / 256 % 256 ∷ (kept / 65536 % 256 ∷ (x % 256 ∷ [])))) b
