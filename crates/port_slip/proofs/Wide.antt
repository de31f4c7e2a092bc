-- The last bits of an open segment with eight bytes after them.
use Rattle.std.proofs.Common.{◌≡◌, ℕ, ◌+◌, ◌-◌, ◌*◌, ◌/◌, ◌%◌, ◌^◌, ◌<◌, ◌≤◌, List, [], ◌∷◌, ◌++◌, length, take, drop, Bool, get_or, sym, ◌∙◌, ap, subst, arith}
use Rattle.std.specs.Int.{w64, from_le_bytes, to_le_bytes}
use Rattle.std.proofs.lemmas.Nat.{pow-add, pow_pos}
use Rattle.std.proofs.Math.Arith.{mod-mul}
use Rattle.std.proofs.Math.Nat.{mod-lt, mul-le-mul_right, mul-mod_left, mul-div_left}
use Rattle.std.proofs.Math.Pow.{shr_lt}
use Rattle.std.proofs.Math.Seq.{take-append-add, drop-append-add}
use Rattle.port_slip.specs.Bits.{bits, bits_of, whole_bytes}
use Rattle.port_slip.proofs.Bits.{AreBytes, bits_length, bits_append, bits_take, bits_drop, low_bits, word_of, word_bits, low_bytes, whole_low}

pub word_is : (word : List ℕ) (x : ℕ) → length word ≡ 8 → x ≡ from_le_bytes w64 word → x ≡ word_of word
word_is (a ∷ (b ∷ (c ∷ (d ∷ (e ∷ (f ∷ (g ∷ (h ∷ [])))))))) x l e' = omega (arith, e')
word_is word x l e = absurd (omega arith)

pub are_bytes : (word : List ℕ) → length word ≡ 8 → ((i : ℕ) → get_or word i 0 < 256) → AreBytes word
are_bytes (a ∷ (b ∷ (c ∷ (d ∷ (e ∷ (f ∷ (g ∷ (h ∷ [])))))))) l k = (k 0, (k 1, (k 2, (k 3, (k 4, (k 5, (k 6, (k 7, tt))))))))
are_bytes word l k = absurd (omega arith)

pub eight_bits : (word : List ℕ) (x : ℕ) → length word ≡ 8 → AreBytes word → x ≡ from_le_bytes w64 word →
    bits 64 x ≡ bits_of word
eight_bits word x l a e = ap (bits 64) (word_is word x l e) ∙ ap (λ n. bits (8 * n) (word_of word)) (sym l) ∙ word_bits word a

pub eight_bytes : (v : ℕ) → to_le_bytes w64 v ≡ low_bytes 8 v
eight_bytes v =
    let e2 : v / 65536 ≡ v / 256 / 256 = omega arith in
    let e3 : v / 16777216 ≡ v / 256 / 256 / 256 = omega arith in
    let e4 : v / 4294967296 ≡ v / 256 / 256 / 256 / 256 = omega arith in
    let e5 : v / 1099511627776 ≡ v / 256 / 256 / 256 / 256 / 256 = omega arith in
    let e6 : v / 281474976710656 ≡ v / 256 / 256 / 256 / 256 / 256 / 256 = omega arith in
    let e7 : v / 72057594037927936 ≡ v / 256 / 256 / 256 / 256 / 256 / 256 / 256 = omega arith in
    cc

-- a word's bits over those that are held
module _ (held kept x : ℕ) (h : held ≤ 39) (f : kept < 2 ^ held) where
  abbrev left : ℕ
  left = 64 - held

  parts : 2 ^ left * 2 ^ held ≡ 18446744073709551616
  parts = sym (pow-add 2 left held) ∙ ap (λ n. 2 ^ n) (let k : left + held ≡ 64 = omega arith in k)

  over : x * 2 ^ held % 18446744073709551616 ≡ x % 2 ^ left * 2 ^ held
  over =
      ap (λ n. x * 2 ^ held % n) (sym parts) ∙ mod-mul (x * 2 ^ held) {m = 2 ^ left} {c = 2 ^ held} (pow_pos left) (pow_pos held)
      ∙ ap (λ y. y % 2 ^ left * 2 ^ held + x * 2 ^ held % 2 ^ held) (mul-div_left x (pow_pos held))
      ∙ (let d = mul-mod_left x (2 ^ held) in omega (arith, d))

  pub wide_room : kept + x * 2 ^ held % 18446744073709551616 < 18446744073709551616
  wide_room =
      let o = over in
      let p = parts in
      let l : x % 2 ^ left < 2 ^ left = mod-lt x (pow_pos left) in
      let k : x % 2 ^ left + 1 ≤ 2 ^ left = omega (arith, l) in
      let q = mul-le-mul_right (2 ^ held) k in
      omega (arith, o, p, q, f)

  pub wide_bits : bits 64 (kept + x * 2 ^ held % 18446744073709551616) ≡ take 64 (bits held kept ++ bits 64 x)
  wide_bits =
      let k : 64 ≡ held + left = omega arith in
      let n = bits_length held kept in
      ap (λ y. bits 64 (kept + y)) over ∙ ap (λ m. bits m (kept + x % 2 ^ left * 2 ^ held)) k ∙ bits_append held left kept (x % 2 ^ left) f
      ∙ ap (λ (l : List Bool). bits held kept ++ l) (sym (low_bits left x)) ∙ ap (λ (l : List Bool). bits held kept ++ l) (sym (bits_take left held x))
      ∙ sym (take-append-add (bits held kept) (bits (left + held) x) left)
      ∙ ap (λ m. take m (bits held kept ++ bits (left + held) x)) (let e : length (bits held kept) + left ≡ 64 = omega (arith, n) in e)
      ∙ ap (λ m. take 64 (bits held kept ++ bits m x)) (let e : left + held ≡ 64 = omega arith in e)

  pub wide_kept : bits held (x / 2 ^ left) ≡ drop 64 (bits held kept ++ bits 64 x)
  wide_kept =
      let n = bits_length held kept in
      sym (bits_drop left held x) ∙ sym (drop-append-add (bits held kept) (bits (left + held) x) left)
      ∙ ap (λ m. drop m (bits held kept ++ bits (left + held) x)) (let e : length (bits held kept) + left ≡ 64 = omega (arith, n) in e)
      ∙ ap (λ m. drop 64 (bits held kept ++ bits m x)) (let e : left + held ≡ 64 = omega arith in e)

  pub wide_fits : x < 18446744073709551616 → x / 2 ^ left < 2 ^ held
  wide_fits l = shr_lt held left (let e : 64 ≡ held + left = omega arith in subst (λ (n : ℕ). x < 2 ^ n) e l)

-- what comes first of them, as bytes
pub wide_bytes : (v : ℕ) (l s : List Bool) → bits 64 v ≡ l → whole_bytes (l ++ s) ≡ to_le_bytes w64 v ++ whole_bytes s
wide_bytes v l s e = ap (λ (y : List Bool). whole_bytes (y ++ s)) (sym e) ∙ whole_low 8 v s ∙ ap (λ (y : List ℕ). y ++ whole_bytes s) (sym (eight_bytes v))
