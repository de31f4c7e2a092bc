-- One more payload byte leaves a number that fits.
use Rattle.std.proofs.Common.{◌≡◌, ℕ, zero, suc, ◌+◌, ◌*◌, ◌^◌, ◌%◌, ◌<◌, ◌≤◌, true, false, cond, refl, subst, arith, ◌⊎◌, inl, inr}
use Rattle.std.specs.Prelude.{nat_lt, ◌==◌, ◌&&◌}
use Rattle.std.proofs.lemmas.Bool.Decides.{nat_tests}
use Rattle.itm_grammar.specs.declared.packet.Size.{Size}
use Rattle.itm_grammar.specs.declared.packet.Size.TheVariants.{One, Two, Four}
use Rattle.itm_grammar.specs.declared.header.Class.{Class}
use Rattle.itm_grammar.specs.declared.header.Class.TheVariants.{Zero, Overflow as Overflowed, Source, LocalShort, LocalLong, GlobalFirst as First, GlobalSecond as Second, Extension as Extended, Reserved}
use Rattle.itm_grammar.specs.Header.{is_proper_class}
use Rattle.itm_grammar.specs.Spelling.{byte_count}
use Rattle.itm_grammar.specs.Rule.{another_follows, digit, base_of, most_bytes, is_sound_payload, FitsLast}
use Rattle.itm_grammar.proofs.Deciding.{goes_under}

-- what a sound payload is
pub parts : (n m v p : ℕ) → (nat_lt n m && nat_lt v p) ≡ true → (n < m) × (v < p)
parts n m v p e = grind (arith, nat_tests)

joined : (n m v p : ℕ) → n < m → v < p → (nat_lt n m && nat_lt v p) ≡ true
joined n m v p h k = grind (arith, nat_tests)

-- one more byte of 8 bits
pub more_bytes : (n v b : ℕ) → n < 4 → v < 256 ^ n → b < 256 → (v + b * 256 ^ n < 256 ^ (n + 1)) × (v + b * 256 ^ n < 2 ^ 32)
more_bytes zero v b h k l = (omega arith, omega arith)
more_bytes (suc zero) v b h k l = (omega arith, omega arith)
more_bytes (suc (suc zero)) v b h k l = (omega arith, omega arith)
more_bytes (suc (suc (suc zero))) v b h k l = (omega arith, omega arith)
more_bytes (suc (suc (suc (suc n)))) v b h k l = absurd (omega arith)

-- and of 7
pub more_groups : (n v b : ℕ) → n < 6 → v < 128 ^ n → b < 128 → (v + b * 128 ^ n < 128 ^ (n + 1)) × (n < 4 → v + b * 128 ^ n < 2 ^ 28)
more_groups zero v b h k l = (omega arith, λ s. omega arith)
more_groups (suc zero) v b h k l = (omega arith, λ s. omega arith)
more_groups (suc (suc zero)) v b h k l = (omega arith, λ s. omega arith)
more_groups (suc (suc (suc zero))) v b h k l = (omega arith, λ s. omega arith)
more_groups (suc (suc (suc (suc zero)))) v b h k l = (omega arith, λ s. absurd (omega arith))
more_groups (suc (suc (suc (suc (suc zero))))) v b h k l = (omega arith, λ s. absurd (omega arith))
more_groups (suc (suc (suc (suc (suc (suc n)))))) v b h k l = absurd (omega arith)

pub at_most_four : (size : Size) → byte_count size ≤ 4
at_most_four One = omega arith
at_most_four Two = omega arith
at_most_four Four = omega arith

low_fits : (low : ℕ) → nat_lt low 8 ≡ true → low < 8
low_fits low e = grind (arith, nat_tests)

-- what an extension's byte says: seven bits, or eight at the fourth
extension_digit : (n b : ℕ) → b < 256 → ((n < 3) ⊎ (3 < n)) × (cond (n == 3) b (b % 128) ≡ b % 128) ⊎ (n ≡ 3) × (cond (n == 3) b (b % 128) ≡ b)
extension_digit n b h = grind (arith, nat_tests)

fourth : (n v b : ℕ) → n ≡ 3 → v < 128 ^ n → b < 256 → v + b * 128 ^ n < 2 ^ 29
fourth n v b e k l = go (subst (λ (i : ℕ). v < 128 ^ i) e k) where
  go : v < 128 ^ 3 → v + b * 128 ^ n < 2 ^ 29
  go k = rw e (omega arith)

extension_fits : (n v b d : ℕ) → n < 4 → v < 128 ^ n → b < 256 → ((d ≡ b % 128) ⊎ (n ≡ 3) × (d ≡ b)) → v + d * 128 ^ n < 2 ^ 29
extension_fits n v b d h k l (inl e) = let m = more_groups n v d (omega arith) k (omega arith) in let s = m.1 h in omega arith
extension_fits n v b d h k l (inr e) = let s = fourth n v b e.0 k l in rw (e.1) s

pub fits_last : (c : Class) (n v b : ℕ) → b < 256 → is_proper_class c ≡ true → is_sound_payload c n v ≡ true → FitsLast c (v + digit c n b * base_of c ^ n)
fits_last Zero n v b h p s = tt
fits_last Overflowed n v b h p s = tt
fits_last (Source hardware number size) n v b h p s =
    let k = parts n (byte_count size) v (256 ^ n) s in
    let f = at_most_four size in
    (more_bytes n v b (omega arith) k.1 h).1
fits_last (LocalShort delta) n v b h p s = tt
fits_last (LocalLong lateness) n v b h p s =
    let k = parts n 4 v (128 ^ n) s in (more_groups n v (b % 128) (omega arith) k.1 (omega arith)).1 k.0
fits_last First n v b h p s = tt
fits_last Second n v b h p s = tt
fits_last (Extended true dwt low) n v b h p s =
    let k = parts n 4 v (128 ^ n) s in (
      low_fits low p,
      elim (extension_digit n b h) [
        | inl m ↦ extension_fits n v b (digit (Extended true dwt low) n b) k.0 k.1 h (inl m.1)
        | inr m ↦ extension_fits n v b (digit (Extended true dwt low) n b) k.0 k.1 h (inr m)
      ],
    )
fits_last (Extended false dwt low) n v b h p s = absurd (omega (arith, parts n 0 v (128 ^ n) s))
fits_last Reserved n v b h p s = tt

extension_goes : (n v b : ℕ) → n + 1 < 4 → v < 128 ^ n → b < 256 → v + cond (n == 3) b (b % 128) * 128 ^ n < 128 ^ (n + 1)
extension_goes n v b g k h =
    let e : cond (n == 3) b (b % 128) ≡ b % 128 = (let t : (n == 3) ≡ false = grind (arith, nat_tests) in rw t refl) in
    rw e (more_groups n v (b % 128) (omega arith) k (omega arith)).0

-- and where another byte follows, the state is sound
pub sound_next : (c : Class) (n v b : ℕ) → b < 256 → is_sound_payload c n v ≡ true → another_follows c n b ≡ true → is_sound_payload c (n + 1) (v + digit c n b * base_of c ^ n) ≡ true
sound_next c n v b h s g = joined (n + 1) (most_bytes c) (v + digit c n b * base_of c ^ n) (base_of c ^ (n + 1)) (goes_under c n b g) (next c s (goes_under c n b g)) where
  next : (c : Class) → is_sound_payload c n v ≡ true → n + 1 < most_bytes c → v + digit c n b * base_of c ^ n < base_of c ^ (n + 1)
  next Zero s u = absurd (omega arith)
  next Overflowed s u = absurd (omega arith)
  next (Source hardware number size) s u =
      let k = parts n (byte_count size) v (256 ^ n) s in
      let f = at_most_four size in
      (more_bytes n v b (omega arith) k.1 h).0
  next (LocalShort delta) s u = absurd (omega arith)
  next (LocalLong lateness) s u = let k = parts n 4 v (128 ^ n) s in (more_groups n v (b % 128) (omega arith) k.1 (omega arith)).0
  next First s u = let k = parts n 4 v (128 ^ n) s in (more_groups n v (b % 128) (omega arith) k.1 (omega arith)).0
  next Second s u = let k = parts n 6 v (128 ^ n) s in (more_groups n v (b % 128) (omega arith) k.1 (omega arith)).0
  next (Extended true dwt low) s u = let k = parts n 4 v (128 ^ n) s in extension_goes n v b u k.1 h
  next (Extended false dwt low) s u = absurd (omega arith)
  next Reserved s u = absurd (omega arith)

pub sound_whole : (c : Class) (n v : ℕ) → is_proper_class c ≡ true → is_sound_payload c n v ≡ true → (is_proper_class c && is_sound_payload c n v) ≡ true
sound_whole c n v p s = rw p s
