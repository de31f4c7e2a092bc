-- One more nibble of a number.
use Rattle.std.proofs.Common.{◌≡◌, ℕ, ◌+◌, ◌*◌, ◌^◌, ◌%◌, ◌<◌, ◌≤◌, ◌∙◌, ap, arith}
use Rattle.std.proofs.Math.Nat.{pow-le-pow_right, mul-le-mul_left, mod-eq_of_lt, mul_comm}
use Rattle.std.proofs.lemmas.Grind.{pow_more}
use Rattle.trace_clock.proofs.LastWords.{pow_of}
use Rattle.stp_grammar.specs.declared.packet.Order.{Order}
use Rattle.stp_grammar.specs.declared.packet.Order.TheVariants.{Msn, Lsn}
use Rattle.stp_grammar.specs.Rule.{number_with}

most : (n : ℕ) → n < 16 → 16 ^ (n + 1) ≤ 2 ^ 64
most n h = let k : 16 ^ (n + 1) ≤ 16 ^ 16 = pow-le-pow_right (omega arith) {i = n + 1} {j = 16} (omega arith) in omega arith

pub msn_fits : (n v b : ℕ) → n < 16 → v < 16 ^ n → b < 16 → (16 * v + b < 16 ^ (n + 1)) × (16 ^ (n + 1) ≤ 2 ^ 64)
msn_fits n v b h k l = let p = pow_more 16 n in (omega (arith, p), most n h)

pub lsn_fits : (n v b : ℕ) → n < 16 → v < 16 ^ n → b < 16 → (v + 16 ^ n * b < 16 ^ (n + 1)) × (16 ^ (n + 1) ≤ 2 ^ 64)
lsn_fits n v b h k l =
    let p = pow_more 16 n in
    let q : 16 ^ n * b ≤ 16 ^ n * 15 = mul-le-mul_left (16 ^ n) (omega arith) in
    (omega (arith, p, q), most n h)

shifted_one : (n b : ℕ) → n < 16 → b < 16 → b * 2 ^ (4 * n) % 2 ^ 64 ≡ 16 ^ n * b
shifted_one n b h l =
    let p = pow_more 16 n in
    let q : 16 ^ n * b ≤ 16 ^ n * 15 = mul-le-mul_left (16 ^ n) (omega arith) in
    let m = most n h in
    let z : 1 ≤ 16 ^ n = (let k : 16 ^ 0 ≤ 16 ^ n = pow-le-pow_right (omega arith) {i = 0} {j = n} (omega arith) in k) in
    let e : b * 2 ^ (4 * n) ≡ 16 ^ n * b = ap (λ x. b * x) (pow_of n) ∙ mul_comm b (16 ^ n) in
    ap (λ x. x % 2 ^ 64) e ∙ mod-eq_of_lt (omega (arith, p, q, m, z))

-- shifted, nothing is lost
pub shifted : (n x b : ℕ) → n < 16 → b < 16 → x ≡ b → x * 2 ^ (4 * n) % 2 ^ 64 ≡ 16 ^ n * b
shifted n x b h l same = ap (λ y. y * 2 ^ (4 * n) % 2 ^ 64) same ∙ shifted_one n b h l

pub lsn_is : (order : Order) (n v b s : ℕ) → order ≡ Lsn → s ≡ 16 ^ n * b → v + s ≡ number_with order n v b
lsn_is Msn n v b s e f = cc
lsn_is Lsn n v b s e f = ap (λ x. v + x) f
