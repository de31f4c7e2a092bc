use Rattle.std.proofs.Common.{◌≡◌, ℕ, ◌+◌, ◌-◌, ◌*◌, ◌/◌, ◌%◌, ◌^◌, ◌<◌, ◌≤◌, inl, inr, take, sym, ◌∙◌, subst, arith, rules, length, false}
use Rattle.std.specs.Prelude.{◌==◌}
use Rattle.std.proofs.lemmas.Bool.Decides.{nat_tests}
use Rattle.itm_codec.specs.Names.{bit_of, first_bits}
use Rattle.itm_codec.specs.Lengths.{groups_behind}
use Rattle.itm_codec.proofs.Told.{first_told}
use Rattle.itm_codec.proofs.Windows.{bit_is, groups_fit, sizes, under}
use Rattle.itm_codec.proofs.whole.first_global.Goals as goal

parts : (v : ℕ) → v < 268435456 → v ≡ v % 67108864 + 67108864 * bit_of (v / 67108864 % 2 == 1) + 134217728 * bit_of (v / 134217728 % 2 == 1)
parts v h = (let a = bit_is (v / 67108864) in let b = bit_is (v / 134217728) in
    let d : v ≡ v % 67108864 + 67108864 * (v / 67108864 % 2) + 134217728 * (v / 134217728 % 2) = omega arith in omega arith)

short : (n v : ℕ) → 0 < n → n < 4 → v < 128 ^ n → v < 2097152
short n v h l f = elim (sizes n h (omega arith)) [
  | inl e ↦ (let k : v < 128 = under n v 1 e f in omega arith)
  | inr m ↦ elim m [
    | inl e ↦ (let k : v < 16384 = under n v 2 e f in omega arith)
    | inr o ↦ elim o [
      | inl e ↦ (let k : v < 2097152 = under n v 3 e f in k)
      | inr e ↦ absurd (omega (arith, e, l))
    ]
  ]
]

no_bit : (m : ℕ) → m ≡ 0 → (m == 1) ≡ false
no_bit m e = grind (arith, nat_tests)

room_at : (v k : ℕ) (n : ℕ) → n ≡ k → v < 2 ^ first_bits k → v < 2 ^ first_bits n
room_at v k n e h = subst (λ (m : ℕ). v < 2 ^ first_bits m) (sym e) h

room : (n v : ℕ) → 0 < n → n ≤ 4 → v < 128 ^ n → v % 67108864 < 2 ^ first_bits n
room n v h l f = elim (sizes n h l) [
  | inl e ↦ (let k : v < 128 = under n v 1 e f in room_at (v % 67108864) 1 n e (let d : v % 67108864 < 128 = omega arith in d))
  | inr m ↦ elim m [
    | inl e ↦ (let k : v < 16384 = under n v 2 e f in room_at (v % 67108864) 2 n e (let d : v % 67108864 < 16384 = omega arith in d))
    | inr o ↦ elim o [
      | inl e ↦ (let k : v < 2097152 = under n v 3 e f in room_at (v % 67108864) 3 n e (let d : v % 67108864 < 2097152 = omega arith in d))
      | inr e ↦ room_at (v % 67108864) 4 n e (let d : v % 67108864 < 67108864 = omega arith in d)
    ]
  ]
]

pub overflow_cast-result : goal.overflow_cast-result
overflow_cast-result c =
    let k = first_told c.args.window.now c.args.bytes 148 (search rules) (omega arith) (sym c.requires.header) c.requires.told (omega arith) in
    omega (arith, k)

pub returns : goal.returns
returns c =
    let b = c.groups_in-value.ensures in
    let v = c.groups_in-value.result in
    let p = take 4 (groups_behind c.args.window.now) in
    let k = first_told c.args.window.now c.args.bytes 148 (search rules) (omega arith) (sym c.requires.header) c.requires.told (omega arith) in
    let n = length p in
    let fits : v < 128 ^ n = subst (λ x. x < 128 ^ n) (sym b.value) (groups_fit p) in (
      omega (arith, k),
      omega (arith, k),
      (
        p,
        k.0,
        k.4,
        (let e = k.1 in omega (arith, e)),
        (let e = k.1 in let l = k.3 in omega (arith, e, l)),
        omega arith,
        sym b.value ∙ parts v b.fits,
      ),
      (
        (let e = k.1 in let l = k.2 in omega (arith, e, l)),
        (let e = k.1 in let l = k.3 in omega (arith, e, l)),
        (let e = k.1 in subst (λ m. v % 67108864 < 2 ^ first_bits m) (let f : n ≡ c.args.bytes - 1 = omega (arith, e) in f) (room n v k.2 k.3 fits)),
        λ l. (let e = k.1 in let s = short n v k.2 (omega (arith, e, l)) fits in (no_bit (v / 67108864 % 2) (omega arith), no_bit (v / 134217728 % 2) (omega arith))),
      ),
    )
