use Rattle.std.proofs.Common.{◌≡◌, ◌≤◌, ◌<◌, ◌+◌, ◌-◌, ◌%◌, ◌/◌, ◌^◌, List, [], ◌∷◌, ◌++◌, take, ℕ, suc, length, Bool, true, sym, ◌∙◌, ap, arith}
use Rattle.std.specs.Prelude.{option_to_list}
use Rattle.port_slip.specs.Bits.{bits, bits_of, whole_bytes}
use Rattle.port_slip.specs.Segments.{Realigned}
use Rattle.port_slip.specs.Runs.{EndsAfter, is_quiet}
use Rattle.port_slip.specs.Coming.{coming, of_open, opened, kept_bits}
use Rattle.port_slip.proofs.Bits.{bits_length}
use Rattle.port_slip.proofs.Windows.{first_byte}
use Rattle.port_slip.proofs.Steps.{made, made_same, pass_ends, pass_goes, first_goes}
use Rattle.port_slip.proofs.slip.Slip.pass.Goals as goal
use Rattle.port_slip.proofs.slip.Slip.pass.Goals.{then-closed-ge8, else-closed-ge8}

pub overflow_sub-closed : goal.overflow_sub-closed
overflow_sub-closed c =
    let v = c.args.window in
    let l = v.sound.long in
    let b = bits_length v.held v.kept in omega (arith, l, b)

pub returns-after-closed-ge8-clause-to_come : goal.returns-after-closed-ge8-clause-to_come
returns-after-closed-ge8-clause-to_come c = λ more.
    let w = c.args.self.now in
    let v = c.args.window in
    let k = kept_bits v in
    let lk = v.sound.long in
    let bl = bits_length v.held v.kept in
    let vm = v.most in
    let n = c.in-Some.count in
    let f : EndsAfter v.run c.args.byte n = c.in-Some.ensures in
    let s = bits_of more in
    let z = bits (7 - n) (c.args.byte / 2 ^ (n + 1)) in
    let x = coming w.phase (bits 8 c.args.byte ++ s) in
    let o = of_open (opened (kept_bits c.begun.result ++ s)) in
    let out = option_to_list c.if-closed-ge8.sure in
    let made_so : (first : ℕ) → ((t : List Bool) → whole_bytes (take 8 k ++ t) ≡ first ∷ whole_bytes t) → (8 ≤ length k + n - 31 → out ≡ first ∷ []) → (length k + n - 31 < 8 → out ≡ []) →
    x ≡ made (out ++ o.bytes) 0 ((length k + n - 31) % 8 + o.dropped) (suc o.patterns) = λ first byte_is long short.
    ap (λ p. coming p (bits 8 c.args.byte ++ s)) c.requires.open ∙ ap (λ (b : List Bool). of_open (opened (k ++ (b ++ s)))) f.parts
    ∙ pass_ends v.run k v.sound first byte_is n z s (omega (arith, bl, vm)) f.few f.enough out long short
    ∙ ap (λ (b : List Bool). let o : Realigned = of_open (opened (b ++ s)) in made (out ++ o.bytes) 0 ((length k + n - 31) % 8 + o.dropped) (suc o.patterns)) (sym c.begun.ensures.bits) in
    let e : x ≡ made (out ++ o.bytes) 0 ((length k + n - 31) % 8 + o.dropped) (suc o.patterns) = elim c.if-closed-ge8.branch [
      | then-closed-ge8 u ↦ made_so u.first.result u.first.ensures
          (λ h. ap option_to_list u.sure-is)
          (λ h. absurd (let t = u.if-closed-ge8.true in omega (arith, h, t, bl)))
      | else-closed-ge8 u ↦ made_so (v.kept % 256) (λ t. first_byte v.held v.kept t (omega (arith, bl, lk)))
          (λ h. absurd (let t = u.if-closed-ge8.false in omega (arith, h, t, bl)))
          (λ h. ap option_to_list u.sure-is)
    ] in
    let g = c.from.ensures in
    let d : (length k + n - 31) % 8 ≡ (v.held + n - 31) % 8 = ap (λ m. (m + n - 31) % 8) bl in
    let sk = ap (λ (r : Realigned). r.skipped) e in
    let dr = ap (λ (r : Realigned). r.dropped) e in
    let pa = ap (λ (r : Realigned). r.patterns) e in
    made_same (ap (λ (r : Realigned). r.bytes) e) (omega (arith, sk)) (omega (arith, dr, g, d)) (omega (arith, pa))

pub returns-in-None-clause-to_come : goal.returns-in-None-clause-to_come
returns-in-None-clause-to_come c = λ more.
    let w = c.args.self.now in
    let v = c.args.window in
    let k = kept_bits v in
    let lk = v.sound.long in
    let q : is_quiet v.run (bits 8 c.args.byte) ≡ true = c.in-None.ensures in
    let s = bits_of more in
    let x = coming w.phase (bits 8 c.args.byte ++ s) in
    let o = of_open (opened (kept_bits c.passed.result ++ s)) in
    let first = c.first-in-None.result in
    let e : x ≡ made (first ∷ o.bytes) 0 o.dropped o.patterns =
    ap (λ p. coming p (bits 8 c.args.byte ++ s)) c.requires.open ∙ pass_goes v.run k v.sound 1 (first ∷ []) (bits 8 c.args.byte) s (omega arith) (bits_length 8 c.args.byte) q (first_goes k (bits 8 c.args.byte) first (omega (arith, lk)) c.first-in-None.ensures)
    ∙ ap (λ (b : List Bool). let o : Realigned = of_open (opened (b ++ s)) in made (first ∷ o.bytes) 0 o.dropped o.patterns) (sym c.passed.ensures.bits) in
    let sk = ap (λ (r : Realigned). r.skipped) e in
    made_same (ap (λ (r : Realigned). r.bytes) e) (omega (arith, sk)) (ap (λ (r : Realigned). w.dropped + r.dropped) e) (ap (λ (r : Realigned). w.patterns + r.patterns) e)
