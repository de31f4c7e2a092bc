use Rattle.std.proofs.Common.{◌≡◌, ◌+◌, ◌*◌, List, ◌++◌, Bool, length, sym, ◌∙◌, ap, rules, arith}
use Rattle.port_slip.specs.Bits.{bits_of}
use Rattle.port_slip.specs.Segments.{Realigned}
use Rattle.port_slip.specs.Coming.{coming, of_open, opened, kept_bits}
use Rattle.port_slip.proofs.Bits.{bits_join, bits_count}
use Rattle.port_slip.proofs.Steps.{made, made_same, pass_goes}
use Rattle.port_slip.proofs.Taking.{takes}
use Rattle.port_slip.proofs.slip.Slip.step_word.Goals as goal

pub returns-clause-taken : goal.returns-clause-taken
returns-clause-taken c =
    let old = c.args.self.now in
    let v = c.in-Open.window in
    let word = c.args.word.now in
    let n : length word ≡ 8 = search rules in
    let out = c.first_word.result in
    let m : length out ≡ 8 = search rules in
    takes old _ word out (omega (arith, n)) (omega (arith, n, m)) (λ more.
    let s = bits_of more in
    let o = of_open (opened (kept_bits c.passed_word.result ++ s)) in
    let e : coming old.phase (bits_of (word ++ more)) ≡ made (out ++ o.bytes) 0 o.dropped o.patterns =
    ap (λ p. coming p (bits_of (word ++ more))) c.in-Open.is ∙ ap (λ (b : List Bool). of_open (opened (kept_bits v ++ b))) (bits_join word more)
    ∙ pass_goes v.run (kept_bits v) v.sound 8 out (bits_of word) s (omega arith) (bits_count word ∙ ap (λ m. 8 * m) n) c.in_ok-run.ensures.quiet c.first_word.ensures
    ∙ ap (λ (b : List Bool). let o : Realigned = of_open (opened (b ++ s)) in made (out ++ o.bytes) 0 o.dropped o.patterns) (sym c.passed_word.ensures.bits) in
    let sk = ap (λ (r : Realigned). r.skipped) e in
    made_same (ap (λ (r : Realigned). r.bytes) e) (omega (arith, sk)) (ap (λ (r : Realigned). old.dropped + r.dropped) e) (ap (λ (r : Realigned). old.patterns + r.patterns) e))
