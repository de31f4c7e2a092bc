use Rattle.std.proofs.Common.{◌≡◌, ◌+◌, ◌-◌, ◌/◌, ◌^◌, List, ◌++◌, ℕ, suc, Bool, true, sym, ◌∙◌, ap, arith}
use Rattle.std.proofs.lemmas.Bool.{le-leb}
use Rattle.port_slip.specs.Bits.{bits, bits_of, ones}
use Rattle.port_slip.specs.Segments.{Realigned, cut, of_cut}
use Rattle.port_slip.specs.Runs.{EndsAfter, is_quiet}
use Rattle.port_slip.specs.Coming.{coming, none_found, of_open, opened, kept_bits}
use Rattle.port_slip.proofs.Bits.{bits_length}
use Rattle.port_slip.proofs.Steps.{made, made_same, hunt_ends, hunt_goes}
use Rattle.port_slip.proofs.slip.Slip.hunt.Goals as goal

pub overflow_sub-run-in-None : goal.overflow_sub-run-in-None
overflow_sub-run-in-None c = c.run_over-next.ensures.most

pub invariant_of-self-in-None : goal.invariant_of-self-in-None
invariant_of-self-in-None c =
    let w = c.args.self.now in
    let m = c.run_over-next.ensures.most in
    let r = c.requires.room in
    let f = c.from-in-None.ensures in
    let s = w.skips in
    record {
      few = w.few;
      skips = omega (arith, m, r, f, s);
      drops = w.drops;
      finds = w.finds;
      hunts = le-leb c.run_over-next.result 31 c.run_over-next.ensures.few;
      none = ap (λ q. none_found q w.patterns) (sym c.requires.hunting) ∙ w.none;
    }

pub returns-in-Some-clause-to_come : goal.returns-in-Some-clause-to_come
returns-in-Some-clause-to_come c = λ more.
    let w = c.args.self.now in
    let n = c.in-Some.count in
    let k : EndsAfter c.args.run c.args.byte n = c.in-Some.ensures in
    let s = bits_of more in
    let z = bits (7 - n) (c.args.byte / 2 ^ (n + 1)) in
    let x = coming w.phase (bits 8 c.args.byte ++ s) in
    let o = of_open (opened (kept_bits c.begun.result ++ s)) in
    let e : x ≡ made o.bytes (c.args.run + n - 31) o.dropped (suc o.patterns) =
    ap (λ p. coming p (bits 8 c.args.byte ++ s)) c.requires.hunting ∙ ap (λ (b : List Bool). of_cut (cut (ones c.args.run ++ (b ++ s)))) k.parts
    ∙ hunt_ends c.args.run n z s k.enough
    ∙ ap (λ (b : List Bool). let o : Realigned = of_open (opened (b ++ s)) in made o.bytes (c.args.run + n - 31) o.dropped (suc o.patterns)) (sym c.begun.ensures.bits) in
    let f = c.from.ensures in
    let sk = ap (λ (r : Realigned). r.skipped) e in
    let pa = ap (λ (r : Realigned). r.patterns) e in
    made_same (ap (λ (r : Realigned). r.bytes) e) (omega (arith, f, sk)) (ap (λ (r : Realigned). w.dropped + r.dropped) e) (omega (arith, pa))

pub returns-in-None-clause-to_come : goal.returns-in-None-clause-to_come
returns-in-None-clause-to_come c = λ more.
    let w = c.args.self.now in
    let q : is_quiet c.args.run (bits 8 c.args.byte) ≡ true = c.in-None.ensures in
    let s = bits_of more in
    let x = coming w.phase (bits 8 c.args.byte ++ s) in
    let next = c.run_over-next.result in
    let o = of_cut (cut (ones next ++ s)) in
    let e : x ≡ made o.bytes (c.args.run + 8 - next + o.skipped) o.dropped o.patterns =
    ap (λ p. coming p (bits 8 c.args.byte ++ s)) c.requires.hunting ∙ hunt_goes c.args.run (bits 8 c.args.byte) s (bits_length 8 c.args.byte) q
    ∙ ap (λ (m : ℕ). let o : Realigned = of_cut (cut (ones m ++ s)) in made o.bytes (c.args.run + 8 - m + o.skipped) o.dropped o.patterns) (sym c.run_over-next.ensures.grown) in
    let f = c.from-in-None.ensures in
    let sk = ap (λ (r : Realigned). r.skipped) e in
    made_same (ap (λ (r : Realigned). r.bytes) e) (omega (arith, f, sk)) (ap (λ (r : Realigned). w.dropped + r.dropped) e) (ap (λ (r : Realigned). w.patterns + r.patterns) e)
