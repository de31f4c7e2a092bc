use Rattle.std.proofs.Common.{◌≡◌, ◌-◌, List, [], ◌++◌, ℕ, append-nil, length, sym, ◌∙◌, ap, arith}
use Rattle.port_slip.specs.Bits.{whole_bytes}
use Rattle.port_slip.specs.Segments.{Realigned, realigned}
use Rattle.port_slip.specs.Coming.{coming, kept_bits}
use Rattle.port_slip.proofs.Bits.{bits_length}
use Rattle.port_slip.proofs.Steps.{made, made_same, hunt_over, pass_over}
use Rattle.port_slip.proofs.slip.Slip.finish.Goals as goal

pub overflow_sub-window : goal.overflow_sub-window
overflow_sub-window c = let w = c.in-Open.window in let l = w.sound.long in let b = bits_length w.held w.kept in omega (arith, l, b)

pub returns-in-Hunting-clause-whole : goal.returns-in-Hunting-clause-whole
returns-in-Hunting-clause-whole c = λ bytes so_far s.
    let w = c.args.self in
    let e : coming w.phase [] ≡ made [] c.in-Hunting.run' 0 0 = ap (λ p. coming p []) c.in-Hunting.is ∙ hunt_over c.in-Hunting.run' in
    let f = c.from.ensures in
    let sk = ap (λ (r : Realigned). r.skipped) e in
    let dr = ap (λ (r : Realigned). r.dropped) e in
    let pa = ap (λ (r : Realigned). r.patterns) e in
    ap realigned (sym (append-nil bytes)) ∙ s.completes []
    ∙ made_same (ap (λ (r : Realigned). so_far ++ r.bytes) e ∙ ap (λ (l : List ℕ). so_far ++ l) (sym c.requires.empty)) (omega (arith, sk, f)) (omega (arith, dr)) (omega (arith, pa))

pub returns-in-Open-clause-whole : goal.returns-in-Open-clause-whole
returns-in-Open-clause-whole c = λ bytes so_far s.
    let w = c.args.self in
    let v = c.in-Open.window in
    let b = bits_length v.held v.kept in
    let m = v.most in
    let e : coming w.phase [] ≡ made (whole_bytes (kept_bits v)) 0 (length (kept_bits v) - 32) 0 = ap (λ p. coming p []) c.in-Open.is ∙ pass_over v.run (kept_bits v) v.sound (omega (arith, b, m)) in
    let f = c.from-in-Open.ensures in
    let sk = ap (λ (r : Realigned). r.skipped) e in
    let dr = ap (λ (r : Realigned). r.dropped) e in
    let pa = ap (λ (r : Realigned). r.patterns) e in
    ap realigned (sym (append-nil bytes)) ∙ s.completes []
    ∙ made_same (ap (λ (r : Realigned). so_far ++ r.bytes) e ∙ ap (λ (l : List ℕ). so_far ++ l) (sym c.give_whole.ensures.bytes)) (omega (arith, sk)) (omega (arith, dr, f, b)) (omega (arith, pa))
