use Rattle.std.proofs.Common.{◌≡◌, ◌<◌, ◌+◌, ◌*◌, ◌/◌, ◌%◌, ◌^◌, ℕ, List, ◌++◌, drop, Bool, sym, ◌∙◌, ap, subst, arith}
use Rattle.port_slip.specs.Bits.{bits}
use Rattle.port_slip.specs.Runs.{IsWindow}
use Rattle.port_slip.proofs.Bits.{bits_length}
use Rattle.port_slip.proofs.Windows.{passed_bits, passed_fits, passed_window, passed_room}
use Rattle.port_slip.proofs.window.BitWindow.passed.Goals as goal

pub overflow_add-result : goal.overflow_add-result
overflow_add-result c =
    let w = c.args.self in
    let e : w.kept + c.from.result * 2 ^ w.held % 18446744073709551616 ≡ w.kept + c.args.byte * 2 ^ w.held % 18446744073709551616 =
    ap (λ x. w.kept + x * 2 ^ w.held % 18446744073709551616) c.from.ensures in
    let r = passed_room w.held w.kept c.args.byte w.most w.fits c.ranges.byte.fits in
    let k : w.kept + c.from.result * 2 ^ w.held % 18446744073709551616 < 18446744073709551616 = subst (λ (x : ℕ). x < 18446744073709551616) (sym e) r in omega (arith, k)

pub invariant_of-result : goal.invariant_of-result
invariant_of-result c =
    let w = c.args.self in
    let b = c.args.byte in
    let same : bits w.held ((w.kept + c.from.result * 2 ^ w.held % 18446744073709551616) / 256) ≡ drop 8 (bits w.held w.kept ++ bits 8 b) =
    ap (λ x. bits w.held ((w.kept + x * 2 ^ w.held % 18446744073709551616) / 256)) c.from.ensures ∙ passed_bits w.held w.kept b w.most w.fits c.ranges.byte.fits in
    record {
      most = w.most;
      fits = subst (λ (x : ℕ). (w.kept + x * 2 ^ w.held % 18446744073709551616) / 256 < 2 ^ w.held) (sym c.from.ensures) (passed_fits w.held w.kept b w.most w.fits c.ranges.byte.fits);
      sound = subst (λ (k : List Bool). IsWindow c.run_over.result k) (sym same)
          (subst (λ (r : ℕ). IsWindow r (drop 8 (bits w.held w.kept ++ bits 8 b))) (sym c.run_over.ensures.grown)
          (passed_window 8 w.run (bits w.held w.kept) (bits 8 b) (bits_length 8 b) w.sound c.requires));
    }

pub returns-clause-bits : goal.returns-clause-bits
returns-clause-bits c =
    let w = c.args.self in
    ap (λ x. bits w.held ((w.kept + x * 2 ^ w.held % 18446744073709551616) / 256)) c.from.ensures ∙ passed_bits w.held w.kept c.args.byte w.most w.fits c.ranges.byte.fits
