use Rattle.std.proofs.Common.{◌≡◌, ◌<◌, ◌+◌, ◌-◌, ◌*◌, ◌/◌, ◌%◌, ◌^◌, ℕ, List, Bool, sym, ◌∙◌, ap, subst, arith}
use Rattle.port_slip.specs.Bits.{bits}
use Rattle.port_slip.specs.Runs.{IsWindow, run_after}
use Rattle.port_slip.proofs.Bits.{bits_length}
use Rattle.port_slip.proofs.Windows.{begun_bits, begun_fits, begun_window, begun_run}
use Rattle.port_slip.proofs.window.BitWindow.begun.Goals as goal

pub invariant_of-result : goal.invariant_of-result
invariant_of-result c =
    let n = c.args.count in
    let b = c.args.byte in
    let l = c.ranges.byte.fits in
    let z = bits (7 - n) (b / 2 ^ (n + 1)) in
    let r = c.ones_last.ensures.run c.requires.byte in
    let run : c.ones_last.result ≡ run_after 0 z = sym r.1 ∙ ap (run_after 0) c.requires.parts ∙ begun_run n z in
    let same : bits (39 - n) (2147483647 + c.from.result / 2 ^ (n + 1) * 4294967296 % 18446744073709551616) ≡ _ =
    ap (λ x. bits (39 - n) (2147483647 + x / 2 ^ (n + 1) * 4294967296 % 18446744073709551616)) c.from.ensures ∙ begun_bits n b c.requires.few l in
    record {
      most = omega arith;
      fits = subst (λ (x : ℕ). 2147483647 + x / 2 ^ (n + 1) * 4294967296 % 18446744073709551616 < 2 ^ (39 - n)) (sym c.from.ensures) (begun_fits n b c.requires.few l);
      sound = subst (λ (k : List Bool). IsWindow c.ones_last.result k) (sym same)
          (begun_window c.ones_last.result z (let m = bits_length (7 - n) (b / 2 ^ (n + 1)) in omega (arith, m)) run r.0);
    }

pub returns-clause-bits : goal.returns-clause-bits
returns-clause-bits c =
    let n = c.args.count in
    ap (λ x. bits (39 - n) (2147483647 + x / 2 ^ (n + 1) * 4294967296 % 18446744073709551616)) c.from.ensures ∙ begun_bits n c.args.byte c.requires.few c.ranges.byte.fits
