use Rattle.std.proofs.Common.{◌≡◌, ◌-◌, ◌/◌, ◌^◌, ◌++◌, List, ℕ, Bool, drop, min, rules, sym, ◌∙◌, ap, subst, arith}
use Rattle.port_slip.specs.Bits.{bits, bits_of}
use Rattle.port_slip.specs.Runs.{IsWindow, is_quiet, run_after}
use Rattle.port_slip.proofs.Bits.{bits_length}
use Rattle.port_slip.proofs.Windows.{passed_window}
use Rattle.port_slip.proofs.Wide.{are_bytes, eight_bits, wide_kept, wide_fits}
use Rattle.port_slip.proofs.window.BitWindow.passed_word.Goals as goal

pub overflow_shr-result : goal.overflow_shr-result
overflow_shr-result c =
    let w = c.args.self in
    let l = w.sound.long in
    let n = bits_length w.held w.kept in omega (arith, l, n)

pub invariant_of-result : goal.invariant_of-result
invariant_of-result c =
    let w = c.args.self in
    let x = c.from_le_bytes.result in
    let word : bits 64 x ≡ bits_of c.args.word.now = eight_bits c.args.word.now x (search rules) (are_bytes c.args.word.now (search rules) (λ i. search rules)) c.from_le_bytes.ensures in
    let same : bits w.held (x / 2 ^ (64 - w.held)) ≡ drop 64 (bits w.held w.kept ++ bits 64 x) = wide_kept w.held w.kept x w.most w.fits in
    let sound = passed_window 64 w.run (bits w.held w.kept) (bits 64 x) (bits_length 64 x) w.sound (ap (λ l. is_quiet w.run l) word ∙ c.requires.quiet) in
    record {
      most = w.most;
      fits = wide_fits w.held w.kept x w.most w.fits (omega arith);
      sound = subst (λ (k : List Bool). IsWindow c.args.run k) (sym same)
          (subst (λ (n : ℕ). IsWindow n (drop 64 (bits w.held w.kept ++ bits 64 x))) (ap (λ l. min 31 (run_after w.run l)) word ∙ sym c.requires.next_is) sound);
    }

pub returns-clause-bits : goal.returns-clause-bits
returns-clause-bits c =
    let w = c.args.self in
    let x = c.from_le_bytes.result in
    let word : bits 64 x ≡ bits_of c.args.word.now = eight_bits c.args.word.now x (search rules) (are_bytes c.args.word.now (search rules) (λ i. search rules)) c.from_le_bytes.ensures in
    wide_kept w.held w.kept x w.most w.fits ∙ ap (λ (l : List Bool). drop 64 (bits w.held w.kept ++ l)) word
