use Rattle.std.proofs.Common.{◌≡◌, ◌+◌, ◌*◌, ◌%◌, ◌^◌, ◌++◌, List, ℕ, Bool, take, rules, sym, ◌∙◌, ap, arith}
use Rattle.port_slip.specs.Bits.{bits, bits_of, whole_bytes}
use Rattle.port_slip.proofs.Wide.{are_bytes, eight_bits, wide_room, wide_bits, wide_bytes}
use Rattle.port_slip.proofs.window.BitWindow.first_word.Goals as goal

pub overflow_add-self : goal.overflow_add-self
overflow_add-self c =
    let w = c.args.self in
    let r = wide_room w.held w.kept c.from_le_bytes.result w.most w.fits in omega (arith, r)

pub returns : goal.returns
returns c = λ s.
    let w = c.args.self in
    let x = c.from_le_bytes.result in
    let v = w.kept + x * 2 ^ w.held % 18446744073709551616 in
    let word : bits 64 x ≡ bits_of c.args.word.now = eight_bits c.args.word.now x (search rules) (are_bytes c.args.word.now (search rules) (λ i. search rules)) c.from_le_bytes.ensures in
    wide_bytes v (take 64 (bits w.held w.kept ++ bits_of c.args.word.now)) s (wide_bits w.held w.kept x w.most w.fits ∙ ap (λ (l : List Bool). take 64 (bits w.held w.kept ++ l)) word)
    ∙ ap (λ (l : List ℕ). l ++ whole_bytes s) (sym c.to_le_bytes.ensures)
