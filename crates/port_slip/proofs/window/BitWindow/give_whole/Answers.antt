use Rattle.std.proofs.Common.{◌/◌, ◌%◌, List, [], ◌∷◌, ◌++◌, ℕ, arith, ap, sym, ◌∙◌}
use Rattle.port_slip.proofs.Bits.{bits_length}
use Rattle.port_slip.proofs.Windows.{four_bytes}
use Rattle.port_slip.proofs.window.BitWindow.give_whole.Goals as goal

pub returns-clause-bytes : goal.returns-clause-bytes
returns-clause-bytes c =
    let w = c.args.self in
    let all = four_bytes w.held w.kept (let l = w.sound.long in let b = bits_length w.held w.kept in omega (arith, l, b)) w.most in
    c.push-4.ensures.items ∙ ap (λ (l : List ℕ). l ++ w.kept / 16777216 % 256 ∷ []) (c.push-3.ensures.items
    ∙ ap (λ (l : List ℕ). l ++ w.kept / 65536 % 256 ∷ []) (c.push-2.ensures.items ∙ ap (λ (l : List ℕ). l ++ w.kept / 256 % 256 ∷ [])
    (c.push.ensures.items ∙ ap (λ (l : List ℕ). l ++ w.kept % 256 ∷ []) c.requires))) ∙ sym all
