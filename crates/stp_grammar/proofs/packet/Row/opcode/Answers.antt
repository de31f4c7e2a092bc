use Rattle.std.proofs.Common.{ℕ, take, ◌∙◌, ap}
use Rattle.stp_grammar.specs.declared.packet.Row.{Row}
use Rattle.stp_grammar.specs.Opcodes.{line_of}
use Rattle.stp_grammar.proofs.Lines.{opcode, opcode_is, own_at}
use Rattle.stp_grammar.proofs.packet.Row.opcode.Goals as goal

pub returns : goal.returns
returns c =
    let n = c.number-index.result in
    ap (λ (k : ℕ). take k (opcode n)) c.nibbles_at.ensures.count ∙ opcode_is n c.number-index.ensures.few
    ∙ ap (λ (r : Row). (line_of r).opcode) (own_at n c.args.self c.number-index.ensures.number)
