use Rattle.std.proofs.Common.{◌∙◌, ap}
use Rattle.stp_grammar.specs.declared.packet.Row.{Row}
use Rattle.stp_grammar.specs.Opcodes.{line_of}
use Rattle.stp_grammar.proofs.Lines.{own_at}
use Rattle.stp_grammar.proofs.packet.Row.is_stamped.Goals as goal

pub returns : goal.returns
returns c =
    c.stamped_at.ensures ∙ ap (λ (r : Row). (line_of r).stamped) (own_at c.number.result c.args.self c.number.ensures.number)
