use Rattle.std.proofs.Common.{◌<◌, ◌≡◌, true, subst, sym, arith}
use Rattle.itm_grammar.specs.declared.partial.Partial.{Partial}
use Rattle.itm_grammar.specs.Rule.{is_sound, StopsProperly}
use Rattle.itm_grammar.proofs.Ending.{payload_stops}
use Rattle.itm_grammar.proofs.partial.Partial.with_byte.Goals as goal

pub returns-in-Payload-clause-proper : goal.returns-in-Payload-clause-proper
returns-in-Payload-clause-proper c =
    let b : c.args.byte < 256 = omega arith in
    subst StopsProperly (sym c.payload_with.ensures.next)
    (payload_stops c.in-Payload.class c.in-Payload.count c.in-Payload.value c.args.byte b (subst (λ (s : Partial). is_sound s ≡ true) c.in-Payload.is c.requires.sound))
