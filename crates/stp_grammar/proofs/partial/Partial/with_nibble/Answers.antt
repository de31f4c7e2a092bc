use Rattle.std.proofs.Common.{◌∙◌, ap}
use Rattle.stp_grammar.specs.declared.partial.Partial.TheVariants.{Start, Second, Third, Payload}
use Rattle.stp_grammar.specs.Rule.{payload_with}
use Rattle.stp_grammar.proofs.Counting.{held_by}
use Rattle.stp_grammar.proofs.partial.Partial.with_nibble.Goals as goal

pub returns-in-Start-clause-held : goal.returns-in-Start-clause-held
returns-in-Start-clause-held c = held_by c.args.order c.args.self Start c.args.nibble c.first.result c.in-Start.is c.first.ensures.next

pub returns-in-Second-clause-held : goal.returns-in-Second-clause-held
returns-in-Second-clause-held c = held_by c.args.order c.args.self Second c.args.nibble c.second.result c.in-Second.is c.second.ensures.next

pub returns-in-Third-clause-held : goal.returns-in-Third-clause-held
returns-in-Third-clause-held c = held_by c.args.order c.args.self Third c.args.nibble c.third.result c.in-Third.is c.third.ensures.next

pub returns-in-Payload-clause-held : goal.returns-in-Payload-clause-held
returns-in-Payload-clause-held c =
    let k = c.in-Payload in
    held_by c.args.order c.args.self (Payload k.row k.count k.value) c.args.nibble c.payload_with.result k.is
    (c.payload_with.ensures.next ∙ ap (payload_with k.row k.count) c.number_with.ensures.value)
