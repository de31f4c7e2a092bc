use Rattle.std.proofs.Common.{Bool, ap, cond, [], arith}
use Rattle.stp_grammar.specs.Said.{said_item}
use Rattle.trace_text.specs.StpText.{place_text, stamp_text}
use Rattle.trace_text.proofs.Putting.{named, within, then}
use Rattle.trace_text.proofs.SaidTables.{parts_are, parts_few}
use Rattle.trace_text.proofs.SaidTexts.{told_text}
use Rattle.trace_text.proofs.said.put_said.Goals as goal

pub put_part-from-requires-clause-few : goal.put_part-from-requires-clause-few
put_part-from-requires-clause-few c = (parts_few c.args.said.number c.requires.proper.number).0

pub put_part-from-requires-2-clause-few : goal.put_part-from-requires-2-clause-few
put_part-from-requires-2-clause-few c = (parts_few c.args.said.number c.requires.proper.number).1

pub put_part-from-requires-3-clause-few : goal.put_part-from-requires-3-clause-few
put_part-from-requires-3-clause-few c = (parts_few c.args.said.number c.requires.proper.number).2

pub returns : goal.returns
unfolding said_item
returns c =
    let said = c.args.said in
    let low = c.requires.proper.number in
    let written = c.requires.written in
    let parts = parts_are said.number low written in
    let word = named c.put_part-from.ensures parts.0 in
    let place = named c.put_times-from.ensures (ap (λ (t : Bool). cond t (place_text said.place) []) c.place_count.ensures.placed) in
    let width = named c.put_part-from-2.ensures parts.1 in
    let mark = named c.put_part-from-3.ensures parts.2 in
    let stamp = named c.put_stamp_times.ensures (ap (λ (t : Bool). cond t (stamp_text said.stamp) []) c.stamp_count.ensures.timed) in
    within (then word (then place (then width (then c.put_payload-from.ensures (then mark stamp))))) (omega arith)
    (told_text said.place said.stamp said.number said.payload written c.requires.proper.payload)
