use Rattle.std.proofs.Common.{[], ◌∷◌, ◌++◌}
use Rattle.std.specs.Prelude.{◌==◌}
use Rattle.stp_grammar.specs.Opcodes.{line_of, row_at}
use Rattle.stp_grammar.specs.Said.{packet_at, row_packet, said_item}
use Rattle.stp_grammar.proofs.Saying.{item_said, number_said}
use Rattle.stp_grammar.proofs.attribution.Attribution.say.Goals as goal

pub returns-clause-item : goal.returns-clause-item
unfolding said_item
returns-clause-item c = λ packets s.
    let a = c.args in
    let e = c.stamp_at-stamp.ensures in
    let row = row_at a.number in
    let all = packets ++ packet_at a.number a.payload a.size a.word ∷ [] in
    number_said (a.number == 35) all _ (row_packet a.number a.payload a.size a.word)
    (item_said row a.payload a.size a.word (line_of row).stamped c.stamp_at-stamp.new.self all
    c.place.result c.stamp_at-stamp.result (e.list packets s) c.place.ensures.kept e.stamp)
