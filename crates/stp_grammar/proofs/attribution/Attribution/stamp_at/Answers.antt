use Rattle.stp_grammar.specs.declared.packet.Row.{Row}
use Rattle.stp_grammar.specs.declared.packet.StpPacket.TheVariants.{Stamped}
use Rattle.std.proofs.Common.{refl, sym, ◌∙◌}
use Rattle.stp_grammar.specs.Opcodes.{line_of, row_at}
use Rattle.stp_grammar.proofs.Attributing.{stands_as}
use Rattle.stp_grammar.proofs.RowBits.{is_row}
use Rattle.stp_grammar.proofs.Saying.{noted, of_row, stamped_of}
use Rattle.stp_grammar.proofs.attribution.Attribution.stamp_at.Goals as goal

pub returns-then-stamped_at-clause-list : goal.returns-then-stamped_at-clause-list
returns-then-stamped_at-clause-list c = λ packets s.
    let a = c.args in
    let row = row_at a.number in
    let stamped = sym c.stamped_at.ensures ∙ c.if-stamped_at.true in
    let few = is_row (λ (x : Row). (line_of x).stamped) refl a.number c.requires.number stamped in
    stands_as a.self.now c.stamp.new.self packets _ (Stamped row a.payload a.size a.word)
    (of_row a.number a.payload a.size a.word few ∙ stamped_of row a.payload a.size a.word (line_of row).stamped stamped)
    c.requires.proper s c.stamp.ensures.kept

pub returns-else-stamped_at-clause-list : goal.returns-else-stamped_at-clause-list
returns-else-stamped_at-clause-list c = λ packets s.
    let a = c.args in
    noted a.number a.payload a.size a.word a.self.now c.note_at.new.self packets c.requires.number
    (sym c.stamped_at.ensures ∙ c.if-stamped_at.false) c.requires.proper s c.note_at.ensures
