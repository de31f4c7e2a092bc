use Rattle.std.proofs.Common.{◌+◌, ◌*◌, ◌/◌, ◌%◌, ◌^◌, rules}
use Rattle.std.specs.Prelude.{◌==◌}
use Rattle.stp_codec.proofs.RowTables.{number_most}
use Rattle.stp_codec.proofs.PartsPieces.{opens}
use Rattle.stp_codec.proofs.flat.opcode_in.Goals as goal

pub returns-clause-number : goal.returns-clause-number
returns-clause-number c =
    let v = c.args.nibbles in
    number_most (v % 16 == 15) (v % 256 == 15) c.from-two.result c.from-three.result (v / 2 ^ (4 * (c.from-two.result + c.from-three.result)))
    (search rules) (search rules)

pub returns-clause-whole : goal.returns-clause-whole
returns-clause-whole c = λ r start end packet small room second third within k.
    opens c.args.nibbles r start end packet room second third c.from-two.result c.from-three.result (search rules) (search rules) small within k
