use Rattle.std.proofs.Common.{ℕ, ◌<◌, get_or, cond, refl, sym, subst, rules, arith}
use Rattle.std.specs.Prelude.{◌==◌, IfSome}
use Rattle.stp_codec.specs.Names.{Go, Msn, Start, row_at, rule, begin}
use Rattle.stp_codec.specs.Parts.{row_packet_of}
use Rattle.stp_codec.specs.Wholes.{nibbles_in, between, Ends, left_by}
use Rattle.stp_codec.proofs.Between.{length-nibbles}
use Rattle.stp_codec.proofs.Finishing.{both_some}
use Rattle.stp_codec.proofs.PartsPieces.{first_whole, some_nibbles, place_is}
use Rattle.stp_codec.proofs.RowTables.{one_at_most}
use Rattle.stp_codec.proofs.flat.parts_from_first.Goals as goal

-- the packet begins with the first nibble
whole : (c : goal.After-parts_from_opcode) → IfSome c.parts_from_opcode.result (λ x. Ends Msn (Go (left_by Msn c.args.first)) (between (nibbles_in c.args.bytes.now) 0 x.nibbles) (row_packet_of x))
whole c =
    let xs = nibbles_in c.args.bytes.now in
    let l = length-nibbles c.args.bytes.now in
    let first = c.args.first in
    let start : ℕ = cond (first == 0) 1 0 in
    let nibble : ℕ = cond (first == 0) (get_or xs 0 0) first in
    let front = c.front_of.ensures in
    let opcode = c.opcode_in-number in
    let few = one_at_most (first == 0) in
    let some = opcode.ensures.few.0 in
    let place = place_is first c.from.result opcode.result.1 (search rules) some in
    let most = opcode.ensures.number in
    let is = c.if-number-eq-NONE.false in
    let small : opcode.result.0 < 35 = omega (arith, most, is) in
    let begins = front.first in
    both_some c.parts_from_opcode.result c.parts_from_opcode.ensures.end c.parts_from_opcode.ensures.whole
    (λ x m k. let after = m.0 in first_whole first nibble start xs x.nibbles (row_packet_of x)
    refl refl (omega (arith, place, after, some)) (omega (arith, l, c.requires.there))
    (omega (arith, begins))
    (subst (λ (i : ℕ). Ends Msn (rule Msn Start i) (between xs start x.nibbles) (row_packet_of x)) begins
    (opcode.ensures.whole xs start x.nibbles (row_packet_of x) small (omega (arith, l, few, c.requires.there)) front.second front.third
    (omega (arith, place, after, some))
    (subst (λ (i : ℕ). Ends Msn (begin (row_at opcode.result.0)) (between xs i x.nibbles) (row_packet_of x)) (sym place) k))))

pub returns-clause-whole : goal.returns-clause-whole
returns-clause-whole c = whole c

pub returns-clause-end : goal.returns-clause-end
returns-clause-end c =
    both_some c.parts_from_opcode.result c.parts_from_opcode.ensures.end (whole c)
    (λ x m k. (some_nibbles (left_by Msn c.args.first) (nibbles_in c.args.bytes.now) x.nibbles (row_packet_of x) k, m.1))
