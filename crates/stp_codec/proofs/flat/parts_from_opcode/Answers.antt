use Rattle.std.proofs.Common.{◌+◌, ◌≤◌, ◌∙◌, refl, sym, subst, arith, Bool, List, ℕ, cond}
use Rattle.stp_codec.specs.Names.{Go, End, Msn, StpPacket, Plain, Stamped, Size, row_at, begin, after_payload}
use Rattle.stp_codec.specs.Parts.{row_packet_of}
use Rattle.stp_codec.specs.Wholes.{nibbles_in, between, Ends}
use Rattle.stp_codec.proofs.Between.{length-nibbles, between_none}
use Rattle.stp_codec.proofs.Finishing.{ends_begin_at, both_some}
use Rattle.stp_codec.proofs.flat.parts_from_opcode.Goals as goal
use Rattle.stp_codec.proofs.flat.parts_from_opcode.Goals.{After-number_at_once-payload}

-- what the nibbles after the payload end, all nibbles do
from_payload : (c : After-number_at_once-payload) (last : ℕ) (packet : StpPacket) → c.args.start + c.payload_at-most.result ≤ last →
    Ends Msn (after_payload (row_at c.args.number) c.number_at_once-payload.result) (between (nibbles_in c.args.bytes.now) (c.args.start + c.payload_at-most.result) last) packet →
    Ends Msn (begin (row_at c.args.number)) (between (nibbles_in c.args.bytes.now) c.args.start last) packet
from_payload c last packet m k =
    let l = length-nibbles c.args.bytes.now in
    let count = c.payload_at-most.ensures.count in
    let few = c.payload_at-most.ensures.few in
    ends_begin_at Msn (nibbles_in c.args.bytes.now) c.args.start (c.args.start + c.payload_at-most.result) (row_at c.args.number) c.number_at_once-payload.result last packet
    (omega (arith, count)) m (omega (arith, l, few, c.requires.there, c.requires.start)) c.number_at_once-payload.ensures.value k

pub returns-then-stamped_at-clause-whole : goal.returns-then-stamped_at-clause-whole
returns-then-stamped_at-clause-whole c =
    let row = row_at c.args.number in
    let payload = c.number_at_once-payload.result in
    both_some c.parts_from_size.result c.parts_from_size.ensures.end c.parts_from_size.ensures.whole
    (λ x m k. from_payload ((goal.at.returns-then-stamped_at-clause-whole c).After-number_at_once-payload) x.nibbles (row_packet_of x) (let q = m.0 in omega (arith, q))
    (subst (λ (t : Bool). Ends Msn (cond t (Go (Size row payload)) (End (Plain row payload))) (between (nibbles_in c.args.bytes.now) (c.args.start + c.payload_at-most.result) x.nibbles) (row_packet_of x))
    (sym c.if-stamped_at.true ∙ c.stamped_at.ensures) k))

pub returns-else-stamped_at-clause-whole : goal.returns-else-stamped_at-clause-whole
returns-else-stamped_at-clause-whole c =
    let xs = nibbles_in c.args.bytes.now in
    let row = row_at c.args.number in
    let payload = c.number_at_once-payload.result in
    let end = c.args.start + c.payload_at-most.result in
    from_payload ((goal.at.returns-else-stamped_at-clause-whole c).After-number_at_once-payload) end
    (row_packet_of (record { nibbles = end; number = c.args.number; payload = payload; size = 0; word = 0 })) (omega arith)
    (subst (λ (t : Bool). Ends Msn (cond t (Go (Size row payload)) (End (Plain row payload))) (between xs end end)
    (cond t (Stamped row payload 0 0) (Plain row payload))) (sym c.if-stamped_at.false ∙ c.stamped_at.ensures)
    (subst (λ (w : List ℕ). Ends Msn (End (Plain row payload)) w (Plain row payload)) (sym (between_none xs end)) refl))
