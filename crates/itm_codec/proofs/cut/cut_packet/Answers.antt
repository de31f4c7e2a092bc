use Rattle.std.proofs.Common.{◌≡◌, ℕ, ◌+◌, ◌<◌, List, [], ◌∷◌, length, take, get_or, drop, refl, sym, ◌∙◌, ap, arith}
use Rattle.std.proofs.lemmas.List.{take_more, take-append-drop}
use Rattle.itm_codec.specs.Names.{Next, Go, End, Fail, after, walk, Within, ItmPacket, Partial, rule}
use Rattle.trace_values.proofs.Walks.{walk_more}
use Rattle.itm_codec.proofs.Waiting.{whole_within, broken_within}
use Rattle.itm_codec.proofs.cut.cut_packet.Goals as goal

-- one more byte
next_byte : (s t : Partial) (bytes : List ℕ) (i : ℕ) (next : Next Partial ItmPacket) → i < length bytes →
    walk rule s (take i bytes) ≡ Within t → next ≡ rule t (get_or bytes i 0) →
    walk rule s (take (i + 1) bytes) ≡ after {U = ℕ} next (λ r. walk rule r []) []
next_byte s t bytes i next l e n =
    ap (walk rule s) (take_more bytes i 0 l) ∙ walk_more rule s t (take i bytes) (get_or bytes i 0 ∷ []) e
    ∙ ap (λ (x : Next Partial ItmPacket). after {U = ℕ} x (λ r. walk rule r []) []) (sym n)

pub returns-in-End-clause-whole : goal.returns-in-End-clause-whole
returns-in-End-clause-whole c = (
  next_byte c.args.unfinished c.loop-index.partial c.args.bytes.now c.loop-index.index (End c.in-End.packet) c.loop-index-test.true c.loop-index.invariant.part c.in-End.ensures.next,
  refl,
)

pub loop-index-preserved : goal.loop-index-preserved
loop-index-preserved c = record {
  part = next_byte c.args.unfinished c.loop-index.partial c.args.bytes.now c.loop-index.index (Go c.in-Go.more) c.loop-index-test.true c.loop-index.invariant.part c.in-Go.ensures.next;
  sound = c.in-Go.ensures.sound;
  few = (let a = c.loop-index.invariant.few in let b = c.in-Go.ensures.held in omega arith);
}

pub returns-in-End-clause-all : goal.returns-in-End-clause-all
returns-in-End-clause-all c = λ t h.
    let bytes = c.args.bytes.now in
    let i = c.loop-index.index in
    absurd (whole_within rule c.args.unfinished t (take (i + 1) bytes) (drop (i + 1) bytes) c.in-End.packet
    (next_byte c.args.unfinished c.loop-index.partial bytes i (End c.in-End.packet) c.loop-index-test.true c.loop-index.invariant.part c.in-End.ensures.next)
    (ap (walk rule c.args.unfinished) (take-append-drop (i + 1) bytes) ∙ h))

pub returns-in-Fail-clause-all : goal.returns-in-Fail-clause-all
returns-in-Fail-clause-all c = λ t h.
    let bytes = c.args.bytes.now in
    let i = c.loop-index.index in
    absurd (broken_within rule c.args.unfinished t (take (i + 1) bytes) (drop (i + 1) bytes) _
    (next_byte c.args.unfinished c.loop-index.partial bytes i (Fail _) c.loop-index-test.true c.loop-index.invariant.part c.in-Fail.ensures.next)
    (ap (walk rule c.args.unfinished) (take-append-drop (i + 1) bytes) ∙ h))
