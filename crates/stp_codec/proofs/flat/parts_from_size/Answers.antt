use Rattle.std.proofs.Common.{◌≡◌, ◌+◌, ◌<◌, sym, subst, arith, Bool, cond, ℕ}
use Rattle.stp_codec.specs.Names.{Go, Msn, Plain, Stamped, Size, row_at}
use Rattle.stp_codec.specs.Wholes.{nibbles_in, between, Ends, number_from}
use Rattle.stp_codec.proofs.Between.{length-nibbles}
use Rattle.trace_clock.proofs.LastWords.{few_nibbles}
use Rattle.stp_codec.proofs.PartsPieces.{ends_stamp}
use Rattle.stp_codec.proofs.flat.parts_from_size.Goals as goal

pub returns-clause-whole : goal.returns-clause-whole
returns-clause-whole c =
    let xs = nibbles_in c.args.bytes.now in
    let l = length-nibbles c.args.bytes.now in
    let row = row_at c.args.number in
    let start = c.args.start in
    let size = c.nibble_of-size.result in
    let word = c.number_at_once-word.result in
    let count = c.word_nibbles-count.ensures.count in
    let small : size < 15 = (let a = c.nibble_of-size.ensures.small in let b = c.if-size-eq15.false in omega (arith, a, b)) in
    let few = few_nibbles size small in
    subst (λ (t : Bool). Ends Msn (Go (Size row c.args.payload)) (between xs start (start + 1 + c.word_nibbles-count.result))
    (cond t (Stamped row c.args.payload size word) (Plain row c.args.payload))) (sym c.requires.stamped)
    (subst (λ (n : ℕ). Ends Msn (Go (Size row c.args.payload)) (between xs start (start + 1 + n)) (Stamped row c.args.payload size word))
    (sym count)
    (ends_stamp xs start size word row c.args.payload (omega (arith, l)) c.nibble_of-size.ensures.value
    small (omega (arith, l, few))
    (subst (λ (n : ℕ). word ≡ number_from Msn 0 0 (between xs (start + 1) (start + 1 + n))) count c.number_at_once-word.ensures.value)))
