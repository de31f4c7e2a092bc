use Rattle.std.proofs.Common.{ℕ, ◌+◌, ◌≤◌, length, List, take, sym, ◌∙◌, ap, subst, arith}
use Rattle.itm_codec.specs.Names.{Header}
use Rattle.itm_codec.specs.Reached.{reached}
use Rattle.itm_codec.specs.Windows.{IsFrontOf}
use Rattle.itm_codec.proofs.Looking.{found_end, found_front, window_is}
use Rattle.itm_codec.proofs.decoder.ItmDecoder.find_next.Goals as goal

pub overflow_sub-result : goal.overflow_sub-result
overflow_sub-result c =
    let enough : 8 ≤ length c.args.ahead.now = (let h = c.requires.ahead in omega (arith, h)) in
    let k = found_end c.args.self.now c.to_le_bytes.result c.args.ahead.now (c.args.self.now.begins c.requires.header)
    (window_is c.args.self.now c.to_le_bytes.result c.next_in-next.result.now c.args.ahead.now c.word_with-word.result c.to_le_bytes.ensures c.word_with-word.ensures c.next_in-next.ensures enough)
    enough (c.args.self.now.locked c.requires.header) c.args.count c.in-Ends.end c.in-Ends.ensures in
    omega (arith, k.0)

pub wait-requires-clause-front : goal.wait-requires-clause-front
wait-requires-clause-front c =
    subst (λ (l : List ℕ). IsFrontOf l (c.args.self.now.waiting + c.args.count)) c.to_le_bytes.ensures c.in-Waits.ensures.1

pub returns-in-Ends : goal.returns-in-Ends
returns-in-Ends c =
    let enough : 8 ≤ length c.args.ahead.now = (let h = c.requires.ahead in omega (arith, h)) in
    (found_end c.args.self.now c.to_le_bytes.result c.args.ahead.now (c.args.self.now.begins c.requires.header)
    (window_is c.args.self.now c.to_le_bytes.result c.next_in-next.result.now c.args.ahead.now c.word_with-word.result c.to_le_bytes.ensures c.word_with-word.ensures c.next_in-next.ensures enough)
    enough (c.args.self.now.locked c.requires.header) c.args.count c.in-Ends.end c.in-Ends.ensures).1

pub returns-in-Waits : goal.returns-in-Waits
returns-in-Waits c =
    let enough : 8 ≤ length c.args.ahead.now = (let h = c.requires.ahead in omega (arith, h)) in
    found_front c.args.self.now c.to_le_bytes.result c.args.ahead.now (c.args.self.now.begins c.requires.header)
    (window_is c.args.self.now c.to_le_bytes.result c.next_in-next.result.now c.args.ahead.now c.word_with-word.result c.to_le_bytes.ensures c.word_with-word.ensures c.next_in-next.ensures enough)
    enough (c.args.self.now.locked c.requires.header) c.args.count c.wait.new.self c.requires.some c.in-Waits.ensures c.wait.ensures.same
    (c.wait.ensures.part ∙ ap (λ (l : List ℕ). reached Header (take (c.args.self.now.waiting + c.args.count) l)) (sym c.to_le_bytes.ensures))
