use Rattle.std.proofs.Common.{◌≡◌, ℕ, ◌-◌, ◌+◌, List, length, take, sym, ◌∙◌, ap, subst, arith, rules}
use Rattle.itm_codec.specs.Names.{Ends, Header, Waits}
use Rattle.itm_codec.specs.Reached.{reached}
use Rattle.itm_codec.specs.Parts.{Looked}
use Rattle.itm_codec.specs.Windows.{IsFrontOf, IsSeen}
use Rattle.itm_codec.proofs.Looking.{found_end, found_front, fresh_is, fresh_word}
use Rattle.itm_codec.proofs.decoder.ItmDecoder.find_fresh.Goals as goal

pub wait-requires-clause-front : goal.wait-requires-clause-front
wait-requires-clause-front c =
    subst (λ (l : List ℕ). IsFrontOf l c.args.count)
    (fresh_word c.args.self.now c.args.next.now _ c.requires.fresh (let e : length c.args.next.now ≡ 8 = search rules in e) c.word_with-word.ensures)
    c.in-Waits.ensures.1

pub returns-in-Ends : goal.returns-in-Ends
returns-in-Ends c =
    let d = c.args.self.now in
    let end = c.in-Ends.end in
    subst (λ (n : ℕ). Looked d d c.args._ahead.now c.args.count (Ends (record { bytes = n; packet = end.packet })))
    (let e : end.bytes - d.waiting ≡ end.bytes = omega (arith, c.requires.fresh) in e)
    (found_end d c.args.next.now c.args._ahead.now (c.args.self.now.begins c.requires.header) (c.requires.next ∙ fresh_is d c.args._ahead.now c.requires.fresh)
    c.requires.ahead (c.args.self.now.locked c.requires.header) c.args.count end
    (subst (λ (n : ℕ). IsSeen c.args.next.now n (Ends end)) (let e : c.args.count ≡ d.waiting + c.args.count = omega (arith, c.requires.fresh) in e)
    c.in-Ends.ensures)).1

pub returns-in-Waits : goal.returns-in-Waits
returns-in-Waits c =
    let d = c.args.self.now in
    let sum : c.args.count ≡ d.waiting + c.args.count = omega (arith, c.requires.fresh) in
    found_front d c.args.next.now c.args._ahead.now (c.args.self.now.begins c.requires.header) (c.requires.next ∙ fresh_is d c.args._ahead.now c.requires.fresh)
    c.requires.ahead (c.args.self.now.locked c.requires.header) c.args.count c.wait.new.self c.requires.some
    (subst (λ (n : ℕ). IsSeen c.args.next.now n Waits) sum c.in-Waits.ensures) c.wait.ensures.same
    (c.wait.ensures.part
    ∙ ap (λ (l : List ℕ). reached Header (take c.args.count l))
    (sym (fresh_word d c.args.next.now _ c.requires.fresh (let e : length c.args.next.now ≡ 8 = search rules in e) c.word_with-word.ensures))
    ∙ ap (λ (n : ℕ). reached Header (take n c.args.next.now)) sum)
