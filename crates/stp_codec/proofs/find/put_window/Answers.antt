use Rattle.std.proofs.Common.{◌≡◌, ℕ, ◌+◌, ◌++◌, ◌∷◌, [], List, set, take, get_or, sym, ◌∙◌, ap, arith, append_assoc}
use Rattle.std.proofs.lemmas.List.{take_more, take_more_set}
use Rattle.stp_codec.proofs.find.put_window.Goals as goal

pub loop-index-preserved : goal.loop-index-preserved
loop-index-preserved c =
    let i = c.loop-index.index in
    let at = c.args.from + i in
    let window = c.args.window.now in
    let front = take c.args.from c.args.held.now in
    let byte = get_or window i 0 in
    let t = c.loop-index-test.true in
    let room = c.requires.room in
    let same = c.loop-index.auto.held in
    let size = c.told-window in
    ap (λ (n : ℕ). take n (set c.loop-index.held at byte)) (let e : c.args.from + (i + 1) ≡ at + 1 = omega arith in e)
    ∙ take_more_set c.loop-index.held at byte (omega (arith, t, room, same))
    ∙ ap (λ (l : List ℕ). l ++ byte ∷ []) c.loop-index.invariant
    ∙ append_assoc front (take i window) (byte ∷ [])
    ∙ ap (λ (l : List ℕ). front ++ l) (sym (take_more window i 0 (omega (arith, t, size))))
