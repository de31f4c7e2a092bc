use Rattle.std.proofs.Common.{◌∷◌, [], List, ℕ, take, get_or, sym, subst}
use Rattle.std.proofs.lemmas.List.{take_more}
use Rattle.capture_actions.specs.Realigner.{Pushes}
use Rattle.capture_actions.proofs.Pushing.{pushes_none, pushes_more}
use Rattle.capture_actions.proofs.realign.push_bytes.Goals as goal

pub loop-byte-init : goal.loop-byte-init
loop-byte-init c = pushes_none c.args.slip.now c.args.outlet.now

pub loop-byte-preserved : goal.loop-byte-preserved
loop-byte-preserved c =
    let v = c.loop-byte in
    let xs = c.args.bytes.now in
    subst (λ (l : List ℕ). Pushes c.args.slip.now c.push_byte.new.slip l c.args.outlet.now c.push_byte.new.outlet) (sym (take_more xs v.byte-index 0 c.loop-byte-test.true))
    (pushes_more c.args.slip.now v.slip c.push_byte.new.slip (take v.byte-index xs) (get_or xs v.byte-index 0 ∷ []) c.args.outlet.now v.outlet c.push_byte.new.outlet v.invariant c.push_byte.ensures)
