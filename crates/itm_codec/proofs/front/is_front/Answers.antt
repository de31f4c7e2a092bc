use Rattle.std.proofs.Common.{◌≤◌, ◌+◌, arith}
use Rattle.std.proofs.lemmas.Bool.{leb-true}
use Rattle.itm_codec.proofs.Fronts.{stamp_front}
use Rattle.itm_codec.proofs.front.is_front.Goals as goal

pub returns-then-count-le6 : goal.returns-then-count-le6
returns-then-count-le6 c = λ e.
    let few = c.if-count-le6.true in
    let place = c.first_clear.ensures.is in
    let within : c.args.count ≤ 1 + c.first_clear.result = leb-true _ _ e in
    (omega (arith, few), stamp_front c.args.window.now c.args.count c.if-window-eq180.true few (omega (arith, within, place)))
