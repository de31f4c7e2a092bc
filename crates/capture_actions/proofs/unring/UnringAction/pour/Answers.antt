use Rattle.std.proofs.Common.{◌≡◌, ◌≤◌, ◌<◌, List, ℕ, Bool, true, false, length, take, drop, refl, ap, arith}
use Rattle.std.proofs.lemmas.List.{length-take-le, length-drop, length-append}
use Rattle.buffer_ring.specs.Image.{ordered}
use Rattle.capture_actions.proofs.unring.UnringAction.pour.Goals as goal

-- an image in order has all its bytes, or those up to the pointer
within : (bytes : List ℕ) (at owed : ℕ) (full : Bool) → at < length bytes → owed ≤ length bytes
    → (full ≡ false → owed ≤ at) → owed ≤ length (ordered bytes at full)
within bytes at owed true inside few front =
    omega (arith, length-append (drop at bytes) (take at bytes), length-drop at bytes, length-take-le at bytes (omega arith))
within bytes at owed false inside few front =
    omega (arith, front refl, length-take-le at bytes (omega arith))

pub put_owed-self-requires-clause-few : goal.put_owed-self-requires-clause-few
put_owed-self-requires-clause-few c =
    let r = c.args.self.now in
    let image = c.image.result.now in
    let first = c.ordered.result.0.now in
    let second = c.ordered.result.1.now in
    let all = within image r.pointer r.owed r.full (omega (arith, c.image.ensures.size, r.within))
    (omega (arith, c.image.ensures.size, r.few)) r.front in
    omega (arith, all, ap length c.ordered.ensures, length-append first second)
