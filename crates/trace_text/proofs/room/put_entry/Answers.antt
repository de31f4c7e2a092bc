use Rattle.std.proofs.Common.{◌≡◌, ℕ, ◌+◌, ◌-◌, ◌*◌, ◌≤◌, length, take, drop, refl, sym, ◌∙◌, ap, arith}
use Rattle.std.proofs.lemmas.List.{length-drop, length-take-le}
use Rattle.trace_text.proofs.Fronts.{front}
use Rattle.trace_text.proofs.Putting.{said_as, front_of}
use Rattle.trace_text.proofs.room.put_entry.Goals as goal

pub returns : goal.returns
returns c =
    let size = c.args.size in
    let start = size * c.args.number in
    let rest = drop start c.args.table.now in
    let long : size ≤ length rest = (let t = c.requires.table in omega (arith, length-drop start c.args.table.now)) in
    let entry : take (start + size - start) rest ≡ take size rest = ap (λ (n : ℕ). take n rest) (omega arith) in
    let all = said_as c.put_bytes-all.ensures (ap length entry ∙ length-take-le size rest long) entry in
    said_as (front_of c.args.len all c.requires.few c.requires.room) refl (sym (front c.args.len size rest c.requires.few long))
