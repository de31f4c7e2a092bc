use Rattle.std.proofs.Common.{◌≡◌, ◌+◌, ◌*◌, length, arith}
use Rattle.deformatter.specs.Rule.{part_size}
use Rattle.deformatter.specs.Unfinished.{placed_of}
use Rattle.deformatter.specs.Deformatter.{tail_of, state_of}
use Rattle.deformatter.proofs.Zipping.{size}
use Rattle.deformatter.proofs.Resuming.{left_is}
use Rattle.deformatter.proofs.deformatter.Deformatter.left_over.Goals as goal

left_and_part : (c : goal.After-halves) → tail_of c.args.self.now
    ≡ (c.len.result + 2 * c.halves.result) + part_size (state_of c.args.self.now).part
left_and_part c =
    let f = c.args.self.now.frame in
    let e : length (placed_of f) ≡ f.len = size f.bytes f.offsets f.len f.sizes.0 f.sizes.1 f.in_range in
    let i = c.len.ensures in let j = c.halves.ensures.value in
    omega (arith, e, i, j)

pub returns-clause-value : goal.returns-clause-value
returns-clause-value c = λ u x s f. (let k = left_is c.args.self.now u x s c.requires.dead f in let l =
    left_and_part c in omega (arith, k, l))

pub returns-clause-few : goal.returns-clause-few
returns-clause-few c = (let l = left_and_part c in omega (arith, l))
