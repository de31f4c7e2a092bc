use Rattle.std.proofs.Common.{◌≡◌, length, arith, ◌∙◌}
use Rattle.deformatter.specs.Names.{size_of, placed_part}
use Rattle.deformatter.specs.Rule.{part_size}
use Rattle.deformatter.specs.Unfinished.{placed_of}
use Rattle.deformatter.proofs.Zipping.{size}
use Rattle.deformatter.specs.Deformatter.{mode_of, state_of, is_live}
use Rattle.deformatter.proofs.Parts.{size_is}
use Rattle.deformatter.proofs.Readings.{shows}
use Rattle.deformatter.proofs.deformatter.Deformatter.tail.Goals as goal

pub returns-clause-value : goal.returns-clause-value
returns-clause-value c =
    let d = c.args.self.now in
    let f = d.frame in
    let e : length (placed_of f) ≡ f.len = size f.bytes f.offsets f.len f.sizes.0 f.sizes.1 f.in_range in
    let s : part_size (placed_part d.aligner.part d.first_at) ≡ size_of d.aligner.part = size_is d.aligner.part d.first_at in
    let i = c.len.ensures in let j = c.halves.ensures in let k = c.len-2.ensures in let l = c.from.ensures in
    omega (arith, e, s)

pub returns-clause-list : goal.returns-clause-list
returns-clause-list c = λ u s.
    let d = c.args.self.now in
    returns-clause-value c ∙ (shows (mode_of d) (is_live d) (state_of d) u s.reads).tail_is c.requires
