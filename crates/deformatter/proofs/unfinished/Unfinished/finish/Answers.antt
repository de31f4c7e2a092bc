use Rattle.std.proofs.Common.{ℕ, List, sym, ◌∙◌, ap}
use Rattle.deformatter.specs.Names.{units_of, cells, id_after}
use Rattle.deformatter.specs.Unfinished.{placed_of}
use Rattle.deformatter.proofs.Zipping.{whole_units, whole_offsets}
use Rattle.deformatter.proofs.unfinished.Unfinished.finish.Goals as goal

pub returns-clause-cells : goal.returns-clause-cells
returns-clause-cells c =
    let f = c.args.self.now in
    c.cells_of-after.ensures.cells
    ∙ ap (λ (l : List ℕ). cells l f.offsets c.args.id) (sym (whole_units f.bytes f.offsets f.len f.sizes.0 f.sizes.1 c.requires.whole))
    ∙ ap (λ (l : List ℕ). cells (units_of (placed_of f)) l c.args.id) (sym (whole_offsets f.bytes f.offsets f.len f.sizes.0 f.sizes.1 c.requires.whole))

pub returns-clause-id : goal.returns-clause-id
returns-clause-id c =
    let f = c.args.self.now in
    c.cells_of-after.ensures.id ∙ ap (λ (l : List ℕ). id_after l c.args.id) (sym (whole_units f.bytes f.offsets f.len f.sizes.0 f.sizes.1 c.requires.whole))
