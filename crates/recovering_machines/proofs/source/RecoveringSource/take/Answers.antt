use Rattle.std.proofs.Common.{refl, take, arith}
use Rattle.recovering_machines.proofs.OnceTaken.{if_some, stays, takes_cells}
use Rattle.recovering_machines.proofs.source.RecoveringSource.take.Goals as goal

pub returns-clause-takes : goal.returns-clause-takes
returns-clause-takes c =
    if_some _ _ (λ taken p. takes_cells c.args.self.now _ refl refl refl c.take_bytes.ensures.alike
    (take taken.bytes c.args.bytes.now) taken.half taken.item p) c.take_bytes.result c.take_bytes.ensures.passes

pub returns-clause-none : goal.returns-clause-none
returns-clause-none c = λ e.
    let none = c.take_bytes.ensures.none e in (
      λ r k. stays c.args.self.now _ refl refl refl c.take_bytes.ensures.alike none.0 r k,
      (let n = none.1 in omega (arith, n)),
    )
