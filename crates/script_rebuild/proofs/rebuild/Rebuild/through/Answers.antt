use Rattle.std.proofs.Common.{sym, subst, Option}
use Rattle.script_rebuild.specs.Names.{no_segments, Turns}
use Rattle.port_formatter.specs.Formatter.{Stands}
use Rattle.script_rebuild.proofs.rebuild.Rebuild.through.Goals as goal

pub over-requires-clause-fresh : goal.over-requires-clause-fresh
over-requires-clause-fresh c =
    let p = c.args.plan in
    subst (λ (o : Option Turns). Stands c.in_ok-formatter.formatter (record { every = p.every; halves = p.halves; funnel = o }) no_segments)
    (sym c.in-Some.is) c.in_ok-formatter.ensures.stands
