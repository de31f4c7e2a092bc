use Rattle.std.proofs.Common.{◌≡◌, ℕ, ◌∙◌, ap, sym, Bool, true, false, cond, Some, None}
use Rattle.std.specs.Prelude.{nat_le}
use Rattle.trace_values.specs.Cells.{source_id}
use Rattle.capture_actions.specs.Names.{source_counts_of}
use Rattle.source_merge.specs.Engine as engine
use Rattle.capture_actions.proofs.kind_check.counts_at.Goals as goal

number_is : (number id : ℕ) → Some id ≡ source_id number → id ≡ number
number_is number id e = by (nat_le number 126) e where
  by : (b : Bool) → Some id ≡ cond b (Some number) None → id ≡ number
  by true k = cc
  by false k = cc

pub returns-in-Some : goal.returns-in-Some
returns-in-Some c = λ u h.
    c.counts.ensures.value u h
    ∙ ap (source_counts_of (engine.plan_of c.args.reading.now) u) (number_is c.args.number c.in-Some.id (sym c.in-Some.is ∙ c.new.ensures))
