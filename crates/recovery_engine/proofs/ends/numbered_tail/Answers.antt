use Rattle.std.proofs.Common.{◌≡◌, ℕ, sym, ◌∙◌, subst, Some, None, Bool, true, false, cond}
use Rattle.std.specs.Prelude.{IfSome, is_some, nat_le}
use Rattle.trace_values.specs.Cells.{source_id}
use Rattle.source_events.specs.Plan.{kind_of}
use Rattle.recovery_engine.specs.Ends.{all_of}
use Rattle.recovery_report.specs.Report.{tail_by}
use Rattle.recovery_engine.specs.Slots.{source_at}
use Rattle.recovery_engine.proofs.Ending.{tail_is, there}
use Rattle.recovery_engine.proofs.ends.numbered_tail.Goals as goal

-- a number's ID is that number
id_is : (n x : ℕ) → source_id n ≡ Some x → x ≡ n
id_is n x e = by (nat_le n 126) e where
  by : (b : Bool) → cond b (Some n) None ≡ Some x → x ≡ n
  by true k = cc
  by false k = cc

pub returns-clause-tail : goal.returns-clause-tail
returns-clause-tail c = λ guesses parts k.
    let plan = c.args.plan.now in
    let x = c.in_ok-id.id in
    subst (λ n. all_of c.source_tail.result ≡ tail_by plan parts n (kind_of plan n))
    (id_is c.args.number x (sym c.new.ensures ∙ c.in_ok-id.was))
    (tail_is plan x c.in_ok-kind.kind (sym c.kind_of.ensures ∙ c.in_ok-kind.was) guesses parts
    (source_at c.args.slots.now x) c.source_tail.result c.source_tail.ensures (k x))

pub returns-clause-found : goal.returns-clause-found
returns-clause-found c =
    let x = c.in_ok-id.id in
    subst (λ n. IfSome c.source_tail.result (λ tail. is_some (source_at c.args.slots.now n) ≡ true))
    (id_is c.args.number x (sym c.new.ensures ∙ c.in_ok-id.was))
    (there c.args.plan.now x c.in_ok-kind.kind (sym c.kind_of.ensures ∙ c.in_ok-kind.was)
    (source_at c.args.slots.now x) c.source_tail.result c.source_tail.ensures)
