use Rattle.std.proofs.Common.{ℕ, sym, ◌∙◌, subst}
use Rattle.port_slip.specs.Slip.{Keeps}
use Rattle.port_slip.proofs.Held.{none_held, open_held}
use Rattle.port_slip.proofs.slip.Slip.held.Goals as goal

pub returns-clause-kept : goal.returns-clause-kept
returns-clause-kept c = λ bytes so_far s some.
    subst (λ (n : ℕ). Keeps bytes so_far n) (sym c.held.ensures.held)
    (open_held c.args.self.now bytes so_far s some)

pub returns-clause-none : goal.returns-clause-none
returns-clause-none c = λ bytes so_far s none. c.held.ensures.held ∙ none_held c.args.self.now bytes so_far s none
