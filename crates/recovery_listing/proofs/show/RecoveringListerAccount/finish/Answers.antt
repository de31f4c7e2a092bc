use Rattle.std.proofs.Common.{◌∙◌, ◌++◌, ℕ, List, ap}
use Rattle.trace_values.specs.Placed.{placed}
use Rattle.trace_text.specs.EndText.{tails_text}
use Rattle.recovery_listing.proofs.show.RecoveringListerAccount.finish.Goals as goal

pub returns-clause-ended : goal.returns-clause-ended
returns-clause-ended c = λ seen read s.
    c.print_tails.ensures.lines
    ∙ ap (λ (l : List ℕ). l ++ tails_text c.finish.result) c.requires.empty
    ∙ ap tails_text (c.finish.ensures (placed seen) read)
