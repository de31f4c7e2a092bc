use Rattle.std.proofs.Common.{subst, sym, ◌∙◌, ap, ◌∷◌, []}
use Rattle.capture_exercise.specs.Names.{Line2, Made, IsProperMade, in_order, CanBePut2}
use Rattle.capture_exercise.specs.Exercise.{line_of_made}
use Rattle.capture_exercise.proofs.Saying.{line_said}
use Rattle.capture_exercise.proofs.lines.line_at.Goals as goal

pub returns-clause-said : goal.returns-clause-said
returns-clause-said c =
    let proper = subst (λ (m : Made). IsProperMade m) c.item_at.ensures.value c.item_at.ensures.proper in
    let said = line_said c.args.k proper in
    subst (λ (l : Line2). CanBePut2 (in_order (2 ∷ [])) l) (sym (c.line_of.ensures ∙ ap line_of_made c.item_at.ensures.value)) said
