use Rattle.std.proofs.Common.{◌∙◌, ℕ, List, ap, subst}
use Rattle.script_rebuild.specs.PutLine.{AnswersTo, fits_after, says_placed}
use Rattle.script_rebuild.specs.Rebuilt.{port_of}
use Rattle.script_rebuild.proofs.Sources.{fits_said}
use Rattle.script_rebuild.proofs.rebuild.Rebuild.last_fits.Goals as goal

pub returns-clause-said : goal.returns-clause-said
returns-clause-said c = λ lines s.
    let r = c.args.self.now in
    let line = c.in_ok-line.line in
    let same = c.read_line.ensures.said lines ∙ ap (fits_after lines) c.in_ok-line.was in
    subst (λ (l : List ℕ). AnswersTo (says_placed r.plan r.version lines l) c.fits.result) c.as_slice.ensures.value
    (fits_said r.plan r.version c.as_slice.result.now r.writer r.writer lines line r.suits same c.fits.result
    (c.fits.ensures (port_of r.plan) lines s))
