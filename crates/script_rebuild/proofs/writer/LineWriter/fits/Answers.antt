use Rattle.std.proofs.Common.{◌≡◌, sym, subst, rules}
use Rattle.script_rebuild.specs.Names.{Of, Line2, One}
use Rattle.script_rebuild.specs.Routed.{puttable, line_if}
use Rattle.script_rebuild.specs.Script.{given_puts}
use Rattle.script_rebuild.specs.Writer.{CanBePut2, stp_of, turns_of}
use Rattle.script_rebuild.proofs.Standing.{are_ready, item_told}
use Rattle.script_rebuild.proofs.writer.LineWriter.fits.Goals as goal

pub returns-in-One-Of : goal.returns-in-One-Of
returns-in-One-Of c = λ port lines s.
    let w = c.args.self.now in
    let id = c.in-One-Of.id in
    let item = c.in-One-Of.item in
    let is : c.args.line.now ≡ One (Of id item) = search rules in
    let source = (subst (CanBePut2 (stp_of w)) is c.requires).3 in
    subst (λ (l : Line2). puttable (turns_of w) lines l ≡ line_if c.item_fits.result l) (sym is)
    (item_told w lines id item (line_if c.item_fits.result (One (Of id item)))
    (c.item_fits.ensures w.order (λ x. given_puts x lines) (are_ready w port lines id item source s)))
