use Rattle.std.proofs.Common.{rules}
use Rattle.item_tap.proofs.Opening.{sees_open}
use Rattle.item_tap.proofs.window.Window.see.Goals as goal

pub returns-clause-seen : goal.returns-clause-seen
returns-clause-seen g c = λ es h.
    sees_open (g.R.Rule.holds c.args.self.now.first) (g.Q.Rule.holds c.args.self.now.last) es c.args.event.now
    c.args.self.now.is_open c.if-self.answer c.if-answer.self h (search rules) (search rules)
