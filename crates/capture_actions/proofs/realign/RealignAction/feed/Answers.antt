use Rattle.std.proofs.Common.{◌++◌, List, ℕ, take, sym, subst}
use Rattle.port_slip.specs.Slip as slips
use Rattle.capture_actions.specs.Names.{sure}
use Rattle.port_slip.proofs.Standing.{stands_sure}
use Rattle.capture_actions.proofs.realign.RealignAction.feed.Goals as goal

pub returns-clause-fed : goal.returns-clause-fed
returns-clause-fed c = λ seen s.
    let p = c.push_all.ensures in
    let front = take c.min-bytes.result c.args.piece.now in
    let a = p.takes.list seen (sure seen) s in
    let same = stands_sure c.push_all.new.slip (seen ++ front) (sure seen ++ p.more) a in
    record {
      read = subst (λ (x : List ℕ). slips.Stands c.push_all.new.slip (seen ++ front) x) same a;
      more = p.more;
      grown = sym same;
      gained = p.added;
      fault = λ f. f;
    }
