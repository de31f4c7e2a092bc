use Rattle.dwt_packets.proofs.Inverses.{in_range, proper}
use Rattle.dwt_packets.proofs.proper.is_proper_item.Goals as goal

pub returns-clause-meaning : goal.returns-clause-meaning
returns-clause-meaning c =
    let e = c.is_in_range.ensures in (λ t. proper c.args.item.now (e.0 t), λ p. e.1 (in_range c.args.item.now p))
