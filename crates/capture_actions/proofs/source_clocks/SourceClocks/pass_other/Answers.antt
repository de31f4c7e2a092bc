use Rattle.std.proofs.Common.{ap, get_or, ◌++◌, ◌∷◌, []}
use Rattle.capture_actions.specs.Listing.{itm_packet}
use Rattle.capture_actions.proofs.Sources.{stand_same}
use Rattle.capture_actions.proofs.Timing.{no_remark, suits_none}
use Rattle.capture_actions.proofs.source_clocks.SourceClocks.pass_other.Goals as goal

pub returns-clause-suits : goal.returns-clause-suits
returns-clause-suits c = suits_none c.args.packet.now c.requires.other

pub returns-clause-stand : goal.returns-clause-stand
returns-clause-stand c = λ es event id source what h x d l.
    stand_same es event c.args.packet.now id source (ap itm_packet what) c.requires.other x (get_or c.args.self.now.clocks x d)
    (h x d l)

pub returns-clause-remark : goal.returns-clause-remark
returns-clause-remark c = λ packets. no_remark (packets ++ c.args.packet.now ∷ []) c.args.packet.now c.requires.other
