use Rattle.std.proofs.Common.{rules, ◌<◌, ap, length, subst}
use Rattle.std.proofs.lemmas.List.{get_or_default}
use Rattle.capture_actions.specs.Clocks.{Stands}
use Rattle.capture_actions.specs.Listing.{itm_packet}
use Rattle.capture_actions.specs.declared.clocks.Clocks.{Clocks}
use Rattle.capture_actions.proofs.Sources.{stand_after}
use Rattle.capture_actions.proofs.source_clocks.SourceClocks.packet_remark.Goals as goal

pub returns-clause-stand : goal.returns-clause-stand
returns-clause-stand c = λ es event source what h x d l.
    let old = c.args.self.now.clocks in
    let id = c.number.result in
    let within : id < length old = search rules in
    stand_after es event c.args.packet.now id (search rules) (ap itm_packet what) old c.remark.new.self within
    (λ packets s. c.remark.ensures.after packets (subst (λ (k : Clocks). Stands k packets) (get_or_default old id c.remark.new.self c.index-self-number.result within) s)) x d (λ f. h x f l)
