use Rattle.std.proofs.Common.{◌∙◌, ◌++◌, Bool, true, false, refl, sym, ap, append-nil}
use Rattle.capture_actions.specs.Names.{Itm, packet_event, event_line}
use Rattle.capture_actions.specs.Listing.{itm_packets, remark_of}
use Rattle.capture_actions.proofs.Wanted.{put_from_parts}
use Rattle.capture_actions.proofs.lister.Lister.put_own_itm.Goals as goal

pub returns-then-wants_itm-clause-gets : goal.returns-then-wants_itm-clause-gets
returns-then-wants_itm-clause-gets c =
    let e = packet_event c.args.source c.args.at c.args.half (Itm c.args.packet) in
    let own = c.requires.own in
    put_from_parts c.args.self.now _ c.args.outlet.now c.put_itm_line.new.outlet e true own.0 refl
    (sym c.if-wants_itm.true ∙ c.wants_itm.ensures) refl refl (λ before h. c.put_itm_line.ensures.clocks before e refl refl h)
    (λ before h. c.put_itm_line.ensures.text before h
    ∙ ap (λ (s : Bool). c.args.outlet.now ++ event_line s e (remark_of (itm_packets e.source before) e.what)) (sym own.1))

pub returns-else-wants_itm-clause-gets : goal.returns-else-wants_itm-clause-gets
returns-else-wants_itm-clause-gets c =
    let e = packet_event c.args.source c.args.at c.args.half (Itm c.args.packet) in
    put_from_parts c.args.self.now _ c.args.outlet.now c.args.outlet.now e false c.requires.own.0 refl
    (sym c.if-wants_itm.false ∙ c.wants_itm.ensures) refl refl (λ before h. c.packet_remark.ensures.stand before e refl refl h)
    (λ before h. sym (append-nil c.args.outlet.now))
