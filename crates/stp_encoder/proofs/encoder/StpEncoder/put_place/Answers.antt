use Rattle.std.proofs.Common.{◌≡◌, List, ◌++◌, ◌∙◌, ap, subst, sym, Option}
use Rattle.std.specs.Option.{option_to_list}
use Rattle.stp_encoder.specs.Names.{Order, Master8, Master16, Channel8, Channel16, StpPacket, Place, master_of}
use Rattle.stp_encoder.specs.Names.{channel_of}
use Rattle.stp_encoder.specs.Packets.{telling, telling_place}
use Rattle.stp_encoder.specs.Bytes.{spelled}
use Rattle.stp_encoder.specs.Encoder.{IsAt}
use Rattle.stp_encoder.proofs.Standing.{at_both}
use Rattle.stp_encoder.proofs.encoder.StpEncoder.put_place.Goals as goal

pub returns-clause-at : goal.returns-clause-at
returns-clause-at c = λ packets n h.
    let order = c.args.self.now.order in
    let middle = c.put_told.new.self in
    let bytes = c.put_told.new.out.items in
    let new = c.put_told-2.new.self in
    let out = c.put_told-2.new.out.items in
    let place = c.in-Some.place in
    let masters = telling Master8 Master16 (master_of packets) place.master in
    let master : option_to_list c.telling-master.result ≡ masters =
    c.telling-master.ensures.packet ∙ ap (λ (p : Place). telling Master8 Master16 p.master place.master) (c.place-known.ensures.list packets h.0) in
    let at_masters : IsAt middle bytes (packets ++ masters) (n ++ spelled order masters) =
    subst (λ (l : List StpPacket). IsAt middle bytes (packets ++ l) (n ++ spelled order l)) master (c.put_told.ensures.at packets n h) in
    let channels = telling Channel8 Channel16 (channel_of (packets ++ masters)) place.channel in
    let channel : option_to_list c.telling-channel.result ≡ channels =
    c.telling-channel.ensures.packet
    ∙ ap (λ (p : Place). telling Channel8 Channel16 p.channel place.channel) (c.place-known-2.ensures.list (packets ++ masters) at_masters.0) in
    let at_channels : IsAt new out ((packets ++ masters) ++ channels) ((n ++ spelled order masters) ++ spelled order channels) =
    subst (λ (l : List StpPacket). IsAt new out ((packets ++ masters) ++ l) ((n ++ spelled order masters) ++ spelled order l)) channel
    (subst (λ (o : Order). IsAt new out ((packets ++ masters) ++ option_to_list c.telling-channel.result) ((n ++ spelled order masters) ++ spelled o (option_to_list c.telling-channel.result)))
    c.put_told.ensures.order (c.put_told-2.ensures.at (packets ++ masters) (n ++ spelled order masters) at_masters)) in
    subst (λ (o : Option Place). IsAt new out (packets ++ telling_place packets o) (n ++ spelled order (telling_place packets o))) (sym c.in-Some.is)
    (at_both new out order packets n masters channels at_channels)
