use Rattle.std.proofs.Common.{◌≡◌, ◌≤◌, refl, List, length, sym, ◌∙◌, ap, subst, true, false, Ok, rules}
use Rattle.std.specs.List.{refill}
use Rattle.script_rebuild.specs.Names.{packet, short, Puts, has_place, Item, Itm, Dwt, Stp, Raw}
use Rattle.port_formatter.specs.Formatter.{turns_of}
use Rattle.script_rebuild.specs.declared.encoders.SourceEncoder.{SourceEncoder}
use Rattle.script_rebuild.specs.Encoding.{ids_in, NextItem, Left, AreReady, Answers, IsPut}
use Rattle.script_rebuild.specs.Script.{hardware, tagged}
use Rattle.script_rebuild.proofs.Answering.{never_put, plain_put}
use Rattle.script_rebuild.proofs.EachEncoder.{refilled, same_count}
use Rattle.script_rebuild.proofs.Rooms.{bytes_room, bytes_spent, nothing_spent}
use Rattle.script_rebuild.proofs.bytes.put_item.Goals as goal

pub returns-then-not-takes-clause-spent : goal.returns-then-not-takes-clause-spent
returns-then-not-takes-clause-spent c = nothing_spent c.args.formatter.now 200

pub returns-then-not-takes-clause-puts : goal.returns-then-not-takes-clause-puts
returns-then-not-takes-clause-puts c = λ order given ready.
    let funnel = turns_of c.args.formatter.now in
    let next : NextItem = record { order = order; given = given; id = c.args.id; item = c.args.item.now } in
    let left : Left = record { encoders = c.args.encoders.now.items; old = c.args.formatter.now; new = c.args.formatter.now } in
    let none : has_place funnel c.args.id ≡ false = search rules in
    let told = c.item_fits.ensures order given ready in
    record { told = told; put = never_put funnel next none c.item_fits.result (IsPut funnel next left) told }

pub returns-in-Itm-clause-puts : goal.returns-in-Itm-clause-puts
returns-in-Itm-clause-puts c = λ order given ready.
    let funnel = turns_of c.args.formatter.now in
    let next : Item → NextItem = λ item. record { order = order; given = given; id = c.args.id; item = item } in
    let left : Left = record { encoders = c.args.encoders.now.items; old = c.args.formatter.now; new = c.put_packet.new.formatter } in
    let place : has_place funnel c.args.id ≡ true = search rules in
    subst (λ (item : Item). Answers funnel (next item) (Ok tt) left) (sym c.in-Itm.is)
    (plain_put funnel (next (Itm c.in-Itm.packet)) left refl (λ item k. let no = k in cc) place ready.stand c.put_packet.ensures.put)

pub returns-in-Dwt-clause-puts : goal.returns-in-Dwt-clause-puts
returns-in-Dwt-clause-puts c = λ order given ready.
    let funnel = turns_of c.args.formatter.now in
    let next : Item → NextItem = λ item. record { order = order; given = given; id = c.args.id; item = item } in
    let new = c.put_packet-in-Dwt.new.formatter in
    let left : Left = record { encoders = c.args.encoders.now.items; old = c.args.formatter.now; new = new } in
    let place : has_place funnel c.args.id ≡ true = search rules in
    let put : Puts c.args.formatter.now new (tagged c.args.id (short (hardware (packet c.in-Dwt.item)))) = search rules in
    subst (λ (item : Item). Answers funnel (next item) (Ok tt) left) (sym c.in-Dwt.is)
    (plain_put funnel (next (Dwt c.in-Dwt.item)) left refl (λ item k. let no = k in cc) place ready.stand put)

pub returns-in-Raw-clause-puts : goal.returns-in-Raw-clause-puts
returns-in-Raw-clause-puts c = λ order given ready.
    let funnel = turns_of c.args.formatter.now in
    let next : Item → NextItem = λ item. record { order = order; given = given; id = c.args.id; item = item } in
    let new = c.put_all.new.self in
    let left : Left = record { encoders = c.args.encoders.now.items; old = c.args.formatter.now; new = new } in
    let place : has_place funnel c.args.id ≡ true = search rules in
    let put : Puts c.args.formatter.now new (tagged c.args.id c.in-Raw.raw) = search rules in
    subst (λ (item : Item). Answers funnel (next item) (Ok tt) left) (sym c.in-Raw.is)
    (plain_put funnel (next (Raw c.in-Raw.raw)) left refl (λ item k. let no = k in cc) place ready.stand put)

pub returns-in-Stp-clause-puts : goal.returns-in-Stp-clause-puts
returns-in-Stp-clause-puts c = λ order given ready.
    let funnel = turns_of c.args.formatter.now in
    let old = c.args.encoders.now.items in
    let new = c.put_stp.new.encoders in
    let value = c.as_mut_slice.ensures.value in
    let same : refill (length old) old new ≡ new = refilled old new (same_count old new (c.put_stp.ensures.ids ∙ ap ids_in value)) in
    let next : Item → NextItem = λ item. record { order = order; given = given; id = c.args.id; item = item } in
    let left : List SourceEncoder → Left = λ l. record { encoders = l; old = c.args.formatter.now; new = c.put_stp.new.formatter } in
    let at = subst (λ (item : Item). AreReady (next item) c.as_mut_slice.result.now) c.in-Stp.is
    (subst (AreReady (next c.args.item.now)) (sym value) ready) in
    subst (λ (item : Item). Answers funnel (next item) c.put_stp.result (left (refill (length old) old new))) (sym c.in-Stp.is)
    (subst (λ (l : List SourceEncoder). Answers funnel (next (Stp c.in-Stp.item)) c.put_stp.result (left l)) (sym same)
    (c.put_stp.ensures.puts order given at))

pub put_all-requires-clause-room : goal.put_all-requires-clause-room
put_all-requires-clause-room c =
    let few : length c.as_slice.result.now ≤ 100 = search rules in
    bytes_room c.args.formatter.now (length c.as_slice.result.now) few c.requires.room

pub returns-in-Raw-clause-spent : goal.returns-in-Raw-clause-spent
returns-in-Raw-clause-spent c =
    let few : length c.as_slice.result.now ≤ 100 = search rules in
    let put = c.put_all.ensures in
    bytes_spent c.args.formatter.now c.put_all.new.self (length c.as_slice.result.now) few put.turns put.count put.room
