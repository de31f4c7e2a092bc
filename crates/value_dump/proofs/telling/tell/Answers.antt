use Rattle.std.proofs.Common.{◌∙◌, ap, sym, subst}
use Rattle.value_dump.specs.Names.{DwtItem, IsInRange, ItmPacket}
use Rattle.value_dump.specs.Signals.{last_told, told_by_item}
use Rattle.value_dump.specs.Telling.{value_next}
use Rattle.value_dump.specs.Values.{latest_of, stamped_of}
use Rattle.value_dump.proofs.ToldValues.{item_next, means_proper}
use Rattle.value_dump.proofs.telling.tell.Goals as goal

pub tell_item-requires : goal.tell_item-requires
tell_item-requires c =
    let h = c.in-Hardware in
    subst IsInRange (sym c.meaning.ensures) (means_proper c.args.packet.now h.disc h.size h.value h.is c.requires)

pub returns-in-Hardware-clause-latest : goal.returns-in-Hardware-clause-latest
returns-in-Hardware-clause-latest c = λ number.
    let h = c.in-Hardware in
    let known = latest_of c.args.values.now number in
    let stamped = stamped_of c.args.values.now number in
    c.tell_item.ensures.latest number
    ∙ ap (λ (item : DwtItem). last_told number known (told_by_item item)) c.meaning.ensures
    ∙ item_next h.disc h.size h.value (means_proper c.args.packet.now h.disc h.size h.value h.is c.requires) number
    stamped known
    ∙ ap (λ (packet : ItmPacket). value_next packet number stamped known) (sym h.is)
