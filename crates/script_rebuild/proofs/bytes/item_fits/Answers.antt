use Rattle.std.proofs.Common.{◌≡◌, List, sym, ◌∙◌, ap, subst, Result, Err}
use Rattle.script_rebuild.specs.Names.{items_in, as_one, Item, Stp, StpItem, LineFault, Of, One}
use Rattle.port_formatter.specs.Formatter.{turns_of}
use Rattle.script_rebuild.specs.Encoding.{NextItem, AreReady, line_for}
use Rattle.script_rebuild.specs.Routed.{line_if}
use Rattle.script_rebuild.specs.Versions.{fitting_item}
use Rattle.script_rebuild.specs.declared.encoders.SourceEncoder.{SourceEncoder}
use Rattle.script_rebuild.proofs.Answering.{fault_stays, then_placed}
use Rattle.script_rebuild.proofs.Placing.{item_placed}
use Rattle.script_rebuild.proofs.bytes.item_fits.Goals as goal

-- encoders that are ready for an item are so for the STP item that it is
ready_stp : (next : Item → NextItem) {item : Item} {stp : StpItem} {old now : List SourceEncoder} →
    item ≡ Stp stp → now ≡ old → AreReady (next item) old → AreReady (next (Stp stp)) now
ready_stp next {item} {stp} {old} {now} is same ready = subst (λ (l : List SourceEncoder). AreReady (next (Stp stp)) l)
    (sym same) (subst (λ (item : Item). AreReady (next item) old) is ready)

pub returns-in-Err : goal.returns-in-Err
returns-in-Err c = λ order given ready.
    let next : Item → NextItem = λ item. record { order = order; given = given; id = c.args.id; item = item } in
    let item : Item = Stp c.in-Stp.item in
    let fits = c.stp_fits.ensures order given (ready_stp next c.in-Stp.is c.as_slice.ensures.value ready)
    ∙ ap (λ (r : Result (Unit {0}) LineFault). line_if r (One (Of c.args.id item))) c.in-Err.is in
    let one = as_one (fitting_item (Of c.args.id item) (items_in (given c.args.id)) item) in
    subst (λ (item : Item). line_for (turns_of c.args.formatter.now) (next item) ≡ Err c.in-Err.fault) (sym c.in-Stp.is)
    (fault_stays one (turns_of c.args.formatter.now) c.in-Err.fault fits)

pub returns-in-Ok : goal.returns-in-Ok
returns-in-Ok c = λ order given ready.
    let funnel = turns_of c.args.formatter.now in
    let id = c.args.id in
    let item : Item = Stp c.in-Stp.item in
    let line = One (Of id item) in
    let next : Item → NextItem = λ item. record { order = order; given = given; id = id; item = item } in
    let fits = c.stp_fits.ensures order given (ready_stp next c.in-Stp.is c.as_slice.ensures.value ready)
    ∙ ap (λ (r : Result (Unit {0}) LineFault). line_if r line) c.in-Ok.is in
    subst (λ (item : Item). line_for funnel (next item) ≡ line_if c.place_fits.result (One (Of id item))) (sym c.in-Stp.is)
    (then_placed (as_one (fitting_item (Of id item) (items_in (given id)) item)) funnel line fits
    ∙ c.place_fits.ensures line (item_placed funnel id item))
