use Rattle.std.proofs.Common.{◌≡◌, refl, sym, ◌∙◌, true, false, None, position, ◌==◌}
use Rattle.script_rebuild.specs.Names.{Stp}
use Rattle.script_rebuild.specs.Encoding.{NextItem}
use Rattle.script_rebuild.proofs.Answering.{stp_line}
use Rattle.script_rebuild.proofs.EachEncoder.{none_of, found_in}
use Rattle.script_rebuild.proofs.bytes.stp_fits.Goals as goal

pub returns-in_default : goal.returns-in_default
returns-in_default c = λ order given ready.
    let none : position (λ e. e.id == c.args.id) c.args.encoders.now ≡ None = sym c.find.ensures ∙ c.in_default.is in
    let clash : true ≡ false = sym ready.source ∙ none_of c.args.encoders.now c.args.id none in
    absurd cc

pub returns-in-Ok : goal.returns-in-Ok
returns-in-Ok c = λ order given ready.
    let next : NextItem = record { order = order; given = given; id = c.args.id; item = Stp c.args.item.now } in
    let found = found_in next _ c.in-Some.index c.index-encoders-index.result (sym c.find.ensures ∙ c.in-Some.is) ready in
    stp_line None next c.args.item.now false refl (sym (c.in-Ok.ensures.fits (given c.args.id) found.stands))

pub returns-in-Err : goal.returns-in-Err
returns-in-Err c = λ order given ready.
    let next : NextItem = record { order = order; given = given; id = c.args.id; item = Stp c.args.item.now } in
    let found = found_in next _ c.in-Some.index c.index-encoders-index.result (sym c.find.ensures ∙ c.in-Some.is) ready in
    stp_line None next c.args.item.now true refl (sym (c.in-Err.ensures.fits (given c.args.id) found.stands))
