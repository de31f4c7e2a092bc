use Rattle.std.proofs.Common.{◌≡◌, refl, ℕ, ◌≤◌, List, length, sym, ◌∙◌, ap, subst, true, false, None}
use Rattle.std.proofs.Common.{rules, position, ◌==◌}
use Rattle.script_rebuild.specs.Names.{Order, put_bytes, Puts, Stp}
use Rattle.port_formatter.specs.Formatter.{turns_of}
use Rattle.script_rebuild.specs.Script.{tagged}
use Rattle.script_rebuild.specs.Encoding.{NextItem}
use Rattle.script_rebuild.proofs.Answering.{stp_line, item_placed_by}
use Rattle.script_rebuild.proofs.EachEncoder.{none_of, ids_kept, found_in, all_after}
use Rattle.script_rebuild.proofs.Rooms.{bytes_room, bytes_spent, nothing_spent}
use Rattle.script_rebuild.proofs.bytes.put_stp.Goals as goal

pub returns-in_default-clause-puts : goal.returns-in_default-clause-puts
returns-in_default-clause-puts c = λ order given ready.
    let none : position (λ e. e.id == c.args.id) c.args.encoders.now ≡ None = sym c.find.ensures ∙ c.in_default.is in
    let clash : true ≡ false = sym ready.source ∙ none_of c.args.encoders.now c.args.id none in
    absurd cc

pub returns-in_default-clause-spent : goal.returns-in_default-clause-spent
returns-in_default-clause-spent c = nothing_spent c.args.formatter.now 200

pub put_all-requires-clause-room : goal.put_all-requires-clause-room
put_all-requires-clause-room c =
    let few : length c.as_slice.result.now ≤ 100 = search rules in
    bytes_room c.args.formatter.now (length c.as_slice.result.now) few c.requires.room

pub returns-in-Ok-clause-ids : goal.returns-in-Ok-clause-ids
returns-in-Ok-clause-ids c = ids_kept c.args.encoders.now c.in-Some.index c.index-encoders-index.result c.put.new.self

pub returns-in-Ok-clause-spent : goal.returns-in-Ok-clause-spent
returns-in-Ok-clause-spent c =
    let few : length c.as_slice.result.now ≤ 100 = search rules in
    let put = c.put_all.ensures in
    bytes_spent c.args.formatter.now c.put_all.new.self (length c.as_slice.result.now) few put.turns put.count put.room

pub returns-in-Ok-clause-puts : goal.returns-in-Ok-clause-puts
returns-in-Ok-clause-puts c = λ order given ready.
    let slots = c.args.encoders.now in
    let id = c.args.id in
    let i = c.in-Some.index in
    let item = c.args.item.now in
    let one = c.index-encoders-index.result in
    let funnel = turns_of c.args.formatter.now in
    let next : NextItem = record { order = order; given = given; id = id; item = Stp item } in
    let found = found_in next slots i one (sym c.find.ensures ∙ c.in-Some.is) ready in
    let bytes = c.as_slice.ensures.value ∙ c.in-Ok.ensures.bytes (given id) found.stands
    ∙ ap (λ (o : Order). put_bytes o (given id) item) found.order in
    record {
      told = stp_line funnel next item false refl (sym (c.in-Ok.ensures.fits (given id) found.stands))
          ∙ item_placed_by funnel id (Stp item) true c.requires.place;
      put = record {
        place = c.requires.place;
        stand = all_after order slots given id i item one c.put.new.self ready found.within found.at (c.put.ensures.order ∙ found.order)
            (c.in-Ok.ensures.list (given id) found.stands);
        put = subst (λ (b : List ℕ). Puts c.args.formatter.now c.put_all.new.self (tagged id b)) bytes c.put_all.ensures.put;
      };
    }

pub returns-in-Err-clause-puts : goal.returns-in-Err-clause-puts
returns-in-Err-clause-puts c = λ order given ready.
    let next : NextItem = record { order = order; given = given; id = c.args.id; item = Stp c.args.item.now } in
    let found = found_in next c.args.encoders.now c.in-Some.index c.index-encoders-index.result
    (sym c.find.ensures ∙ c.in-Some.is) ready in
    record {
      told = stp_line (turns_of c.args.formatter.now) next c.args.item.now true refl (sym (c.in-Err.ensures.fits (given c.args.id) found.stands));
      put = tt;
    }

pub returns-in-Err-clause-spent : goal.returns-in-Err-clause-spent
returns-in-Err-clause-spent c = nothing_spent c.args.formatter.now 200
