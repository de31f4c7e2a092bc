use Rattle.std.proofs.Common.{rules, ◌≡◌, ◌<◌, ◌≤◌, ◌+◌, ◌*◌, ◌++◌, ◌∷◌, [], ℕ, List, length, get_or, take, ◌∙◌, ap}
use Rattle.std.proofs.Common.{sym, subst, arith, Option}
use Rattle.std.proofs.lemmas.List.{length-map, length-take-le, map-append, take_all}
use Rattle.port_formatter.specs.Formatter.{turns_of}
use Rattle.script_rebuild.specs.declared.encoders.SourceEncoder.{SourceEncoder}
use Rattle.script_rebuild.specs.Encoding.{ids_in, StandsFor, KeepsPlaced, flushed}
use Rattle.script_rebuild.proofs.EndsPut.{AreEnding, none_ending, ids_more, one_put, all_flushed}
use Rattle.std.proofs.lemmas.List.Elements.{All-push}
use Rattle.script_rebuild.specs.Names.{Turns}
use Rattle.script_rebuild.proofs.Rooms.{less_room}
use Rattle.script_rebuild.proofs.encoders.put_kept.Goals as goal

pub loop-slot-init : goal.loop-slot-init
loop-slot-init c = subst (λ (l : List SourceEncoder). AreEnding c.args.encoders.now.items l 0 c.args.formatter.now c.args.formatter.now) (sym c.new-later.ensures)
    (none_ending c.args.encoders.now.items c.args.formatter.now)

pub put_end-requires-clause-count : goal.put_end-requires-clause-count
put_end-requires-clause-count c =
    let lt : c.loop-slot.slot-index < length c.args.encoders.now.items = search rules in
    let few : length c.args.encoders.now.items ≤ 8 = search rules in
    omega (arith, lt, few, c.loop-slot.invariant.count, c.requires.count)

pub put_end-requires-clause-room : goal.put_end-requires-clause-room
put_end-requires-clause-room c =
    let i = c.loop-slot.slot-index in
    let lt : i < length c.args.encoders.now.items = search rules in
    let few : length c.args.encoders.now.items ≤ 8 = search rules in
    c.loop-slot.invariant.room 2 (less_room c.args.formatter.now 16 (2 * i + 2) (omega (arith, lt, few)) c.requires.room)

pub push-requires : goal.push-requires
push-requires c =
    let slots = c.args.encoders.now.items in
    let i = c.loop-slot.slot-index in
    let lt : i < length slots = search rules in
    let few : length slots ≤ 8 = search rules in
    let ids : ids_in c.loop-slot.later.items ≡ ids_in (take i slots) = c.loop-slot.invariant.ids in
    omega (
      arith,
      lt,
      few,
      ap length ids,
      length-map c.loop-slot.later.items (λ (e : SourceEncoder). e.id),
      length-map (take i slots) (λ (e : SourceEncoder). e.id),
      length-take-le i slots (omega (arith, lt)),
    )

pub loop-slot-preserved : goal.loop-slot-preserved
loop-slot-preserved c =
    let slots = c.args.encoders.now.items in
    let old = c.args.formatter.now in
    let i = c.loop-slot.slot-index in
    let one = c.slot-item.result in
    let so_far = c.loop-slot.invariant in
    let later = c.loop-slot.later.items in
    let lt : i < length slots = search rules in
    let is : one ≡ get_or slots i one = search rules in
    let next = c.put_end.result in
    let pushed : c.push.new.self.items ≡ later ++ next ∷ [] = c.push.ensures.items in
    subst (λ (l : List SourceEncoder). AreEnding slots l (i + 1) old c.put_end.new.formatter) (sym pushed)
    (record {
      turns = c.put_end.ensures.turns ∙ so_far.turns;
      count = omega (arith, so_far.count, c.put_end.ensures.count);
      room = λ more h.
          c.put_end.ensures.room more
          (so_far.room (2 + more) (less_room old (2 * (i + 1) + more) (2 * i + (2 + more)) (omega arith) h));
      ids = map-append (λ (e : SourceEncoder). e.id) later (next ∷ [])
          ∙ ap (λ (l : List ℕ). l ++ next.id ∷ []) so_far.ids
          ∙ ap (λ (n : ℕ). ids_in (take i slots) ++ n ∷ []) (c.put_end.ensures.id ∙ ap (λ (e : SourceEncoder). e.id) is)
          ∙ sym (ids_more slots i one lt);
      stand = λ order given stand.
          All-push (StandsFor order (flushed given)) later next (so_far.stand order given stand)
          (c.put_end.ensures.stand order given (subst (StandsFor order given) (sym is) (stand i one lt)));
      put = λ order given stand keeps.
          let mine : StandsFor order given one = subst (StandsFor order given) (sym is) (stand i one lt) in
          let place : KeepsPlaced (turns_of c.loop-slot.formatter) order given one.id =
          subst (λ (f : Option Turns). KeepsPlaced f order given one.id) (sym so_far.turns) (keeps one.id) in
          one_put order given slots i one old c.loop-slot.formatter c.put_end.new.formatter lt is
          (c.put_end.ensures.put order given mine place) (so_far.put order given stand keeps);
    })

pub returns-clause-ids : goal.returns-clause-ids
returns-clause-ids c =
    let slots = c.args.encoders.now.items in
    let end : c.loop-slot.slot-index ≡ length slots = search rules in
    c.loop-slot.invariant.ids ∙ ap ids_in (take_all c.loop-slot.slot-index slots (omega (arith, end)))

pub returns-clause-put : goal.returns-clause-put
returns-clause-put c = λ order given stand keeps.
    let slots = c.args.encoders.now.items in
    let end : c.loop-slot.slot-index ≡ length slots = search rules in
    all_flushed order given slots c.loop-slot.slot-index c.args.formatter.now c.loop-slot.formatter end
    (c.loop-slot.invariant.put order given stand keeps)

pub returns-clause-stand : goal.returns-clause-stand
returns-clause-stand c = λ order given stand. c.loop-slot.invariant.stand order given stand

pub returns-clause-count : goal.returns-clause-count
returns-clause-count c =
    let end : c.loop-slot.slot-index ≡ length c.args.encoders.now.items = search rules in
    let few : length c.args.encoders.now.items ≤ 8 = search rules in
    omega (arith, end, few, c.loop-slot.invariant.count)

pub returns-clause-room : goal.returns-clause-room
returns-clause-room c = λ more h.
    let end : c.loop-slot.slot-index ≡ length c.args.encoders.now.items = search rules in
    let few : length c.args.encoders.now.items ≤ 8 = search rules in
    c.loop-slot.invariant.room more
    (less_room c.args.formatter.now (16 + more) (2 * c.loop-slot.slot-index + more) (omega (arith, end, few)) h)
