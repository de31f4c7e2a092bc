use Rattle.std.proofs.Common.{true, ◌==◌, ◌≡◌, ℕ, [], length, arith, ◌∙◌, sym, refl}
use Rattle.std.proofs.lemmas.Bool.Decides.{nat_tests}
use Rattle.std.proofs.lemmas.List.{take_rest, nil_from_length, length-drop}
use Rattle.trace_stream.proofs.Pieces.{feeding_none, feeding_first, feeding_all, feeding_write_failed, feeding_put_failed, feeding_more, feeding_stopped, taken_at}
use Rattle.trace_stream.proofs.Telling.{noted_at, told_kept, told_taken}
use Rattle.trace_stream.proofs.feeding.feed_piece.Goals as goal

pub returns-in_err-make_room-clause-fed : goal.returns-in_err-make_room-clause-fed
returns-in_err-make_room-clause-fed g c = λ start first seen p e after.
    feeding_write_failed _ _ _ _ _ _ _ _ (feeding_none _ _ _ _ _ after) _ c.from_residual.ensures.0 c.in_err-make_room.ensures.err

pub loop-rest-init : goal.loop-rest-init
loop-rest-init g c = record {
  same = refl;
  live = c.requires.live;
  silent = c.requires.idle.1;
  nothing_owed = c.requires.idle.0;
  room = c.in_ok-make_room.ensures.room;
  count = refl;
  within = omega arith;
  feeding = λ start first seen p e after. feeding_first _ _ _ _ _ _ _ c.in_ok-make_room.ensures.ok after;
  later = omega (arith, c.in_ok-make_room.ensures.cause.later);
}

pub returns-in_err-pour_all-clause-fed : goal.returns-in_err-pour_all-clause-fed
returns-in_err-pour_all-clause-fed g c = λ start first seen p e after.
    let so_far = c.loop-rest.invariant.feeding start first seen p e after in
    let same = c.loop-rest.invariant.same ∙ e in
    let taken = taken_at _ g.A.Action.meaning _ p _ _ _ same refl (c.feed-taken.ensures.fed _ so_far.after.read.read) in
    let grown = noted_at g.A.Action.noted _ p _ _ _ same (c.feed-taken.ensures.noted _ so_far.after.read.read) in
    let now = told_taken _ _ (g.A.Action.noted p) first _ _ _ _ _ _ so_far.after.read taken grown c.note.ensures.noted c.note.ensures.later in
    feeding_put_failed _ _ _ _ _ _ _ _ _ _ _ _ so_far (told_kept _ _ _ _ _ c.pour_all.ensures.stands) _ _ c.from_residual-in_err-pour_all.ensures.0 now c.in_err-pour_all.ensures.err

pub returns-in_err-flush-clause-fed : goal.returns-in_err-flush-clause-fed
returns-in_err-flush-clause-fed g c = λ start first seen p e after.
    feeding_write_failed _ _ _ _ _ _ _ _ (c.loop-rest.invariant.feeding start first seen p e after) _ c.from_residual-in_err-flush.ensures.0 c.in_err-flush.ensures.err

pub loop-rest-preserved : goal.loop-rest-preserved
loop-rest-preserved g c =
    let was = c.loop-rest.invariant in
    record {
      same = c.pour_all.ensures.same ∙ c.feed-taken.ensures.same ∙ was.same;
      live = c.pour_all.ensures.live (c.feed-taken.ensures.live c.if-taken.false);
      silent = c.note.ensures.emptied;
      nothing_owed = c.in_ok-pour_all.ensures.paid;
      room = c.in_ok-pour_all.ensures.room;
      count = simp (take_rest, length-drop) (omega (arith, c.pour_all.ensures.count, c.feed-taken.ensures.front.1, was.count, c.feed-taken.ensures.front.0.at_most_all));
      within = simp (take_rest, length-drop) (omega (arith, was.within));
      feeding = λ start first seen p e after.
          let so_far = was.feeding start first seen p e after in
          let same = was.same ∙ e in
          let taken = taken_at _ g.A.Action.meaning _ p _ _ _ same c.if-taken.false (c.feed-taken.ensures.fed _ so_far.after.read.read) in
          let grown = noted_at g.A.Action.noted _ p _ _ _ same (c.feed-taken.ensures.noted _ so_far.after.read.read) in
          let now = told_taken _ _ (g.A.Action.noted p) first _ _ _ _ _ _ so_far.after.read taken grown c.note.ensures.noted c.note.ensures.later in
          rw take_rest (feeding_more _ _ _ _ _ _ _ _ _ _ _ _ so_far (told_kept _ _ _ _ _ c.pour_all.ensures.stands) now c.in_ok-pour_all.ensures.ok);
      later = omega (arith, was.later, c.in_ok-pour_all.ensures.cause.later);
    }

pub returns-then-taken-clause-fed : goal.returns-then-taken-clause-fed
returns-then-taken-clause-fed g c = λ start first seen p e after.
    let so_far = c.loop-rest.invariant.feeding start first seen p e after in
    let same = c.loop-rest.invariant.same ∙ e in
    let taken = taken_at _ g.A.Action.meaning _ p _ _ _ same c.if-taken.true (c.feed-taken.ensures.fed _ so_far.after.read.read) in
    let grown = noted_at g.A.Action.noted _ p _ _ _ same (c.feed-taken.ensures.noted _ so_far.after.read.read) in
    let now = told_taken _ _ (g.A.Action.noted p) first _ _ _ _ _ _ so_far.after.read taken grown c.note.ensures.noted c.note.ensures.later in
    feeding_stopped _ _ _ _ _ _ _ _ _ _ _ _ so_far (told_kept _ _ _ _ _ c.pour_all.ensures.stands) now c.in_ok-pour_all.ensures.ok

empty_from_test : (n : ℕ) → (n == 0) ≡ true → n ≡ 0
empty_from_test n h = grind (arith, nat_tests)

pub returns-clause-fed : goal.returns-clause-fed
returns-clause-fed g c = λ start first seen p e after.
    let none : c.loop-rest.rest.now ≡ [] = nil_from_length c.loop-rest.rest.now (empty_from_test (length c.loop-rest.rest.now) (sym c.is_empty.ensures ∙ c.loop-rest-test.false)) in
    feeding_all _ _ _ _ _ _ _ _ (c.loop-rest.invariant.feeding start first seen p e after) none c.in_ok-flush.ensures.ok c.in_ok-flush.ensures.emptied

pub returns-clause-taken : goal.returns-clause-taken
returns-clause-taken g c =
    let was = c.loop-rest.invariant in
    let none : length c.loop-rest.rest.now ≡ 0 = empty_from_test (length c.loop-rest.rest.now) (sym c.is_empty.ensures ∙ c.loop-rest-test.false) in
    record {
      within = omega arith;
      count = omega (arith, none, was.count);
      all = λ e. (was.live, refl, c.in_ok-flush.ensures.emptied);
    }
