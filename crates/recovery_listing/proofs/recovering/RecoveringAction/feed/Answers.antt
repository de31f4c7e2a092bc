use Rattle.std.proofs.Common.{◌≡◌, ℕ, List, [], ◌++◌, arith, ap, ◌∙◌, subst, sym, take, refl}
use Rattle.std.proofs.lemmas.List.{length-take-le}
use Rattle.trace_stream.specs.Debt.{with_debt}
use Rattle.recovery_listing.specs.Recovering.{Stands, how_of}
use Rattle.recovery_listing.proofs.Taken.{Took, front_next, rest_size, took_both, took_none, took_on}
use Rattle.recovery_listing.proofs.recovering.RecoveringAction.feed.Goals as goal

pub loop-done-init : goal.loop-done-init
loop-done-init g c = record {
  few = omega arith;
  none = λ e. (refl, refl);
  live = c.requires.live;
  paid = c.requires.idle.0;
  count = omega arith;
  took = took_none _ _ _ _ c.args.self.now (record { text = c.args.outlet.now; notes = c.args.notes.now });
}

pub loop-done-preserved : goal.loop-done-preserved
loop-done-preserved g c =
    let i = c.loop-done.invariant in
    let one = c.take-done.ensures in
    let n = c.take-done.result in
    let done = c.loop-done.done in
    let piece = c.args.piece.now in
    let rest = rest_size done piece i.few in
    record {
      few = (let a = i.few in let b = one.front.at_most_all in omega (arith, a, b, rest));
      none = λ e. absurd (let b = one.front.some in let h = e in omega (arith, b, h));
      live = one.live;
      paid = one.paid;
      count = (let a = i.count in let b = one.on.count in let l = length-take-le n _ one.front.at_most_all in
          omega (arith, a, b, l));
      took = subst
          (λ (l : List ℕ). Took (λ s. g.A.Account.asked s.account (how_of s)) (Stands g.A.Account.stands)
          g.A.Account.meaning g.A.Account.noted c.args.self.now
          (record { engine = c.take-done.new.engine; account = c.take-done.new.self }) l
          (record { text = c.args.outlet.now; notes = c.args.notes.now })
          (record { text = c.take-done.new.outlet; notes = c.take-done.new.notes }))
          (front_next done n piece)
          (took_both _ _ _ _ c.args.self.now c.loop-done.self
          (record { engine = c.take-done.new.engine; account = c.take-done.new.self }) (take done piece) _
          (record { text = c.args.outlet.now; notes = c.args.notes.now })
          (record { text = c.loop-done.outlet; notes = c.loop-done.notes })
          (record { text = c.take-done.new.outlet; notes = c.take-done.new.notes })
          i.took
          (took_on g.A.Account.asked g.A.Account.stands g.A.Account.meaning g.A.Account.noted g.A.Account.gets
          g.met.A.Account.same g.met.A.Account.goes_on c.loop-done.self
          (record { engine = c.take-done.new.engine; account = c.take-done.new.self }) _
          (record { text = c.loop-done.outlet; notes = c.loop-done.notes })
          (record { text = c.take-done.new.outlet; notes = c.take-done.new.notes })
          (let l = length-take-le n _ one.front.at_most_all in let some = one.front.some in omega (arith, l, some))
          one.on));
    }

-- what the loop took, as an action tells it
pub returns-else-may_go_on-clause-fed : goal.returns-else-may_go_on-clause-fed
returns-else-may_go_on-clause-fed g c = λ seen s.
    let i = c.loop-done.invariant in
    let on = i.took.fed seen s in
    record {
      read = on.read;
      more = on.more;
      grown = on.grown;
      gained = ap (with_debt c.loop-done.outlet) i.paid ∙ on.gained;
      fault = g.met.A.Account.sound _ _;
    }

pub returns-after-loop-done-clause-fed : goal.returns-after-loop-done-clause-fed
returns-after-loop-done-clause-fed g c = λ seen s.
    let i = c.loop-done.invariant in
    let on = i.took.fed seen s in
    record {
      read = on.read;
      more = on.more;
      grown = on.grown;
      gained = ap (with_debt c.loop-done.outlet) i.paid ∙ on.gained;
      fault = g.met.A.Account.sound _ _;
    }

-- nothing was noted before
noted_by : (noted seen told before after : List ℕ) → noted ≡ seen ++ told → before ≡ [] → after ≡ before ++ told →
    noted ≡ seen ++ after
noted_by noted seen told before after e none q =
    e ∙ ap (λ (l : List ℕ). seen ++ l) (sym (q ∙ ap (λ (l : List ℕ). l ++ told) none))

pub returns-else-may_go_on-clause-noted : goal.returns-else-may_go_on-clause-noted
returns-else-may_go_on-clause-noted g c = λ seen s.
    let on = c.loop-done.invariant.took.fed seen s in
    noted_by _ _ on.told c.args.notes.now c.loop-done.notes on.noted c.requires.idle.1 on.noting

pub returns-after-loop-done-clause-noted : goal.returns-after-loop-done-clause-noted
returns-after-loop-done-clause-noted g c = λ seen s.
    let on = c.loop-done.invariant.took.fed seen s in
    noted_by _ _ on.told c.args.notes.now c.loop-done.notes on.noted c.requires.idle.1 on.noting
