use Rattle.std.proofs.Common.{◌≡◌, ℕ, ◌+◌, List, [], ◌∷◌, ◌++◌, take, sym, ap, subst, arith, ◌∙◌}
use Rattle.trace_values.specs.Placed.{placed_from}
use Rattle.source_events.specs.Fitting.{AllFit, PacketFits}
use Rattle.source_events.specs.declared.event.Event.{Event}
use Rattle.source_events.specs.declared.packet.Packet.{Packet}
use Rattle.recovering_machines.specs.Events.{list_gets}
use Rattle.recovering_machines.specs.HearingLaws.{took_read}
use Rattle.source_merge.specs.Answering.{Answers, flow_to, goes_on}
use Rattle.source_merge.specs.Engine.{Stands, plan_of}
use Rattle.source_merge.specs.Front.{Reads}
use Rattle.source_merge.specs.declared.flow.Flow.{Flow}
use Rattle.source_merge.proofs.engine.Engine.feed.Goals.{After-flow_of}
use Rattle.source_merge.proofs.engine.Engine.feed.Goals as goal

-- it takes the byte
one : (c : After-flow_of) → c.take.result ≡ 1
one c = (let a = c.take.ensures.takes.bytes in omega arith)

gets : (c : After-flow_of) → list_gets (c.args.out.now, tt) c.take.ensures.reads.0 (c.take.new.out, tt)
gets c =
    took_read list_gets (c.args.out.now, tt) (c.take.new.out, tt) c.take.ensures.reads.0 c.take.ensures.reads.1

-- the list has what was given, and nothing else
given : (c : After-flow_of) → c.take.new.out.items ≡ c.take.ensures.reads.0
given c =
    (gets c).0 ∙ ap (λ (l : List (Event Packet)). l ++ c.take.ensures.reads.0) c.requires.empty

pub returns-clause-takes : goal.returns-clause-takes
returns-clause-takes c =
    let some = c.take.ensures.takes in
    record {
      same = some.same;
      bytes = (omega arith, omega arith);
      next = some.next ∙ ap (λ (n : ℕ). c.args.at + n) (one c);
      live = some.live ∙ ap goes_on (sym c.flow_of.ensures);
      list = λ u h.
          subst (λ (n : ℕ). Stands c.take.new.self (u ++ placed_from c.args.at (take n (c.args.byte ∷ [])))) (one c)
          (some.list u h);
    }

pub returns-clause-fits : goal.returns-clause-fits
returns-clause-fits c =
    subst (λ (l : List (Event Packet)). AllFit PacketFits l) (sym (given c)) (gets c).1

pub returns-clause-fed : goal.returns-clause-fed
returns-clause-fed c = λ u h.
    let plan = plan_of c.args.self.now in
    let flow = flow_to c.take.new.stop in
    let r = subst (λ (n : ℕ). Reads plan u c.args.at (take n (c.args.byte ∷ [])) c.take.ensures.reads.0 flow) (one c)
    (c.take.ensures.reads.2 u h) in
    subst (λ (f : Flow). Answers plan c.take.new.out.items f u c.args.at c.args.byte) (sym c.flow_of.ensures)
    (subst (λ (l : List (Event Packet)). Answers plan l flow u c.args.at c.args.byte) (sym (given c))
    (record { events = r.grew; fault = r.fault }))
