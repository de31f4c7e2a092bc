use Rattle.std.proofs.Common.{◌≡◌, ℕ, ◌+◌, ◌-◌, ◌≤◌, List, [], ◌++◌, length, take, drop, refl, sym, ◌∙◌, ap, subst, arith, true, Option, Some, None, rules}
use Rattle.std.proofs.lemmas.List.{length-take-le, length-drop}
use Rattle.trace_values.specs.Placed.{Placed, placed_from}
use Rattle.deformatter.specs.Block.{EachByte, FedAs}
use Rattle.source_events.specs.Fitting.{AllFit, PacketFits}
use Rattle.source_events.specs.declared.event.Event.{Event}
use Rattle.source_events.specs.declared.event.Stop.{Stop}
use Rattle.source_events.specs.declared.packet.Packet.{Packet}
use Rattle.source_events.specs.declared.plan.Plan.{Plan}
use Rattle.deformatter.proofs.Blocks.{whole_fed}
use Rattle.arrayvec.specs.ArrayVec.{array_vec_len}
use Rattle.recovering_machines.specs.Events.{list_gets}
use Rattle.recovering_machines.specs.HearingLaws.{took_read}
use Rattle.source_merge.specs.Answering.{Answers, flow_to, goes_on}
use Rattle.source_merge.specs.declared.engine.Engine.{Engine}
use Rattle.source_merge.specs.declared.flow.Fed.{Fed}
use Rattle.source_merge.specs.declared.flow.Flow.{Flow}
use Rattle.source_merge.specs.declared.flow.Flow.TheVariants.{Going}
use Rattle.source_merge.specs.Engine.{Stands, plan_of}
use Rattle.source_merge.specs.Front.{GivesLast, TakesFront}
use Rattle.source_merge.specs.Front.{fed as fed_by}
use Rattle.source_merge.proofs.Feds.{fed_each, tail_of, going_on, none_in, more_list, more_fed}
use Rattle.source_merge.proofs.engine.Engine.feed_block.Goals as goal

-- what one more call takes of the piece, after bytes that gave nothing
module _ (first old new : Engine) (at n : ℕ) (piece : List ℕ) (taken : Fed) (es : List (Event Packet)) (within : n ≤ length piece)
    (same : plan_of old ≡ plan_of first)
    (before : (u : List Placed) → Stands first u → Stands old (u ++ placed_from at (take n piece)))
    (quiet : (u : List Placed) → Stands first u → EachByte (Answers (plan_of first) [] Going) u at (take n piece))
    (takes : TakesFront old new (at + n) (take (length piece - n) (drop n piece)) taken)
    (gave : GivesLast old (at + n) (take taken.bytes (take (length piece - n) (drop n piece))) taken.flow es) where
  list : (u : List Placed) → Stands first u → Stands new (u ++ placed_from at (take (n + taken.bytes) piece))
  list u h =
      more_list piece n taken.bytes at within u (λ (v : List Placed). Stands new v)
      (takes.list (u ++ placed_from at (take n piece)) (before u h))

  fed : GivesLast first at (take (n + taken.bytes) piece) taken.flow es
  fed u h =
      more_fed piece n taken.bytes at within u (Answers (plan_of first) [] Going) (Answers (plan_of first) es taken.flow) (quiet u h)
      (subst (λ (p : Plan). FedAs (Answers p [] Going) (Answers p es taken.flow) (u ++ placed_from at (take n piece)) (at + n) (take taken.bytes (take (length piece - n) (drop n piece)))) same
      (gave (u ++ placed_from at (take n piece)) (before u h)))

-- where it goes on, no fault is kept
none_kept : (stop : Option Stop) → goes_on (flow_to stop) ≡ true → stop ≡ None
none_kept None h = refl
none_kept (Some stop) h = search rules

pub returns-then-not-is_empty-clause-takes : goal.returns-then-not-is_empty-clause-takes
returns-then-not-is_empty-clause-takes c =
    let one = c.take_last-bytes.ensures.takes in
    let i = c.loop-bytes.invariant in
    record {
      same = one.same ∙ i.same;
      bytes = (let a = one.bytes in let b = i.within in let d = length-drop c.loop-bytes.bytes c.args.piece.now in omega (arith, a, b, d), omega arith);
      next = (let a = one.next in omega arith);
      live = one.live ∙ ap goes_on (sym c.flow_of.ensures);
      list = list c.args.self.now c.loop-bytes.self c.take_last-bytes.new.self c.args.at c.loop-bytes.bytes c.args.piece.now (fed_by c.take_last-bytes.result c.take_last-bytes.new.stop) c.take_last-bytes.ensures.fed.0
          i.within i.same i.list i.quiet one c.take_last-bytes.ensures.fed.2;
    }

pub returns-then-not-is_empty-clause-fits : goal.returns-then-not-is_empty-clause-fits
returns-then-not-is_empty-clause-fits c =
    let t = c.take_last-bytes.ensures.fed in
    let gets = took_read list_gets (c.loop-bytes.out, tt) (c.take_last-bytes.new.out, tt) t.0 t.1 in
    subst (λ (l : List (Event Packet)). AllFit PacketFits l)
    (sym (gets.0 ∙ ap (λ (l : List (Event Packet)). l ++ t.0) c.loop-bytes.invariant.empty)) gets.1

pub returns-then-not-is_empty-clause-fed : goal.returns-then-not-is_empty-clause-fed
returns-then-not-is_empty-clause-fed c =
    let i = c.loop-bytes.invariant in
    let t = c.take_last-bytes.ensures.fed in
    let gets = took_read list_gets (c.loop-bytes.out, tt) (c.take_last-bytes.new.out, tt) t.0 t.1 in
    subst (λ (f : Flow). GivesLast c.args.self.now c.args.at (take (c.loop-bytes.bytes + c.take_last-bytes.result) c.args.piece.now) f c.take_last-bytes.new.out.items)
    (sym c.flow_of.ensures)
    (subst (λ (l : List (Event Packet)). GivesLast c.args.self.now c.args.at (take (c.loop-bytes.bytes + c.take_last-bytes.result) c.args.piece.now) (flow_to c.take_last-bytes.new.stop) l)
    (sym (gets.0 ∙ ap (λ (l : List (Event Packet)). l ++ t.0) i.empty))
    (fed c.args.self.now c.loop-bytes.self c.take_last-bytes.new.self c.args.at c.loop-bytes.bytes c.args.piece.now (fed_by c.take_last-bytes.result c.take_last-bytes.new.stop) t.0
    i.within i.same i.list i.quiet c.take_last-bytes.ensures.takes t.2))

pub loop-bytes-preserved : goal.loop-bytes-preserved
loop-bytes-preserved c =
    let i = c.loop-bytes.invariant in
    let n = c.loop-bytes.bytes in
    let piece = c.args.piece.now in
    let one = c.take_last-bytes.ensures.takes in
    let t = c.take_last-bytes.ensures.fed in
    let gets = took_read list_gets (c.loop-bytes.out, tt) (c.take_last-bytes.new.out, tt) t.0 t.1 in
    let m = c.take_last-bytes.result in
    let quiet = Answers (plan_of c.args.self.now) [] Going in
    let empty = none_in c.take_last-bytes.new.out.items (array_vec_len c.take_last-bytes.new.out) refl (sym c.is_empty.ensures ∙ c.if-not-is_empty.false) in
    let none : t.0 ≡ [] = sym (gets.0 ∙ ap (λ (l : List (Event Packet)). l ++ t.0) i.empty) ∙ empty in
    let going = going_on (flow_to c.take_last-bytes.new.stop) (sym one.live ∙ c.if-not-self.false) in
    let rest = length-drop n piece in
    let tail = tail_of n piece in
    let left = ap length tail in
    record {
      within = (let a = one.bytes.1 in let b = i.within in omega arith);
      live = c.if-not-self.false;
      sound = none_kept c.take_last-bytes.new.stop (sym one.live ∙ c.if-not-self.false);
      empty = empty;
      same = one.same ∙ i.same;
      next = (let a = one.next in omega arith);
      next_is = λ k. (let a = one.next in omega arith);
      list = list c.args.self.now c.loop-bytes.self c.take_last-bytes.new.self c.args.at n piece (fed_by c.take_last-bytes.result c.take_last-bytes.new.stop) t.0
          i.within i.same i.list i.quiet one t.2;
      quiet = λ u h.
          fed_each quiet (take (n + m) piece) u c.args.at
          (subst (λ (es : List (Event Packet)). FedAs quiet (Answers (plan_of c.args.self.now) es Going) u c.args.at (take (n + m) piece)) none
          (subst (λ (f : Flow). FedAs quiet (Answers (plan_of c.args.self.now) t.0 f) u c.args.at (take (n + m) piece)) going
          (fed c.args.self.now c.loop-bytes.self c.take_last-bytes.new.self c.args.at n piece (fed_by c.take_last-bytes.result c.take_last-bytes.new.stop) t.0
          i.within i.same i.list i.quiet one t.2 u h)));
    }

pub returns-clause-takes : goal.returns-clause-takes
returns-clause-takes c =
    let i = c.loop-bytes.invariant in
    let some = c.requires.some in
    let end = c.loop-bytes-test.false in
    record {
      same = i.same;
      bytes = (omega arith, i.within);
      next = i.next_is (omega arith);
      live = i.live;
      list = i.list;
    }

pub returns-clause-fed : goal.returns-clause-fed
returns-clause-fed c = λ u h.
    let n = c.loop-bytes.bytes in
    let piece = c.args.piece.now in
    let some = c.requires.some in
    let end = c.loop-bytes-test.false in
    let i = c.loop-bytes.invariant in
    let quiet = Answers (plan_of c.args.self.now) [] Going in
    subst (λ (out : List (Event Packet)). FedAs quiet (Answers (plan_of c.args.self.now) out Going) u c.args.at (take n piece)) (sym i.empty)
    (whole_fed quiet u c.args.at (take n piece) (let a = length-take-le n piece i.within in omega arith) (i.quiet u h))
