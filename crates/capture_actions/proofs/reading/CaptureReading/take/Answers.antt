use Rattle.std.proofs.Common.{◌≡◌, ◌≤◌, ◌∙◌, ◌+◌, ◌-◌, ℕ, Bool, true, ap, drop, length, subst, arith, take, rules}
use Rattle.std.proofs.lemmas.List.{length-drop, length-take-le}
use Rattle.recovering_machines.specs.Hearing.{takes_read}
use Rattle.recovering_machines.specs.HearingLaws.{read_adds_up}
use Rattle.capture_actions.specs.CaptureReading.{TakesOn, taken_by}
use Rattle.capture_actions.proofs.Feeds.{took_none, took_next}
use Rattle.capture_actions.proofs.reading.CaptureReading.take.Goals as goal

pub loop-turn-init : goal.loop-turn-init
loop-turn-init g c = record {
  within = c.requires.piece.0;
  some = omega arith;
  space = c.requires.space;
  took = took_none (takes_read g.V.Receiver.gets) (read_adds_up g.V.Receiver.gets g.met.V.Receiver.adds_up)
      (c.args.self.now, (c.args.out.now, c.args.to.now)) c.requires.live;
}

pub loop-turn-preserved : goal.loop-turn-preserved
loop-turn-preserved g c =
    let kept = c.loop-turn.invariant in
    let one = c.take_turn-taken in
    let more = c.has_more.ensures in
    let so : c.has_more.result ≡ true = search rules in
    record {
      within = more.some so;
      some = (let k = one.ensures.front in let l = kept.some in omega (arith, k.some, l));
      space = more.space so;
      took = subst (λ (f : Bool). TakesOn (takes_read g.V.Receiver.gets) (c.args.self.now, (c.args.out.now, c.args.to.now))
          (one.new.self, (one.new.out, one.new.to)) (take (c.loop-turn.done + one.result.bytes) c.args.piece.now) f) (more.sound so)
          (took_next (takes_read g.V.Receiver.gets) (read_adds_up g.V.Receiver.gets g.met.V.Receiver.adds_up) (c.args.self.now, (c.args.out.now, c.args.to.now))
          (c.loop-turn.self, (c.loop-turn.out, c.loop-turn.to)) (one.new.self, (one.new.out, one.new.to)) c.args.piece.now
          c.loop-turn.done one.result.bytes one.result.is_faulty kept.took one.ensures.took);
    }

pub returns-then-not-has_more : goal.returns-then-not-has_more
returns-then-not-has_more g c =
    let done = c.loop-turn.done in
    let piece = c.args.piece.now in
    let one = c.take_turn-taken in
    let front = one.ensures.front in
    let all : done + one.result.bytes ≤ length piece =
    (let w = c.loop-turn.invariant.within in let d = length-drop done piece in
    let t = length-take-le (length piece - done) (drop done piece) (omega (arith, d)) in omega (arith, w, front.at_most_all, d, t)) in
    let took = took_next (takes_read g.V.Receiver.gets) (read_adds_up g.V.Receiver.gets g.met.V.Receiver.adds_up)
    (c.args.self.now, (c.args.out.now, c.args.to.now)) (c.loop-turn.self, (c.loop-turn.out, c.loop-turn.to))
    (one.new.self, (one.new.out, one.new.to)) piece done one.result.bytes one.result.is_faulty c.loop-turn.invariant.took one.ensures.took in
    record {
      same = took.same;
      front = record { some = omega (arith, front.some); at_most_all = all };
      count = took.count ∙ ap (λ (n : ℕ). taken_by c.args.self.now + n) (length-take-le (done + one.result.bytes) piece all);
      reads = took.reads;
      live = took.live;
    }
