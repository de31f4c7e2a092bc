use Rattle.std.proofs.Common.{◌≡◌, ◌∙◌, ap, sym, subst, refl, ◌++◌, length, List, arith}
use Rattle.trace_values.specs.declared.step.Step.TheVariants.{Fault as Faulty}
use Rattle.trace_values.specs.Placed.{Placed}
use Rattle.trace_values.specs.Stream.{Grows}
use Rattle.source_machine.specs.Units.{StandsOn, TakesUnits, kind_of as kind_on, units_at, units_from}
use Rattle.stretch_readings.specs.Steps.{said_by}
use Rattle.recovering_machines.specs.Source.{heard_by, reads_of, with_byte}
use Rattle.recovering_machines.specs.Units.{AreWhole, BeginsHunt}
use Rattle.recovering_machines.proofs.Bytes.{answer, keeps_falls, given_falls, keeps_goes, given_goes, goes_of, grows}
use Rattle.recovering_machines.proofs.Bytes.{held_falls, hunts_falls, hunts_goes, sound, whole_falls, whole_goes}
use Rattle.recovering_machines.proofs.Passed.{lowered, taken_lowered, before_lowered}
use Rattle.recovering_machines.proofs.Beginning.{begins}
use Rattle.recovering_machines.proofs.source.RecoveringSource.feed.Goals as goal

pub returns-in-Fault-clause-list : goal.returns-in-Fault-clause-list
returns-in-Fault-clause-list c = λ r k.
    let s = c.args.self.now in
    let e = c.feed_units.new.self in
    let z = c.hunting_from-self in
    let takes = subst (λ x. TakesUnits s.machine e (k.front ++ r.now.units) c.args.at c.args.byte x) c.in-Fault.is
    (c.feed_units.ensures.takes (k.front ++ r.now.units) k.keeps.stands) in
    let x = c.in-Fault.fault in
    let same = c.feed_units.ensures.kind in
    let first = subst (λ kind. BeginsHunt kind x.half c.args.byte c.first_byte-first.result) same
    c.first_byte-first.ensures in
    let b = begins s.machine x.half c.args.at c.args.byte c.first_byte-first.result first in
    let next = subst (λ kind. units_at kind c.args.at c.first_byte-first.result.byte
    ≡ b.front ++ units_from (kind_on s.machine) x.half c.args.at c.args.byte) (sym same) b.units in
    record {
      front = b.front;
      keeps = keeps_falls s.machine e s.past s.count k.front r k.keeps s.live c.args.at c.args.byte
          c.feed_units.ensures.reads c.feed_units.ensures.mode x takes c.in-Fault.ensures.tells.0
          z.result c.skipped.result c.saturating_sub-self.result b.front c.skipped.ensures
          (let size = b.size in let held = c.held.ensures in let now = c.saturating_sub-self.ensures in
          let few = held_falls s.machine e s.past s.count k.front r k.keeps s.live c.args.at c.args.byte
          c.feed_units.ensures.reads c.feed_units.ensures.mode x takes c.in-Fault.ensures.tells.0
          c.first_byte-first.result first in omega (arith, size, held, now, few))
          (z.ensures.reads ∙ c.feed_units.ensures.reads) z.ensures.mode b.passed
          (subst (StandsOn z.result) next z.ensures.list);
      hunts = sym (hunts_falls s.machine e s.past s.count k.front r k.keeps s.live c.args.at c.args.byte
          c.feed_units.ensures.reads c.feed_units.ensures.mode x takes c.in-Fault.ensures.tells.0);
      whole = subst (λ kind. AreWhole kind (b.front ++ (with_byte s r c.args.at c.args.byte).now.units))
          (sym (z.ensures.kind ∙ same))
          (whole_falls s.machine e s.past s.count k.front r k.keeps s.live c.args.at c.args.byte
          c.feed_units.ensures.reads c.feed_units.ensures.mode x takes c.in-Fault.ensures.tells.0
          (kind_on s.machine) b.front b.whole);
    }

pub returns-in-Fault-clause-step : goal.returns-in-Fault-clause-step
returns-in-Fault-clause-step c = λ r k.
    let s = c.args.self.now in
    let e = c.feed_units.new.self in
    let takes = subst (λ x. TakesUnits s.machine e (k.front ++ r.now.units) c.args.at c.args.byte x) c.in-Fault.is
    (c.feed_units.ensures.takes (k.front ++ r.now.units) k.keeps.stands) in
    record {
      own = Faulty c.in-Fault.fault;
      is = refl;
      grows = grows s.machine e s.past s.count k.front r k.keeps s.live c.args.at c.args.byte
          c.feed_units.ensures.reads c.feed_units.ensures.mode (Faulty c.in-Fault.fault) takes;
      sound = sound s.machine e s.past s.count k.front r k.keeps s.live c.args.at c.args.byte
          c.feed_units.ensures.reads c.feed_units.ensures.mode (Faulty c.in-Fault.fault) takes;
    }

pub returns-in-Fault-clause-given : goal.returns-in-Fault-clause-given
returns-in-Fault-clause-given c = λ r k.
    let s = c.args.self.now in
    let e = c.feed_units.new.self in
    given_falls s.machine e s.past s.count k.front r k.keeps s.live c.args.at c.args.byte c.feed_units.ensures.reads
    c.feed_units.ensures.mode c.in-Fault.fault
    (subst (λ x. TakesUnits s.machine e (k.front ++ r.now.units) c.args.at c.args.byte x) c.in-Fault.is
    (c.feed_units.ensures.takes (k.front ++ r.now.units) k.keeps.stands)) c.in-Fault.ensures.tells.0

pub returns-in_default : goal.returns-in_default
returns-in_default c =
    let s = c.args.self.now in
    let e = c.feed_units.new.self in
    let on = goes_of c.feed_units.result c.in_default.not-Fault in
    let alike = c.feed_units.ensures.reads in
    let mode = c.feed_units.ensures.mode in
    record {
      kind = c.feed_units.ensures.kind;
      reads = c.feed_units.ensures.reads;
      list = λ r k.
          let takes = c.feed_units.ensures.takes (k.front ++ r.now.units) k.keeps.stands in
          record {
            front = k.front;
            keeps = keeps_goes s.machine e s.past s.count k.front r k.keeps s.live c.args.at c.args.byte alike mode
                c.feed_units.result takes on;
            hunts = k.hunts ∙ sym (hunts_goes s.machine e s.past s.count k.front r k.keeps s.live c.args.at c.args.byte
                alike mode c.feed_units.result takes on);
            whole = whole_goes s.machine e s.past s.count k.front r k.keeps s.live c.args.at c.args.byte alike mode
                c.feed_units.result takes on (kind_on e) c.feed_units.ensures.kind k.whole;
          };
      given = λ r k. given_goes s.machine e s.past s.count k.front r k.keeps s.live c.args.at c.args.byte alike mode
          c.feed_units.result (c.feed_units.ensures.takes (k.front ++ r.now.units) k.keeps.stands) on
          ∙ ap (λ x. (heard_by s r).given ++ said_by c.args.at x) (sym c.raised.ensures.value);
      step = λ r k.
          let takes = c.feed_units.ensures.takes (k.front ++ r.now.units) k.keeps.stands in
          let n = length k.front in
          record {
            own = lowered n c.feed_units.result;
            is = c.raised.ensures.value ∙ answer s.machine e s.past s.count k.front r k.keeps s.live c.args.at
                c.args.byte alike mode c.feed_units.result takes;
            grows = subst (λ (l : List Placed). Grows (reads_of s r.now.hunts r.now.units)
                (reads_of s r.now.hunts (r.now.units ++ l)) c.args.at (lowered n c.feed_units.result))
                (sym (taken_lowered n (kind_on s.machine) c.args.at c.args.byte c.feed_units.result))
                (grows s.machine e s.past s.count k.front r k.keeps s.live c.args.at c.args.byte alike mode
                c.feed_units.result takes);
            sound = ap (λ (l : List Placed). (reads_of s r.now.hunts (r.now.units ++ l)).fault)
                (before_lowered n (kind_on s.machine) c.args.at c.args.byte c.feed_units.result)
                ∙ sound s.machine e s.past s.count k.front r k.keeps s.live c.args.at c.args.byte alike mode
                c.feed_units.result takes;
          };
      fits = c.raised.ensures.fits;
      few = (let k = c.feed_units.ensures.few in omega (arith, k));
    }
