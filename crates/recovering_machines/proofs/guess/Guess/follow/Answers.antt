use Rattle.std.proofs.Common.{refl, ◌≡◌, ◌++◌, subst, false}
use Rattle.source_events.specs.declared.packet.Packet.{Packet}
use Rattle.stretch_readings.specs.Steps.{said_by}
use Rattle.recovering_machines.specs.Guess.{near_by}
use Rattle.recovering_machines.specs.Source.{Answers, with_byte}
use Rattle.recovering_machines.proofs.Guessing.{begins, ends, stays}
use Rattle.trace_values.specs.declared.step.Step.{Step}
use Rattle.recovering_machines.proofs.guess.Guess.follow.Goals as goal

pub returns-in-Fault-clause-follows : goal.returns-in-Fault-clause-follows
returns-in-Fault-clause-follows c = λ s r start l k a f.
    (begins s r c.args.at c.args.byte c.args.step k a start l c.args.self.now c.begin.new.self c.begin.ensures.kind
    c.begin.ensures.reads f c.in-Fault.fault c.in-Fault.is c.begin.ensures.reading c.begin.ensures.goes
    c.begin.ensures.quiet c.begin.ensures.sound).follows

pub returns-in-Fault-clause-said : goal.returns-in-Fault-clause-said
returns-in-Fault-clause-said c = λ s r start l k a f.
    (begins s r c.args.at c.args.byte c.args.step k a start l c.args.self.now c.begin.new.self c.begin.ensures.kind
    c.begin.ensures.reads f c.in-Fault.fault c.in-Fault.is c.begin.ensures.reading c.begin.ensures.goes
    c.begin.ensures.quiet c.begin.ensures.sound).near

pub returns-in-Locked-clause-follows : goal.returns-in-Locked-clause-follows
returns-in-Locked-clause-follows c = λ s r start l k a f.
    (ends s r c.args.at c.args.byte c.args.step k a start l c.args.self.now
    (record { machine = c.args.self.now.machine; is_reading = false; live = c.self-1.given.0 }) refl
    refl f c.in-Locked.skipped c.in-Locked.half c.in-Locked.item c.in-Locked.is refl).follows

pub returns-in-Locked-clause-said : goal.returns-in-Locked-clause-said
returns-in-Locked-clause-said c = λ s r start l k a f.
    subst (λ (x : Step Packet). near_by s (with_byte s r c.args.at c.args.byte) ≡ near_by s r ++ said_by c.args.at x)
    c.in-Locked.is
    (ends s r c.args.at c.args.byte c.args.step k a start l c.args.self.now
    (record { machine = c.args.self.now.machine; is_reading = false; live = c.self-1.given.0 }) refl
    refl f c.in-Locked.skipped c.in-Locked.half c.in-Locked.item c.in-Locked.is refl).near

pub returns-in-Skipping-clause-follows : goal.returns-in-Skipping-clause-follows
returns-in-Skipping-clause-follows c = λ s r start l k a f.
    c.skip.ensures.follows s r start l k (subst (λ x. Answers s r c.args.at c.args.byte x) c.in-Skipping.is a) f

pub returns-in-Skipping-clause-said : goal.returns-in-Skipping-clause-said
returns-in-Skipping-clause-said c = λ s r start l k a f.
    c.skip.ensures.said s r start l k (subst (λ x. Answers s r c.args.at c.args.byte x) c.in-Skipping.is a) f

pub returns-in_default-clause-follows : goal.returns-in_default-clause-follows
returns-in_default-clause-follows c = λ s r start l k a f.
    (stays s r c.args.at c.args.byte c.args.step k a start l c.args.self.now c.args.self.now refl refl f refl
    c.in_default.not-Fault c.in_default.not-Locked c.in_default.not-Skipping).follows

pub returns-in_default-clause-said : goal.returns-in_default-clause-said
returns-in_default-clause-said c = λ s r start l k a f.
    (stays s r c.args.at c.args.byte c.args.step k a start l c.args.self.now c.args.self.now refl refl f refl
    c.in_default.not-Fault c.in_default.not-Locked c.in_default.not-Skipping).near
