use Rattle.std.proofs.Common.{refl, ◌∙◌}
use Rattle.recovering_machines.proofs.Guessing.{idle_on_skip, reads_on_skip}
use Rattle.trace_values.specs.declared.step.Step.TheVariants.{Skipping}
use Rattle.recovering_machines.proofs.guess.Guess.skip.Goals as goal

pub returns-then-self-clause-follows : goal.returns-then-self-clause-follows
returns-then-self-clause-follows c = λ s r start l k a f.
    (reads_on_skip s r c.args.at c.args.byte Skipping k a start l c.args.self.now c.read.new.self c.read.ensures.kind
    c.read.ensures.reads f refl c.read.result c.if-self.true (c.read.ensures.reading ∙ c.if-self.true)
    c.read.ensures.takes).follows

pub returns-then-self-clause-said : goal.returns-then-self-clause-said
returns-then-self-clause-said c = λ s r start l k a f.
    (reads_on_skip s r c.args.at c.args.byte Skipping k a start l c.args.self.now c.read.new.self c.read.ensures.kind
    c.read.ensures.reads f refl c.read.result c.if-self.true (c.read.ensures.reading ∙ c.if-self.true)
    c.read.ensures.takes).near

pub returns-else-self-clause-follows : goal.returns-else-self-clause-follows
returns-else-self-clause-follows c = λ s r start l k a f.
    (idle_on_skip s r c.args.at c.args.byte Skipping k a start l c.args.self.now c.args.self.now refl refl f refl
    c.if-self.false c.if-self.false).follows

pub returns-else-self-clause-said : goal.returns-else-self-clause-said
returns-else-self-clause-said c = λ s r start l k a f.
    (idle_on_skip s r c.args.at c.args.byte Skipping k a start l c.args.self.now c.args.self.now refl refl f refl
    c.if-self.false c.if-self.false).near
