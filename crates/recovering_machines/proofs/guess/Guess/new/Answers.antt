use Rattle.std.proofs.Common.{refl, sym, ◌∙◌, inl}
use Rattle.recovering_machines.proofs.guess.Guess.new.Goals as goal

pub returns-clause-follows : goal.returns-clause-follows
returns-clause-follows c = λ s hunts at kind reads. record {
  kind_is = c.new.ensures.kind ∙ sym kind;
  reads_is = c.new.ensures.reads ∙ sym reads;
  before = tt;
  state = inl refl;
}
