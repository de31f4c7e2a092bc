use Rattle.std.proofs.Common.{ℕ, List, ◌++◌, sym, ◌∙◌, ap}
use Rattle.frame_writer.specs.Fronts.{sure_after}
use Rattle.frame_writer.proofs.Sureness.{stands_copied}
use Rattle.frame_writer.proofs.sure.SureWriter.copied.Goals as goal

pub returns-clause-list : goal.returns-clause-list
returns-clause-list c = λ every halves closed t s. record {
  so_far = s.so_far;
  stands = stands_copied c.args.self.now.writer c.copied.result every halves closed t s.so_far c.copied.ensures.to_come c.copied.ensures.count s.stands;
  written = s.written ∙ ap (λ (l : List ℕ). sure_after every halves closed t ++ l) (sym (c.frame_of.ensures ∙ c.as_slice.ensures.value));
}
