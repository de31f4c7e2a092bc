use Rattle.std.proofs.Common.{ℕ, List, [], ◌++◌, sym, ◌∙◌, ap, append_assoc}
use Rattle.frame_writer.specs.Fronts.{sure_after}
use Rattle.frame_writer.proofs.Standing.{finished}
use Rattle.frame_writer.proofs.sure.SureWriter.rest.Goals as goal

pub returns-clause-whole : goal.returns-clause-whole
returns-clause-whole c = λ every halves closed t s.
    let w = c.args.self.now.writer in
    let last = c.finish.new.out.items in
    let out = c.append-2.new.out.items in
    sym (finished w every halves closed t s.so_far last (c.finish.ensures.to_come ∙ c.copied.ensures.to_come [] []) s.stands)
    ∙ ap (λ (l : List ℕ). l ++ last) s.written ∙ append_assoc (sure_after every halves closed t) c.args.self.now.ready.items last
    ∙ ap (λ (l : List ℕ). sure_after every halves closed t ++ l) (sym (
    c.append-2.ensures.items
    ∙ ap (λ (l : List ℕ). l ++ c.as_slice-2.result.now) (c.append.ensures.items ∙ ap (λ (l : List ℕ). l ++ c.as_slice.result.now) c.requires.empty ∙ c.as_slice.ensures.value)
    ∙ ap (λ (l : List ℕ). c.args.self.now.ready.items ++ l) c.as_slice-2.ensures.value))
