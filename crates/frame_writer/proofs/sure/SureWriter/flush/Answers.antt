use Rattle.std.proofs.Common.{ℕ, List, [], ◌∷◌, ◌++◌, sym, ◌∙◌, ap, append_assoc}
use Rattle.frame_writer.specs.Fronts.{sure_after}
use Rattle.frame_writer.proofs.Sureness.{ended_so_far, ended_more}
use Rattle.frame_writer.proofs.Fronts.{all_sure}
use Rattle.frame_writer.proofs.sure.SureWriter.flush.Goals as goal

pub returns-clause-ends : goal.returns-clause-ends
returns-clause-ends g c =
    let v = c.flush.new.self in
    let ready = c.args.self.now.ready.items in
    let out = c.flush.new.out.items in
    record {
      more = ready ++ out;
      appended = c.give-2.ensures.items ∙ ap (λ (l : List ℕ). l ++ out) c.give.ensures.items ∙ append_assoc c.args.out.now.items ready out;
      list = λ every halves closed t s. record {
        so_far = s.so_far ++ out;
        stands = c.flush.ensures.list every halves closed t s.so_far s.stands;
        written = ended_so_far v every halves closed t out ready s.so_far (c.flush.ensures.list every halves closed t s.so_far s.stands) s.written c.flush.ensures.none
            ∙ ap (λ (l : List ℕ). sure_after every halves (closed ++ t ∷ []) [] ++ l) (sym c.give-2.ensures.given);
      };
      grown = λ every halves closed t s.
          all_sure every halves (closed ++ t ∷ [])
          ∙ ended_more v every halves closed t out ready s.so_far (c.flush.ensures.list every halves closed t s.so_far s.stands) s.written c.flush.ensures.none;
      all = λ every halves closed t s.
          ended_more v every halves closed t out ready s.so_far (c.flush.ensures.list every halves closed t s.so_far s.stands) s.written c.flush.ensures.none;
    }
