use Rattle.std.proofs.Common.{List, ℕ, ◌++◌, sym, ◌∙◌, ap}
use Rattle.frame_writer.specs.Fronts.{sure_after}
use Rattle.frame_writer.proofs.sure.SureWriter.put.Goals as goal

pub returns-clause-list : goal.returns-clause-list
returns-clause-list c = c.append_sure.ensures.put.list

pub returns-clause-grown : goal.returns-clause-grown
returns-clause-grown c = λ every halves closed t s.
    let put = c.append_sure.ensures.put in
    put.grown every halves closed t s ∙ ap (λ (l : List ℕ). sure_after every halves closed t ++ l) (sym (put.appended ∙ ap (λ (l : List ℕ). l ++ put.more) c.requires.empty))
