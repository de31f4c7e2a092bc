use Rattle.std.proofs.Common.{◌≡◌, ◌+◌, ℕ, List, [], ◌∷◌, ◌++◌, sym, ◌∙◌, ap, arith, append-nil}
use Rattle.frame_writer.specs.Written.{Tagged}
use Rattle.frame_writer.specs.Writer.{appended}
use Rattle.frame_writer.proofs.Standing.{stands_puts}
use Rattle.frame_writer.proofs.Sureness.{appends_begun}
use Rattle.frame_writer.proofs.sure.SureWriter.append_pair.Goals as goal

pub returns-clause-put : goal.returns-clause-put
returns-clause-put g c = λ e.
    let w = c.args.self.now.writer in
    let v = c.put_pair.new.self in
    let x : Tagged = record { id = c.args.id; byte = c.args.first } in
    let y : Tagged = record { id = c.args.id; byte = c.args.second } in
    let f = c.if-not-put_pair.false in
    appends_begun c.args.self.now _ x (y ∷ []) [] c.args.out.now.items _
    (λ every halves closed t so_far s. stands_puts w v every halves closed (x ∷ (y ∷ [])) [] so_far t (c.put_pair.ensures.to_come f)
    (let n = c.put_pair.ensures.count in let z : appended v ≡ appended w + 0 = omega arith in z) s)
    (c.put_pair.ensures.to_come f [] [])
    (c.give.ensures.items ∙ ap (λ (l : List ℕ). c.args.out.now.items ++ l) (sym (append-nil c.args.self.now.ready.items))) (c.put_pair.ensures.begun f) c.give.ensures.given
