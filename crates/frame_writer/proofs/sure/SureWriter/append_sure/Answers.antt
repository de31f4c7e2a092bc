use Rattle.std.proofs.Common.{ℕ, List, [], ◌++◌, refl, ◌∙◌, ap, append_assoc}
use Rattle.frame_writer.proofs.Sureness.{appends_begun, appends_whole}
use Rattle.frame_writer.proofs.sure.SureWriter.append_sure.Goals as goal

pub returns-then-is_begun-clause-put : goal.returns-then-is_begun-clause-put
returns-then-is_begun-clause-put g c =
    let out = c.put.new.out.items in
    appends_begun c.args.self.now _ (record { id = c.args.id; byte = c.args.byte }) [] out c.args.out.now.items _ c.put.ensures.list (c.put.ensures.to_come [] [])
    (c.give-then-is_begun.ensures.items ∙ ap (λ (l : List ℕ). l ++ out) c.give.ensures.items ∙ append_assoc c.args.out.now.items c.args.self.now.ready.items out)
    (c.is_begun.ensures.begun c.if-is_begun.true) c.give-then-is_begun.ensures.given

pub returns-else-is_begun-clause-put : goal.returns-else-is_begun-clause-put
returns-else-is_begun-clause-put g c =
    appends_whole c.args.self.now _ (record { id = c.args.id; byte = c.args.byte }) [] c.put.new.out.items c.args.out.now.items _ c.put.ensures.list (c.put.ensures.to_come [] [])
    c.give.ensures.items (c.is_begun.ensures.none c.if-is_begun.false) refl
