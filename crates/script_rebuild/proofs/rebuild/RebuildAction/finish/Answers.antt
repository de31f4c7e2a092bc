use Rattle.std.proofs.Common.{◌≡◌, ℕ, ◌+◌, List, refl, sym, ◌∙◌, ap, subst, length, length-append, Bool, not}
use Rattle.script_rebuild.specs.Names.{owing, with_debt}
use Rattle.trace_stream.specs.Owed.{last_of}
use Rattle.script_rebuild.specs.Rebuilt.{ending}
use Rattle.script_rebuild.specs.Rebuilder.{HasEnded, plan_of}
use Rattle.script_rebuild.specs.Writer.{kept_by}
use Rattle.script_rebuild.specs.declared.plan.RebuildPlan.{RebuildPlan}
use Rattle.script_rebuild.specs.declared.rebuild.Rebuild.{Rebuild}
use Rattle.script_rebuild.proofs.Taking.{stands_ended, all_owed, paid_writer, none_if}
use Rattle.script_rebuild.proofs.rebuild.RebuildAction.finish.Goals.{then-is_none, else-is_none}
use Rattle.script_rebuild.proofs.rebuild.RebuildAction.finish.Goals as goal

-- what has ended stays so, by another name of it
ended_as : {r now : Rebuild} {seen : List ℕ} → now ≡ r → HasEnded r seen → HasEnded now seen
ended_as {r} {now} {seen} is h = subst (λ (r : Rebuild). HasEnded r seen) (sym is) h

pub end-requires-clause-reading : goal.end-requires-clause-reading
end-requires-clause-reading c = none_if c.args.self.now.owed (c.is_none.ensures ∙ ap (λ (b : Bool). not b) c.if-is_none.true)

pub end-requires-clause-paid : goal.end-requires-clause-paid
end-requires-clause-paid c =
    paid_writer c.args.self.now (none_if c.args.self.now.owed (c.is_none.ensures ∙ ap (λ (b : Bool). not b) c.if-is_none.true)) c.requires.paid

pub returns-clause-stands : goal.returns-clause-stands
returns-clause-stands c = λ seen s.
    let ended : HasEnded c.if-is_none.self seen = elim c.if-is_none.branch [
      | then-is_none w ↦ ended_as w.self-is (w.end.ensures.ended seen (s.reads (none_if c.args.self.now.owed
          (c.is_none.ensures ∙ ap (λ (b : Bool). not b) w.if-is_none.true))))
      | else-is_none w ↦ ended_as w.self-is (s.ended (c.is_none.ensures ∙ ap (λ (b : Bool). not b) w.if-is_none.false))
    ] in
    stands_ended _ seen _ refl (record { fault = ended.fault; kept = ended.kept })

pub returns-clause-ended : goal.returns-clause-ended
returns-clause-ended c = λ seen s.
    let r = c.if-is_none.self in
    let ended : HasEnded r seen = elim c.if-is_none.branch [
      | then-is_none w ↦ ended_as w.self-is (w.end.ensures.ended seen (s.reads (none_if c.args.self.now.owed
          (c.is_none.ensures ∙ ap (λ (b : Bool). not b) w.if-is_none.true))))
      | else-is_none w ↦ ended_as w.self-is (s.ended (c.is_none.ensures ∙ ap (λ (b : Bool). not b) w.if-is_none.false))
    ] in
    let same : r.plan ≡ c.args.self.now.plan = elim c.if-is_none.branch [
      | then-is_none w ↦ ap (λ (r : Rebuild). plan_of r) w.self-is ∙ w.end.ensures.same
      | else-is_none w ↦ ap (λ (r : Rebuild). plan_of r) w.self-is
    ] in
    let kept = kept_by r.writer in
    let n = length c.kept.result.0.now + length c.kept.result.1.now in
    let all : n ≡ length kept =
    sym (length-append c.kept.result.0.now c.kept.result.1.now) ∙ ap (λ (l : List ℕ). length l) c.kept.ensures.parts in
    ap (λ (l : List ℕ). with_debt l (owing (last_of n kept) n)) c.requires.empty
    ∙ all_owed kept n all ∙ ended.kept ∙ ap (λ (p : RebuildPlan). ending p seen) same
