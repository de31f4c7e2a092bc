use Rattle.std.proofs.Common.{◌≡◌, ℕ, List, [], sym, ◌∙◌, ap, subst}
use Rattle.script_rebuild.specs.Names.{Order, end_bytes, Puts, Formatter}
use Rattle.script_rebuild.specs.Script.{tagged}
use Rattle.script_rebuild.proofs.EndsPut.{nothing_put}
use Rattle.script_rebuild.proofs.encoders.put_end.Goals.{then-takes, else-takes}
use Rattle.script_rebuild.proofs.encoders.put_end.Goals as goal

pub returns-clause-put : goal.returns-clause-put
returns-clause-put c = λ order given stands keeps.
    let old = c.args.formatter.now in
    let id = c.args.slot.now.id in
    let last = end_bytes order (given id) in
    let written : c.flush.new.out.items ≡ last =
    c.flush.ensures.bytes (given id) stands.1 ∙ ap (λ (o : Order). end_bytes o (given id)) stands.0 in
    elim c.if-takes.branch [
      | then-takes w ↦
          subst (λ (f : Formatter). Puts old f (tagged id last)) (sym w.formatter-is)
          (subst (λ (b : List ℕ). Puts old w.put_all.new.self (tagged id b)) (w.as_slice.ensures.value ∙ written) w.put_all.ensures.put)
      | else-takes w ↦
          let none : last ≡ [] = keeps (sym c.takes.ensures ∙ w.if-takes.false) in
          subst (λ (f : Formatter). Puts old f (tagged id last)) (sym w.formatter-is)
          (subst (λ (b : List ℕ). Puts old old (tagged id b)) (sym none) (nothing_put old))
    ]
