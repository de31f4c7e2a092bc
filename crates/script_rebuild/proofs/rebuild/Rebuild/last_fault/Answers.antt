use Rattle.std.proofs.Common.{◌≡◌, refl, ◌∙◌, sym, ap, inl, inr, Ok, None, rules, Option, is_some, option_map}
use Rattle.script_rebuild.specs.Versions.{Reading}
use Rattle.script_rebuild.specs.Rebuilder.{told}
use Rattle.script_rebuild.specs.Rebuilt.{routed_so_far}
use Rattle.script_rebuild.specs.declared.plan.ScriptFault.{ScriptFault}
use Rattle.script_rebuild.proofs.Taking.{last_says, last_fault_is, kept_fault, none_if}
use Rattle.script_rebuild.proofs.rebuild.Rebuild.last_fault.Goals as goal

pub returns-in-Some : goal.returns-in-Some
returns-in-Some c = λ seen s.
    ap (λ (o : Option ScriptFault). option_map told o) (sym c.in-Some.is)
    ∙ kept_fault c.args.self.now seen (inr (ap (λ (o : Option ScriptFault). is_some o) c.in-Some.is)) s

pub returns-then-is_some : goal.returns-then-is_some
returns-then-is_some c = λ seen s.
    let none : c.args.self.now.fault ≡ None = search rules in
    ap (λ (o : Option ScriptFault). option_map told o) (sym none)
    ∙ kept_fault c.args.self.now seen (inl (sym c.is_some.ensures ∙ c.if-is_some.true)) s

pub returns-in-Ok : goal.returns-in-Ok
returns-in-Ok c = λ seen s.
    let r = c.args.self.now in
    let live : r.fault ≡ None = search rules in
    let reads = s.reads (none_if r.owed (sym c.is_some.ensures ∙ c.if-is_some.false)) in
    let says = (c.in-Ok.ensures.said (routed_so_far r.plan seen).lines reads.writer).0 in
    ap (λ (x : Reading). x.fault) (sym (last_says r seen r.line.items (Ok says.0) reads live c.last_fits.ensures.few refl says.1))

pub returns-in-Err : goal.returns-in-Err
returns-in-Err c = λ seen s.
    let r = c.args.self.now in
    let live : r.fault ≡ None = search rules in
    let reads = s.reads (none_if r.owed (sym c.is_some.ensures ∙ c.if-is_some.false)) in
    last_fault_is r seen r.line.items c.in-Err.fault reads live c.last_fits.ensures.few refl
    (c.in-Err.ensures.said (routed_so_far r.plan seen).lines reads.writer).1
