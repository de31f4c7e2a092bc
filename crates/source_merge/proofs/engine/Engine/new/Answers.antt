use Rattle.std.proofs.Common.{◌≡◌, ◌∙◌, [], sym, ap, subst, refl, arith, true, false, None}
use Rattle.std.specs.Prelude.{is_none}
use Rattle.deformatter.specs.PortReading.{port_reading}
use Rattle.source_events.specs.Plan.{is_sound, sources_by}
use Rattle.source_events.specs.Tails.{items_in}
use Rattle.source_events.specs.declared.plan.Plan.{Plan}
use Rattle.source_events.proofs.Growth.{no_stop}
use Rattle.recovery_engine.specs.Engine as recovering
use Rattle.recovery_engine.proofs.Growing.{nothing_first}
use Rattle.recovery_laws.specs.Strict.{first_fault, upto}
use Rattle.recovery_laws.proofs.Ends.{has_sound}
use Rattle.source_merge.specs.Answering.{fault_of, report_of}
use Rattle.source_merge.proofs.Growing.{strict}
use Rattle.source_merge.proofs.engine.Engine.new.Goals as goal

-- of no bytes there is no event and no fault
none_first : (plan : Plan) → is_sound plan ≡ true → fault_of plan [] ≡ None
none_first plan sound = (strict plan sound [] 0 (omega arith)).fault ∙ ap first_fault (nothing_first false plan)

no_items : (plan : Plan) → is_sound plan ≡ true → report_of plan [] ≡ []
no_items plan sound = (strict plan sound [] 0 (omega arith)).events ∙ ap upto (nothing_first false plan)

pub returns-clause-fresh : goal.returns-clause-fresh
returns-clause-fresh c =
    let plan = c.args.plan in
    let rec = c.new.result in
    let p = recovering.plan_of rec in
    let same : p ≡ plan = c.new.ensures.plan in
    let sound : is_sound p ≡ true = subst (λ (q : Plan). is_sound q ≡ true) (sym same) c.requires.sound in
    let none = none_first p sound in
    record {
      rising = (omega arith);
      next = refl;
      count = refl;
      live = sym (ap is_none none);
      items = λ m x l. c.new-2.ensures.none x l ∙ sym (ap (items_in x) (no_items p sound));
      going = λ e. c.new.ensures.fresh;
      framed = λ b.
          (c.new.ensures.fresh, has_sound p.frames [] (no_stop (sources_by p) (port_reading p.frames []) none));
    }
