use Rattle.std.proofs.Common.{rules, ◌≡◌, ◌-◌, ◌+◌, ◌≤◌, length, true, false, sym, ◌∙◌, ap, subst, arith}
use Rattle.script_rebuild.proofs.InOrder.{among}
use Rattle.script_rebuild.proofs.EachEncoder.{UpTo, kept_room, kept_pushed, kept_same, kept_all}
use Rattle.script_rebuild.proofs.encoders.encoders_for.Goals.{in-Some+then-contains, in-Some+else-contains, in_default}
use Rattle.script_rebuild.proofs.encoders.encoders_for.Goals as goal

pub push-requires : goal.push-requires
push-requires c =
    let number = c.loop-number.number in
    let same : c.in-Some.id ≡ number = search rules in
    let is : among c.args.ids.now number ≡ true = search rules in
    let few : length c.args.ids.now ≤ 8 = search rules in
    (omega arith, kept_room c.args.order c.args.ids.now number c.loop-number.encoders.items c.loop-number.auto.number few c.loop-number.invariant is)

pub loop-number-preserved : goal.loop-number-preserved
loop-number-preserved c = elim c.match-new.branch [
  | in-Some+then-contains w ↦
      let number = c.loop-number.number in
      let same : w.in-Some.id ≡ number = search rules in
      let is : among c.args.ids.now number ≡ true = search rules in
      subst (λ e. UpTo c.args.order c.args.ids.now (number + 1 - 1) e) (sym (ap (λ v. v.items) w.encoders-is ∙ w.push.ensures.items))
      (kept_pushed c.args.order c.args.ids.now number c.loop-number.encoders.items _ c.loop-number.auto.number c.loop-number.invariant is same
      w.new-then-contains.ensures.order w.new-then-contains.ensures.list)
  | in-Some+else-contains w ↦
      let number = c.loop-number.number in
      let same : w.in-Some.id ≡ number = search rules in
      let is : among c.args.ids.now number ≡ false = search rules in
      subst (λ e. UpTo c.args.order c.args.ids.now (number + 1 - 1) e) (sym (ap (λ v. v.items) w.encoders-is))
      (kept_same c.args.order c.args.ids.now number c.loop-number.encoders.items c.loop-number.auto.number c.loop-number.invariant is)
  | in_default w ↦ absurd (search rules)
]

pub returns-clause-ids : goal.returns-clause-ids
returns-clause-ids c =
    kept_all c.args.order c.args.ids.now (c.loop-number.number - 1) c.loop-number.encoders.items c.loop-number.invariant
    (omega (arith, c.loop-number.auto.number-end, c.loop-number-test.false))
