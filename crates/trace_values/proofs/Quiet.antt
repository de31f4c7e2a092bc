-- A hunt is quiet over no more units than its pattern has before its last.
use Rattle.std.proofs.Common.{◌≡◌, ℕ, suc, ◌+◌, ◌-◌, ◌≤◌, ◌<◌, List, [], ◌∷◌, length, refl, sym, ap, arith, subst, Option, None, Some, Bool, true, false, cond}
use Rattle.std.specs.Prelude.{◌==◌, ◌&&◌, nat_lt}
use Rattle.std.proofs.lemmas.Bool.Decides.{nat_tests}
use Rattle.trace_values.specs.declared.next.Next.{Next}
use Rattle.trace_values.specs.declared.pattern.Pattern.{Pattern}
use Rattle.trace_values.specs.Placed.{Placed}
use Rattle.trace_values.specs.Stream.{Stream}
use Rattle.trace_values.specs.Hunted.{Found, Hunt, hunt_on, hunt_from, no_hunt, hunt, hunted_by, hunted, begun, run_after}

-- it has given nothing, and not locked
pub record IsQuiet {V : Type 0} (s : Stream V) : Type 0 where
  pub given : s.given ≡ []
  pub fault : s.fault ≡ None
  pub locked : s.locked ≡ false

none_locks : (t : Bool) (run most : ℕ) → run < most → (t && run == most) ≡ false
none_locks true run most l = grind (arith, nat_tests)
none_locks false run most l = refl

run_few : (b a run most : ℕ) → cond (b == a) (cond (nat_lt run most) (suc run) most) 0 ≤ suc run
run_few b a run most = grind (arith, nat_tests)

module _ {S V : Type 0} (p : Pattern) (v : V) (rule : S → Placed → Next S V) (start : S) where
  pub record Seeking (h : Hunt S V) : Type 0 where
    pub run : h.run ≤ h.units
    pub none : h.found ≡ None

  seeks_on : (h : Hunt S V) (b : Placed) → h.units < p.most → h.run ≤ h.units → Seeking (hunt_on p v rule start h b None)
  seeks_on h b l r =
      let e : hunt_on p v rule start h b None ≡ record { units = suc h.units; run = run_after p h.run b.unit; found = None } =
      ap (λ (t : Bool). cond t (record { units = suc h.units; run = 0; found = Some (record { skipped = h.units - p.most; place = b.place; reading = begun start v b.place }) }) (record { units = suc h.units; run = run_after p h.run b.unit; found = None }))
      (none_locks (b.unit == p.last) h.run p.most (omega arith)) in
      subst (λ (h : Hunt S V). Seeking h) (sym e) (record { run = (let k = run_few b.unit p.unit h.run p.most in omega arith); none = refl })

  units_on : (h : Hunt S V) (b : Placed) (o : Option (Found S V)) → (hunt_on p v rule start h b o).units ≡ suc h.units
  units_on h b (Some f) = refl
  units_on h b None = by (b.unit == p.last && h.run == p.most) where
    by : (t : Bool) → (let x : Hunt S V = cond t (record { units = suc h.units; run = 0; found = Some (record { skipped = h.units - p.most; place = b.place; reading = begun start v b.place }) }) (record { units = suc h.units; run = run_after p h.run b.unit; found = None }) in x.units ≡ suc h.units)
    by true = refl
    by false = refl

  seeks_from : (u : List Placed) (h : Hunt S V) → h.units + length u ≤ p.most → Seeking h → Seeking (hunt_from p v rule start h u)
  seeks_from [] h l s = s
  seeks_from (b ∷ u) h l s =
      seeks_from u (hunt_on p v rule start h b h.found) (let k = units_on h b h.found in omega arith)
      (subst (λ (o : Option (Found S V)). Seeking (hunt_on p v rule start h b o)) (sym s.none) (seeks_on h b (omega arith) s.run))

  pub quiet : (u : List Placed) → length u ≤ p.most → IsQuiet (hunted p v rule start u)
  quiet u l =
      let s = seeks_from u no_hunt (let z : 0 + length u ≡ length u = omega arith in omega (arith, z, l)) (record { run = omega arith; none = refl }) in
      subst (λ (o : Option (Found S V)). IsQuiet (hunted_by (hunt p v rule start u).units o)) (sym s.none) (record { given = refl; fault = refl; locked = refl })
