use Rattle.std.proofs.Common.{◌≡◌, ◌∙◌, ℕ, [], ◌∷◌, Option, Some, Bool, true, false, cond, sym, ap, arith, inl, inr}
use Rattle.std.specs.Prelude.{◌==◌}
use Rattle.std.proofs.lemmas.Bool.{cases_eq}
use Rattle.std.proofs.lemmas.Bool.Decides.{nat_tests}
use Rattle.value_dump.specs.Names.{Overflow}
use Rattle.value_dump.specs.Signals.{last_told}
use Rattle.value_dump.specs.Telling.{toggled, value_next}
use Rattle.value_dump.specs.Values.{latest_of, stamped_of}
use Rattle.value_dump.proofs.values.SignalValues.lose.Goals as goal

lost_now : (number value : ℕ) (stamped : ℕ → Option ℕ) (latest : Option ℕ) → Some value ≡ toggled (stamped 39) →
    last_told number latest ((39, value) ∷ []) ≡ value_next Overflow number (stamped number) latest
lost_now number value stamped latest h = elim (cases_eq number 39) [
  | inl e ↦ (
      ap (λ (t : Bool). cond t (Some value) latest) (let k : (39 == number) ≡ true = grind (arith, nat_tests) in k) ∙ h
      ∙ ap (λ (n : ℕ). toggled (stamped n)) (sym e)
      ∙ ap (λ (t : Bool). cond t (toggled (stamped number)) latest)
      (let k : true ≡ (number == 39) = grind (arith, nat_tests) in k)
      )
  | inr d ↦ (
      ap (λ (t : Bool). cond t (Some value) latest) (let k : (39 == number) ≡ false = grind (arith, nat_tests) in k)
      ∙ ap (λ (t : Bool). cond t (toggled (stamped number)) latest)
      (let k : false ≡ (number == 39) = grind (arith, nat_tests) in k)
      )
]

pub returns-clause-latest : goal.returns-clause-latest
returns-clause-latest c = λ number.
    let s = c.args.self.now in
    c.set.ensures.latest number
    ∙ lost_now number c.toggled.result (stamped_of s) (latest_of s number) c.toggled.ensures
