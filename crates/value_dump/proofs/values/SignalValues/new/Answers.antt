use Rattle.std.proofs.Common.{◌≡◌, ◌∙◌, ℕ, [], None, Some, Option, List, arith, refl, length, ap, replicate, set}
use Rattle.std.proofs.Common.{cond, Bool}
use Rattle.std.specs.Prelude.{◌==◌}
use Rattle.std.proofs.lemmas.Bool.Decides.{nat_tests}
use Rattle.value_dump.specs.Dump.{known}
use Rattle.value_dump.specs.Signals.{value_after}
use Rattle.value_dump.proofs.Changes.{all_same, set_value, unknown}
use Rattle.value_dump.proofs.values.SignalValues.new.Goals as goal

abbrev initial : List (Option ℕ)
initial = set (replicate 40 None) 39 (Some 0)

at_first : (number : ℕ) → known initial number ≡ value_after [] number
at_first number =
    set_value (replicate 40 None) 39 0 (omega arith) number
    ∙ ap (λ (v : Option ℕ). cond (39 == number) (Some 0) v) (unknown 40 number)
    ∙ ap (λ (t : Bool). cond t (Some 0) None) (let e : (39 == number) ≡ (number == 39) = grind (arith, nat_tests) in e)

pub invariant_of-result : goal.invariant_of-result
invariant_of-result c = record {
  few = omega arith;
  quiet = λ number h. refl;
  covered = (let h = ap (λ l. length l) (all_same (known initial)) in omega (arith, h));
}

pub returns-clause-latest : goal.returns-clause-latest
returns-clause-latest c = at_first

pub returns-clause-stamped : goal.returns-clause-stamped
returns-clause-stamped c = at_first
