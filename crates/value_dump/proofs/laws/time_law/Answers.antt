use Rattle.std.proofs.Common.{◌≡◌, ℕ, ◌*◌, ◌^◌, ◌/◌, ◌≤◌, ◌∙◌, ap, arith}
use Rattle.std.proofs.Math.Nat.{div-mul-le_self, mul-div_cancel}
use Rattle.std.proofs.lemmas.Nat.{le-div}
use Rattle.value_dump.proofs.laws.time_law.Goals as goal

pub returns-clause-rise : goal.returns-clause-rise
returns-clause-rise c = λ hz less more some le.
    let h : less * 10 ^ 9 / hz * hz ≤ less * 10 ^ 9 = div-mul-le_self (less * 10 ^ 9) hz in
    let all : less * 10 ^ 9 / hz * hz ≤ more * 10 ^ 9 = omega (arith, h, le) in
    le-div (less * 10 ^ 9 / hz) (more * 10 ^ 9) hz some all

pub returns-clause-second : goal.returns-clause-second
returns-clause-second c = λ hz seconds some.
    let e : seconds * hz * 10 ^ 9 ≡ seconds * 10 ^ 9 * hz = grind arith in
    ap (λ (n : ℕ). n / hz) e ∙ mul-div_cancel (seconds * 10 ^ 9) some
