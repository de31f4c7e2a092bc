-- Numbers in decimal, eight digits at a time.
use Rattle.std.proofs.Common.{◌≡◌, ℕ, ◌/◌, ◌%◌, ◌^◌, ◌<◌, ◌≤◌, ◌++◌, arith}
use Rattle.std.specs.Prelude.{decimal}
use Rattle.itoa.proofs.Decimal.{decimal_four}
use Rattle.trace_text.specs.Pairs.{four, eight}
use Rattle.trace_text.proofs.Putting.{joined}

pub decimal_eight : (n : ℕ) → 100000000 ≤ n → n < 2 ^ 64 → decimal n ≡ decimal (n / 100000000) ++ eight (n % 100000000)
decimal_eight n h l =
    let a : n / 10000 / 10000 ≡ n / 100000000 = omega arith in
    let b : n / 10000 % 10000 ≡ n % 100000000 / 10000 = omega arith in
    let d : n % 10000 ≡ n % 100000000 % 10000 = omega arith in
    let e : decimal n ≡ decimal (n / 10000 / 10000) ++ (four (n / 10000 % 10000) ++ four (n % 10000)) =
    joined _ _ _ _ _ (decimal_four n (omega (arith, h)) l) (decimal_four (n / 10000) (omega (arith, h)) (omega (arith, l))) in
    cc
