use Rattle.std.proofs.Common.{◌≡◌, ◌+◌, [], ◌∷◌, ◌++◌, length, sym, ◌∙◌, ap, append-nil, arith, length-append}
use Rattle.trace_values.specs.declared.limits.TheConstants.{ID_COUNT}
use Rattle.recovery_report.specs.Report.{source_tails}
use Rattle.recovery_engine.proofs.Below.{below_all, below_more, below_found}
use Rattle.recovery_engine.proofs.Ending.{no_tails, tails_more}
use Rattle.recovery_engine.proofs.ends.source_tails.Goals as goal
use Rattle.recovery_engine.proofs.ends.source_tails.Goals.{in-Some, in_default}

pub loop-number-init : goal.loop-number-init
loop-number-init c = record {
  few = (let a = ap length c.new-tails.ensures in omega arith);
  tails = λ guesses parts k. c.new-tails.ensures ∙ no_tails c.args.plan.now parts;
}

pub push-requires : goal.push-requires
push-requires c =
    (let all = c.args.slots.now in
    let n = c.loop-number.number in
    let a = below_found n all c.in-Some.ensures.found in
    let b = below_all (n + 1) all in
    let d = c.loop-number.invariant.few in let e = c.requires.few in omega (arith, a, b, d, e))

pub loop-number-preserved : goal.loop-number-preserved
loop-number-preserved c =
    let plan = c.args.plan.now in
    let slots = c.args.slots.now in
    let n = c.loop-number.number in
    elim c.match-numbered_tail.branch [
      | in-Some w ↦
          record {
            few =
                (let a = below_found n slots w.in-Some.ensures.found in
                let b = ap length (w.tails-is ∙ w.push.ensures) in
                let d = length-append c.loop-number.tails (w.in-Some.tail ∷ []) in
                let e = c.loop-number.invariant.few in omega (arith, a, b, d, e));
            tails = λ guesses parts k.
                w.tails-is ∙ w.push.ensures
                ∙ ap (λ l. l ++ w.in-Some.tail ∷ []) (c.loop-number.invariant.tails guesses parts k)
                ∙ ap (λ l. source_tails plan parts n ++ l) (w.in-Some.ensures.tail guesses parts k)
                ∙ sym (tails_more plan parts n);
          }
      | in_default w ↦
          record {
            few =
                (let a = below_more n slots in let b = ap length w.tails-is in
                let e = c.loop-number.invariant.few in omega (arith, a, b, e));
            tails = λ guesses parts k.
                w.tails-is ∙ c.loop-number.invariant.tails guesses parts k
                ∙ sym (append-nil (source_tails plan parts n))
                ∙ ap (λ l. source_tails plan parts n ++ l) (w.in_default.ensures.tail guesses parts k)
                ∙ sym (tails_more plan parts n);
          }
    ]

pub returns : goal.returns
returns c = λ guesses parts k.
    let all : c.loop-number.number ≡ ID_COUNT =
    omega (arith, c.loop-number.auto.number-end, c.loop-number-test.false) in
    c.loop-number.invariant.tails guesses parts k ∙ ap (λ n. source_tails c.args.plan.now parts n) all
