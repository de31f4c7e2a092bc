use Rattle.std.proofs.Common.{◌≡◌, ℕ, [], ◌∷◌, ◌++◌, take, sym, ◌∙◌, ap, subst, arith}
use Rattle.stp_encoder.specs.Names.{nibble_at, nibbles_of_number}
use Rattle.stp_encoder.specs.Joined.{Joins}
use Rattle.stp_encoder.proofs.Digits.{place_in, number_more, number_all, more_taken, all_taken}
use Rattle.stp_encoder.proofs.joiner.Joiner.put_number.Goals as goal
use Rattle.stp_encoder.proofs.joiner.Joiner.put_number.Goals.{in-Lsn, in-Msn}

pub loop-i-preserved : goal.loop-i-preserved
loop-i-preserved c = record {
  joins = λ n j.
      let all = nibbles_of_number c.args.order c.args.count c.args.number in
      let place : c.match-order.place ≡ place_in c.args.order c.args.count c.loop-i.i =
      elim c.match-order.branch [
        | in-Lsn w ↦ w.place-is ∙ ap (λ o. place_in o c.args.count c.loop-i.i) (sym w.in-Lsn.is)
        | in-Msn w ↦ w.place-is ∙ ap (λ o. place_in o c.args.count c.loop-i.i) (sym w.in-Msn.is)
      ] in
      let nibble : c.nibble_at.result ≡ nibble_at c.args.number (place_in c.args.order c.args.count c.loop-i.i) =
      c.nibble_at.ensures ∙ ap (nibble_at c.args.number) place in
      more_taken (λ l. Joins c.put.new.self c.put.new.out.items l) n all c.loop-i.i c.nibble_at.result
      (number_more c.args.order c.args.count c.args.number c.loop-i.i c.requires.fits c.loop-i-test.true
      ∙ ap (λ (z : ℕ). take c.loop-i.i all ++ z ∷ []) (sym nibble))
      (c.put.ensures.joins (n ++ take c.loop-i.i all) (c.loop-i.invariant.joins n j));
  count = omega arith;
}

pub returns-clause-joins : goal.returns-clause-joins
returns-clause-joins c = λ n j.
    let all = nibbles_of_number c.args.order c.args.count c.args.number in
    let end : c.loop-i.i ≡ c.args.count = omega arith in
    all_taken (λ l. Joins c.loop-i.self c.loop-i.out.items l) n all c.args.count
    (number_all c.args.order c.args.count c.args.number c.requires.fits)
    (subst (λ (k : ℕ). Joins c.loop-i.self c.loop-i.out.items (n ++ take k all)) end (c.loop-i.invariant.joins n j))
