use Rattle.std.proofs.Common.{◌≡◌, ℕ, [], ◌∷◌, ◌++◌, replicate, subst, append_assoc, arith}
use Rattle.stp_encoder.specs.Joined.{Joins}
use Rattle.stp_encoder.proofs.joiner.Joiner.put_async.Goals as goal

pub returns-clause-joins : goal.returns-clause-joins
returns-clause-joins c = λ n j.
    let end : c.loop-i._i ≡ 21 = omega arith in
    subst (λ l. Joins c.put-2.new.self c.put-2.new.out.items l) (append_assoc n (replicate 21 15) (0 ∷ []))
    (c.put-2.ensures.joins (n ++ replicate 21 15)
    (subst (λ (k : ℕ). Joins c.loop-i.self c.loop-i.out.items (n ++ replicate k 15)) end (c.loop-i.invariant.joins n j)))
