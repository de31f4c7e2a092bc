use Rattle.std.proofs.Common.{rules, arith, ◌<◌, ℕ, subst, sym}
use Rattle.itm_codec.proofs.Places.{filled_few, place_is, place_few}
use Rattle.itm_codec.proofs.lengths.first_clear.Goals as goal

pub overflow_add-result : goal.overflow_add-result
overflow_add-result c = (let k = filled_few c.payload_in.result c.payload_in.ensures.fits in omega (arith, k))

pub returns-clause-is : goal.returns-clause-is
returns-clause-is c = place_is c.args.window.now c.payload_in.result (search rules) (search rules) c.payload_in.ensures.is

pub returns-clause-within : goal.returns-clause-within
returns-clause-within c = subst (λ (n : ℕ). n < 8) (sym (returns-clause-is c)) (place_few c.args.window.now (search rules))
