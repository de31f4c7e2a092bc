use Rattle.std.proofs.Common.{rules, ◌≡◌, ◌+◌, ◌*◌, ◌/◌, ◌^◌, sym, ◌∙◌}
use Rattle.std.specs.Prelude.{option_map}
use Rattle.trace_clock.proofs.GlobalStamps.{whole_known, part_known}
use Rattle.trace_clock.proofs.global.low_after.Goals as goal

pub returns-then-len-eq4-clause-list : goal.returns-then-len-eq4-clause-list
returns-then-len-eq4-clause-list c = λ stamps wrap told. sym (whole_known stamps c.args.len c.args.value wrap c.if-len-eq4.true c.requires.value)

pub returns-else-len-eq4-clause-list : goal.returns-else-len-eq4-clause-list
returns-else-len-eq4-clause-list c =
    let e : c.map.result ≡ option_map (λ n. n / 2 ^ (7 * c.args.len) * 2 ^ (7 * c.args.len) + c.args.value) c.args.low = search rules in
    λ stamps wrap told. e ∙ part_known stamps c.args.len c.args.value wrap c.if-len-eq4.false c.requires.len.0 c.requires.len.1 c.requires.value c.args.low told
