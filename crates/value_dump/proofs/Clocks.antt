-- The time in a dump is the sum of the ticks.
use Rattle.std.proofs.Common.{◌≡◌, ◌≤◌, ◌<◌, ℕ, ◌+◌, ◌^◌, List, [], ◌++◌, length, flat_map, sym, ◌∙◌, ap, arith}
use Rattle.std.proofs.Common.{append-nil, Option, Some}
use Rattle.std.specs.Prelude.{sum}
use Rattle.std.proofs.lemmas.Grind.{flat_map-append}
use Rattle.std.proofs.lemmas.List.Sums.{sum_by-append}
use Rattle.std.proofs.Math.Nat.{mod-eq_of_lt}
use Rattle.itm_grammar.specs.declared.packet.ItmPacket.{ItmPacket}
use Rattle.trace_stream.specs.declared.limits.TheConstants.{GREATEST_CAPTURE}
use Rattle.capture_actions.proofs.Few.{clock_below}
use Rattle.value_dump.specs.Names.{deltas_in, itm_packets, local_after, placed, report_of, source_of}
use Rattle.value_dump.specs.Vcd.{packets_of}
use Rattle.value_dump.specs.declared.vcd_plan.VcdPlan.{VcdPlan}

pub dump_clock : (p : VcdPlan) (bytes : List ℕ) (source : ℕ) (before after : List ItmPacket) →
    length bytes ≤ GREATEST_CAPTURE → source_of p.plan ≡ Some source → packets_of p bytes ≡ before ++ after →
    local_after before ≡ sum (flat_map deltas_in before)
dump_clock p bytes source before after bound own parts =
    let es = report_of p.plan (placed bytes) in
    let all = clock_below p.plan bytes source es [] bound (sym (append-nil es)) in
    let same = sym (ap (λ (o : Option ℕ). sum (flat_map deltas_in (itm_packets o es))) own)
    ∙ ap (λ (l : List ItmPacket). sum (flat_map deltas_in l)) parts
    ∙ ap sum (flat_map-append deltas_in before after)
    ∙ sum_by-append (λ (x : ℕ). x) (flat_map deltas_in before) (flat_map deltas_in after) in
    let less : sum (flat_map deltas_in before) < 2 ^ 64 = omega arith in
    mod-eq_of_lt less
