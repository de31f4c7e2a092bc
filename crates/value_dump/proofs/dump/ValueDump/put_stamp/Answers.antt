use Rattle.std.proofs.Common.{◌∙◌, ◌∷◌, [], ◌++◌, ℕ, List, Option, ap, sym, refl, flat_map}
use Rattle.trace_clock.specs.LocalTime.{local_time}
use Rattle.value_dump.specs.Dump.{changes, known, up_to_stamp}
use Rattle.value_dump.specs.Lines.{nanoseconds, timed}
use Rattle.value_dump.specs.Names.{ItmPacket, Local, deltas_in, local_after}
use Rattle.value_dump.specs.Signals.{value_after}
use Rattle.value_dump.specs.Values.{latest_of, stamped_of}
use Rattle.capture_actions.proofs.Timing.{deltas_push}
use Rattle.value_dump.proofs.Packets.{changes_same, stamp_local, value_stamp}
use Rattle.value_dump.proofs.dump.ValueDump.put_stamp.Goals as goal

pub returns-clause-stands : goal.returns-clause-stands
returns-clause-stands c = λ packets lateness s.
    let packet = Local lateness c.args.delta in
    let deltas = ap local_time (sym (deltas_push packets packet)) in
    let add = c.add-ticks.ensures in
    let settled = c.settle.ensures in
    record {
      clock = add.list (flat_map deltas_in packets) s.clock ∙ deltas;
      time = c.nanoseconds-self.ensures
          ∙ ap (nanoseconds c.args.self.now.hz) (add.time (flat_map deltas_in packets) s.clock ∙ deltas);
      latest = λ number.
          ap (λ (l : List (Option ℕ)). known l number) settled.latest ∙ s.latest number
          ∙ sym (value_stamp packets lateness c.args.delta number);
      stamped = λ number.
          ap (λ (l : List (Option ℕ)). known l number) settled.stamped ∙ s.latest number
          ∙ sym (value_stamp packets lateness c.args.delta number)
          ∙ sym (ap (λ (l : List ItmPacket). value_after l number) (stamp_local packets packet refl));
    }

pub returns-clause-text : goal.returns-clause-text
returns-clause-text c = λ packets lateness s.
    let packet = Local lateness c.args.delta in
    let values = c.args.self.now.values in
    let deltas = ap local_time (sym (deltas_push packets packet)) in
    let time = c.nanoseconds-self.ensures
    ∙ ap (nanoseconds c.args.self.now.hz) (c.add-ticks.ensures.time (flat_map deltas_in packets) s.clock ∙ deltas) in
    c.put_changes.ensures.text
    ∙ ap (λ (n : ℕ). c.args.outlet.now ++ timed n (changes (stamped_of values) (latest_of values))) time
    ∙ ap (λ (lines : List ℕ).
    c.args.outlet.now ++ timed (nanoseconds c.args.self.now.hz (local_after (packets ++ packet ∷ []))) lines)
    (changes_same (stamped_of values) (value_after (up_to_stamp packets)) (latest_of values)
    (value_after (packets ++ packet ∷ [])) s.stamped
    (λ number. s.latest number ∙ sym (value_stamp packets lateness c.args.delta number)))
