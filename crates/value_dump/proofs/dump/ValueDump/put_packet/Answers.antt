use Rattle.std.proofs.Common.{◌≡◌, ◌∙◌, ◌∷◌, [], ◌++◌, ℕ, List, Option, ap, sym, refl, false, arith}
use Rattle.std.proofs.Common.{append-nil, Bool, cond}
use Rattle.trace_clock.specs.LocalTime.{local_time}
use Rattle.value_dump.specs.Dump.{known, stamp_lines, up_to_stamp}
use Rattle.value_dump.specs.Lines.{nanoseconds}
use Rattle.value_dump.specs.Names.{ItmPacket}
use Rattle.value_dump.specs.Signals.{is_local, value_after}
use Rattle.value_dump.specs.Telling.{value_next}
use Rattle.value_dump.specs.Values.{latest_of}
use Rattle.value_dump.proofs.Packets.{not_local, stamp_other, ticks_other, value_push}
use Rattle.value_dump.proofs.dump.ValueDump.put_packet.Goals as goal

pub returns-in_default : goal.returns-in_default
returns-in_default c =
    let packet = c.args.packet.now in
    let dump = c.args.self.now in
    let other : is_local packet ≡ false = not_local packet c.in_default.not-Local in
    record {
      hz = refl;
      stands = λ packets s. record {
        clock = s.clock ∙ ap local_time (sym (ticks_other packets packet other));
        time = s.time
            ∙ ap (λ (l : List ℕ). nanoseconds dump.hz (local_time l)) (sym (ticks_other packets packet other));
        latest = λ number.
            c.tell.ensures.latest number
            ∙ ap (λ (v : Option ℕ). value_next packet number v (latest_of dump.values number)) (s.stamped number)
            ∙ ap (value_next packet number (value_after (up_to_stamp packets) number)) (s.latest number)
            ∙ sym (value_push packets packet number);
        stamped = λ number.
            ap (λ (l : List (Option ℕ)). known l number) c.tell.ensures.stamped ∙ s.stamped number
            ∙ sym (ap (λ (l : List ItmPacket). value_after l number) (stamp_other packets packet other));
      };
      text = λ packets s.
          sym (append-nil c.args.outlet.now)
          ∙ ap (λ (t : Bool). c.args.outlet.now ++ cond t (stamp_lines dump.hz packets (packets ++ packet ∷ [])) [])
          (sym other);
      bound = (let h = c.tell.ensures.owed in omega (arith, h));
    }
