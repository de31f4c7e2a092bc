-- The packets that clocks have taken weigh no more than those of the report, and their ticks are fewer than 2^64.
use Rattle.std.proofs.Common.{◌≡◌, ◌≤◌, ◌<◌, ℕ, ◌+◌, ◌*◌, ◌^◌, List, [], ◌∷◌, ◌++◌, length, flat_map, refl}
use Rattle.std.proofs.Common.{◌∙◌, ap, arith, Bool, true, false, cond, Option, None, Some}
use Rattle.std.specs.Prelude.{sum, not}
use Rattle.std.proofs.Math.Nat.{mod-eq_of_lt}
use Rattle.trace_values.specs.Placed.{placed}
use Rattle.itm_grammar.specs.declared.packet.ItmPacket.{ItmPacket}
use Rattle.itm_grammar.specs.declared.packet.ItmPacket.TheVariants.{Overflow}
use Rattle.source_events.specs.declared.event.Event.{Event}
use Rattle.source_events.specs.declared.event.What.{What}
use Rattle.source_events.specs.declared.event.What.TheVariants.{Locked, Packet as Told, Raw, Trigger}
use Rattle.source_events.specs.declared.packet.Packet.{Packet}
use Rattle.source_events.specs.declared.packet.Packet.TheVariants.{Itm as ItmOf, Stp as StpOf}
use Rattle.source_events.specs.declared.plan.Plan.{Plan}
use Rattle.source_events.specs.Merge.{is_of, place_of}
use Rattle.stretch_readings.specs.declared.heard.Heard.{Heard}
use Rattle.stretch_readings.specs.declared.heard.Heard.TheVariants.{Read, Broken, Guessed, Misread}
use Rattle.recovering_machines.specs.Hearing.{as_event, as_strict, is_guess}
use Rattle.recovery_report.specs.Report.{report_with, sure_events}
use Rattle.trace_stream.specs.declared.limits.TheConstants.{GREATEST_CAPTURE}
use Rattle.capture_actions.specs.Listing.{itm_packet, itm_packets}
use Rattle.capture_actions.specs.PortText.{source_of}
use Rattle.capture_actions.specs.Remarks.{deltas_in, local_after}
use Rattle.capture_actions.specs.SourceClocks.{without}
use Rattle.value_dump.specs.declared.vcd_plan.VcdPlan.{VcdPlan}
use Rattle.recovery_listing.specs.Dump.{packets_in, packets_of}
use Rattle.recovery_listing.specs.declared.going_on.GoingOn.{GoingOn}
use Rattle.recovering_machines.specs.Hearing.{seen_by, seen_in}
use Rattle.recovery_listing.specs.Listing.{clocked_by, clocked_from}
use Rattle.recovery_listing.specs.Near.{guess_clocked, guess_clocked_by, guess_clocked_from}
use Rattle.recovery_listing.specs.Noting.{given_by, given_of, is_misread, loser_of, loss_at, with_losses}
use Rattle.recovery_listing.proofs.Stretched.{times}
use Rattle.capture_actions.proofs.Few.{all_ticks, each_one}
use Rattle.capture_actions.proofs.Ticking.{TellsFew, TICKS}
use Rattle.capture_actions.proofs.Totals.{total, total-append, total-filter, total-flat}
use Rattle.recovery_listing.proofs.Weights.{of_event, of_what, report_few}

abbrev Heards : Type 0
Heards = List (Event (Heard Packet))

module _ (w : ItmPacket → ℕ) (most : ℕ) (small : (n : ℕ) (p : ItmPacket) → TellsFew n p → w p ≤ n * most) (x : ℕ) where
  abbrev weight : Event (Heard Packet) → ℕ
  weight = of_event w most small x

  abbrev what_weight : What (Heard Packet) → ℕ
  what_weight = of_what w most small

  -- the same of an event that is read
  abbrev strict_what : What Packet → ℕ
  strict_what (Locked skipped) = 0
  strict_what (Told (ItmOf p)) = w p
  strict_what (Told (StpOf item)) = 0
  strict_what (Raw bytes) = 0
  strict_what (Trigger byte) = 0

  abbrev strict_weight : Event Packet → ℕ
  strict_weight e = cond (is_of (Some x) e.source) (strict_what e.what) 0

  packet_less : (what : What Packet) → total w (itm_packet what) ≤ strict_what what
  packet_less (Locked skipped) = omega arith
  packet_less (Told (ItmOf p)) = omega arith
  packet_less (Told (StpOf item)) = omega arith
  packet_less (Raw bytes) = omega arith
  packet_less (Trigger byte) = omega arith

  packets_less : (es : List (Event Packet)) → total w (itm_packets (Some x) es) ≤ total strict_weight es
  packets_less es =
      total-flat strict_weight w (λ (e : Event Packet). cond (is_of (Some x) e.source) (itm_packet e.what) []) es
      (λ e. by e (is_of (Some x) e.source)) where
        by : (e : Event Packet) (t : Bool) → total w (cond t (itm_packet e.what) []) ≤ cond t (strict_what e.what) 0
        by e true = packet_less e.what
        by e false = omega arith

  pushed : (c : List (Event Packet)) (e : Event Packet) (n : ℕ) → strict_weight e ≤ n →
      total strict_weight (c ++ e ∷ []) ≤ total strict_weight c + n
  pushed c e n h = let a = total-append strict_weight c (e ∷ []) in omega arith

  left_out : (source : Option ℕ) (c : List (Event Packet)) (n : ℕ) →
      total strict_weight (without source c) ≤ total strict_weight c + n
  left_out None c n = omega arith
  left_out (Some id) c n =
      let f = total-filter strict_weight (λ (e : Event Packet). not (is_of (Some id) e.source)) c in omega arith

  -- what is read weighs as it does there
  read_less : (e : Event (Heard Packet)) (what : What Packet) (n : ℕ) → strict_what what ≤ n →
      strict_weight (as_event e what) ≤ cond (is_of (Some x) e.source) n 0
  read_less e what n h = by (is_of (Some x) e.source) where
    by : (t : Bool) → cond t (strict_what what) 0 ≤ cond t n 0
    by true = h
    by false = omega arith

  said_less : (packet : Packet) → strict_what (Told packet) ≤ what_weight (Told (Read packet))
  said_less (ItmOf p) = omega arith
  said_less (StpOf item) = omega arith

  guessed_less : (packet : Packet) → strict_what (Told packet) ≤ what_weight (Told (Guessed packet))
  guessed_less (ItmOf p) = omega arith
  guessed_less (StpOf item) = omega arith

  one_less : (e : Event (Heard Packet)) (what : What Packet) (n : ℕ) → strict_what what ≤ n →
      total strict_weight (as_event e what ∷ []) ≤ cond (is_of (Some x) e.source) n 0
  one_less e what n h = let k = read_less e what n h in omega arith

  -- the events that are read
  seen_one : (e : Event (Heard Packet)) (h : What (Heard Packet)) →
      total strict_weight (seen_by e (as_strict h)) ≤ cond (is_of (Some x) e.source) (what_weight h) 0
  seen_one e (Locked skipped) = one_less e (Locked skipped) 0 (omega arith)
  seen_one e (Told (Read packet)) = one_less e (Told packet) _ (said_less packet)
  seen_one e (Told (Broken reason)) = omega arith
  seen_one e (Told (Guessed packet)) = one_less e (Told packet) _ (guessed_less packet)
  seen_one e (Told (Misread reason)) = omega arith
  seen_one e (Raw bytes) = one_less e (Raw bytes) 0 (omega arith)
  seen_one e (Trigger byte) = one_less e (Trigger byte) 0 (omega arith)

  seen_less : (es : Heards) → total strict_weight (seen_in es) ≤ total weight es
  seen_less es = total-flat weight strict_weight (λ e. seen_by e (as_strict e.what)) es (λ e. seen_one e e.what)

  -- those that the clocks have taken
  clocked_step : (c : List (Event Packet)) (e : Event (Heard Packet)) (h : What (Heard Packet)) →
      total strict_weight (clocked_by c e (as_strict h))
      ≤ total strict_weight c + cond (is_of (Some x) e.source) (what_weight h) 0
  clocked_step c e (Locked skipped) =
      pushed c (as_event e (Locked skipped)) _ (read_less e (Locked skipped) 0 (omega arith))
  clocked_step c e (Told (Read packet)) =
      pushed c (as_event e (Told packet)) _ (read_less e (Told packet) _ (said_less packet))
  clocked_step c e (Told (Broken reason)) = left_out e.source c _
  clocked_step c e (Told (Guessed packet)) =
      pushed c (as_event e (Told packet)) _ (read_less e (Told packet) _ (guessed_less packet))
  clocked_step c e (Told (Misread reason)) = left_out e.source c _
  clocked_step c e (Raw bytes) = pushed c (as_event e (Raw bytes)) _ (read_less e (Raw bytes) 0 (omega arith))
  clocked_step c e (Trigger byte) = pushed c (as_event e (Trigger byte)) _ (read_less e (Trigger byte) 0 (omega arith))

  clocked_less : (es : Heards) (c : List (Event Packet)) →
      total strict_weight (clocked_from c es) ≤ total strict_weight c + total weight es
  clocked_less [] c = omega arith
  clocked_less (e ∷ es) c =
      let k = clocked_less es (clocked_by c e (as_strict e.what)) in
      let s = clocked_step c e e.what in
      omega arith

  guess_step : (c : List (Event Packet)) (e : Event (Heard Packet)) (h : What (Heard Packet)) →
      total strict_weight (guess_clocked_by c e (as_strict h))
      ≤ total strict_weight c + cond (is_of (Some x) e.source) (what_weight h) 0
  guess_step c e (Locked skipped) = left_out e.source c _
  guess_step c e (Told (Read packet)) =
      pushed c (as_event e (Told packet)) _ (read_less e (Told packet) _ (said_less packet))
  guess_step c e (Told (Broken reason)) = omega arith
  guess_step c e (Told (Guessed packet)) =
      pushed c (as_event e (Told packet)) _ (read_less e (Told packet) _ (guessed_less packet))
  guess_step c e (Told (Misread reason)) = omega arith
  guess_step c e (Raw bytes) = pushed c (as_event e (Raw bytes)) _ (read_less e (Raw bytes) 0 (omega arith))
  guess_step c e (Trigger byte) = pushed c (as_event e (Trigger byte)) _ (read_less e (Trigger byte) 0 (omega arith))

  guess_less : (es : Heards) (c : List (Event Packet)) →
      total strict_weight (guess_clocked_from c es) ≤ total strict_weight c + total weight es
  guess_less [] c = omega arith
  guess_less (e ∷ es) c =
      let k = guess_less es (guess_clocked_by c e (as_strict e.what)) in
      let s = guess_step c e e.what in
      omega arith

  -- with an overflow packet for each fault, which tells no ticks
  module _ (none : w Overflow ≡ 0) where
    loss_none : (e : Event (Heard Packet)) (o : Option ℕ) (n : ℕ) → total strict_weight (loss_at (place_of e) o) ≤ n
    loss_none e None n = omega arith
    loss_none e (Some y) n = let b = by (is_of (Some x) (Some y)) in omega arith where
      by : (t : Bool) → cond t (w Overflow) 0 ≡ 0
      by true = none
      by false = refl

    given_less : (own : Option ℕ) (e : Event (Heard Packet)) (h : What (Heard Packet)) →
        total strict_weight (given_by own e (as_strict h)) ≤ cond (is_of (Some x) e.source) (what_weight h) 0
    given_less own e (Locked skipped) = one_less e (Locked skipped) 0 (omega arith)
    given_less own e (Told (Read packet)) = one_less e (Told packet) _ (said_less packet)
    given_less own e (Told (Broken reason)) = loss_none e (loser_of own e.source) _
    given_less own e (Told (Guessed packet)) = one_less e (Told packet) _ (guessed_less packet)
    given_less own e (Told (Misread reason)) = loss_none e (loser_of own e.source) _
    given_less own e (Raw bytes) = one_less e (Raw bytes) 0 (omega arith)
    given_less own e (Trigger byte) = one_less e (Trigger byte) 0 (omega arith)

    losses_less : (own : Option ℕ) (es : Heards) → total strict_weight (with_losses own es) ≤ total weight es
    losses_less own es =
        total-flat weight strict_weight (λ e. given_of own e (is_misread e.what)) es (λ e. by e (is_misread e.what))
      where
        by : (e : Event (Heard Packet)) (t : Bool) → total strict_weight (given_of own e t) ≤ weight e
        by e true = omega arith
        by e false = given_less own e e.what

  module _ (plan : Plan) (bytes : List ℕ) (guesses : Bool) where
    abbrev es : Heards
    es = report_with guesses plan (placed bytes)

    abbrev bound : ℕ
    bound = times guesses * (length bytes * most)

    all_few : total weight es ≤ bound
    all_few = report_few w most small x plan bytes guesses

    pub seen_few : total w (itm_packets (Some x) (seen_in es)) ≤ bound
    seen_few = let a = packets_less (seen_in es) in let b = seen_less es in let c = all_few in omega arith

    module _ (before after : Heards) (e : es ≡ before ++ after) where
      front_few : total weight before ≤ bound
      front_few =
          let a = all_few in
          let p = ap (total weight) e ∙ total-append weight before after in
          omega arith

      pub clocked_few : total w (itm_packets (Some x) (clocked_from [] (sure_events before))) ≤ bound
      clocked_few =
          let c = clocked_from [] (sure_events before) in
          let a = packets_less c in
          let b = clocked_less (sure_events before) [] in
          let f = total-filter weight (λ e. not (is_guess e.what)) before in
          let d = front_few in
          omega arith

      pub plain_few : total w (itm_packets (Some x) (clocked_from [] before)) ≤ bound
      plain_few =
          let a = packets_less (clocked_from [] before) in
          let b = clocked_less before [] in
          let d = front_few in
          omega arith

      pub guessed_few : total w (itm_packets (Some x) (guess_clocked before)) ≤ bound
      guessed_few =
          let a = packets_less (guess_clocked before) in
          let b = guess_less before [] in
          let d = front_few in
          omega arith

    pub lost_few : w Overflow ≡ 0 → (own : Option ℕ) → total w (itm_packets (Some x) (with_losses own es)) ≤ bound
    lost_few none own =
        let a = packets_less (with_losses own es) in let b = losses_less none own es in let c = all_few in omega arith

-- how many packets
pub few_packets : (plan : Plan) (bytes : List ℕ) (guesses : Bool) (x : ℕ) →
    length (itm_packets (Some x) (seen_in (report_with guesses plan (placed bytes)))) ≤ times guesses * length bytes
few_packets plan bytes guesses x =
    let f = seen_few (λ p. 1) 1 (λ n p h. (let k = h.0 in omega arith)) x plan bytes guesses in
    let e = each_one (itm_packets (Some x) (seen_in (report_with guesses plan (placed bytes)))) in
    by guesses f e where
      by : (g : Bool) → total (λ p. 1) (itm_packets (Some x) (seen_in (report_with guesses plan (placed bytes))))
          ≤ times g * (length bytes * 1) →
          total (λ p. 1) (itm_packets (Some x) (seen_in (report_with guesses plan (placed bytes))))
          ≡ length (itm_packets (Some x) (seen_in (report_with guesses plan (placed bytes)))) →
          length (itm_packets (Some x) (seen_in (report_with guesses plan (placed bytes)))) ≤ times g * length bytes
      by true f e = omega arith
      by false f e = omega arith

-- and their ticks
abbrev pub ticks : ItmPacket → ℕ
ticks p = sum (deltas_in p)

pub small_ticks : (n : ℕ) (p : ItmPacket) → TellsFew n p → ticks p ≤ n * TICKS
small_ticks n p h = h.1

-- The sum is the time where it is below this.
abbrev pub IsClock : List ItmPacket → Type 0
IsClock packets = (sum (flat_map deltas_in packets) < 2 ^ 64)
    × (local_after packets ≡ sum (flat_map deltas_in packets))

pub is_clock : (packets : List ItmPacket) (guesses : Bool) (bytes : List ℕ) → length bytes ≤ GREATEST_CAPTURE →
    total ticks packets ≤ times guesses * (length bytes * TICKS) → IsClock packets
is_clock packets guesses bytes bound few =
    let e = all_ticks packets in
    let below = under guesses (total ticks packets) (length bytes) bound few in
    let less : sum (flat_map deltas_in packets) < 2 ^ 64 = omega arith in
    (less, mod-eq_of_lt less) where
      under : (g : Bool) (n k : ℕ) → k ≤ GREATEST_CAPTURE → n ≤ times g * (k * TICKS) → n < 2 ^ 64
      under true n k b f = omega arith
      under false n k b f = omega arith

-- the packets of a value dump
pub dump_clock : (p : GoingOn VcdPlan) (bytes : List ℕ) (source : ℕ) (before after : List ItmPacket) →
    length bytes ≤ GREATEST_CAPTURE → source_of p.plan.plan ≡ Some source → packets_of p bytes ≡ before ++ after →
    local_after before ≡ sum (flat_map deltas_in before)
dump_clock p bytes source before after bound own parts =
    let es = report_with p.guesses p.plan.plan (placed bytes) in
    let few = lost_few ticks TICKS small_ticks source p.plan.plan bytes p.guesses refl (Some source) in
    let all = ap (λ (o : Option ℕ). total ticks (packets_in o es)) own in
    let a = ap (total ticks) parts in
    let s = total-append ticks before after in
    (is_clock before p.guesses bytes bound
    (less p.guesses (total ticks before) (total ticks (packets_in (Some source) es)) (length bytes * TICKS) few
    (omega arith))).1 where
      less : (g : Bool) (n m k : ℕ) → m ≤ times g * k → n ≤ m → n ≤ times g * k
      less true n m k h l = omega arith
      less false n m k h l = omega arith
