-- What the packets of a source weigh in the recovering report of some bytes, with its guesses or without.
use Rattle.std.proofs.Common.{◌≡◌, ◌≤◌, ◌<◌, ℕ, ◌+◌, ◌*◌, List, [], ◌∷◌, length, map, flat_map, refl}
use Rattle.std.proofs.Common.{◌∙◌, ap, arith, Bool, true, false, cond, Option, None, Some}
use Rattle.std.specs.Prelude.{◌==◌}
use Rattle.std.proofs.Math.Nat.{mul-le-mul_right}
use Rattle.trace_values.specs.declared.cell.Cell.{Cell}
use Rattle.trace_values.specs.Placed.{Place, Placed, placed}
use Rattle.trace_values.specs.ReadingModes.{packets_hunt}
use Rattle.trace_values.specs.Stream.{Said, Notice, Kept}
use Rattle.frame_grammar.specs.Reading.{is_source}
use Rattle.itm_grammar.specs.declared.packet.ItmPacket.{ItmPacket}
use Rattle.itm_codec.specs.Reading.{packets_in}
use Rattle.stp_codec.specs.Reading.{items_at}
use Rattle.stp_grammar.specs.declared.item.StpItem.{StpItem}
use Rattle.stp_grammar.specs.declared.packet.Order.{Order}
use Rattle.source_events.specs.declared.event.Event.{Event}
use Rattle.source_events.specs.declared.event.What.{What}
use Rattle.source_events.specs.declared.event.What.TheVariants.{Locked, Packet as Told, Raw, Trigger}
use Rattle.source_events.specs.declared.packet.Packet.{Packet}
use Rattle.source_events.specs.declared.packet.Packet.TheVariants.{Itm as ItmOf, Stp as StpOf}
use Rattle.source_events.specs.declared.plan.Plan.{Plan}
use Rattle.source_events.specs.declared.plan.SourceKind.{SourceKind}
use Rattle.source_events.specs.declared.plan.SourceKind.TheVariants.{Itm, Stp}
use Rattle.source_events.specs.Merge.{is_of, part, told}
use Rattle.source_events.specs.Packets.{given_as, said_as}
use Rattle.source_events.specs.Plan.{kind_of}
use Rattle.source_events.specs.Report.{lifted, raw_events, raws, triggers, what_of}
use Rattle.source_events.specs.Runs.{IsRunFrom, RisesFrom, end_of, id_of}
use Rattle.source_events.proofs.Captures.{capture_rises}
use Rattle.source_machine.specs.Units.{reads_by}
use Rattle.stretch_readings.specs.declared.heard.Heard.{Heard}
use Rattle.stretch_readings.specs.Stretches.{One}
use Rattle.recovering_machines.specs.Run.{units_in}
use Rattle.recovery_report.specs.Placing.{PartLies, PartsBetween, part_end}
use Rattle.recovery_report.specs.Port.{recovered}
use Rattle.recovery_report.specs.Report.{Part, Run, Locks, Breaks, events_by, fed_by, list_of, parts_in, report_with}
use Rattle.recovery_report.specs.Report.{run_in, said_by, said_in}
use Rattle.recovery_report.proofs.Parting.{parts_in_order, parts_placed}
use Rattle.recovery_laws.proofs.Ordering.{ordered}
use Rattle.recovery_listing.proofs.Stretched.{of_heard, of_read, of_said, one, said_few, times}
use Rattle.capture_actions.proofs.Ticking.{TellsFew, itm_few, plain}
use Rattle.capture_actions.proofs.Totals.{total, total-append, total-map}

scaled : (guesses : Bool) (a b c : ℕ) → a ≤ times guesses * b → b ≤ c → a ≤ times guesses * c
scaled true a b c h k = omega arith
scaled false a b c h k = omega arith

chain : (a b c : ℕ) → a ≤ b → b ≤ c → a ≤ c
chain a b c h k = omega arith

-- how many units a source of ITM packets is fed in parts that lie so: one for each byte at most
run_long : (run : List Cell) (n : ℕ) → RisesFrom n run → 0 < length run → n + length run ≤ end_of run
run_long [] n r h = absurd (omega arith)
run_long (c ∷ []) n r h = let k = r.0 in omega arith
run_long (c ∷ (d ∷ run)) n r h = let k = r.0 in let m = run_long (d ∷ run) (c.at + 1) r.1 (omega arith) in omega arith

run_least : (run : List Cell) (n : ℕ) → IsRunFrom n run → n + length run ≤ end_of run
run_least [] n l = absurd l
run_least (c ∷ run) n l = run_long (c ∷ run) n l (omega arith)

units_fed : (run : List Cell) → total one (map One (units_in Itm run)) ≡ length run
units_fed [] = refl
units_fed (c ∷ run) = let e = units_fed run in omega arith

fed_few : (x n : ℕ) (m : Part) → PartLies n m → n + total one (fed_by Itm x m) ≤ part_end m
fed_few x n (Run run) l = by (is_source x (id_of run)) where
  by : (t : Bool) → n + total one (cond t (map One (units_in Itm run)) []) ≤ end_of run
  by true = let e = units_fed run in let r = run_least run n l in omega arith
  by false = let r = run_least run n l in omega arith
fed_few x n (Locks skipped place) l = let k : n ≤ place.at = l in omega arith
fed_few x n (Breaks reason place) l = let k : n ≤ place.at = l in omega arith

list_few : (x : ℕ) (ms : List Part) (n k : ℕ) → PartsBetween n k ms → n + total one (list_of Itm x ms) ≤ k
list_few x [] n k b = let l : n ≤ k = b in omega arith
list_few x (m ∷ ms) n k b =
    let f = fed_few x n m b.0 in
    let r = list_few x ms (part_end m) k b.1 in
    let a = total-append one (fed_by Itm x m) (list_of Itm x ms) in
    omega arith

-- Where each ITM packet of few ticks weighs at most this much for each of its bytes.
module _ (w : ItmPacket → ℕ) (most : ℕ) (small : (n : ℕ) (p : ItmPacket) → TellsFew n p → w p ≤ n * most) where
  abbrev pub weigh : Packet → ℕ
  weigh (ItmOf p) = w p
  weigh (StpOf item) = 0

  abbrev pub of_what : What (Heard Packet) → ℕ
  of_what (Locked skipped) = 0
  of_what (Told h) = of_heard weigh h
  of_what (Raw bytes) = 0
  of_what (Trigger byte) = 0

  abbrev pub given : List (What (Heard Packet) × Place) → ℕ
  given l = total (λ g. of_what g.0) l

  -- what a source's units read as
  itm_less : (x : Said ItmPacket × Place) → of_read weigh (said_as ItmOf x.0, x.1) ≤ plain w most small x
  itm_less (Notice skipped, place) = omega arith
  itm_less (Kept p, place) = omega arith

  stp_none : (l : List (Said StpItem × Place)) → total (of_read weigh) (given_as StpOf l) ≡ 0
  stp_none [] = refl
  stp_none ((Notice skipped, place) ∷ l) = let e = stp_none l in omega arith
  stp_none ((Kept item, place) ∷ l) = let e = stp_none l in omega arith

  itm_read : (order : Order) (hunts : Bool) (u : List Placed) →
      total (of_read weigh) (reads_by order Itm hunts u).given ≤ length u * most
  itm_read order hunts u =
      let m = total-map (plain w most small) (of_read weigh) (λ x. (said_as ItmOf x.0, x.1)) (packets_in hunts u).given
      itm_less in
      let f = itm_few w most small hunts u in
      omega arith

  stp_read : (order : Order) (hunts : Bool) (u : List Placed) →
      total (of_read weigh) (reads_by order Stp hunts u).given ≤ length u * 0
  stp_read order hunts u = let e = stp_none (items_at order hunts u).given in omega arith

  lifted_less : (x : Said (Heard Packet) × Place) → of_what (what_of x.0) ≤ of_said weigh x
  lifted_less (Notice skipped, place) = omega arith
  lifted_less (Kept h, place) = omega arith

  lifted_few : (l : List (Said (Heard Packet) × Place)) → given (lifted l) ≤ total (of_said weigh) l
  lifted_few l = total-map (of_said weigh) (λ g. of_what g.0) (λ e. (what_of e.0, e.1)) l lifted_less

  -- a source that is not mapped says no packet
  triggers_none : (run : List Cell) → given (triggers run) ≡ 0
  triggers_none [] = refl
  triggers_none (c ∷ run) = let e = triggers_none run in omega arith

  raw_none : (x : ℕ) (run : List Cell) → given (raw_events x run) ≡ 0
  raw_none x run = by (x == 0) (x == 125) where
    by : (s t : Bool) → given (cond s [] (cond t (triggers run) (raw_events 1 run))) ≡ 0
    by true t = refl
    by false true = triggers_none run
    by false false = refl

  raws_none : (x : ℕ) (runs : List (List Cell)) → given (raws x runs) ≡ 0
  raws_none x [] = refl
  raws_none x (run ∷ runs) =
      let more = cond (is_source x (id_of run)) (raw_events x run) [] in
      let a = total-append (λ (g : What (Heard Packet) × Place). of_what g.0) more (raws x runs) in
      let r = raws_none x runs in
      let o = by (is_source x (id_of run)) in
      omega arith where
        by : (t : Bool) → given (cond t (raw_events x run) []) ≡ 0
        by true = raw_none x run
        by false = refl

  module _ (guesses : Bool) (plan : Plan) (x : ℕ) where
    -- what a source says in parts
    events_few : (o : Option SourceKind) (ms : List Part) (k : ℕ) → PartsBetween 0 k ms →
        given (events_by guesses plan o x ms) ≤ times guesses * (k * most)
    events_few None ms k b = let e = raws_none x (flat_map run_in ms) in omega arith
    events_few (Some Itm) ms k b =
        let l = lifted_few (said_in guesses plan Itm x ms) in
        let s = said_few (reads_by plan.order Itm) weigh most (itm_read plan.order) guesses
        (packets_hunt plan.packets) (list_of Itm x ms) in
        let f = list_few x ms 0 k b in
        let n : total one (list_of Itm x ms) ≤ k = omega arith in
        let m : total one (list_of Itm x ms) * most ≤ k * most = mul-le-mul_right most n in
        scaled guesses (given (lifted (said_in guesses plan Itm x ms))) (total one (list_of Itm x ms) * most)
        (k * most) (chain _ _ _ l s) m
    events_few (Some Stp) ms k b =
        let l = lifted_few (said_in guesses plan Stp x ms) in
        let s = said_few (reads_by plan.order Stp) weigh 0 (stp_read plan.order) guesses
        (packets_hunt plan.packets) (list_of Stp x ms) in
        scaled guesses (given (lifted (said_in guesses plan Stp x ms))) (total one (list_of Stp x ms) * 0)
        (k * most) (chain _ _ _ l s) (omega arith)

  -- what an event is that is told
  module _ (x : ℕ) where
    abbrev pub of_event : Event (Heard Packet) → ℕ
    of_event e = cond (is_of (Some x) e.source) (of_what e.what) 0

    told_part : (es : List (Event (Heard Packet))) → total of_event es ≤ total (λ e. of_what e.what) (part (Some x) es)
    told_part [] = omega arith
    told_part (e ∷ es) = by (is_of (Some x) e.source) (told_part es) where
      by : (t : Bool) → total of_event es ≤ total (λ e. of_what e.what) (part (Some x) es) →
          cond t (of_what e.what) 0 + total of_event es
          ≤ total (λ e. of_what e.what) (cond t (e ∷ part (Some x) es) (part (Some x) es))
      by true h = omega arith
      by false h = omega arith

    told_given : (l : List (What (Heard Packet) × Place)) → total (λ e. of_what e.what) (told (Some x) l) ≡ given l
    told_given [] = refl
    told_given (g ∷ l) = ap (λ (n : ℕ). of_what g.0 + n) (told_given l)

    module _ (plan : Plan) (bytes : List ℕ) where
      abbrev all_parts : List Part
      all_parts = parts_in (recovered plan.frames (placed bytes))

      pub report_few : (guesses : Bool) →
          total of_event (report_with guesses plan (placed bytes)) ≤ times guesses * (length bytes * most)
      report_few guesses =
          let m = (ordered guesses plan all_parts 0
          (parts_in_order plan.frames (placed bytes) 0 (length bytes) (capture_rises bytes))).parts (Some x) in
          let p = told_part (report_with guesses plan (placed bytes)) in
          let e = ap (λ (es : List (Event (Heard Packet))). total (λ e. of_what e.what) es) m
          ∙ told_given (said_by guesses plan (Some x) all_parts) in
          let f = events_few guesses plan x (kind_of plan x) all_parts (length bytes)
          (parts_placed plan.frames (placed bytes) 0 (length bytes) (capture_rises bytes)) in
          omega arith
