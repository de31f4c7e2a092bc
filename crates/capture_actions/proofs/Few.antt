-- A source has no more ITM packets than the capture has bytes, and they tell few ticks for each byte.
use Rattle.std.proofs.Common.{◌≡◌, ◌≤◌, ◌<◌, ℕ, suc, ◌+◌, ◌*◌, ◌^◌, List, [], ◌∷◌, ◌++◌, length, map, flat_map, refl}
use Rattle.std.proofs.Common.{◌∙◌, ap, arith, Bool, true, false, cond, Option, None, Some}
use Rattle.std.specs.Prelude.{◌==◌, filter, sum}
use Rattle.std.proofs.lemmas.List.{length-map}
use Rattle.std.proofs.lemmas.Grind.{flat_map-append}
use Rattle.std.proofs.lemmas.List.Sums.{sum_by-append}
use Rattle.std.proofs.Math.Nat.{mod-eq_of_lt, mul-le-mul_right}
use Rattle.trace_values.specs.ReadingModes.{packets_hunt}
use Rattle.capture_actions.specs.Names.{is_source, source_list, ItmPacket, port_reading, cells_of, StpItem}
use Rattle.capture_actions.specs.Names.{GREATEST_CAPTURE, Cell, Reason, Place, Placed, placed, byte_at, Event, What}
use Rattle.capture_actions.specs.Names.{Raw, Packet, Itm as ItmOf, Plan, SourceKind, Stp, is_of, sources_by, report_of}
use Rattle.itm_codec.specs.Reading.{packets_in}
use Rattle.stp_codec.specs.Reading.{items_in}
use Rattle.deformatter.specs.Rising.{Rise, offsets_in}
use Rattle.deformatter.proofs.PortReadingLaws.{frames_have_runs}
use Rattle.deformatter.proofs.RisingLaws.{capture_rises as cells_rise}
use Rattle.trace_values.specs.Stream.{Said, Notice, Kept}
use Rattle.source_events.specs.declared.packet.Packet.TheVariants.{Stp as StpOf}
use Rattle.source_events.specs.declared.plan.SourceKind.TheVariants.{Itm}
use Rattle.source_events.specs.Merge.{told, part, cut, is_before}
use Rattle.source_events.specs.Packets.{given_as}
use Rattle.source_events.specs.Plan.{mapped_ids, stream_of}
use Rattle.source_events.specs.Report.{Mapped, lifted, events, raws, raw_events, triggers, runs_in, stop_in}
use Rattle.source_events.specs.Report.{capture_events}
use Rattle.source_events.specs.Runs.{id_of, bytes_of, last_at, list_of}
use Rattle.source_events.proofs.Captures.{capture_rises}
use Rattle.source_events.proofs.Lawful.{plan_lawful}
use Rattle.source_events.proofs.Merging.{capture_merged}
use Rattle.source_events.proofs.RunNumbers.{lists_are}
use Rattle.capture_actions.specs.Listing.{itm_packet, itm_packets}
use Rattle.capture_actions.specs.Remarks.{deltas_in, local_after}
use Rattle.capture_actions.proofs.Ticking.{TICKS, TellsFew, itm_few, plain}
use Rattle.capture_actions.proofs.Totals.{total, total-append}

-- the ITM packets among what a source says
abbrev said : List (What Packet × Place) → List ItmPacket
said given = flat_map (λ (g : What Packet × Place). itm_packet g.0) given

stp_none : (given : List (Said StpItem × Place)) → said (lifted (given_as StpOf given)) ≡ []
stp_none [] = refl
stp_none ((Notice skipped, at) ∷ given) = stp_none given
stp_none ((Kept item, at) ∷ given) = stp_none given

-- a source that is not mapped says none
triggers_none : (run : List Cell) → said (triggers run) ≡ []
triggers_none [] = refl
triggers_none (c ∷ run) = triggers_none run

run_none : (x : ℕ) (run : List Cell) → said (raw_events x run) ≡ []
run_none x run = by (x == 0) (x == 125) where
  by : (s t : Bool) → said (cond s [] (cond t (triggers run) ((Raw (bytes_of run), record { at = last_at run; half = 0 }) ∷ []))) ≡ []
  by true t = refl
  by false true = triggers_none run
  by false false = refl

raws_none : (x : ℕ) (runs : List (List Cell)) → said (raws x runs) ≡ []
raws_none x [] = refl
raws_none x (run ∷ runs) =
    flat_map-append (λ (g : What Packet × Place). itm_packet g.0) (cond (is_source x (id_of run)) (raw_events x run) []) (raws x runs)
    ∙ ap (λ (l : List ItmPacket). l ++ said (raws x runs)) (by (is_source x (id_of run))) ∙ raws_none x runs where
      by : (t : Bool) → said (cond t (raw_events x run) []) ≡ []
      by true = run_none x run
      by false = refl

-- the packets of a source are those of its part of the events, and a fault takes only some away
of_part : (x : ℕ) (es : List (Event Packet)) →
    itm_packets (Some x) es ≡ flat_map (λ (e : Event Packet). itm_packet e.what) (part (Some x) es)
of_part x [] = refl
of_part x (e ∷ es) = by (is_of (Some x) e.source) (of_part x es) where
  by : (t : Bool) → itm_packets (Some x) es ≡ flat_map (λ (f : Event Packet). itm_packet f.what) (part (Some x) es) → cond t (itm_packet e.what) [] ++ itm_packets (Some x) es
      ≡ flat_map (λ (f : Event Packet). itm_packet f.what) (cond t (e ∷ part (Some x) es) (part (Some x) es))
  by true h = ap (λ (l : List ItmPacket). itm_packet e.what ++ l) h
  by false h = h

told_said : (source : Option ℕ) (given : List (What Packet × Place)) →
    flat_map (λ (e : Event Packet). itm_packet e.what) (told source given) ≡ said given
told_said source [] = refl
told_said source (g ∷ given) = ap (λ (l : List ItmPacket). itm_packet g.0 ++ l) (told_said source given)

-- the bytes of a source are some of the capture's
rise_few : (xs : List ℕ) (lo hi : ℕ) → Rise lo hi xs → lo + length xs ≤ hi
rise_few [] lo hi h = omega arith
rise_few (x ∷ xs) lo hi h = let k = rise_few xs (x + 1) hi h.1 in let l = h.0 in omega arith

some_of : (p : Cell → Bool) (cells : List Cell) → length (filter p cells) ≤ length cells
some_of p [] = omega arith
some_of p (c ∷ cells) = by (p c) (some_of p cells) where
  by : (t : Bool) → length (filter p cells) ≤ length cells → length (cond t (c ∷ filter p cells) (filter p cells)) ≤ suc (length cells)
  by true h = omega arith
  by false h = omega arith

source_few : (plan : Plan) (bytes : List ℕ) (x : ℕ) → length (list_of x (runs_in (port_reading plan.frames (placed bytes)))) ≤ length bytes
source_few plan bytes x =
    let r = port_reading plan.frames (placed bytes) in
    let cells = cells_of r in
    let a = ap length (lists_are x r.frames (frames_have_runs plan.frames (placed bytes))) in
    let b = length-map (source_list x cells) (λ (c : Cell). byte_at c.at c.byte) in
    let d = some_of (λ (c : Cell). is_source x c.id) cells in
    let e = rise_few (offsets_in cells) 0 (length bytes) (cells_rise plan.frames bytes) in
    let f = length-map cells (λ (c : Cell). c.at) in
    omega arith

-- Where each packet of few ticks weighs at most this much for each of its bytes, those of a source weigh so much for
-- each byte at most.
module _ (w : ItmPacket → ℕ) (most : ℕ) (small : (n : ℕ) (p : ItmPacket) → TellsFew n p → w p ≤ n * most) where
  said_weighs : (given : List (Said ItmPacket × Place)) →
      total w (said (lifted (given_as ItmOf given))) ≡ total (plain w most small) given
  said_weighs [] = refl
  said_weighs ((Notice skipped, at) ∷ given) = let e = said_weighs given in omega arith
  said_weighs ((Kept p, at) ∷ given) = let e = said_weighs given in omega arith

  kind_few : (plan : Plan) (kind : SourceKind) (u : List Placed) → total w (said (lifted (stream_of plan kind u).given)) ≤ length u * most
  kind_few plan Itm u =
      let e = said_weighs (packets_in (packets_hunt plan.packets) u).given in
      let f = itm_few w most small (packets_hunt plan.packets) u in
      omega arith
  kind_few plan Stp u =
      let e = ap (total w) (stp_none (items_in plan.order (packets_hunt plan.packets) u).given) in
      omega arith

  -- so it is of each of these sources
  abbrev SayFew : List (Mapped Packet) → Type 0
  SayFew [] = Unit {0}
  SayFew (s ∷ ss) = ((u : List Placed) → total w (said (lifted (s.stream u).given)) ≤ length u * most) × SayFew ss

  mapped_few : (plan : Plan) (ids : List (ℕ × SourceKind)) → SayFew (map (λ s. record { id = s.0; stream = stream_of plan s.1 }) ids)
  mapped_few plan [] = tt
  mapped_few plan (s ∷ ids) = (kind_few plan s.1, mapped_few plan ids)

  events_few : (ss : List (Mapped Packet)) → SayFew ss → (x : ℕ) (runs : List (List Cell)) →
      total w (said (events ss x runs)) ≤ length (list_of x runs) * most
  events_few [] few x runs = let e = ap (total w) (raws_none x runs) in omega arith
  events_few (s ∷ ss) few x runs = by (x == s.id) (events_few ss few.1 x runs) where
    by : (t : Bool) → total w (said (events ss x runs)) ≤ length (list_of x runs) * most →
        total w (said (cond t (lifted (s.stream (list_of x runs)).given) (events ss x runs))) ≤ length (list_of x runs) * most
    by true h = few.0 (list_of x runs)
    by false h = h

  fewer : (source : Option ℕ) (p : Event Packet → Bool) (es : List (Event Packet)) →
      total w (itm_packets source (filter p es)) ≤ total w (itm_packets source es)
  fewer source p [] = omega arith
  fewer source p (e ∷ es) = by (p e) (fewer source p es) where
    by : (t : Bool) → total w (itm_packets source (filter p es)) ≤ total w (itm_packets source es) →
        total w (itm_packets source (cond t (e ∷ filter p es) (filter p es))) ≤ total w (itm_packets source (e ∷ es))
    by true h =
        let a = total-append w (cond (is_of source e.source) (itm_packet e.what) []) (itm_packets source (filter p es)) in
        let b = total-append w (cond (is_of source e.source) (itm_packet e.what) []) (itm_packets source es) in
        omega arith
    by false h =
        let b = total-append w (cond (is_of source e.source) (itm_packet e.what) []) (itm_packets source es) in
        omega arith

  cut_few : (source : Option ℕ) (stop : Option (Place × (Reason × Option ℕ))) (es : List (Event Packet)) →
      total w (itm_packets source (cut stop es)) ≤ total w (itm_packets source es)
  cut_few source None es = omega arith
  cut_few source (Some f) es = fewer source (λ e. is_before f.0 e) es

  report_few : (plan : Plan) (bytes : List ℕ) (x : ℕ) →
      total w (itm_packets (Some x) (report_of plan (placed bytes))) ≤ length bytes * most
  report_few plan bytes x =
      let u = placed bytes in
      let ss = sources_by plan in
      let runs = runs_in (port_reading plan.frames u) in
      let es = capture_events ss plan.frames u in
      let merged = (capture_merged Packet ss (plan_lawful plan) plan.frames u 0 (length bytes) (capture_rises bytes) es).1 refl in
      let a = cut_few (Some x) (stop_in ss (port_reading plan.frames u)) es in
      let b = ap (total w) (of_part x es ∙ ap (flat_map (λ (e : Event Packet). itm_packet e.what)) (merged.parts (Some x)) ∙ told_said (Some x) (events ss x runs)) in
      let c = events_few ss (mapped_few plan (mapped_ids plan)) x runs in
      let d : length (list_of x runs) * most ≤ length bytes * most = mul-le-mul_right most (source_few plan bytes x) in
      omega arith

  -- and among the first events of a report
  front_few : (plan : Plan) (bytes : List ℕ) (x : ℕ) (before after : List (Event Packet)) → report_of plan (placed bytes) ≡ before ++ after →
      total w (itm_packets (Some x) before) ≤ length bytes * most
  front_few plan bytes x before after e =
      let all = report_few plan bytes x in
      let same = ap (λ (es : List (Event Packet)). total w (itm_packets (Some x) es)) e in
      let parts = ap (total w) (flat_map-append (λ (f : Event Packet). cond (is_of (Some x) f.source) (itm_packet f.what) []) before after)
      ∙ total-append w (itm_packets (Some x) before) (itm_packets (Some x) after) in
      omega arith

-- no source has more ITM packets in the report of these bytes than they are
pub each_one : (packets : List ItmPacket) → total (λ p. 1) packets ≡ length packets
each_one [] = refl
each_one (p ∷ packets) = let e = each_one packets in omega arith

pub few_packets : (plan : Plan) (bytes : List ℕ) (x : ℕ) →
    length (itm_packets (Some x) (report_of plan (placed bytes))) ≤ length bytes
few_packets plan bytes x =
    let few = report_few (λ p. 1) 1 (λ n p h. (let k = h.0 in omega arith)) plan bytes x in
    let e = each_one (itm_packets (Some x) (report_of plan (placed bytes))) in
    omega arith

-- and the ticks of all packets are few for each byte
pub all_ticks : (packets : List ItmPacket) → total (λ p. sum (deltas_in p)) packets ≡ sum (flat_map deltas_in packets)
all_ticks [] = refl
all_ticks (p ∷ packets) =
    let e = all_ticks packets in
    let both = sum_by-append (λ (x : ℕ). x) (deltas_in p) (flat_map deltas_in packets) in
    omega arith

pub clock_below : (plan : Plan) (bytes : List ℕ) (x : ℕ) (before after : List (Event Packet)) → length bytes ≤ GREATEST_CAPTURE →
    report_of plan (placed bytes) ≡ before ++ after → sum (flat_map deltas_in (itm_packets (Some x) before)) < 2 ^ 64
clock_below plan bytes x before after bound e =
    let few = front_few (λ p. sum (deltas_in p)) TICKS (λ n p h. h.1) plan bytes x before after e in
    let s = all_ticks (itm_packets (Some x) before) in
    omega arith

pub clock_sum : (plan : Plan) (bytes : List ℕ) (x : ℕ) (before after : List (Event Packet)) → length bytes ≤ GREATEST_CAPTURE →
    report_of plan (placed bytes) ≡ before ++ after →
    local_after (itm_packets (Some x) before) ≡ sum (flat_map deltas_in (itm_packets (Some x) before))
clock_sum plan bytes x before after bound e = mod-eq_of_lt (clock_below plan bytes x before after bound e)
