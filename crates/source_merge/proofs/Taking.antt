-- What an engine makes of bytes that the engine took that goes on after faults.
use Rattle.std.proofs.Common.{◌≡◌, ◌≢◌, ◌∙◌, ℕ, zero, suc, ◌+◌, ◌<◌, ◌≤◌, List, [], ◌∷◌, ◌++◌, length, take, sym, ap, subst}
use Rattle.std.proofs.Common.{Option, None, Some, true, false, refl, arith, inl, inr, ◌⊎◌, append_assoc, append-nil}
use Rattle.std.specs.Prelude.{is_none}
use Rattle.std.specs.Option.{option_map}
use Rattle.std.proofs.Common.{length-append}
use Rattle.std.proofs.lemmas.List.{length-take-le}
use Rattle.trace_values.specs.declared.reading_modes.FramesMode.{FramesMode}
use Rattle.trace_values.specs.declared.reading_modes.FramesMode.TheVariants.{Hunt, Aligned, Bare}
use Rattle.trace_values.specs.Placed.{Placed, byte_at, placed_from}
use Rattle.trace_values.proofs.Placing.{placed_from_push}
use Rattle.deformatter.specs.Block.{FedAs}
use Rattle.deformatter.specs.PortReading.{port_reading}
use Rattle.deformatter.specs.Rising.{BytesRise, end_at}
use Rattle.frame_grammar.specs.Reading.{offsets_of}
use Rattle.source_events.specs.declared.event.Event.{Event}
use Rattle.source_events.specs.declared.event.Stop.{Stop}
use Rattle.source_events.specs.declared.packet.Packet.{Packet}
use Rattle.source_events.specs.declared.plan.Plan.{Plan}
use Rattle.source_events.specs.Plan.{is_sound, sources_by}
use Rattle.source_events.specs.Report.{stop_of}
use Rattle.source_events.specs.Tails.{items_in}
use Rattle.source_events.proofs.Growth.{no_stop}
use Rattle.stretch_readings.specs.declared.heard.Heard.{Heard}
use Rattle.recovery_report.specs.Report.{report}
use Rattle.recovery_engine.specs.Engine as recovering
use Rattle.recovery_engine.specs.Front.{EndsLast}
use Rattle.recovery_engine.specs.declared.engine.Recovery.{Recovery}
use Rattle.recovery_engine.specs.declared.per_source.PerSource.{PerSource}
use Rattle.recovery_engine.proofs.Rising.{end_block, rise_block, rise_to}
use Rattle.recovery_laws.specs.Strict.{HasAsStrict, first_fault, upto}
use Rattle.recovery_laws.proofs.Ends.{has_after}
use Rattle.source_merge.specs.Answering.{Answers, fault_by, fault_of, flow_to, goes_on, report_of}
use Rattle.source_merge.specs.Engine as engine
use Rattle.source_merge.specs.Counting.{Counts, HasItems, maps_none}
use Rattle.source_merge.specs.Front.{IsCertain, Reads, ReadsTo, TakesFront, fed}
use Rattle.source_merge.specs.Giving.{GivesTo}
use Rattle.source_merge.specs.Hearing.{Hears, HearsFront, most_of}
use Rattle.source_merge.specs.UpToLaws.{items_append}
use Rattle.source_merge.specs.declared.engine.Engine.{Engine}
use Rattle.source_merge.specs.declared.flow.Flow.{Flow}
use Rattle.source_merge.specs.declared.flow.Flow.TheVariants.{Going}
use Rattle.source_merge.proofs.BareStops.{Stops, stops}
use Rattle.source_merge.proofs.Growing.{grows, quiet_bytes, quiet_fault, quiet_report}

abbrev Heards : Type 0
Heards = List (Event (Heard Packet))

-- the front of a front
take_fewer : (m q : ℕ) (x : List ℕ) → m ≤ q → take m (take q x) ≡ take m x
take_fewer zero q x l = refl
take_fewer (suc m) zero x l = absurd (omega arith)
take_fewer (suc m) (suc q) [] l = refl
take_fewer (suc m) (suc q) (b ∷ x) l = ap (λ (r : List ℕ). b ∷ r) (take_fewer m q x (omega arith))

-- a front, and the byte after it
take_last : (k : ℕ) (xs : List ℕ) → k < length xs → (x : ℕ) × (take (suc k) xs ≡ take k xs ++ x ∷ [])
take_last k [] l = absurd (omega arith)
take_last zero (b ∷ xs) l = (b, refl)
take_last (suc k) (b ∷ xs) l =
    let r = take_last k xs (omega arith) in (r.0, ap (λ (r : List ℕ). b ∷ r) r.1)

pub none_of : {A : Type 0} (o : Option A) → is_none o ≡ true → o ≡ None
none_of None e = refl
none_of (Some x) e = cc

kept : (stop : Option Stop) → fault_by (flow_to stop) ≡ option_map stop_of stop
kept None = refl
kept (Some stop) = refl

pub goes : (stop : Option Stop) → goes_on (flow_to stop) ≡ is_none stop
goes None = refl
goes (Some stop) = refl

same_none : (stop : Option Stop) → is_none (option_map stop_of stop) ≡ is_none stop
same_none None = refl
same_none (Some stop) = refl

long_from : (at : ℕ) (xs : List ℕ) → length (placed_from at xs) ≡ length xs
long_from at [] = refl
long_from at (x ∷ xs) = ap suc (long_from (at + 1) xs)

pub bare_or : (mode : FramesMode) → (mode ≡ Bare) ⊎ (mode ≢ Bare)
bare_or Bare = inl refl
bare_or Hunt = inr (λ e. (let q : Hunt ≡ Bare = e in cc))
bare_or Aligned = inr (λ e. (let q : Aligned ≡ Bare = e in cc))

-- How many of the bytes that were taken the report is read with.
pub record Cut (old : Engine) (at taken bytes : ℕ) (stop : Option Stop) : Type 0 where
  pub some : (0 < bytes) × (bytes ≤ taken)
  pub framed : (engine.plan_of old).frames ≢ Bare → bytes ≡ taken
  pub going : stop ≡ None → bytes ≡ taken
  pub bare : (s : Stop) (k : ℕ) → (engine.plan_of old).frames ≡ Bare → stop ≡ Some s → s.fault.at ≡ at + k →
      k < taken → bytes ≡ k + 1

-- The engine keeps so many.
pub record Keeps (old new : Engine) (at bytes : ℕ) (stop : Option Stop) : Type 0 where
  pub count : new.count ≡ old.count + bytes
  pub next : new.next ≡ at + bytes
  pub live : new.live ≡ is_none stop

-- the engine's bytes are before this offset, and it has no fault
pub rise_of : (old : Engine) (at : ℕ) (u : List Placed) → engine.Stands old u → old.next ≤ at → BytesRise 0 at u
rise_of old at u st after =
    rise_to u (end_at 0 (offsets_of u)) at st.rising (let a = st.next in omega (arith, a, after))

-- What the engine took that goes on after faults, this many bytes: what comes up to the first fault, and that fault.
pub record Took (at : ℕ) (piece : List ℕ) (taken : ℕ) (old new : Recovery) (stop : Option Stop) (given : Heards)
    : Type 0 where
  pub bytes : (0 < taken) × (taken ≤ length piece)
  pub plan : recovering.plan_of new ≡ recovering.plan_of old
  pub list : (u : List Placed) → recovering.Stands old u →
      recovering.Stands new (u ++ placed_from at (take taken piece))
  pub late : (recovering.plan_of old).frames ≢ Bare → (u : List Placed) → recovering.Stands old u →
      EndsLast (recovering.plan_of old).frames u at (take taken piece)
  pub fault : option_map stop_of stop ≡ first_fault given
  pub grew : (u : List Placed) → recovering.Stands old u →
      report (recovering.plan_of old) (u ++ placed_from at (take taken piece))
      ≡ report (recovering.plan_of old) u ++ given

pub took_by : {S : Type 0} (gets : S → List (Event Packet) → S → Type 0) (left : S → ℕ) (at : ℕ) (piece : List ℕ)
    (taken : ℕ) (old new : (Recovery × PerSource) × S) (stop : Option Stop) (given : Heards) →
    HearsFront gets left at piece taken old new stop given → Took at piece taken old.0.0 new.0.0 stop given
took_by gets left at piece taken old new stop given h = record {
  bytes = h.bytes;
  plan = h.plan;
  list = h.list;
  late = h.late;
  fault = h.fault;
  grew = h.grew;
}

module _ (at : ℕ) (piece : List ℕ) (taken bytes : ℕ) (old : Engine) (now : Recovery) (stop : Option Stop)
    (given : Heards) (live : old.live ≡ true) (after : old.next ≤ at) (h : Took at piece taken old.recovery now stop given)
    (k : Cut old at taken bytes stop) (u : List Placed) (st : engine.Stands old u) where
  abbrev plan : Plan
  plan = engine.plan_of old

  abbrev with : List ℕ → List Placed
  with xs = u ++ placed_from at xs

  abbrev all : List ℕ
  all = take taken piece

  abbrev read : List ℕ
  read = take bytes piece

  long : length all ≡ taken
  long = length-take-le taken piece h.bytes.1

  read_long : length read ≡ bytes
  read_long = length-take-le bytes piece (let a = h.bytes.1 in let b = k.some.1 in omega (arith, a, b))

  recovers : recovering.Stands old.recovery u
  recovers = st.going live

  rise : BytesRise 0 at u
  rise = rise_of old at u st after

  none : fault_of plan u ≡ None
  none = none_of (fault_of plan u) (sym st.live ∙ live)

  grew : (report_of plan (with all) ≡ report_of plan u ++ upto given) × (fault_of plan (with all) ≡ first_fault given)
  grew = grows plan old.sound u (with all) at (at + length all) given rise (rise_block u at all rise) (h.grew u recovers) none

  fault : fault_of plan (with all) ≡ option_map stop_of stop
  fault = grew.1 ∙ sym h.fault

  -- what the report is with the bytes that it is read with
  pub record IsRead : Type 0 where
    pub events : report_of plan (with read) ≡ report_of plan u ++ upto given
    pub stops : fault_of plan (with read) ≡ option_map stop_of stop
    pub certain : is_none stop ≡ false → IsCertain plan u at read

  as_all : bytes ≡ taken → (is_none stop ≡ false → IsCertain plan u at all) → IsRead
  as_all e c =
      let same : read ≡ all = ap (λ n. take n piece) e in
      record {
        events = ap (λ l. report_of plan (with l)) same ∙ grew.0;
        stops = ap (λ l. fault_of plan (with l)) same ∙ fault;
        certain = λ n. subst (λ (l : List ℕ). IsCertain plan u at l) (sym same) (c n);
      }

  certain_last : EndsLast plan.frames u at all → IsCertain plan u at all
  certain_last e = record {
    front = e.front;
    last = e.last;
    parts = e.are;
    sound = quiet_fault plan old.sound u at e.front rise e.quiet none;
  }

  pub is_read : IsRead
  is_read = elim (bare_or plan.frames) [
    | inl b ↦ by b stop refl
    | inr b ↦ as_all (k.framed b) (λ n. certain_last (h.late b u recovers))
  ] where
    by : plan.frames ≡ Bare → (o : Option Stop) → stop ≡ o → IsRead
    by b None e =
        as_all (k.going e) (λ n. absurd (let q : is_none stop ≡ true = ap is_none e in cc))
    by b (Some f) e =
        let q : Stops plan u at all (stop_of f) =
        stops plan old.sound b all u at (stop_of f) rise none (fault ∙ ap (option_map stop_of) e) in
        let n : bytes ≡ q.count + 1 =
        k.bare f q.count b e q.place (let x = q.few in omega (arith, x, long)) in
        let fewer : suc q.count ≤ taken = (let x = q.few in omega (arith, x, long)) in
        let same : read ≡ take (suc q.count) all =
        ap (λ m. take m piece) (let z : bytes ≡ suc q.count = omega (arith, n) in z)
        ∙ sym (take_fewer (suc q.count) taken piece fewer) in
        let l = take_last q.count all q.few in
        record {
          events = ap (λ l. report_of plan (with l)) same ∙ q.same ∙ grew.0;
          stops = ap (λ l. fault_of plan (with l)) same ∙ q.fault ∙ sym (ap (option_map stop_of) e);
          certain = λ m.
              subst (λ (l : List ℕ). IsCertain plan u at l) (sym same)
              (record { front = take q.count all; last = l.0; parts = l.1; sound = q.sound });
        }

  pub reads : Reads plan u at read (upto given) (flow_to stop)
  reads = record {
    grew = is_read.events;
    fault = is_read.stops ∙ sym (kept stop);
    certain = λ e. is_read.certain (sym (goes stop) ∙ e);
  }

  has_port : plan.frames ≢ Bare → HasAsStrict plan.frames (with all)
  has_port b =
      let e = h.late b u recovers in
      let q = quiet_fault plan old.sound u at e.front rise e.quiet none in
      let one = has_after plan.frames (with e.front) (at + length e.front) e.last
      (no_stop (sources_by plan) (port_reading plan.frames (with e.front)) q) in
      subst (λ (l : List ℕ). HasAsStrict plan.frames (with l)) (sym e.are)
      (subst (λ (v : List Placed). HasAsStrict plan.frames v)
      (append_assoc u (placed_from at e.front) (byte_at (at + length e.front) e.last ∷ [])
      ∙ ap (λ (v : List Placed). u ++ v) (sym (placed_from_push at e.front e.last))) one)

  pub as_read : bytes ≡ taken → recovering.Stands now (with read)
  as_read e =
      subst (λ (n : ℕ). recovering.Stands now (with (take n piece))) (sym e) (h.list u recovers)

  pub framed_read : (b : plan.frames ≢ Bare) → recovering.Stands now (with read) × HasAsStrict plan.frames (with read)
  framed_read b = (
    as_read (k.framed b),
    subst (λ (n : ℕ). HasAsStrict plan.frames (with (take n piece))) (sym (k.framed b)) (has_port b),
  )

  end : end_at 0 (offsets_of (with read)) ≡ at + length read
  end = end_block read u at (let a = k.some.0 in omega (arith, a, read_long))

  pub rising : BytesRise 0 (end_at 0 (offsets_of (with read))) (with read)
  rising = subst (λ (n : ℕ). BytesRise 0 n (with read)) (sym end) (rise_block u at read rise)

  pub end_is : at + bytes ≡ end_at 0 (offsets_of (with read))
  end_is = (let z : at + bytes ≡ at + length read = omega (arith, read_long) in z) ∙ sym end

  pub count_is : old.count + bytes ≡ length (with read)
  count_is =
      let a = st.count in let b = length-append u (placed_from at read) in let c = long_from at read in
      omega (arith, a, b, c, read_long)

-- The engine stands for the bytes that the report is read with.
pub stands : (at : ℕ) (piece : List ℕ) (taken bytes : ℕ) (old new : Engine) (stop : Option Stop) (given : Heards) →
    old.live ≡ true → old.next ≤ at → Took at piece taken old.recovery new.recovery stop given →
    (maps_none (engine.plan_of old) ≡ false → Counts old.items new.items (upto given)) →
    Cut old at taken bytes stop → Keeps old new at bytes stop → (u : List Placed) → engine.Stands old u →
    engine.Stands new (u ++ placed_from at (take bytes piece))
stands at piece taken bytes old new stop given live after h counted k keeps u st =
    let plan = engine.plan_of old in
    let v : List Placed = u ++ placed_from at (take bytes piece) in
    let read = is_read at piece taken bytes old new.recovery stop given live after h k u st in
    record {
      rising = rising at piece taken bytes old new.recovery stop given live after h k u st;
      next = keeps.next ∙ end_is at piece taken bytes old new.recovery stop given live after h k u st;
      count = keeps.count ∙ count_is at piece taken bytes old new.recovery stop given live after h k u st;
      live =
          keeps.live ∙ sym (same_none stop) ∙ ap is_none (sym read.stops)
          ∙ ap (λ (p : Plan). is_none (fault_of p v)) (sym h.plan);
      items = subst (λ (p : Plan). maps_none p ≡ false → HasItems new.items p v) (sym h.plan) (λ m x l.
          let a = counted m x in
          let b = st.items m x l in
          let c : items_in x (report_of plan v) ≡ items_in x (report_of plan u) + items_in x (upto given) =
          ap (items_in x) read.events ∙ items_append x (report_of plan u) (upto given) in
          omega (arith, a, b, c));
      going = λ e.
          as_read at piece taken bytes old new.recovery stop given live after h k u st
          (k.going (none_of stop (sym keeps.live ∙ e)));
      framed =
          subst (λ (p : Plan). p.frames ≢ Bare → recovering.Stands new.recovery v × HasAsStrict p.frames v)
          (sym h.plan) (framed_read at piece taken bytes old new.recovery stop given live after h k u st);
    }

-- what the engine takes, and what its report reads as
module _ {S : Type 0} (gets : S → List (Event Packet) → S → Type 0) (left : S → ℕ) (at : ℕ) (piece : List ℕ)
    (taken bytes : ℕ) (old : Engine) (s t : S) (stop : Option Stop) (live : old.live ≡ true) (after : old.next ≤ at)
    (k : Cut old at taken bytes stop) where
  pub takes : (new : Engine) →
      Hears gets left at piece taken ((old.recovery, old.items), s) ((new.recovery, new.items), t) stop →
      Keeps old new at bytes stop → TakesFront old new at piece (fed bytes stop)
  takes new h keeps = record {
    same = h.1.plan;
    bytes = (k.some.0, (let a = k.some.1 in let b = h.1.bytes.1 in omega (arith, a, b)));
    next = keeps.next;
    live = keeps.live ∙ sym (goes stop);
    list = λ u st.
        stands at piece taken bytes old new stop h.0 live after
        (took_by gets left at piece taken ((old.recovery, old.items), s) ((new.recovery, new.items), t) stop h.0 h.1)
        (λ m. h.1.counted.counts) k keeps u st;
  }

  module _ (now : Recovery) (items : PerSource)
      (h : Hears gets left at piece taken ((old.recovery, old.items), s) ((now, items), t) stop) where
    took : Took at piece taken old.recovery now stop h.0
    took = took_by gets left at piece taken ((old.recovery, old.items), s) ((now, items), t) stop h.0 h.1

    pub reads_to : GivesTo gets s t (ReadsTo old at (take bytes piece) (flow_to stop))
    reads_to = (
      upto h.0,
      h.1.got,
      λ u st. reads at piece taken bytes old now stop h.0 live after took k u st,
    )

    pub late : (engine.plan_of old).frames ≢ Bare → (u : List Placed) → engine.Stands old u →
        EndsLast (engine.plan_of old).frames u at (take bytes piece)
    late b u st =
        subst (λ (n : ℕ). EndsLast (engine.plan_of old).frames u at (take n piece)) (sym (k.framed b))
        (h.1.late b u (st.going live))

-- the report grows with the last of these bytes, where those before it add nothing
pub gives_last : (plan : Plan) (u : List Placed) (at : ℕ) (bytes : List ℕ) (given : List (Event Packet)) (flow : Flow) →
    is_sound plan ≡ true → BytesRise 0 at u → fault_of plan u ≡ None → Reads plan u at bytes given flow →
    EndsLast plan.frames u at bytes → FedAs (Answers plan [] Going) (Answers plan given flow) u at bytes
gives_last plan u at bytes given flow sound rise none r e =
    let whole : (u ++ placed_from at e.front) ++ byte_at (at + length e.front) e.last ∷ [] ≡ u ++ placed_from at bytes =
    append_assoc u (placed_from at e.front) (byte_at (at + length e.front) e.last ∷ [])
    ∙ ap (λ (v : List Placed). u ++ v) (sym (placed_from_push at e.front e.last) ∙ ap (placed_from at) (sym e.are)) in
    record {
      front = e.front;
      last = e.last;
      parts = e.are;
      quiet = quiet_bytes plan sound e.front u at rise e.quiet none;
      ends = record {
        events =
            ap (report_of plan) whole ∙ r.grew
            ∙ ap (λ (l : List (Event Packet)). l ++ given)
            (sym (quiet_report plan sound u at e.front rise e.quiet));
        fault = ap (fault_of plan) whole ∙ r.fault;
      };
    }

-- one byte is the last one
pub gives_one : (plan : Plan) (u : List Placed) (at byte : ℕ) (given : List (Event Packet)) (flow : Flow) →
    Reads plan u at (byte ∷ []) given flow →
    FedAs (Answers plan [] Going) (Answers plan given flow) u at (byte ∷ [])
gives_one plan u at byte given flow r = record {
  front = [];
  last = byte;
  parts = refl;
  quiet = tt;
  ends =
      subst (λ (v : List Placed). Answers plan given flow v (at + 0) byte) (sym (append-nil u))
      (subst (λ (n : ℕ). Answers plan given flow u n byte) (let z : at ≡ at + 0 = omega arith in z)
      (record { events = r.grew; fault = r.fault }));
}

-- a piece of one byte, in place of the whole piece
pub first_takes : (old new : Engine) (at : ℕ) (piece : List ℕ) (n : ℕ) (stop : Option Stop) →
    TakesFront old new at (take 1 piece) (fed n stop) → TakesFront old new at piece (fed n stop)
first_takes old new at [] n stop h = h
first_takes old new at (b ∷ piece) n stop h =
    let one : n ≤ 1 = h.bytes.1 in
    record {
      same = h.same;
      bytes = (h.bytes.0, omega arith);
      next = h.next;
      live = h.live;
      list = λ u st.
          subst (λ (l : List ℕ). engine.Stands new (u ++ placed_from at l)) (take_fewer n 1 (b ∷ piece) one)
          (h.list u st);
    }

pub first_gives : (plan : Plan) (u : List Placed) (at : ℕ) (piece : List ℕ) (n : ℕ) (given : List (Event Packet))
    (flow : Flow) → 0 < n → n ≤ length (take 1 piece) → Reads plan u at (take n (take 1 piece)) given flow →
    FedAs (Answers plan [] Going) (Answers plan given flow) u at (take n piece)
first_gives plan u at [] n given flow some few r = absurd (omega arith)
first_gives plan u at (b ∷ piece) n given flow some few r =
    let one : n ≡ 1 = (let l : n ≤ 1 = few in omega (arith, l, some)) in
    subst (λ (m : ℕ). FedAs (Answers plan [] Going) (Answers plan given flow) u at (take m (b ∷ piece))) (sym one)
    (gives_one plan u at b given flow
    (subst (λ (m : ℕ). Reads plan u at (take m (b ∷ [])) given flow) one r))

-- how many events come of one byte, in any mode, and with a formatter of any piece
pub most_one : (mode : FramesMode) → most_of mode 1 ≡ 30
most_one Bare = refl
most_one Hunt = refl
most_one Aligned = refl

pub most_framed : (mode : FramesMode) (n : ℕ) → mode ≢ Bare → most_of mode n ≡ 30
most_framed Bare n b = absurd (b refl)
most_framed Hunt n b = refl
most_framed Aligned n b = refl
