-- What an engine stands for after more bytes, and what its report has more.
use Rattle.std.proofs.Common.{◌≡◌, ℕ, ◌+◌, ◌*◌, ◌≤◌, List, [], ◌∷◌, ◌++◌, sym, ap, subst, arith, map, refl, cond}
use Rattle.std.proofs.Common.{length, take, ◌∙◌, Bool, true, false, Option, None, Some}
use Rattle.std.specs.Prelude.{◌==◌, ◌&&◌, ◌≢◌}
use Rattle.std.specs.List.{refill}
use Rattle.std.proofs.lemmas.Bool.{and_right}
use Rattle.std.proofs.lemmas.List.Sums.{sum_by_push}
use Rattle.trace_values.specs.declared.cell.Cell.{Cell}
use Rattle.trace_values.specs.Placed.{Placed, placed_from}
use Rattle.trace_values.specs.declared.reading_modes.FramesMode.TheVariants.{Bare}
use Rattle.frame_grammar.specs.Frame.{cells}
use Rattle.frame_grammar.specs.declared.gather.PlacedFrame.{PlacedFrame}
use Rattle.frame_runs.specs.Gathered.{IsGathered, frame_places}
use Rattle.source_events.specs.declared.event.Event.{Event}
use Rattle.source_events.specs.declared.packet.Packet.{Packet}
use Rattle.source_events.specs.declared.plan.Plan.{Plan}
use Rattle.source_events.specs.declared.event.What.TheVariants.{Raw}
use Rattle.source_events.specs.Merge.{is_of, told}
use Rattle.source_events.specs.Report.{raw_events, triggers}
use Rattle.source_events.specs.Runs.{bytes_of, id_of, last_at, runs_of}
use Rattle.stretch_readings.specs.declared.heard.Heard.{Heard}
use Rattle.recovery_engine.proofs.Refilled.{refilled}
use Rattle.recovering_machines.specs.Port as ports
use Rattle.recovery_report.specs.Port.{recovered}
use Rattle.recovery_report.specs.Counts.{is_fault}
use Rattle.recovery_report.specs.Report.{Part, Run, parts_in, report_with}
use Rattle.recovery_engine.specs.Counting.{HasCounted}
use Rattle.recovery_engine.specs.Engine.{Stands, guesses_of, next_of, plan_of}
use Rattle.recovery_engine.specs.Front.{Adds, EndsLast, Kept, TakesFront, kept_by}
use Rattle.recovery_engine.specs.Heard.{AreSound, AreUnread, is_packet}
use Rattle.recovery_engine.specs.HeardLaws.{adds_up}
use Rattle.recovery_engine.specs.Port.{PortStands}
use Rattle.recovery_engine.specs.Slots.{StandFor}
use Rattle.recovery_engine.specs.Taking.{Takes}
use Rattle.recovery_engine.specs.declared.engine.Recovery.{Recovery}
use Rattle.recovery_engine.specs.declared.slot.RecoveringSlot.{RecoveringSlot}
use Rattle.recovery_engine.proofs.Feeding.{report_more, stands_more}
use Rattle.recovery_engine.proofs.Parts.{grown_none, grown_raw, takes_none, takes_then}

-- what sources that were written back took
pub took : {S : Type 0} (gets : S → List (Event (Heard Packet)) → S → Type 0) (more : List Part)
    (old : List RecoveringSlot) {mid new : List RecoveringSlot} {s t : S} → mid ≡ old → length new ≡ length mid →
    Takes gets more (mid, s) (new, t) → Takes gets more (old, s) (refill (length old) old new, t)
took gets more old {mid} {new} {s} {t} e len k =
    subst (λ (l : List RecoveringSlot). Takes gets more (old, s) (l, t)) (sym (refilled old new (len ∙ ap length e)))
    (subst (λ (l : List RecoveringSlot). Takes gets more (l, s) (new, t)) e k)

-- an engine after bytes whose parts its sources took
module _ {S : Type 0} (gets : S → List (Event (Heard Packet)) → S → Type 0) (old : Recovery) (more : List Part)
    {s t : S} {slots : List RecoveringSlot} (takes : Takes gets more (old.slots.items, s) (slots, t))
    (u v : List Placed) (k : Stands old u) where
  pub stands_after : (new : Recovery) → new.plan ≡ old.plan → new.guesses ≡ old.guesses → new.slots.items ≡ slots →
      Adds old (kept_by new) more u v → Stands new v
  stands_after new plan guesses same a = record {
    port = subst (λ (p : Plan). PortStands p.frames new.port v) (sym plan) a.port_is;
    sources =
        subst (λ (p : Plan). StandFor new.guesses p (parts_in (recovered p.frames v)) new.slots.items) (sym plan)
        (subst (λ (b : Bool). StandFor b old.plan (parts_in (recovered old.plan.frames v)) new.slots.items)
        (sym guesses) (subst (λ (l : List RecoveringSlot). StandFor old.guesses old.plan (parts_in (recovered old.plan.frames v)) l)
        (sym same) (stands_more gets old.guesses old.plan u v more (old.slots.items, s) (slots, t) a.parts takes
        k.sources)));
    counted = subst (λ (p : Plan). p.frames ≢ Bare → HasCounted new.totals (recovered p.frames v)) (sym plan) a.counted;
    count = a.count_is;
    next = a.next_is;
    rising = a.rising;
  }

  pub report_after : (now : Kept) → Adds old now more u v →
      report_with old.guesses old.plan v ≡ report_with old.guesses old.plan u ++ takes.0
  report_after now a =
      report_more gets old.guesses old.plan u v more (old.slots.items, s) (slots, t) a.parts takes k.sources now.next
      a.rising

-- the whole frame that a piece begins with, which the port passed over, and whose runs the sources took
pub fronted : {S : Type 0} (gets : S → List (Event (Heard Packet)) → S → Type 0) (left : S → ℕ) (frame : PlacedFrame)
    (at n : ℕ) (piece : List ℕ) (old new : Recovery) {s t : S} → frame.at ≡ at → n ≡ 16 + 2 * frame.halves →
    16 + 2 * frame.halves ≤ length piece → IsGathered frame.at (take (16 + 2 * frame.halves) piece) frame →
    plan_of new ≡ plan_of old → guesses_of new ≡ guesses_of old → next_of new ≡ frame.at + (16 + 2 * frame.halves) →
    (let more : List Part = map Run (runs_of (cells frame.bytes (frame_places frame) (ports.id_of old.port))) in
    ((u : List Placed) (w : List ℕ) → Stands old u → IsGathered frame.at w frame →
    Adds old (kept_by new) more u (u ++ placed_from frame.at w)) →
    ((u : List Placed) (w : List ℕ) → Stands old u → IsGathered frame.at w frame →
    EndsLast (plan_of old).frames u frame.at w) →
    Takes gets more (old.slots.items, s) (new.slots.items, t) → left s ≤ left t + 30 →
    TakesFront gets left at piece n (old, s) (new, t))
fronted gets left frame at n piece old new here size room q plan guesses next adds late takes space =
    let more : List Part = map Run (runs_of (cells frame.bytes (frame_places frame) (ports.id_of old.port))) in
    let w = take n piece in
    let is : IsGathered frame.at w frame = subst (λ (m : ℕ). IsGathered frame.at (take m piece) frame) (sym size) q in
    let now : (u : List Placed) → Stands old u → Adds old (kept_by new) more u (u ++ placed_from at w) =
    λ u k. subst (λ (a : ℕ). Adds old (kept_by new) more u (u ++ placed_from a w)) here (adds u w k is) in
    record {
      bytes = (omega (arith, size), omega (arith, size, room));
      plan = plan;
      guesses = guesses;
      next = next ∙ ap (λ (k : ℕ). frame.at + k) (sym size) ∙ ap (λ (k : ℕ). k + n) here;
      list = λ u k. stands_after gets old more takes u (u ++ placed_from at w) k new plan guesses refl (now u k);
      given = (
        takes.0,
        takes.1,
        λ u k. report_after gets old more takes u (u ++ placed_from at w) k (kept_by new) (now u k),
      );
      late = λ m u k. subst (λ (a : ℕ). EndsLast (plan_of old).frames u a w) here (late u w k is);
      room = omega (arith, space, size);
    }

-- what a source that is not mapped sends is no packet and no fault
unread_more : (es fs : List (Event (Heard Packet))) → AreUnread es → AreUnread fs → AreUnread (es ++ fs)
unread_more es fs h k counts = adds_up.more (counts, tt) (counts, tt) (counts, tt) es fs (h counts) (k counts)

none_unread : AreUnread []
none_unread counts = adds_up.none (counts, tt)

sound_more : (es fs : List (Event (Heard Packet))) → AreSound es → AreSound fs → AreSound (es ++ fs)
sound_more [] fs h k = k
sound_more (e ∷ es) fs h k = (h.0, sound_more es fs h.1 k)

one_unread : (e : Event (Heard Packet)) → is_packet e.what ≡ false → is_fault e.what ≡ false → AreUnread (e ∷ [])
one_unread e p f counts before h = record {
  packets = λ id l.
      let own : Event (Heard Packet) → Bool = λ d. is_of (Some id) d.source && is_packet d.what in
      let a = sum_by_push (λ (d : Event (Heard Packet)). cond (own d) 1 0) before e in
      let none : own e ≡ false = and_right (is_of (Some id) e.source) (is_packet e.what) p in
      let b = ap {B = ℕ} (λ (t : Bool). cond t 1 0) none in h.packets id l ∙ (omega (arith, a, b));
  faults =
      h.faults
      ∙ (let a = sum_by_push (λ (d : Event (Heard Packet)). cond (is_fault d.what) 1 0) before e in
      let b = ap {B = ℕ} (λ (t : Bool). cond t 1 0) f in omega (arith, a, b));
}

triggers_unread : (x : ℕ) (run : List Cell) → AreUnread (told (Some x) (triggers run))
triggers_unread x [] = none_unread
triggers_unread x (c ∷ run) =
    unread_more (told (Some x) (triggers (c ∷ []))) (told (Some x) (triggers run)) (one_unread _ refl refl)
    (triggers_unread x run)

raw_unread : (x : ℕ) (run : List Cell) → AreUnread (told (Some x) (raw_events x run))
raw_unread x run = by (x == 0) (x == 125) where
  by : (s t : Bool) → AreUnread (told (Some x) (cond s [] (cond t (triggers run)
      ((Raw (bytes_of run), record { at = last_at run; half = 0 }) ∷ []))))
  by true t = none_unread
  by false true = triggers_unread x run
  by false false = one_unread _ refl refl

triggers_sound : (x : ℕ) (run : List Cell) → AreSound (told (Some x) (triggers run))
triggers_sound x [] = tt
triggers_sound x (c ∷ run) = (refl, triggers_sound x run)

raw_sound : (x : ℕ) (run : List Cell) → AreSound (told (Some x) (raw_events x run))
raw_sound x run = by (x == 0) (x == 125) where
  by : (s t : Bool) → AreSound (told (Some x) (cond s [] (cond t (triggers run)
      ((Raw (bytes_of run), record { at = last_at run; half = 0 }) ∷ []))))
  by true t = tt
  by false true = triggers_sound x run
  by false false = (refl, tt)

abbrev pub unread : Unit {0} → List (Event (Heard Packet)) → Unit {0} → Type 0
unread s es t = AreUnread es × AreSound es

one_run : (run : List Cell) (o : Option ℕ) → id_of run ≡ o → Takes unread (Run run ∷ []) ([], tt) ([], tt)
one_run run None e = ([], (none_unread, tt), λ guesses plan parts k. grown_none guesses plan parts run [] e k)
one_run run (Some x) e = (
  told (Some x) (raw_events x run),
  (raw_unread x run, raw_sound x run),
  λ guesses plan parts k. grown_raw guesses plan parts run x [] e refl k,
)

-- where no source is mapped each run of a frame is such
pub all_unread : (runs : List (List Cell)) → Takes unread (map Run runs) ([], tt) ([], tt)
all_unread [] = takes_none unread (λ s. (none_unread, tt)) ([], tt)
all_unread (run ∷ runs) =
    takes_then unread (λ a b c es fs h k. (unread_more es fs h.0 k.0, sound_more es fs h.1 k.1)) ([], tt) ([], tt) ([], tt)
    (Run run ∷ []) (map Run runs) (one_run run (id_of run) refl) (all_unread runs)
