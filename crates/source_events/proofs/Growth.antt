-- Further bytes mend no fault of a capture, and take nothing of its report back.
use Rattle.std.proofs.Common.{◌≡◌, ℕ, ◌+◌, ◌≤◌, List, [], ◌∷◌, ◌++◌, length, refl, sym, ◌∙◌, ap, subst}
use Rattle.std.proofs.Common.{append_assoc, append-nil, ◌⊎◌, inl, inr, arith, Option, None, Some, Bool, true, false}
use Rattle.std.proofs.Common.{cond}
use Rattle.std.specs.Prelude.{is_none}
use Rattle.std.proofs.lemmas.List.{map-append}
use Rattle.std.proofs.lemmas.Grind.{flat_map-append}
use Rattle.trace_values.specs.declared.cell.Cell.{Cell}
use Rattle.trace_values.specs.declared.fault.Reason.{Reason}
use Rattle.trace_values.specs.Placed.{Place, Placed, placed_from, byte_at}
use Rattle.trace_values.specs.Stream.{FaultAt}
use Rattle.trace_values.specs.declared.reading_modes.FramesMode.{FramesMode}
use Rattle.trace_values.specs.declared.reading_modes.FramesMode.TheVariants.{Hunt, Aligned, Bare}
use Rattle.frame_grammar.specs.Port.{PortItem}
use Rattle.frame_grammar.specs.Reading.{offsets_of}
use Rattle.deformatter.specs.Reading.{PortStream, port_stream}
use Rattle.deformatter.proofs.Readings.{hunt_is, by_mode, seeks_old}
use Rattle.deformatter.proofs.ReadingLaws.{settles as port_settles, rises as port_rises}
use Rattle.deformatter.specs.PortReading.{PortReading, framed, port_reading}
use Rattle.deformatter.specs.Rising.{Rise, BytesRise}
use Rattle.deformatter.proofs.PortReadingLaws as port
use Rattle.deformatter.proofs.RisingLaws.{rise_join, placed_rise}
use Rattle.source_events.specs.declared.event.Event.{Event}
use Rattle.source_events.specs.declared.event.What.{What}
use Rattle.source_events.specs.Runs.{id_of, runs_of, all_runs, IsRunFrom, end_of}
use Rattle.source_events.specs.Merge.{told, start_of, AllIn, merged_from, of_sources, cut, InOrder, Below}
use Rattle.source_events.specs.Report.{Mapped, AreLawful, events, lesser, is_less, of_source, least_fault, all_events}
use Rattle.source_events.specs.Report.{lock_at, port_events, runs_in, stop_in, capture_events, report}
use Rattle.source_events.proofs.Merges.{cut_append, cut_below, below_told, below_weaker}
use Rattle.source_events.proofs.Running.{end_within, rises_weaker}
use Rattle.source_events.proofs.Placing.{RunsBetween, between_order}
use Rattle.source_events.proofs.Locking.{first_end, port_first, runs_first}
use Rattle.source_events.proofs.LockSteps.{unlocked, locked, same_notice}
use Rattle.source_events.proofs.Least.{Full, Later, later_weaker, later_of, later_both, second_wins, others_later}
use Rattle.source_events.proofs.Settling.{all_sound, least_stays, least_below, cut_stays, cut_grows}

-- where the report has no fault, the port has none
pub no_stop : {V : Type 0} → (ss : List (Mapped V)) (r : PortReading) → stop_in ss r ≡ None → r.fault ≡ None
no_stop ss r e = by r.fault refl where
  some : (f : Full) (o : Option Full) → lesser (Some f) o ≡ None → ⊥
  some f None h = cc
  some f (Some g) h = two (is_less g.0 f.0) h where
    two : (t : Bool) → cond t (Some g) (Some f) ≡ None → ⊥
    two true k = cc
    two false k = cc

  by : (o : Option (Place × Reason)) → r.fault ≡ o → r.fault ≡ None
  by None k = k
  by (Some f) k =
      absurd (some (f.0, (f.1, None)) (least_fault ss (runs_in r))
      (sym (ap (λ (o : Option (Place × Reason)). lesser (of_source None o) (least_fault ss (runs_in r))) k) ∙ e))

-- runs that follow others
pub record Split (lo hi : ℕ) (runs more : List (List Cell)) : Type 0 where
  pub at : ℕ
  pub from : lo ≤ at
  pub front : RunsBetween lo at runs
  pub back : RunsBetween at hi more
  pub least : (k : ℕ) → RunsBetween lo k runs → at ≤ k

pub split_at : (runs more : List (List Cell)) (lo hi : ℕ) → RunsBetween lo hi (runs ++ more) → Split lo hi runs more
split_at [] more lo hi b = record {
  at = lo;
  from = (let z : lo ≤ lo = omega arith in z);
  front = (let z : lo ≤ lo = omega arith in z);
  back = b;
  least = λ k h. h;
}
split_at (run ∷ runs) more lo hi b =
    let s = split_at runs more (end_of run) hi b.1 in record {
      at = s.at;
      from = (let i = end_within lo run b.0 in let j = s.from in omega arith);
      front = (b.0, s.front);
      back = s.back;
      least = λ k h. s.least k h.1;
    }

pub between_weaker : (runs : List (List Cell)) (n m k : ℕ) → m ≤ n → RunsBetween n k runs → RunsBetween m k runs
between_weaker [] n m k l b = (let a : n ≤ k = b in let z : m ≤ k = omega arith in z)
between_weaker ([] ∷ runs) n m k l b = absurd b.0
between_weaker ((c ∷ run) ∷ runs) n m k l b = ((rises_weaker n m (c ∷ run) l b.0), b.1)

-- the port's fault is after the bytes that have none
port_later : (mode : FramesMode) (ys : List ℕ) (u : List Placed) (at : ℕ) → (port_reading mode u).fault ≡ None →
    Later at (port_reading mode (u ++ placed_from at ys)).fault
port_later mode [] u at e =
    subst (λ (o : Option (Place × Reason)). Later at o)
    (sym (ap (λ (l : List Placed). (port_reading mode l).fault) (append-nil u) ∙ e)) tt
port_later mode (y ∷ ys) u at e =
    subst (λ (l : List Placed). Later at (port_reading mode l).fault)
    (append_assoc u (byte_at at y ∷ []) (placed_from (at + 1) ys))
    (by (port_reading mode (u ++ byte_at at y ∷ [])).fault refl
    (subst (λ (o : Option (Place × Reason)). FaultAt at o (port_reading mode (u ++ byte_at at y ∷ [])).fault) e (port.rises mode u at y).fault)
    (λ k. port_later mode ys (u ++ byte_at at y ∷ []) (at + 1) k)) where
      by : (o : Option (Place × Reason)) → (port_reading mode (u ++ byte_at at y ∷ [])).fault ≡ o → FaultAt at None o →
          ((port_reading mode (u ++ byte_at at y ∷ [])).fault ≡ None → Later (at + 1) (port_reading mode ((u ++ byte_at at y ∷ []) ++ placed_from (at + 1) ys)).fault) →
          Later at (port_reading mode ((u ++ byte_at at y ∷ []) ++ placed_from (at + 1) ys)).fault
      by None k h more = later_weaker (at + 1) at _ (omega arith) (more k)
      by (Some f) k h more =
          let s = (port.settles mode (u ++ byte_at at y ∷ []) (placed_from (at + 1) ys) (ap (λ (o : Option (Place × Reason)). is_none o) k)).fault in
          subst (λ (o : Option (Place × Reason)). Later at o) (sym (s ∙ k)) (let i = h in omega arith)

-- after its lock a port skips no more bytes, and its first item stays
record StaysLocked (old new : PortStream) : Type 0 where
  locked : new.locked ≡ true
  skipped : new.skipped ≡ old.skipped
  more : List (PortItem × Place)
  items : new.items ≡ old.items ++ more

one_locked : (u : List Placed) (at byte : ℕ) → (port_stream true u).locked ≡ true →
    StaysLocked (port_stream true u) (port_stream true (u ++ byte_at at byte ∷ []))
one_locked u at byte e = elim (by_mode true u) [
  | inl r ↦
      (let new = r.new (byte_at at byte) in
      let rise = port_rises true u at byte in
      record {
        locked = ap (λ (s : PortStream). s.locked) new;
        skipped = ap (λ (s : PortStream). s.skipped) new ∙ sym (ap (λ (s : PortStream). s.skipped) r.old);
        more = rise.more;
        items = rise.items;
      })
  | inr m ↦ absurd (let k = ap (λ (s : PortStream). s.locked) (seeks_old u m.1) in let h = e in cc)
]

stays_locked : (ys : List ℕ) (u : List Placed) (at : ℕ) → (port_stream true u).locked ≡ true →
    StaysLocked (port_stream true u) (port_stream true (u ++ placed_from at ys))
stays_locked [] u at e =
    subst (λ (l : List Placed). StaysLocked (port_stream true u) (port_stream true l)) (sym (append-nil u))
    (record { locked = e; skipped = refl; more = []; items = sym (append-nil (port_stream true u).items) })
stays_locked (y ∷ ys) u at e =
    let one = one_locked u at y e in
    let rest = stays_locked ys (u ++ byte_at at y ∷ []) (at + 1) one.locked in
    subst (λ (l : List Placed). StaysLocked (port_stream true u) (port_stream true l))
    (append_assoc u (byte_at at y ∷ []) (placed_from (at + 1) ys))
    (record {
      locked = rest.locked;
      skipped = rest.skipped ∙ one.skipped;
      more = one.more ++ rest.more;
      items =
          rest.items ∙ ap (λ (l : List (PortItem × Place)). l ++ rest.more) one.items
          ∙ append_assoc (port_stream true u).items one.more rest.more;
    })

-- before it there are no frames
no_runs : (u : List Placed) → (port_stream true u).locked ≡ false → runs_in (port_reading Hunt u) ≡ []
no_runs u e = elim (hunt_is u) [
  | inl m ↦ ap (λ (s : PortStream). runs_in (framed s)) m.1
  | inr (before, behind, parts, first, is) ↦ absurd (let k = ap (λ (s : PortStream). s.locked) is in let h = e in cc)
]

-- what the port gives stays, or nothing is there yet
notices : {V : Type 0} (mode : FramesMode) (u : List Placed) (at : ℕ) (ys : List ℕ) →
    (port_events {V = V} mode (u ++ placed_from at ys) ≡ port_events mode u)
    ⊎ ((port_events {V = V} mode u ≡ []) × (runs_in (port_reading mode u) ≡ []))
notices Aligned u at ys = inl refl
notices Bare u at ys = inl refl
notices {V} Hunt u at ys = by (port_stream true u).locked refl where
  by : (b : Bool) → (port_stream true u).locked ≡ b →
      (port_events {V = V} Hunt (u ++ placed_from at ys) ≡ port_events Hunt u)
      ⊎ ((port_events {V = V} Hunt u ≡ []) × (runs_in (port_reading Hunt u) ≡ []))
  by true e =
      let s = stays_locked ys u at e in
      inl (same_notice (port_stream true u).items s.more (port_stream true (u ++ placed_from at ys)).items
      (port_stream true (u ++ placed_from at ys)).skipped (port_stream true u).skipped (locked u e) s.items s.skipped)
  by false e =
      inr (ap (λ (i : List (PortItem × Place)). lock_at {V = V} (port_stream true u).skipped i) (unlocked u e), no_runs u e)

settled_notices : {V : Type 0} (mode : FramesMode) (u w : List Placed) → is_none (port_reading mode u).fault ≡ false →
    port_events {V = V} mode (u ++ w) ≡ port_events mode u
settled_notices Aligned u w e = refl
settled_notices Bare u w e = refl
settled_notices {V} Hunt u w e =
    let s = port_settles true u w e in
    ap (λ (i : List (PortItem × Place)). lock_at {V = V} (port_stream true (u ++ w)).skipped i) s.items
    ∙ ap (λ (n : ℕ). lock_at {V = V} n (port_stream true u).items) s.skipped

rise_weaker : (xs : List ℕ) (lo low hi : ℕ) → low ≤ lo → Rise lo hi xs → Rise low hi xs
rise_weaker [] lo low hi l r = (let k : lo ≤ hi = r in let z : low ≤ hi = omega arith in z)
rise_weaker (x ∷ xs) lo low hi l r = ((let k = r.0 in omega arith), r.1)

-- the bytes u, and then these from an offset on
abbrev pub and_then : List Placed → ℕ → List ℕ → List Placed
and_then u at ys = u ++ placed_from at ys

both_rise : (u : List Placed) (n at : ℕ) (ys : List ℕ) → BytesRise 0 n u → n ≤ at → BytesRise 0 (at + length ys) (and_then u at ys)
both_rise u n at ys rise low =
    subst (λ (l : List ℕ). Rise 0 (at + length ys) l) (sym (map-append (λ (p : Placed). p.place.at) u (placed_from at ys)))
    (rise_join (offsets_of u) (offsets_of (placed_from at ys)) 0 n (at + length ys) rise
    (rise_weaker (offsets_of (placed_from at ys)) at n (at + length ys) low (placed_rise ys at)))

-- the frames that further bytes add
abbrev tail_of : FramesMode → List Placed → ℕ → List ℕ → List (List Cell)
tail_of mode u at ys = all_runs (port.frames_grow mode u at ys).0

runs_more : (mode : FramesMode) (u : List Placed) (at : ℕ) (ys : List ℕ) →
    runs_in (port_reading mode (and_then u at ys)) ≡ runs_in (port_reading mode u) ++ tail_of mode u at ys
runs_more mode u at ys =
    ap all_runs (port.frames_grow mode u at ys).1
    ∙ flat_map-append (λ (frame : List Cell). runs_of frame) (port_reading mode u).frames (port.frames_grow mode u at ys).0

-- What further bytes add, where the port's notice stays: runs after those before, and after the notice.
record Follows (V : Type 0) (mode : FramesMode) (u : List Placed) (at : ℕ) (ys : List ℕ) : Type 0 where
  end : ℕ
  after : first_end 0 (port_events {V = V} mode u) ≤ end
  first : AllIn (start_of 0) (first_end 0 (port_events {V = V} mode u)) (port_events {V = V} mode u)
  front : RunsBetween 0 end (runs_in (port_reading mode u))
  order : InOrder IsRunFrom end_of end (tail_of mode u at ys)
  below : end ≤ at

follows : (V : Type 0) (mode : FramesMode) (u : List Placed) (n at : ℕ) (ys : List ℕ) → BytesRise 0 n u → n ≤ at →
    port_events {V = V} mode (and_then u at ys) ≡ port_events mode u → Follows V mode u at ys
follows V mode u n at ys rise low same =
    let all = both_rise u n at ys rise low in
    let start = first_end 0 (port_events {V = V} mode u) in
    let here = runs_first V mode u 0 n rise in
    let both = subst (λ (k : ℕ). RunsBetween k (at + length ys) (runs_in (port_reading mode (and_then u at ys))))
    (ap (λ (g : List (What V × Place)). first_end 0 g) same) (runs_first V mode (and_then u at ys) 0 (at + length ys) all) in
    let s = split_at (runs_in (port_reading mode u)) (tail_of mode u at ys) start (at + length ys)
    (subst (λ (l : List (List Cell)). RunsBetween start (at + length ys) l) (runs_more mode u at ys) both) in
    record {
      end = s.at;
      after = s.from;
      first = (port_first V mode u 0 n rise).first;
      front = between_weaker (runs_in (port_reading mode u)) start 0 s.at (let z : 0 ≤ start = omega arith in z) s.front;
      order = between_order (tail_of mode u at ys) s.at (at + length ys) s.back;
      below = (let k = s.least n here in omega arith);
    }

cut_both : {V F : Type 0} (o : Option (Place × F)) (xs ys : List (Event V)) → cut o (xs ++ ys) ≡ cut o xs ++ cut o ys
cut_both None xs ys = refl
cut_both (Some f) xs ys = cut_append f xs ys

cut_early : {V F : Type 0} (o : Option (Place × F)) (xs : List (Event V)) (n : ℕ) → Later n o → Below n xs → cut o xs ≡ xs
cut_early None xs n l b = refl
cut_early (Some f) xs n l b = cut_below f xs (below_weaker n f.0.at xs l b)

pub sound_first : {V : Type 0} (ss : List (Mapped V)) → AreLawful ss → least_fault ss [] ≡ None
sound_first [] law = refl
sound_first (s ∷ ss) law =
    ap (λ (o : Option (Place × Reason)). lesser (of_source (Some s.id) o) (least_fault ss [])) law.0.sound
    ∙ sound_first ss law.1

module _ {V : Type 0} (ss : List (Mapped V)) (law : AreLawful ss) (mode : FramesMode) (u : List Placed) (n at : ℕ)
    (rise : BytesRise 0 n u) (low : n ≤ at) (ys : List ℕ) where
  port_least : (port_reading mode u).fault ≡ None → least_fault ss (runs_in (port_reading mode u)) ≡ stop_in ss (port_reading mode u)
  port_least e = sym (ap (λ (o : Option (Place × Reason)). lesser (of_source None o) (least_fault ss (runs_in (port_reading mode u)))) e)

  settled_stays : (f : Full) → stop_in ss (port_reading mode u) ≡ Some f → is_none (port_reading mode u).fault ≡ false →
      (stop_in ss (port_reading mode (and_then u at ys)) ≡ Some f) × (report ss mode (and_then u at ys) ≡ report ss mode u)
  settled_stays f e h =
      let w = placed_from at ys in
      let s = port.settles mode u w h in
      let stop : stop_in ss (port_reading mode (and_then u at ys)) ≡ stop_in ss (port_reading mode u) =
      ap (λ (o : Option (Place × Reason)). lesser (of_source None o) (least_fault ss (runs_in (port_reading mode (and_then u at ys))))) s.fault
      ∙ ap (λ (l : List (List Cell)). lesser (of_source None (port_reading mode u).fault) (least_fault ss (all_runs l))) s.frames in (
        stop ∙ e,
        ap (λ (o : Option Full). cut o (capture_events ss mode (and_then u at ys))) stop
            ∙ ap (λ (g : List (What V × Place)). cut (stop_in ss (port_reading mode u)) (told None g ++ all_events ss (runs_in (port_reading mode (and_then u at ys)))))
            (settled_notices mode u w h)
            ∙ ap (λ (l : List (List Cell)). cut (stop_in ss (port_reading mode u)) (told None (port_events mode u) ++ all_events ss (all_runs l))) s.frames,
      )

  module _ (none : (port_reading mode u).fault ≡ None) (same : port_events {V = V} mode (and_then u at ys) ≡ port_events mode u) where
    port_after : Later (follows V mode u n at ys rise low same).end (port_reading mode (and_then u at ys)).fault
    port_after = later_weaker at (follows V mode u n at ys rise low same).end _ (follows V mode u n at ys rise low same).below (port_later mode ys u at none)

    source_stays : (f : Full) → least_fault ss (runs_in (port_reading mode u)) ≡ Some f →
        (stop_in ss (port_reading mode (and_then u at ys)) ≡ Some f) × (report ss mode (and_then u at ys) ≡ report ss mode u)
    source_stays f e =
        let k = follows V mode u n at ys rise low same in
        let runs = runs_in (port_reading mode u) in
        let tail = tail_of mode u at ys in
        let below = least_below runs tail k.end k.front k.order ss law f e in
        let stop : stop_in ss (port_reading mode (and_then u at ys)) ≡ Some f =
        ap (λ (l : List (List Cell)). lesser (of_source None (port_reading mode (and_then u at ys)).fault) (least_fault ss l)) (runs_more mode u at ys)
        ∙ ap (λ (o : Option Full). lesser (of_source None (port_reading mode (and_then u at ys)).fault) o) (least_stays runs tail k.end k.front k.order ss law f e)
        ∙ second_wins f (of_source None (port_reading mode (and_then u at ys)).fault)
        (later_weaker k.end (f.0.at + 1) _ (omega arith) (later_of k.end None (port_reading mode (and_then u at ys)).fault port_after)) in (
          stop,
          ap (λ (o : Option Full). cut o (capture_events ss mode (and_then u at ys))) stop
              ∙ ap (λ (g : List (What V × Place)). cut (Some f) (told None g ++ all_events ss (runs_in (port_reading mode (and_then u at ys))))) same
              ∙ cut_append f (told None (port_events mode u)) (all_events ss (runs_in (port_reading mode (and_then u at ys))))
              ∙ ap (λ (l : List (List Cell)). cut (Some f) (told None (port_events mode u)) ++ cut (Some f) (all_events ss l)) (runs_more mode u at ys)
              ∙ ap (λ (l : List (Event V)). cut (Some f) (told None (port_events mode u)) ++ l) (cut_stays runs tail k.end k.front k.order ss law f below)
              ∙ sym (cut_append f (told None (port_events mode u)) (all_events ss runs))
              ∙ ap (λ (o : Option Full). cut o (capture_events ss mode u)) (sym e ∙ port_least none),
        )

    same_grows : least_fault ss (runs_in (port_reading mode u)) ≡ None →
        (given : List (Event V)) × (report ss mode (and_then u at ys) ≡ report ss mode u ++ given)
    same_grows e =
        let k = follows V mode u n at ys rise low same in
        let runs = runs_in (port_reading mode u) in
        let tail = tail_of mode u at ys in
        let all : Later k.end (least_fault ss (runs ++ tail)) =
        others_later ss runs tail k.end law (all_sound runs tail k.end k.front k.order ss e) k.order in
        let stop = stop_in ss (port_reading mode (and_then u at ys)) in
        let late : Later k.end stop =
        later_both k.end (of_source None (port_reading mode (and_then u at ys)).fault) (least_fault ss (runs_in (port_reading mode (and_then u at ys))))
        (later_of k.end None (port_reading mode (and_then u at ys)).fault port_after)
        (subst (λ (l : List (List Cell)). Later k.end (least_fault ss l)) (sym (runs_more mode u at ys)) all) in
        let front = told {V = V} None (port_events mode u) in
        let given = cut stop (merged_from id_of (of_sources (events ss)) runs tail) in (
          given,
          ap (λ (g : List (What V × Place)). cut stop (told None g ++ all_events ss (runs_in (port_reading mode (and_then u at ys))))) same
              ∙ cut_both stop front (all_events ss (runs_in (port_reading mode (and_then u at ys))))
              ∙ ap (λ (l : List (Event V)). l ++ cut stop (all_events ss (runs_in (port_reading mode (and_then u at ys)))))
              (cut_early stop front k.end late (below_told None (first_end 0 (port_events {V = V} mode u)) k.end (start_of 0) (port_events mode u) k.first k.after))
              ∙ ap (λ (l : List (List Cell)). front ++ cut stop (all_events ss l)) (runs_more mode u at ys)
              ∙ ap (λ (l : List (Event V)). front ++ l) (cut_grows runs tail k.end k.front k.order ss law stop late)
              ∙ sym (append_assoc front (all_events ss runs) given)
              ∙ ap (λ (o : Option Full). cut o (capture_events ss mode u) ++ given) (sym e ∙ port_least none),
        )

  -- a fault of the report stays, and so does the report
  pub stays : (f : Full) → stop_in ss (port_reading mode u) ≡ Some f →
      (stop_in ss (port_reading mode (and_then u at ys)) ≡ Some f) × (report ss mode (and_then u at ys) ≡ report ss mode u)
  stays f e = by (port_reading mode u).fault refl where
    by : (o : Option (Place × Reason)) → (port_reading mode u).fault ≡ o →
        (stop_in ss (port_reading mode (and_then u at ys)) ≡ Some f) × (report ss mode (and_then u at ys) ≡ report ss mode u)
    by (Some g) k = settled_stays f e (ap (λ (o : Option (Place × Reason)). is_none o) k)
    by None k = elim (notices {V = V} mode u at ys) [
      | inl same ↦ source_stays k same f (port_least k ∙ e)
      | inr none ↦
          absurd (let z : None ≡ Some f =
          sym (sound_first ss law) ∙ ap (λ (l : List (List Cell)). least_fault ss l) (sym none.1) ∙ port_least k ∙ e in cc)
    ]

  -- and a report without one grows
  pub grows : stop_in ss (port_reading mode u) ≡ None →
      (given : List (Event V)) × (report ss mode (and_then u at ys) ≡ report ss mode u ++ given)
  grows e =
      let k = no_stop ss (port_reading mode u) e in
      elim (notices {V = V} mode u at ys) [
        | inl same ↦ same_grows k same (port_least k ∙ e)
        | inr none ↦ (
          report ss mode (and_then u at ys),
          ap (λ (l : List (Event V)). l ++ report ss mode (and_then u at ys))
              (sym (ap (λ (o : Option Full). cut o (capture_events ss mode u)) e
              ∙ ap (λ (g : List (What V × Place)). told None g ++ all_events ss (runs_in (port_reading mode u))) none.0
              ∙ ap (λ (l : List (List Cell)). all_events ss l) none.1)),
        )
      ]
