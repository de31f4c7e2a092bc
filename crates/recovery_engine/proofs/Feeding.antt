-- More bytes of the port.
use Rattle.std.proofs.Common.{◌≡◌, ℕ, ◌+◌, List, [], ◌∷◌, ◌++◌, refl, sym, ◌∙◌, ap, subst}
use Rattle.std.proofs.Common.{append-nil, append_assoc, arith, length, map, take, Bool, Some, ◌<◌, ◌≤◌}
use Rattle.std.proofs.lemmas.Grind.{flat_map-append}
use Rattle.std.proofs.lemmas.List.{length-take-le, map-append, take-take}
use Rattle.trace_values.specs.declared.cell.Cell.{Cell}
use Rattle.trace_values.specs.Placed.{Placed, placed_from}
use Rattle.trace_values.specs.declared.reading_modes.FramesMode.{FramesMode}
use Rattle.trace_values.specs.declared.reading_modes.FramesMode.TheVariants.{Bare}
use Rattle.deformatter.specs.declared.step.PortStep.{PortStep}
use Rattle.deformatter.specs.declared.step.PortStep.TheVariants.{Quiet, Half, Full as FullEnds, Frame, Locked}
use Rattle.deformatter.specs.declared.step.PortStep.TheVariants.{Fault as Faulty}
use Rattle.deformatter.specs.Modes.{hunts}
use Rattle.deformatter.specs.PortReading.{bare_cell}
use Rattle.frame_grammar.specs.Reading.{offsets_of}
use Rattle.deformatter.specs.Rising.{BytesRise, end_at}
use Rattle.source_events.specs.declared.event.Event.{Event}
use Rattle.source_events.specs.declared.packet.Packet.{Packet}
use Rattle.source_events.specs.declared.plan.Plan.{Plan}
use Rattle.source_events.specs.Runs.{all_runs, runs_of}
use Rattle.frame_runs.specs.Piece.{cells_from}
use Rattle.recovery_engine.proofs.Rising.{end_block, rise_block, rise_to}
use Rattle.stretch_readings.specs.declared.heard.Heard.{Heard}
use Rattle.stretch_readings.proofs.StretchLaws.{from_append}
use Rattle.stretch_readings.specs.Stretches.{One, fed, fed_from, before}
use Rattle.recovering_machines.specs.Port.{items_by, from_halfword, raised}
use Rattle.recovery_report.specs.Port.{port_stretches, recovered}
use Rattle.recovery_report.specs.Report.{Part, Run, Locks, parts_in, report_from, report_with}
use Rattle.recovery_report.specs.Words.{AreOf, parts_by, singles}
use Rattle.recovery_report.specs.Placing.{PartsBetween}
use Rattle.recovery_report.proofs.Parting.{parts_placed}
use Rattle.recovery_engine.specs.Engine.{Stands, guesses_of, plan_of}
use Rattle.recovery_engine.specs.Front.{EndsLast, TakesFront}
use Rattle.recovery_engine.specs.Slots.{StandFor}
use Rattle.recovery_engine.specs.Taking.{Takes}
use Rattle.recovery_engine.specs.declared.engine.Recovery.{Recovery}
use Rattle.recovery_engine.specs.declared.slot.RecoveringSlot.{RecoveringSlot}

-- the stretches of a port with more bytes
pub port_more : (mode : FramesMode) (u w : List Placed) →
    port_stretches mode (u ++ w) ≡ fed_from items_by from_halfword (port_stretches mode u) (map One w)
port_more mode u w =
    ap (λ l. fed_from items_by from_halfword (before items_by from_halfword (hunts mode)) l) (map-append One u w)
    ∙ from_append items_by from_halfword (map One u) (map One w) (before items_by from_halfword (hunts mode))

pub port_push : (mode : FramesMode) (u : List Placed) (b : Placed) →
    port_stretches mode (u ++ b ∷ []) ≡ fed items_by from_halfword (port_stretches mode u) (One b)
port_push mode u b = port_more mode u (b ∷ [])

-- a step's parts, with its lock's count
pub by_raised : (count at : ℕ) (own : PortStep) (cells : List Cell) →
    parts_by count at own cells ≡ parts_by 0 at (raised count own) cells
by_raised count at Quiet cells = refl
by_raised count at Half cells = refl
by_raised count at FullEnds cells = refl
by_raised count at Frame cells = refl
by_raised count at (Locked n) cells = ap (λ m. Locks m (record { at = at; half = 0 }) ∷ [])
    (let e : count + n ≡ 0 + (count + n) = omega arith in e)
by_raised count at (Faulty f) cells = refl

-- with no formatter
abbrev bare_frames : List Placed → List (List Cell)
bare_frames u = map (λ b. bare_cell b ∷ []) u

bare_parts_are : (u : List Placed) → parts_in (recovered Bare u) ≡ map Run (all_runs (bare_frames u))
bare_parts_are u = append-nil (map Run (all_runs (bare_frames u)) ++ [])
    ∙ append-nil (map Run (all_runs (bare_frames u)))

pub bare_parts : (u : List Placed) (b : Placed) →
    parts_in (recovered Bare (u ++ b ∷ [])) ≡ parts_in (recovered Bare u) ++ map Run (runs_of (bare_cell b ∷ []))
bare_parts u b =
    bare_parts_are (u ++ b ∷ [])
    ∙ ap (λ l. map Run (all_runs l)) (map-append (λ (x : Placed). bare_cell x ∷ []) u (b ∷ []))
    ∙ ap (map Run) (flat_map-append runs_of (bare_frames u) ((bare_cell b ∷ []) ∷ []))
    ∙ map-append Run (all_runs (bare_frames u)) (runs_of (bare_cell b ∷ []) ++ [])
    ∙ ap (λ l. l ++ map Run (runs_of (bare_cell b ∷ []))) (sym (bare_parts_are u))

-- one cell is one run
one_run : (c : Cell) → runs_of (c ∷ []) ≡ (c ∷ []) ∷ []
one_run c = refl

pub bare_more : (w u : List Placed) →
    parts_in (recovered Bare (u ++ w)) ≡ parts_in (recovered Bare u) ++ singles (map bare_cell w)
bare_more [] u = ap (λ (v : List Placed). parts_in (recovered Bare v)) (append-nil u)
    ∙ sym (append-nil (parts_in (recovered Bare u)))
bare_more (b ∷ w) u =
    ap (λ (v : List Placed). parts_in (recovered Bare v)) (sym (append_assoc u (b ∷ []) w))
    ∙ bare_more w (u ++ b ∷ [])
    ∙ ap (λ l. l ++ singles (map bare_cell w)) (bare_parts u b
    ∙ ap (λ l. parts_in (recovered Bare u) ++ map Run l) (one_run (bare_cell b)))
    ∙ append_assoc (parts_in (recovered Bare u)) (Run (bare_cell b ∷ []) ∷ []) (singles (map bare_cell w))

-- they are all of source 1
pub bare_of : (w : List Placed) → AreOf 1 (map bare_cell w)
bare_of [] = tt
bare_of (b ∷ w) = (refl, bare_of w)

-- the cells of a piece are theirs
pub piece_bare : (at : ℕ) (bytes : List ℕ) → cells_from at bytes ≡ map bare_cell (placed_from at bytes)
piece_bare at [] = refl
piece_bare at (b ∷ bytes) =
    ap (λ (l : List Cell). record { at = at; id = Some 1; run = 0; byte = b } ∷ l) (piece_bare (at + 1) bytes)

-- bytes that come later rise, and the last of them is the last one
pub rises_more : (u : List Placed) (next at n : ℕ) (bytes : List ℕ) → length bytes ≡ n → next ≤ at →
    BytesRise 0 next u → BytesRise 0 (at + n) (u ++ placed_from at bytes)
rises_more u next at n bytes e l rise =
    subst (λ (k : ℕ). BytesRise 0 (at + k) (u ++ placed_from at bytes)) e
    (rise_block u at bytes (rise_to u next at rise l))

pub next_more : (u : List Placed) (at n : ℕ) (bytes : List ℕ) → length bytes ≡ n → 0 < n →
    at + n ≡ end_at 0 (offsets_of (u ++ placed_from at bytes))
next_more u at n bytes e some =
    ap (λ (k : ℕ). at + k) (sym e) ∙ sym (end_block bytes u at (omega (arith, e, some)))

-- what was taken is what the bytes add
module _ {S : Type 0} (gets : S → List (Event (Heard Packet)) → S → Type 0) (guesses : Bool) (plan : Plan)
    (u w : List Placed) (more : List Part) (old new : List RecoveringSlot × S)
    (e : parts_in (recovered plan.frames w) ≡ parts_in (recovered plan.frames u) ++ more) (t : Takes gets more old new)
    (k : StandFor guesses plan (parts_in (recovered plan.frames u)) old.0) where
  pub stands_more : StandFor guesses plan (parts_in (recovered plan.frames w)) new.0
  stands_more = subst (λ l. StandFor guesses plan l new.0) (sym e)
      (t.2 guesses plan (parts_in (recovered plan.frames u)) k).list

  pub report_more : (at : ℕ) → BytesRise 0 at w → report_with guesses plan w ≡ report_with guesses plan u ++ t.0
  report_more at rise =
      ap (λ l. report_from guesses plan [] l) e
      ∙ (t.2 guesses plan (parts_in (recovered plan.frames u)) k).grew at
      (subst (PartsBetween 0 at) e (parts_placed plan.frames w 0 at rise))

-- what was taken of a front of a piece was taken of the piece
pub front_of : {S : Type 0} (gets : S → List (Event (Heard Packet)) → S → Type 0) (left : S → ℕ)
    (at : ℕ) (piece front : List ℕ) (m n : ℕ) (old new : Recovery × S) → m ≤ length piece → front ≡ take m piece →
    TakesFront gets left at front n old new → TakesFront gets left at piece n old new
front_of gets left at piece front m n old new within e t =
    let size : length front ≡ m = ap length e ∙ length-take-le m piece within in
    let few = t.bytes.1 in
    let same : take n front ≡ take n piece =
    ap (take n) e ∙ take-take n m piece (omega (arith, size, few)) in
    record {
      bytes = (t.bytes.0, omega (arith, size, few, within));
      plan = t.plan;
      guesses = t.guesses;
      next = t.next;
      list = λ u k. subst (λ (b : List ℕ). Stands new.0 (u ++ placed_from at b)) same (t.list u k);
      given = (
        t.given.0,
        t.given.1,
        λ u k. subst (λ (b : List ℕ). report_with (guesses_of old.0) (plan_of old.0) (u ++ placed_from at b)
            ≡ report_with (guesses_of old.0) (plan_of old.0) u ++ t.given.0) same (t.given.2 u k),
      );
      late = λ m u k. subst (λ (b : List ℕ). EndsLast (plan_of old.0).frames u at b) same (t.late m u k);
      room = t.room;
    }
