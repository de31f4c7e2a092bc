-- What a hunt reads of realigned bytes follows the capture.
use Rattle.std.proofs.Common.{◌≡◌, ℕ, suc, ◌+◌, ◌-◌, ◌*◌, ◌/◌, ◌<◌, ◌≤◌, List, [], ◌∷◌, ◌++◌, length, length-append}
use Rattle.std.proofs.Common.{take, drop, map, Bool, true, Option, None, Some, refl, sym, ◌∙◌, ap, subst, ◌⊎◌, inl}
use Rattle.std.proofs.Common.{inr, arith, append-nil}
use Rattle.std.specs.List.{AllByRecursion, flat_map}
use Rattle.std.proofs.lemmas.List.{take-append-drop, map-append}
use Rattle.std.proofs.Math.Seq.{take-append-add}
use Rattle.trace_values.specs.declared.cell.Cell.{Cell}
use Rattle.trace_values.specs.Placed.{Placed, placed, placed_from, units_of}
use Rattle.trace_values.specs.Reading.{Reading, IsReading}
use Rattle.trace_values.proofs.Placing.{placed_append}
use Rattle.trace_values.proofs.Readings as readings
use Rattle.trace_values.specs.declared.reading_modes.FramesMode.{FramesMode}
use Rattle.trace_values.specs.declared.reading_modes.FramesMode.TheVariants.{Hunt}
use Rattle.trace_values.specs.Hunt.{IsAfter}
use Rattle.trace_values.specs.Hunted.{pattern_of}
use Rattle.frame_grammar.specs.Port.{PortItem, Full, Spells, why, start, rule}
use Rattle.port_sync.specs.Hunting.{pattern}
use Rattle.deformatter.specs.Reading.{PortStream}
use Rattle.deformatter.proofs.Readings.{hunt_is}
use Rattle.frame_grammar.specs.Reading.{port_reading as reading_of}
use Rattle.frame_grammar.proofs.Deciding.{port_decided}
use Rattle.frame_grammar.proofs.Wholes.{units_from}
use Rattle.deformatter.specs.PortReading.{port_reading, cells_of}
use Rattle.port_slip.specs.Bits.{bits_of}
use Rattle.port_slip.specs.Segments.{Realigned, realigned}
use Rattle.source_events.specs.declared.plan.Plan.{Plan}
use Rattle.source_events.specs.Plan.{sources_by}
use Rattle.source_events.specs.Report.{stop_in}
use Rattle.source_events.proofs.Captures as captures
use Rattle.source_events.proofs.Growth.{no_stop}
use Rattle.source_events.proofs.Lawful.{plan_lawful}
use Rattle.source_events.proofs.Least.{Full as FullFault}
use Rattle.resync_rules.proofs.Syncing.{units_append, units_length}
use Rattle.resync_grammars.specs.Port.{CellsRest, rest_mode}
use Rattle.resync_grammars.proofs.Modes.{cells_rest}
use Rattle.resync_grammars.proofs.Syncing.{port_syncs, begins_only}
use Rattle.resync_laws.specs.Moved.{later_cell, later_run}
use Rattle.resync_laws.specs.Report.{ReportFollows}
use Rattle.resync_laws.proofs.ReportRest.{report_follows}
use Rattle.slip_laws.specs.Slips.{FromFirst, whole_until, IsSlip}
use Rattle.slip_laws.specs.Following.{CameOf, until_end, IsGone, RealignedFollows}
use Rattle.slip_laws.proofs.Slips.{is_slip}

placed_bytes : (at : ℕ) (x : List ℕ) → AllByRecursion (λ b. b < 256) x →
    AllByRecursion (λ (b : Placed). b.unit < 256) (placed_from at x)
placed_bytes at [] a = tt
placed_bytes at (b ∷ x) a = (a.0, placed_bytes (at + 1) x a.1)

cells_later : (c : ℕ) (frames : List (List Cell)) →
    flat_map (λ (f : List Cell). f) (map (λ f. later_run c f) frames) ≡ map (λ x. later_cell c x) (flat_map (λ (f : List Cell). f) frames)
cells_later c [] = refl
cells_later c (f ∷ frames) =
    ap (λ (l : List Cell). later_run c f ++ l) (cells_later c frames) ∙ sym (map-append (λ x. later_cell c x) f (flat_map (λ (f : List Cell). f) frames))

-- a front of a capture without a fault has none
front_sound : (plan : Plan) (mode : FramesMode) (n : ℕ) (x : List ℕ) →
    stop_in (sources_by plan) (port_reading mode (placed x)) ≡ None →
    stop_in (sources_by plan) (port_reading mode (placed (take n x))) ≡ None
front_sound plan mode n x e = by (stop_in (sources_by plan) (port_reading mode (placed (take n x)))) refl where
  by : (o : Option FullFault) → stop_in (sources_by plan) (port_reading mode (placed (take n x))) ≡ o →
      stop_in (sources_by plan) (port_reading mode (placed (take n x))) ≡ None
  by None h = h
  by (Some f) h =
      let s = (captures.stays (sources_by plan) (plan_lawful plan) mode (take n x) (drop n x) f h).0 in
      absurd (let k : Some f ≡ None = sym s ∙ ap (λ (l : List ℕ). stop_in (sources_by plan) (port_reading mode (placed l))) (take-append-drop n x) ∙ e in cc)

-- of two parts and a number that is not within the first
take_past : (x y : List ℕ) (n : ℕ) → length x ≤ n → take n (x ++ y) ≡ x ++ take (n - length x) y
take_past x y n h = let e : n ≡ length x + (n - length x) = omega arith in ap (λ m. take m (x ++ y)) e ∙ take-append-add x y (n - length x)

-- a hunt in bytes that begin with a full synchronisation skips nothing
abbrev AtOnce : List ℕ → Type 0
AtOnce left = ((port_reading Hunt (placed left)).locked ≡ true) × ((port_reading Hunt (placed left)).skipped ≡ 0)

at_once : (left w : List ℕ) → left ≡ 255 ∷ (255 ∷ (255 ∷ (127 ∷ w))) → AtOnce left
at_once left w e =
    let u = placed left in
    let there : IsAfter (pattern_of pattern) (units_of u) [] = (w, units_from 0 left ∙ e) in
    elim (hunt_is u) [
      | inl n ↦ absurd (n.0 [] there)
      | inr h ↦ (
          let k = h.3.least [] there in
          let n = units_length h.0 in
          let none : length h.0 ≡ 0 = omega (arith, k, n) in
          (ap (λ (s : PortStream). s.locked) h.4, ap (λ (s : PortStream). s.skipped) h.4 ∙ none))
    ]

take_four : (k a b c d : ℕ) (w : List ℕ) → 4 ≤ k → take k (a ∷ (b ∷ (c ∷ (d ∷ w)))) ≡ a ∷ (b ∷ (c ∷ (d ∷ take (k - 4) w)))
take_four k a b c d w h = let e : k ≡ suc (suc (suc (suc (k - 4)))) = omega arith in ap (λ n. take n (a ∷ (b ∷ (c ∷ (d ∷ w))))) e

module _ (plan : Plan) (input : List ℕ) (c : CameOf plan input) where
  abbrev u : List Placed
  u = placed c.whole

  abbrev r : Reading PortItem
  r = reading_of u

  reads : IsReading Spells why u r
  reads = readings.reading_is Spells why rule start port_decided u

  sound : r.fault ≡ None
  sound = ap (λ (m : FramesMode). (port_reading m u).fault) (sym c.frames) ∙ no_stop (sources_by plan) (port_reading plan.frames u) c.sound

  slip : IsSlip u r c.lost c.kept
  slip = is_slip u r (placed_bytes 0 c.whole c.bytes) reads sound c.lost c.kept c.over (ap bits_of (units_from 0 c.whole) ∙ c.whole_is)

  -- what is left of a capture without these bytes
  made : (early gone left : List ℕ) → (realigned input).bytes ≡ early ++ left → until_end c ≡ gone ++ left →
      IsGone u r c.lost c.kept gone left →
      (c.any ≡ [] → (early ≡ []) × ((left ≡ []) ⊎ (8 * length gone ≡ length c.lost + (realigned input).skipped))) → (left ≡ []) ⊎ AtOnce left → RealignedFollows plan input c
  made early gone left w p g a o =
      let all : stop_in (sources_by plan) (port_reading plan.frames (placed (gone ++ left))) ≡ None =
      subst (λ (l : List ℕ). stop_in (sources_by plan) (port_reading plan.frames (placed l)) ≡ None) p (front_sound plan plan.frames ((length c.lost + length c.kept) / 8) c.whole c.sound) in
      let f : ReportFollows plan gone left = report_follows plan gone left all in
      let port : (port_reading plan.frames (placed gone ++ placed_from (length gone) left)).fault ≡ None =
      ap (λ (l : List Placed). (port_reading plan.frames l).fault) (sym (placed_append gone left)) ∙ no_stop (sources_by plan) (port_reading plan.frames (placed (gone ++ left))) all in
      let k = cells_rest plan.frames (placed gone) (placed_from (length gone) left) port in
      let whole : cells_of (port_reading plan.frames (placed gone ++ placed_from (length gone) left)) ≡ cells_of (port_reading plan.frames (placed (until_end c))) =
      ap (λ (l : List Placed). cells_of (port_reading plan.frames l)) (sym (placed_append gone left) ∙ ap placed (sym p)) in
      let moved : cells_of (port_reading (rest_mode plan.frames) (placed_from (length gone) left)) ≡ map (λ x. later_cell (length gone) x) (cells_of (port_reading Hunt (placed left))) =
      ap cells_of f.reading ∙ cells_later (length gone) (port_reading (rest_mode plan.frames) (placed left)).frames
      ∙ ap (λ (m : FramesMode). map (λ x. later_cell (length gone) x) (cells_of (port_reading (rest_mode m) (placed left)))) c.frames in
      record {
        early = early;
        gone = gone;
        left = left;
        written = w;
        parts = p;
        first = g;
        alone = a;
        at_once = o;
        cells = subst (λ (l : List Cell). CellsRest l (map (λ x. later_cell (length gone) x) (cells_of (port_reading Hunt (placed left))))) whole
            (subst (λ (l : List Cell). CellsRest (cells_of (port_reading plan.frames (placed gone ++ placed_from (length gone) left))) l) moved k);
        follows = f;
      }

  nothing_before : (early left : List ℕ) → left ≡ early ++ left → early ≡ []
  nothing_before [] left e = refl
  nothing_before (x ∷ early) left e = absurd (let n = ap length e in let m = length-append (x ∷ early) left in omega (arith, n, m))

  from_first : (front : List Placed) → FromFirst u r c.lost c.kept front → RealignedFollows plan input c
  from_first front f =
      let count = (length c.lost + length c.kept) / 8 in
      let rest = f.first.is_full.rest in
      let left = whole_until (length c.lost + length c.kept) (length front) rest in
      let whole : c.whole ≡ units_of front ++ units_of rest = sym (units_from 0 c.whole) ∙ ap units_of f.first.is_full.parts ∙ units_append front rest in
      let n = units_length front in
      let e = f.first.is_full.before_end in
      let s = f.first.is_full.after in
      let l = f.last c.any input c.input_is in
      let parts : until_end c ≡ units_of front ++ left =
      ap (take count) whole ∙ take_past (units_of front) (units_of rest) count (omega (arith, n, e)) ∙ ap (λ i. units_of front ++ take (count - i) (units_of rest)) n in
      let b = (begins_only Spells why rule start pattern Full port_syncs (λ w s. s) u r reads sound front rest f.first.is_full.parts).1 f.first.is_full.begins in
      let begins : left ≡ 255 ∷ (255 ∷ (255 ∷ (127 ∷ take (count - length front - 4) b.0))) = ap (take (count - length front)) b.1 ∙ take_four (count - length front) 255 255 255 127 b.0 (omega (arith, e)) in
      made l.0 (units_of front) left l.1 parts (inr (front, f.first, refl)) (λ a.
      let k = f.alone input (c.input_is ∙ ap (λ (l : List Bool). l ++ c.kept) a) in
      let m = k.1 in
      (nothing_before l.0 left (sym k.0 ∙ l.1), inr (omega (arith, n, m, s)))) (inr (at_once left _ begins))

  pub realigned_follows : RealignedFollows plan input c
  realigned_follows = elim slip [
    | inl n ↦ made (realigned input).bytes (until_end c) [] (sym (append-nil _)) (sym (append-nil _)) (inl (n.0, refl))
        (λ a. (ap (λ (x : Realigned). x.bytes) (n.1 input (c.input_is ∙ ap (λ (l : List Bool). l ++ c.kept) a)), inl refl)) (inl refl)
    | inr m ↦ from_first m.0 m.1
  ]
