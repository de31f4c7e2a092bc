-- How the recovering report grows with the bytes, whatever they are: nothing is taken back.
use Rattle.std.proofs.Common.{◌≡◌, ℕ, ◌+◌, List, [], ◌∷◌, ◌++◌, map, refl, sym, ◌∙◌, ap, subst, inl, inr}
use Rattle.std.proofs.Common.{append_assoc, append-nil, length, Option, None, Some, Bool, flat_map}
use Rattle.std.proofs.lemmas.List.{map-append}
use Rattle.trace_values.specs.declared.fault.Reason.{Reason}
use Rattle.trace_values.specs.Placed.{Place, Placed, byte_at, placed, placed_from}
use Rattle.trace_values.proofs.Placing.{placed_append}
use Rattle.trace_values.specs.declared.next.Next.{Next}
use Rattle.trace_values.specs.declared.reading_modes.FramesMode.{FramesMode}
use Rattle.trace_values.specs.declared.reading_modes.FramesMode.TheVariants.{Hunt, Aligned, Bare}
use Rattle.trace_values.specs.Reading.{with_unit}
use Rattle.frame_grammar.specs.Port.{PortItem, State, start, rule}
use Rattle.deformatter.specs.declared.step.PortStep.{PortStep}
use Rattle.deformatter.specs.Growth.{PortGrows}
use Rattle.deformatter.specs.Modes.{hunts}
use Rattle.deformatter.specs.PortReading.{bare_cell}
use Rattle.deformatter.specs.Reading.{PortStream, cells_in, id_in, port_stream, read_after}
use Rattle.deformatter.specs.Rule.{cells_by, step_by}
use Rattle.deformatter.proofs.Growing as growing
use Rattle.deformatter.proofs.Lawful.{lawful}
use Rattle.deformatter.proofs.Readings.{IsRead, by_mode}
use Rattle.source_events.specs.declared.event.Event.{Event}
use Rattle.source_events.specs.declared.packet.Packet.{Packet}
use Rattle.source_events.specs.declared.plan.Plan.{Plan}
use Rattle.source_events.specs.Runs.{runs_of}
use Rattle.stretch_readings.specs.declared.heard.Heard.{Heard}
use Rattle.stretch_readings.specs.Stretches.{One, Stretch, Stretches, fed, renewed, resumed_by}
use Rattle.stretch_readings.specs.Words.{Goes}
use Rattle.stretch_readings.proofs.StretchLaws as stretches
use Rattle.recovering_machines.specs.Port.{items_by, from_halfword}
use Rattle.recovering_machines.proofs.Feeding.{same}
use Rattle.recovery_report.specs.Port.{of_stretches, port_stretches, recovered, stretch_of}
use Rattle.recovery_report.specs.Report.{Part, Run, parts_in, parts_of, report_from, report_with}
use Rattle.recovery_report.specs.Words.{parts_by}
use Rattle.recovery_report.proofs.PartLaws.{report_append}
use Rattle.recovery_report.proofs.PortLaws as laws
use Rattle.recovery_report.proofs.Sounds.{port_begins, port_sound}
use Rattle.recovery_engine.proofs.Feeding.{bare_parts, port_push}

-- the last stretch of a port has no fault
last_none : (h : Bool) (n : ℕ) (u : List Placed) (past : List Stretch) (last : Stretch) →
    Goes items_by from_halfword h n u past last → (items_by last.hunts last.units).fault ≡ None
last_none h n u [] last g = subst (λ (s : Stretch). (items_by s.hunts s.units).fault ≡ None) (sym g.0) g.1
last_none h n u (s ∷ more) last g =
    let next = renewed items_by from_halfword s in
    last_none from_halfword.hunts next.count (next.units ++ g.2) more last g.7

none_now : (mode : FramesMode) (u : List Placed) → let s = (port_stretches mode u).now in
    (port_stream s.hunts s.units).fault ≡ None
none_now mode u =
    let h = hunts mode in
    let r = port_stretches mode u in
    sym (same r.now.hunts r.now.units).0
    ∙ last_none h 0 u r.past r.now (stretches.words items_by from_halfword port_sound h (port_begins h) u)

-- A byte of a port that reads: it grew by what the rule makes of the byte.
module _ (h : Bool) (u : List Placed) (at byte : ℕ) (none : (port_stream h u).fault ≡ None) (r : IsRead h u) where
  abbrev b : Placed
  b = byte_at at byte

  abbrev n : Next State PortItem
  n = rule r.progress.state b

  abbrev step : PortStep
  step = step_by at r.progress.state n

  new : port_stream h (u ++ b ∷ []) ≡ read_after r.skipped (with_unit start r.progress b n None)
  new = r.new b ∙ ap (λ (f : Option (Place × Reason)). read_after r.skipped (with_unit start r.progress b n f))
      (sym (ap (λ (s : PortStream). s.fault) r.old) ∙ none)

  grows : PortGrows (port_stream h u) (port_stream h (u ++ b ∷ [])) at step
  grows =
      subst (λ (s : PortStream). PortGrows s (port_stream h (u ++ b ∷ [])) at step) (sym r.old)
      (subst (λ (s : PortStream). PortGrows (read_after r.skipped r.progress) s at step) (sym new)
      (growing.grows r.skipped r.progress at byte n (lawful r.progress.state b r.sound)))

  cells : cells_in (port_stream h (u ++ b ∷ [])) ≡ cells_in (port_stream h u) ++ cells_by (id_in (port_stream h u)) n
  cells =
      ap cells_in new ∙ growing.cells_fed r.skipped r.progress b n
      ∙ ap (λ (s : PortStream). cells_in s ++ cells_by (id_in s) n) (sym r.old)

-- A byte of a stretch that has no parts yet: what parts there are then are new.
module _ (r : Stretches) (nothing : parts_of (stretch_of r.now) ≡ []) (b : Placed) where
  abbrev longer : Stretches
  longer = record r { now = record r.now { units = r.now.units ++ b ∷ [] } }

  abbrev ended : List Part
  ended = flat_map parts_of (map stretch_of r.past)

  here : parts_in (of_stretches r) ≡ ended
  here = laws.all_parts r.past r.now ∙ ap (λ l. ended ++ l) nothing ∙ append-nil ended

  begun : (o : Option (Place × Reason)) → (more : List Part) ×
      (parts_in (of_stretches (resumed_by items_by from_halfword o longer)) ≡ parts_in (of_stretches r) ++ more)
  begun None = (
    parts_of (stretch_of longer.now),
    laws.all_parts r.past longer.now ∙ ap (λ l. l ++ parts_of (stretch_of longer.now)) (sym here),
  )
  begun (Some f) =
      let own = parts_of (stretch_of longer.now) in
      let next = renewed items_by from_halfword longer.now in
      let rest = parts_of (stretch_of next) in (
        own ++ rest,
        laws.all_parts (r.past ++ longer.now ∷ []) next
            ∙ ap (λ l. flat_map parts_of l ++ rest) (map-append stretch_of r.past (longer.now ∷ []))
            ∙ ap (λ l. l ++ rest) (laws.all_parts r.past longer.now)
            ∙ append_assoc ended own rest
            ∙ ap (λ l. l ++ (own ++ rest)) (sym here),
      )

grows_once : (r : Stretches) (at byte : ℕ) → (port_stream r.now.hunts r.now.units).fault ≡ None →
    (more : List Part) × (parts_in (of_stretches (fed items_by from_halfword r (One (byte_at at byte))))
    ≡ parts_in (of_stretches r) ++ more)
grows_once r at byte none = elim (by_mode r.now.hunts r.now.units) [
  | inl q ↦ (
    parts_by r.now.count at (step r.now.hunts r.now.units at byte none q)
        (cells_by (id_in (port_stream r.now.hunts r.now.units)) (n r.now.hunts r.now.units at byte none q)),
    laws.port r at byte _ _ none (grows r.now.hunts r.now.units at byte none q)
        (cells r.now.hunts r.now.units at byte none q),
  )
  | inr q ↦ begun r
      (subst (λ (h : Bool). parts_of (stretch_of (record { hunts = h; count = r.now.count; units = r.now.units })) ≡ [])
      (sym q.0) (laws.nothing_yet r.now.units r.now.count q.1)) (byte_at at byte)
      (items_by r.now.hunts (r.now.units ++ byte_at at byte ∷ [])).fault
]

-- the parts of a capture with one more byte, and with more bytes
framed : (mode : FramesMode) (u : List Placed) (at byte : ℕ) → (more : List Part) ×
    (parts_in (of_stretches (port_stretches mode (u ++ byte_at at byte ∷ [])))
    ≡ parts_in (of_stretches (port_stretches mode u)) ++ more)
framed mode u at byte =
    let g = grows_once (port_stretches mode u) at byte (none_now mode u) in
    (g.0, ap (λ r. parts_in (of_stretches r)) (port_push mode u (byte_at at byte)) ∙ g.1)

with_byte : (mode : FramesMode) (u : List Placed) (at byte : ℕ) → (more : List Part) ×
    (parts_in (recovered mode (u ++ byte_at at byte ∷ [])) ≡ parts_in (recovered mode u) ++ more)
with_byte Aligned u at byte = framed Aligned u at byte
with_byte Hunt u at byte = framed Hunt u at byte
with_byte Bare u at byte = (map Run (runs_of (bare_cell (byte_at at byte) ∷ [])), bare_parts u (byte_at at byte))

pub with_bytes : (mode : FramesMode) (u : List Placed) (at : ℕ) (bytes : List ℕ) → (more : List Part) ×
    (parts_in (recovered mode (u ++ placed_from at bytes)) ≡ parts_in (recovered mode u) ++ more)
with_bytes mode u at [] = (
  [],
  ap (λ (l : List Placed). parts_in (recovered mode l)) (append-nil u)
      ∙ sym (append-nil (parts_in (recovered mode u))),
)
with_bytes mode u at (b ∷ bytes) =
    let one = with_byte mode u at b in
    let rest = with_bytes mode (u ++ byte_at at b ∷ []) (at + 1) bytes in (
      one.0 ++ rest.0,
      ap (λ (l : List Placed). parts_in (recovered mode l))
          (sym (append_assoc u (byte_at at b ∷ []) (placed_from (at + 1) bytes)))
          ∙ rest.1 ∙ ap (λ (l : List Part). l ++ rest.0) one.1
          ∙ append_assoc (parts_in (recovered mode u)) one.0 rest.0,
    )

pub report_grows : (guesses : Bool) (plan : Plan) (xs ys : List ℕ) → (given : List (Event (Heard Packet))) ×
    (report_with guesses plan (placed (xs ++ ys)) ≡ report_with guesses plan (placed xs) ++ given)
report_grows guesses plan xs ys =
    let more = with_bytes plan.frames (placed xs) (length xs) ys in
    let parts = parts_in (recovered plan.frames (placed xs)) in (
      report_from guesses plan parts more.0,
      ap (report_with guesses plan) (placed_append xs ys) ∙ ap (report_from guesses plan []) more.1
          ∙ report_append guesses plan parts more.0 [],
    )

-- of no bytes there is no event
no_parts : (mode : FramesMode) → parts_in (recovered mode []) ≡ []
no_parts Aligned = refl
no_parts x = refl

pub nothing_first : (guesses : Bool) (plan : Plan) → report_with guesses plan (placed []) ≡ []
nothing_first guesses plan = ap (report_from guesses plan []) (no_parts plan.frames)
