-- How the reading of a capture's port grows with one more byte.
use Rattle.std.proofs.Common.{◌≡◌, ℕ, ◌+◌, ◌≤◌, take, List, [], ◌∷◌, ◌++◌, length, refl, sym, ◌∙◌, ap, subst, arith}
use Rattle.std.proofs.Common.{append_assoc, append-nil, length-append, Option, Some, None, true}
use Rattle.std.specs.Prelude.{is_none, is_some, not, option_map}
use Rattle.std.specs.List.{flat_map}
use Rattle.std.proofs.lemmas.List.Concat.{flat_map-append}
use Rattle.capture_actions.specs.Names.{Cell, Reason, Place, Placed, byte_at, placed_from, placed, FramesMode, IsWhole}
use Rattle.capture_actions.specs.Names.{PortStep, Quiet, Fault as Faulty, PortReading, port_reading, cells_of}
use Rattle.capture_actions.specs.Names.{GrowsByFrame, frames_by, CellsFit, fault_by, FaultAfter, told}
use Rattle.trace_values.specs.declared.fault.Fault.{Fault}
use Rattle.trace_values.proofs.Placing.{placed_from_push, placed_append}
use Rattle.frame_grammar.specs.Frame.{IsProperFrame}
use Rattle.frame_grammar.proofs.Wholes.{plain_is_whole}
use Rattle.std.proofs.lemmas.List.{length-take-le}
use Rattle.deformatter.specs.declared.step.PortStep.TheVariants.{Frame}
use Rattle.deformatter.specs.ReadingGrowth.{Grows, Answers}
use Rattle.deformatter.specs.Block.{EachByte, FedAs}
use Rattle.deformatter.specs.Growth.{goes_on}
use Rattle.capture_actions.specs.Port.{port_of, IsPortFaulty}
use Rattle.capture_actions.specs.PortGrowth.{Gained}

-- the bytes after those seen are the next of the capture
pub next_bytes : (seen bytes : List ℕ) (at : ℕ) → at ≡ length seen → placed seen ++ placed_from at bytes ≡ placed (seen ++ bytes)
next_bytes seen bytes at e = ap (λ (n : ℕ). placed seen ++ placed_from n bytes) e ∙ sym (placed_append seen bytes)

pub counted_next : (seen bytes : List ℕ) (at count : ℕ) → at ≡ length seen → length bytes ≡ count → at + count ≡ length (seen ++ bytes)
counted_next seen bytes at count e f = (let k = length-append seen bytes in omega arith)

-- no fault is kept exactly where the reading has none
pub fault_none : (fault : Option Fault) (f : Option (Place × Reason)) → option_map told fault ≡ f → is_none fault ≡ true → f ≡ None
fault_none None f e n = sym e
fault_none (Some fault) f e n = cc

-- a reading without a fault has none
pub not_faulty : (mode : FramesMode) (seen : List ℕ) → (port_of mode seen).fault ≡ None → IsPortFaulty mode seen → ⊥
not_faulty mode seen n f = (let k = ap (λ (x : Option (Place × Reason)). is_none x) n in let g = f in cc)

-- the cells that a step gives are those of the frames that it ends
pub cells_by_step : (step : PortStep) (cells : List Cell) → CellsFit step cells → flat_map (λ (frame : List Cell). frame) (frames_by step cells) ≡ cells
cells_by_step Frame cells fit = append-nil cells
cells_by_step step cells fit = sym fit

cells_more : (old new : PortReading) (step : PortStep) (cells : List Cell) → new.frames ≡ old.frames ++ frames_by step cells → CellsFit step cells → cells_of new ≡ cells_of old ++ cells
cells_more old new step cells frames fit =
    ap (flat_map (λ (frame : List Cell). frame)) frames
    ∙ flat_map-append (λ (frame : List Cell). frame) old.frames (frames_by step cells)
    ∙ ap (λ (l : List Cell). cells_of old ++ l) (cells_by_step step cells fit)

pub frame_cells_more : (old new : PortReading) (inner : ℕ) (cells : List Cell) → GrowsByFrame old new inner cells → cells_of new ≡ cells_of old ++ cells
frame_cells_more old new inner cells g =
    ap (flat_map (λ (frame : List Cell). frame)) g.frames
    ∙ flat_map-append (λ (frame : List Cell). frame) old.frames (cells ∷ [])
    ∙ ap (λ (l : List Cell). cells_of old ++ l) (append-nil cells)

-- quiet bytes leave the frames as they are, without a fault
pub record IsStill (old new : PortReading) : Type 0 where
  pub frames : new.frames ≡ old.frames
  pub sound : new.fault ≡ None

pub still_none : (mode : FramesMode) (u : List Placed) → (port_reading mode u).fault ≡ None → IsStill (port_reading mode u) (port_reading mode (u ++ []))
still_none mode u n = subst (λ (v : List Placed). IsStill (port_reading mode u) (port_reading mode v)) (sym (append-nil u)) (record { frames = refl; sound = n })

pub still : (mode : FramesMode) (u : List Placed) (at : ℕ) (bytes : List ℕ) → EachByte (Answers mode Quiet []) u at bytes → (port_reading mode u).fault ≡ None →
    IsStill (port_reading mode u) (port_reading mode (u ++ placed_from at bytes))
still mode u at [] e n = still_none mode u n
still mode u at (b ∷ bytes) e n =
    let g = e.0 in
    let more = still mode (u ++ byte_at at b ∷ []) (at + 1) bytes e.1 g.fault in
    subst (λ (v : List Placed). IsStill (port_reading mode u) (port_reading mode v)) (append_assoc u (byte_at at b ∷ []) (placed_from (at + 1) bytes))
    (record {
      frames = more.frames ∙ g.frames ∙ append-nil (port_reading mode u).frames;
      sound = more.sound;
    })

-- where the last byte says this, a fault is certain with it or there is none
fault_after : (mode : FramesMode) (seen front : List ℕ) (last : ℕ) (step : PortStep) → seen ≡ front ++ last ∷ [] → (port_of mode front).fault ≡ None → (port_of mode seen).fault ≡ fault_by step →
    FaultAfter (IsPortFaulty mode) seen (not (goes_on step))
fault_after mode seen front last (Faulty fault) e n f = record {
  front = front;
  last = last;
  all = e;
  sound = not_faulty mode front n;
  broken = ap (λ (x : Option (Place × Reason)). is_none x) f;
}
fault_after mode seen front last step e n f = not_faulty mode seen f

-- how the reading grew with bytes of a piece
pub record HasGrown (mode : FramesMode) (seen bytes : List ℕ) (step : PortStep) (cells : List Cell) : Type 0 where
  pub fault : (port_of mode (seen ++ bytes)).fault ≡ fault_by step
  pub gained : Gained mode seen (seen ++ bytes) cells (not (goes_on step))

pub has_grown : (mode : FramesMode) (seen bytes : List ℕ) (at : ℕ) (step : PortStep) (cells : List Cell) → at ≡ length seen → (port_of mode seen).fault ≡ None →
    FedAs (Answers mode Quiet []) (Answers mode step cells) (placed seen) at bytes → HasGrown mode seen bytes step cells
has_grown mode seen bytes at step cells e n r =
    let w = placed seen ++ placed_from at r.front in
    let quiet = still mode (placed seen) at r.front r.quiet n in
    let next : w ++ byte_at (at + length r.front) r.last ∷ [] ≡ placed (seen ++ bytes) =
    append_assoc (placed seen) (placed_from at r.front) (byte_at (at + length r.front) r.last ∷ [])
    ∙ ap (λ (l : List Placed). placed seen ++ l) (sym (placed_from_push at r.front r.last) ∙ ap (placed_from at) (sym r.parts))
    ∙ next_bytes seen bytes at e in
    let last = subst (λ (v : List Placed). Grows (port_reading mode w) (port_reading mode v) (at + length r.front) step cells) next r.ends in
    record {
      fault = last.fault;
      gained = record {
        cells = cells_more (port_of mode seen) (port_of mode (seen ++ bytes)) step cells
            (last.frames ∙ ap (λ (l : List (List Cell)). l ++ frames_by step cells) quiet.frames) last.fit;
        fault = fault_after mode (seen ++ bytes) (seen ++ r.front) r.last step
            (ap (λ (l : List ℕ). seen ++ l) r.parts ∙ sym (append_assoc seen r.front (r.last ∷ [])))
            (ap (λ (v : List Placed). (port_reading mode v).fault) (sym (next_bytes seen r.front at e)) ∙ quiet.sound) last.fault;
      };
    }

-- whether a fault is kept
pub fault_is : (fault : Option Fault) (step : PortStep) → is_none fault ≡ goes_on step → is_some fault ≡ not (goes_on step)
fault_is None step e = ap not e
fault_is (Some fault) step e = ap not e

-- the first 16 bytes of a piece that are a plain frame are a whole one
pub plain_whole : (piece frame : List ℕ) → frame ≡ take 16 piece → 16 ≤ length piece → IsProperFrame frame → IsWhole (take 16 piece) frame 0
plain_whole piece frame e l p = subst (λ (w : List ℕ). IsWhole w frame 0) e (plain_is_whole frame (ap length e ∙ length-take-le 16 piece l) p)
