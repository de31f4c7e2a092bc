-- One more byte, in what a deformatter stands for.
use Rattle.std.proofs.Common.{◌≡◌, ℕ, ◌+◌, ◌-◌, ◌*◌, ◌≤◌, List, [], ◌∷◌, ◌++◌, refl, sym, ◌∙◌, ap, arith, subst, Bool, true, false, cond, Option, None}
use Rattle.std.specs.Prelude.{◌==◌, ◌&&◌, nat_le}
use Rattle.std.proofs.lemmas.Bool.Decides.{nat_tests}
use Rattle.deformatter.specs.Names.{Cell, Reason, Next, Go, End, Fail, Mode, Hunting, Place, Placed, byte_at, with_unit}
use Rattle.deformatter.specs.Names.{Seeks, StandsIn, hunts, is_locked, live_after, state_after, PortItem, Full, State}
use Rattle.deformatter.specs.Names.{start, rule, pattern, Hunter, placed_part, is_fit, state}
use Rattle.deformatter.specs.Reading.{PortStream, read_after, all_skipped, port_stream, cells_in, id_in}
use Rattle.deformatter.specs.Growth.{PortGrows, goes_on}
use Rattle.port_sync.specs.declared.aligner.Part.{Part}
use Rattle.port_sync.specs.declared.aligner.Part.TheVariants.{Two, Three}
use Rattle.deformatter.specs.Phase.{mode_in}
use Rattle.deformatter.specs.Rule.{count_of, step_by, cells_by, id_by}
use Rattle.deformatter.specs.declared.deformatter.Phase.{Phase}
use Rattle.deformatter.specs.declared.deformatter.Phase.TheVariants.{Aligned as PhaseAligned, Hunting as PhaseHunting, Locked as PhaseLocked}
use Rattle.deformatter.specs.declared.step.PortStep.{PortStep}
use Rattle.deformatter.specs.declared.step.PortStep.TheVariants.{Quiet, Locked, Half as HalfEnds}
use Rattle.deformatter.proofs.Lawful.{Fits, Lawful, lawful}
use Rattle.deformatter.proofs.Growing as growing
use Rattle.deformatter.proofs.Readings.{port_hunt, IsReadAt, is_read, seeks_old, seeks_new, after}

-- a byte of the reading: how the reading grew, its cells, and the ID in force
pub record Fed (h : Bool) (u : List Placed) (at byte : ℕ) (s : State) (n : Next State PortItem) : Type 0 where
  pub grows : PortGrows (port_stream h u) (port_stream h (u ++ byte_at at byte ∷ [])) at (step_by at s n)
  pub cells : cells_in (port_stream h (u ++ byte_at at byte ∷ [])) ≡ cells_in (port_stream h u) ++ cells_by (id_in (port_stream h u)) n
  pub id : id_in (port_stream h (u ++ byte_at at byte ∷ [])) ≡ id_by (id_in (port_stream h u)) n

fed_at : (h : Bool) (u : List Placed) (at byte : ℕ) (s : State) (r : IsReadAt h s u) → Fed h u at byte s (rule s (byte_at at byte))
fed_at h u at byte s r =
    let p = r.read.progress in
    let k = r.read.skipped in
    let new : port_stream h (u ++ byte_at at byte ∷ []) ≡ read_after k (with_unit start p (byte_at at byte) (rule s (byte_at at byte)) None) =
    r.read.new (byte_at at byte)
    ∙ ap (λ (t : State). read_after k (with_unit start p (byte_at at byte) (rule t (byte_at at byte)) p.fault)) r.state
    ∙ ap (λ (f : Option (Place × Reason)). read_after k (with_unit start p (byte_at at byte) (rule s (byte_at at byte)) f)) r.fault in
    let law : Lawful p.state (rule s (byte_at at byte)) = subst (λ (t : State). Lawful p.state (rule t (byte_at at byte))) r.state (lawful p.state (byte_at at byte) r.read.sound) in
    record {
      grows = subst (λ (a : PortStream). PortGrows a (port_stream h (u ++ byte_at at byte ∷ [])) at (step_by at s (rule s (byte_at at byte)))) (sym r.read.old)
          (subst (λ (a : PortStream). PortGrows (read_after k p) a at (step_by at s (rule s (byte_at at byte)))) (sym new)
          (subst (λ (t : State). PortGrows (read_after k p) (read_after k (with_unit start p (byte_at at byte) (rule s (byte_at at byte)) None)) at (step_by at t (rule s (byte_at at byte)))) r.state
          (growing.grows k p at byte (rule s (byte_at at byte)) law)));
      cells = ap cells_in new ∙ growing.cells_fed k p (byte_at at byte) (rule s (byte_at at byte))
          ∙ ap (λ (a : PortStream). cells_in a ++ cells_by (id_in a) (rule s (byte_at at byte))) (sym r.read.old);
      id = ap id_in new ∙ growing.id_fed k p (byte_at at byte) (rule s (byte_at at byte))
          ∙ ap (λ (a : PortStream). id_by (id_in a) (rule s (byte_at at byte))) (sym r.read.old);
    }

pub fed : (m : Mode) (live : Bool) (s : State) (u : List Placed) (at byte : ℕ) → live ≡ true → is_locked m ≡ true → StandsIn pattern Full rule start m live s u →
    Fed (hunts m) u at byte s (rule s (byte_at at byte))
fed m live s u at byte l k r = fed_at (hunts m) u at byte s (is_read m live s u l k r)

-- the run and its count of a hunt
pub long_enough : (run skipped byte : ℕ) → (nat_le run 3 && nat_le run skipped) ≡ true → (byte == 127 && run == 3) ≡ true → 3 ≤ skipped
long_enough run skipped byte e f = grind (arith, nat_tests)

-- a byte of the hunt: how the reading grew, which gives nothing
pub record Sought (h : Bool) (u : List Placed) (at byte : ℕ) (step : PortStep) : Type 0 where
  pub grows : PortGrows (port_stream h u) (port_stream h (u ++ byte_at at byte ∷ [])) at step
  pub cells : (given : List Cell) → given ≡ [] → cells_in (port_stream h (u ++ byte_at at byte ∷ [])) ≡ cells_in (port_stream h u) ++ given
  pub id : id_in (port_stream h u) ≡ id_in (port_stream h (u ++ byte_at at byte ∷ []))

module _ (m : Mode) (run skipped : ℕ) (u : List Placed) (at byte : ℕ) (live : Bool) (s : State) (e : m ≡ Hunting run skipped) (r : StandsIn pattern Full rule start m live s u) where
  seeks : Seeks pattern Full rule start run skipped u
  seeks = let t : StandsIn pattern Full rule start (Hunting run skipped) live s u = subst (λ (x : Mode). StandsIn pattern Full rule start x live s u) e r in t.0

  old : port_stream (hunts m) u ≡ all_skipped skipped
  old = ap (λ (x : Mode). port_stream (hunts x) u) e ∙ seeks_old u seeks.none ∙ ap all_skipped seeks.units_is

  new : (t : Bool) → (byte == 127 && run == 3) ≡ t → port_stream (hunts m) (u ++ byte_at at byte ∷ []) ≡ after (port_hunt u) at byte t
  new t f = ap (λ (x : Mode). port_stream (hunts x) (u ++ byte_at at byte ∷ [])) e ∙ seeks_new u at byte seeks.none
      ∙ ap (λ (x : Bool). after (port_hunt u) at byte x) (ap (λ (n : ℕ). byte == 127 && n == 3) seeks.run_is ∙ f)

  sought : (t : Bool) (step : PortStep) → (byte == 127 && run == 3) ≡ t → cells_in (after (port_hunt u) at byte t) ≡ [] → id_in (after (port_hunt u) at byte t) ≡ None →
      PortGrows (all_skipped skipped) (after (port_hunt u) at byte t) at step → Sought (hunts m) u at byte step
  sought t step f empty none g = record {
    grows = subst (λ (x : PortStream). PortGrows x (port_stream (hunts m) (u ++ byte_at at byte ∷ [])) at step) (sym old) (subst (λ (x : PortStream). PortGrows (all_skipped skipped) x at step) (sym (new t f)) g);
    cells = λ given e. ap cells_in (new t f) ∙ empty ∙ sym e ∙ ap (λ (a : PortStream). cells_in a ++ given) (sym old);
    id = ap id_in old ∙ sym (ap id_in (new t f) ∙ none);
  }

  pub skips : (byte == 127 && run == 3) ≡ false → Sought (hunts m) u at byte Quiet
  skips f = sought false Quiet f refl refl
      (record { items = refl; halves = refl; fulls = refl; frames = refl; fault = refl; hunt = (refl, (let k = seeks.units_is in omega (arith, k))) })

  pub locks : (byte == 127 && run == 3) ≡ true → 3 ≤ skipped → Sought (hunts m) u at byte (Locked (skipped - 3))
  locks f l = sought true (Locked (skipped - 3)) f refl refl
      (record { items = refl; halves = refl; fulls = refl; frames = refl; fault = refl; hunt = (refl, refl, ap (λ (n : ℕ). n - 3) seeks.units_is, omega (arith, l)) })

-- a deformatter that doesn't hunt reads
pub reads_on : (phase : Phase) (hunter : Hunter) (skipped : ℕ) → (phase ≡ PhaseHunting → ⊥) → is_locked (mode_in phase hunter skipped) ≡ true
reads_on PhaseAligned hunter skipped n = refl
reads_on PhaseHunting hunter skipped n = absurd (n refl)
reads_on PhaseLocked hunter skipped n = refl

-- it stays live exactly with a step that is no fault
pub stays_live : (at : ℕ) (s : State) (n : Next State PortItem) → live_after n ≡ goes_on (step_by at s n)
stays_live at s (Go t) = by (t.halves == s.halves) where
  by : (b : Bool) → true ≡ goes_on (cond b Quiet HalfEnds)
  by true = refl
  by false = refl
stays_live at s (End Full) = refl
stays_live at s n = refl

is_seven : (n : ℕ) → (n == 7) ≡ true → n ≡ 7
is_seven n e = grind (arith, nat_tests)

fits_by : (left : ℕ) (part : Part) (at : ℕ) → is_fit left part ≡ true → Fits (placed_part part at) left
fits_by left Two at e = is_seven left e
fits_by left Three at e = is_seven left e
fits_by left x at e = tt

few_after : (s : State) (n : Next State PortItem) → Lawful s n → count_of (state_after start n s) ≤ count_of s + 1
few_after s (Go t) l = (let e = l.2 in omega arith)
few_after s (End v) l = omega arith
few_after s (Fail e) l = omega arith

-- at most one byte more is held
pub few_more : (left : ℕ) (bytes : List Placed) (halves : ℕ) (part : Part) (at len : ℕ) (b : Placed) → len + 2 * left ≡ 14 → (len ≡ 0 → halves ≡ 0) → is_fit left part ≡ true →
    count_of (state_after start (rule (state left bytes halves part at) b) (state left bytes halves part at)) ≤ count_of (state left bytes halves part at) + 1
few_more left bytes halves part at len b w z f = few_after (state left bytes halves part at) (rule (state left bytes halves part at) b)
    (lawful (state left bytes halves part at) b (record { within = omega arith; none = λ e. z (omega (arith, e)); fits = fits_by left part at f }))
