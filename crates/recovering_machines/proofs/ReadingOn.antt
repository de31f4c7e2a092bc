-- A byte that is read on after a fault.
use Rattle.std.proofs.Common.{◌≡◌, ℕ, zero, suc, List, [], ◌++◌, refl, sym, ◌∙◌, ap}
use Rattle.std.proofs.Common.{subst, Option, None, Bool, true, false}
use Rattle.std.specs.Prelude.{flat_map, map}
use Rattle.std.proofs.lemmas.Grind.{flat_map-append}
use Rattle.std.proofs.lemmas.List.{map-append}
use Rattle.trace_values.specs.declared.fault.Fault.{Fault}
use Rattle.trace_values.specs.declared.fault.Reason.{Reason}
use Rattle.trace_values.specs.declared.step.Step.{Step}
use Rattle.trace_values.specs.declared.step.Step.TheVariants.{Quiet, Skipping, Item, Locked, Fault as Faulty}
use Rattle.trace_values.specs.Nibbles.{low_of, high_of}
use Rattle.trace_values.specs.Placed.{Place, Placed, byte_at}
use Rattle.trace_values.specs.Stream.{Stream, Grows, fault_by, goes_on}
use Rattle.stp_codec.specs.Nibbles.{nibbles_after, nibbles_before, nibbles_to}
use Rattle.source_events.specs.declared.packet.Packet.{Packet}
use Rattle.source_events.specs.declared.plan.SourceKind.{SourceKind}
use Rattle.source_events.specs.declared.plan.SourceKind.TheVariants.{Itm as ItmKind, Stp as StpKind}
use Rattle.source_machine.specs.Machine.{is_live}
use Rattle.source_machine.specs.Units.{kind_of, reads_on, reading_on, StandsOn, units_at, units_after, taken_on}
use Rattle.source_machine.specs.Units.{before_on, TakesUnits}
use Rattle.source_machine.specs.UnitLaws.{shows_units}
use Rattle.source_machine.specs.declared.machine.SourceMachine.{SourceMachine}
use Rattle.stretch_readings.specs.Stretches.{One, Stretch, Stretches, before, fed_from, from_fault, heard_of, stretches}
use Rattle.stretch_readings.specs.Steps.{said_by, raised}
use Rattle.stretch_readings.specs.Guessing.{as_guess, at_next, guess_of}
use Rattle.stretch_readings.proofs.Continuing.{broken_off, next_falls, next_first_falls, next_goes, next_second_falls}
use Rattle.stretch_readings.proofs.Continuing.{next_two_go}
use Rattle.stretch_readings.proofs.Feeding.{given_longer, given_next, longer, no_fault_by, told_none}
use Rattle.stretch_readings.proofs.StretchLaws.{from_append}
use Rattle.recovering_machines.specs.Guess.{Continues, ReadsByte, guessed_by, read_on}

-- the fault of a step that is one
abbrev fault_at : ℕ → Fault → Option (Place × Reason)
fault_at at x = (let s : Step Packet = Faulty x in fault_by at s)

module _ (reads : Bool → List Placed → Stream Packet) (r : Stretches) (at byte : ℕ) where
  abbrev read : List Placed → Stream Packet
  read w = reads r.now.hunts (r.now.units ++ w)

  abbrev all : SourceKind → Stretches
  all kind = fed_from reads at_next r (map One (units_at kind at byte))

  goes_by : (kind : SourceKind) (s : Step Packet) → goes_on s ≡ true →
      (read (before_on kind at byte s)).fault ≡ None → (read (taken_on kind at byte s)).fault ≡ fault_by at s →
      all kind ≡ longer reads r (taken_on kind at byte s)
  goes_by ItmKind s on e f = next_goes reads r (byte_at at byte) (f ∙ no_fault_by reads at s on)
  goes_by StpKind Quiet on e f = next_two_go reads r (low_of at byte) (high_of at byte) e f
  goes_by StpKind Skipping on e f = next_two_go reads r (low_of at byte) (high_of at byte) e f
  goes_by StpKind (Item half v) on e f = next_two_go reads r (low_of at byte) (high_of at byte) e f
  goes_by StpKind (Locked skipped half v) on e f = next_two_go reads r (low_of at byte) (high_of at byte) e f
  goes_by StpKind (Faulty x) on e f = cc

  falls_by : (kind : SourceKind) (x : Fault) → (reads false (units_after kind x.half at byte)).fault ≡ None →
      (read (before_on kind at byte (Faulty x))).fault ≡ None →
      (read (taken_on kind at byte (Faulty x))).fault ≡ fault_at at x →
      all kind ≡ broken_off reads r (taken_on kind at byte (Faulty x)) (units_after kind x.half at byte)
  falls_by ItmKind x q e f = next_falls reads r (byte_at at byte) _ f
  falls_by StpKind x q e f = by x.half q e f where
    by : (half : ℕ) → (reads false (nibbles_after half at byte)).fault ≡ None →
        (read (nibbles_before half at byte)).fault ≡ None →
        (read (nibbles_to half at byte)).fault ≡ fault_at at x →
        all StpKind ≡ broken_off reads r (nibbles_to half at byte) (nibbles_after half at byte)
    by zero q e f = next_first_falls reads r (low_of at byte) (high_of at byte) _ f q
    by (suc n) q e f = next_second_falls reads r (low_of at byte) (high_of at byte) _ e f

-- a notice is no guess
guess_raised : (n at : ℕ) (s : Step Packet) → guessed_by at (raised n s) ≡ guessed_by at s
guess_raised n at Quiet = refl
guess_raised n at Skipping = refl
guess_raised n at (Item half v) = refl
guess_raised n at (Locked skipped half v) = refl
guess_raised n at (Faulty f) = refl

-- none, or one unit that is no fault
pub starts : (reads : Bool → List Placed → Stream Packet) (kind : SourceKind) (half at byte : ℕ) →
    (reads false (units_after kind half at byte)).fault ≡ None →
    read_on reads (units_after kind half at byte)
    ≡ record { past = []; now = record { hunts = false; count = 0; units = units_after kind half at byte } }
starts reads ItmKind half at byte e = refl
starts reads StpKind zero at byte e = next_goes reads (before reads at_next false) (high_of at byte) e
starts reads StpKind (suc half) at byte e = refl

module _ (m e : SourceMachine) (at byte : ℕ) (same_kind : kind_of e ≡ kind_of m) (same_reads : reads_on e ≡ reads_on m)
    (same_mode : reading_on e ≡ reading_on m) (live : is_live m ≡ true) (u : List Placed) (k : Continues m u) where
  abbrev reads : Bool → List Placed → Stream Packet
  reads = reads_on m

  abbrev kind : SourceKind
  kind = kind_of m

  -- the stretches before, and their last one's units
  abbrev old : Stretches
  old = read_on reads u

  abbrev units : List Placed
  units = old.now.units

  abbrev new : Stretches
  new = read_on reads (u ++ units_at kind at byte)

  split : new ≡ fed_from reads at_next old (map One (units_at kind at byte))
  split =
      ap (λ l. stretches reads at_next false l) (map-append One u (units_at kind at byte))
      ∙ from_append reads at_next (map One u) (map One (units_at kind at byte)) (before reads at_next false)

  mode : reading_on m ≡ reads old.now.hunts
  mode = k.mode ∙ ap reads (sym k.aligned)

  none : (reads old.now.hunts units).fault ≡ None
  none = ap (λ (f : List Placed → Stream Packet). (f units).fault) (sym mode) ∙ (shows_units m units k.list live).0

  continues : (z : SourceMachine) (x : Stretches) → new ≡ x → x.now.hunts ≡ false → StandsOn z x.now.units →
      reads_on z ≡ reads → reading_on z ≡ reads_on z false → Continues z (u ++ units_at kind at byte)
  continues z x shape aligned list same is = record {
    list =
        subst (λ (f : Bool → List Placed → Stream Packet). StandsOn z
        (read_on f (u ++ units_at kind at byte)).now.units) (sym same)
        (subst (λ (y : Stretches). StandsOn z y.now.units) (sym shape) list);
    mode = is;
    aligned =
        ap (λ (f : Bool → List Placed → Stream Packet). (read_on f (u ++ units_at kind at byte)).now.hunts) same
        ∙ ap (λ (y : Stretches). y.now.hunts) shape ∙ aligned;
  }

  module _ (s : Step Packet) (t : TakesUnits m e units at byte s) where
    abbrev taken : List Placed
    taken = taken_on kind at byte s

    grows : Grows (reads old.now.hunts units) (reads old.now.hunts (units ++ taken)) at s
    grows = subst (λ (f : List Placed → Stream Packet). Grows (f units) (f (units ++ taken)) at s) mode t.grows

    sound : (reads old.now.hunts (units ++ before_on kind at byte s)).fault ≡ None
    sound = ap (λ (f : List Placed → Stream Packet). (f (units ++ before_on kind at byte s)).fault) (sym mode) ∙ t.sound

    -- what is guessed with what the stretches say besides
    guesses : (said : Step Packet) → guessed_by at said ≡ guessed_by at s →
        (heard_of reads from_fault new).given ≡ (heard_of reads from_fault old).given ++ said_by at said →
        guess_of reads from_fault (u ++ units_at kind at byte) ≡ guess_of reads from_fault u ++ guessed_by at s
    guesses said same e =
        ap (flat_map as_guess) e
        ∙ flat_map-append as_guess (heard_of reads from_fault old).given (said_by at said)
        ∙ ap (λ l. guess_of reads from_fault u ++ l) same

    pub reads_goes : goes_on s ≡ true → ReadsByte m e u at byte s
    reads_goes on = record {
      goes = continues e (longer reads old taken) shape k.aligned t.list same_reads
          (same_mode ∙ k.mode ∙ ap (λ (f : Bool → List Placed → Stream Packet). f false) (sym same_reads));
      given = guesses (raised old.now.count s) (guess_raised old.now.count at s)
          (ap (λ (y : Stretches). (heard_of reads from_fault y).given) shape
          ∙ given_longer reads old taken at s none on grows);
    } where
      shape : new ≡ longer reads old taken
      shape = split ∙ goes_by reads old at byte kind s on sound grows.fault

  module _ (x : Fault) (z : SourceMachine) (t : TakesUnits m e units at byte (Faulty x))
      (same : reads_on z ≡ reads_on e) (is : reading_on z ≡ reads_on z false)
      (list : StandsOn z (units_after (kind_of e) x.half at byte))
      (given : (reads_on e false (units_after (kind_of e) x.half at byte)).given ≡ [])
      (sound_after : (reads_on e false (units_after (kind_of e) x.half at byte)).fault ≡ None) where
    abbrev next : List Placed
    next = units_after kind x.half at byte

    abbrev after : Stretch
    after = (broken_off reads old (taken (Faulty x) t) next).now

    -- of the source's kind and reading
    at_same : (P : Stream Packet → Type 0) → P (reads_on e false (units_after (kind_of e) x.half at byte)) →
        P (reads false next)
    at_same P p =
        subst (λ (f : Bool → List Placed → Stream Packet). P (f false next)) same_reads
        (subst (λ (kd : SourceKind). P (reads_on e false (units_after kd x.half at byte))) same_kind p)

    nothing : (reads false next).given ≡ []
    nothing = at_same (λ y. y.given ≡ []) given

    here : (reads false next).fault ≡ None
    here = at_same (λ y. y.fault ≡ None) sound_after

    falls : new ≡ broken_off reads old (taken (Faulty x) t) next
    falls = split ∙ falls_by reads old at byte kind x here (sound (Faulty x) t) (grows (Faulty x) t).fault

    pub reads_fault : ReadsByte m z u at byte (Faulty x)
    reads_fault = record {
      goes = continues z (broken_off reads old (taken (Faulty x) t) next) falls refl
          (subst (λ (kd : SourceKind). StandsOn z (units_after kd x.half at byte)) same_kind list)
          (same ∙ same_reads) is;
      given = guesses (Faulty x) t (Faulty x) refl
          (ap (λ (y : Stretches). (heard_of reads from_fault y).given) falls
          ∙ given_next reads old (taken (Faulty x) t) after at x none (grows (Faulty x) t)
          (told_none reads after nothing here));
    }

-- one that begins with them
pub begins : (m z : SourceMachine) (half at byte : ℕ) → reads_on z ≡ reads_on m → reading_on z ≡ reads_on z false →
    StandsOn z (units_after (kind_of m) half at byte) →
    (reads_on m false (units_after (kind_of m) half at byte)).fault ≡ None →
    Continues z (units_after (kind_of m) half at byte)
begins m z half at byte same is list sound = record {
  list = subst (λ (y : Stretches). StandsOn z y.now.units) (sym shape) list;
  mode = is;
  aligned = ap (λ (y : Stretches). y.now.hunts) shape;
} where
  shape : read_on (reads_on z) (units_after (kind_of m) half at byte) ≡ record {
    past = [];
    now = record { hunts = false; count = 0; units = units_after (kind_of m) half at byte };
  }
  shape =
      starts (reads_on z) (kind_of m) half at byte
      (ap (λ (f : Bool → List Placed → Stream Packet). (f false (units_after (kind_of m) half at byte)).fault) same
      ∙ sound)
