-- One more byte, and a cut.
use Rattle.std.proofs.Common.{◌≡◌, ℕ, zero, suc, ◌+◌, ◌≤◌, List, [], ◌∷◌, ◌++◌, length, refl, sym, ◌∙◌, ap, arith}
use Rattle.std.proofs.Common.{subst, append_assoc, append-nil, Option, None, Bool, true, false, ◌<◌}
use Rattle.std.proofs.Common.{inl, inr}
use Rattle.std.specs.Prelude.{map, is_none, ◌⊎◌}
use Rattle.std.specs.List.{sum_by}
use Rattle.std.proofs.lemmas.List.Sums.{sum_by_push}
use Rattle.trace_values.specs.declared.fault.Fault.{Fault}
use Rattle.trace_values.specs.declared.step.Step.{Step}
use Rattle.trace_values.specs.declared.step.Step.TheVariants.{Quiet, Skipping, Item, Locked, Fault as Faulty}
use Rattle.trace_values.specs.Nibbles.{low_of, high_of}
use Rattle.trace_values.specs.declared.fault.Reason.{Reason}
use Rattle.trace_values.specs.Placed.{Place, Placed, byte_at}
use Rattle.trace_values.specs.Stream.{Stream, Grows, fault_by, goes_on}
use Rattle.stp_codec.specs.Nibbles.{nibbles_from, nibbles_before, nibbles_to}
use Rattle.source_events.specs.declared.packet.Packet.{Packet}
use Rattle.source_events.specs.declared.plan.SourceKind.{SourceKind}
use Rattle.source_events.specs.declared.plan.SourceKind.TheVariants.{Itm as ItmKind, Stp as StpKind}
use Rattle.source_machine.specs.Machine.{is_live, has_locked, held_of, skipped_by}
use Rattle.source_machine.specs.Units.{kind_of, reads_on, reading_on, StandsOn, units_at, units_from, taken_on}
use Rattle.source_machine.specs.Units.{before_on, TakesUnits}
use Rattle.source_machine.specs.UnitLaws.{falls, shows_units, locks_units, quiet}
use Rattle.source_machine.specs.declared.machine.SourceMachine.{SourceMachine}
use Rattle.source_machine.specs.declared.machine.SourceMachine.TheVariants.{Itm as ItmSource, Stp as StpSource}
use Rattle.trace_values.specs.Walk.{by_unit}
use Rattle.trace_values.proofs.Falls as falling
use Rattle.stp_grammar.specs.declared.packet.StpPacket.TheVariants.{Async}
use Rattle.stp_grammar.specs.declared.partial.Partial.TheVariants.{Start}
use Rattle.stp_grammar.specs.Rule.{rule as stp_rule}
use Rattle.stp_codec.specs.FallingLaws as stp_falling
use Rattle.stp_codec.specs.Reading.{pattern as stp_pattern}
use Rattle.stp_codec.specs.declared.decoder.StpDecoder.{StpDecoder}
use Rattle.stretch_readings.specs.Stretches.{One, Stretch, Stretches, fed_from, heard_of, from_fault, lost_in, parted}
use Rattle.stretch_readings.specs.Stretches.{tail_by}
use Rattle.stretch_readings.specs.Steps.{said_by, raised}
use Rattle.stretch_readings.proofs.Feeding.{longer, fallen, one_goes, one_falls, two_go, second_falls, first_falls}
use Rattle.stretch_readings.proofs.Feeding.{given_longer, given_fallen, no_fault_by}
use Rattle.recovering_machines.specs.Source.{Keeps}
use Rattle.recovering_machines.specs.Units.{ArePassed, AreWhole, BeginsHunt, after_passed}
use Rattle.recovering_machines.specs.declared.source.FirstByte.{FirstByte}
use Rattle.recovering_machines.proofs.Passed.{fault_lowered, grows_lowered, lowered, none_passed, on_lowered}
use Rattle.recovering_machines.proofs.Passed.{raised_lowered}
use Rattle.recovering_machines.proofs.Wholes.{step_whole}

-- the fault of a step that is one
abbrev fault_at : ℕ → Fault → Option (Place × Reason)
fault_at at x = (let s : Step Packet = Faulty x in fault_by at s)

module _ (reads : Bool → List Placed → Stream Packet) (r : Stretches) (at byte : ℕ) where
  abbrev read : List Placed → Stream Packet
  read w = reads r.now.hunts (r.now.units ++ w)

  abbrev all : SourceKind → Stretches
  all kind = fed_from reads from_fault r (map One (units_at kind at byte))

  pub goes_by : (kind : SourceKind) (s : Step Packet) → goes_on s ≡ true →
      (read (before_on kind at byte s)).fault ≡ None → (read (taken_on kind at byte s)).fault ≡ fault_by at s →
      all kind ≡ longer reads r (taken_on kind at byte s)
  goes_by ItmKind s on e f = one_goes reads r (byte_at at byte) (f ∙ no_fault_by reads at s on)
  goes_by StpKind Quiet on e f = two_go reads r (low_of at byte) (high_of at byte) e f
  goes_by StpKind Skipping on e f = two_go reads r (low_of at byte) (high_of at byte) e f
  goes_by StpKind (Item half v) on e f = two_go reads r (low_of at byte) (high_of at byte) e f
  goes_by StpKind (Locked skipped half v) on e f = two_go reads r (low_of at byte) (high_of at byte) e f
  goes_by StpKind (Faulty x) on e f = cc

  pub falls_by : (kind : SourceKind) (x : Fault) →
      (reads true (low_of at byte ∷ (high_of at byte ∷ []))).fault ≡ None →
      (read (before_on kind at byte (Faulty x))).fault ≡ None →
      (read (taken_on kind at byte (Faulty x))).fault ≡ fault_at at x →
      all kind ≡ fallen reads r (taken_on kind at byte (Faulty x)) (units_from kind x.half at byte)
  falls_by ItmKind x q e f = one_falls reads r (byte_at at byte) _ f
  falls_by StpKind x q e f = by x.half e f where
    by : (half : ℕ) → (read (nibbles_before half at byte)).fault ≡ None →
        (read (nibbles_to half at byte)).fault ≡ fault_at at x →
        all StpKind ≡ fallen reads r (nibbles_to half at byte) (nibbles_from half at byte)
    by zero e f = first_falls reads r (low_of at byte) (high_of at byte) _ f q
    by (suc n) e f = second_falls reads r (low_of at byte) (high_of at byte) _ e f

-- the last of the units that a fault takes
pub last_taken : (kind : SourceKind) (n : List Placed) (at byte : ℕ) (x : Fault) →
    (b : Placed) × (n ++ taken_on kind at byte (Faulty x) ≡ (n ++ before_on kind at byte (Faulty x)) ++ b ∷ [])
last_taken ItmKind n at byte x = (byte_at at byte, ap (λ w. w ++ byte_at at byte ∷ []) (sym (append-nil n)))
last_taken StpKind n at byte x = by x.half where
  by : (half : ℕ) → (b : Placed) × (n ++ nibbles_to half at byte ≡ (n ++ nibbles_before half at byte) ++ b ∷ [])
  by zero = (low_of at byte, ap (λ w. w ++ low_of at byte ∷ []) (sym (append-nil n)))
  by (suc k) = (high_of at byte, sym (append_assoc n (low_of at byte ∷ []) (high_of at byte ∷ [])))

from_few : (kind : SourceKind) (half at byte : ℕ) → length (units_from kind half at byte) ≤ 2
from_few ItmKind half at byte = omega arith
from_few StpKind zero at byte = omega arith
from_few StpKind (suc half) at byte = omega arith

-- what its machine shows of the last stretch's reading
module _ (m : SourceMachine) (past count : ℕ) (front : List Placed) (r : Stretches) (k : Keeps m past count front r)
    (live : is_live m ≡ true) where
  read_kept : reading_on m (front ++ r.now.units) ≡ after_passed (length front) (reads_on m r.now.hunts r.now.units)
  read_kept = ap (λ (f : List Placed → Stream Packet). f (front ++ r.now.units)) k.reading ∙ k.passed r.now.units

  pub none_kept : (reads_on m r.now.hunts r.now.units).fault ≡ None
  none_kept = sym (ap (λ (x : Stream Packet). x.fault) read_kept)
      ∙ (shows_units m (front ++ r.now.units) k.stands live).0

  pub shown_kept : (skipped_by m ≡ length front + (reads_on m r.now.hunts r.now.units).skipped)
      × (held_of m ≡ (reads_on m r.now.hunts r.now.units).held)
  shown_kept =
      let s = shows_units m (front ++ r.now.units) k.stands live in (
        s.1 ∙ ap (λ (x : Stream Packet). x.skipped) read_kept,
        s.2 ∙ ap (λ (x : Stream Packet). x.held) read_kept,
      )

-- A fault at a byte's high nibble has the low one before it in its packet, since no packet fails at its first nibble.
stp_held : (d : StpDecoder) (hunts : Bool) (n : List Placed) (b c : Placed) → c.unit < 16 →
    (reads_on (StpSource d) hunts (n ++ b ∷ [])).fault ≡ None →
    is_none (reads_on (StpSource d) hunts (n ++ (b ∷ (c ∷ [])))).fault ≡ false →
    2 ≤ (reads_on (StpSource d) hunts (n ++ (b ∷ (c ∷ [])))).held
stp_held d hunts n b c nibble e f =
    let all = sym (append_assoc n (b ∷ []) (c ∷ [])) in
    let f = ap (λ (l : List Placed). is_none (reads_on (StpSource d) hunts l).fault) (sym all) ∙ f in
    let one = falling.goes stp_pattern Async (by_unit (stp_rule d.order)) Start (λ (z : Placed). z.unit < 16)
    (stp_falling.begins d.order) hunts n b c nibble e f in
    let two = falling.holds stp_pattern Async (by_unit (stp_rule d.order)) Start hunts (n ++ b ∷ []) c f in
    subst (λ (l : List Placed). 2 ≤ (reads_on (StpSource d) hunts l).held) (sym all)
    (let x = one.held in let y = two.held in omega (arith, x, y))

held_by : (m : SourceMachine) (hunts : Bool) (n : List Placed) (x : Fault) (at byte : ℕ) (first : FirstByte) →
    BeginsHunt (kind_of m) x.half byte first →
    (reads_on m hunts (n ++ before_on (kind_of m) at byte (Faulty x))).fault ≡ None →
    (reads_on m hunts (n ++ taken_on (kind_of m) at byte (Faulty x))).fault ≡ fault_at at x → (
    (first.passed ≡ 0)
    ⊎ (first.passed + 1 ≤ (reads_on m hunts (n ++ taken_on (kind_of m) at byte (Faulty x))).held)
    )
held_by (ItmSource d) hunts n x at byte first b e f = inl b.1
held_by (StpSource d) hunts n x at byte first b e f = by x.half b e (ap is_none f) where
  by : (half : ℕ) → BeginsHunt StpKind half byte first →
      (reads_on (StpSource d) hunts (n ++ nibbles_before half at byte)).fault ≡ None →
      is_none (reads_on (StpSource d) hunts (n ++ nibbles_to half at byte)).fault ≡ false → (
      (first.passed ≡ 0)
      ⊎ (first.passed + 1 ≤ (reads_on (StpSource d) hunts (n ++ nibbles_to half at byte)).held)
      )
  by zero b e f = inl b.1
  by (suc half) b e f =
      inr (let i = b.1 in let h = stp_held d hunts n (low_of at byte) (high_of at byte) (omega arith) e f in
      omega (arith, i, h))

module _ (m e : SourceMachine) (past count : ℕ) (front : List Placed) (r : Stretches) (k : Keeps m past count front r)
    (live : is_live m ≡ true) (at byte : ℕ)
    (same_reads : reads_on e ≡ reads_on m) (same_reading : reading_on e ≡ reading_on m) where
  abbrev kind : SourceKind
  kind = kind_of m

  abbrev reads : Bool → List Placed → Stream Packet
  reads = reads_on m

  abbrev units : List Placed
  units = r.now.units

  abbrev read_now : List Placed → Stream Packet
  read_now = reads r.now.hunts

  -- its machine has read them after those that are passed over
  read_units : reading_on m (front ++ units) ≡ after_passed (length front) (read_now units)
  read_units = ap (λ (f : List Placed → Stream Packet). f (front ++ units)) k.reading ∙ k.passed units

  read_more : (w : List Placed) →
      reading_on m ((front ++ units) ++ w) ≡ after_passed (length front) (read_now (units ++ w))
  read_more w =
      ap (reading_on m) (append_assoc front units w)
      ∙ ap (λ (f : List Placed → Stream Packet). f (front ++ (units ++ w))) k.reading ∙ k.passed (units ++ w)

  pub none : (reads r.now.hunts units).fault ≡ None
  none = none_kept m past count front r k live

  module _ (s : Step Packet) (t : TakesUnits m e (front ++ units) at byte s) where
    abbrev taken : List Placed
    taken = taken_on kind at byte s

    -- the step of the stretch's own reading
    abbrev own : Step Packet
    own = lowered (length front) s

    own_on : goes_on s ≡ true → goes_on own ≡ true
    own_on on = on_lowered (length front) s ∙ on

    grew : Grows (after_passed (length front) (read_now units)) (after_passed (length front) (read_now (units ++ taken)))
        at s
    grew = subst (λ (x : Stream Packet). Grows (after_passed (length front) (read_now units)) x at s) (read_more taken)
        (subst (λ (x : Stream Packet). Grows x (reading_on m ((front ++ units) ++ taken)) at s) read_units t.grows)

    pub grows : Grows (reads r.now.hunts units) (reads r.now.hunts (units ++ taken)) at own
    grows = grows_lowered (length front) at (read_now units) (read_now (units ++ taken)) s grew

    pub sound : (reads r.now.hunts (units ++ before_on kind at byte s)).fault ≡ None
    sound = sym (ap (λ (x : Stream Packet). x.fault) (read_more (before_on kind at byte s))) ∙ t.sound

    goes : goes_on s ≡ true → fed_from reads from_fault r (map One (units_at kind at byte)) ≡ longer reads r taken
    goes on = goes_by reads r at byte kind s on sound (grows.fault ∙ fault_lowered (length front) at s)

    pub hunts_goes : goes_on s ≡ true →
        (fed_from reads from_fault r (map One (units_at kind at byte))).now.hunts ≡ r.now.hunts
    hunts_goes on = ap (λ x. x.now.hunts) (goes on)

    pub whole_goes : goes_on s ≡ true → (its : SourceKind) → its ≡ kind → AreWhole kind (front ++ units) →
        AreWhole its (front ++ (fed_from reads from_fault r (map One (units_at kind at byte))).now.units)
    whole_goes on its same w = subst (λ x. AreWhole its (front ++ x.now.units)) (sym (goes on))
        (subst (λ z. AreWhole z (front ++ (units ++ taken))) (sym same)
        (subst (AreWhole kind) (append_assoc front units taken) (step_whole kind (front ++ units) at byte s on w)))

    pub keeps_goes : goes_on s ≡ true →
        Keeps e past count front (fed_from reads from_fault r (map One (units_at kind at byte)))
    keeps_goes on = subst (λ x. Keeps e past count front x) (sym (goes on)) (record {
      stands = subst (StandsOn e) (append_assoc front units taken) t.list;
      reading = same_reading ∙ k.reading ∙ ap (λ (f : Bool → List Placed → Stream Packet). f r.now.hunts)
          (sym same_reads);
      passed = subst (λ (f : Bool → List Placed → Stream Packet). ArePassed (f r.now.hunts) front) (sym same_reads)
          k.passed;
      past_is = k.past_is ∙ ap (λ (f : Bool → List Placed → Stream Packet). sum_by (lost_in f from_fault) r.past)
          (sym same_reads);
      count_is = k.count_is;
    })

    -- the answer is that of the stretch's own reading
    pub answer : raised count s ≡ raised r.now.count own
    answer =
        raised_lowered (length front) count at (after_passed (length front) (read_now units)) (read_now (units ++ taken)) s
        grew.hunt
        ∙ ap (λ c. raised c own) k.count_is

    pub given_goes : goes_on s ≡ true →
        (heard_of reads from_fault (fed_from reads from_fault r (map One (units_at kind at byte)))).given
        ≡ (heard_of reads from_fault r).given ++ said_by at (raised count s)
    given_goes on =
        ap (λ x. (heard_of reads from_fault x).given) (goes on)
        ∙ given_longer reads r taken at own none (own_on on) grows
        ∙ ap (λ x. (heard_of reads from_fault r).given ++ said_by at x) (sym answer)

  module _ (x : Fault) (t : TakesUnits m e (front ++ units) at byte (Faulty x)) (dead : is_live e ≡ false) where
    abbrev fault_taken : List Placed
    fault_taken = taken_on kind at byte (Faulty x)

    abbrev next : List Placed
    next = units_from kind x.half at byte

    falls_to : fed_from reads from_fault r (map One (units_at kind at byte)) ≡ fallen reads r fault_taken next
    falls_to = falls_by reads r at byte kind x (quiet m (low_of at byte ∷ (high_of at byte ∷ [])) (omega arith)).1
        (sound (Faulty x) t) (grows (Faulty x) t).fault

    pub hunts_falls : (fed_from reads from_fault r (map One (units_at kind at byte))).now.hunts ≡ true
    hunts_falls = ap (λ y. y.now.hunts) falls_to

    pub whole_falls : (its : SourceKind) (its_front : List Placed) → AreWhole its (its_front ++ next) →
        AreWhole its (its_front ++ (fed_from reads from_fault r (map One (units_at kind at byte))).now.units)
    whole_falls its its_front w = subst (λ y. AreWhole its (its_front ++ y.now.units)) (sym falls_to) w

    shown : (skipped_by e ≡ length front + (reads r.now.hunts (units ++ fault_taken)).skipped)
        × (held_of e + 1 ≡ (reads r.now.hunts (units ++ fault_taken)).held)
    shown =
        let last = last_taken kind (front ++ units) at byte x in
        let before = (front ++ units) ++ before_on kind at byte (Faulty x) in
        let f = falls e before last.0 (subst (StandsOn e) last.1 t.list) dead
        (ap (λ (f : List Placed → Stream Packet). (f before).fault) same_reading ∙ t.sound) in
        let here : reading_on e (before ++ last.0 ∷ [])
        ≡ after_passed (length front) (reads r.now.hunts (units ++ fault_taken)) =
        ap (λ (f : List Placed → Stream Packet). f (before ++ last.0 ∷ [])) same_reading
        ∙ ap (reading_on m) (sym last.1) ∙ read_more fault_taken in
        (f.skipped ∙ ap (λ (z : Stream Packet). z.skipped) here, f.held ∙ ap (λ (z : Stream Packet). z.held) here)

    -- those of its packet before the hunt's first unit are among those that it holds
    pub held_falls : (first : FirstByte) → BeginsHunt kind x.half byte first → first.passed ≤ held_of e
    held_falls first b =
        by (held_by m r.now.hunts units x at byte first b (sound (Faulty x) t) (grows (Faulty x) t).fault) where
          by : (first.passed ≡ 0) ⊎ (first.passed + 1 ≤ (reads r.now.hunts (units ++ fault_taken)).held) →
              first.passed ≤ held_of e
          by (inl h) = (let i = h in omega (arith, i))
          by (inr h) = (let i = h in let s = shown.1 in omega (arith, i, s))

    pub given_falls : (heard_of reads from_fault
        (fed_from reads from_fault r (map One (units_at kind at byte)))).given
        ≡ (heard_of reads from_fault r).given ++ said_by at (Faulty x)
    given_falls =
        let q = quiet m next (from_few kind x.half at byte) in
        ap (λ y. (heard_of reads from_fault y).given) falls_to
        ∙ given_fallen reads r fault_taken next at x none (grows (Faulty x) t) q.0 q.1

    pub keeps_falls : (z : SourceMachine) (skipped now : ℕ) (its_front : List Placed) → skipped ≡ skipped_by e →
        now + length its_front ≡ held_of e → reads_on z ≡ reads_on m → reading_on z ≡ reads_on z true →
        ArePassed (reads_on m true) its_front → StandsOn z (its_front ++ next) →
        Keeps z (past + (count + skipped)) now its_front (fed_from reads from_fault r (map One (units_at kind at byte)))
    keeps_falls z skipped now its_front s h same mode passed list =
        subst (λ y. Keeps z (past + (count + skipped)) now its_front y) (sym falls_to) (record {
          stands = list;
          reading = mode;
          passed = subst (λ (f : Bool → List Placed → Stream Packet). ArePassed (f true) its_front) (sym same) passed;
          past_is =
              (let a = k.past_is in let b = k.count_is in let c = shown.0 in let d = s in
              let fault : (reads r.now.hunts (units ++ fault_taken)).fault ≡ fault_at at x =
              (grows (Faulty x) t).fault in
              let old : Stretch = record { hunts = r.now.hunts; count = r.now.count; units = units ++ fault_taken } in
              let lost : lost_in reads from_fault old
              ≡ (r.now.count + (reads r.now.hunts (units ++ fault_taken)).skipped) + 0 =
              ap (λ o. (r.now.count + (reads r.now.hunts (units ++ fault_taken)).skipped) + tail_by reads from_fault o
              (reads r.now.hunts (units ++ fault_taken)).held) fault in
              let p = sum_by_push (lost_in reads from_fault) r.past old in
              (let q : past + (count + skipped) ≡ sum_by (lost_in reads from_fault) (r.past ++ old ∷ []) =
              omega (arith, a, b, c, d, lost, p) in q)
              ∙ ap (λ (f : Bool → List Placed → Stream Packet). sum_by (lost_in f from_fault) (r.past ++ old ∷ []))
              (sym same));
          count_is = (let a = shown.1 in let b = h in omega (arith, a, b));
        })

-- a cut
pub keeps_parted : (m z : SourceMachine) (past count : ℕ) (front : List Placed) (r : Stretches) (skipped held : ℕ) →
    Keeps m past count front r → is_live m ≡ true → skipped ≡ skipped_by m → held ≡ held_of m →
    reads_on z ≡ reads_on m → reading_on z ≡ reads_on z true → StandsOn z [] →
    Keeps z (past + (count + skipped + held)) 0 [] (parted (reads_on m) from_fault r)
keeps_parted m z past count front r skipped held k live s h same mode list = record {
  stands = list;
  reading = mode;
  passed = none_passed (reads_on z true);
  past_is =
      (let shown = shown_kept m past count front r k live in
      let a = k.past_is in let b = k.count_is in let d = s in let f = h in
      let c = shown.0 in let g = shown.1 in
      let none = none_kept m past count front r k live in
      let lost : lost_in (reads_on m) from_fault r.now
      ≡ (r.now.count + (reads_on m r.now.hunts r.now.units).skipped) + (reads_on m r.now.hunts r.now.units).held =
      ap (λ o. (r.now.count + (reads_on m r.now.hunts r.now.units).skipped) + tail_by (reads_on m) from_fault o
      (reads_on m r.now.hunts r.now.units).held) none in
      let p = sum_by_push (lost_in (reads_on m) from_fault) r.past r.now in
      (let q : past + (count + skipped + held) ≡ sum_by (lost_in (reads_on m) from_fault) (r.past ++ r.now ∷ []) =
      omega (arith, a, b, c, d, f, g, lost, p) in q)
      ∙ ap (λ (f : Bool → List Placed → Stream Packet). sum_by (lost_in f from_fault) (r.past ++ r.now ∷ []))
      (sym same));
  count_is = refl;
}

-- what it shows
pub shows : (m : SourceMachine) (past count : ℕ) (front : List Placed) (r : Stretches) → Keeps m past count front r →
    is_live m ≡ true →
    (past + count + skipped_by m ≡ (heard_of (reads_on m) from_fault r).skipped)
    × (held_of m ≡ (heard_of (reads_on m) from_fault r).held)
shows m past count front r k live =
    let s = shown_kept m past count front r k live in
    let c = s.0 in let a = k.past_is in let b = k.count_is in
    (omega (arith, a, b, c), s.1)

pub locks : (m : SourceMachine) (past count : ℕ) (front : List Placed) (r : Stretches) → Keeps m past count front r →
    has_locked m ≡ (heard_of (reads_on m) from_fault r).locked
locks m past count front r k =
    locks_units m (front ++ r.now.units) k.stands
    ∙ ap (λ (f : List Placed → Stream Packet). (f (front ++ r.now.units)).locked) k.reading
    ∙ ap (λ (x : Stream Packet). x.locked) (k.passed r.now.units)

pub goes_of : (s : Step Packet) → ((x : Fault) → s ≡ Faulty x → ⊥) → goes_on s ≡ true
goes_of Quiet e = refl
goes_of Skipping e = refl
goes_of (Item half v) e = refl
goes_of (Locked skipped half v) e = refl
goes_of (Faulty f) e = absurd (e f refl)
