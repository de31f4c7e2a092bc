-- What a guess follows, byte by byte of its source.
use Rattle.std.proofs.Common.{◌≡◌, ℕ, zero, suc, ◌+◌, ◌≤◌, List, [], ◌∷◌, ◌++◌, drop, length, refl, sym, ◌∙◌, ap}
use Rattle.std.proofs.Common.{subst, arith, inl, inr, None, Bool, true, false, cond}
use Rattle.std.specs.Prelude.{flat_map, is_none, not}
use Rattle.trace_values.specs.declared.fault.Fault.{Fault}
use Rattle.trace_values.specs.declared.step.Step.{Step}
use Rattle.trace_values.specs.declared.step.Step.TheVariants.{Quiet, Skipping, Item, Locked, Fault as Faulty}
use Rattle.trace_values.specs.Nibbles.{low_of, high_of}
use Rattle.trace_values.specs.Placed.{Place, Placed}
use Rattle.trace_values.specs.Stream.{Said, Notice, Kept, Stream, Grows, HuntBy, fault_by, given_by, goes_on}
use Rattle.trace_values.specs.Walk.{by_unit}
use Rattle.trace_values.proofs.Quiet as quieting
use Rattle.itm_grammar.specs.declared.packet.ItmPacket.TheVariants.{Sync}
use Rattle.itm_grammar.specs.declared.partial.Partial.TheVariants.{Header}
use Rattle.itm_grammar.specs.Rule.{rule}
use Rattle.itm_codec.specs.Reading.{pattern}
use Rattle.stp_grammar.specs.declared.packet.StpPacket.TheVariants.{Async}
use Rattle.stp_grammar.specs.declared.partial.Partial.TheVariants.{Start}
use Rattle.stp_grammar.specs.Rule.{rule as stp_rule}
use Rattle.stp_codec.specs.Decoder as stp
use Rattle.stp_codec.specs.Nibbles.{nibbles_to}
use Rattle.stp_codec.specs.Reading.{pattern as stp_pattern}
use Rattle.source_events.specs.declared.packet.Packet.{Packet}
use Rattle.source_events.specs.declared.plan.SourceKind.{SourceKind}
use Rattle.source_events.specs.declared.plan.SourceKind.TheVariants.{Itm as ItmKind, Stp as StpKind}
use Rattle.source_machine.specs.Units.{before_on, kind_of as kind_on, reads_on, taken_on, units_after, units_at}
use Rattle.source_machine.specs.Units.{units_from}
use Rattle.source_machine.specs.UnitLaws.{quiet}
use Rattle.source_machine.specs.declared.machine.SourceMachine.{SourceMachine}
use Rattle.source_machine.specs.declared.machine.SourceMachine.TheVariants.{Itm as ItmSource, Stp as StpSource}
use Rattle.stretch_readings.specs.declared.heard.Heard.{Heard}
use Rattle.stretch_readings.specs.Stretches.{Stretch, Stretches, from_fault, heard_of, parted, told}
use Rattle.stretch_readings.specs.Steps.{said_by, raised}
use Rattle.stretch_readings.specs.Guessing.{AllBefore, AllWithin, as_guess, at_next, before_first, guess_of, guessed_in}
use Rattle.stretch_readings.specs.Guessing.{has_fault}
use Rattle.stretch_readings.proofs.Feeding.{fallen, longer, told_broken, told_longer, told_none}
use Rattle.stretch_readings.proofs.Guesses.{before_later, follows_next, guesses_now, hunted_all, hunted_before}
use Rattle.stretch_readings.proofs.Guesses.{near_guessed, near_next, near_told, within_before}
use Rattle.recovering_machines.specs.Guess.{Continues, Follows, HasSaid, IsOver, ReadsByte, ReadsOn, StateOf, Tracks}
use Rattle.recovering_machines.specs.Guess.{comes_after_fault, guessed_by, near_by}
use Rattle.recovering_machines.specs.Source.{Answers, Stands, kind_of, reads_of, with_byte}
use Rattle.recovering_machines.specs.declared.guess.Guess.{Guess}
use Rattle.recovering_machines.specs.declared.source.RecoveringSource.{RecoveringSource}
use Rattle.recovering_machines.proofs.Bytes.{falls_by, goes_by, none_kept}
use Rattle.recovering_machines.proofs.ReadingOn.{starts}

-- a hunt over at most two units has not locked
seeks : (m : SourceMachine) (w : List Placed) → length w ≤ 2 → (reads_on m true w).locked ≡ false
seeks (ItmSource d) w l = (quieting.quiet pattern Sync (by_unit rule) Header w (omega (arith, l))).locked
seeks (StpSource d) w l =
    (quieting.quiet stp_pattern Async (by_unit (stp_rule (stp.order_of d))) Start w (omega (arith, l))).locked

-- the units of a byte are at its offset
within_to : (half at byte : ℕ) → AllWithin at (nibbles_to half at byte)
within_to zero at byte = (refl, tt)
within_to (suc half) at byte = (refl, (refl, tt))

within_taken : (kind : SourceKind) (at byte : ℕ) (s : Step Packet) → AllWithin at (taken_on kind at byte s)
within_taken ItmKind at byte s = (refl, tt)
within_taken StpKind at byte Quiet = (refl, (refl, tt))
within_taken StpKind at byte Skipping = (refl, (refl, tt))
within_taken StpKind at byte (Item half v) = (refl, (refl, tt))
within_taken StpKind at byte (Locked skipped half v) = (refl, (refl, tt))
within_taken StpKind at byte (Faulty x) = within_to x.half at byte

within_from : (kind : SourceKind) (half at byte : ℕ) → AllWithin at (units_from kind half at byte)
within_from ItmKind half at byte = (refl, tt)
within_from StpKind zero at byte = (refl, (refl, tt))
within_from StpKind (suc half) at byte = (refl, tt)

-- those from a half on: one, and those after it
parts_from : (kind : SourceKind) (half at byte : ℕ) →
    (b : Placed) × (units_from kind half at byte ≡ b ∷ units_after kind half at byte)
parts_from ItmKind half at byte = (record { unit = byte; place = record { at = at; half = 0 } }, refl)
parts_from StpKind zero at byte = (low_of at byte, refl)
parts_from StpKind (suc half) at byte = (high_of at byte, refl)

few_from : (kind : SourceKind) (half at byte : ℕ) → length (units_from kind half at byte) ≤ 2
few_from ItmKind half at byte = omega arith
few_from StpKind zero at byte = omega arith
few_from StpKind (suc half) at byte = omega arith

pub all_before : (at : ℕ) (u w : List Placed) → AllBefore at u → AllBefore at w → AllBefore at (u ++ w)
all_before at [] w a b = b
all_before at (x ∷ u) w a b = (a.0, all_before at u w a.1 b)

said_more : {W : Type 0} (start at : ℕ) → start ≤ at → (old more : List (W × Place)) → HasSaid start old →
    HasSaid (at + 1) (old ++ more)
said_more start at l [] more h = absurd h
said_more start at l (x ∷ old) more h = omega (arith, l, h)

hunted_kept : {W : Type 0} (start at : ℕ) → start ≤ at → (u w : List Placed) → AllWithin at w →
    (old more : List (W × Place)) → HasSaid start old →
    before_first (old ++ more) (u ++ w) ≡ before_first old u
hunted_kept start at l u w a [] more h = absurd h
hunted_kept start at l u w a (x ∷ old) more h =
    hunted_before x (old ++ more) u w at (omega (arith, l, h)) a

unraised : (n : ℕ) (own : Step Packet) (f : Fault) → Faulty f ≡ raised n own → own ≡ Faulty f
unraised n Quiet f e = cc
unraised n Skipping f e = cc
unraised n (Item half v) f e = cc
unraised n (Locked skipped half v) f e = cc
unraised n (Faulty x) f e = cc

-- a step of a reading in which the hunt goes on, and one in which it locks
skips : (n : ℕ) (own : Step Packet) → Skipping ≡ raised n own → own ≡ Skipping
skips n Quiet e = cc
skips n Skipping e = refl
skips n (Item half v) e = cc
skips n (Locked skipped half v) e = cc
skips n (Faulty x) e = cc

abbrev IsLock : Step Packet → Type 0
IsLock own = (skipped : ℕ) × (half : ℕ) × (v : Packet) × (own ≡ Locked skipped half v)

locks : (n skipped half : ℕ) (v : Packet) (own : Step Packet) → Locked skipped half v ≡ raised n own → IsLock own
locks n skipped half v Quiet e = cc
locks n skipped half v Skipping e = cc
locks n skipped half v (Item h w) e = cc
locks n skipped half v (Locked m h w) e = (m, h, w, refl)
locks n skipped half v (Faulty x) e = cc

goes_lock : (own : Step Packet) → IsLock own → goes_on own ≡ true
goes_lock own w = ap goes_on w.3

module _ (s : RecoveringSource) (r : Stretches) (at byte : ℕ) (step : Step Packet) (k : Stands s r)
    (a : Answers s r at byte step) (start : ℕ) (l : start ≤ at) where
  abbrev reads : Bool → List Placed → Stream Packet
  reads = reads_of s

  abbrev kind : SourceKind
  kind = kind_of s

  abbrev taken : List Placed
  taken = taken_on kind at byte a.own

  -- the last stretch with them
  abbrev here : Stretch
  here = (longer reads r taken).now

  none : (reads r.now.hunts r.now.units).fault ≡ None
  none = none_kept s.machine s.past s.count k.front r k.keeps s.live

  within : AllWithin at taken
  within = within_taken kind at byte a.own

  before_here : AllBefore start r.now.units → AllBefore (at + 1) here.units
  before_here b =
      all_before (at + 1) r.now.units taken (before_later start (at + 1) r.now.units (omega (arith, l)) b)
      (within_before at (at + 1) taken (omega arith) within)

  -- where nothing more is guessed, nothing more is
  over_goes : IsOver reads r start → IsOver reads (longer reads r taken) (at + 1)
  over_goes (inl f) = inl f
  over_goes (inr h) =
      inr (subst (λ g. HasSaid (at + 1) g) (sym a.grows.given)
      (said_more start at l (reads r.now.hunts r.now.units).given (given_by at a.own) h))

  over_guess : IsOver reads r start →
      guessed_in reads from_fault (comes_after_fault reads r) here ≡ guesses_now reads from_fault r
  over_guess (inl f) =
      ap (λ c. guessed_in reads from_fault c here) f ∙ sym (ap (λ c. guessed_in reads from_fault c r.now) f)
  over_guess (inr h) =
      ap (λ u. cond (comes_after_fault reads r) (guess_of reads from_fault (drop 1 u)) [])
      (ap (λ g. before_first g (r.now.units ++ taken)) a.grows.given
      ∙ hunted_kept start at l r.now.units taken within (reads r.now.hunts r.now.units).given (given_by at a.own) h)

  -- no fault
  module _ (on : goes_on a.own ≡ true) where
    pub shape : with_byte s r at byte ≡ longer reads r taken
    shape = goes_by reads r at byte kind a.own on a.sound a.grows.fault

    told_here : told reads from_fault here ≡ told reads from_fault r.now ++ said_by at step
    told_here = told_longer reads r taken at a.own none on a.grows
        ∙ ap (λ x. told reads from_fault r.now ++ said_by at x) (sym a.is)

    pub over_state : IsOver reads r start → IsOver reads (with_byte s r at byte) (at + 1)
    over_state o = subst (λ x. IsOver reads x (at + 1)) (sym shape) (over_goes o)

    pub over_near : IsOver reads r start → near_by s (with_byte s r at byte) ≡ near_by s r ++ said_by at step
    over_near o =
        ap (near_by s) shape ∙ near_told reads from_fault r here (said_by at step) (over_guess o) told_here

    pub all_after : AllBefore start r.now.units → AllBefore (at + 1) (with_byte s r at byte).now.units
    all_after b = subst (λ (x : Stretches). AllBefore (at + 1) x.now.units) (sym shape) (before_here b)

  -- the hunt goes on, and the machine has read the byte on
  module _ (m e : SourceMachine) (is : a.own ≡ Skipping) (answer : Step Packet) (o : ReadsOn reads r m)
      (same_kind : kind_on m ≡ kind) (same_reads : reads_on m ≡ reads)
      (t : ReadsByte m e o.rest at byte answer) where
    on_skip : goes_on a.own ≡ true
    on_skip = ap goes_on is

    given_still : (reads r.now.hunts here.units).given ≡ []
    given_still =
        a.grows.given ∙ ap (λ g. g ++ given_by at a.own) o.given ∙ ap (given_by at) is

    parts : here.units ≡ o.first ∷ (o.rest ++ units_at kind at byte)
    parts = ap (λ w. r.now.units ++ w) (all_of kind is) ∙ ap (λ u. u ++ units_at kind at byte) o.parts where
      all_of : (kind : SourceKind) → a.own ≡ Skipping → taken_on kind at byte a.own ≡ units_at kind at byte
      all_of ItmKind e = refl
      all_of StpKind e = ap (λ (x : Step Packet). taken_on StpKind at byte x) e

    abbrev more : List Placed
    more = o.rest ++ units_at kind at byte

    pub skip_state : ReadsOn reads (with_byte s r at byte) e
    skip_state = subst (λ x. ReadsOn reads x e) (sym (shape on_skip)) (record {
      after = o.after;
      first = o.first;
      rest = more;
      parts = parts;
      seeks =
          (subst (λ x. Grows (reads r.now.hunts r.now.units) (reads r.now.hunts here.units) at x) is
          a.grows).hunt.1;
      given = given_still;
      goes = subst (λ (kd : SourceKind). Continues e (o.rest ++ units_at kd at byte)) same_kind t.goes;
    })

    hunted_is : guessed_in reads from_fault (comes_after_fault reads r) here ≡ guess_of reads from_fault more
    hunted_is =
        ap (λ c. guessed_in reads from_fault c here) o.after
        ∙ ap (λ g. guess_of reads from_fault (drop 1 (before_first g here.units))) given_still
        ∙ ap (λ u. guess_of reads from_fault (drop 1 u)) parts

    guesses_are : guesses_now reads from_fault r ≡ guess_of reads from_fault o.rest
    guesses_are =
        ap (λ c. guessed_in reads from_fault c r.now) o.after
        ∙ ap (λ g. guess_of reads from_fault (drop 1 (before_first g r.now.units))) o.given
        ∙ ap (λ u. guess_of reads from_fault (drop 1 u)) o.parts

    read_more : guess_of reads from_fault more ≡ guess_of reads from_fault o.rest ++ guessed_by at answer
    read_more =
        subst (λ (f : Bool → List Placed → Stream Packet). guess_of f from_fault more
        ≡ guess_of f from_fault o.rest ++ guessed_by at answer) same_reads
        (subst (λ (kd : SourceKind). guess_of (reads_on m) from_fault (o.rest ++ units_at kd at byte)
        ≡ guess_of (reads_on m) from_fault o.rest ++ guessed_by at answer) same_kind t.given)

    pub skip_near : near_by s (with_byte s r at byte) ≡ near_by s r ++ guessed_by at answer
    skip_near =
        ap (near_by s) (shape on_skip)
        ∙ near_guessed reads from_fault r here (guessed_by at answer)
        (hunted_is ∙ read_more ∙ ap (λ g. g ++ guessed_by at answer) (sym guesses_are))
        (told_none reads r.now o.given none)
        (told_none reads here given_still (a.grows.fault ∙ ap (fault_by at) is))

  -- it locks
  module _ (m : SourceMachine) (skipped half : ℕ) (v : Packet) (is : a.own ≡ Locked skipped half v)
      (o : ReadsOn reads r m) (b : AllBefore start r.now.units) where
    on_lock : goes_on a.own ≡ true
    on_lock = ap goes_on is

    given_first : (reads r.now.hunts here.units).given ≡ given_by at a.own
    given_first = a.grows.given ∙ ap (λ g. g ++ given_by at a.own) o.given

    pub lock_state : IsOver reads (with_byte s r at byte) (at + 1)
    lock_state = subst (λ x. IsOver reads x (at + 1)) (sym (shape on_lock))
        (inr (subst (λ g. HasSaid (at + 1) g) (sym given_first)
        (subst (λ x. HasSaid (at + 1) (given_by at x)) (sym is) (omega arith))))

    abbrev first : Said Packet × Place
    first = (Notice skipped, record { at = at; half = half })

    abbrev later : Said Packet × Place
    later = (Kept v, record { at = at; half = half })

    hunted_here : before_first (reads r.now.hunts here.units).given here.units ≡ r.now.units
    hunted_here =
        ap (λ g. before_first g here.units) (given_first ∙ ap (given_by at) is)
        ∙ hunted_all first (later ∷ []) r.now.units taken (before_later start at r.now.units l b) within

    pub lock_near : near_by s (with_byte s r at byte) ≡ near_by s r ++ said_by at step
    lock_near =
        ap (near_by s) (shape on_lock)
        ∙ near_told reads from_fault r here (said_by at step)
        (ap (λ u. cond (comes_after_fault reads r) (guess_of reads from_fault (drop 1 u)) [])
        (hunted_here ∙ ap (λ g. before_first g r.now.units) (sym o.given))) (told_here on_lock)

  -- while it hunts it gives nothing else, and has no fault
  pub seeks_none : (m : SourceMachine) → ReadsOn reads r m → (reads r.now.hunts r.now.units).locked ≡ true → ⊥
  seeks_none m o e = (let c : true ≡ false = sym e ∙ o.seeks in cc)

  -- a fault
  module _ (x : Fault) (is : a.own ≡ Faulty x) (e : SourceMachine)
      (goes : Continues e (units_after kind x.half at byte))
      (same_reads : reads_on e ≡ reads) (same_kind : kind_on e ≡ kind)
      (given : (reads false (units_after kind x.half at byte)).given ≡ [])
      (sound : (reads false (units_after kind x.half at byte)).fault ≡ None) where
    abbrev next : List Placed
    next = units_from kind x.half at byte

    grows : Grows (reads r.now.hunts r.now.units) (reads r.now.hunts here.units) at (Faulty x)
    grows = subst (λ y. Grows (reads r.now.hunts r.now.units) (reads r.now.hunts here.units) at y) is a.grows

    abbrev last : Stretch
    last = (fallen reads r taken next).now

    fell : with_byte s r at byte ≡ fallen reads r taken next
    fell =
        falls_by reads r at byte kind x (quiet s.machine (low_of at byte ∷ (high_of at byte ∷ [])) (omega arith)).1
        (subst (λ (y : Step Packet). (reads r.now.hunts (r.now.units ++ before_on kind at byte y)).fault ≡ None) is
        a.sound)
        (subst (λ (y : Step Packet). (reads r.now.hunts (r.now.units ++ taken_on kind at byte y)).fault
        ≡ fault_by {V = Packet} at (Faulty x)) is grows.fault)
        ∙ ap (λ (y : Step Packet). fallen reads r (taken_on kind at byte y) next) (sym is)

    quiet_next : ((reads true next).given ≡ []) × ((reads true next).fault ≡ None)
    quiet_next = quiet s.machine next (few_from kind x.half at byte)

    fault_here : has_fault reads from_fault here ≡ true
    fault_here = ap (λ o. not (is_none o)) grows.fault

    parts_next : (b : Placed) × (next ≡ b ∷ units_after kind x.half at byte)
    parts_next = parts_from kind x.half at byte

    pub fault_state : ReadsOn reads (with_byte s r at byte) e
    fault_state = subst (λ y. ReadsOn reads y e) (sym fell) (record {
      after = follows_next reads from_fault (longer reads r taken) last ∙ fault_here;
      first = parts_next.0;
      rest = units_after kind x.half at byte;
      parts = parts_next.1;
      seeks = seeks s.machine next (few_from kind x.half at byte);
      given = quiet_next.0;
      goes = goes;
    })

    pub fault_before : AllBefore (at + 1) (with_byte s r at byte).now.units
    fault_before = subst (λ (y : Stretches). AllBefore (at + 1) y.now.units) (sym fell)
        (within_before at (at + 1) next (omega arith) (within_from kind x.half at byte))

    no_guess : guess_of reads from_fault (units_after kind x.half at byte) ≡ []
    no_guess =
        ap (λ (y : Stretches). flat_map as_guess (heard_of reads at_next y).given)
        (starts reads kind x.half at byte sound)
        ∙ ap (flat_map as_guess) (told_none reads
        (record { hunts = false; count = 0; units = units_after kind x.half at byte }) given sound)

    guess_next : guessed_in reads from_fault (has_fault reads from_fault here) last ≡ []
    guess_next =
        ap (λ c. guessed_in reads from_fault c last) fault_here
        ∙ ap (λ g. guess_of reads from_fault (drop 1 (before_first g next))) quiet_next.0
        ∙ ap (λ u. guess_of reads from_fault (drop 1 u)) parts_next.1
        ∙ no_guess

    pub fault_near : IsOver reads r start → near_by s (with_byte s r at byte) ≡ near_by s r ++ said_by at (Faulty x)
    fault_near o =
        ap (near_by s) fell
        ∙ near_next reads from_fault (longer reads r taken) last guess_next
        (told_none reads last quiet_next.0 quiet_next.1)
        ∙ near_told reads from_fault r here (said_by at (Faulty x)) (over_guess o)
        (told_broken reads r taken at x none grows)

-- a cut
module _ (s : RecoveringSource) (r : Stretches) (k : Stands s r) where
  abbrev reads_ : Bool → List Placed → Stream Packet
  reads_ = reads_of s

  sound_now : (reads_ r.now.hunts r.now.units).fault ≡ None
  sound_now = none_kept s.machine s.past s.count k.front r k.keeps s.live

  abbrev cut_now : Stretch
  cut_now = (parted reads_ from_fault r).now

  no_fault : has_fault reads_ from_fault r.now ≡ false
  no_fault = ap (λ o. not (is_none o)) sound_now

  pub cut_state : (at : ℕ) → IsOver reads_ (parted reads_ from_fault r) at
  cut_state at = inl (follows_next reads_ from_fault r cut_now ∙ no_fault)

  pub cut_near : near_by s (parted reads_ from_fault r) ≡ near_by s r
  cut_near =
      let q = quiet s.machine [] (omega arith) in
      near_next reads_ from_fault r cut_now (ap (λ c. guessed_in reads_ from_fault c cut_now) no_fault)
      (told_none reads_ cut_now q.0 q.1)

-- of a source of the same kind that reads alike
pub same_source : (g : Guess) (s t : RecoveringSource) (at : ℕ) (r : Stretches) → kind_of t ≡ kind_of s →
    reads_of t ≡ reads_of s → Tracks (reads_of s) r (kind_of s) g at → Tracks (reads_of t) r (kind_of t) g at
same_source g s t at r kind reads h =
    subst (λ (f : Bool → List Placed → Stream Packet). Tracks f r (kind_of t) g at) (sym reads)
    (subst (λ (kd : SourceKind). Tracks (reads_of s) r kd g at) (sym kind) h)

-- a step with which a machine goes on that has locked
goes_on_locked : (n at : ℕ) (old new : Stream Packet) (step own : Step Packet) → step ≡ raised n own →
    ((f : Fault) → step ≡ Faulty f → ⊥) →
    ((skipped half : ℕ) (v : Packet) → step ≡ Locked skipped half v → ⊥) → (step ≡ Skipping → ⊥) →
    HuntBy old new at own → (goes_on own ≡ true) × (old.locked ≡ true)
goes_on_locked n at old new step Quiet e f k s h = (refl, h.0)
goes_on_locked n at old new step Skipping e f k s h = absurd (s e)
goes_on_locked n at old new step (Item half v) e f k s h = (refl, h.0)
goes_on_locked n at old new step (Locked skipped half v) e f k s h = absurd (k (n + skipped) half v e)
goes_on_locked n at old new step (Faulty x) e f k s h = absurd (f x e)

-- What an answer to the byte at this offset makes of a guess.
pub record Passes (s : RecoveringSource) (r : Stretches) (at byte : ℕ) (h : Guess)
    (said : List (Said (Heard Packet) × Place)) : Type 0 where
  pub follows : Follows h s (at + 1) (with_byte s r at byte)
  pub near : near_by s (with_byte s r at byte) ≡ near_by s r ++ said

module _ (s : RecoveringSource) (r : Stretches) (at byte : ℕ) (step : Step Packet) (k : Stands s r)
    (a : Answers s r at byte step) (start : ℕ) (l : start ≤ at) (g h : Guess)
    (same_kind : kind_on h.machine ≡ kind_on g.machine) (same_reads : reads_on h.machine ≡ reads_on g.machine)
    (f : Follows g s start r) where
  abbrev after : Stretches
  after = with_byte s r at byte

  follows_by : AllBefore (at + 1) after.now.units → StateOf (reads_of s) after h.is_reading h.machine (at + 1) →
      Follows h s (at + 1) after
  follows_by b state = record {
    kind_is = same_kind ∙ f.kind_is;
    reads_is = same_reads ∙ f.reads_is;
    before = b;
    state = state;
  }

  state_by : (b : Bool) → h.is_reading ≡ b → StateOf (reads_of s) after b h.machine (at + 1) →
      StateOf (reads_of s) after h.is_reading h.machine (at + 1)
  state_by b e x = subst (λ (c : Bool). StateOf (reads_of s) after c h.machine (at + 1)) (sym e) x

  over_by : (b : Bool) → StateOf (reads_of s) r b g.machine start →
      ((reads_of s r.now.hunts r.now.units).locked ≡ true) → IsOver (reads_of s) r start
  over_by true o e = absurd (seeks_none s r at byte step k a start l g.machine o e)
  over_by false o e = o

  -- an answer of a source that has locked: nothing more is guessed
  pub stays : h.is_reading ≡ g.is_reading → ((x : Fault) → step ≡ Faulty x → ⊥) →
      ((skipped half : ℕ) (v : Packet) → step ≡ Locked skipped half v → ⊥) → (step ≡ Skipping → ⊥) →
      Passes s r at byte h (said_by at step)
  stays same on no_lock no_skip = by g.is_reading refl f.state where
    both : (goes_on a.own ≡ true) × ((reads_of s r.now.hunts r.now.units).locked ≡ true)
    both = goes_on_locked r.now.count at (reads_of s r.now.hunts r.now.units)
        (reads_of s r.now.hunts (r.now.units ++ taken_on (kind_of s) at byte a.own)) step a.own a.is on no_lock no_skip
        a.grows.hunt

    by : (b : Bool) → g.is_reading ≡ b → StateOf (reads_of s) r b g.machine start →
        Passes s r at byte h (said_by at step)
    by true e o = absurd (seeks_none s r at byte step k a start l g.machine o both.1)
    by false e o = record {
      follows = follows_by (all_after s r at byte step k a start l both.0 f.before)
          (state_by false (same ∙ e) (over_state s r at byte step k a start l both.0 o));
      near = over_near s r at byte step k a start l both.0 o;
    }

  -- a lock ends the guess
  pub ends : (skipped half : ℕ) (v : Packet) → step ≡ Locked skipped half v → h.is_reading ≡ false →
      Passes s r at byte h (said_by at step)
  ends skipped half v is off = by g.is_reading f.state where
    own : IsLock a.own
    own = locks r.now.count skipped half v a.own (sym is ∙ a.is)

    on : goes_on a.own ≡ true
    on = goes_lock a.own own

    by : (b : Bool) → StateOf (reads_of s) r b g.machine start → Passes s r at byte h (said_by at step)
    by true o = record {
      follows = follows_by (all_after s r at byte step k a start l on f.before)
          (state_by false off
          (lock_state s r at byte step k a start l g.machine own.0 own.1 own.2 own.3 o f.before));
      near = lock_near s r at byte step k a start l g.machine own.0 own.1 own.2 own.3 o f.before;
    }
    by false o = record {
      follows = follows_by (all_after s r at byte step k a start l on f.before)
          (state_by false off (over_state s r at byte step k a start l on o));
      near = over_near s r at byte step k a start l on o;
    }

  -- a fault begins one
  pub begins : (x : Fault) → step ≡ Faulty x → h.is_reading ≡ true →
      Continues h.machine (units_after (kind_on g.machine) x.half at byte) →
      (reads_on g.machine false (units_after (kind_on g.machine) x.half at byte)).given ≡ [] →
      (reads_on g.machine false (units_after (kind_on g.machine) x.half at byte)).fault ≡ None →
      Passes s r at byte h (said_by at (Faulty x))
  begins x is on goes given sound = record {
    follows = follows_by
        (fault_before s r at byte step k a start l x own h.machine goes_so (same_reads ∙ f.reads_is)
        (same_kind ∙ f.kind_is) given_so sound_so)
        (state_by true on (fault_state s r at byte step k a start l x own h.machine goes_so (same_reads ∙ f.reads_is)
        (same_kind ∙ f.kind_is) given_so sound_so));
    near = fault_near s r at byte step k a start l x own h.machine goes_so (same_reads ∙ f.reads_is)
        (same_kind ∙ f.kind_is) given_so sound_so (over_by g.is_reading f.state locked);
  } where
    own : a.own ≡ Faulty x
    own = unraised r.now.count a.own x (sym is ∙ a.is)

    locked : (reads_of s r.now.hunts r.now.units).locked ≡ true
    locked = (subst (λ y. Grows (reads_of s r.now.hunts r.now.units)
        (reads_of s r.now.hunts (r.now.units ++ taken_on (kind_of s) at byte a.own)) at y) own a.grows).hunt.1

    goes_so : Continues h.machine (units_after (kind_of s) x.half at byte)
    goes_so = subst (λ (kd : SourceKind). Continues h.machine (units_after kd x.half at byte)) f.kind_is goes

    at_source : (P : Stream Packet → Type 0) →
        P (reads_on g.machine false (units_after (kind_on g.machine) x.half at byte)) →
        P (reads_of s false (units_after (kind_of s) x.half at byte))
    at_source P p =
        subst (λ (q : Bool → List Placed → Stream Packet). P (q false (units_after (kind_of s) x.half at byte)))
        f.reads_is
        (subst (λ (kd : SourceKind). P (reads_on g.machine false (units_after kd x.half at byte))) f.kind_is p)

    given_so : (reads_of s false (units_after (kind_of s) x.half at byte)).given ≡ []
    given_so = at_source (λ y. y.given ≡ []) given

    sound_so : (reads_of s false (units_after (kind_of s) x.half at byte)).fault ≡ None
    sound_so = at_source (λ y. y.fault ≡ None) sound

  -- a byte over which the source hunts
  module _ (is : step ≡ Skipping) where
    own_skips : a.own ≡ Skipping
    own_skips = skips r.now.count a.own (sym is ∙ a.is)

    pub reads_on_skip : (answer : Step Packet) → g.is_reading ≡ true → h.is_reading ≡ true →
        ((u : List Placed) → Continues g.machine u → ReadsByte g.machine h.machine u at byte answer) →
        Passes s r at byte h (guessed_by at answer)
    reads_on_skip answer was on reads = record {
      follows = follows_by (all_after s r at byte step k a start l (ap goes_on own_skips) f.before)
          (state_by true on (skip_state s r at byte step k a start l g.machine h.machine own_skips answer o f.kind_is
          f.reads_is (reads o.rest o.goes)));
      near = skip_near s r at byte step k a start l g.machine h.machine own_skips answer o f.kind_is f.reads_is
          (reads o.rest o.goes);
    } where
      o : ReadsOn (reads_of s) r g.machine
      o = subst (λ (c : Bool). StateOf (reads_of s) r c g.machine start) was f.state

    pub idle_on_skip : g.is_reading ≡ false → h.is_reading ≡ false → Passes s r at byte h (said_by at step)
    idle_on_skip was off = record {
      follows = follows_by (all_after s r at byte step k a start l (ap goes_on own_skips) f.before)
          (state_by false off (over_state s r at byte step k a start l (ap goes_on own_skips) o));
      near = over_near s r at byte step k a start l (ap goes_on own_skips) o;
    } where
      o : IsOver (reads_of s) r start
      o = subst (λ (c : Bool). StateOf (reads_of s) r c g.machine start) was f.state
