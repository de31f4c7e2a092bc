-- One more byte.
use Rattle.std.proofs.Common.{◌≡◌, ℕ, suc, ◌+◌, ◌-◌, ◌≤◌, List, [], ◌∷◌, ◌++◌, refl, sym, ◌∙◌, ap, arith, subst}
use Rattle.std.proofs.Common.{append_assoc, append-nil, drop, get_or, inl, inr, length, take}
use Rattle.std.proofs.Common.{Option, None, Some, Bool, true, false}
use Rattle.std.specs.Prelude.{map}
use Rattle.std.proofs.lemmas.List.{length-take-le, length_push, map-append}
use Rattle.std.proofs.lemmas.List.Sums.{sum_by_push}
use Rattle.trace_values.specs.declared.cell.Cell.{Cell}
use Rattle.trace_values.specs.declared.fault.Fault.{Fault}
use Rattle.trace_values.specs.declared.fault.Reason.{Reason}
use Rattle.trace_values.specs.Placed.{Place, Placed, byte_at, placed_from}
use Rattle.trace_values.proofs.Placing.{placed_from_push}
use Rattle.trace_values.specs.Stream.{Stream}
use Rattle.trace_values.specs.Hunted.{Found, hunt, hunted_by}
use Rattle.frame_grammar.specs.Port.{PortItem, Full, State, start, rule}
use Rattle.port_sync.specs.Hunting.{pattern}
use Rattle.deformatter.specs.Frames.{GrowsByFrame}
use Rattle.deformatter.specs.Growth.{PortGrows, fault_by}
use Rattle.deformatter.specs.Reading.{PortStream, cells_in, port_stream, port_hunted}
use Rattle.deformatter.specs.Resume.{again, taken_again}
use Rattle.deformatter.specs.Block as block
use Rattle.deformatter.specs.Block.{EachByte, FedAs, FedFrame, IsInside, TakesBlock, TakesPiece}
use Rattle.deformatter.specs.Deformatter as deformatter
use Rattle.deformatter.specs.declared.block.Taken.{Taken}
use Rattle.deformatter.specs.declared.deformatter.Deformatter.{Deformatter}
use Rattle.deformatter.specs.declared.step.PortStep.{PortStep}
use Rattle.deformatter.specs.declared.step.PortStep.TheVariants.{Quiet, Half, Full as FullEnds, Frame, Locked}
use Rattle.deformatter.specs.declared.step.PortStep.TheVariants.{Fault as Faulty}
use Rattle.stretch_readings.specs.Stretches.{Stretch, Stretches, One, fed, fed_from, resumed_by, lost_in, tail_by}
use Rattle.stretch_readings.proofs.StretchLaws.{from_append}
use Rattle.trace_values.proofs.Standings.{none_of}
use Rattle.deformatter.proofs.Readings.{shows}
use Rattle.recovering_machines.specs.Port.{IsFed, Keeps, PassesFrame, Stands, items_by}
use Rattle.recovering_machines.specs.Port.{from_halfword, raised, with_bytes, with_units}
use Rattle.recovering_machines.specs.declared.port.RecoveringPort.{RecoveringPort}

-- the port's reading beside the generic one
abbrev SameAs : Stream PortItem → PortStream → Type 0
SameAs s p = (s.fault ≡ p.fault) × (s.held ≡ p.tail) × (s.skipped ≡ p.skipped)

by_found : (n : ℕ) (o : Option (Found State PortItem)) → SameAs (hunted_by n o) (port_hunted n o)
by_found n None = (refl, refl, refl)
by_found n (Some f) = (refl, refl, refl)

pub same : (h : Bool) (u : List Placed) → SameAs (items_by h u) (port_stream h u)
same false u = (refl, refl, refl)
same true u = by_found (hunt pattern Full rule start u).units (hunt pattern Full rule start u).found

pub goes_fault : (s : PortStep) → ((f : Fault) → s ≡ Faulty f → ⊥) → fault_by s ≡ None
goes_fault Quiet e = refl
goes_fault Half e = refl
goes_fault FullEnds e = refl
goes_fault Frame e = refl
goes_fault (Locked n) e = refl
goes_fault (Faulty f) e = absurd (e f refl)

-- a byte that is no fault is one more of the stretch, as one whose answer is quiet
pub byte_goes : (r : Stretches) (at byte : ℕ) →
    (port_stream r.now.hunts (r.now.units ++ byte_at at byte ∷ [])).fault ≡ None →
    fed items_by from_halfword r (One (byte_at at byte)) ≡ with_units r (r.now.units ++ byte_at at byte ∷ [])
byte_goes r at byte none =
    let w : List Placed = r.now.units ++ byte_at at byte ∷ [] in
    ap (λ (o : Option (Place × Reason)). resumed_by items_by from_halfword o (with_units r w))
    ((same r.now.hunts w).0 ∙ none)

pub quiet_goes : (r : Stretches) (at byte : ℕ) →
    PortGrows (port_stream r.now.hunts r.now.units) (port_stream r.now.hunts (r.now.units ++ byte_at at byte ∷ [])) at
    Quiet → fed items_by from_halfword r (One (byte_at at byte)) ≡ with_units r (r.now.units ++ byte_at at byte ∷ [])
quiet_goes r at byte g = byte_goes r at byte g.fault

-- and so are more of them
all_go : (IsSo : List Placed → ℕ → ℕ → Type 0) (h : Bool) →
    ((u : List Placed) (at byte : ℕ) → IsSo u at byte → (port_stream h (u ++ byte_at at byte ∷ [])).fault ≡ None) →
    (front : List ℕ) (r : Stretches) (at : ℕ) → r.now.hunts ≡ h → (port_stream h r.now.units).fault ≡ None →
    EachByte IsSo r.now.units at front →
    (with_bytes r at front ≡ with_units r (r.now.units ++ placed_from at front))
    × ((port_stream h (r.now.units ++ placed_from at front)).fault ≡ None)
all_go IsSo h goes [] r at m none e = (
  ap (with_units r) (sym (append-nil r.now.units)),
  ap (λ (u : List Placed). (port_stream h u).fault) (append-nil r.now.units) ∙ none,
)
all_go IsSo h goes (x ∷ front) r at m none e =
    let w : List Placed = r.now.units ++ byte_at at x ∷ [] in
    let sound = goes r.now.units at x e.0 in
    let one = byte_goes r at x (ap (λ (b : Bool). (port_stream b w).fault) m ∙ sound) in
    let rest = all_go IsSo h goes front (with_units r w) (at + 1) m sound e.1 in
    let all = append_assoc r.now.units (byte_at at x ∷ []) (placed_from (at + 1) front) in (
      ap (λ (s : Stretches). with_bytes s (at + 1) front) one ∙ rest.0 ∙ ap (with_units r) all,
      ap (λ (u : List Placed). (port_stream h u).fault) (sym all) ∙ rest.1,
    )

pub front_goes : (front : List ℕ) (r : Stretches) (at : ℕ) → (port_stream r.now.hunts r.now.units).fault ≡ None →
    EachByte (block.Answers r.now.hunts Quiet) r.now.units at front →
    (with_bytes r at front ≡ with_units r (r.now.units ++ placed_from at front))
    × ((port_stream r.now.hunts (r.now.units ++ placed_from at front)).fault ≡ None)
front_goes front r at none e =
    all_go (block.Answers r.now.hunts Quiet) r.now.hunts (λ u a b g. g.fault) front r at refl none e

-- the bytes of a whole frame
inside_goes : (h : Bool) (u : List Placed) (at byte : ℕ) → IsInside h u at byte →
    (port_stream h (u ++ byte_at at byte ∷ [])).fault ≡ None
inside_goes h u at byte i = elim i [ inl g ↦ g.fault | inr g ↦ g.fault ]

pub frame_goes : (r : Stretches) (at : ℕ) (bytes : List ℕ) → (port_stream r.now.hunts r.now.units).fault ≡ None →
    FedFrame r.now.hunts r.now.units at bytes →
    with_bytes r at bytes ≡ with_units r (r.now.units ++ placed_from at bytes)
frame_goes r at bytes none t =
    let h = r.now.hunts in
    let here : List Placed = r.now.units ++ placed_from at t.front in
    let last : Placed = byte_at (at + length t.front) t.last in
    let in_two : placed_from at bytes ≡ placed_from at t.front ++ last ∷ [] =
    ap (placed_from at) t.parts ∙ placed_from_push at t.front t.last in
    let front = all_go (IsInside h) h (inside_goes h) t.front r at refl none t.quiet in
    ap (λ (w : List Placed). fed_from items_by from_halfword r (map One w)) in_two
    ∙ ap (λ l. fed_from items_by from_halfword r l) (map-append One (placed_from at t.front) (last ∷ []))
    ∙ from_append items_by from_halfword (map One (placed_from at t.front)) (One last ∷ []) r
    ∙ ap (λ (s : Stretches). fed items_by from_halfword s (One last)) front.0
    ∙ byte_goes (with_units r here) (at + length t.front) t.last t.ends.fault
    ∙ ap (with_units r) (append_assoc r.now.units (placed_from at t.front) (last ∷ [])
    ∙ ap (λ (w : List Placed). r.now.units ++ w) (sym in_two))

-- Bytes of which all but the last are quiet, and the last is answered so.
module _ (r : Stretches) (at : ℕ) (bytes : List ℕ) (own : PortStep)
    (none : (port_stream r.now.hunts r.now.units).fault ≡ None)
    (t : FedAs (block.Answers r.now.hunts Quiet) (block.Answers r.now.hunts own) r.now.units at bytes) where
  -- the units before the last, and the last
  abbrev pub here : List Placed
  here = r.now.units ++ placed_from at t.front

  abbrev pub last : Placed
  last = byte_at (at + length t.front) t.last

  in_two : placed_from at bytes ≡ placed_from at t.front ++ last ∷ []
  in_two = ap (placed_from at) t.parts ∙ placed_from_push at t.front t.last

  pub all : r.now.units ++ placed_from at bytes ≡ here ++ last ∷ []
  all = ap (λ (w : List Placed). r.now.units ++ w) in_two
      ∙ sym (append_assoc r.now.units (placed_from at t.front) (last ∷ []))

  pub before : (port_stream r.now.hunts here).fault ≡ None
  before = (front_goes t.front r at none t.quiet).1

  pub split : with_bytes r at bytes ≡ fed items_by from_halfword (with_units r here) (One last)
  split =
      ap (λ (w : List Placed). fed_from items_by from_halfword r (map One w)) in_two
      ∙ ap (λ l. fed_from items_by from_halfword r l) (map-append One (placed_from at t.front) (last ∷ []))
      ∙ from_append items_by from_halfword (map One (placed_from at t.front)) (One last ∷ []) r
      ∙ ap (λ (s : Stretches). fed items_by from_halfword s (One last)) (front_goes t.front r at none t.quiet).0

  pub is_fed : (step : PortStep) → step ≡ raised r.now.count own → IsFed r at bytes step
  is_fed step e = record {
    front = t.front;
    last = t.last;
    parts = t.parts;
    quiet = t.quiet;
    ends = record { own = own; is = e; grows = t.ends };
  }

  module _ (e : Deformatter) (past count : ℕ) (d : Deformatter) (k : Keeps d past count r)
      (same_mode : deformatter.is_hunter e ≡ deformatter.is_hunter d)
      (stands : deformatter.Stands e (r.now.units ++ placed_from at bytes)) where
    abbrev h : Bool
    h = r.now.hunts

    abbrev w : List Placed
    w = here ++ last ∷ []

    mode : deformatter.is_hunter e ≡ h
    mode = same_mode ∙ k.mode

    pub stands_last : deformatter.Stands e w
    stands_last = subst (λ (u : List Placed). deformatter.Stands e u) all stands

    pub keeps_goes : fault_by own ≡ None → Keeps e past count (with_bytes r at bytes)
    keeps_goes go =
        subst (λ (s : Stretches). Keeps e past count s)
        (sym (split ∙ ap (λ (o : Option (Place × Reason)). resumed_by items_by from_halfword o (with_units r w))
        ((same h w).0 ∙ t.ends.fault ∙ go)))
        (record { stands = stands_last; mode = mode; past_is = k.past_is; count_is = k.count_is })

    pub keeps_falls : (f : Place × Reason) (z : Deformatter) (skipped left : ℕ) → fault_by own ≡ Some f →
        skipped ≡ (port_stream (deformatter.is_hunter e) w).skipped →
        left ≡ (port_stream (deformatter.is_hunter e) w).tail - again (deformatter.is_hunter e) w →
        deformatter.Stands z (taken_again (deformatter.is_hunter e) w) → deformatter.is_hunter z ≡ true →
        Keeps z (past + (count + skipped)) left (with_bytes r at bytes)
    keeps_falls f z skipped left fault s l list hunts =
        let j = same h w in
        let old : Stretch = record { hunts = h; count = r.now.count; units = w } in
        let s' : skipped ≡ (items_by h w).skipped = s ∙ ap (λ m. (port_stream m w).skipped) mode ∙ sym j.2 in
        let l' : left ≡ (items_by h w).held - again h w = l ∙ ap (λ m. (port_stream m w).tail - again m w) mode
        ∙ ap (λ n. n - again h w) (sym j.1) in
        let falls : (items_by h w).fault ≡ Some f = j.0 ∙ t.ends.fault ∙ fault in
        subst (λ (x : Stretches). Keeps z (past + (count + skipped)) left x)
        (sym (split ∙ ap (λ (o : Option (Place × Reason)). resumed_by items_by from_halfword o (with_units r w)) falls))
        (record {
          stands = subst (λ m. deformatter.Stands z (taken_again m w)) mode list;
          mode = hunts;
          past_is =
              (let a = k.past_is in let b = k.count_is in let c = s' in
              let lost : lost_in items_by from_halfword old ≡ (r.now.count + (items_by h w).skipped) + 0 =
              ap (λ o. (r.now.count + (items_by h w).skipped) + tail_by items_by from_halfword o
              (items_by h w).held) falls in
              let p = sum_by_push (lost_in items_by from_halfword) r.past old in
              omega (arith, a, b, c, lost, p));
          count_is = l';
        })

-- the last byte of those that were taken
pub last_byte : (front : List ℕ) (x : ℕ) (xs : List ℕ) (d : ℕ) → take (suc (length front)) xs ≡ front ++ x ∷ [] →
    get_or xs (length front) d ≡ x
last_byte [] x [] d e = cc
last_byte [] x (y ∷ xs) d e = cc
last_byte (z ∷ front) x [] d e = cc
last_byte (z ∷ front) x (y ∷ xs) d e = last_byte front x xs d (ap (drop 1) e)

pub last_is : (n : ℕ) (front : List ℕ) (x : ℕ) (xs : List ℕ) (d : ℕ) → n ≤ length xs → take n xs ≡ front ++ x ∷ [] →
    get_or xs (n - 1) d ≡ x
last_is n front x xs d l e =
    let a = length-take-le n xs l in
    let b : length (take n xs) ≡ length front + 1 = ap length e ∙ length_push front x in
    let m : n ≡ suc (length front) = omega (arith, a, b) in
    let k : n - 1 ≡ length front = omega (arith, m) in
    ap (λ (i : ℕ). get_or xs i d) k ∙ last_byte front x xs d (ap (λ (i : ℕ). take i xs) (sym m) ∙ e)

-- where it is live the reading has no fault
pub none_before : (d : Deformatter) (u : List Placed) → deformatter.Stands d u → deformatter.is_live d ≡ true →
    (port_stream (deformatter.is_hunter d) u).fault ≡ None
none_before d u s l = none_of (port_stream (deformatter.is_hunter d) u).fault (sym l
    ∙ (shows (deformatter.mode_of d) (deformatter.is_live d) (deformatter.state_of d) u s.reads).live_is)

-- What a deformatter's call on a piece says of a port's stretches.
module _ (p : RecoveringPort) (e : Deformatter) (at : ℕ) (piece : List ℕ) (taken : Taken) (given : List Cell)
    (t : TakesPiece p.port e at piece taken given) (r : Stretches) (k : Stands p r) where
  abbrev bytes : List ℕ
  bytes = take taken.bytes piece

  took : TakesBlock p.port e r.now.units
      (record { at = at; bytes = bytes; step = taken.step; given = given })
  took = t.takes r.now.units k.stands

  pub none : (port_stream r.now.hunts r.now.units).fault ≡ None
  none = ap (λ h. (port_stream h r.now.units).fault) (sym k.mode) ∙ none_before p.port r.now.units k.stands p.live

  pub fed_so : FedAs (block.Answers r.now.hunts Quiet) (block.Answers r.now.hunts taken.step) r.now.units at bytes
  fed_so =
      subst (λ h. FedAs (block.Answers h Quiet) (block.Answers h taken.step) r.now.units at bytes) k.mode took.fed

  pub cells_are : cells_in (port_stream r.now.hunts (r.now.units ++ placed_from at bytes))
      ≡ cells_in (port_stream r.now.hunts r.now.units) ++ given
  cells_are =
      subst (λ h. cells_in (port_stream h (r.now.units ++ placed_from at bytes))
      ≡ cells_in (port_stream h r.now.units) ++ given) k.mode took.cells

  abbrev pub front : List Placed
  front = here r at bytes taken.step none fed_so

  abbrev pub end : Placed
  end = last r at bytes taken.step none fed_so

  pub stands_all : deformatter.Stands e (front ++ end ∷ [])
  stands_all = stands_last r at bytes taken.step none fed_so e p.past p.count p.port k t.same took.list

  pub mode_is : deformatter.is_hunter e ≡ r.now.hunts
  mode_is = t.same ∙ k.mode

  pub sound : (port_stream (deformatter.is_hunter e) front).fault ≡ None
  sound = ap (λ h. (port_stream h front).fault) mode_is ∙ before r at bytes taken.step none fed_so

  pub goes_on : fault_by taken.step ≡ None → Keeps e p.past p.count (with_bytes r at bytes)
  goes_on go = keeps_goes r at bytes taken.step none fed_so e p.past p.count p.port k t.same took.list go

  pub falls_back : (f : Place × Reason) (z : Deformatter) (skipped left : ℕ) → fault_by taken.step ≡ Some f →
      skipped ≡ (port_stream (deformatter.is_hunter e) (front ++ end ∷ [])).skipped →
      left ≡ (port_stream (deformatter.is_hunter e) (front ++ end ∷ [])).tail
      - again (deformatter.is_hunter e) (front ++ end ∷ []) →
      deformatter.Stands z (taken_again (deformatter.is_hunter e) (front ++ end ∷ [])) →
      deformatter.is_hunter z ≡ true → Keeps z (p.past + (p.count + skipped)) left (with_bytes r at bytes)
  falls_back f z skipped left fault s l list hunts =
      keeps_falls r at bytes taken.step none fed_so e p.past p.count p.port k t.same took.list f z skipped left fault s
      l list hunts

  -- its last byte is the piece's at that index
  pub end_is : (d byte : ℕ) → byte ≡ get_or piece (taken.bytes - 1) d → end.unit ≡ byte
  end_is d byte i = sym (last_is taken.bytes fed_so.front fed_so.last piece d t.bytes.1 fed_so.parts) ∙ sym i

  -- at a lock the deformatter has skipped what the answer says
  pub lock_is : (m n : ℕ) → taken.step ≡ Locked m →
      ((u : List Placed) → deformatter.Stands e u → n ≡ (port_stream (deformatter.is_hunter e) u).skipped) → n ≡ m
  lock_is m n is skipped =
      skipped (front ++ end ∷ []) stands_all ∙ ap (λ h. (port_stream h (front ++ end ∷ [])).skipped) mode_is
      ∙ (subst (λ s. PortGrows (port_stream r.now.hunts front) (port_stream r.now.hunts (front ++ end ∷ []))
      end.place.at s) is fed_so.ends).hunt.2

  pub answered : (own step : PortStep) → taken.step ≡ own → step ≡ raised r.now.count own → IsFed r at bytes step
  answered own step o s =
      is_fed r at bytes own none
      (subst (λ x. FedAs (block.Answers r.now.hunts Quiet) (block.Answers r.now.hunts x) r.now.units at bytes) o fed_so)
      step s

-- but for a lock's count
pub unraised : (count : ℕ) (s : PortStep) → ((n : ℕ) → s ≡ Locked n → ⊥) → s ≡ raised count s
unraised count Quiet n = refl
unraised count Half n = refl
unraised count FullEnds n = refl
unraised count Frame n = refl
unraised count (Locked m) n = absurd (n m refl)
unraised count (Faulty f) n = refl

-- a whole frame that its deformatter passed over
pub frame_passed : (p : RecoveringPort) (r : Stretches) (k : Stands p r) (f : List Placed) (halves at : ℕ)
    (bytes : List ℕ) (id : Option ℕ) → FedFrame (deformatter.is_hunter p.port) r.now.units at bytes →
    GrowsByFrame (port_stream (deformatter.is_hunter p.port) r.now.units)
    (port_stream (deformatter.is_hunter p.port) (r.now.units ++ placed_from at bytes)) (placed_from at bytes) f halves
    id → PassesFrame r at bytes f halves id
frame_passed p r k f halves at bytes id fed grows =
    let u = r.now.units in
    let w = placed_from at bytes in
    let own : FedFrame r.now.hunts u at bytes = subst (λ (h : Bool). FedFrame h u at bytes) k.mode fed in
    record {
      list =
          frame_goes r at bytes (ap (λ h. (port_stream h u).fault) (sym k.mode) ∙ none_before p.port u k.stands p.live)
          own;
      grows =
          subst (λ (h : Bool). GrowsByFrame (port_stream h u) (port_stream h (u ++ w)) w f halves id) k.mode grows;
      fed = own;
    }
