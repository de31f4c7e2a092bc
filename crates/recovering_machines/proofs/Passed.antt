-- Units that a hunt passes over first: what a reading after them says of the reading without them.
use Rattle.std.proofs.Common.{◌≡◌, ℕ, zero, suc, ◌+◌, ◌-◌, ◌≤◌, List, [], ◌∷◌, ◌++◌, length, refl}
use Rattle.std.proofs.Common.{sym, ◌∙◌, ap, arith, Option, None, Some, Bool, true, false, cond}
use Rattle.std.specs.Prelude.{map, ◌==◌, ◌&&◌}
use Rattle.std.specs.Option.{option_map}
use Rattle.std.proofs.lemmas.Bool.Decides.{nat_tests}
use Rattle.std.proofs.lemmas.List.{map-append}
use Rattle.trace_values.specs.declared.next.Next.{Next}
use Rattle.trace_values.specs.declared.pattern.Pattern.{Pattern}
use Rattle.trace_values.specs.declared.step.Step.{Step}
use Rattle.trace_values.specs.declared.step.Step.TheVariants.{Quiet, Skipping, Item, Locked, Fault as Faulty}
use Rattle.trace_values.specs.Decorated.{kept_if, decorate, decorated}
use Rattle.trace_values.specs.Hunted.{Found, Hunt, begun, hunt, hunt_from, hunt_on, hunted, hunted_by, no_hunt, run_after}
use Rattle.trace_values.specs.Placed.{Place, Placed}
use Rattle.trace_values.specs.Stream.{Said, Notice, Kept, Stream, Grows, HuntBy, fault_by, given_by, goes_on, kept}
use Rattle.trace_values.specs.Walk.{by_unit}
use Rattle.stp_grammar.specs.declared.packet.Order.{Order}
use Rattle.stp_grammar.specs.declared.packet.StpPacket.{StpPacket}
use Rattle.stp_grammar.specs.declared.packet.StpPacket.TheVariants.{Async}
use Rattle.stp_grammar.specs.declared.partial.Partial.TheVariants.{Start}
use Rattle.stp_grammar.specs.Attribution.{attribute}
use Rattle.stp_grammar.specs.Rule.{rule as stp_rule}
use Rattle.stp_codec.specs.Reading.{pattern, packets_in, items_at}
use Rattle.source_events.specs.declared.packet.Packet.{Packet}
use Rattle.source_events.specs.declared.packet.Packet.TheVariants.{Stp as StpOf}
use Rattle.source_events.specs.declared.plan.SourceKind.{SourceKind}
use Rattle.source_events.specs.declared.plan.SourceKind.TheVariants.{Itm, Stp}
use Rattle.source_events.specs.Packets.{given_as, stream_as}
use Rattle.source_machine.specs.Units.{before_on, taken_on}
use Rattle.stretch_readings.specs.Steps.{raised}
use Rattle.recovering_machines.specs.Units.{ArePassed, after_passed, later}

-- a step whose lock tells so many units fewer
abbrev pub lowered : {V : Type 0} → ℕ → Step V → Step V
lowered n Quiet = Quiet
lowered n Skipping = Skipping
lowered n (Item half v) = Item half v
lowered n (Locked skipped half v) = Locked (skipped - n) half v
lowered n (Faulty f) = Faulty f

pub on_lowered : {V : Type 0} → (n : ℕ) (s : Step V) → goes_on (lowered n s) ≡ goes_on s
on_lowered n Quiet = refl
on_lowered n Skipping = refl
on_lowered n (Item half v) = refl
on_lowered n (Locked skipped half v) = refl
on_lowered n (Faulty f) = refl

pub fault_lowered : {V : Type 0} → (n at : ℕ) (s : Step V) → fault_by at (lowered n s) ≡ fault_by at s
fault_lowered n at Quiet = refl
fault_lowered n at Skipping = refl
fault_lowered n at (Item half v) = refl
fault_lowered n at (Locked skipped half v) = refl
fault_lowered n at (Faulty f) = refl

pub taken_lowered : (n : ℕ) (kind : SourceKind) (at byte : ℕ) (s : Step Packet) →
    taken_on kind at byte (lowered n s) ≡ taken_on kind at byte s
taken_lowered n Itm at byte s = refl
taken_lowered n Stp at byte Quiet = refl
taken_lowered n Stp at byte Skipping = refl
taken_lowered n Stp at byte (Item half v) = refl
taken_lowered n Stp at byte (Locked skipped half v) = refl
taken_lowered n Stp at byte (Faulty f) = refl

pub before_lowered : (n : ℕ) (kind : SourceKind) (at byte : ℕ) (s : Step Packet) →
    before_on kind at byte (lowered n s) ≡ before_on kind at byte s
before_lowered n Itm at byte s = refl
before_lowered n Stp at byte Quiet = refl
before_lowered n Stp at byte Skipping = refl
before_lowered n Stp at byte (Item half v) = refl
before_lowered n Stp at byte (Locked skipped half v) = refl
before_lowered n Stp at byte (Faulty f) = refl

module _ {V : Type 0} (n : ℕ) where
  abbrev count_of : Said V → ℕ
  count_of (Notice skipped) = skipped
  count_of (Kept v) = 0

  same_said : (x y : Said V × Place) → later n x ≡ later n y → x ≡ y
  same_said (Notice a, p) (Notice b, q) e =
      let i : n + a ≡ n + b = ap (λ (x : Said V × Place). count_of x.0) e in
      let j : p ≡ q = ap (λ (x : Said V × Place). x.1) e in
      ap (λ (k : ℕ). (Notice k, p)) (let k : a ≡ b = omega (arith, i) in k) ∙ ap (λ (z : Place). (Notice b, z)) j
  same_said (Notice a, p) (Kept w, q) e =
      (let f : Notice (n + a) ≡ Kept w = ap (λ (x : Said V × Place). x.0) e in cc)
  same_said (Kept v, p) (Notice b, q) e =
      (let f : Kept v ≡ Notice (n + b) = ap (λ (x : Said V × Place). x.0) e in cc)
  same_said (Kept v, p) (Kept w, q) e = e

  pub same_given : (xs ys : List (Said V × Place)) → map (later n) xs ≡ map (later n) ys → xs ≡ ys
  same_given [] [] e = refl
  same_given [] (y ∷ ys) e = cc
  same_given (x ∷ xs) [] e = cc
  same_given (x ∷ xs) (y ∷ ys) e =
      let h : later n x ≡ later n y = cc in
      let t : map (later n) xs ≡ map (later n) ys = cc in
      ap (λ (z : Said V × Place). z ∷ xs) (same_said x y h) ∙ ap (λ (l : List (Said V × Place)). y ∷ l) (same_given xs ys t)

  given_lowered : (at : ℕ) (old new : Stream V) (s : Step V) → HuntBy old (after_passed n new) at s →
      map (later n) (given_by at (lowered n s)) ≡ given_by at s
  given_lowered at old new Quiet h = refl
  given_lowered at old new Skipping h = refl
  given_lowered at old new (Item half v) h = refl
  given_lowered at old new (Locked skipped half v) h =
      ap (λ (k : ℕ). (Notice k, record { at = at; half = half }) ∷ ((Kept v, record { at = at; half = half }) ∷ []))
      (let i = h.2 in let e : n + (skipped - n) ≡ skipped = omega (arith, i) in e)
  given_lowered at old new (Faulty f) h = refl

  hunt_lowered : (at : ℕ) (old new : Stream V) (s : Step V) → HuntBy (after_passed n old) (after_passed n new) at s →
      HuntBy old new at (lowered n s)
  hunt_lowered at old new Quiet h = (h.0, h.1, (let i = h.2 in omega (arith, i)))
  hunt_lowered at old new Skipping h = h
  hunt_lowered at old new (Item half v) h = (h.0, h.1, (let i = h.2 in omega (arith, i)))
  hunt_lowered at old new (Locked skipped half v) h = (h.0, h.1, (let i = h.2 in omega (arith, i)))
  hunt_lowered at old new (Faulty f) h = h

  -- a reading after them grows as the one without them does
  pub grows_lowered : (at : ℕ) (old new : Stream V) (s : Step V) →
      Grows (after_passed n old) (after_passed n new) at s → Grows old new at (lowered n s)
  grows_lowered at old new s g = record {
    given = same_given new.given (old.given ++ given_by at (lowered n s))
        (g.given
        ∙ ap (λ (l : List (Said V × Place)). map (later n) old.given ++ l)
        (sym (given_lowered at (after_passed n old) new s g.hunt))
        ∙ sym (map-append (later n) old.given (given_by at (lowered n s))));
    fault = g.fault ∙ sym (fault_lowered n at s);
    hunt = hunt_lowered at old new s g.hunt;
  }

  -- with them counted, the answer is the same
  pub raised_lowered : (count at : ℕ) (old new : Stream V) (s : Step V) → HuntBy old (after_passed n new) at s →
      raised count s ≡ raised (count + n) (lowered n s)
  raised_lowered count at old new Quiet h = refl
  raised_lowered count at old new Skipping h = refl
  raised_lowered count at old new (Item half v) h = refl
  raised_lowered count at old new (Locked skipped half v) h =
      ap (λ (k : ℕ). Locked k half v)
      (let i = h.2 in let e : count + skipped ≡ count + n + (skipped - n) = omega (arith, i) in e)
  raised_lowered count at old new (Faulty f) h = refl

  -- items have no count
  pub kept_later : (items : List (V × Place)) → map (later n) (kept items) ≡ kept items
  kept_later [] = refl
  kept_later (x ∷ items) = ap (λ (l : List (Said V × Place)). (Kept x.0, x.1) ∷ l) (kept_later items)

-- no units are passed over in any reading
none_later : {V : Type 0} → (l : List (Said V × Place)) → map (later 0) l ≡ l
none_later [] = refl
none_later ((Notice k, p) ∷ l) =
    ap (λ (j : ℕ). (Notice j, p) ∷ map (later 0) l) (let e : 0 + k ≡ k = omega arith in e)
    ∙ ap (λ r. (Notice k, p) ∷ r) (none_later l)
none_later ((Kept v, p) ∷ l) = ap (λ r. (Kept v, p) ∷ r) (none_later l)

pub none_passed : {V : Type 0} → (reading : List Placed → Stream V) → ArePassed reading []
none_passed {V} reading u =
    let s = reading u in
    ap (λ (l : List (Said V × Place)). record {
      given = l;
      fault = s.fault;
      held = s.held;
      skipped = s.skipped;
      locked = s.locked;
    }) (sym (none_later s.given))
    ∙ ap (λ (k : ℕ). record {
      given = map (later 0) s.given;
      fault = s.fault;
      held = s.held;
      skipped = k;
      locked = s.locked;
    }) (let e : s.skipped ≡ 0 + s.skipped = omega arith in e)

-- Any hunt passes over a unit that is not in its pattern.
module _ {S V : Type 0} (p : Pattern) (v : V) (rule : S → Placed → Next S V) (start : S) where
  abbrev found_later : Found S V → Found S V
  found_later f = record f { skipped = 1 + f.skipped }

  abbrev hunt_later : Hunt S V → Hunt S V
  hunt_later h = record { units = suc h.units; run = h.run; found = option_map found_later h.found }

  abbrev sought : Hunt S V → Placed → Bool → Hunt S V
  sought h b t =
      cond t (record {
        units = suc h.units;
        run = 0;
        found = Some (record { skipped = h.units - p.most; place = b.place; reading = begun start v b.place });
      })
      (record { units = suc h.units; run = run_after p h.run b.unit; found = None })

  abbrev locks : Hunt S V → Placed → Bool
  locks h b = b.unit == p.last && h.run == p.most

  run_few : (run b units : ℕ) → run ≤ units → run_after p run b ≤ suc units
  run_few run b units l = grind (arith, nat_tests)

  counted : (h : Hunt S V) (b : Placed) (o : Option (Found S V)) → h.run ≤ h.units →
      (hunt_on p v rule start h b o).run ≤ (hunt_on p v rule start h b o).units
  counted h b (Some f) l = omega arith
  counted h b None l = by (locks h b) where
    by : (t : Bool) → (sought h b t).run ≤ (sought h b t).units
    by true = omega arith
    by false = run_few h.run b.unit h.units l

  step_later : (h : Hunt S V) (b : Placed) (o : Option (Found S V)) → h.run ≤ h.units →
      hunt_on p v rule start (hunt_later h) b (option_map found_later o) ≡ hunt_later (hunt_on p v rule start h b o)
  step_later h b (Some f) l = refl
  step_later h b None l = by (locks h b) refl where
    by : (t : Bool) → locks h b ≡ t → sought (hunt_later h) b t ≡ hunt_later (sought h b t)
    by true e =
        ap (λ (k : ℕ). record {
          units = suc (suc h.units);
          run = 0;
          found = Some (record { skipped = k; place = b.place; reading = begun start v b.place });
        })
        (let i = e in let j = l in let k : suc h.units - p.most ≡ 1 + (h.units - p.most) = grind (arith, nat_tests) in k)
    by false e = refl

  from_later : (u : List Placed) (h : Hunt S V) → h.run ≤ h.units →
      hunt_from p v rule start (hunt_later h) u ≡ hunt_later (hunt_from p v rule start h u)
  from_later [] h l = refl
  from_later (b ∷ u) h l =
      ap (λ (x : Hunt S V). hunt_from p v rule start x u) (step_later h b h.found l)
      ∙ from_later u (hunt_on p v rule start h b h.found) (counted h b h.found l)

  by_later : (h : Hunt S V) (o : Option (Found S V)) →
      hunted_by (suc h.units) (option_map found_later o) ≡ after_passed 1 (hunted_by h.units o)
  by_later h None = ap (λ (k : ℕ). record { given = []; fault = None; held = 0; skipped = k; locked = false })
      (let e : suc h.units ≡ 1 + h.units = omega arith in e)
  by_later h (Some f) = ap (λ (l : List (Said V × Place)). record {
    given = (Notice (1 + f.skipped), f.place) ∷ l;
    fault = f.reading.fault;
    held = length f.reading.rest;
    skipped = 1 + f.skipped;
    locked = true;
  }) (sym (kept_later 1 f.reading.items))

  pub unit_passed : (z : Placed) → (z.unit == p.last && 0 == p.most) ≡ false → run_after p 0 z.unit ≡ 0 →
      ArePassed (hunted p v rule start) (z ∷ [])
  unit_passed z last run u =
      let first : hunt_on p v rule start no_hunt z None ≡ hunt_later no_hunt =
      ap (λ (t : Bool). sought no_hunt z t) last
      ∙ ap (λ (k : ℕ). record { units = suc zero; run = k; found = None }) run in
      ap (λ (x : Hunt S V). let h = hunt_from p v rule start x u in hunted_by h.units h.found) first
      ∙ ap (λ (x : Hunt S V). hunted_by x.units x.found) (from_later u no_hunt (omega arith))
      ∙ by_later (hunt p v rule start u) (hunt p v rule start u).found

-- and of a reading whose items are made of another's, what that one passes over
decorate_later : {V W T : Type 0} → (make : T → V → Option W × T) (n : ℕ) (l : List (Said V × Place)) (t : T) →
    decorate make t (map (later n) l) ≡ map (later n) (decorate make t l)
decorate_later make n [] t = refl
decorate_later make n ((Notice k, p) ∷ l) t = ap (λ r. (Notice (n + k), p) ∷ r) (decorate_later make n l t)
decorate_later {V} {W} {T} make n ((Kept v, p) ∷ l) t =
    ap (kept_if (make t v).0 p) (decorate_later make n l (make t v).1) ∙ by (make t v).0 where
      by : (o : Option W) → kept_if o p (map (later n) (decorate make (make t v).1 l))
          ≡ map (later n) (kept_if o p (decorate make (make t v).1 l))
      by None = refl
      by (Some w) = refl

given_later : {V W : Type 0} → (f : V → W) (n : ℕ) (l : List (Said V × Place)) →
    given_as f (map (later n) l) ≡ map (later n) (given_as f l)
given_later f n [] = refl
given_later f n ((Notice k, p) ∷ l) = ap (λ r. (Notice (n + k), p) ∷ r) (given_later f n l)
given_later f n ((Kept v, p) ∷ l) = ap (λ r. (Kept (f v), p) ∷ r) (given_later f n l)

-- an STP source's hunt passes over a nibble 0
pub zero_passed : (order : Order) (z : Placed) → z.unit ≡ 0 →
    ArePassed (λ (u : List Placed). stream_as StpOf (items_at order true u)) (z ∷ [])
zero_passed order z e u =
    let s = packets_in order true u in
    let own : packets_in order true (z ∷ u) ≡ after_passed 1 s =
    unit_passed pattern Async (by_unit (stp_rule order)) Start z
    (ap (λ (k : ℕ). k == 0 && 0 == 21) e) (ap (run_after pattern 0) e) u in
    ap (λ (x : Stream StpPacket). stream_as StpOf (decorated attribute [] x)) own
    ∙ ap (λ (l : List (Said Packet × Place)). record {
      given = l;
      fault = s.fault;
      held = s.held;
      skipped = 1 + s.skipped;
      locked = s.locked;
    })
    (ap (given_as StpOf) (decorate_later attribute 1 s.given [])
    ∙ given_later StpOf 1 (decorate attribute [] s.given))
