-- One more unit, or two.
use Rattle.std.proofs.Common.{◌≡◌, ℕ, ◌-◌, List, [], ◌∷◌, ◌++◌, length, drop, refl, sym, ◌∙◌, ap, arith, append_assoc}
use Rattle.std.proofs.Common.{append-nil, None, Some, Bool, true}
use Rattle.std.specs.Prelude.{map, flat_map}
use Rattle.std.proofs.lemmas.Grind.{flat_map-append}
use Rattle.std.proofs.lemmas.List.{length_push, map-append}
use Rattle.std.proofs.Math.Seq.{drop-append_seam}
use Rattle.trace_values.specs.declared.fault.Fault.{Fault}
use Rattle.trace_values.specs.declared.fault.Reason.{Reason}
use Rattle.trace_values.specs.declared.step.Step.{Step}
use Rattle.trace_values.specs.declared.step.Step.TheVariants.{Quiet, Skipping, Item, Locked, Fault as Faulty}
use Rattle.trace_values.specs.Placed.{Place, Placed}
use Rattle.trace_values.specs.Stream.{Stream, Grows, given_by, fault_by, goes_on}
use Rattle.stretch_readings.specs.Stretches.{One, Stretch, Stretches, fed, fed_from, parted, resumed_by, told, heard}
use Rattle.stretch_readings.specs.Stretches.{broken, heard_of, from_fault}
use Rattle.stretch_readings.specs.Steps.{said_by, raised}

-- the last of these units
pub last_unit : (u : List Placed) (b : Placed) → drop (length (u ++ b ∷ []) - 1) (u ++ b ∷ []) ≡ b ∷ []
last_unit u b = ap (λ (n : ℕ). drop n (u ++ b ∷ [])) (let e = length_push u b in omega (arith, e))
    ∙ drop-append_seam u (b ∷ [])

module _ {V : Type 0} (reads : Bool → List Placed → Stream V) where
  -- the last stretch with these units more
  abbrev pub longer : Stretches → List Placed → Stretches
  longer r w = record {
    past = r.past;
    now =
        record { hunts = r.now.hunts; count = r.now.count; units = r.now.units ++ w };
  }

  -- a stretch that ends with these units, the last of which is a fault, and the next one
  abbrev pub fallen : Stretches → List Placed → List Placed → Stretches
  fallen r w next = record {
    past = r.past ++ record { hunts = r.now.hunts; count = r.now.count; units = r.now.units ++ w } ∷ [];
    now = record { hunts = true; count = (reads r.now.hunts (r.now.units ++ w)).held - 1; units = next };
  }

  pub one_goes : (r : Stretches) (b : Placed) → (reads r.now.hunts (r.now.units ++ b ∷ [])).fault ≡ None →
      fed reads from_fault r (One b) ≡ longer r (b ∷ [])
  one_goes r b e = ap (λ o. resumed_by reads from_fault o (longer r (b ∷ []))) e

  pub one_falls : (r : Stretches) (b : Placed) (f : Place × Reason) →
      (reads r.now.hunts (r.now.units ++ b ∷ [])).fault ≡ Some f →
      fed reads from_fault r (One b) ≡ fallen r (b ∷ []) (b ∷ [])
  one_falls r b f e = ap (λ o. resumed_by reads from_fault o (longer r (b ∷ []))) e
      ∙ ap (λ w. fallen r (b ∷ []) w) (last_unit r.now.units b)

  longer_twice : (r : Stretches) (a b : Placed) → longer (longer r (a ∷ [])) (b ∷ []) ≡ longer r (a ∷ (b ∷ []))
  longer_twice r a b =
      ap (λ w. record { past = r.past; now = record { hunts = r.now.hunts; count = r.now.count; units = w } })
      (append_assoc r.now.units (a ∷ []) (b ∷ []))

  pub two_go : (r : Stretches) (a b : Placed) → (reads r.now.hunts (r.now.units ++ a ∷ [])).fault ≡ None →
      (reads r.now.hunts (r.now.units ++ (a ∷ (b ∷ [])))).fault ≡ None →
      fed_from reads from_fault r (One a ∷ (One b ∷ [])) ≡ longer r (a ∷ (b ∷ []))
  two_go r a b e f =
      ap (λ x. fed reads from_fault x (One b)) (one_goes r a e)
      ∙ one_goes (longer r (a ∷ [])) b (ap (λ w. (reads r.now.hunts w).fault)
      (append_assoc r.now.units (a ∷ []) (b ∷ [])) ∙ f)
      ∙ longer_twice r a b

  pub second_falls : (r : Stretches) (a b : Placed) (f : Place × Reason) →
      (reads r.now.hunts (r.now.units ++ a ∷ [])).fault ≡ None →
      (reads r.now.hunts (r.now.units ++ (a ∷ (b ∷ [])))).fault ≡ Some f →
      fed_from reads from_fault r (One a ∷ (One b ∷ [])) ≡ fallen r (a ∷ (b ∷ [])) (b ∷ [])
  second_falls r a b f e k =
      ap (λ x. fed reads from_fault x (One b)) (one_goes r a e)
      ∙ one_falls (longer r (a ∷ [])) b f (ap (λ w. (reads r.now.hunts w).fault)
      (append_assoc r.now.units (a ∷ []) (b ∷ [])) ∙ k)
      ∙ ap (λ w. record {
        past = r.past ++ record { hunts = r.now.hunts; count = r.now.count; units = w } ∷ [];
        now = record { hunts = true; count = (reads r.now.hunts w).held - 1; units = b ∷ [] };
      }) (append_assoc r.now.units (a ∷ []) (b ∷ []))

  pub first_falls : (r : Stretches) (a b : Placed) (f : Place × Reason) →
      (reads r.now.hunts (r.now.units ++ a ∷ [])).fault ≡ Some f → (reads true (a ∷ (b ∷ []))).fault ≡ None →
      fed_from reads from_fault r (One a ∷ (One b ∷ [])) ≡ fallen r (a ∷ []) (a ∷ (b ∷ []))
  first_falls r a b f e k = ap (λ x. fed reads from_fault x (One b)) (one_falls r a f e)
      ∙ one_goes (fallen r (a ∷ []) (a ∷ [])) b k

  -- what is said with more units
  heard_step : (count at : ℕ) (s : Step V) → goes_on s ≡ true →
      map (heard reads from_fault count) (given_by at s) ≡ said_by at (raised count s)
  heard_step count at Quiet e = refl
  heard_step count at Skipping e = refl
  heard_step count at (Item half v) e = refl
  heard_step count at (Locked skipped half v) e = refl
  heard_step count at (Faulty f) e = cc

  pub no_fault_by : (at : ℕ) (s : Step V) → goes_on s ≡ true → fault_by at s ≡ None
  no_fault_by at Quiet e = refl
  no_fault_by at Skipping e = refl
  no_fault_by at (Item half v) e = refl
  no_fault_by at (Locked skipped half v) e = refl
  no_fault_by at (Faulty f) e = cc

  -- what a stretch tells with more units, with units up to a fault, and where its reading gives nothing
  pub told_longer : (r : Stretches) (w : List Placed) (at : ℕ) (s : Step V) →
      (reads r.now.hunts r.now.units).fault ≡ None → goes_on s ≡ true →
      Grows (reads r.now.hunts r.now.units) (reads r.now.hunts (r.now.units ++ w)) at s →
      told reads from_fault (longer r w).now ≡ told reads from_fault r.now ++ said_by at (raised r.now.count s)
  told_longer r w at s none on g =
      let h = heard reads from_fault r.now.count in
      let old = reads r.now.hunts r.now.units in
      let new = reads r.now.hunts (r.now.units ++ w) in
      let was : told reads from_fault r.now ≡ map h old.given =
      ap (λ o. map h old.given ++ broken reads from_fault o) none ∙ append-nil (map h old.given) in
      ap (λ o. map h new.given ++ broken reads from_fault o) (g.fault ∙ no_fault_by at s on)
      ∙ append-nil (map h new.given)
      ∙ ap (map h) g.given ∙ map-append h old.given (given_by at s)
      ∙ ap (λ l. map h old.given ++ l) (heard_step r.now.count at s on)
      ∙ ap (λ l. l ++ said_by at (raised r.now.count s)) (sym was)

  pub told_broken : (r : Stretches) (w : List Placed) (at : ℕ) (f : Fault) →
      (reads r.now.hunts r.now.units).fault ≡ None →
      Grows (reads r.now.hunts r.now.units) (reads r.now.hunts (r.now.units ++ w)) at (Faulty f) →
      told reads from_fault (longer r w).now ≡ told reads from_fault r.now ++ said_by at (Faulty f)
  told_broken r w at f none g =
      let h = heard reads from_fault r.now.count in
      let old = reads r.now.hunts r.now.units in
      let new = reads r.now.hunts (r.now.units ++ w) in
      let was : told reads from_fault r.now ≡ map h old.given =
      ap (λ o. map h old.given ++ broken reads from_fault o) none ∙ append-nil (map h old.given) in
      ap (λ o. map h new.given ++ broken reads from_fault o) g.fault
      ∙ ap (λ l. map h l ++ said_by at (Faulty f)) (g.given ∙ append-nil old.given)
      ∙ ap (λ l. l ++ said_by at (Faulty f)) (sym was)

  pub told_none : (s : Stretch) → (reads s.hunts s.units).given ≡ [] → (reads s.hunts s.units).fault ≡ None →
      told reads from_fault s ≡ []
  told_none s quiet sound =
      ap (λ l. map (heard reads from_fault s.count) l ++ broken reads from_fault (reads s.hunts s.units).fault) quiet
      ∙ ap (broken reads from_fault) sound

  pub given_longer : (r : Stretches) (w : List Placed) (at : ℕ) (s : Step V) →
      (reads r.now.hunts r.now.units).fault ≡ None → goes_on s ≡ true →
      Grows (reads r.now.hunts r.now.units) (reads r.now.hunts (r.now.units ++ w)) at s →
      (heard_of reads from_fault (longer r w)).given
      ≡ (heard_of reads from_fault r).given ++ said_by at (raised r.now.count s)
  given_longer r w at s none on g =
      let past = flat_map (told reads from_fault) r.past in
      ap (λ l. past ++ l) (told_longer r w at s none on g)
      ∙ sym (append_assoc past (told reads from_fault r.now) (said_by at (raised r.now.count s)))

  -- and what all tell with a new stretch, whose reading gives nothing yet
  pub given_next : (r : Stretches) (w : List Placed) (next : Stretch) (at : ℕ) (f : Fault) →
      (reads r.now.hunts r.now.units).fault ≡ None →
      Grows (reads r.now.hunts r.now.units) (reads r.now.hunts (r.now.units ++ w)) at (Faulty f) →
      told reads from_fault next ≡ [] →
      (heard_of reads from_fault (record { past = r.past ++ (longer r w).now ∷ []; now = next })).given
      ≡ (heard_of reads from_fault r).given ++ said_by at (Faulty f)
  given_next r w next at f none g nothing =
      let past = flat_map (told reads from_fault) r.past in
      let s = (longer r w).now in
      ap (λ l. flat_map (told reads from_fault) (r.past ++ s ∷ []) ++ l) nothing
      ∙ append-nil (flat_map (told reads from_fault) (r.past ++ s ∷ []))
      ∙ flat_map-append (told reads from_fault) r.past (s ∷ [])
      ∙ ap (λ l. past ++ l) (append-nil (told reads from_fault s) ∙ told_broken r w at f none g)
      ∙ sym (append_assoc past (told reads from_fault r.now) (said_by at (Faulty f)))

  pub given_fallen : (r : Stretches) (w next : List Placed) (at : ℕ) (f : Fault) →
      (reads r.now.hunts r.now.units).fault ≡ None →
      Grows (reads r.now.hunts r.now.units) (reads r.now.hunts (r.now.units ++ w)) at (Faulty f) →
      (reads true next).given ≡ [] → (reads true next).fault ≡ None →
      (heard_of reads from_fault (fallen r w next)).given ≡ (heard_of reads from_fault r).given ++ said_by at (Faulty f)
  given_fallen r w next at f none g quiet sound =
      given_next r w (fallen r w next).now at f none g (told_none (fallen r w next).now quiet sound)

  -- a cut says nothing
  pub given_parted : (r : Stretches) → (reads true []).given ≡ [] → (reads true []).fault ≡ None →
      (heard_of reads from_fault (parted reads from_fault r)).given ≡ (heard_of reads from_fault r).given
  given_parted r quiet sound =
      let past = flat_map (told reads from_fault) r.past in
      ap (λ l. flat_map (told reads from_fault) (r.past ++ r.now ∷ []) ++ l)
      (told_none (parted reads from_fault r).now quiet sound)
      ∙ append-nil (flat_map (told reads from_fault) (r.past ++ r.now ∷ []))
      ∙ flat_map-append (told reads from_fault) r.past (r.now ∷ [])
      ∙ ap (λ l. past ++ l) (append-nil (told reads from_fault r.now))
