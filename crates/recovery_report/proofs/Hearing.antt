-- What a recovering source says more with units at places in order is at these places.
use Rattle.std.proofs.Common.{◌≡◌, ℕ, ◌+◌, ◌-◌, ◌<◌, ◌≤◌, List, [], ◌∷◌, ◌++◌, length, map, refl, sym, ◌∙◌, ap, subst}
use Rattle.std.proofs.Common.{arith, inr, append_assoc, append-nil, Option, None, Some, Bool, true, false}
use Rattle.std.specs.Prelude.{is_none, flat_map}
use Rattle.std.proofs.lemmas.Grind.{flat_map-append}
use Rattle.std.proofs.lemmas.List.{drop_all, map-append}
use Rattle.trace_values.specs.declared.cell.Cell.{Cell}
use Rattle.trace_values.specs.declared.fault.Reason.{Reason}
use Rattle.trace_values.specs.Placed.{Place, Placed}
use Rattle.trace_values.specs.Stream.{Said, Notice, Kept, Stream}
use Rattle.trace_values.proofs.OneUnit.{AllOn, FaultOn, RisesOn}
use Rattle.source_events.specs.declared.plan.SourceKind.{SourceKind}
use Rattle.source_events.specs.declared.plan.SourceKind.TheVariants.{Itm, Stp}
use Rattle.source_events.specs.Merge.{AllIn, IsAtMost, start_of}
use Rattle.source_events.proofs.Family.{Within}
use Rattle.source_events.proofs.Merges.{at_most_self, at_most_trans, below_start, start_le}
use Rattle.source_machine.specs.Units.{units_at}
use Rattle.stretch_readings.specs.declared.heard.Heard.{Heard}
use Rattle.stretch_readings.specs.declared.heard.Heard.TheVariants.{Broken}
use Rattle.stretch_readings.specs.Guessing.{at_next}
use Rattle.stretch_readings.specs.Stretches.{Fed, One, Mark, Resumption, Stretch, Stretches, broken, fed, fed_from}
use Rattle.stretch_readings.specs.Stretches.{from_fault, heard, heard_of, parted, renewed, resumed_by, told, with_unit}
use Rattle.stretch_readings.specs.Words.{IsSound}
use Rattle.stretch_readings.proofs.Feeding.{last_unit}
use Rattle.recovering_machines.specs.Run.{units_in}
use Rattle.recovery_report.proofs.Spans.{AllTo, UnitsTo, on_to, to_join, units_join, units_later}

-- the units of a byte, and those of cells
abbrev pub last_of : SourceKind → ℕ → Place
last_of Itm at = start_of at
last_of Stp at = record { at = at; half = 1 }

pub last_at : (kind : SourceKind) (at : ℕ) → (last_of kind at).at ≡ at
last_at Itm at = refl
last_at Stp at = refl

pub units_span : (kind : SourceKind) (at byte : ℕ) → UnitsTo (start_of at) (last_of kind at) (units_at kind at byte)
units_span Itm at byte = (at_most_self (start_of at), at_most_self (start_of at))
units_span Stp at byte = (
  at_most_self (start_of at),
  (inr (refl, (let z : 0 ≤ 1 = omega arith in z)), at_most_self (last_of Stp at)),
)

pub cells_to : (kind : SourceKind) (c : Cell) (cells : List Cell) (n hi : ℕ) → Within n hi (c ∷ cells) →
    (q : Place) × UnitsTo (start_of n) q (units_in kind (c ∷ cells)) × (q.at < hi)
cells_to kind c [] n hi w = (
  last_of kind c.at,
  subst (UnitsTo (start_of n) (last_of kind c.at)) (sym (append-nil (units_at kind c.at c.byte)))
      (units_later (start_of n) (start_of c.at) (last_of kind c.at) (units_at kind c.at c.byte)
      (start_le n c.at w.0) (units_span kind c.at c.byte)),
  subst (λ (k : ℕ). k < hi) (sym (last_at kind c.at)) w.1,
)
cells_to kind c (d ∷ cells) n hi w =
    let rest = cells_to kind d cells (c.at + 1) hi w.2 in
    let last = last_of kind c.at in
    let next : last.at < c.at + 1 = (let k = last_at kind c.at in omega (arith, k)) in (
      rest.0,
      units_join (start_of n) last rest.0 (units_at kind c.at c.byte) (units_in kind (d ∷ cells))
          (units_later (start_of n) (start_of c.at) last (units_at kind c.at c.byte) (start_le n c.at w.0)
          (units_span kind c.at c.byte))
          (units_later last (start_of (c.at + 1)) rest.0 (units_in kind (d ∷ cells))
          (below_start last (c.at + 1) next) rest.1),
      rest.2,
    )

-- from an earlier place on
pub all_later : {W : Type 0} (p q : Place) (n : ℕ) (xs : List (W × Place)) → IsAtMost p q → AllIn q n xs → AllIn p n xs
all_later p q n [] l all = tt
all_later p q n (x ∷ xs) l all = (at_most_trans p q x.1 l all.0, all.1, all.2)

on_append : {W : Type 0} (p : Place) (xs ys : List (W × Place)) → AllOn p xs → AllOn p ys → AllOn p (xs ++ ys)
on_append p [] ys a b = b
on_append p (x ∷ xs) ys a b = (a.0, on_append p xs ys a.1 b)

-- at the place of one more unit
broken_on : {V : Type 0} (reads : Bool → List Placed → Stream V) (way : Resumption) (p : Place)
    (o : Option (Place × Reason)) → FaultOn p None o → AllOn p (broken reads way o)
broken_on reads way p None f = tt
broken_on reads way p (Some g) f = (f, tt)

heard_on : {V : Type 0} (reads : Bool → List Placed → Stream V) (way : Resumption) (count : ℕ) (p : Place)
    (xs : List (Said V × Place)) → AllOn p xs → AllOn p (map (heard reads way count) xs)
heard_on reads way count p [] a = tt
heard_on reads way count p ((Notice k, q) ∷ xs) a = (a.0, heard_on reads way count p xs a.1)
heard_on reads way count p ((Kept v, q) ∷ xs) a = (a.0, heard_on reads way count p xs a.1)

-- What a stretch says that goes on after the fault of a unit is at that unit's place.
abbrev pub GoesOnAt : {V : Type 0} → (Bool → List Placed → Stream V) → Resumption → Type 0
GoesOnAt reads way = (h : Bool) (count : ℕ) (u : List Placed) (b : Placed) →
    AllOn b.place (told reads way (renewed reads way (record { hunts = h; count = count; units = u ++ b ∷ [] })))

module _ {V : Type 0} (reads : Bool → List Placed → Stream V)
    (rises : (h : Bool) (u : List Placed) (b : Placed) → RisesOn (reads h u) (reads h (u ++ b ∷ [])) b.place)
    (begins : (h : Bool) → (reads h []).fault ≡ None) (quiet : (h : Bool) → (reads h []).given ≡ []) where
  -- it hunts from the fault's unit on
  pub from_fault_on : GoesOnAt reads from_fault
  from_fault_on h count u b =
      let first = rises true [] b in
      let c = (reads h (u ++ b ∷ [])).held - 1 in
      let given : (reads true (b ∷ [])).given ≡ first.more = first.given ∙ ap (λ l. l ++ first.more) (quiet true) in
      subst (λ (w : List Placed). AllOn b.place (map (heard reads from_fault c) (reads true w).given
      ++ broken reads from_fault (reads true w).fault)) (sym (last_unit u b))
      (on_append b.place (map (heard reads from_fault c) (reads true (b ∷ [])).given)
      (broken reads from_fault (reads true (b ∷ [])).fault)
      (heard_on reads from_fault c b.place (reads true (b ∷ [])).given (subst (AllOn b.place) (sym given) first.all))
      (broken_on reads from_fault b.place (reads true (b ∷ [])).fault
      (subst (λ (o : Option (Place × Reason)). FaultOn b.place o (reads true (b ∷ [])).fault) (begins true)
      first.fault)))

  -- or it reads on at the next unit
  pub at_next_on : GoesOnAt reads at_next
  at_next_on h count u b =
      let c = (reads h (u ++ b ∷ [])).held - 0 in
      let nothing : map (heard reads at_next c) (reads false []).given
      ++ broken reads at_next (reads false []).fault ≡ [] =
      ap (λ l. map (heard reads at_next c) l ++ broken reads at_next (reads false []).fault) (quiet false)
      ∙ ap (broken reads at_next) (begins false) in
      subst (λ (w : List Placed). AllOn b.place (map (heard reads at_next c) (reads false w).given
      ++ broken reads at_next (reads false w).fault))
      (sym (drop_all (length (u ++ b ∷ []) - 0) (u ++ b ∷ []) (omega arith))) (subst (AllOn b.place) (sym nothing) tt)

-- Readings that rise: what is more with a unit is at its place; what is taken again has no fault.
module _ {V : Type 0} (reads : Bool → List Placed → Stream V)
    (rises : (h : Bool) (u : List Placed) (b : Placed) → RisesOn (reads h u) (reads h (u ++ b ∷ [])) b.place)
    (way : Resumption) (sound : IsSound reads way) (again : GoesOnAt reads way) where
  abbrev pub given : Stretches → List (Said (Heard V) × Place)
  given r = (heard_of reads way r).given

  abbrev pub IsWhole : Stretches → Type 0
  IsWhole r = (reads r.now.hunts r.now.units).fault ≡ None

  -- with one unit more
  record IsMore (r s : Stretches) (p : Place) : Type 0 where
    more : List (Said (Heard V) × Place)
    is : given s ≡ given r ++ more
    all : AllOn p more
    whole : IsWhole s

  module _ (r : Stretches) (b : Placed) (whole : IsWhole r) where
    abbrev old : Stream V
    old = reads r.now.hunts r.now.units

    abbrev new : Stream V
    new = reads r.now.hunts (r.now.units ++ b ∷ [])

    abbrev past : List (Said (Heard V) × Place)
    past = flat_map (told reads way) r.past

    abbrev hear : List (Said V × Place) → List (Said (Heard V) × Place)
    hear l = map (heard reads way r.now.count) l

    on : RisesOn old new b.place
    on = rises r.now.hunts r.now.units b

    was : told reads way r.now ≡ hear old.given
    was = ap (λ o. hear old.given ++ broken reads way o) whole ∙ append-nil (hear old.given)

    grew : hear new.given ≡ told reads way r.now ++ hear on.more
    grew =
        ap hear on.given ∙ map-append (heard reads way r.now.count) old.given on.more
        ∙ ap (λ l. l ++ hear on.more) (sym was)

    by : (o : Option (Place × Reason)) → new.fault ≡ o →
        IsMore r (resumed_by reads way o (with_unit reads way r b)) b.place
    by None e = record {
      more = hear on.more;
      is =
          ap (λ o. past ++ (hear new.given ++ broken reads way o)) e
          ∙ ap (λ l. past ++ l) (append-nil (hear new.given) ∙ grew)
          ∙ sym (append_assoc past (told reads way r.now) (hear on.more));
      all = heard_on reads way r.now.count b.place on.more on.all;
      whole = e;
    }
    by (Some f) e =
        let s : Stretch = record { hunts = r.now.hunts; count = r.now.count; units = r.now.units ++ b ∷ [] } in
        let next = told reads way (renewed reads way s) in
        let last : List (Said (Heard V) × Place) = (Kept (Broken f.1), f.0) ∷ [] in
        let said : told reads way s ≡ told reads way r.now ++ (hear on.more ++ last) =
        ap (λ o. hear new.given ++ broken reads way o) e ∙ ap (λ l. l ++ last) grew
        ∙ append_assoc (told reads way r.now) (hear on.more) last in
        let place : f.0 ≡ b.place =
        subst (λ (o : Option (Place × Reason)). FaultOn b.place o (Some f)) whole
        (subst (λ (o : Option (Place × Reason)). FaultOn b.place old.fault o) e on.fault) in
        record {
          more = (hear on.more ++ last) ++ next;
          is =
              ap (λ l. l ++ next) (flat_map-append (told reads way) r.past (s ∷ [])
              ∙ ap (λ l. past ++ l) (append-nil (told reads way s) ∙ said)
              ∙ sym (append_assoc past (told reads way r.now) (hear on.more ++ last)))
              ∙ append_assoc (past ++ told reads way r.now) (hear on.more ++ last) next;
          all =
              on_append b.place (hear on.more ++ last) next
              (on_append b.place (hear on.more) last
              (heard_on reads way r.now.count b.place on.more on.all) (place, tt))
              (again r.now.hunts r.now.count r.now.units b);
          whole = sound r.now.hunts r.now.units b whole (ap is_none e);
        }

    one_more : IsMore r (fed reads way r (One b)) b.place
    one_more = by new.fault refl

  -- the last stretch has no fault
  pub stays_whole : (reads true []).fault ≡ None → (l : List Fed) (r : Stretches) → IsWhole r →
      IsWhole (fed_from reads way r l)
  stays_whole fine [] r e = e
  stays_whole fine (One b ∷ l) r e = stays_whole fine l (fed reads way r (One b)) (one_more r b e).whole
  stays_whole fine (Mark ∷ l) r e = stays_whole fine l (parted reads way r) fine

  -- with units at places in order, up to one
  pub units_to : (w : List Placed) (r : Stretches) (p q : Place) → IsWhole r → UnitsTo p q w →
      (more : List (Said (Heard V) × Place))
      × (given (fed_from reads way r (map One w)) ≡ given r ++ more) × AllTo p q more
  units_to [] r p q e i = ([], sym (append-nil (given r)), i)
  units_to (b ∷ w) r p q e i =
      let x = one_more r b e in
      let y = units_to w (fed reads way r (One b)) b.place q x.whole i.1 in (
        x.more ++ y.0,
        y.1 ∙ ap (λ l. l ++ y.0) x.is ∙ append_assoc (given r) x.more y.0,
        to_join p b.place q x.more y.0 (on_to p b.place x.more i.0 x.all) y.2,
      )

  -- with units wherever they are: nothing is taken back
  pub units_grow : (w : List Placed) (r : Stretches) → IsWhole r →
      (more : List (Said (Heard V) × Place)) × (given (fed_from reads way r (map One w)) ≡ given r ++ more)
  units_grow [] r e = ([], sym (append-nil (given r)))
  units_grow (b ∷ w) r e =
      let x = one_more r b e in
      let y = units_grow w (fed reads way r (One b)) x.whole in (
        x.more ++ y.0,
        y.1 ∙ ap (λ l. l ++ y.0) x.is ∙ append_assoc (given r) x.more y.0,
      )
