-- Events up to the first fault, of lists put together, and of what a source says.
use Rattle.std.proofs.Common.{◌≡◌, ℕ, ◌+◌, List, [], ◌∷◌, ◌++◌, map, refl, sym, ◌∙◌, ap, arith}
use Rattle.std.proofs.Common.{Option, None, Some, Bool, true, false, cond}
use Rattle.std.specs.Prelude.{◌==◌, ◌&&◌, ◌||◌, Result, Ok, Err}
use Rattle.std.specs.List.{list_any}
use Rattle.std.proofs.lemmas.List.Sums.{sum_by-append}
use Rattle.trace_values.specs.declared.cell.Cell.{Cell}
use Rattle.trace_values.specs.declared.fault.Reason.{Reason}
use Rattle.trace_values.specs.Placed.{Place, Placed}
use Rattle.trace_values.specs.Stream.{Said, Notice, Kept, Stream}
use Rattle.source_events.specs.declared.event.Event.{Event}
use Rattle.source_events.specs.declared.event.What.{What}
use Rattle.source_events.specs.declared.event.What.TheVariants.{Locked, Packet as Packs, Raw, Trigger}
use Rattle.source_events.specs.declared.packet.Packet.{Packet}
use Rattle.source_events.specs.Merge.{told, is_of}
use Rattle.source_events.specs.Report.{lifted, raw_events, triggers, is_item as strict_item}
use Rattle.source_events.specs.Runs.{bytes_of, last_at}
use Rattle.source_events.specs.Tails as strict_ends
use Rattle.stretch_readings.specs.declared.heard.Heard.{Heard}
use Rattle.stretch_readings.specs.declared.heard.Heard.TheVariants.{Read, Broken, Guessed, Misread}
use Rattle.stretch_readings.specs.Stretches.{heard, from_fault}
use Rattle.recovery_report.specs.Counts.{is_item, items_in}
use Rattle.recovering_machines.specs.Hearing.{as_strict, is_guess}
use Rattle.recovery_laws.specs.Strict.{upto_by, upto, first_by, first_fault}

abbrev pub Found : Type 0
Found = Option (Place × (Reason × Option ℕ))

abbrev pub Said_at : Type 0 → Type 0
Said_at V = List (What V × Place)

-- a list without a fault, and then another one
pub after_none : (xs ys : List (Event (Heard Packet))) → first_fault xs ≡ None →
    (upto (xs ++ ys) ≡ upto xs ++ upto ys) × (first_fault (xs ++ ys) ≡ first_fault ys)
after_none [] ys e = (refl, refl)
after_none (x ∷ xs) ys e = by (as_strict x.what) e (λ h. after_none xs ys h) where
  by : (o : Result (What Packet) Reason) → first_by x o (first_fault xs) ≡ None →
      (first_fault xs ≡ None → (upto (xs ++ ys) ≡ upto xs ++ upto ys) × (first_fault (xs ++ ys) ≡ first_fault ys)) →
      (upto_by x o (upto (xs ++ ys)) ≡ upto_by x o (upto xs) ++ upto ys)
      × (first_by x o (first_fault (xs ++ ys)) ≡ first_fault ys)
  by (Ok what) h more =
      let k = more h in
      (ap (λ l. record { at = x.at; half = x.half; source = x.source; what = what } ∷ l) k.0, k.1)
  by (Err reason) h more = cc

-- one with a fault
pub after_some : (xs ys : List (Event (Heard Packet))) (f : Place × (Reason × Option ℕ)) → first_fault xs ≡ Some f →
    (upto (xs ++ ys) ≡ upto xs) × (first_fault (xs ++ ys) ≡ Some f)
after_some [] ys f e = cc
after_some (x ∷ xs) ys f e = by (as_strict x.what) e (λ h. after_some xs ys f h) where
  by : (o : Result (What Packet) Reason) → first_by x o (first_fault xs) ≡ Some f →
      (first_fault xs ≡ Some f → (upto (xs ++ ys) ≡ upto xs) × (first_fault (xs ++ ys) ≡ Some f)) →
      (upto_by x o (upto (xs ++ ys)) ≡ upto_by x o (upto xs)) × (first_by x o (first_fault (xs ++ ys)) ≡ Some f)
  by (Ok what) h more =
      let k = more h in
      (ap (λ l. record { at = x.at; half = x.half; source = x.source; what = what } ∷ l) k.0, k.1)
  by (Err reason) h more = (refl, h)

-- each of these is what the strict report has at the same place
abbrev pub AreAs : Said_at (Heard Packet) → Said_at Packet → Type 0
AreAs [] [] = Unit {0}
AreAs (y ∷ ys) (x ∷ xs) = (as_strict y.0 ≡ Ok x.0) × (y.1 ≡ x.1) × AreAs ys xs
AreAs [] (x ∷ xs) = ⊥
AreAs (y ∷ ys) [] = ⊥

pub told_as : (source : Option ℕ) (ys : Said_at (Heard Packet)) (xs : Said_at Packet) → AreAs ys xs →
    (upto (told source ys) ≡ told source xs) × (first_fault (told source ys) ≡ None)
told_as source [] [] a = (refl, refl)
told_as source (y ∷ ys) (x ∷ xs) a =
    let e : Event (Heard Packet) = record { at = y.1.at; half = y.1.half; source = source; what = y.0 } in
    let more = told_as source ys xs a.2 in (
      ap (λ o. upto_by e o (upto (told source ys))) a.0
          ∙ ap (λ l. record { at = y.1.at; half = y.1.half; source = source; what = x.0 } ∷ l) more.0
          ∙ ap (λ (p : Place). record { at = p.at; half = p.half; source = source; what = x.0 } ∷ told source xs) a.1,
      ap (λ o. first_by e o (first_fault (told source ys))) a.0 ∙ more.1,
    )
told_as source [] (x ∷ xs) a = absurd a
told_as source (y ∷ ys) [] a = absurd a

-- a run of a source that is not mapped
triggers_as : (run : List Cell) → AreAs (triggers run) (triggers run)
triggers_as [] = tt
triggers_as (c ∷ run) = (refl, refl, triggers_as run)

pub raw_as : (x : ℕ) (run : List Cell) → AreAs (raw_events x run) (raw_events x run)
raw_as x run = by (x == 0) (x == 125) where
  by : (s t : Bool) → AreAs
      (cond s [] (cond t (triggers run) ((Raw (bytes_of run), record { at = last_at run; half = 0 }) ∷ [])))
      (cond s [] (cond t (triggers run) ((Raw (bytes_of run), record { at = last_at run; half = 0 }) ∷ [])))
  by true t = tt
  by false true = triggers_as run
  by false false = (refl, refl, tt)

-- what a source's stretch says, with a count of 0
module _ (reads : Bool → List Placed → Stream Packet) where
  pub said_as : (given : List (Said Packet × Place)) →
      AreAs (lifted (map (heard reads from_fault 0) given)) (lifted given)
  said_as [] = tt
  said_as ((Notice n, p) ∷ given) =
      (ap (λ (m : ℕ). Ok (Locked m)) (let e : 0 + n ≡ n = omega arith in e), refl, said_as given)
  said_as ((Kept v, p) ∷ given) = (refl, refl, said_as given)

-- a fault behind such
pub broken_as : (source : Option ℕ) (ys rest : Said_at (Heard Packet)) (xs : Said_at Packet) (f : Place × Reason) →
    AreAs ys xs → (let es = told source (ys ++ ((Packs (Broken f.1), f.0) ∷ rest)) in
    (upto es ≡ told source xs) × (first_fault es ≡ Some (f.0, (f.1, source))))
broken_as source [] rest [] f a = (refl, refl)
broken_as source (y ∷ ys) rest (x ∷ xs) f a =
    let l = ys ++ ((Packs (Broken f.1), f.0) ∷ rest) in
    let e : Event (Heard Packet) = record { at = y.1.at; half = y.1.half; source = source; what = y.0 } in
    let more = broken_as source ys rest xs f a.2 in (
      ap (λ o. upto_by e o (upto (told source l))) a.0
          ∙ ap (λ l. record { at = y.1.at; half = y.1.half; source = source; what = x.0 } ∷ l) more.0
          ∙ ap (λ (p : Place). record { at = p.at; half = p.half; source = source; what = x.0 } ∷ told source xs) a.1,
      ap (λ o. first_by e o (first_fault (told source l))) a.0 ∙ more.1,
    )
broken_as source [] rest (x ∷ xs) f a = absurd a
broken_as source (y ∷ ys) rest [] f a = absurd a

-- as many items of a source, where there is no fault and no guess
pub items_as : (x : ℕ) (es : List (Event (Heard Packet))) → first_fault es ≡ None →
    list_any (λ e. is_guess e.what) es ≡ false → items_in x es ≡ strict_ends.items_in x (upto es)
items_as x [] e g = refl
items_as x (y ∷ es) e g = by y.what e g (λ h k. items_as x es h k) where
  count : (es : List (Event (Heard Packet))) (y : Event (Heard Packet)) →
      items_in x (y ∷ es) ≡ items_in x (y ∷ []) + items_in x es
  count es y = sum_by-append
      (λ (e : Event (Heard Packet)). cond (is_of (Some x) e.source && is_item e.what) 1 0) (y ∷ []) es

  strict_count : (es : List (Event Packet)) (y : Event Packet) →
      strict_ends.items_in x (y ∷ es) ≡ strict_ends.items_in x (y ∷ []) + strict_ends.items_in x es
  strict_count es y = sum_by-append
      (λ (e : Event Packet). cond (is_of (Some x) e.source && strict_item e.what) 1 0) (y ∷ []) es

  by : (what : What (Heard Packet)) → first_by y (as_strict what) (first_fault es) ≡ None →
      (is_guess what || list_any (λ e. is_guess e.what) es) ≡ false →
      (first_fault es ≡ None → list_any (λ e. is_guess e.what) es ≡ false →
      items_in x es ≡ strict_ends.items_in x (upto es)) →
      items_in x (record { at = y.at; half = y.half; source = y.source; what = what } ∷ es)
      ≡ strict_ends.items_in x (upto_by y (as_strict what) (upto es))
  by (Locked n) h g more =
      count es (record { at = y.at; half = y.half; source = y.source; what = Locked n })
      ∙ ap (λ k. items_in x (record { at = y.at; half = y.half; source = y.source; what = Locked n } ∷ []) + k)
      (more h g)
      ∙ sym (strict_count (upto es) (record { at = y.at; half = y.half; source = y.source; what = Locked n }))
  by (Packs (Read p)) h g more =
      count es (record { at = y.at; half = y.half; source = y.source; what = Packs (Read p) })
      ∙ ap (λ k. items_in x (record { at = y.at; half = y.half; source = y.source; what = Packs (Read p) } ∷ []) + k)
      (more h g)
      ∙ sym (strict_count (upto es) (record { at = y.at; half = y.half; source = y.source; what = Packs p }))
  by (Packs (Broken r)) h g more = cc
  by (Packs (Guessed p)) h g more = cc
  by (Packs (Misread r)) h g more = cc
  by (Raw b) h g more =
      count es (record { at = y.at; half = y.half; source = y.source; what = Raw b })
      ∙ ap (λ k. items_in x (record { at = y.at; half = y.half; source = y.source; what = Raw b } ∷ []) + k) (more h g)
      ∙ sym (strict_count (upto es) (record { at = y.at; half = y.half; source = y.source; what = Raw b }))
  by (Trigger b) h g more =
      count es (record { at = y.at; half = y.half; source = y.source; what = Trigger b })
      ∙ ap (λ k. items_in x (record { at = y.at; half = y.half; source = y.source; what = Trigger b } ∷ []) + k)
      (more h g)
      ∙ sym (strict_count (upto es) (record { at = y.at; half = y.half; source = y.source; what = Trigger b }))
