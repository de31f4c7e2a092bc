-- Before the first fault of a report with guesses there is no guess.
use Rattle.std.proofs.Common.{◌≡◌, ℕ, List, [], ◌∷◌, ◌++◌, map, refl, sym, ◌∙◌, ap, subst, inl, inr, ◌⊎◌}
use Rattle.std.proofs.Common.{append-nil, arith, Option, None, Some, Bool, true, false, cond}
use Rattle.std.specs.Prelude.{◌==◌, ◌||◌, ◌+◌, not, is_none, suc, take}
use Rattle.std.specs.List.{before_first, list_any, prefix_len}
use Rattle.std.proofs.Math.Bool.{or-true}
use Rattle.std.proofs.lemmas.List.Folds.{list_any-append}
use Rattle.trace_values.specs.declared.cell.Cell.{Cell}
use Rattle.trace_values.specs.declared.fault.Reason.{Reason}
use Rattle.trace_values.specs.Placed.{Place, Placed}
use Rattle.trace_values.specs.ReadingModes.{packets_hunt}
use Rattle.trace_values.specs.Stream.{Said, Notice, Kept, Stream}
use Rattle.source_events.specs.declared.event.Event.{Event}
use Rattle.source_events.specs.declared.packet.Packet.{Packet}
use Rattle.source_events.specs.declared.plan.Plan.{Plan}
use Rattle.source_events.specs.declared.plan.SourceKind.{SourceKind}
use Rattle.source_events.specs.Merge.{InOrder, told as told_by}
use Rattle.source_events.specs.Plan.{kind_of}
use Rattle.source_events.specs.Report.{lifted, raw_events, triggers, what_of}
use Rattle.source_events.specs.Runs.{id_of, IsRunFrom}
use Rattle.source_events.proofs.Family.{of_cases}
use Rattle.stretch_readings.specs.declared.heard.Heard.{Heard}
use Rattle.stretch_readings.specs.Guessing.{has_fault, near_of, told_near}
use Rattle.stretch_readings.specs.Stretches.{Stretch, Stretches, broken, from_fault, heard, told}
use Rattle.recovering_machines.specs.Hearing.{is_guess}
use Rattle.recovery_report.specs.Counts.{is_fault}
use Rattle.recovery_report.specs.Report.{Part, Run, Locks, Breaks, added, report_from, said_in}
use Rattle.recovery_report.specs.Report.{stretches_of}
use Rattle.recovery_report.proofs.PartLaws as parts
use Rattle.recovery_report.specs.Placing.{PartLies, part_end}
use Rattle.recovery_report.proofs.Nearing.{AllBelow, first_below, near, reads}
use Rattle.recovery_report.proofs.Sounds.{quiet, sources_begin}

-- Lists in which each element that follows a leader, if it must, does so: a guess follows a fault.
module _ {X : Type 0} (follows leads : X → Bool) where
  abbrev pub Led : Bool → List X → Type 0
  Led led [] = Unit {0}
  Led led (x ∷ xs) = (follows x ≡ true → led ≡ true) × Led (led || leads x) xs

  all_led : (xs : List X) → Led true xs
  all_led [] = tt
  all_led (x ∷ xs) = ((λ q. refl), all_led xs)

  -- with a leader before them
  led_by : (a b : Bool) (xs : List X) → (a ≡ true → b ≡ true) → Led a xs → Led b xs
  led_by true b xs l k = subst (λ (c : Bool). Led c xs) (sym (l refl)) (all_led xs)
  led_by false true xs l k = all_led xs
  led_by false false xs l k = k

  led_join : (a : Bool) (xs ys : List X) → Led a xs → Led (a || list_any leads xs) ys → Led a (xs ++ ys)
  led_join true xs ys k l = all_led (xs ++ ys)
  led_join false [] ys k l = l
  led_join false (x ∷ xs) ys k l = (k.0, led_join (leads x) xs ys k.1 l)

  led_rest : (a : Bool) (xs ys : List X) → Led a (xs ++ ys) → Led (a || list_any leads xs) ys
  led_rest true xs ys k = all_led ys
  led_rest false [] ys k = k
  led_rest false (x ∷ xs) ys k = led_rest (leads x) xs ys k.1

  -- none follows before the first leader
  abbrev before : List X → ℕ
  before xs = prefix_len (λ x. not (leads x)) xs

  front_by : (x : X) (xs : List X) (l f : Bool) → leads x ≡ l → follows x ≡ f → Led false (x ∷ xs) →
      (Led false xs → list_any follows (before_first leads xs) ≡ false) →
      list_any follows (before_first leads (x ∷ xs)) ≡ false
  front_by x xs true f q p k more = ap (λ b. list_any follows (take (cond (not b) (1 + before xs) 0) (x ∷ xs))) q
  front_by x xs false true q p k more = (let z : false ≡ true = k.0 p in cc)
  front_by x xs false false q p k more =
      ap (λ b. list_any follows (take (cond (not b) (1 + before xs) 0) (x ∷ xs))) q
      ∙ ap (λ n. list_any follows (take n (x ∷ xs))) (let z : 1 + before xs ≡ suc (before xs) = omega arith in z)
      ∙ ap (λ b. b || list_any follows (before_first leads xs)) p
      ∙ more (subst (λ (b : Bool). Led b xs) q k.1)

  pub none_first : (xs : List X) → Led false xs → list_any follows (before_first leads xs) ≡ false
  none_first [] k = refl
  none_first (x ∷ xs) k = front_by x xs (leads x) (follows x) refl refl k (none_first xs)

abbrev Saids : Type 0
Saids = List (Said (Heard Packet) × Place)

abbrev Events : Type 0
Events = List (Event (Heard Packet))

abbrev guess_said : Said (Heard Packet) × Place → Bool
guess_said x = is_guess (what_of x.0)

abbrev fault_said : Said (Heard Packet) × Place → Bool
fault_said x = is_fault (what_of x.0)

abbrev SaidLed : Bool → Saids → Type 0
SaidLed b l = Led guess_said fault_said b l

abbrev EventsLed : Bool → Events → Type 0
EventsLed b es = Led (λ e. is_guess e.what) (λ e. is_fault e.what) b es

abbrev any_fault : Events → Bool
any_fault es = list_any (λ e. is_fault e.what) es

-- as events of a source
told_led : (x : Option ℕ) (b : Bool) (l : Saids) → SaidLed b l → EventsLed b (told_by x (lifted l))
told_led x b [] k = tt
told_led x b (s ∷ l) k = (k.0, told_led x (b || fault_said s) l k.1)

told_faults : (x : Option ℕ) (l : Saids) → any_fault (told_by x (lifted l)) ≡ list_any fault_said l
told_faults x [] = refl
told_faults x (s ∷ l) = ap (λ b. fault_said s || b) (told_faults x l)

-- what a source says with its guesses
module _ (read : Bool → List Placed → Stream Packet) where
  heard_led : (count : ℕ) (b : Bool) (l : List (Said Packet × Place)) →
      SaidLed b (map (heard read from_fault count) l)
  heard_led count b [] = tt
  heard_led count b ((Notice n, p) ∷ l) = ((λ q. (let z : false ≡ true = q in cc)), heard_led count (b || false) l)
  heard_led count b ((Kept v, p) ∷ l) = ((λ q. (let z : false ≡ true = q in cc)), heard_led count (b || false) l)

  broken_led : (b : Bool) (o : Option (Place × Reason)) → SaidLed b (broken read from_fault o)
  broken_led b None = tt
  broken_led b (Some f) = ((λ q. (let z : false ≡ true = q in cc)), tt)

  broken_leads : (o : Option (Place × Reason)) → not (is_none o) ≡ true →
      list_any fault_said (broken read from_fault o) ≡ true
  broken_leads None e = (let z : false ≡ true = e in cc)
  broken_leads (Some f) e = refl

  stretch_led : (s : Stretch) → SaidLed false (told read from_fault s)
  stretch_led s =
      let all = map (heard read from_fault s.count) (read s.hunts s.units).given in
      led_join guess_said fault_said false all (broken read from_fault (read s.hunts s.units).fault)
      (heard_led s.count false (read s.hunts s.units).given)
      (broken_led (list_any fault_said all) (read s.hunts s.units).fault)

  stretch_leads : (s : Stretch) → has_fault read from_fault s ≡ true →
      list_any fault_said (told read from_fault s) ≡ true
  stretch_leads s e =
      let all = map (heard read from_fault s.count) (read s.hunts s.units).given in
      list_any-append fault_said all (broken read from_fault (read s.hunts s.units).fault)
      ∙ ap (λ b. list_any fault_said all || b) (broken_leads (read s.hunts s.units).fault e)
      ∙ or-true (list_any fault_said all)

  near_led : (after : Bool) (b : Bool) (l : List Stretch) → (after ≡ true → b ≡ true) →
      SaidLed b (told_near read from_fault after l)
  near_led after true l h = all_led guess_said fault_said (told_near read from_fault after l)
  near_led after false [] h = tt
  near_led true false (s ∷ l) h = (let z : false ≡ true = h refl in cc)
  near_led false false (s ∷ l) h =
      led_join guess_said fault_said false (told read from_fault s)
      (told_near read from_fault (has_fault read from_fault s) l) (stretch_led s)
      (near_led (has_fault read from_fault s) (list_any fault_said (told read from_fault s)) l (stretch_leads s))

  source_led : (r : Stretches) → SaidLed false (near_of read from_fault r)
  source_led r = near_led false false (r.past ++ r.now ∷ []) (λ q. q)

-- raw bytes are no guesses
triggers_led : (x : ℕ) (b : Bool) (run : List Cell) → EventsLed b (told_by (Some x) (triggers run))
triggers_led x b [] = tt
triggers_led x b (c ∷ run) = ((λ q. (let z : false ≡ true = q in cc)), triggers_led x (b || false) run)

raw_led : (x : ℕ) (b : Bool) (run : List Cell) → EventsLed b (told_by (Some x) (raw_events x run))
raw_led x b run = null (x == 0) (x == 125) where
  null : (o t : Bool) → EventsLed b (told_by (Some x) (cond o [] (cond t (triggers run) (raw_events 1 run))))
  null true t = tt
  null false true = triggers_led x b run
  null false false = ((λ q. (let z : false ≡ true = q in cc)), tt)

or_left : (a b : Bool) → a ≡ true → (a || b) ≡ true
or_left a b e = ap (λ c. c || b) e

or_cases : (a b : Bool) → (a || b) ≡ true → (a ≡ true) ⊎ (b ≡ true)
or_cases true b e = inl refl
or_cases false b e = inr e

module _ (plan : Plan) where
  -- where a mapped source has said a fault, there is one
  abbrev AreTold : Bool → List Part → Type 0
  AreTold b ms = (x : ℕ) (kind : SourceKind) → kind_of plan x ≡ Some kind →
      list_any fault_said (said_in true plan kind x ms) ≡ true → b ≡ true

  nothing_told : AreTold false []
  nothing_told x kind k e =
      let read = reads plan kind in
      let h = packets_hunt plan.packets in
      let none : said_in true plan kind x [] ≡ [] =
      append-nil (map (heard read from_fault 0) (read h []).given ++ broken read from_fault (read h []).fault)
      ∙ ap (λ l. map (heard read from_fault 0) l ++ broken read from_fault (read h []).fault) (quiet plan kind h)
      ∙ ap (broken read from_fault) (sources_begin plan.order kind h) in
      (let z : false ≡ true = sym (ap (list_any fault_said) none) ∙ e in cc)

  -- what a part adds, where this is known of the events before it
  module _ (n : ℕ) (ms : List Part) (all : AllBelow plan n ms) (b : Bool) (known : AreTold b ms) where
    abbrev given : Part → Events
    given m = added true plan ms m

    abbrev Knows : Part → Type 0
    Knows m = AreTold (b || any_fault (given m)) (ms ++ m ∷ [])

    -- a source that says no more
    same : (m : Part) (x : ℕ) (kind : SourceKind) → kind_of plan x ≡ Some kind →
        stretches_of plan kind x (ms ++ m ∷ []) ≡ stretches_of plan kind x ms →
        list_any fault_said (said_in true plan kind x (ms ++ m ∷ [])) ≡ true → (b || any_fault (given m)) ≡ true
    same m x kind k e q =
        or_left b (any_fault (given m)) (known x kind k
        (ap (λ r. list_any fault_said (near_of (reads plan kind) from_fault r)) (sym e) ∙ q))

    module _ (run : List Cell) (l : IsRunFrom n run) (x : ℕ) (kind : SourceKind) (k : kind_of plan x ≡ Some kind)
        (i : id_of run ≡ Some x) where
      abbrev old : Saids
      old = said_in true plan kind x ms

      abbrev more : Saids
      more = (near plan n ms all x kind (Run run) l).extra

      grew : said_in true plan kind x (ms ++ Run run ∷ []) ≡ old ++ more
      grew = (near plan n ms all x kind (Run run) l).is

      adds : given (Run run) ≡ told_by (Some x) (lifted more)
      adds = (parts.own true plan kind x ms run k i).more more grew

      own_led : EventsLed b (given (Run run))
      own_led =
          subst (EventsLed b) (sym adds)
          (told_led (Some x) b more (led_by guess_said fault_said (list_any fault_said old) b more (known x kind k)
          (led_rest guess_said fault_said false old more (subst (SaidLed false) grew
          (source_led (reads plan kind) (stretches_of plan kind x (ms ++ Run run ∷ [])))))))

      own_knows : list_any fault_said (said_in true plan kind x (ms ++ Run run ∷ [])) ≡ true →
          (b || any_fault (given (Run run))) ≡ true
      own_knows q =
          by (or_cases (list_any fault_said old) (list_any fault_said more)
          (sym (list_any-append fault_said old more) ∙ ap (list_any fault_said) (sym grew) ∙ q)) where
            by : (list_any fault_said old ≡ true) ⊎ (list_any fault_said more ≡ true) →
                (b || any_fault (given (Run run))) ≡ true
            by (inl e) = or_left b (any_fault (given (Run run))) (known x kind k e)
            by (inr e) =
                ap (λ c. b || c) (ap any_fault adds ∙ told_faults (Some x) more ∙ e) ∙ or-true b

    knows : (m : Part) → PartLies n m → Knows m
    knows (Run run) l x kind k q = elim (of_cases x (id_of run)) [
      | inl i ↦ own_knows run l x kind k i.0 q
      | inr i ↦ same (Run run) x kind k (parts.other plan kind x ms run i.1) q
    ]
    knows (Locks skipped place) l x kind k q =
        same (Locks skipped place) x kind k (parts.lock plan kind x ms skipped place) q
    knows (Breaks reason place) l x kind k q =
        ap (λ es. b || any_fault es) (parts.of_port true plan ms (Breaks reason place) refl) ∙ or-true b

    is_led : (m : Part) → PartLies n m → EventsLed b (given m)
    is_led (Run run) l = of_run (id_of run) refl where
      of_run : (o : Option ℕ) → id_of run ≡ o → EventsLed b (given (Run run))
      of_run None e = subst (EventsLed b) (sym (parts.of_port true plan ms (Run run) e)) tt
      of_run (Some x) e = by (kind_of plan x) refl where
        by : (o : Option SourceKind) → kind_of plan x ≡ o → EventsLed b (given (Run run))
        by None k = subst (EventsLed b) (sym (parts.raw true plan x ms run k e)) (raw_led x b run)
        by (Some kind) k = own_led run l x kind k e
    is_led (Locks skipped place) l =
        subst (EventsLed b) (sym (parts.of_port true plan ms (Locks skipped place) refl))
        ((λ q. (let z : false ≡ true = q in cc)), tt)
    is_led (Breaks reason place) l =
        subst (EventsLed b) (sym (parts.of_port true plan ms (Breaks reason place) refl))
        ((λ q. (let z : false ≡ true = q in cc)), tt)

  report_led : (ms ahead : List Part) (n : ℕ) (b : Bool) → InOrder PartLies part_end n ms → AllBelow plan n ahead →
      AreTold b ahead → EventsLed b (report_from true plan ahead ms)
  report_led [] ahead n b r all known = tt
  report_led (m ∷ ms) ahead n b r all known =
      led_join (λ e. is_guess e.what) (λ e. is_fault e.what) b (added true plan ahead m)
      (report_from true plan (ahead ++ m ∷ []) ms) (is_led n ahead all b known m r.0)
      (report_led ms (ahead ++ m ∷ []) (part_end m) (b || any_fault (added true plan ahead m)) r.1
      (λ x kind. (near plan n ahead all x kind m r.0).below) (knows n ahead all b known m r.0))

  -- before the first fault there is no guess
  pub no_guess_first : (ms : List Part) (n : ℕ) → InOrder PartLies part_end n ms →
      list_any (λ e. is_guess e.what) (before_first (λ e. is_fault e.what) (report_from true plan [] ms))
      ≡ false
  no_guess_first ms n r =
      none_first (λ e. is_guess e.what) (λ e. is_fault e.what) (report_from true plan [] ms)
      (report_led ms [] n false r (first_below plan n) nothing_told)
