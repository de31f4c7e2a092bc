-- What a port reads of the same bytes at later offsets.
use Rattle.std.proofs.Common.{◌≡◌, ℕ, zero, suc, ◌+◌, List, [], ◌∷◌, ◌++◌, length, map, refl, sym, ◌∙◌, ap, Bool, true, false, cond, Option, None, Some}
use Rattle.std.specs.Prelude.{◌==◌}
use Rattle.std.specs.List.{sum_by}
use Rattle.std.proofs.lemmas.List.{map-append, length-map}
use Rattle.std.proofs.lemmas.List.Sums.{sum_by-append}
use Rattle.resync_laws.specs.Names.{Reason, BadSync, SyncInFrame, Next, Place, Placed, Progress, progress, halves_in}
use Rattle.resync_laws.specs.Names.{later_place, later_fault, later}
use Rattle.trace_values.specs.declared.next.Next.TheVariants.{Go, End, Fail}
use Rattle.resync_rules.proofs.Moving.{moved, move, move_found, progress_moved, hunt_moved}
use Rattle.trace_values.specs.Hunted.{Found, Hunt, hunt}
use Rattle.frame_grammar.specs.Port.{PortItem, Full, Half, Part, Between, First, One, Two, Three, State, start, word_ended, part_rule, rule}
use Rattle.port_sync.specs.Hunting.{pattern}
use Rattle.deformatter.specs.Reading.{PortStream, items_of, read_after, port_hunted, port_stream}
use Rattle.resync_laws.proofs.MovedTerms.{later_item, later_port}

-- the port
module _ (c : ℕ) where
  abbrev later_part : Part → Part
  later_part Between = Between
  later_part (First a) = First (later c a)
  later_part One = One
  later_part Two = Two
  later_part Three = Three

  abbrev later_state : State → State
  later_state s = record { left = s.left; bytes = map (λ b. later c b) s.bytes; halves = s.halves; part = later_part s.part }

  abbrev next_later : Next State PortItem → Next State PortItem
  next_later = moved c later_state (λ x. later_item c x)

  abbrev at : ℕ → List Placed → ℕ → Part → State
  at n f h p = record { left = n; bytes = f; halves = h; part = p }

  word_later : (n : ℕ) (f : List Placed) (h : ℕ) → word_ended n (map (λ b. later c b) f) h ≡ next_later (word_ended n f h)
  word_later zero f h = refl
  word_later (suc n) f h = refl

  choice : (t : Bool) (x y : Next State PortItem) → cond t (next_later x) (next_later y) ≡ next_later (cond t x y)
  choice true x y = refl
  choice false x y = refl

  part_later : (p : Part) (n : ℕ) (f : List Placed) (h : ℕ) (x : Placed) →
      part_rule (later_part p) (later_state (at n f h p)) (later c x) ≡ next_later (part_rule p (at n f h p) x)
  part_later Between n f h x = choice (x.unit == 255) (Go (at n f h One)) (Go (at n f h (First x)))
  part_later (First a) n f h x =
      ap (λ (l : List Placed). word_ended n l h) (sym (map-append (λ (b : Placed). later c b) f (a ∷ (x ∷ [])))) ∙ word_later n (f ++ (a ∷ (x ∷ []))) h
  part_later One n f h x =
      ap (λ (y : Next State PortItem). cond (x.unit == 127) y (cond (x.unit == 255) (cond (n == 7) (next_later (Go (at n f h Two))) (Fail SyncInFrame)) (Fail BadSync))) (choice (n == 7) (End Half) (Go (at n f (h + 1) Between)))
      ∙ ap (λ (y : Next State PortItem). cond (x.unit == 127) (next_later (cond (n == 7) (End Half) (Go (at n f (h + 1) Between)))) (cond (x.unit == 255) y (Fail BadSync))) (choice (n == 7) (Go (at n f h Two)) (Fail SyncInFrame))
      ∙ ap (λ (y : Next State PortItem). cond (x.unit == 127) (next_later (cond (n == 7) (End Half) (Go (at n f (h + 1) Between)))) y) (choice (x.unit == 255) (cond (n == 7) (Go (at n f h Two)) (Fail SyncInFrame)) (Fail BadSync))
      ∙ choice (x.unit == 127) (cond (n == 7) (End Half) (Go (at n f (h + 1) Between))) (cond (x.unit == 255) (cond (n == 7) (Go (at n f h Two)) (Fail SyncInFrame)) (Fail BadSync))
  part_later Two n f h x = choice (x.unit == 255) (Go (at n f h Three)) (Fail BadSync)
  part_later Three n f h x = choice (x.unit == 127) (End Full) (Fail BadSync)

  natural_port : (s : State) (b : Placed) → rule (later_state s) (later c b) ≡ next_later (rule s b)
  natural_port s b = part_later s.part s.left s.bytes s.halves b

  halves_later : (l : List (PortItem × Place)) → sum_by halves_in (items_of (map (λ x. (later_item c x.0, later_place c x.1)) l)) ≡ sum_by halves_in (items_of l)
  halves_later [] = refl
  halves_later (x ∷ l) =
      sum_by-append halves_in (later_item c x.0 ∷ []) (items_of (map (λ x. (later_item c x.0, later_place c x.1)) l))
      ∙ ap (λ (n : ℕ). 0 + n + sum_by halves_in (items_of (map (λ x. (later_item c x.0, later_place c x.1)) l))) (one x.0)
      ∙ ap (λ (n : ℕ). 0 + halves_in x.0 + n) (halves_later l) ∙ sym (sum_by-append halves_in (x.0 ∷ []) (items_of l)) where
        one : (p : PortItem) → halves_in (later_item c p) ≡ halves_in p
        one Full = refl
        one x = refl

  abbrev ported : List (PortItem × Place) → ℕ → Option (Place × Reason) → ℕ → ℕ → PortStream
  ported port_items halves fault tail skipped = record { items = port_items; halves = halves; fault = fault; tail = tail; skipped = skipped; locked = true }

  read_later : (skipped : ℕ) (q : Progress State PortItem) → read_after skipped (move c later_state (λ x. later_item c x) q) ≡ later_port c (read_after skipped q)
  read_later skipped q =
      ap (λ (n : ℕ). ported (map (λ x. (later_item c x.0, later_place c x.1)) q.items) (n + q.state.halves) (later_fault c q.fault) (length (map (λ b. later c b) q.rest)) skipped) (halves_later q.items)
      ∙ ap (λ (n : ℕ). ported (map (λ x. (later_item c x.0, later_place c x.1)) q.items) (sum_by halves_in (items_of q.items) + q.state.halves) (later_fault c q.fault) n skipped) (length-map q.rest (λ (b : Placed). later c b))

  found_later : (units : ℕ) (o : Option (Found State PortItem)) → port_hunted units (move_found c later_state (λ x. later_item c x) rule start refl natural_port pattern Full refl o) ≡ later_port c (port_hunted units o)
  found_later units None = refl
  found_later units (Some f) = read_later f.skipped f.reading

  pub port_later : (h : Bool) (u : List Placed) → port_stream h (map (λ b. later c b) u) ≡ later_port c (port_stream h u)
  port_later false u = ap (read_after 0) (progress_moved c later_state (λ x. later_item c x) rule start refl natural_port u) ∙ read_later 0 (progress rule start u)
  port_later true u =
      ap (λ (h : Hunt State PortItem). port_hunted h.units h.found) (hunt_moved c later_state (λ x. later_item c x) rule start refl natural_port pattern Full refl u)
      ∙ found_later (hunt pattern Full rule start u).units (hunt pattern Full rule start u).found
