-- A reading of the same units at later places is the reading, at later places.
use Rattle.std.proofs.Common.{◌≡◌, ℕ, suc, ◌-◌, List, [], ◌∷◌, ◌++◌, length, map, refl, sym, ◌∙◌, ap, Bool, true, false, cond, Option, None, Some}
use Rattle.std.specs.Prelude.{◌==◌, ◌&&◌}
use Rattle.std.proofs.lemmas.List.{map-append, length-map}
use Rattle.resync_rules.specs.Names.{Reason, Next, Go, End, Fail, Place, Placed, by_unit, Progress, with_unit, advance}
use Rattle.resync_rules.specs.Names.{progress_from, progress, Pattern, Found, Hunt, run_after, begun, hunt_on}
use Rattle.resync_rules.specs.Names.{hunt_from, no_hunt, hunt, hunted_by, stream_in, Stream, Said, Notice, Kept, kept}
use Rattle.resync_rules.specs.Names.{shown}
use Rattle.resync_rules.specs.Moved.{later_place, later_fault, later, later_stream}

module _ (c : ℕ) {S V : Type 0} (hs : S → S) (hv : V → V) where
  abbrev pub moved : Next S V → Next S V
  moved (Go s) = Go (hs s)
  moved (End v) = End (hv v)
  moved (Fail e) = Fail e

  abbrev pub moved_items : List (V × Place) → List (V × Place)
  moved_items items = map (λ x. (hv x.0, later_place c x.1)) items

  abbrev made : List (V × Place) → List Placed → Option (Place × Reason) → S → Progress S V
  made items rest fault state = record { items = items; rest = rest; fault = fault; state = state }

  abbrev pub move : Progress S V → Progress S V
  move q = record { items = moved_items q.items; rest = map (λ b. later c b) q.rest; fault = later_fault c q.fault; state = hs q.state }

  module _ (rule : S → Placed → Next S V) (start : S) (start_is : hs start ≡ start) (natural : (s : S) (b : Placed) → rule (hs s) (later c b) ≡ moved (rule s b)) where
    rest_moved : (r : List Placed) (b : Placed) → map (λ b. later c b) r ++ later c b ∷ [] ≡ map (λ b. later c b) (r ++ b ∷ [])
    rest_moved r b = sym (map-append (λ (b : Placed). later c b) r (b ∷ []))

    with_moved : (q : Progress S V) (b : Placed) (n : Next S V) (o : Option (Place × Reason)) →
        with_unit start (move q) (later c b) (moved n) (later_fault c o) ≡ move (with_unit start q b n o)
    with_moved q b (Go s) None = ap (λ (r : List Placed). made (moved_items q.items) r None (hs s)) (rest_moved q.rest b)
    with_moved q b (End v) None =
        ap (λ (l : List (V × Place)). made l [] None start) (sym (map-append (λ (x : V × Place). (hv x.0, later_place c x.1)) q.items ((v, b.place) ∷ [])))
        ∙ ap (λ (s : S). made (moved_items (q.items ++ (v, b.place) ∷ [])) [] None s) (sym start_is)
    with_moved q b (Fail e) None = ap (λ (r : List Placed). made (moved_items q.items) r (Some (later_place c b.place, e)) (hs q.state)) (rest_moved q.rest b)
    with_moved q b n (Some f) = ap (λ (r : List Placed). made (moved_items q.items) r (Some (later_place c f.0, f.1)) (hs q.state)) (rest_moved q.rest b)

    on_moved : (q : Progress S V) (b : Placed) → advance rule start (move q) (later c b) ≡ move (advance rule start q b)
    on_moved q b = ap (λ (n : Next S V). with_unit start (move q) (later c b) n (later_fault c q.fault)) (natural q.state b) ∙ with_moved q b (rule q.state b) q.fault

    pub from_moved : (u : List Placed) (q : Progress S V) → progress_from rule start (move q) (map (λ b. later c b) u) ≡ move (progress_from rule start q u)
    from_moved [] q = refl
    from_moved (b ∷ u) q = ap (λ (x : Progress S V). progress_from rule start x (map (λ b. later c b) u)) (on_moved q b) ∙ from_moved u (advance rule start q b)

    pub progress_moved : (u : List Placed) → progress rule start (map (λ b. later c b) u) ≡ move (progress rule start u)
    progress_moved u = ap (λ (s : S). progress_from rule start (made [] [] None s) (map (λ b. later c b) u)) (sym start_is) ∙ from_moved u (made [] [] None start)

    module _ (p : Pattern) (v : V) (v_is : hv v ≡ v) where
      abbrev pub move_found : Option (Found S V) → Option (Found S V)
      move_found None = None
      move_found (Some f) = Some (record { skipped = f.skipped; place = later_place c f.place; reading = move f.reading })

      abbrev pub move_hunt : Hunt S V → Hunt S V
      move_hunt h = record { units = h.units; run = h.run; found = move_found h.found }

      begun_moved : (place : Place) → begun start v (later_place c place) ≡ move (begun start v place)
      begun_moved place =
          ap (λ (x : V). made ((x, later_place c place) ∷ []) [] None start) (sym v_is) ∙ ap (λ (s : S). made ((hv v, later_place c place) ∷ []) [] None s) (sym start_is)

      hunt_on_moved : (h : Hunt S V) (b : Placed) (o : Option (Found S V)) → hunt_on p v rule start (move_hunt h) (later c b) (move_found o) ≡ move_hunt (hunt_on p v rule start h b o)
      hunt_on_moved h b None = by (b.unit == p.last && h.run == p.most) where
        by : (t : Bool) →
            (let x : Hunt S V = cond t (record { units = suc h.units; run = 0; found = Some (record { skipped = h.units - p.most; place = later_place c b.place; reading = begun start v (later_place c b.place) }) })
            (record { units = suc h.units; run = run_after p h.run b.unit; found = None })
            in x ≡ move_hunt (cond t (record { units = suc h.units; run = 0; found = Some (record { skipped = h.units - p.most; place = b.place; reading = begun start v b.place }) })
            (record { units = suc h.units; run = run_after p h.run b.unit; found = None })))
        by true = ap (λ (q : Progress S V). let x : Hunt S V = record { units = suc h.units; run = 0; found = Some (record { skipped = h.units - p.most; place = later_place c b.place; reading = q }) } in x) (begun_moved b.place)
        by false = refl
      hunt_on_moved h b (Some f) =
          ap (λ (q : Progress S V). let x : Hunt S V = record { units = suc h.units; run = 0; found = Some (record { skipped = f.skipped; place = later_place c f.place; reading = q }) } in x) (on_moved f.reading b)

      hunt_from_moved : (u : List Placed) (h : Hunt S V) → hunt_from p v rule start (move_hunt h) (map (λ b. later c b) u) ≡ move_hunt (hunt_from p v rule start h u)
      hunt_from_moved [] h = refl
      hunt_from_moved (b ∷ u) h =
          ap (λ (x : Hunt S V). hunt_from p v rule start x (map (λ b. later c b) u)) (hunt_on_moved h b h.found) ∙ hunt_from_moved u (hunt_on p v rule start h b h.found)

      pub hunt_moved : (u : List Placed) → hunt p v rule start (map (λ b. later c b) u) ≡ move_hunt (hunt p v rule start u)
      hunt_moved u = hunt_from_moved u no_hunt

-- a source whose rule looks at the units alone
module _ (c : ℕ) {S V : Type 0} (rule : S → ℕ → Next S V) (start : S) (p : Pattern) (v : V) where
  same_next : (n : Next S V) → n ≡ moved c (λ (s : S). s) (λ (v : V). v) n
  same_next (Go s) = refl
  same_next x = refl

  natural_unit : (s : S) (b : Placed) → by_unit rule s (later c b) ≡ moved c (λ (s : S). s) (λ (v : V). v) (by_unit rule s b)
  natural_unit s b = same_next (rule s b.unit)

  kept_later : (items : List (V × Place)) → kept (map (λ x. (x.0, later_place c x.1)) items) ≡ map (λ x. (x.0, later_place c x.1)) (kept items)
  kept_later [] = refl
  kept_later (x ∷ items) = ap (λ (l : List (Said V × Place)). (Kept x.0, later_place c x.1) ∷ l) (kept_later items)

  abbrev streamed : List (Said V × Place) → List (Said V × Place) → Option (Place × Reason) → ℕ → ℕ → Stream V
  streamed front given fault held skipped = record { given = front ++ given; fault = fault; held = held; skipped = skipped; locked = true }

  shown_later : (front : List (Said V × Place)) (skipped : ℕ) (q : Progress S V) →
      shown (map (λ x. (x.0, later_place c x.1)) front) skipped (move c (λ (s : S). s) (λ (v : V). v) q) ≡ later_stream c (shown front skipped q)
  shown_later front skipped q =
      ap (λ (l : List (Said V × Place)). streamed (map (λ x. (x.0, later_place c x.1)) front) l (later_fault c q.fault) (length (map (λ b. later c b) q.rest)) skipped) (kept_later q.items)
      ∙ ap (λ (l : List (Said V × Place)). streamed [] l (later_fault c q.fault) (length (map (λ b. later c b) q.rest)) skipped) (sym (map-append (λ (x : Said V × Place). (x.0, later_place c x.1)) front (kept q.items)))
      ∙ ap (λ (n : ℕ). streamed [] (map (λ x. (x.0, later_place c x.1)) (front ++ kept q.items)) (later_fault c q.fault) n skipped) (length-map q.rest (λ (b : Placed). later c b))

  hunted_later : (units : ℕ) (o : Option (Found S V)) →
      hunted_by units (move_found c (λ (s : S). s) (λ (v : V). v) (by_unit rule) start refl natural_unit p v refl o) ≡ later_stream c (hunted_by units o)
  hunted_later units None = refl
  hunted_later units (Some f) = shown_later ((Notice f.skipped, f.place) ∷ []) f.skipped f.reading

  pub stream_later : (h : Bool) (u : List Placed) → stream_in p v (by_unit rule) start h (map (λ b. later c b) u) ≡ later_stream c (stream_in p v (by_unit rule) start h u)
  stream_later false u = ap (λ (q : Progress S V). shown [] 0 q) (progress_moved c (λ (s : S). s) (λ (v : V). v) (by_unit rule) start refl natural_unit u) ∙ shown_later [] 0 (progress (by_unit rule) start u)
  stream_later true u =
      ap (λ (h : Hunt S V). hunted_by h.units h.found) (hunt_moved c (λ (s : S). s) (λ (v : V). v) (by_unit rule) start refl natural_unit p v refl u)
      ∙ hunted_later (hunt p v (by_unit rule) start u).units (hunt p v (by_unit rule) start u).found
