-- What the unit of a fault leaves, in any grammar with a pattern: it is held, and nothing else changes.
use Rattle.std.proofs.Common.{◌≡◌, ℕ, suc, ◌+◌, ◌-◌, ◌<◌, ◌≤◌, List, [], ◌∷◌, ◌++◌, length, refl, sym, ◌∙◌, ap, arith, subst, Option, None, Some, Bool, true, false, cond}
use Rattle.std.specs.Prelude.{is_none, ◌==◌, ◌&&◌}
use Rattle.std.proofs.lemmas.List.{length_push}
use Rattle.trace_values.specs.declared.fault.Reason.{Reason}
use Rattle.trace_values.specs.declared.next.Next.{Next}
use Rattle.trace_values.specs.declared.next.Next.TheVariants.{Go, End, Fail}
use Rattle.trace_values.specs.declared.mode.Mode.{Mode}
use Rattle.trace_values.specs.declared.mode.Mode.TheVariants.{Aligned, Hunting, Locked}
use Rattle.trace_values.specs.declared.pattern.Pattern.{Pattern}
use Rattle.trace_values.specs.Placed.{Place, Placed}
use Rattle.trace_values.specs.Reading.{Progress, with_unit, advance, progress}
use Rattle.trace_values.specs.Stream.{Said, Notice, Holds, shown}
use Rattle.trace_values.specs.Standing.{Keeps}
use Rattle.trace_values.specs.Hunted.{Found, Hunt, hunt_on, hunt, hunted_by, hunted, begun, run_after}
use Rattle.trace_values.specs.Moded.{stream_in, hunts, StandsIn}
use Rattle.trace_values.proofs.Standings.{progress_push, counted, some_of, settled_on}
use Rattle.trace_values.proofs.HuntSteps as steps

module _ {S V : Type 0} (p : Pattern) (v : V) (rule : S → Placed → Next S V) (start : S) where
  -- in a reading
  holds_by : (front : List (Said V × Place)) (n : ℕ) (r : Progress S V) (b : Placed) (x : Next S V) (f : Option (Place × Reason)) → is_none (with_unit start r b x f).fault ≡ false →
      Holds 1 (shown front n r) (shown front n (with_unit start r b x f))
  holds_by front n r b (Go t) None k = cc
  holds_by front n r b (End w) None k = cc
  holds_by front n r b (Fail q) None k = record { given = refl; held = length_push r.rest b; skipped = refl; locked = refl }
  holds_by front n r b (Go t) (Some f) k = record { given = refl; held = length_push r.rest b; skipped = refl; locked = refl }
  holds_by front n r b (End w) (Some f) k = record { given = refl; held = length_push r.rest b; skipped = refl; locked = refl }
  holds_by front n r b (Fail q) (Some f) k = record { given = refl; held = length_push r.rest b; skipped = refl; locked = refl }

  -- the hunt with one more unit, by whether the unit locks
  abbrev sought : Hunt S V → Placed → Bool → Hunt S V
  sought h b t = cond t (record { units = suc h.units; run = 0; found = Some (record { skipped = h.units - p.most; place = b.place; reading = begun start v b.place }) }) (record { units = suc h.units; run = run_after p h.run b.unit; found = None })

  abbrev locks : Hunt S V → Placed → Bool
  locks h b = b.unit == p.last && h.run == p.most

  -- before the lock no unit is a fault
  sound_by : (h : Hunt S V) (b : Placed) (t : Bool) → is_none (hunted_by (sought h b t).units (sought h b t).found).fault ≡ true
  sound_by h b true = refl
  sound_by h b false = refl

  found_by : (h : Hunt S V) (b : Placed) (o : Option (Found S V)) →
      is_none (hunted_by (hunt_on p v rule start h b o).units (hunt_on p v rule start h b o).found).fault ≡ false →
      Holds 1 (hunted_by h.units o) (hunted_by (hunt_on p v rule start h b o).units (hunt_on p v rule start h b o).found)
  found_by h b None k = (let q = sound_by h b (locks h b) in let m : true ≡ false = sym q ∙ k in cc)
  found_by h b (Some f) k = holds_by ((Notice f.skipped, f.place) ∷ []) f.skipped f.reading b (rule f.reading.state b) f.reading.fault k

  -- a unit with which there is a fault, or was one before, is held
  pub holds : (h : Bool) (u : List Placed) (b : Placed) → is_none (stream_in p v rule start h (u ++ b ∷ [])).fault ≡ false →
      Holds 1 (stream_in p v rule start h u) (stream_in p v rule start h (u ++ b ∷ []))
  holds false u b k =
      let q = progress_push rule start u b in
      subst (λ (r : Progress S V). Holds 1 (shown [] 0 (progress rule start u)) (shown [] 0 r)) (sym q)
      (holds_by [] 0 (progress rule start u) b (rule (progress rule start u).state b) (progress rule start u).fault (ap (λ (r : Progress S V). is_none r.fault) (sym q) ∙ k))
  holds true u b k =
      let h = hunt p v rule start u in
      let q : hunt p v rule start (u ++ b ∷ []) ≡ hunt_on p v rule start h b h.found = steps.hunt_push p v rule start u b h.found refl in
      subst (λ (x : Hunt S V). Holds 1 (hunted p v rule start u) (hunted_by x.units x.found)) (sym q)
      (found_by h b h.found (ap (λ (x : Hunt S V). is_none (hunted_by x.units x.found).fault) (sym q) ∙ k))

  -- the state after a fault is that before it
  state_by : (r : Progress S V) (b : Placed) (x : Next S V) (f : Option (Place × Reason)) → is_none (with_unit start r b x f).fault ≡ false → (with_unit start r b x f).state ≡ r.state
  state_by r b (Go t) None k = cc
  state_by r b (End w) None k = cc
  state_by r b (Fail q) None k = refl
  state_by r b (Go t) (Some f) k = refl
  state_by r b (End w) (Some f) k = refl
  state_by r b (Fail q) (Some f) k = refl

  fault_is : (r : Progress S V) (b : Placed) → is_none r.fault ≡ false → is_none (advance rule start r b).fault ≡ false
  fault_is r b k = let f = some_of r.fault k in ap is_none (settled_on rule start r b f.0 f.1).1

  -- and a machine that stood for a list with a fault did so before the units after it
  reading_before : (live : Bool) (state : S) (r : Progress S V) (b : Placed) → is_none r.fault ≡ false → Keeps live state (advance rule start r b) → Keeps live state r
  reading_before live state r b k s = record {
    live_is = s.live_is ∙ fault_is r b k ∙ sym k;
    state_is = sym (state_by r b (rule r.state b) r.fault (fault_is r b k)) ∙ s.state_is;
  }

  same_found : (f g : Found S V) → (let x : Option (Found S V) = Some f in let y : Option (Found S V) = Some g in x ≡ y) → f ≡ g
  same_found f g e = cc

  found_before : (skipped : ℕ) (live : Bool) (state : S) (u : List Placed) (b : Placed) (g : Found S V) (o : Option (Found S V)) → (hunt p v rule start u).found ≡ o → is_none (hunted p v rule start u).fault ≡ false →
      (hunt_on p v rule start (hunt p v rule start u) b (hunt p v rule start u).found).found ≡ Some g → g.skipped ≡ skipped → Keeps live state g.reading →
      StandsIn p v rule start (Locked skipped) live state u
  found_before skipped live state u b g None e k w m s =
      (let z : is_none (hunted_by {S = S} {V = V} (hunt p v rule start u).units None).fault ≡ false = ap (λ (o : Option (Found S V)). is_none (hunted_by (hunt p v rule start u).units o).fault) (sym e) ∙ k in cc)
  found_before skipped live state u b g (Some f) e k w m s =
      let y : record f { reading = advance rule start f.reading b } ≡ g = same_found _ g (ap (λ (o : Option (Found S V)). (hunt_on p v rule start (hunt p v rule start u) b o).found) (sym e) ∙ w) in
      let z : is_none f.reading.fault ≡ false = ap (λ (o : Option (Found S V)). is_none (hunted_by (hunt p v rule start u).units o).fault) (sym e) ∙ k in
      record {
        found = f;
        some = e;
        skipped_is = ap (λ (x : Found S V). x.skipped) y ∙ m;
        stands = reading_before live state f.reading b z (subst (λ (x : Found S V). Keeps live state x.reading) (sym y) s);
      }

  pub before : (m : Mode) (live : Bool) (state : S) (u : List Placed) (b : Placed) → is_none (stream_in p v rule start (hunts m) u).fault ≡ false →
      StandsIn p v rule start m live state (u ++ b ∷ []) → StandsIn p v rule start m live state u
  before Aligned live state u b k s =
      reading_before live state (progress rule start u) b k (subst (λ (r : Progress S V). Keeps live state r) (progress_push rule start u b) s)
  before (Hunting run skipped) live state u b k s =
      let t = (steps.settles p v rule start u (b ∷ []) k).fault in
      let z : true ≡ false = sym (ap (λ (o : Option (Found S V)). is_none (hunted_by (hunt p v rule start (u ++ b ∷ [])).units o).fault) s.0.none) ∙ ap is_none t ∙ k in
      cc
  before (Locked skipped) live state u b k s =
      let h = hunt p v rule start u in
      let q : hunt p v rule start (u ++ b ∷ []) ≡ hunt_on p v rule start h b h.found = steps.hunt_push p v rule start u b h.found refl in
      found_before skipped live state u b s.found h.found refl k (sym (ap (λ (x : Hunt S V). x.found) q) ∙ s.some) s.skipped_is s.stands

  -- where no value fails at such a first unit, a unit before one that is a fault ends none, and is held
  module _ (IsFirst : Placed → Type 0) (begins : (b : Placed) (e : Reason) → IsFirst b → rule start b ≡ Fail e → ⊥) where
    sound_start : (b : Placed) (items : List (V × Place)) (x : Next S V) → IsFirst b → rule start b ≡ x → (let r : Progress S V = record { items = items; rest = []; fault = None; state = start } in is_none (with_unit start r b x None).fault ≡ true)
    sound_start b items (Go t) i e = refl
    sound_start b items (End w) i e = refl
    sound_start b items (Fail q) i e = absurd (begins b q i e)

    goes_by : (front : List (Said V × Place)) (n : ℕ) (r : Progress S V) (b c : Placed) (x : Next S V) (f : Option (Place × Reason)) → IsFirst c → (with_unit start r b x f).fault ≡ None →
        is_none (advance rule start (with_unit start r b x f) c).fault ≡ false → Holds 1 (shown front n r) (shown front n (with_unit start r b x f))
    goes_by front n r b c (Go t) None i e k = record { given = refl; held = length_push r.rest b; skipped = refl; locked = refl }
    goes_by front n r b c (End w) None i e k = (let z : true ≡ false = sym (sound_start c (r.items ++ (w, b.place) ∷ []) (rule start c) i refl) ∙ k in cc)
    goes_by front n r b c (Fail q) None i e k = cc
    goes_by front n r b c x (Some f) i e k = cc

    goes_found : (h : Hunt S V) (b c : Placed) (o : Option (Found S V)) → IsFirst c →
        (hunted_by (hunt_on p v rule start h b o).units (hunt_on p v rule start h b o).found).fault ≡ None →
        (let w = hunt_on p v rule start h b o in let y = hunt_on p v rule start w c w.found in is_none (hunted_by y.units y.found).fault ≡ false) →
        Holds 1 (hunted_by h.units o) (hunted_by (hunt_on p v rule start h b o).units (hunt_on p v rule start h b o).found)
    goes_found h b c (Some f) i e k = goes_by ((Notice f.skipped, f.place) ∷ []) f.skipped f.reading b c (rule f.reading.state b) f.reading.fault i e k
    goes_found h b c None i e k = by (locks h b) k where
      by : (t : Bool) → (let y = hunt_on p v rule start (sought h b t) c (sought h b t).found in is_none (hunted_by y.units y.found).fault ≡ false) → Holds 1 (hunted_by {S = S} h.units None) (hunted_by (sought h b t).units (sought h b t).found)
      by true k = (let z : true ≡ false = sym (sound_start c ((v, b.place) ∷ []) (rule start c) i refl) ∙ k in cc)
      by false k = (let z : true ≡ false = sym (sound_by (sought h b false) c (locks (sought h b false) c)) ∙ k in cc)

    pub goes : (h : Bool) (u : List Placed) (b c : Placed) → IsFirst c → (stream_in p v rule start h (u ++ b ∷ [])).fault ≡ None → is_none (stream_in p v rule start h ((u ++ b ∷ []) ++ c ∷ [])).fault ≡ false →
        Holds 1 (stream_in p v rule start h u) (stream_in p v rule start h (u ++ b ∷ []))
    goes false u b c i e k =
        let q = progress_push rule start u b in
        let w = progress_push rule start (u ++ b ∷ []) c in
        subst (λ (r : Progress S V). Holds 1 (shown [] 0 (progress rule start u)) (shown [] 0 r)) (sym q)
        (goes_by [] 0 (progress rule start u) b c (rule (progress rule start u).state b) (progress rule start u).fault i (ap (λ (r : Progress S V). r.fault) (sym q) ∙ e)
        (ap (λ (r : Progress S V). is_none (advance rule start r c).fault) (sym q) ∙ ap (λ (r : Progress S V). is_none r.fault) (sym w) ∙ k))
    goes true u b c i e k =
        let h = hunt p v rule start u in
        let q : hunt p v rule start (u ++ b ∷ []) ≡ hunt_on p v rule start h b h.found = steps.hunt_push p v rule start u b h.found refl in
        let g = hunt p v rule start (u ++ b ∷ []) in
        let w : hunt p v rule start ((u ++ b ∷ []) ++ c ∷ []) ≡ hunt_on p v rule start g c g.found = steps.hunt_push p v rule start (u ++ b ∷ []) c g.found refl in
        subst (λ (x : Hunt S V). Holds 1 (hunted p v rule start u) (hunted_by x.units x.found)) (sym q)
        (goes_found h b c h.found i (ap (λ (x : Hunt S V). (hunted_by x.units x.found).fault) (sym q) ∙ e)
        (ap (λ (x : Hunt S V). is_none (hunted_by (hunt_on p v rule start x c x.found).units (hunt_on p v rule start x c x.found).found).fault) (sym q)
        ∙ ap (λ (x : Hunt S V). is_none (hunted_by x.units x.found).fault) (sym w) ∙ k))

  -- where the state counts the units of the rest
  module _ (count : S → ℕ) (none : count start ≡ 0) (one : (s t : S) (b : Placed) → rule s b ≡ Go t → count t ≡ count s + 1) where
    locked_by : (skipped : ℕ) (state : S) (u : List Placed) (b : Placed) (g : Found S V) (o : Option (Found S V)) → (hunt p v rule start u).found ≡ o →
        (hunt_on p v rule start (hunt p v rule start u) b (hunt p v rule start u).found).found ≡ Some g → g.reading.state ≡ state → is_none g.reading.fault ≡ false →
        (hunted p v rule start u).fault ≡ None → count state ≡ (hunted p v rule start u).held
    locked_by skipped state u b g None e k t d f =
        let h = hunt p v rule start u in
        let w : (sought h b (locks h b)).found ≡ Some g = ap (λ (o : Option (Found S V)). (hunt_on p v rule start h b o).found) (sym e) ∙ k in
        let z : true ≡ false = sym (sound_by h b (locks h b)) ∙ ap (λ (o : Option (Found S V)). is_none (hunted_by (sought h b (locks h b)).units o).fault) w ∙ d in
        cc
    locked_by skipped state u b g (Some x) e k t d f =
        let h = hunt p v rule start u in
        let y : record x { reading = advance rule start x.reading b } ≡ g = same_found _ g (ap (λ (o : Option (Found S V)). (hunt_on p v rule start h b o).found) (sym e) ∙ k) in
        let sound : x.reading.fault ≡ None = ap (λ (o : Option (Found S V)). (hunted_by h.units o).fault) (sym e) ∙ f in
        let st : (advance rule start x.reading b).state ≡ x.reading.state = state_by x.reading b (rule x.reading.state b) x.reading.fault (ap (λ (r : Found S V). is_none r.reading.fault) y ∙ d) in
        let s = steps.Follows-shows p v rule start count none one x.skipped true x.reading.state u (length u) (omega arith) (record { found = x; some = e; skipped_is = refl; stands = record { live_is = sym (ap is_none sound); state_is = refl } }) in
        ap count (sym t ∙ ap (λ (r : Found S V). r.reading.state) (sym y) ∙ st) ∙ s.held_is refl

    -- after a fault a machine holds what it held before the fault's unit
    pub keeps : (m : Mode) (live : Bool) (state : S) (u : List Placed) (b : Placed) → StandsIn p v rule start m live state (u ++ b ∷ []) → live ≡ false →
        (stream_in p v rule start (hunts m) u).fault ≡ None → count state ≡ (stream_in p v rule start (hunts m) u).held
    keeps Aligned live state u b s l f =
        let q = progress_push rule start u b in
        let k : is_none (advance rule start (progress rule start u) b).fault ≡ false = ap (λ (r : Progress S V). is_none r.fault) (sym q) ∙ sym s.live_is ∙ l in
        let e = state_by (progress rule start u) b (rule (progress rule start u).state b) (progress rule start u).fault k in
        ap count (sym s.state_is ∙ ap (λ (r : Progress S V). r.state) q ∙ e) ∙ sym (counted rule start count none one u f)
    keeps (Hunting run skipped) live state u b s l f = (let k : true ≡ false = sym s.1 ∙ l in cc)
    keeps (Locked skipped) live state u b s l f =
        let h = hunt p v rule start u in
        let q : hunt p v rule start (u ++ b ∷ []) ≡ hunt_on p v rule start h b h.found = steps.hunt_push p v rule start u b h.found refl in
        locked_by skipped state u b s.found h.found refl (sym (ap (λ (x : Hunt S V). x.found) q) ∙ s.some) s.stands.state_is (sym s.stands.live_is ∙ l) f

    -- where the units are the bytes
    pub keeps_one : (m : Mode) (live : Bool) (state : S) (u : List Placed) (b : Placed) → StandsIn p v rule start m live state (u ++ b ∷ []) → live ≡ false →
        (stream_in p v rule start (hunts m) u).fault ≡ None → ((stream_in p v rule start (hunts m) u).held ≤ count state) × (count state < (stream_in p v rule start (hunts m) u).held + 1)
    keeps_one m live state u b s l f = (let e = keeps m live state u b s l f in (omega (arith, e), omega (arith, e)))
