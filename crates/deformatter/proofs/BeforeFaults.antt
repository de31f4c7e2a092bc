-- What is before a fault of the port: one to three FF, which a new hunt takes again with the byte of the fault.
use Rattle.std.proofs.Common.{◌≡◌, ℕ, zero, suc, ◌+◌, ◌-◌, List, [], ◌∷◌, ◌++◌, length, drop, refl, sym, ◌∙◌, ap, arith}
use Rattle.std.proofs.Common.{subst, append_assoc, append-nil, Option, None, Some, Bool, true, false, cond}
use Rattle.std.specs.Prelude.{is_none, ◌==◌, ◌&&◌, if◌then◌else◌}
use Rattle.deformatter.specs.Names.{Next, Go, End, Fail, Place, Placed, Reason, BadSync, SyncInFrame, Progress}
use Rattle.deformatter.specs.Names.{with_unit, advance, progress_from, unread, Found, hunt, hunt_on, hunt_from, no_hunt}
use Rattle.deformatter.specs.Names.{run_after, begun, Seeks, port_progress, PortItem, Full, Half, State, Part, Between}
use Rattle.deformatter.specs.Names.{First, One, Two, Three, start, rule, part_rule, word_ended, half_ended}
use Rattle.deformatter.specs.Names.{with_part, pattern}
use Rattle.trace_values.specs.Hunted.{Hunt}
use Rattle.std.proofs.lemmas.List.{length-append}
use Rattle.std.proofs.Math.Seq.{drop-append_seam}
use Rattle.std.proofs.lemmas.Bool.{eqb-true}
use Rattle.frame_grammar.proofs.Deciding.{ended_never}
use Rattle.trace_values.proofs.Standings.{progress_push}
use Rattle.trace_values.proofs.HuntSteps.{Seeks-empty, Seeks-fed}
use Rattle.deformatter.proofs.Readings.{hunt_push}
use Rattle.deformatter.specs.Reading.{port_hunted, port_stream}
use Rattle.deformatter.specs.Rule.{part_size}
use Rattle.deformatter.specs.Resume.{state_by, state_found}

abbrev ff : Place → Placed
ff p = record { unit = 255; place = p }

-- the part is what the list ends in
abbrev pub PartEnds : Part → List Placed → Type 0
PartEnds Between u = Unit {0}
PartEnds (First a) u = Unit {0}
PartEnds One u = (v : List Placed) × (p : Place) × (u ≡ v ++ ff p ∷ [])
PartEnds Two u = (v : List Placed) × (p : Place) × (q : Place) × (u ≡ v ++ (ff p ∷ (ff q ∷ [])))
PartEnds Three u = (v : List Placed) × (p : Place) × (q : Place) × (r : Place)
    × (u ≡ v ++ (ff p ∷ (ff q ∷ (ff r ∷ []))))

abbrev pub PartEndsNext : Next State PortItem → List Placed → Type 0
PartEndsNext (Go t) u = PartEnds t.part u
PartEndsNext (End v) u = Unit {0}
PartEndsNext (Fail e) u = Unit {0}

is_ff : (x : Placed) → (x.unit == 255) ≡ true → x ≡ ff x.place
is_ff x e = ap (λ (n : ℕ). record { unit = n; place = x.place }) (eqb-true x.unit 255 e)

begins : (s : State) (u : List Placed) (x : Placed) (t : Bool) → (x.unit == 255) ≡ t →
    PartEndsNext (if t then Go (with_part s One) else Go (with_part s (First x))) (u ++ x ∷ [])
begins s u x true e = (u, x.place, ap (λ (y : Placed). u ++ y ∷ []) (is_ff x e))
begins s u x false e = tt

word : (n : ℕ) (f : List Placed) (h : ℕ) (u : List Placed) → PartEndsNext (word_ended n f h) u
word zero f h u = tt
word (suc n) f h u = tt

half : (s : State) (u : List Placed) (t : Bool) →
    PartEndsNext (if t then End Half else Go (record {
      left = s.left;
      bytes = s.bytes;
      halves =
          s.halves + 1;
      part = Between;
    })) u
half s u true = tt
half s u false = tt

full : (s : State) (u : List Placed) (x : Placed) (v : List Placed) (p : Place) → u ≡ v ++ ff p ∷ [] →
    x ≡ ff x.place → (t : Bool) → PartEndsNext (if t then Go (with_part s Two) else Fail SyncInFrame) (u ++ x ∷ [])
full s u x v p e k true = (
  v,
  p,
  x.place,
  ap (λ (w : List Placed). w ++ x ∷ []) e
      ∙ append_assoc v (ff p ∷ []) (x ∷ []) ∙ ap (λ (y : Placed). v ++ (ff p ∷ (y ∷ []))) k,
)
full s u x v p e k false = tt

one : (s : State) (u : List Placed) (x : Placed) → PartEnds One u → (a b : Bool) →
    (x.unit == 127) ≡ a → (x.unit == 255) ≡ b →
    PartEndsNext (if a then half_ended s
    else (if b then (if s.left == 7 then Go (with_part s Two) else Fail SyncInFrame) else Fail BadSync)) (u ++ x ∷ [])
one s u x h true b e f = half s (u ++ x ∷ []) (s.left == 7)
one s u x h false true e f = full s u x h.0 h.1 h.2 (is_ff x f) (s.left == 7)
one s u x h false false e f = tt

two : (s : State) (u : List Placed) (x : Placed) → PartEnds Two u → (b : Bool) → (x.unit == 255) ≡ b →
    PartEndsNext (if b then Go (with_part s Three) else Fail BadSync) (u ++ x ∷ [])
two s u x h true f = (
  h.0,
  h.1,
  h.2,
  x.place,
  ap (λ (w : List Placed). w ++ x ∷ []) h.3
      ∙ append_assoc h.0 (ff h.1 ∷ (ff h.2 ∷ [])) (x ∷ [])
      ∙ ap (λ (y : Placed). h.0 ++ (ff h.1 ∷ (ff h.2 ∷ (y ∷ [])))) (is_ff x f),
)
two s u x h false f = tt

three : (s : State) (u : List Placed) (x : Placed) (b : Bool) → PartEndsNext (if b then End Full else Fail BadSync) u
three s u x true = tt
three s u x false = tt

more : (part : Part) (s : State) (u : List Placed) (x : Placed) → PartEnds part u →
    PartEndsNext (part_rule part s x) (u ++ x ∷ [])
more Between s u x h = begins s u x (x.unit == 255) refl
more (First a) s u x h = word s.left (s.bytes ++ (a ∷ (x ∷ []))) s.halves (u ++ x ∷ [])
more One s u x h = one s u x h (x.unit == 127) (x.unit == 255) refl refl
more Two s u x h = two s u x h (x.unit == 255) refl
more Three s u x h = three s (u ++ x ∷ []) x (x.unit == 127)

-- over a reading: while it has no fault, its part is what the list ends in
abbrev Ends : List Placed → Progress State PortItem → Type 0
Ends u p = p.fault ≡ None → PartEnds p.state.part u

grown : (u : List Placed) (p : Progress State PortItem) (x : Placed) (n : Next State PortItem)
    (f : Option (Place × Reason)) → f ≡ p.fault → Ends u p → (f ≡ None → PartEndsNext n (u ++ x ∷ [])) →
    Ends (u ++ x ∷ []) (with_unit start p x n f)
grown u p x (Go t) None e h k = λ _. k refl
grown u p x (End v) None e h k = λ _. tt
grown u p x (Fail q) None e h k = λ c. (let m = c in cc)
grown u p x n (Some y) e h k = λ c. (let m = c in cc)

ends_more : (u : List Placed) (p : Progress State PortItem) (x : Placed) → Ends u p →
    Ends (u ++ x ∷ []) (advance rule start p x)
ends_more u p x h = grown u p x (rule p.state x) p.fault refl h (λ e. more p.state.part p.state u x (h e))

ends_from : (w u : List Placed) (p : Progress State PortItem) → Ends u p → Ends (u ++ w) (progress_from rule start p w)
ends_from [] u p h = subst (λ (l : List Placed). Ends l p) (sym (append-nil u)) h
ends_from (x ∷ w) u p h = subst (λ (l : List Placed). Ends l (progress_from rule start (advance rule start p x) w))
    (append_assoc u (x ∷ []) w) (ends_from w (u ++ x ∷ []) (advance rule start p x) (ends_more u p x h))

-- over a hunt
abbrev EndsIn : List Placed → Option (Found State PortItem) → Type 0
EndsIn u None = Unit {0}
EndsIn u (Some f) = Ends u f.reading

sought : (u : List Placed) (h : Hunt State PortItem) (x : Placed) (t : Bool) →
    EndsIn u (cond {A = Hunt State PortItem} t (record {
      units = suc h.units;
      run = 0;
      found =
          Some (record { skipped = h.units - 3; place = x.place; reading = begun start Full x.place });
    })
    (record { units = suc h.units; run = run_after pattern h.run x.unit; found = None })).found
sought u h x true = λ _. tt
sought u h x false = tt

hunted_more : (u : List Placed) (h : Hunt State PortItem) (x : Placed) (o : Option (Found State PortItem)) →
    EndsIn u o → EndsIn (u ++ x ∷ []) (hunt_on pattern Full rule start h x o).found
hunted_more u h x None e = sought (u ++ x ∷ []) h x (x.unit == 127 && h.run == 3)
hunted_more u h x (Some f) e = ends_more u f.reading x e

hunted_from : (w u : List Placed) (h : Hunt State PortItem) → EndsIn u h.found →
    EndsIn (u ++ w) (hunt_from pattern Full rule start h w).found
hunted_from [] u h e = subst (λ (l : List Placed). EndsIn l h.found) (sym (append-nil u)) e
hunted_from (x ∷ w) u h e =
    subst (λ (l : List Placed). EndsIn l (hunt_from pattern Full rule start
    (hunt_on pattern Full rule start h x h.found) w).found) (append_assoc u (x ∷ []) w)
    (hunted_from w (u ++ x ∷ []) (hunt_on pattern Full rule start h x h.found) (hunted_more u h x h.found e))

pub aligned_ends : (u : List Placed) → Ends u (port_progress u)
aligned_ends u = ends_from u [] (unread start) (λ _. tt)

pub hunt_ends : (u : List Placed) → EndsIn u (hunt pattern Full rule start u).found
hunt_ends u = hunted_from u [] no_hunt tt

-- a hunt over what is taken again has not locked
and_false : (a : Bool) → (a && false) ≡ false
and_false true = refl
and_false false = refl

-- a new hunt has taken these: so many FF, and this byte
abbrev pub Seeked : ℕ → Placed → List Placed → Type 0
Seeked k x w = Seeks pattern Full rule start (run_after pattern k x.unit) (k + 1) w

ff_first : (p : Place) → Seeks pattern Full rule start 1 1 (ff p ∷ [])
ff_first p = Seeks-fed pattern Full rule start 0 0 [] (ff p) (Seeks-empty pattern Full rule start) refl

ff_second : (p q : Place) → Seeks pattern Full rule start 2 2 (ff p ∷ (ff q ∷ []))
ff_second p q = Seeks-fed pattern Full rule start 1 1 (ff p ∷ []) (ff q) (ff_first p) refl

ff_third : (p q r : Place) → Seeks pattern Full rule start 3 3 (ff p ∷ (ff q ∷ (ff r ∷ [])))
ff_third p q r = Seeks-fed pattern Full rule start 2 2 (ff p ∷ (ff q ∷ [])) (ff r) (ff_second p q) refl

after_one : (p : Place) (x : Placed) → Seeked 1 x (ff p ∷ (x ∷ []))
after_one p x = Seeks-fed pattern Full rule start 1 1 (ff p ∷ []) x (ff_first p) (and_false (x.unit == 127))

after_two : (p q : Place) (x : Placed) → Seeked 2 x (ff p ∷ (ff q ∷ (x ∷ [])))
after_two p q x =
    Seeks-fed pattern Full rule start 2 2 (ff p ∷ (ff q ∷ [])) x (ff_second p q) (and_false (x.unit == 127))

after_three : (p q r : Place) (x : Placed) → (x.unit == 127) ≡ false → Seeked 3 x (ff p ∷ (ff q ∷ (ff r ∷ (x ∷ []))))
after_three p q r x e =
    Seeks-fed pattern Full rule start 3 3 (ff p ∷ (ff q ∷ (ff r ∷ []))) x (ff_third p q r)
    (ap (λ (t : Bool). t && true) e)

drop_front : (v w : List Placed) (n : ℕ) → length w ≡ n → drop (length (v ++ w) - n) (v ++ w) ≡ w
drop_front v w n e = ap (λ (m : ℕ). drop m (v ++ w)) (let k = length-append v w in omega (arith, e, k))
    ∙ drop-append_seam v w

-- what a fault says of the part and the byte
abbrev pub Failing : Part → Placed → Type 0
Failing Between x = ⊥
Failing (First a) x = ⊥
Failing One x = Unit {0}
Failing Two x = Unit {0}
Failing Three x = (x.unit == 127) ≡ false

no_begin : (s : State) (x : Placed) (e : Reason) (t : Bool) →
    cond {A = Next State PortItem} t (Go (with_part s One)) (Go (with_part s (First x))) ≡ Fail e → ⊥
no_begin s x e true k = cc
no_begin s x e false k = cc

no_full : (x : Placed) (e : Reason) (b : Bool) → (x.unit == 127) ≡ b →
    cond {A = Next State PortItem} b (End Full) (Fail BadSync) ≡ Fail e → (x.unit == 127) ≡ false
no_full x e true q k = cc
no_full x e false q k = q

pub failing : (part : Part) (s : State) (x : Placed) (e : Reason) → part_rule part s x ≡ Fail e → Failing part x
failing Between s x e k = no_begin s x e (x.unit == 255) k
failing (First a) s x e k = ended_never s.left (s.bytes ++ (a ∷ (x ∷ []))) s.halves e k
failing One s x e k = tt
failing Two s x e k = tt
failing Three s x e k = no_full x e (x.unit == 127) refl k

-- what is taken again, as a new hunt
pub taken : (part : Part) (u : List Placed) (x : Placed) → PartEnds part u → Failing part x →
    Seeked (part_size part) x (drop (length (u ++ x ∷ []) - (part_size part + 1)) (u ++ x ∷ []))
taken Between u x h f = absurd f
taken (First a) u x h f = absurd f
taken One u x h f =
    let w = ff h.1 ∷ (x ∷ []) in
    let e : u ++ x ∷ [] ≡ h.0 ++ w = ap (λ (l : List Placed). l ++ x ∷ []) h.2
    ∙ append_assoc h.0 (ff h.1 ∷ []) (x ∷ []) in
    subst (Seeked 1 x) (sym (ap (λ (l : List Placed). drop (length l - 2) l) e ∙ drop_front h.0 w 2 refl))
    (after_one h.1 x)
taken Two u x h f =
    let w = ff h.1 ∷ (ff h.2 ∷ (x ∷ [])) in
    let e : u ++ x ∷ [] ≡ h.0 ++ w = ap (λ (l : List Placed). l ++ x ∷ []) h.3
    ∙ append_assoc h.0 (ff h.1 ∷ (ff h.2 ∷ [])) (x ∷ []) in
    subst (Seeked 2 x) (sym (ap (λ (l : List Placed). drop (length l - 3) l) e ∙ drop_front h.0 w 3 refl))
    (after_two h.1 h.2 x)
taken Three u x h f =
    let w = ff h.1 ∷ (ff h.2 ∷ (ff h.3 ∷ (x ∷ []))) in
    let e : u ++ x ∷ [] ≡ h.0 ++ w = ap (λ (l : List Placed). l ++ x ∷ []) h.4
    ∙ append_assoc h.0 (ff h.1 ∷ (ff h.2 ∷ (ff h.3 ∷ []))) (x ∷ []) in
    subst (Seeked 3 x) (sym (ap (λ (l : List Placed). drop (length l - 4) l) e ∙ drop_front h.0 w 4 refl))
    (after_three h.1 h.2 h.3 x f)

-- where a reading with no fault gets one, its state stays and the rule fails
abbrev Fails : Progress State PortItem → Progress State PortItem → Placed → Type 0
Fails p q x = (q.state ≡ p.state) × ((e : Reason) × (part_rule p.state.part p.state x ≡ Fail e))

fails_by : (p : Progress State PortItem) (x : Placed) (n : Next State PortItem) (f : Option (Place × Reason)) →
    f ≡ None → is_none (with_unit start p x n f).fault ≡ false →
    ((with_unit start p x n f).state ≡ p.state) × ((e : Reason) × (n ≡ Fail e))
fails_by p x (Go t) None k e = cc
fails_by p x (End v) None k e = cc
fails_by p x (Fail r) None k e = (refl, (r, refl))
fails_by p x n (Some y) k e = cc

fails : (p : Progress State PortItem) (x : Placed) → p.fault ≡ None → is_none (advance rule start p x).fault ≡ false →
    Fails p (advance rule start p x) x
fails p x k e = fails_by p x (rule p.state x) p.fault k e

-- what is taken again after a fault with which the rule keeps this state
abbrev pub Again : State → List Placed → Placed → Type 0
Again s u x = Seeked (part_size s.part) x (drop (length (u ++ x ∷ []) - (part_size s.part + 1)) (u ++ x ∷ []))

taken_in : (u : List Placed) (x : Placed) (p q : Progress State PortItem) → Ends u p → p.fault ≡ None →
    Fails p q x → Again q.state u x
taken_in u x p q h k f =
    subst (λ (s : State). Again s u x) (sym f.0)
    (taken p.state.part u x (h k) (failing p.state.part p.state x f.1.0 f.1.1))

abbrev pub seeking : Hunt State PortItem → Placed → Bool → Hunt State PortItem
seeking h x t = cond t (record {
  units = suc h.units;
  run = 0;
  found =
      Some (record { skipped = h.units - 3; place = x.place; reading = begun start Full x.place });
})
    (record { units = suc h.units; run = run_after pattern h.run x.unit; found = None })

pub sound_seek : (h : Hunt State PortItem) (x : Placed) (t : Bool) →
    is_none (port_hunted (seeking h x t).units (seeking h x t).found).fault ≡ true
sound_seek h x true = refl
sound_seek h x false = refl

by_found : (u : List Placed) (h : Hunt State PortItem) (x : Placed) (o : Option (Found State PortItem)) → EndsIn u o →
    (port_hunted h.units o).fault ≡ None →
    is_none (port_hunted (hunt_on pattern Full rule start h x o).units
    (hunt_on pattern Full rule start h x o).found).fault ≡ false →
    Again (state_found (hunt_on pattern Full rule start h x o).found) u x
by_found u h x None d k e = (let q = sound_seek h x (x.unit == 127 && h.run == 3) in let m : true ≡ false =
    sym q ∙ e in cc)
by_found u h x (Some f) d k e = taken_in u x f.reading (advance rule start f.reading x) d k (fails f.reading x k e)

-- after a fault a new hunt has taken the FF before it, and its byte
pub seeked : (h : Bool) (u : List Placed) (x : Placed) → (port_stream h u).fault ≡ None →
    is_none (port_stream h (u ++ x ∷ [])).fault ≡ false →
    Again (state_by h (u ++ x ∷ [])) u x
seeked false u x k e =
    let q : port_progress (u ++ x ∷ []) ≡ advance rule start (port_progress u) x = progress_push rule start u x in
    let f : Fails (port_progress u) (port_progress (u ++ x ∷ [])) x =
    subst (λ (r : Progress State PortItem). Fails (port_progress u) r x) (sym q)
    (fails (port_progress u) x k (ap (λ (r : Progress State PortItem). is_none r.fault) (sym q) ∙ e)) in
    taken_in u x (port_progress u) (port_progress (u ++ x ∷ [])) (aligned_ends u) k f
seeked true u x k e =
    let h = hunt pattern Full rule start u in
    let q : hunt pattern Full rule start (u ++ x ∷ []) ≡ hunt_on pattern Full rule start h x h.found =
    hunt_push u x h.found refl in
    subst (λ (g : Hunt State PortItem). Again (state_found g.found) u x) (sym q)
    (by_found u h x h.found (hunt_ends u) k (ap
    (λ (g : Hunt State PortItem). is_none (port_hunted g.units g.found).fault) (sym q) ∙ e))
