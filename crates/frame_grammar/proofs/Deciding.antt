-- The rule decides the port grammar.
use Rattle.std.proofs.Common.{◌≡◌, ◌≢◌, ℕ, zero, suc, ◌+◌, ◌<◌, ◌≤◌, List, [], ◌∷◌, ◌++◌, refl, sym, ◌∙◌, ap, ◌⊎◌, inl, inr, arith, subst, Bool, true, false, cond, append_assoc}
use Rattle.std.specs.Prelude.{◌==◌}
use Rattle.std.proofs.lemmas.Bool.{eq-eqb, ne_eqb, eqb-true, eqb-false}
use Rattle.frame_grammar.specs.Names.{Reason, BadSync, SyncInFrame, Next, Go, End, Fail, Placed, byte_at, units_of}
use Rattle.frame_grammar.specs.Names.{Walked, Within, Whole, after, walk, Decides}
use Rattle.trace_values.proofs.Walks as walks
use Rattle.frame_grammar.specs.Port.{PortItem, Full, Half, Frame, half_spelling, IsWord, IsWords, Spells, last_unit, why, Part, Between, First, One, Two, Three, State, start, word_ended, half_ended, with_part, rule}

abbrev pub at : ℕ → List Placed → ℕ → Part → State
at n f h p = record { left = n; bytes = f; halves = h; part = p }

-- after FF FF
abbrev full_begun : State → Next State PortItem
full_begun s = cond (s.left == 7) (Go (with_part s Two)) (Fail SyncInFrame)

abbrev pub on : State → List Placed → Walked State PortItem
on s r = walk rule s r

-- the walk after a unit of which the rule says this
says : (s : State) (x : Placed) (r : List Placed) (y : Next State PortItem) → rule s x ≡ y → on s (x ∷ r) ≡ after y (λ t. on t r) r
says s x r y e = ap (λ (z : Next State PortItem). after z (λ t. on t r) r) e

mark : (n : ℕ) (f : List Placed) (h : ℕ) (x : Placed) → x.unit ≡ 255 → rule (at n f h Between) x ≡ Go (at n f h One)
mark n f h x e = ap (λ (b : Bool). cond {A = Next State PortItem} b (Go (at n f h One)) (Go (at n f h (First x)))) (eq-eqb x.unit 255 e)

word : (n : ℕ) (f : List Placed) (h : ℕ) (x : Placed) → x.unit ≢ 255 → rule (at n f h Between) x ≡ Go (at n f h (First x))
word n f h x e = ap (λ (b : Bool). cond {A = Next State PortItem} b (Go (at n f h One)) (Go (at n f h (First x)))) (ne_eqb x.unit 255 e)

inner : (n : ℕ) (f : List Placed) (h : ℕ) (x : Placed) → x.unit ≡ 127 → n ≢ 7 → rule (at n f h One) x ≡ Go (at n f (h + 1) Between)
inner n f h x e l =
    ap (λ (b : Bool). cond b (half_ended (at n f h One)) (cond (x.unit == 255) (full_begun (at n f h One)) (Fail BadSync))) (eq-eqb x.unit 127 e)
    ∙ ap (λ (b : Bool). cond {A = Next State PortItem} b (End Half) (Go (at n f (h + 1) Between))) (ne_eqb n 7 l)

-- complete
halves_on : (k n : ℕ) (f : List Placed) (h : ℕ) (g r : List Placed) → n ≢ 7 → units_of g ≡ half_spelling k → on (at n f h Between) (g ++ r) ≡ on (at n f (h + k) Between) r
halves_on zero n f h [] r l i = ap (λ (m : ℕ). on (at n f m Between) r) (let e : h ≡ h + 0 = omega arith in e)
halves_on zero n f h (x ∷ g) r l i = cc
halves_on (suc k) n f h [] r l i = cc
halves_on (suc k) n f h (x ∷ []) r l i = cc
halves_on (suc k) n f h (x ∷ (y ∷ g)) r l i =
    let ex : x.unit ≡ 255 = cc in let ey : y.unit ≡ 127 = cc in let m : units_of g ≡ half_spelling k = cc in
    says (at n f h Between) x (y ∷ (g ++ r)) _ (mark n f h x ex) ∙ says (at n f h One) y (g ++ r) _ (inner n f h y ey l) ∙ halves_on k n f (h + 1) g r l m
    ∙ ap (λ (m : ℕ). on (at n f m Between) r) (let e : h + 1 + k ≡ h + suc k = omega arith in e)

word_on : (n : ℕ) (f : List Placed) (h : ℕ) (r : List Placed) (a b : Placed) → a.unit ≢ 255 →
    on (at n f h Between) (a ∷ (b ∷ r)) ≡ after (word_ended n (f ++ (a ∷ (b ∷ []))) h) (λ t. on t r) r
word_on n f h r a b e = says (at n f h Between) a (b ∷ r) _ (word n f h a e)

-- one halfword with what is before it
one_word : (n : ℕ) (f : List Placed) (h here : ℕ) (a b : Placed) (r w : List Placed) → n ≢ 7 → IsWord here a b r w →
    on (at n f h Between) r ≡ after (word_ended n (f ++ (a ∷ (b ∷ []))) (h + here)) (λ t. on t w) w
one_word n f h here a b r w l i =
    ap (on (at n f h Between)) i.parts ∙ halves_on here n f h i.before (a ∷ (b ∷ w)) l i.halves_are ∙ word_on n f (h + here) w a b i.proper

whole : List Placed → ℕ → Walked State PortItem
whole f h = Whole (Frame f h)

same_whole : (f g : List Placed) (h k : ℕ) → f ≡ g → h ≡ k → (let x : Walked State PortItem = Whole (Frame f h) in let y : Walked State PortItem = Whole (Frame g k) in x ≡ y)
unfolding whole
same_whole f g h k e d = ap (λ (l : List Placed). whole l h) e ∙ ap (λ (m : ℕ). whole g m) d

words_on : (n : ℕ) (f : List Placed) (h k : ℕ) (g r : List Placed) → n ≤ 6 → IsWords (suc n) k g r → on (at n f h Between) r ≡ Whole (Frame (f ++ g) (h + k))
words_on zero f h k g r l (here, later, a, b, g', w, i, ek, eg, m) =
    one_word zero f h here a b r w (omega arith) i
    ∙ ap (λ (u : List Placed). after (End (Frame (f ++ (a ∷ (b ∷ []))) (h + here))) (λ t. on t u) u) m.2
    ∙ same_whole (f ++ (a ∷ (b ∷ []))) (f ++ g) (h + here) (h + k)
    (ap (λ (u : List Placed). f ++ u) (ap (λ (u : List Placed). a ∷ (b ∷ u)) (sym m.1) ∙ sym eg)) (let z = m.0 in omega arith)
words_on (suc n) f h k g r l (here, later, a, b, g', w, i, ek, eg, m) =
    one_word (suc n) f h here a b r w (omega arith) i
    ∙ words_on n (f ++ (a ∷ (b ∷ []))) (h + here) later g' w (omega arith) m
    ∙ same_whole ((f ++ (a ∷ (b ∷ []))) ++ g') (f ++ g) (h + here + later) (h + k)
    (append_assoc f (a ∷ (b ∷ [])) g' ∙ ap (λ (u : List Placed). f ++ u) (sym eg)) (omega arith)

complete_full : (r : List Placed) → units_of r ≡ 255 ∷ (255 ∷ (255 ∷ (127 ∷ []))) → on start r ≡ Whole Full
complete_full [] e = cc
complete_full (a ∷ []) e = cc
complete_full (a ∷ (b ∷ [])) e = cc
complete_full (a ∷ (b ∷ (c ∷ []))) e = cc
complete_full (a ∷ (b ∷ (c ∷ (d ∷ (x ∷ r))))) e = cc
complete_full (a ∷ (b ∷ (c ∷ (d ∷ [])))) e =
    let ea : a.unit ≡ 255 = cc in let eb : b.unit ≡ 255 = cc in let ec : c.unit ≡ 255 = cc in let ed : d.unit ≡ 127 = cc in
    says start a (b ∷ (c ∷ (d ∷ []))) _ (mark 7 [] 0 a ea)
    ∙ ap (λ (n : ℕ). after (cond {A = Next State PortItem} (n == 127) (End Half) (cond (n == 255) (Go (at 7 [] 0 Two)) (Fail BadSync))) (λ t. on t (c ∷ (d ∷ []))) (c ∷ (d ∷ []))) eb
    ∙ ap (λ (n : ℕ). after (cond {A = Next State PortItem} (n == 255) (Go (at 7 [] 0 Three)) (Fail BadSync)) (λ t. on t (d ∷ [])) (d ∷ [])) ec
    ∙ ap (λ (n : ℕ). after {U = Placed} (cond {A = Next State PortItem} (n == 127) (End Full) (Fail BadSync)) (λ t. on t []) []) ed

complete_half : (r : List Placed) → units_of r ≡ 255 ∷ (127 ∷ []) → on start r ≡ Whole Half
complete_half [] e = cc
complete_half (a ∷ []) e = cc
complete_half (a ∷ (b ∷ (c ∷ r))) e = cc
complete_half (a ∷ (b ∷ [])) e =
    let ea : a.unit ≡ 255 = cc in let eb : b.unit ≡ 127 = cc in
    says start a (b ∷ []) _ (mark 7 [] 0 a ea)
    ∙ ap (λ (n : ℕ). after {U = Placed} (cond {A = Next State PortItem} (n == 127) (End Half) (cond (n == 255) (Go (at 7 [] 0 Two)) (Fail BadSync))) (λ t. on t []) []) eb

pub none_before : (l : List Placed) → units_of l ≡ [] → l ≡ []
none_before [] e = refl
none_before (x ∷ l) e = cc

complete : (v : PortItem) (r : List Placed) → Spells v r → on start r ≡ Whole v
complete Full r s = complete_full r s
complete Half r s = complete_half r s
complete (Frame f halves) r (a, b, g, w, i, ef, m) =
    ap (on start) (i.parts ∙ ap (λ (l : List Placed). l ++ (a ∷ (b ∷ w))) (none_before i.before i.halves_are))
    ∙ word_on 7 [] 0 w a b i.proper ∙ words_on 6 (a ∷ (b ∷ [])) 0 halves g w (omega arith) m ∙ same_whole (a ∷ (b ∷ g)) f (0 + halves) halves (sym ef) (omega arith)

-- sound
pick : (t : Bool) (x y : Next State PortItem) (r : List Placed) (v : PortItem) → after (cond t x y) (λ s. on s r) r ≡ Whole v →
    ((t ≡ true) × (after x (λ s. on s r) r ≡ Whole v)) ⊎ ((t ≡ false) × (after y (λ s. on s r) r ≡ Whole v))
pick true x y r v e = inl (refl, e)
pick false x y r v e = inr (refl, e)

alone : (w v : PortItem) (r : List Placed) → after (End w) (λ s. on s r) r ≡ Whole v → (r ≡ []) × (v ≡ w)
alone w v [] e = (refl, (let p : Walked State PortItem = Whole w in let q : Walked State PortItem = Whole v in let k : p ≡ q = e in cc))
alone w v (c ∷ r) e = cc

abbrev EndsWords : ℕ → List Placed → ℕ → PortItem → List Placed → Type 0
EndsWords n f h v r = (g : List Placed) × (k : ℕ) × (v ≡ Frame (f ++ g) (h + k)) × IsWords (suc n) k g r

two_units : (x y : Placed) (l : List Placed) (n : ℕ) → x.unit ≡ 255 → y.unit ≡ 127 → units_of l ≡ half_spelling n → units_of (x ∷ (y ∷ l)) ≡ half_spelling (suc n)
two_units x y l n e f g = let k : x.unit ∷ (y.unit ∷ units_of l) ≡ 255 ∷ (127 ∷ half_spelling n) = cc in k

-- one more half synchronisation before halfwords
more_halves : (n : ℕ) (f : List Placed) (h : ℕ) (v : PortItem) (x y : Placed) (r : List Placed) → x.unit ≡ 255 → y.unit ≡ 127 → EndsWords n f (h + 1) v r → EndsWords n f h v (x ∷ (y ∷ r))
more_halves n f h v x y r ex ey (g, k, ev, (here, later, a, b, g', w, i, ek, eg, m)) = (
  g,
  suc k,
  ev ∙ ap (λ (m : ℕ). Frame (f ++ g) m) (let e : h + 1 + k ≡ h + suc k = omega arith in e),
  (
    suc here,
    later,
    a,
    b,
    g',
    w,
    record { before = x ∷ (y ∷ i.before); halves_are = two_units x y i.before here ex ey i.halves_are; proper = i.proper; parts = ap (λ (u : List Placed). x ∷ (y ∷ u)) i.parts },
    omega arith,
    eg,
    m,
  ),
)

plain_word : (x y : Placed) (r : List Placed) → x.unit ≢ 255 → IsWord 0 x y (x ∷ (y ∷ r)) r
plain_word x y r e = record { before = []; halves_are = refl; proper = e; parts = refl }

words_sound : (n : ℕ) (f : List Placed) (h : ℕ) (v : PortItem) (r : List Placed) → n ≤ 6 → on (at n f h Between) r ≡ Whole v → EndsWords n f h v r
words_sound n f h v [] l e = cc
words_sound n f h v (x ∷ []) l e = elim (pick (x.unit == 255) _ _ [] v e) [ inl m ↦ (let k = m.1 in cc) | inr m ↦ (let k = m.1 in cc) ]
words_sound n f h v (x ∷ (y ∷ r)) l e = elim (pick (x.unit == 255) _ _ (y ∷ r) v e) [
  | inl m ↦ elim (pick (y.unit == 127) _ _ r v m.1) [
    | inl o ↦ elim (pick (n == 7) _ _ r v o.1) [
      | inl q ↦ absurd (let k = eqb-true n 7 q.0 in omega arith)
      | inr q ↦ more_halves n f h v x y r (eqb-true x.unit 255 m.0) (eqb-true y.unit 127 o.0) (words_sound n f (h + 1) v r l q.1)
    ]
    | inr o ↦ elim (pick (y.unit == 255) _ _ r v o.1) [
      | inl q ↦ elim (pick (n == 7) _ _ r v q.1) [ inl z ↦ absurd (let k = eqb-true n 7 z.0 in omega arith) | inr z ↦ (let k = z.1 in cc) ]
      | inr q ↦ (let k = q.1 in cc)
    ]
  ]
  | inr m ↦ here n l (λ k d. words_sound k (f ++ (x ∷ (y ∷ []))) h v r d) (eqb-false x.unit 255 m.0) m.1
] where
  here : (n : ℕ) → n ≤ 6 → ((k : ℕ) → k ≤ 6 → on (at k (f ++ (x ∷ (y ∷ []))) h Between) r ≡ Whole v → EndsWords k (f ++ (x ∷ (y ∷ []))) h v r) → x.unit ≢ 255 →
      after (word_ended n (f ++ (x ∷ (y ∷ []))) h) (λ s. on s r) r ≡ Whole v → EndsWords n f h v (x ∷ (y ∷ r))
  here zero l rec ex k =
      let z = alone (Frame (f ++ (x ∷ (y ∷ []))) h) v r k in
      (x ∷ (y ∷ []), 0, z.1 ∙ ap (λ (m : ℕ). Frame (f ++ (x ∷ (y ∷ []))) m) (let e : h ≡ h + 0 = omega arith in e), (0, 0, x, y, [], r, plain_word x y r ex, refl, refl, (refl, refl, z.0)))
  here (suc m) l rec ex k =
      let z = rec m (omega arith) k in
      (x ∷ (y ∷ z.0), z.1, z.2 ∙ ap (λ (u : List Placed). Frame u (h + z.1)) (append_assoc f (x ∷ (y ∷ [])) z.0), (0, z.1, x, y, z.0, r, plain_word x y r ex, omega arith, refl, z.3))

spelled : (v w : PortItem) (r : List Placed) → v ≡ w → Spells w r → Spells v r
spelled v w r e s = subst (λ (p : PortItem). Spells p r) (sym e) s

two_bytes : (x y : Placed) (r : List Placed) → x.unit ≡ 255 → y.unit ≡ 127 → r ≡ [] → units_of (x ∷ (y ∷ r)) ≡ 255 ∷ (127 ∷ [])
two_bytes x y r e f g = ap (λ (u : List Placed). units_of (x ∷ (y ∷ u))) g ∙ (let k : x.unit ∷ (y.unit ∷ []) ≡ 255 ∷ (127 ∷ []) = cc in k)

four_bytes : (x y z w : Placed) (r : List Placed) → x.unit ≡ 255 → y.unit ≡ 255 → z.unit ≡ 255 → w.unit ≡ 127 → r ≡ [] → units_of (x ∷ (y ∷ (z ∷ (w ∷ r)))) ≡ 255 ∷ (255 ∷ (255 ∷ (127 ∷ [])))
four_bytes x y z w r e f g h k =
    ap (λ (u : List Placed). units_of (x ∷ (y ∷ (z ∷ (w ∷ u))))) k ∙ (let q : x.unit ∷ (y.unit ∷ (z.unit ∷ (w.unit ∷ []))) ≡ 255 ∷ (255 ∷ (255 ∷ (127 ∷ []))) = cc in q)

full_sound : (x y : Placed) (v : PortItem) (r : List Placed) → x.unit ≡ 255 → y.unit ≡ 255 → on (at 7 [] 0 Two) r ≡ Whole v → Spells v (x ∷ (y ∷ r))
full_sound x y v [] e f k = cc
full_sound x y v (z ∷ []) e f k = elim (pick (z.unit == 255) _ _ [] v k) [ inl m ↦ (let q = m.1 in cc) | inr m ↦ (let q = m.1 in cc) ]
full_sound x y v (z ∷ (w ∷ r)) e f k = elim (pick (z.unit == 255) _ _ (w ∷ r) v k) [
  | inl m ↦ elim (pick (w.unit == 127) _ _ r v m.1) [
    | inl o ↦ (let q = alone Full v r o.1 in spelled v Full _ q.1 (four_bytes x y z w r e f (eqb-true z.unit 255 m.0) (eqb-true w.unit 127 o.0) q.0))
    | inr o ↦ (let q = o.1 in cc)
  ]
  | inr m ↦ (let q = m.1 in cc)
]

sound : (v : PortItem) (r : List Placed) → on start r ≡ Whole v → Spells v r
sound v [] e = cc
sound v (x ∷ []) e = elim (pick (x.unit == 255) _ _ [] v e) [ inl m ↦ (let k = m.1 in cc) | inr m ↦ (let k = m.1 in cc) ]
sound v (x ∷ (y ∷ r)) e = elim (pick (x.unit == 255) _ _ (y ∷ r) v e) [
  | inl m ↦ elim (pick (y.unit == 127) _ _ r v m.1) [
    | inl o ↦ (let q = alone Half v r o.1 in spelled v Half _ q.1 (two_bytes x y r (eqb-true x.unit 255 m.0) (eqb-true y.unit 127 o.0) q.0))
    | inr o ↦ elim (pick (y.unit == 255) _ _ r v o.1) [
      | inl q ↦ full_sound x y v r (eqb-true x.unit 255 m.0) (eqb-true y.unit 255 q.0) q.1
      | inr q ↦ (let k = q.1 in cc)
    ]
  ]
  | inr m ↦ framed (eqb-false x.unit 255 m.0) (words_sound 6 (x ∷ (y ∷ [])) 0 v r (omega arith) m.1)
] where
  framed : x.unit ≢ 255 → EndsWords 6 (x ∷ (y ∷ [])) 0 v r → Spells v (x ∷ (y ∷ r))
  framed ex (g, k, ev, s) =
      spelled v (Frame (x ∷ (y ∷ g)) k) _ (ev ∙ ap (λ (m : ℕ). Frame (x ∷ (y ∷ g)) m) (let e : 0 + k ≡ k = omega arith in e)) (x, y, g, r, plain_word x y r ex, refl, s)

-- each state can be finished
blank : Placed
blank = byte_at 0 0

abbrev marked : ℕ → Placed
marked b = byte_at 0 b

abbrev Ended : State → Type 0
Ended s = (v : PortItem) × (w : List Placed) × (on s w ≡ Whole v)

finish_between : (n : ℕ) (f : List Placed) (h : ℕ) → Ended (at n f h Between)
unfolding blank
finish_between zero f h = (Frame (f ++ (blank ∷ (blank ∷ []))) h, blank ∷ (blank ∷ []), refl)
finish_between (suc n) f h = let k = finish_between n (f ++ (blank ∷ (blank ∷ []))) h in (k.0, blank ∷ (blank ∷ k.1), k.2)

finish_first : (n : ℕ) (f : List Placed) (h : ℕ) (a : Placed) → Ended (at n f h (First a))
finish_first zero f h a = (Frame (f ++ (a ∷ (blank ∷ []))) h, blank ∷ [], refl)
finish_first (suc n) f h a = let k = finish_between n (f ++ (a ∷ (blank ∷ []))) h in (k.0, blank ∷ k.1, k.2)

finish_one : (n : ℕ) (f : List Placed) (h : ℕ) (b : Bool) → (n == 7) ≡ b → Ended (at n f h One)
finish_one n f h true e = (Half, marked 127 ∷ [], ap (λ (t : Bool). after {U = Placed} (cond {A = Next State PortItem} t (End Half) (Go (at n f (h + 1) Between))) (λ s. on s []) []) e)
finish_one n f h false e =
    let k = finish_between n f (h + 1) in
    (k.0, marked 127 ∷ k.1, ap (λ (t : Bool). after (cond {A = Next State PortItem} t (End Half) (Go (at n f (h + 1) Between))) (λ s. on s k.1) k.1) e ∙ k.2)

finish_at : (n : ℕ) (f : List Placed) (h : ℕ) (p : Part) → Ended (at n f h p)
finish_at n f h Between = finish_between n f h
finish_at n f h (First a) = finish_first n f h a
finish_at n f h One = finish_one n f h (n == 7) refl
finish_at n f h Two = (Full, marked 255 ∷ (marked 127 ∷ []), refl)
finish_at n f h Three = (Full, marked 127 ∷ [], refl)

-- what a walk keeps
went_on : (x : Next State PortItem) (k : State → Walked State PortItem) (p : List Placed) (t : State) → after x k p ≡ Within t → (u : State) × (x ≡ Go u) × (k u ≡ Within t)
went_on (Go u) k p t e = (u, refl, e)
went_on (End v) k [] t e = cc
went_on (End v) k (b ∷ p) t e = cc
went_on (Fail f) k p t e = cc

pub reached : (P : State → Type 0) → ((s t : State) (x : Placed) → P s → rule s x ≡ Go t → P t) → (s t : State) (r : List Placed) → P s → on s r ≡ Within t → P t
reached P keeps s t [] h e = subst P (let k : s ≡ t = cc in k) h
reached P keeps s t (b ∷ p) h e =
    let m = went_on (rule s b) (λ u. on u p) p t e in
    reached P keeps m.0 t p (keeps s m.0 b h m.1) m.2

-- which of the rule's two answers
chosen : (t : Bool) (x y z : Next State PortItem) → cond t x y ≡ z → ((t ≡ true) × (x ≡ z)) ⊎ ((t ≡ false) × (y ≡ z))
chosen true x y z e = inl (refl, e)
chosen false x y z e = inr (refl, e)

-- inside a frame
abbrev InFrame : ℕ → Part → Type 0
InFrame n Between = n < 7
InFrame n (First a) = n ≤ 7
InFrame n One = n < 7
InFrame n Two = ⊥
InFrame n Three = ⊥

abbrev InFrameState : State → Type 0
InFrameState s = InFrame s.left s.part

gone : (P : State → Type 0) (s t : State) → (let x : Next State PortItem = Go s in let y : Next State PortItem = Go t in x ≡ y) → P s → P t
gone P s t e p = subst P (let k : s ≡ t = cc in k) p

ended_in : (n : ℕ) (f : List Placed) (h : ℕ) (t : State) → n ≤ 7 → word_ended n f h ≡ Go t → InFrameState t
ended_in zero f h t l e = cc
ended_in (suc n) f h t l e = gone InFrameState (at n f h Between) t e (let k : n < 7 = omega arith in k)

stays_at : (n : ℕ) (f : List Placed) (h : ℕ) (p : Part) (t : State) (x : Placed) → InFrame n p → rule (at n f h p) x ≡ Go t → InFrameState t
stays_at n f h Between t x i e = elim (chosen (x.unit == 255) (Go (at n f h One)) (Go (at n f h (First x))) (Go t) e) [
  | inl m ↦ gone InFrameState (at n f h One) t m.1 i
  | inr m ↦ gone InFrameState (at n f h (First x)) t m.1 (let k : n ≤ 7 = omega arith in k)
]
stays_at n f h (First a) t x i e = ended_in n (f ++ (a ∷ (x ∷ []))) h t i e
stays_at n f h One t x i e = elim (chosen (x.unit == 127) (half_ended (at n f h One)) (cond (x.unit == 255) (full_begun (at n f h One)) (Fail BadSync)) (Go t) e) [
  | inl m ↦ elim (chosen (n == 7) (End Half) (Go (at n f (h + 1) Between)) (Go t) m.1) [
    | inl q ↦ (let k = q.1 in cc)
    | inr q ↦ gone InFrameState (at n f (h + 1) Between) t q.1 i
  ]
  | inr m ↦ elim (chosen (x.unit == 255) (full_begun (at n f h One)) (Fail BadSync) (Go t) m.1) [
    | inl q ↦ elim (chosen (n == 7) (Go (at n f h Two)) (Fail SyncInFrame) (Go t) q.1) [
      | inl z ↦ absurd (let k = eqb-true n 7 z.0 in omega arith)
      | inr z ↦ (let k = z.1 in cc)
    ]
    | inr q ↦ (let k = q.1 in cc)
  ]
]
stays_at n f h Two t x i e = absurd i
stays_at n f h Three t x i e = absurd i

stays : (s t : State) (x : Placed) → InFrameState s → rule s x ≡ Go t → InFrameState t
stays s t x i e = stays_at s.left s.bytes s.halves s.part t x i e

abbrev inside : ℕ → Reason
inside b = cond (b == 255) SyncInFrame BadSync

failed : (d e g : Reason) → (let x : Next State PortItem = Fail d in let y : Next State PortItem = Fail e in x ≡ y) → d ≡ g → e ≡ g
failed d e g k h = let s : d ≡ e = cc in sym s ∙ h

pub ended_never : (n : ℕ) (f : List Placed) (h : ℕ) (e : Reason) → word_ended n f h ≡ Fail e → ⊥
ended_never zero f h e k = cc
ended_never (suc n) f h e k = cc

between_never : (n : ℕ) (f : List Placed) (h : ℕ) (x : Placed) (e : Reason) → rule (at n f h Between) x ≡ Fail e → ⊥
between_never n f h x e k = elim (chosen (x.unit == 255) (Go (at n f h One)) (Go (at n f h (First x))) (Fail e) k) [ inl m ↦ (let q = m.1 in cc) | inr m ↦ (let q = m.1 in cc) ]

-- a fault inside a frame
fails_at : (n : ℕ) (f : List Placed) (h : ℕ) (p : Part) (e : Reason) (x : Placed) → InFrame n p → rule (at n f h p) x ≡ Fail e → e ≡ inside x.unit
fails_at n f h Between e x i k = absurd (between_never n f h x e k)
fails_at n f h (First a) e x i k = absurd (ended_never n (f ++ (a ∷ (x ∷ []))) h e k)
fails_at n f h One e x i k = elim (chosen (x.unit == 127) (half_ended (at n f h One)) (cond (x.unit == 255) (full_begun (at n f h One)) (Fail BadSync)) (Fail e) k) [
  | inl m ↦ elim (chosen (n == 7) (End Half) (Go (at n f (h + 1) Between)) (Fail e) m.1) [ inl q ↦ (let k = q.1 in cc) | inr q ↦ (let k = q.1 in cc) ]
  | inr m ↦ elim (chosen (x.unit == 255) (full_begun (at n f h One)) (Fail BadSync) (Fail e) m.1) [
    | inl q ↦ elim (chosen (n == 7) (Go (at n f h Two)) (Fail SyncInFrame) (Fail e) q.1) [
      | inl z ↦ (let k = z.1 in cc)
      | inr z ↦ failed SyncInFrame e (inside x.unit) z.1 (sym (ap (λ (b : Bool). cond b SyncInFrame BadSync) q.0))
    ]
    | inr q ↦ failed BadSync e (inside x.unit) q.1 (sym (ap (λ (b : Bool). cond b SyncInFrame BadSync) q.0))
  ]
]
fails_at n f h Two e x i k = absurd i
fails_at n f h Three e x i k = absurd i

-- inside a full synchronisation
abbrev InFull : ℕ → Part → Type 0
InFull n Between = ⊥
InFull n (First a) = ⊥
InFull n One = n ≡ 7
InFull n Two = n ≡ 7
InFull n Three = n ≡ 7

abbrev InFullState : State → Type 0
InFullState s = InFull s.left s.part

full_stays_at : (n : ℕ) (f : List Placed) (h : ℕ) (p : Part) (t : State) (x : Placed) → InFull n p → rule (at n f h p) x ≡ Go t → InFullState t
full_stays_at n f h Between t x i e = absurd i
full_stays_at n f h (First a) t x i e = absurd i
full_stays_at n f h One t x i e = elim (chosen (x.unit == 127) (half_ended (at n f h One)) (cond (x.unit == 255) (full_begun (at n f h One)) (Fail BadSync)) (Go t) e) [
  | inl m ↦ elim (chosen (n == 7) (End Half) (Go (at n f (h + 1) Between)) (Go t) m.1) [
    | inl q ↦ (let k = q.1 in cc)
    | inr q ↦ absurd (eqb-false n 7 q.0 i)
  ]
  | inr m ↦ elim (chosen (x.unit == 255) (full_begun (at n f h One)) (Fail BadSync) (Go t) m.1) [
    | inl q ↦ elim (chosen (n == 7) (Go (at n f h Two)) (Fail SyncInFrame) (Go t) q.1) [
      | inl z ↦ gone InFullState (at n f h Two) t z.1 i
      | inr z ↦ (let k = z.1 in cc)
    ]
    | inr q ↦ (let k = q.1 in cc)
  ]
]
full_stays_at n f h Two t x i e = elim (chosen (x.unit == 255) (Go (at n f h Three)) (Fail BadSync) (Go t) e) [
  | inl m ↦ gone InFullState (at n f h Three) t m.1 i
  | inr m ↦ (let k = m.1 in cc)
]
full_stays_at n f h Three t x i e = elim (chosen (x.unit == 127) (End Full) (Fail BadSync) (Go t) e) [ inl m ↦ (let k = m.1 in cc) | inr m ↦ (let k = m.1 in cc) ]

full_stays : (s t : State) (x : Placed) → InFullState s → rule s x ≡ Go t → InFullState t
full_stays s t x i e = full_stays_at s.left s.bytes s.halves s.part t x i e

full_fails_at : (n : ℕ) (f : List Placed) (h : ℕ) (p : Part) (e : Reason) (x : Placed) → InFull n p → rule (at n f h p) x ≡ Fail e → e ≡ BadSync
full_fails_at n f h Between e x i k = absurd i
full_fails_at n f h (First a) e x i k = absurd i
full_fails_at n f h One e x i k = elim (chosen (x.unit == 127) (half_ended (at n f h One)) (cond (x.unit == 255) (full_begun (at n f h One)) (Fail BadSync)) (Fail e) k) [
  | inl m ↦ elim (chosen (n == 7) (End Half) (Go (at n f (h + 1) Between)) (Fail e) m.1) [ inl q ↦ (let k = q.1 in cc) | inr q ↦ (let k = q.1 in cc) ]
  | inr m ↦ elim (chosen (x.unit == 255) (full_begun (at n f h One)) (Fail BadSync) (Fail e) m.1) [
    | inl q ↦ elim (chosen (n == 7) (Go (at n f h Two)) (Fail SyncInFrame) (Fail e) q.1) [
      | inl z ↦ (let k = z.1 in cc)
      | inr z ↦ absurd (eqb-false n 7 z.0 i)
    ]
    | inr q ↦ failed BadSync e BadSync q.1 refl
  ]
]
full_fails_at n f h Two e x i k = elim (chosen (x.unit == 255) (Go (at n f h Three)) (Fail BadSync) (Fail e) k) [ inl m ↦ (let q = m.1 in cc) | inr m ↦ failed BadSync e BadSync m.1 refl ]
full_fails_at n f h Three e x i k = elim (chosen (x.unit == 127) (End Full) (Fail BadSync) (Fail e) k) [ inl m ↦ (let q = m.1 in cc) | inr m ↦ failed BadSync e BadSync m.1 refl ]

-- each fault has its reason
last_unit-push : (r : List Placed) (b : Placed) → last_unit (r ++ b ∷ []) ≡ b.unit
last_unit-push [] b = refl
last_unit-push (x ∷ []) b = refl
last_unit-push (x ∷ (y ∷ r)) b = last_unit-push (y ∷ r) b

reason : (s : State) (r : List Placed) (b : Placed) (e : Reason) → on start r ≡ Within s → rule s b ≡ Fail e → e ≡ why (r ++ b ∷ [])
reason s [] b e h k = absurd (between_never 7 [] 0 b e (let same : start ≡ s = cc in ap (λ (t : State). rule t b) same ∙ k))
reason s (x ∷ r) b e h k = by (x.unit == 255) refl where
  by : (t : Bool) → (x.unit == 255) ≡ t → e ≡ why (x ∷ (r ++ b ∷ []))
  by true f =
      let i = reached InFullState full_stays (at 7 [] 0 One) s r refl (sym (says start x r _ (mark 7 [] 0 x (eqb-true x.unit 255 f))) ∙ h) in
      full_fails_at s.left s.bytes s.halves s.part e b i k ∙ sym (ap (λ (t : Bool). cond t BadSync (inside (last_unit (r ++ b ∷ [])))) f)
  by false f =
      let i = reached InFrameState stays (at 7 [] 0 (First x)) s r (let l : 7 ≤ 7 = omega arith in l) (sym (says start x r _ (word 7 [] 0 x (eqb-false x.unit 255 f))) ∙ h) in
      fails_at s.left s.bytes s.halves s.part e b i k ∙ ap inside (sym (last_unit-push r b)) ∙ sym (ap (λ (t : Bool). cond t BadSync (inside (last_unit (r ++ b ∷ [])))) f)

pub port_decided : Decides Spells why rule start
port_decided = walks.decides rule Spells why start sound complete (λ s r e. finish_at s.left s.bytes s.halves s.part) reason
