-- Turns, offers and drains keep the bytes of each source.
use Rattle.std.proofs.Common.{◌≡◌, ℕ, zero, suc, ◌+◌, ◌≤◌, List, [], ◌∷◌, ◌++◌, length}
use Rattle.std.proofs.Common.{map, take, drop, Bool, true, false, cond, refl, sym, ◌∙◌, ap, subst, inl, inr, arith}
use Rattle.std.proofs.Common.{append_assoc, append-nil, Option, None, Some}
use Rattle.std.specs.Prelude.{◌==◌}
use Rattle.std.proofs.lemmas.Bool.{cases_eq, eq-eqb, eqb-true, ne_eqb}
use Rattle.std.proofs.lemmas.List.{take-append-drop, map-append}
use Rattle.trace_funnel.specs.Turns.{Place, Found, first_busy, waits, served, longer, tagged, given}
use Rattle.trace_funnel.specs.Turns.{Turned, turn_of, turn, queue_of, waited_of, put, turns_while, is_full, offer}
use Rattle.trace_funnel.specs.Kept.{bytes_for, count, Apart}
use Rattle.trace_funnel.proofs.Places.{bytes_append, count_swap, queue_swap, waited_swap, count_waits, queue_waits}
use Rattle.trace_funnel.proofs.Places.{IsFound, found}

pub given_all : (id : ℕ) (l : List ℕ) (x : ℕ) → bytes_for x (tagged id l) ≡ cond (id == x) l []
given_all id [] x = by (id == x) where
  by : (t : Bool) → [] ≡ cond {A = List ℕ} t [] []
  by true = refl
  by false = refl
given_all id (b ∷ l) x = ap (λ q. cond (id == x) (b ∷ q) q) (given_all id l x) ∙ by (id == x) where
  by : (t : Bool) → cond t (b ∷ cond t l []) (cond t l []) ≡ cond t (b ∷ l) []
  by true = refl
  by false = refl

-- a turn of the first busy place: it goes to the end, and the rest wait
module _ (hold : ℕ) (ps : List Place) (f : Found) (parts : ps ≡ f.before ++ (f.place ∷ f.behind)) where
  abbrev pub others : List Place
  others = f.behind ++ f.before

  abbrev pub waiting : List Place
  waiting = map (waits (length (take hold f.place.queue))) others

  abbrev pub next : List Place
  next = (turn_of hold ps (Some f)).places

  pub next_is : next ≡ waiting ++ served hold f.place ∷ []
  next_is =
      let w = waits (length (take hold f.place.queue)) in
      sym (append_assoc (map w f.behind) (map w f.before) (served hold f.place ∷ []))
      ∙ ap (λ (l : List Place). l ++ served hold f.place ∷ []) (sym (map-append w f.behind f.before))

  count_before : (x : ℕ) → count x (f.place ∷ others) ≡ count x ps
  count_before x = count_swap x f.before (f.place ∷ f.behind) ∙ ap (count x) (sym parts)

  count_after : (x : ℕ) → count x (served hold f.place ∷ waiting) ≡ count x ps
  count_after x =
      ap (λ m. cond (f.place.id == x) (m + 1) m) (count_waits x (length (take hold f.place.queue)) others)
      ∙ count_before x

  pub same_count : (x : ℕ) → count x next ≡ count x ps
  same_count x = ap (count x) next_is ∙ count_swap x (served hold f.place ∷ []) waiting ∙ count_after x

  -- of an ID that has one place at most
  module _ (x : ℕ) (few : count x ps ≤ 1) where
    few_before : count x (f.before ++ (f.place ∷ f.behind)) ≤ 1
    few_before = subst (λ (l : List Place). count x l ≤ 1) parts few

    few_after : count x (served hold f.place ∷ waiting) ≤ 1
    few_after = let e = count_after x in omega (arith, e, few)

    pub queue_before : queue_of x ps ≡ cond (f.place.id == x) f.place.queue (queue_of x others)
    queue_before = ap (queue_of x) parts ∙ sym (queue_swap x f.before (f.place ∷ f.behind) few_before)

    pub queue_after : queue_of x next ≡ cond (f.place.id == x) (drop hold f.place.queue) (queue_of x others)
    queue_after =
        ap (queue_of x) next_is ∙ queue_swap x (served hold f.place ∷ []) waiting few_after
        ∙ ap (λ q. cond (f.place.id == x) (drop hold f.place.queue) q)
        (queue_waits x (length (take hold f.place.queue)) others)

    pub waited_before : waited_of x ps ≡ cond (f.place.id == x) f.place.waited (waited_of x others)
    waited_before = ap (waited_of x) parts ∙ sym (waited_swap x f.before (f.place ∷ f.behind) few_before)

    pub waited_after : waited_of x next ≡ cond (f.place.id == x) 0 (waited_of x waiting)
    waited_after = ap (waited_of x) next_is ∙ waited_swap x (served hold f.place ∷ []) waiting few_after

    keeps : bytes_for x (given hold f.place) ++ queue_of x next ≡ queue_of x ps
    keeps =
        ap (λ (l : List ℕ). l ++ queue_of x next) (given_all f.place.id (take hold f.place.queue) x)
        ∙ ap (λ (l : List ℕ). cond (f.place.id == x) (take hold f.place.queue) [] ++ l) queue_after
        ∙ by (f.place.id == x) ∙ sym queue_before where
          by : (t : Bool) → cond t (take hold f.place.queue) [] ++ cond t (drop hold f.place.queue) (queue_of x others)
              ≡ cond t f.place.queue (queue_of x others)
          by true = take-append-drop hold f.place.queue
          by false = refl

-- what is given and then left of each source is what was there
pub record Keeps (ps : List Place) (t : Turned) : Type 0 where
  pub apart : Apart t.places
  pub all : (x : ℕ) → bytes_for x t.out ++ queue_of x t.places ≡ queue_of x ps

pub turn_keeps : (hold : ℕ) (ps : List Place) → Apart ps → Keeps ps (turn hold ps)
turn_keeps hold ps a = by (first_busy ps) (found ps) where
  by : (o : Option Found) → IsFound ps o → Keeps ps (turn_of hold ps o)
  by None f = record { apart = a; all = λ x. refl }
  by (Some f) g = record {
    apart = λ x. (let e = same_count hold ps f g.0 x in let h = a x in omega (arith, e, h));
    all = λ x. keeps hold ps f g.0 x (a x);
  }

-- a turn and then others, and no turn
abbrev pub turn_and : ℕ → List Place → Turned → Turned
turn_and hold ps more = record { out = (turn hold ps).out ++ more.out; places = more.places }

abbrev pub stay : List Place → Turned
stay ps = record { out = []; places = ps }

-- turns, one after another
module _ (test : List Place → Bool) (hold : ℕ) where
  abbrev rest : ℕ → List Place → Turned
  rest most ps = turns_while test hold most (turn hold ps).places

  pub turns_keep : (most : ℕ) (ps : List Place) → Apart ps → Keeps ps (turns_while test hold most ps)
  turns_keep zero ps a = record { apart = a; all = λ x. refl }
  turns_keep (suc most) ps a =
      by (test ps) (turn_keeps hold ps a) (turns_keep most (turn hold ps).places (turn_keeps hold ps a).apart) where
        by : (t : Bool) → Keeps ps (turn hold ps) → Keeps (turn hold ps).places (rest most ps) →
            Keeps ps (cond t (turn_and hold ps (rest most ps)) (stay ps))
        by false one more = record { apart = a; all = λ x. refl }
        by true one more = record {
          apart = more.apart;
          all = λ x. (
              let given = bytes_for x (turn hold ps).out in
              let left = queue_of x (rest most ps).places in
              ap (λ (l : List ℕ). l ++ left) (bytes_append x (turn hold ps).out (rest most ps).out)
              ∙ append_assoc given (bytes_for x (rest most ps).out) left
              ∙ ap (λ (l : List ℕ). given ++ l) (more.all x) ∙ one.all x);
        }

-- a byte put into the queue of an ID: it is at the end of that queue, and the others stay
pub put_other : (id b x : ℕ) (ps : List Place) → (id ≡ x → ⊥) → queue_of x (put id b ps) ≡ queue_of x ps
put_other id b x [] h = refl
put_other id b x (p ∷ ps) h = by (p.id == id) refl (put_other id b x ps h) where
  by : (t : Bool) → (p.id == id) ≡ t → queue_of x (put id b ps) ≡ queue_of x ps →
      (let q : Place = cond t (longer b p) p in
      cond (q.id == x) q.queue (queue_of x (put id b ps)) ≡ cond (p.id == x) p.queue (queue_of x ps))
  by false e i = ap (λ l. cond (p.id == x) p.queue l) i
  by true e i = at (p.id == x) refl where
    at : (v : Bool) → (p.id == x) ≡ v →
        cond v (p.queue ++ b ∷ []) (queue_of x (put id b ps)) ≡ cond v p.queue (queue_of x ps)
    at false k = i
    at true k = absurd (h (sym (eqb-true p.id id e) ∙ eqb-true p.id x k))

pub put_same : (id b : ℕ) (ps : List Place) → 1 ≤ count id ps → queue_of id (put id b ps) ≡ queue_of id ps ++ b ∷ []
put_same id b [] h = absurd (omega arith)
put_same id b (p ∷ ps) h = by (p.id == id) refl h (put_same id b ps) where
  by : (t : Bool) → (p.id == id) ≡ t → 1 ≤ cond t (count id ps + 1) (count id ps) →
      (1 ≤ count id ps → queue_of id (put id b ps) ≡ queue_of id ps ++ b ∷ []) →
      (let q : Place = cond t (longer b p) p in
      cond (q.id == id) q.queue (queue_of id (put id b ps)) ≡ cond t p.queue (queue_of id ps) ++ b ∷ [])
  by true e h i = ap (λ t. cond t (p.queue ++ b ∷ []) (queue_of id (put id b ps))) e
  by false e h i = ap (λ t. cond t p.queue (queue_of id (put id b ps))) e ∙ i h

pub count_put : (x id b : ℕ) (ps : List Place) → count x (put id b ps) ≡ count x ps
count_put x id b [] = refl
count_put x id b (p ∷ ps) = by (p.id == id) (count_put x id b ps) where
  by : (t : Bool) → count x (put id b ps) ≡ count x ps → (let q : Place = cond t (longer b p) p in
      cond (q.id == x) (count x (put id b ps) + 1) (count x (put id b ps)))
      ≡ cond (p.id == x) (count x ps + 1) (count x ps)
  by true e = ap (λ m. cond (p.id == x) (m + 1) m) e
  by false e = ap (λ m. cond (p.id == x) (m + 1) m) e

-- a turn and others keep how many places an ID has
pub counts_turn : (hold : ℕ) (ps : List Place) (x : ℕ) → count x (turn hold ps).places ≡ count x ps
counts_turn hold ps x = by (first_busy ps) (found ps) where
  by : (o : Option Found) → IsFound ps o → count x (turn_of hold ps o).places ≡ count x ps
  by None f = refl
  by (Some f) g = same_count hold ps f g.0 x

pub counts_turns : (test : List Place → Bool) (hold most : ℕ) (ps : List Place) (x : ℕ) →
    count x (turns_while test hold most ps).places ≡ count x ps
counts_turns test hold zero ps x = refl
counts_turns test hold (suc most) ps x = by (test ps) (counts_turns test hold most (turn hold ps).places x) where
  by : (t : Bool) → count x (turns_while test hold most (turn hold ps).places).places ≡ count x (turn hold ps).places →
      count x (cond t (turn_and hold ps (turns_while test hold most (turn hold ps).places)) (stay ps)).places
      ≡ count x ps
  by true e = e ∙ counts_turn hold ps x
  by false e = refl

pub offer_keeps : (hold depth : ℕ) (ps : List Place) (id b : ℕ) → Apart ps → count id ps ≡ 1 → (x : ℕ) →
    bytes_for x (offer hold depth ps id b).out ++ queue_of x (offer hold depth ps id b).places
    ≡ queue_of x ps ++ cond (id == x) (b ∷ []) []
offer_keeps hold depth ps id b a c x =
    let t = turns_while (is_full depth id) hold (length ps) ps in
    let kept = (turns_keep (is_full depth id) hold (length ps) ps a).all x in
    elim (cases_eq id x) [
      | inl e ↦ (
          let one : 1 ≤ count id t.places =
          (let k = counts_turns (is_full depth id) hold (length ps) ps id in omega (arith, k, c)) in
          let put_x : queue_of x (put id b t.places) ≡ queue_of x t.places ++ b ∷ [] =
          subst (λ (y : ℕ). queue_of y (put id b t.places) ≡ queue_of y t.places ++ b ∷ []) e
          (put_same id b t.places one) in
          ap (λ (l : List ℕ). bytes_for x t.out ++ l) put_x
          ∙ sym (append_assoc (bytes_for x t.out) (queue_of x t.places) (b ∷ []))
          ∙ ap (λ (l : List ℕ). l ++ b ∷ []) kept
          ∙ sym (ap (λ v. queue_of x ps ++ cond v (b ∷ []) []) (eq-eqb id x e)))
      | inr n ↦
          ap (λ (l : List ℕ). bytes_for x t.out ++ l) (put_other id b x t.places n) ∙ kept
          ∙ sym (ap (λ v. queue_of x ps ++ cond v (b ∷ []) []) (ne_eqb id x n) ∙ append-nil (queue_of x ps))
    ]
