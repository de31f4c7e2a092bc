-- Readings with values before them, and what a rule says last.
use Rattle.std.proofs.Common.{◌≡◌, List, [], ◌∷◌, ◌++◌, refl, sym, ◌∙◌, ap, subst, append_assoc, append-nil, Option, None, Some}
use Rattle.resync_rules.specs.Names.{Reason, Next, Go, End, Fail, Place, Placed, Progress, with_unit, advance}
use Rattle.resync_rules.specs.Names.{progress_from}
use Rattle.resync_rules.specs.Syncing.{said_last, EndsOrFails}

module _ {S V : Type 0} (rule : S → Placed → Next S V) (start : S) where
  -- a reading with values before it
  abbrev pub with_before : List (V × Place) → Progress S V → Progress S V
  with_before early q = record { items = early ++ q.items; rest = q.rest; fault = q.fault; state = q.state }

  -- values, and nothing after them
  abbrev pub ended : List (V × Place) → Progress S V
  ended items = record { items = items; rest = []; fault = None; state = start }

  with_before_in : (early : List (V × Place)) (q : Progress S V) (b : Placed) (n : Next S V) (f : Option (Place × Reason)) →
      with_unit start (with_before early q) b n f ≡ with_before early (with_unit start q b n f)
  with_before_in early q b (Go s) None = refl
  with_before_in early q b (End v) None = ap (λ (l : List (V × Place)). ended l) (append_assoc early q.items ((v, b.place) ∷ []))
  with_before_in early q b (Fail e) None = refl
  with_before_in early q b n (Some f) = refl

  pub with_before_from : (w : List Placed) (early : List (V × Place)) (q : Progress S V) →
      progress_from rule start (with_before early q) w ≡ with_before early (progress_from rule start q w)
  with_before_from [] early q = refl
  with_before_from (b ∷ w) early q =
      ap (λ (x : Progress S V). progress_from rule start x w) (with_before_in early q b (rule q.state b) q.fault) ∙ with_before_from w early (advance rule start q b)

  -- a fault stays
  no_fault_in : (q : Progress S V) (b : Placed) (n : Next S V) (f : Option (Place × Reason)) → (with_unit start q b n f).fault ≡ None → f ≡ None
  no_fault_in q b n None e = refl
  no_fault_in q b n (Some g) e = cc

  pub no_fault : (w : List Placed) (q : Progress S V) → (progress_from rule start q w).fault ≡ None → q.fault ≡ None
  no_fault [] q e = e
  no_fault (b ∷ w) q e = no_fault_in q b (rule q.state b) q.fault (no_fault w (advance rule start q b) e)

  -- values are only added
  items_in : (q : Progress S V) (b : Placed) (n : Next S V) (f : Option (Place × Reason)) → (more : List (V × Place)) × ((with_unit start q b n f).items ≡ q.items ++ more)
  items_in q b (Go s) None = ([], sym (append-nil q.items))
  items_in q b (End v) None = ((v, b.place) ∷ [], refl)
  items_in q b (Fail e) None = ([], sym (append-nil q.items))
  items_in q b n (Some f) = ([], sym (append-nil q.items))

  pub items_from : (w : List Placed) (q : Progress S V) → (more : List (V × Place)) × ((progress_from rule start q w).items ≡ q.items ++ more)
  items_from [] q = ([], sym (append-nil q.items))
  items_from (b ∷ w) q =
      let here = items_in q b (rule q.state b) q.fault in
      let there = items_from w (advance rule start q b) in
      (here.0 ++ there.0, there.1 ∙ ap (λ (l : List (V × Place)). l ++ there.0) here.1 ∙ append_assoc q.items here.0 there.0)

  -- a reading whose last unit is one of which the rule says this
  abbrev pub Alive : Next S V → Progress S V → Type 0
  Alive (Go s) q = (q.fault ≡ None) × (q.state ≡ s)
  Alive (End v) q = (q.fault ≡ None) × (q.state ≡ start)
  Alive (Fail e) q = q.fault ≡ None → ⊥

  alive_in : (q : Progress S V) (b : Placed) (n : Next S V) → Alive n (with_unit start q b n None)
  alive_in q b (Go s) = (refl, refl)
  alive_in q b (End v) = (refl, refl)
  alive_in q b (Fail e) = λ h. (let k = h in cc)

  stepped : (q : Progress S V) (b : Placed) (s : S) → q.fault ≡ None → q.state ≡ s → advance rule start q b ≡ with_unit start q b (rule s b) None
  stepped q b s f e =
      ap (λ (t : S). with_unit start q b (rule t b) q.fault) e ∙ ap (λ (g : Option (Place × Reason)). with_unit start q b (rule s b) g) f

  alive_by : (q : Progress S V) (b : Placed) (s : S) → q.fault ≡ None → q.state ≡ s → Alive (rule s b) (advance rule start q b)
  alive_by q b s f e = subst (λ (x : Progress S V). Alive (rule s b) x) (sym (stepped q b s f e)) (alive_in q b (rule s b))

  pub alive_from : (w : List Placed) (n : Next S V) (q : Progress S V) → Alive n q → Alive (said_last rule start n w) (progress_from rule start q w)
  alive_from [] n q a = a
  alive_from (b ∷ w) (Go s) q a = alive_from w (rule s b) (advance rule start q b) (alive_by q b s a.0 a.1)
  alive_from (b ∷ w) (End v) q a = alive_from w (rule start b) (advance rule start q b) (alive_by q b start a.0 a.1)
  alive_from (b ∷ w) (Fail e) q a = λ h. a (no_fault (b ∷ w) q h)

  -- one more unit
  abbrev next_of : Next S V → Placed → Next S V
  next_of (Go s) l = rule s l
  next_of (End v) l = rule start l
  next_of (Fail e) l = Fail e

  said_push : (w : List Placed) (n : Next S V) (l : Placed) → said_last rule start n (w ++ l ∷ []) ≡ next_of (said_last rule start n w) l
  said_push (b ∷ w) (Go s) l = said_push w (rule s b) l
  said_push (b ∷ w) (End v) l = said_push w (rule start b) l
  said_push [] (Go s) l = refl
  said_push w n l = refl

  ends_by : (q : Progress S V) (l : Placed) (v : V) (n : Next S V) → EndsOrFails v n → (with_unit start q l n None).fault ≡ None →
      with_unit start q l n None ≡ ended (q.items ++ (v, l.place) ∷ [])
  ends_by q l v (Go s) h f = absurd h
  ends_by q l v (End x) h f = ap (λ (y : V). ended (q.items ++ (y, l.place) ∷ [])) h
  ends_by q l v (Fail e) h f = cc

  ends_on : (q : Progress S V) (l : Placed) (v : V) (s : S) → q.fault ≡ None → q.state ≡ s → EndsOrFails v (rule s l) → (advance rule start q l).fault ≡ None →
      advance rule start q l ≡ ended (q.items ++ (v, l.place) ∷ [])
  ends_on q l v s f e h g =
      let k = stepped q l s f e in
      k ∙ ends_by q l v (rule s l) h (ap (λ (x : Progress S V). x.fault) (sym k) ∙ g)

  pub ends_last : (q : Progress S V) (l : Placed) (v : V) (n : Next S V) → Alive n q → EndsOrFails v (next_of n l) → (advance rule start q l).fault ≡ None →
      advance rule start q l ≡ ended (q.items ++ (v, l.place) ∷ [])
  ends_last q l v (Go s) a h f = ends_on q l v s a.0 a.1 h f
  ends_last q l v (End x) a h f = ends_on q l v start a.0 a.1 h f
  ends_last q l v (Fail e) a h f = absurd (a (no_fault_in q l (rule q.state l) q.fault f))

  -- units that end v or fail, read from a state
  pub ends_with : (w : List Placed) (l : Placed) (v : V) (q : Progress S V) → q.fault ≡ None → EndsOrFails v (said_last rule start (Go q.state) (w ++ l ∷ [])) →
      (advance rule start (progress_from rule start q w) l).fault ≡ None →
      advance rule start (progress_from rule start q w) l ≡ ended ((progress_from rule start q w).items ++ (v, l.place) ∷ [])
  ends_with w l v q f h g =
      ends_last (progress_from rule start q w) l v (said_last rule start (Go q.state) w) (alive_from w (Go q.state) q (f, refl))
      (subst (λ (n : Next S V). EndsOrFails v n) (said_push w (Go q.state) l) h) g
