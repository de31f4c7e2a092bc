-- A rule that decides a grammar computes the grammar's reading, and a list has one reading.
use Rattle.std.proofs.Common.{◌≡◌, ◌≤◌, List, [], ◌∷◌, ◌++◌, length, refl, sym, ◌∙◌, ap, ◌↔◌, inl, inr, append_assoc, append-nil, arith, subst, Option, None, Some}
use Rattle.std.proofs.lemmas.List.{append_cancel_left, length_push}
use Rattle.trace_values.specs.Placed.{Place, Placed}
use Rattle.trace_values.specs.declared.fault.Reason.{Reason}
use Rattle.trace_values.specs.declared.next.Next.{Next}
use Rattle.trace_values.specs.declared.next.Next.TheVariants.{Go, End, Fail}
use Rattle.trace_values.specs.Grammar.{IsFront}
use Rattle.trace_values.specs.Walk.{Within, Whole, Broken, walk, Decides}
use Rattle.trace_values.specs.Reading.{Reading, Splits, IsFirstFault, Ends, IsReading, Progress, with_unit, advance, progress_from, unread, progress, reading}
use Rattle.trace_values.proofs.Lists.{fronts_meet, same_fronts}
use Rattle.trace_values.proofs.Walks.{walk_push, walked, none_beyond, no_front, prefix_law}

-- no spelling is at the front of r
abbrev pub NoneStands : {V : Type 0} → (V → List Placed → Type 0) → List Placed → Type 0
NoneStands {V} Spells r = (v : V) (a w : List Placed) → Spells v a → r ≡ a ++ w → ⊥

same_pair : {A B : Type 0} (p q : A × B) → p.0 ≡ q.0 → p.1 ≡ q.1 → p ≡ q
same_pair p q e f = let k : (p.0, p.1) ≡ (q.0, q.1) = cc in k

made : {V : Type 0} → List (V × Place) → List Placed → Option (Place × Reason) → Reading V
made a b c = record { items = a; rest = b; fault = c }

same_record : {V : Type 0} (r q : Reading V) → r.items ≡ q.items → r.rest ≡ q.rest → r.fault ≡ q.fault → r ≡ q
unfolding made
same_record r q e f g = let k : made r.items r.rest r.fault ≡ made q.items q.rest q.fault = cc in k

module _ {S V : Type 0} (Spells : V → List Placed → Type 0) (why : List Placed → Reason) (rule : S → Placed → Next S V) (start : S) (d : Decides Spells why rule start) where
  not_whole : (v : V) (s : S) (r : List Placed) → walk rule start r ≡ Whole v → walk rule start r ≡ Within s → ⊥
  not_whole v s r p q = cc

  -- nothing whole is at the front of a front
  front_alone : (s : S) (r : List Placed) → walk rule start r ≡ Within s → NoneStands Spells r
  front_alone s r f v a w t e =
      let more = d.goes_on s r f in
      no_spelling a w t (ap (λ l. l ++ more.1) e ∙ append_assoc a w more.1) e where
        no_spelling : (a w : List Placed) → Spells v a → r ++ (d.goes_on s r f).1 ≡ a ++ (w ++ (d.goes_on s r f).1) → r ≡ a ++ w → ⊥
        no_spelling a [] t k e = not_whole v s r (d.complete v r (subst (λ (l : List Placed). Spells v l) (sym (e ∙ append-nil a)) t)) f
        no_spelling a (h ∷ w) t k e =
            none_beyond Spells why rule start d v (d.goes_on s r f).0 a h (w ++ (d.goes_on s r f).1) t (subst (λ (l : List Placed). Spells (d.goes_on s r f).0 l) k (d.goes_on s r f).2)

  -- what is kept of the list so far: a front and its state, or a front, its state and the fault after it
  pub record IsFaultAt (rest : List Placed) (s : S) (f : Place × Reason) : Type 0 where
    pub before : List Placed
    pub unit : Placed
    pub after : List Placed
    pub parts : rest ≡ before ++ (unit ∷ after)
    pub front : walk rule start before ≡ Within s
    pub broken : rule s unit ≡ Fail f.1
    pub place : f.0 ≡ unit.place

  abbrev Kept : List Placed → S → Option (Place × Reason) → Type 0
  Kept rest s None = walk rule start rest ≡ Within s
  Kept rest s (Some f) = IsFaultAt rest s f

  record Keeps (u : List Placed) (p : Progress S V) : Type 0 where
    splits : Splits Spells p.items p.rest u
    kept : Kept p.rest p.state p.fault

  -- one more unit at the end of the rest
  splits_more : (xs : List (V × Place)) (r u z : List Placed) → Splits Spells xs r u → Splits Spells xs (r ++ z) (u ++ z)
  splits_more [] r u z s = ap (λ l. l ++ z) s
  splits_more (x ∷ xs) r u z s =
      (s.0, s.1, s.2 ++ z, s.3, ap (λ l. l ++ z) s.4 ∙ append_assoc s.0 (s.1 ∷ s.2) z, s.5, splits_more xs r s.2 z s.6)

  -- the rest and one more unit become one more item
  splits_item : (xs : List (V × Place)) (r u : List Placed) (b : Placed) (v : V) → Splits Spells xs (r ++ b ∷ []) u → Spells v (r ++ b ∷ []) →
      Splits Spells (xs ++ (v, b.place) ∷ []) [] u
  splits_item [] r u b v s t = (r, b, [], t, s, refl, refl)
  splits_item (x ∷ xs) r u b v s t = (s.0, s.1, s.2, s.3, s.4, s.5, splits_item xs r s.2 b v s.6 t)

  step_at : (u : List Placed) (p : Progress S V) (b : Placed) (n : Next S V) (f : Option (Place × Reason)) →
      rule p.state b ≡ n → p.fault ≡ f → Keeps u p → Keeps (u ++ b ∷ []) (with_unit start p b n f)
  step_at u p b (End v) None e g k = record {
    splits = splits_item p.items p.rest (u ++ b ∷ []) b v (splits_more p.items p.rest u (b ∷ []) k.splits)
        (d.sound v _ (walk_push rule start p.state p.rest b (subst (λ (f : Option (Place × Reason)). Kept p.rest p.state f) g k.kept) ∙ ap (λ (n : Next S V). walked rule n) e));
    kept = refl;
  }
  step_at u p b (Go s) None e g k = record {
    splits = splits_more p.items p.rest u (b ∷ []) k.splits;
    kept = walk_push rule start p.state p.rest b (subst (λ (f : Option (Place × Reason)). Kept p.rest p.state f) g k.kept) ∙ ap (λ (n : Next S V). walked rule n) e;
  }
  step_at u p b (Fail w) None e g k = record {
    splits = splits_more p.items p.rest u (b ∷ []) k.splits;
    kept = record {
      before = p.rest;
      unit = b;
      after = [];
      parts = refl;
      front = subst (λ (f : Option (Place × Reason)). Kept p.rest p.state f) g k.kept;
      broken = e;
      place = refl;
    };
  }
  step_at u p b n (Some f) e g k =
      let s : IsFaultAt p.rest p.state f = subst (λ (f : Option (Place × Reason)). Kept p.rest p.state f) g k.kept in
      record {
        splits = splits_more p.items p.rest u (b ∷ []) k.splits;
        kept = record {
          before = s.before;
          unit = s.unit;
          after = s.after ++ b ∷ [];
          parts = ap (λ l. l ++ b ∷ []) s.parts ∙ append_assoc s.before (s.unit ∷ s.after) (b ∷ []);
          front = s.front;
          broken = s.broken;
          place = s.place;
        };
      }

  keeps_from : (w u : List Placed) (p : Progress S V) → Keeps u p → Keeps (u ++ w) (progress_from rule start p w)
  keeps_from [] u p k = subst (λ (l : List Placed). Keeps l p) (sym (append-nil u)) k
  keeps_from (b ∷ w) u p k =
      subst (λ (l : List Placed). Keeps l (progress_from rule start (advance rule start p b) w)) (append_assoc u (b ∷ []) w)
      (keeps_from w (u ++ b ∷ []) (advance rule start p b) (step_at u p b (rule p.state b) p.fault refl refl k))

  keeps : (u : List Placed) → Keeps u (progress rule start u)
  keeps u = keeps_from u [] (unread start) (record { splits = refl; kept = refl })

  -- while there is no fault the rest is a front, which leaves the rule in the reading's state
  pub rest_walks : (u : List Placed) → (progress rule start u).fault ≡ None → walk rule start (progress rule start u).rest ≡ Within (progress rule start u).state
  rest_walks u f = subst (λ (x : Option (Place × Reason)). Kept (progress rule start u).rest (progress rule start u).state x) f (keeps u).kept

  pub stops : (u : List Placed) (f : Place × Reason) → (progress rule start u).fault ≡ Some f → IsFaultAt (progress rule start u).rest (progress rule start u).state f
  stops u f e = subst (λ (x : Option (Place × Reason)). Kept (progress rule start u).rest (progress rule start u).state x) e (keeps u).kept

  pub broken_of : (r : List Placed) (s : S) (f : Place × Reason) (k : IsFaultAt r s f) → walk rule start (k.before ++ k.unit ∷ []) ≡ Broken f.1
  broken_of r s f k = walk_push rule start s k.before k.unit k.front ∙ ap (λ (n : Next S V). walked rule n) k.broken

  shorter_front : (a b : List Placed) → IsFront Spells (a ++ b) → IsFront Spells a
  shorter_front a b f = (f.0, b ++ f.1, subst (λ (l : List Placed). Spells f.0 l) (append_assoc a b f.1) f.2)

  -- after a front and the unit that breaks it, nothing is at the front of the whole
  broken_alone : (r : List Placed) (s : S) (f : Place × Reason) → IsFaultAt r s f → NoneStands Spells r
  broken_alone r s f k v a w t e = elim (fronts_meet k.before a (k.unit ∷ k.after) w (sym k.parts ∙ e)) [
    | inl m ↦ longer m.0 m.1
    | inr m ↦ front_alone s k.before k.front v a (m.1 ∷ m.0) t m.2
  ] where
    longer : (c : List Placed) → a ≡ k.before ++ c → ⊥
    longer [] m = front_alone s k.before k.front v a [] t (sym (append-nil k.before) ∙ sym m ∙ sym (append-nil a))
    longer (h ∷ c) m =
        let same : k.before ++ (k.unit ∷ k.after) ≡ k.before ++ (h ∷ (c ++ w)) = sym k.parts ∙ e ∙ ap (λ l. l ++ w) m ∙ append_assoc k.before (h ∷ c) w in
        let heads : (k.unit ∷ k.after) ≡ (h ∷ (c ++ w)) = append_cancel_left k.before _ _ same in
        let here : h ≡ k.unit = cc in
        no_front Spells why rule start d f.1 (k.before ++ k.unit ∷ []) (broken_of r s f k)
        (v, c, subst (λ (l : List Placed). Spells v l) (m ∙ ap (λ (x : Placed). k.before ++ (x ∷ c)) here ∙ sym (append_assoc k.before (k.unit ∷ []) c)) t)

  -- no spelling is at the front of what is kept
  none_stands : (r : List Placed) (s : S) (f : Option (Place × Reason)) → Kept r s f → NoneStands Spells r
  none_stands r s None k = front_alone s r k
  none_stands r s (Some f) k = broken_alone r s f k

  -- two spellings at the front of one list are one
  same_front : (v w : V) (a b x y : List Placed) (l m : Placed) → Spells v (a ++ l ∷ []) → Spells w (b ++ m ∷ []) → a ++ (l ∷ x) ≡ b ++ (m ∷ y) →
      (a ≡ b) × (l ≡ m) × (x ≡ y)
  same_front v w a b x y l m s t e =
      let same = (prefix_law Spells why rule start d).same_spelling v w (a ++ l ∷ []) (b ++ m ∷ []) x y s t (append_assoc a (l ∷ []) x ∙ e ∙ sym (append_assoc b (m ∷ []) y)) in
      let lengths : length a ≡ length b = (let n = ap length same in let p = length_push a l in let q = length_push b m in omega arith) in
      let fronts = same_fronts a b (l ∷ x) (m ∷ y) lengths e in
      let k : (l ∷ x) ≡ (m ∷ y) = fronts.1 in
      (fronts.0, cc, cc)

  -- two ways to split one list, the first of which can't go on
  no_longer : (xs ys : List (V × Place)) (r q u : List Placed) → NoneStands Spells r → Splits Spells xs r u → Splits Spells ys q u → length ys ≤ length xs
  no_longer xs [] r q u n s t = omega arith
  no_longer [] (y ∷ ys) r q u n s t = absurd (n y.0 (t.0 ++ t.1 ∷ []) t.2 t.3 (sym s ∙ t.4 ∙ sym (append_assoc t.0 (t.1 ∷ []) t.2)))
  no_longer (x ∷ xs) (y ∷ ys) r q u n s t =
      let same = same_front x.0 y.0 s.0 t.0 s.2 t.2 s.1 t.1 s.3 t.3 (sym s.4 ∙ t.4) in
      let rest : Splits Spells ys q s.2 = subst (λ (w : List Placed). Splits Spells ys q w) (sym same.2) t.6 in
      let more = no_longer xs ys r q s.2 n s.6 rest in omega arith

  abbrev pub first_fault : (r : List Placed) (s : S) (f : Place × Reason) → IsFaultAt r s f → IsFirstFault Spells why r f
  first_fault r s f k = record {
    before = k.before;
    unit = k.unit;
    after = k.after;
    parts = k.parts;
    front = d.goes_on s k.before k.front;
    broken = no_front Spells why rule start d f.1 (k.before ++ k.unit ∷ []) (broken_of r s f k);
    place = k.place;
    reason = d.reason s k.before k.unit f.1 k.front k.broken;
  }

  ends_of : (r : List Placed) (s : S) (f : Option (Place × Reason)) → Kept r s f → Ends Spells why r f
  ends_of r s None k = d.goes_on s r k
  ends_of r s (Some f) k = first_fault r s f k

  -- the rule computes the reading
  pub reading_is : (u : List Placed) → IsReading Spells why u (reading rule start u)
  reading_is u = let k = keeps u in record {
    splits = k.splits;
    longest = λ others rest s. no_longer _ others _ rest u (none_stands _ _ _ k.kept) k.splits s;
    ends = ends_of _ _ _ k.kept;
  }

  -- two ways to split one list into as many values are one
  same_splits : (xs ys : List (V × Place)) (r q u : List Placed) → length xs ≡ length ys → Splits Spells xs r u → Splits Spells ys q u → (xs ≡ ys) × (r ≡ q)
  same_splits [] [] r q u n s t = (refl, sym s ∙ t)
  same_splits [] (y ∷ ys) r q u n s t = absurd (omega arith)
  same_splits (x ∷ xs) [] r q u n s t = absurd (omega arith)
  same_splits (x ∷ xs) (y ∷ ys) r q u n s t =
      let same = same_front x.0 y.0 s.0 t.0 s.2 t.2 s.1 t.1 s.3 t.3 (sym s.4 ∙ t.4) in
      let spelling : t.0 ++ t.1 ∷ [] ≡ s.0 ++ s.1 ∷ [] = ap (λ (l : List Placed). l ++ t.1 ∷ []) (sym same.0) ∙ ap (λ (p : Placed). s.0 ++ p ∷ []) (sym same.1) in
      let value : x.0 ≡ y.0 = (prefix_law Spells why rule start d).same_value x.0 y.0 (s.0 ++ s.1 ∷ []) s.3 (subst (λ (a : List Placed). Spells y.0 a) spelling t.3) in
      let place : x.1 ≡ y.1 = s.5 ∙ ap (λ (p : Placed). p.place) same.1 ∙ sym t.5 in
      let rest : Splits Spells ys q s.2 = subst (λ (w : List Placed). Splits Spells ys q w) (sym same.2) t.6 in
      let more = same_splits xs ys r q s.2 (omega arith) s.6 rest in
      let head : x ≡ y = same_pair x y value place in
      let tail : xs ≡ ys = more.0 in
      (cc, more.1)

  -- what is before the one fault is no more than what is before the other
  not_later : (r : List Placed) (f g : Place × Reason) (s : IsFirstFault Spells why r f) (t : IsFirstFault Spells why r g) (h : Placed) (c : List Placed) → s.before ≡ t.before ++ (h ∷ c) → ⊥
  not_later r f g s t h c k =
      let all : t.before ++ (t.unit ∷ t.after) ≡ t.before ++ (h ∷ (c ++ (s.unit ∷ s.after))) =
      sym t.parts ∙ s.parts ∙ ap (λ l. l ++ (s.unit ∷ s.after)) k ∙ append_assoc t.before (h ∷ c) (s.unit ∷ s.after) in
      let heads : (t.unit ∷ t.after) ≡ (h ∷ (c ++ (s.unit ∷ s.after))) = append_cancel_left t.before _ _ all in
      let here : h ≡ t.unit = cc in
      let k' : s.before ≡ (t.before ++ t.unit ∷ []) ++ c = k ∙ ap (λ (x : Placed). t.before ++ (x ∷ c)) here ∙ sym (append_assoc t.before (t.unit ∷ []) c) in
      t.broken (shorter_front (t.before ++ t.unit ∷ []) c (subst (λ (l : List Placed). IsFront Spells l) k' s.front))

  pub same_before : (r : List Placed) (f g : Place × Reason) (s : IsFirstFault Spells why r f) (t : IsFirstFault Spells why r g) → s.before ≡ t.before
  same_before r f g s t =
      elim (fronts_meet s.before t.before (s.unit ∷ s.after) (t.unit ∷ t.after) (sym s.parts ∙ t.parts)) [
        | inl m ↦ at_one m.0 m.1
        | inr m ↦ absurd (not_later r f g s t m.1 m.0 m.2)
      ] where
        at_one : (c : List Placed) → t.before ≡ s.before ++ c → s.before ≡ t.before
        at_one (h ∷ c) k = absurd (not_later r g f t s h c k)
        at_one [] k = sym (k ∙ append-nil s.before)

  same_fault : (r : List Placed) (f g : Place × Reason) → IsFirstFault Spells why r f → IsFirstFault Spells why r g → f ≡ g
  same_fault r f g s t =
      let same : t.before ≡ s.before = sym (same_before r f g s t) in
      let all : s.before ++ (s.unit ∷ s.after) ≡ s.before ++ (t.unit ∷ t.after) = sym s.parts ∙ t.parts ∙ ap (λ l. l ++ (t.unit ∷ t.after)) same in
      let heads : (s.unit ∷ s.after) ≡ (t.unit ∷ t.after) = append_cancel_left s.before _ _ all in
      let unit : s.unit ≡ t.unit = cc in
      let place : f.0 ≡ g.0 = s.place ∙ ap (λ (p : Placed). p.place) unit ∙ sym t.place in
      let reason : f.1 ≡ g.1 = s.reason ∙ ap why (ap (λ (l : List Placed). l ++ s.unit ∷ []) (sym same) ∙ ap (λ (x : Placed). t.before ++ x ∷ []) unit) ∙ sym t.reason in
      same_pair f g place reason

  no_both : (r : List Placed) (g : Place × Reason) → IsFront Spells r → IsFirstFault Spells why r g → ⊥
  no_both r g f t = t.broken (shorter_front (t.before ++ t.unit ∷ []) t.after
      (subst (λ (l : List Placed). IsFront Spells l) (t.parts ∙ sym (append_assoc t.before (t.unit ∷ []) t.after)) f))

  same_ends : (r : List Placed) (f g : Option (Place × Reason)) → Ends Spells why r f → Ends Spells why r g → f ≡ g
  same_ends r None None s t = refl
  same_ends r None (Some g) s t = absurd (no_both r g s t)
  same_ends r (Some f) None s t = absurd (no_both r f t s)
  same_ends r (Some f) (Some g) s t = ap Some (same_fault r f g s t)

  -- a list has one reading
  pub one_reading : (u : List Placed) (r q : Reading V) → IsReading Spells why u r → IsReading Spells why u q → r ≡ q
  one_reading u r q s t =
      let more = s.longest q.items q.rest t.splits in
      let less = t.longest r.items r.rest s.splits in
      let both = same_splits r.items q.items r.rest q.rest u (omega arith) s.splits t.splits in
      let items : r.items ≡ q.items = both.0 in
      let rest : r.rest ≡ q.rest = both.1 in
      let fault : r.fault ≡ q.fault = same_ends r.rest r.fault q.fault s.ends (subst (λ (l : List Placed). Ends Spells why l q.fault) (sym rest) t.ends) in
      same_record r q items rest fault

  pub only_reading : (u : List Placed) (r : Reading V) → IsReading Spells why u r → r ≡ reading rule start u
  only_reading u r s = one_reading u r (reading rule start u) s (reading_is u)

  -- both ways: what the rule computes is the reading, and there is no other
  pub reading_law : (u : List Placed) (r : Reading V) → IsReading Spells why u r ↔ (r ≡ reading rule start u)
  reading_law u r = (only_reading u r, λ e. subst (λ (q : Reading V). IsReading Spells why u q) (sym e) (reading_is u))
