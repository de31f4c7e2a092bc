-- One more unit, in a reading and in what a machine keeps of it.
use Rattle.std.proofs.Common.{◌≡◌, ℕ, ◌+◌, ◌*◌, ◌≤◌, List, [], ◌∷◌, ◌++◌, length, refl, sym, ◌∙◌, ap, arith, subst, append_assoc, append-nil, Option, None, Some, Bool, true, false}
use Rattle.std.specs.Prelude.{is_none}
use Rattle.std.proofs.lemmas.List.{map-append, length_push}
use Rattle.trace_values.specs.declared.fault.Reason.{Reason}
use Rattle.trace_values.specs.declared.next.Next.{Next}
use Rattle.trace_values.specs.declared.next.Next.TheVariants.{Go, End, Fail}
use Rattle.trace_values.specs.Placed.{Place, Placed}
use Rattle.trace_values.specs.Reading.{Progress, with_unit, advance, progress_from, unread, progress}
use Rattle.trace_values.specs.Stream.{Said, Kept, kept, shown, stream_of, Grows, Shows, Settled}
use Rattle.trace_values.specs.Standing.{Keeps, live_after, state_after}
use Rattle.trace_values.proofs.OneUnit.{step_on, FaultOn, RisesOn}

pub none_of : {A : Type 0} (o : Option A) → true ≡ is_none o → o ≡ None
none_of None e = refl
none_of (Some x) e = cc

pub some_of : {A : Type 0} (o : Option A) → is_none o ≡ false → (x : A) × (o ≡ Some x)
some_of None e = cc
some_of (Some x) e = (x, refl)

module _ {S V : Type 0} (rule : S → Placed → Next S V) (start : S) where
  pub from_append : (u w : List Placed) (p : Progress S V) → progress_from rule start p (u ++ w) ≡ progress_from rule start (progress_from rule start p u) w
  from_append [] w p = refl
  from_append (b ∷ u) w p = from_append u w (advance rule start p b)

  pub progress_push : (u : List Placed) (b : Placed) → progress rule start (u ++ b ∷ []) ≡ advance rule start (progress rule start u) b
  progress_push u b = from_append u (b ∷ []) (unread start)

  module _ (p : Progress S V) (state : S) (b : Placed) (s : Keeps true state p) where
    -- with one more unit a reading goes by the rule at the kept state
    pub grown : advance rule start p b ≡ with_unit start p b (rule state b) None
    grown =
        ap (λ (t : S). with_unit start p b (rule t b) p.fault) s.state_is
        ∙ ap (λ (f : Option (Place × Reason)). with_unit start p b (rule state b) f) (none_of p.fault s.live_is)

    after : (n : Next S V) → Keeps (live_after n) (state_after start n state) (with_unit start p b n None)
    after (Go t) = record { live_is = refl; state_is = refl }
    after (End v) = record { live_is = refl; state_is = refl }
    after (Fail e) = record { live_is = refl; state_is = s.state_is }

    pub Keeps-more : Keeps (live_after (rule state b)) (state_after start (rule state b) state) (advance rule start p b)
    Keeps-more = subst (λ (x : Progress S V). Keeps (live_after (rule state b)) (state_after start (rule state b) state) x) (sym grown) (after (rule state b))

  grows_by : (front : List (Said V × Place)) (skipped : ℕ) (p : Progress S V) (b : Placed) (n : Next S V) → p.fault ≡ None →
      Grows (shown front skipped p) (shown front skipped (with_unit start p b n None)) b.place.at (step_on b.place n)
  grows_by front skipped p b (End v) f = record {
    given = ap (λ (l : List (Said V × Place)). front ++ l) (map-append (λ (x : V × Place). (Kept x.0, x.1)) p.items ((v, b.place) ∷ []))
        ∙ sym (append_assoc front (kept p.items) ((Kept v, b.place) ∷ []));
    fault = refl;
    hunt = (refl, refl, refl);
  }
  grows_by front skipped p b (Go t) f = record { given = sym (append-nil (front ++ kept p.items)); fault = refl; hunt = (refl, refl, refl) }
  grows_by front skipped p b (Fail e) f = record { given = sym (append-nil (front ++ kept p.items)); fault = refl; hunt = (refl, refl) }

  -- the step follows how the reading grew
  pub Grows-more : (front : List (Said V × Place)) (skipped : ℕ) (p : Progress S V) (state : S) (b : Placed) → Keeps true state p →
      Grows (shown front skipped p) (shown front skipped (advance rule start p b)) b.place.at (step_on b.place (rule state b))
  Grows-more front skipped p state b s =
      subst (λ (x : Progress S V). Grows (shown front skipped p) (shown front skipped x) b.place.at (step_on b.place (rule state b)))
      (sym (grown p state b s))
      (grows_by front skipped p b (rule state b) (none_of p.fault s.live_is))

  -- a rest is no longer than the list
  rest_in : (b : Placed) (p : Progress S V) (n : Next S V) (f : Option (Place × Reason)) → length (with_unit start p b n f).rest ≤ length p.rest + 1
  rest_in b p (End v) None = omega arith
  rest_in b p (Go t) None = (let k = length_push p.rest b in omega arith)
  rest_in b p (Fail e) None = (let k = length_push p.rest b in omega arith)
  rest_in b p n (Some f) = (let k = length_push p.rest b in omega arith)

  pub rest_on : (b : Placed) (p : Progress S V) → length (advance rule start p b).rest ≤ length p.rest + 1
  rest_on b p = rest_in b p (rule p.state b) p.fault

  rest_from : (u : List Placed) (p : Progress S V) → length (progress_from rule start p u).rest ≤ length p.rest + length u
  rest_from [] p = omega arith
  rest_from (b ∷ u) p = (let k = rest_in b p (rule p.state b) p.fault in let l = rest_from u (advance rule start p b) in omega arith)

  pub rest_within : (u : List Placed) → length (progress rule start u).rest ≤ length u
  rest_within u = (let k = rest_from u (unread start) in omega arith)

  -- where the state counts the units of the rest
  module _ (count : S → ℕ) (none : count start ≡ 0) (one : (s t : S) (b : Placed) → rule s b ≡ Go t → count t ≡ count s + 1) where
    counted_in : (p : Progress S V) (b : Placed) (n : Next S V) (f : Option (Place × Reason)) → rule p.state b ≡ n → p.fault ≡ f →
        (p.fault ≡ None → length p.rest ≡ count p.state) → (with_unit start p b n f).fault ≡ None → length (with_unit start p b n f).rest ≡ count (with_unit start p b n f).state
    counted_in p b (Go t) None e f h g = (let k = length_push p.rest b in let l = one p.state t b e in let m = h f in omega arith)
    counted_in p b (End v) None e f h g = sym none
    counted_in p b (Fail w) None e f h g = cc
    counted_in p b n (Some w) e f h g = cc

    pub counted_on : (p : Progress S V) (b : Placed) → (p.fault ≡ None → length p.rest ≡ count p.state) →
        (advance rule start p b).fault ≡ None → length (advance rule start p b).rest ≡ count (advance rule start p b).state
    counted_on p b h = counted_in p b (rule p.state b) p.fault refl refl h

    counted_from : (u : List Placed) (p : Progress S V) → (p.fault ≡ None → length p.rest ≡ count p.state) →
        (progress_from rule start p u).fault ≡ None → length (progress_from rule start p u).rest ≡ count (progress_from rule start p u).state
    counted_from [] p h g = h g
    counted_from (b ∷ u) p h g = counted_from u (advance rule start p b) (counted_in p b (rule p.state b) p.fault refl refl h) g

    pub counted : (u : List Placed) → (progress rule start u).fault ≡ None → length (progress rule start u).rest ≡ count (progress rule start u).state
    counted u g = counted_from u (unread start) (λ _. sym none) g

    -- what a machine that stands for a list shows
    pub Keeps-shows : (live : Bool) (state : S) (u : List Placed) (bytes : ℕ) → length u ≤ 2 * bytes → Keeps live state (progress rule start u) →
        Shows live true (count state) 0 bytes (stream_of (progress rule start u))
    Keeps-shows live state u bytes most s = record {
      live_is = s.live_is;
      locked_is = refl;
      held_is = λ l. held l;
      skipped_is = refl;
      room = λ l. (let k = rest_within u in let e = held l in omega arith);
    } where
      held : live ≡ true → count state ≡ length (progress rule start u).rest
      held l = ap count (sym s.state_is) ∙ sym (counted u (none_of (progress rule start u).fault (sym l ∙ s.live_is)))

  keeps_all : (p : Progress S V) (b : Placed) (n : Next S V) (f : Place × Reason) → ((with_unit start p b n (Some f)).items ≡ p.items) × ((with_unit start p b n (Some f)).fault ≡ Some f)
  keeps_all p b (Go t) f = (refl, refl)
  keeps_all p b (End v) f = (refl, refl)
  keeps_all p b (Fail e) f = (refl, refl)

  pub settled_on : (p : Progress S V) (b : Placed) (f : Place × Reason) → p.fault ≡ Some f → ((advance rule start p b).items ≡ p.items) × ((advance rule start p b).fault ≡ Some f)
  settled_on p b f e =
      let e' : advance rule start p b ≡ with_unit start p b (rule p.state b) (Some f) = ap (λ (g : Option (Place × Reason)). with_unit start p b (rule p.state b) g) e in
      let at_some = keeps_all p b (rule p.state b) f in
      (ap (λ (x : Progress S V). x.items) e' ∙ at_some.0, ap (λ (x : Progress S V). x.fault) e' ∙ at_some.1)

  pub settled_by : (p : Progress S V) (w : List Placed) (f : Place × Reason) → p.fault ≡ Some f →
      ((progress_from rule start p w).items ≡ p.items) × ((progress_from rule start p w).fault ≡ p.fault)
  settled_by p [] f e = (refl, refl)
  settled_by p (b ∷ w) f e =
      let on = settled_on p b f e in
      let more = settled_by (advance rule start p b) w f on.1 in
      (more.0 ∙ on.0, more.1 ∙ on.1 ∙ sym e)

  -- and the state stays
  pub state_stays : (p : Progress S V) (w : List Placed) (f : Place × Reason) → p.fault ≡ Some f → (progress_from rule start p w).state ≡ p.state
  state_stays p [] f e = refl
  state_stays p (b ∷ w) f e =
      state_stays (advance rule start p b) w f (settled_on p b f e).1
      ∙ ap (λ (o : Option (Place × Reason)). (with_unit start p b (rule p.state b) o).state) e

  -- a fault is the end of a reading
  pub settles : (u w : List Placed) → is_none (progress rule start u).fault ≡ false →
      Settled (stream_of (progress rule start u)) (stream_of (progress rule start (u ++ w)))
  settles u w e =
      let f = some_of (progress rule start u).fault e in
      let s = settled_by (progress rule start u) w f.0 f.1 in
      let a = from_append u w (unread start) in
      record {
        given = ap (λ (p : Progress S V). kept p.items) a ∙ ap (λ (l : List (V × Place)). kept l) s.0;
        fault = ap (λ (p : Progress S V). p.fault) a ∙ s.1;
      }

  -- what is more with one more unit is at it
  rises_by : (front : List (Said V × Place)) (skipped : ℕ) (p : Progress S V) (b : Placed) (n : Next S V) (f : Option (Place × Reason)) → p.fault ≡ f →
      RisesOn (shown front skipped p) (shown front skipped (with_unit start p b n f)) b.place
  rises_by front skipped p b (End v) None e = record {
    more = (Kept v, b.place) ∷ [];
    given = (grows_by front skipped p b (End v) e).given;
    all = (refl, tt);
    fault = subst (λ (f : Option (Place × Reason)). FaultOn b.place f None) (sym e) tt;
  }
  rises_by front skipped p b (Go t) None e = record {
    more = [];
    given = sym (append-nil (front ++ kept p.items));
    all = tt;
    fault = subst (λ (f : Option (Place × Reason)). FaultOn b.place f None) (sym e) tt;
  }
  rises_by front skipped p b (Fail w) None e = record {
    more = [];
    given = sym (append-nil (front ++ kept p.items));
    all = tt;
    fault = subst (λ (f : Option (Place × Reason)). FaultOn b.place f (Some (b.place, w))) (sym e) refl;
  }
  rises_by front skipped p b n (Some f) e =
      let k = keeps_all p b n f in
      record {
        more = [];
        given = ap (λ (l : List (V × Place)). front ++ kept l) k.0 ∙ sym (append-nil (front ++ kept p.items));
        all = tt;
        fault = subst (λ (g : Option (Place × Reason)). FaultOn b.place g (with_unit start p b n (Some f)).fault) (sym e) k.1;
      }

  pub rises_on : (front : List (Said V × Place)) (skipped : ℕ) (p : Progress S V) (b : Placed) →
      RisesOn (shown front skipped p) (shown front skipped (advance rule start p b)) b.place
  rises_on front skipped p b = rises_by front skipped p b (rule p.state b) p.fault refl

  pub rises : (u : List Placed) (b : Placed) → RisesOn (stream_of (progress rule start u)) (stream_of (progress rule start (u ++ b ∷ []))) b.place
  rises u b = subst (λ (x : Progress S V). RisesOn (stream_of (progress rule start u)) (stream_of x) b.place) (sym (progress_push u b)) (rises_on [] 0 (progress rule start u) b)

  -- the same, as a machine's call leaves its parts
  pub Keeps-fed : (p : Progress S V) (live : Bool) (state : S) (b : Placed) (live' : Bool) (state' : S) (n : Next S V) → live ≡ true →
      n ≡ rule state b → live' ≡ live_after n → state' ≡ state_after start n state →
      Keeps live state p → Keeps live' state' (advance rule start p b)
  Keeps-fed p live state b live' state' n l e f g s =
      let more = Keeps-more p state b (subst (λ (x : Bool). Keeps x state p) l s) in
      let to_live : live_after (rule state b) ≡ live' = ap (λ (x : Next S V). live_after x) (sym e) ∙ sym f in
      let to_state : state_after start (rule state b) state ≡ state' = ap (λ (x : Next S V). state_after start x state) (sym e) ∙ sym g in
      subst (λ (t : S). Keeps live' t (advance rule start p b)) to_state
      (subst (λ (x : Bool). Keeps x (state_after start (rule state b) state) (advance rule start p b)) to_live more)

  pub Grows-fed : (front : List (Said V × Place)) (skipped : ℕ) (p : Progress S V) (live : Bool) (state : S) (b : Placed) (n : Next S V) → live ≡ true → n ≡ rule state b →
      Keeps live state p →
      Grows (shown front skipped p) (shown front skipped (advance rule start p b)) b.place.at (step_on b.place n)
  Grows-fed front skipped p live state b n l e s =
      subst (λ (x : Next S V). Grows (shown front skipped p) (shown front skipped (advance rule start p b)) b.place.at (step_on b.place x)) (sym e)
      (Grows-more front skipped p state b (subst (λ (x : Bool). Keeps x state p) l s))

  -- and for a reading from the first unit on
  pub list_fed : (u : List Placed) (live : Bool) (state : S) (b : Placed) (live' : Bool) (state' : S) (n : Next S V) → live ≡ true →
      n ≡ rule state b → live' ≡ live_after n → state' ≡ state_after start n state →
      Keeps live state (progress rule start u) → Keeps live' state' (progress rule start (u ++ b ∷ []))
  list_fed u live state b live' state' n l e f g s =
      subst (λ (p : Progress S V). Keeps live' state' p) (sym (progress_push u b)) (Keeps-fed (progress rule start u) live state b live' state' n l e f g s)

  pub step_fed : (u : List Placed) (live : Bool) (state : S) (b : Placed) (n : Next S V) → live ≡ true → n ≡ rule state b →
      Keeps live state (progress rule start u) →
      Grows (stream_of (progress rule start u)) (stream_of (progress rule start (u ++ b ∷ []))) b.place.at (step_on b.place n)
  step_fed u live state b n l e s =
      subst (λ (p : Progress S V). Grows (stream_of (progress rule start u)) (stream_of p) b.place.at (step_on b.place n)) (sym (progress_push u b))
      (Grows-fed [] 0 (progress rule start u) live state b n l e s)

  -- after a fault a machine takes no more, and stands for all longer lists
  pub list_dead : (u w : List Placed) (live : Bool) (state : S) → live ≡ false → Keeps live state (progress rule start u) → Keeps live state (progress rule start (u ++ w))
  list_dead u w live state l s =
      let f = some_of (progress rule start u).fault (sym s.live_is ∙ l) in
      let k = settled_by (progress rule start u) w f.0 f.1 in
      let a = from_append u w (unread start) in
      record {
        live_is = s.live_is ∙ sym (ap (λ (p : Progress S V). is_none p.fault) a ∙ ap is_none k.1);
        state_is = ap (λ (p : Progress S V). p.state) a ∙ state_stays (progress rule start u) w f.0 f.1 ∙ s.state_is;
      }
