-- What the rest of a list reads, in the words of the grammar.
use Rattle.std.proofs.Common.{◌≡◌, ℕ, ◌≤◌, List, [], ◌∷◌, ◌++◌, length, sym, ◌∙◌, ap, subst, inl, inr, arith, append_assoc, append-nil, false, Option, None}
use Rattle.resync_rules.specs.Names.{Reason, Next, Pattern, Place, Placed, units_of, Reading, Splits, IsReading}
use Rattle.resync_rules.specs.Names.{Progress, progress, reading, IsNowhere, pattern_of, Found}
use Rattle.trace_values.proofs.Readings as readings
use Rattle.trace_values.proofs.Standings.{from_append}
use Rattle.resync_rules.specs.Fronts.{EndsAt, ReadsOn, IsRestInWords}
use Rattle.resync_rules.specs.Syncing.{Syncs}
use Rattle.resync_rules.proofs.Continuing as continuing
use Rattle.resync_rules.proofs.Syncing.{units_append, units_length, splits_last, ends_within}
use Rattle.resync_rules.proofs.Locking as locking

module _ {S V : Type 0} (Spells : V → List Placed → Type 0) (why : List Placed → Reason) (rule : S → Placed → Next S V) (start : S) (p : Pattern) (v : V)
    (k : Syncs Spells why rule start p v) where
  abbrev prog : List Placed → Progress S V
  prog u = progress rule start u

  abbrev with_before : List (V × Place) → Progress S V → Progress S V
  with_before = continuing.with_before rule start

  -- what is found in a list read from its first unit on
  same_found : (n m : ℕ) (a b : Place) (q r : Progress S V) → locking.at_found Spells why rule start p v k n a q ≡ locking.at_found Spells why rule start p v k m b r → q ≡ r
  same_found n m a b q r e = ap (λ f. f.reading) (inside n m a b q r e) where
    inside : (n m : ℕ) (a b : Place) (q r : Progress S V) → locking.at_found Spells why rule start p v k n a q ≡ locking.at_found Spells why rule start p v k m b r →
        (let x : Found S V = record { skipped = n; place = a; reading = q } in x ≡ record { skipped = m; place = b; reading = r })
    inside n m a b q r e = cc

  -- a v that ends there has the pattern there
  none_ends : (lost rest : List Placed) (items : List (V × Place)) → IsNowhere (pattern_of p) (units_of rest) → (front more : List Placed) → rest ≡ front ++ more → length (pattern_of p) ≤ length front → EndsAt Spells v items (lost ++ front) → ⊥
  none_ends lost rest items none front more e long a =
      let z = splits_last Spells a.early (v, a.place) (lost ++ front) a.spelled in
      let c = k.closes z.1 z.3 in
      let ends : units_of lost ++ units_of front ≡ (units_of z.0 ++ c.0) ++ pattern_of p =
      sym (units_append lost front) ∙ ap units_of z.2 ∙ units_append z.0 z.1 ∙ ap (λ (l : List ℕ). units_of z.0 ++ l) c.1 ∙ sym (append_assoc (units_of z.0) c.0 (pattern_of p)) in
      let s = ends_within (units_of lost) (units_of front) (units_of z.0 ++ c.0) (pattern_of p) ends (let n = units_length front in omega arith) in
      none s.0 (units_of more, ap units_of e ∙ units_append front more ∙ ap (λ (l : List ℕ). l ++ units_of more) s.1 ∙ append_assoc s.0 (pattern_of p) (units_of more))

  pub in_words : IsRestInWords Spells why (pattern_of p) v
  in_words lost rest whole is f = elim (locking.locks Spells why rule start p v k false lost rest sound) [
    | inr n ↦ inl (n.0, none_ends lost rest whole.items n.0)
    | inl l ↦ inr (on l)
  ] where
    same : whole ≡ reading rule start (lost ++ rest)
    same = readings.only_reading Spells why rule start k.decides (lost ++ rest) whole is

    sound : (prog (lost ++ rest)).fault ≡ None
    sound = sym (ap (λ (r : Reading V). r.fault) same) ∙ f

    on : locking.IsLock Spells why rule start p v k false lost rest → ReadsOn Spells why (pattern_of p) v lost rest whole
    on l =
        let all : prog (lost ++ rest) ≡ with_before l.early (prog (l.sync ++ l.after)) =
        ap (λ (w : List Placed). prog (lost ++ w)) l.parts ∙ same_found 0 l.skipped _ l.whole_place _ _ (l.whole l.after) in
        let front : prog (lost ++ (l.before ++ l.sync)) ≡ with_before l.early (prog l.sync) =
        ap (λ (w : List Placed). prog (lost ++ w)) (sym (append-nil (l.before ++ l.sync))) ∙ same_found 0 l.skipped _ l.whole_place _ _ (l.whole [])
        ∙ ap (λ (w : List Placed). with_before l.early (prog w)) (append-nil l.sync) in
        let more = continuing.items_from rule start l.after (prog l.sync) in
        let items : (prog (l.sync ++ l.after)).items ≡ (v, l.place) ∷ more.0 =
        ap (λ (q : Progress S V). q.items) (from_append rule start l.sync l.after (continuing.ended rule start [])) ∙ more.1 ∙ ap (λ (q : Progress S V). q.items ++ more.0) l.alone in
        let none : (prog (l.sync ++ l.after)).fault ≡ None = sym (ap (λ (q : Progress S V). q.fault) all) ∙ sound in
        let tail : (prog (l.sync ++ l.after)).rest ≡ whole.rest = sym (ap (λ (r : Reading V). r.rest) same ∙ ap (λ (q : Progress S V). q.rest) all) in
        record {
          before = l.before;
          sync = l.sync;
          more = l.after;
          parts = l.parts ∙ append_assoc l.before l.sync l.after;
          sync_is = l.pattern;
          first = l.first;
          early = l.early;
          place = l.place;
          later = more.0;
          whole_items = ap (λ (r : Reading V). r.items) same ∙ ap (λ (q : Progress S V). q.items) all ∙ ap (λ (z : List (V × Place)). l.early ++ z) items;
          spelled = subst (λ (q : Progress S V). Splits Spells q.items q.rest (lost ++ (l.before ++ l.sync))) (front ∙ ap (with_before l.early) l.alone)
              (readings.reading_is Spells why rule start k.decides (lost ++ (l.before ++ l.sync))).splits;
          rest_reads = subst (λ (r : Reading V). IsReading Spells why (l.sync ++ l.after) r)
              (ap (λ (z : List (V × Place)). let r : Reading V = record { items = z; rest = (prog (l.sync ++ l.after)).rest; fault = (prog (l.sync ++ l.after)).fault } in r) items
              ∙ ap (λ (z : List Placed). let r : Reading V = record { items = (v, l.place) ∷ more.0; rest = z; fault = (prog (l.sync ++ l.after)).fault } in r) tail
              ∙ ap (λ (z : Option (Place × Reason)). let r : Reading V = record { items = (v, l.place) ∷ more.0; rest = whole.rest; fault = z } in r) none)
              (readings.reading_is Spells why rule start k.decides (l.sync ++ l.after));
        }
