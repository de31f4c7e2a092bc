-- What is given of units before a fault is at places before it.
use Rattle.std.proofs.Common.{◌≡◌, ◌⊎◌, inl, inr, ℕ, ◌+◌, ◌<◌, List, [], ◌∷◌, ◌++◌, refl, sym, ◌∙◌, ap, subst}
use Rattle.std.proofs.Common.{arith, append_assoc, append-nil, Option, None, Some, Bool, true, false, cond}
use Rattle.std.specs.Prelude.{is_none, ◌==◌, ◌&&◌, ◌||◌, nat_lt}
use Rattle.std.proofs.lemmas.Bool.Decides.{nat_tests}
use Rattle.trace_values.specs.declared.cell.Cell.{Cell}
use Rattle.trace_values.specs.declared.fault.Reason.{Reason}
use Rattle.trace_values.specs.Placed.{Place, Placed}
use Rattle.trace_values.specs.Stream.{Said, Stream}
use Rattle.trace_values.specs.Walk.{by_unit}
use Rattle.trace_values.proofs.Decorating as decorating
use Rattle.trace_values.proofs.Falls as falls
use Rattle.trace_values.proofs.OneUnit.{AllOn, FaultOn, RisesOn}
use Rattle.itm_grammar.specs.declared.packet.ItmPacket.TheVariants.{Sync}
use Rattle.itm_grammar.specs.declared.partial.Partial.TheVariants.{Header}
use Rattle.itm_grammar.specs.Rule.{rule}
use Rattle.itm_codec.specs.Reading.{pattern}
use Rattle.stp_grammar.specs.declared.packet.Order.{Order}
use Rattle.stp_grammar.specs.declared.packet.StpPacket.TheVariants.{Async}
use Rattle.stp_grammar.specs.declared.partial.Partial.TheVariants.{Start}
use Rattle.stp_grammar.specs.Attribution.{attribute}
use Rattle.stp_grammar.specs.Rule.{rule as stp_rule}
use Rattle.stp_codec.specs.Reading.{pattern as stp_pattern, packets_in as stp_packets_in}
use Rattle.source_events.specs.declared.event.Event.{Event}
use Rattle.source_events.specs.declared.packet.Packet.{Packet}
use Rattle.source_events.specs.declared.packet.Packet.TheVariants.{Itm as ItmOf, Stp as StpOf}
use Rattle.source_events.specs.declared.plan.SourceKind.{SourceKind}
use Rattle.source_events.specs.declared.plan.SourceKind.TheVariants.{Itm, Stp}
use Rattle.source_events.specs.Merge.{told, cut}
use Rattle.source_events.specs.Packets.{given_as}
use Rattle.source_events.specs.Report.{lifted, what_of}
use Rattle.source_events.specs.Runs.{RisesFrom, placed_run}
use Rattle.source_machine.specs.Units.{reads_by}
use Rattle.recovery_report.proofs.Rises.{rises}
use Rattle.recovery_report.proofs.Sounds.{sources_settle}
use Rattle.recovery_laws.proofs.Lists.{units}

module _ (order : Order) where
  -- a unit with which there is a fault gives nothing
  gives_none : (kind : SourceKind) (h : Bool) (u : List Placed) (b : Placed) →
      is_none (reads_by order kind h (u ++ b ∷ [])).fault ≡ false →
      (reads_by order kind h (u ++ b ∷ [])).given ≡ (reads_by order kind h u).given
  gives_none Itm h u b k = ap (given_as ItmOf) (falls.holds pattern Sync (by_unit rule) Header h u b k).given
  gives_none Stp h u b k = ap (given_as StpOf)
      (decorating.holds attribute [] 1 (stp_packets_in order h u) (stp_packets_in order h (u ++ b ∷ []))
      (falls.holds stp_pattern Async (by_unit (stp_rule order)) Start h u b k)).given

-- units whose places rise
abbrev pub Before : Place → Place → Type 0
Before p q = (p.at < q.at) ⊎ ((p.at ≡ q.at) × (p.half < q.half))

abbrev pub AllAfter : Place → List Placed → Type 0
AllAfter p [] = Unit {0}
AllAfter p (b ∷ u) = Before p b.place × AllAfter p u

abbrev pub UnitsRise : List Placed → Type 0
UnitsRise [] = Unit {0}
UnitsRise (b ∷ u) = AllAfter b.place u × UnitsRise u

-- those of a run
all_after : (kind : SourceKind) (p : Place) (n : ℕ) (cells : List Cell) → p.at < n → RisesFrom n cells →
    AllAfter p (units kind (placed_run cells))
all_after Itm p n [] l r = tt
all_after Itm p n (c ∷ cells) l r =
    (inl (let k = r.0 in omega arith), all_after Itm p (c.at + 1) cells (let k = r.0 in omega arith) r.1)
all_after Stp p n [] l r = tt
all_after Stp p n (c ∷ cells) l r = (
  inl (let k = r.0 in omega arith),
  (inl (let k = r.0 in omega arith), all_after Stp p (c.at + 1) cells (let k = r.0 in omega arith) r.1),
)

pub run_rises : (kind : SourceKind) (n : ℕ) (cells : List Cell) → RisesFrom n cells →
    UnitsRise (units kind (placed_run cells))
run_rises Itm n [] r = tt
run_rises Itm n (c ∷ cells) r = (
  all_after Itm (record { at = c.at; half = 0 }) (c.at + 1) cells (omega arith) r.1,
  run_rises Itm (c.at + 1) cells r.1,
)
run_rises Stp n [] r = tt
run_rises Stp n (c ∷ cells) r = (
  (
    inr (refl, (let z : 0 < 1 = omega arith in z)),
    all_after Stp (record { at = c.at; half = 0 }) (c.at + 1) cells (omega arith) r.1,
  ),
  (
    all_after Stp (record { at = c.at; half = 1 }) (c.at + 1) cells (omega arith) r.1,
    run_rises Stp (c.at + 1) cells r.1,
  ),
)

abbrev pub AllBefore : {W : Type 0} → Place → List (W × Place) → Type 0
AllBefore q [] = Unit {0}
AllBefore q (x ∷ xs) = Before x.1 q × AllBefore q xs

on_before : {W : Type 0} (p q : Place) (xs : List (W × Place)) → AllOn p xs → Before p q → AllBefore q xs
on_before p q [] a b = tt
on_before p q (x ∷ xs) a b = (subst (λ (r : Place). Before r q) (sym a.0) b, on_before p q xs a.1 b)

before_append : {W : Type 0} (q : Place) (xs ys : List (W × Place)) → AllBefore q xs → AllBefore q ys →
    AllBefore q (xs ++ ys)
before_append q [] ys a b = b
before_append q (x ∷ xs) ys a b = (a.0, before_append q xs ys a.1 b)

-- What these units give up to a fault among them is before the fault.
pub record IsEarly (old new : Stream Packet) (f : Place × Reason) (w : List Placed) : Type 0 where
  pub more : List (Said Packet × Place)
  pub given : new.given ≡ old.given ++ more
  pub before : AllBefore f.0 more
  pub among : (p : Place) → AllAfter p w → Before p f.0

module _ (order : Order) (kind : SourceKind) (h : Bool) where
  abbrev read : List Placed → Stream Packet
  read u = reads_by order kind h u

  pub early : (w n : List Placed) (f : Place × Reason) → (read n).fault ≡ None →
      (read (n ++ w)).fault ≡ Some f → UnitsRise w → IsEarly (read n) (read (n ++ w)) f w
  early [] n f e k a = (let q : None ≡ Some f = sym e ∙ ap (λ l. (read l).fault) (sym (append-nil n)) ∙ k in cc)
  early (b ∷ w) n f e k a =
      by (read (n ++ b ∷ [])).fault refl (λ x. early w (n ++ b ∷ []) f x (ap (λ l. (read l).fault) same ∙ k) a.1) where
        same : (n ++ b ∷ []) ++ w ≡ n ++ (b ∷ w)
        same = append_assoc n (b ∷ []) w

        on : RisesOn (read n) (read (n ++ b ∷ [])) b.place
        on = rises order kind h n b

        by : (o : Option (Place × Reason)) → (read (n ++ b ∷ [])).fault ≡ o →
            ((read (n ++ b ∷ [])).fault ≡ None → IsEarly (read (n ++ b ∷ [])) (read ((n ++ b ∷ []) ++ w)) f w) →
            IsEarly (read n) (read (n ++ (b ∷ w))) f (b ∷ w)
        by None x more =
            let r = more x in
            record {
              more = on.more ++ r.more;
              given =
                  ap (λ l. (read l).given) (sym same) ∙ r.given ∙ ap (λ l. l ++ r.more) on.given
                  ∙ append_assoc (read n).given on.more r.more;
              before =
                  before_append f.0 on.more r.more
                  (on_before b.place f.0 on.more on.all (r.among b.place a.0)) r.before;
              among = λ p q. r.among p q.1;
            }
        by (Some g) x more =
            let t = ap is_none x in
            let s = sources_settle order kind h (n ++ b ∷ []) w t in
            let q : Some g ≡ Some f = sym x ∙ sym s.fault ∙ ap (λ l. (read l).fault) same ∙ k in
            let i : g ≡ f = cc in
            let here : g.0 ≡ b.place = subst (λ (o : Option (Place × Reason)). FaultOn b.place o (Some g)) e
            (subst (λ (o : Option (Place × Reason)). FaultOn b.place (read n).fault o) x on.fault) in
            record {
              more = [];
              given =
                  ap (λ l. (read l).given) (sym same) ∙ s.given ∙ gives_none order kind h n b t
                  ∙ sym (append-nil (read n).given);
              before = tt;
              among = λ p z. subst (λ (q : Place). Before p q) (sym here ∙ ap (λ (y : Place × Reason). y.0) i) z.0;
            }

-- events before a fault are not cut
is_before_it : (a h b i : ℕ) → (a < b) ⊎ ((a ≡ b) × (h < i)) → (nat_lt a b || (a == b && nat_lt h i)) ≡ true
is_before_it a h b i (inl l) = grind (arith, nat_tests)
is_before_it a h b i (inr l) = (let e = l.0 in let k = l.1 in grind (arith, nat_tests))

pub cut_none : {F : Type 0} (f : Place × F) (source : Option ℕ) (xs : List (Said Packet × Place)) → AllBefore f.0 xs →
    cut (Some f) (told source (lifted xs)) ≡ told source (lifted xs)
cut_none f source [] a = refl
cut_none f source (x ∷ xs) a =
    let e : Event Packet = record { at = x.1.at; half = x.1.half; source = source; what = what_of x.0 } in
    ap (λ (t : Bool). cond t (e ∷ cut (Some f) (told source (lifted xs))) (cut (Some f) (told source (lifted xs))))
    (is_before_it x.1.at x.1.half f.0.at f.0.half a.0)
    ∙ ap (λ l. e ∷ l) (cut_none f source xs a.1)
