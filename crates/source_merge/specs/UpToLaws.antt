-- What is given up to a first fault adds up: proofs that the `impl` of `UpTo` cites.
use Rattle.std.proofs.Common.{◌≡◌, ◌∙◌, ℕ, ◌+◌, ◌++◌, [], List, sym, subst, append-nil, refl, arith}
use Rattle.std.proofs.Common.{Option, None, Some, cond}
use Rattle.std.specs.Prelude.{◌&&◌}
use Rattle.std.specs.Option.{option_map}
use Rattle.std.proofs.lemmas.List.Sums.{sum_by-append}
use Rattle.source_events.specs.declared.event.Event.{Event}
use Rattle.source_events.specs.declared.event.Stop.{Stop}
use Rattle.source_events.specs.declared.packet.Packet.{Packet}
use Rattle.source_events.specs.declared.plan.SourceKind.{SourceKind}
use Rattle.source_events.specs.Merge.{is_of}
use Rattle.source_events.specs.Report.{is_item, stop_of}
use Rattle.source_events.specs.Tails.{items_in}
use Rattle.stretch_readings.specs.declared.heard.Heard.{Heard}
use Rattle.recovering_machines.specs.Hearing.{AddsUp}
use Rattle.recovery_engine.specs.declared.per_source.PerSource.{PerSource}
use Rattle.recovery_engine.specs.PerSource.{number_of}
use Rattle.recovery_laws.specs.Strict.{upto}
use Rattle.recovery_laws.proofs.Uptos.{after_none, after_some}
use Rattle.source_merge.specs.Counting.{Counts}
use Rattle.source_merge.specs.UpTo.{UpToGets, before, fault_after}
use Rattle.source_merge.specs.declared.up_to.UpTo.{UpTo}

abbrev Heards : Type 0
Heards = List (Event (Heard Packet))

-- some events and then more, after what was kept of them
joined : (s t : Option Stop) (es fs : Heards) → option_map stop_of t ≡ fault_after s es →
    (before s (es ++ fs) ≡ before s es ++ before t fs) × (fault_after s (es ++ fs) ≡ fault_after t fs)
joined None None es fs e = after_none es fs (sym e)
joined None (Some stop) es fs e =
    let k = after_some es fs (stop_of stop) (sym e) in
    (k.0 ∙ sym (append-nil (upto es)), k.1)
joined (Some stop) None es fs e = cc
joined (Some stop) (Some more) es fs e = (refl, sym e)

-- items of events, and of more after them
pub items_append : (x : ℕ) (es fs : List (Event Packet)) → items_in x (es ++ fs) ≡ items_in x es + items_in x fs
items_append x es fs =
    sum_by-append (λ (e : Event Packet). cond (is_of (Some x) e.source && is_item e.what) 1 0) es fs

pub counts_more : (a b c : PerSource) (es fs : List (Event Packet)) → Counts a b es → Counts b c fs →
    Counts a c (es ++ fs)
counts_more a b c es fs g h = λ x.
    let k = g x in let m = h x in let n = items_append x es fs in omega (arith, k, m, n)

kept : (s : Option Stop) → option_map stop_of s ≡ fault_after s []
kept None = refl
kept (Some stop) = refl

nothing : (s : Option Stop) → before s [] ≡ []
nothing None = refl
nothing (Some stop) = refl

counts_none : (a : PerSource) → Counts a a []
counts_none a = λ x. (let e : number_of a x ≡ number_of a x + 0 = omega arith in e)

module _ {R S : Type 0} (own : (R × S) → List (Event Packet) → (R × S) → Type 0) (room : R × S → ℕ) where
  gets_none : ((s : R × S) → own s [] s) → (s : UpTo R × S) → UpToGets own room s [] s
  gets_none none s = record {
    to_same = refl;
    count_same = refl;
    stop_same = refl;
    receiver = subst (λ (l : List (Event Packet)). own (s.0.receiver.now, s.1) l (s.0.receiver.now, s.1))
        (sym (nothing s.0.stop.now)) (none (s.0.receiver.now, s.1));
    stop = kept s.0.stop.now;
    counted = subst (λ (l : List (Event Packet)). Counts s.0.items.now s.0.items.now l) (sym (nothing s.0.stop.now))
        (counts_none s.0.items.now);
    spent = omega arith;
    space = omega arith;
  }

  gets_more : ((a b c : R × S) (es fs : List (Event Packet)) → own a es b → own b fs c → own a (es ++ fs) c) →
      (a b c : UpTo R × S) (es fs : Heards) → UpToGets own room a es b → UpToGets own room b fs c →
      UpToGets own room a (es ++ fs) c
  gets_more more a b c es fs g h =
      let k = joined a.0.stop.now b.0.stop.now es fs g.stop in
      record {
        to_same = h.to_same ∙ g.to_same;
        count_same = h.count_same ∙ g.count_same;
        stop_same = h.stop_same ∙ g.stop_same;
        receiver = subst (λ (l : List (Event Packet)). own (a.0.receiver.now, a.1) l (c.0.receiver.now, c.1))
            (sym k.0) (more (a.0.receiver.now, a.1) (b.0.receiver.now, b.1) (c.0.receiver.now, c.1)
            (before a.0.stop.now es) (before b.0.stop.now fs) g.receiver h.receiver);
        stop = h.stop ∙ sym k.1;
        counted = subst (λ (l : List (Event Packet)). Counts a.0.items.now c.0.items.now l) (sym k.0)
            (counts_more a.0.items.now b.0.items.now c.0.items.now (before a.0.stop.now es) (before b.0.stop.now fs)
            g.counted h.counted);
        spent = (let x = g.spent in let y = h.spent in omega (arith, x, y));
        space = (let x = g.space in let y = h.space in omega (arith, x, y));
      }

  pub adds_up : AddsUp own → AddsUp (UpToGets own room)
  adds_up laws = record { none = gets_none laws.none; more = gets_more laws.more }

  pub takes_on : (takes : R → ℕ → SourceKind → Type 0) →
      ((a b : R × S) (es : List (Event Packet)) (source : ℕ) (kind : SourceKind) →
      own a es b → takes a.0 source kind → takes b.0 source kind) →
      (a b : UpTo R × S) (es : Heards) (source : ℕ) (kind : SourceKind) → UpToGets own room a es b →
      takes a.0.receiver.now source kind → takes b.0.receiver.now source kind
  takes_on takes on a b es source kind g t =
      on (a.0.receiver.now, a.1) (b.0.receiver.now, b.1) (before a.0.stop.now es) source kind g.receiver t
