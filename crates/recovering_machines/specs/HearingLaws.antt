-- What is given of events adds up, seen with faults or without: proofs that the `impl`s of receivers cite.
use Rattle.std.proofs.Common.{◌≡◌, ◌∙◌, ◌++◌, ◌∷◌, [], List, map, sym, ap, subst, refl}
use Rattle.std.specs.Prelude.{Result, Ok}
use Rattle.trace_values.specs.declared.fault.Reason.{Reason}
use Rattle.source_events.specs.declared.event.Event.{Event}
use Rattle.source_events.specs.declared.event.What.{What}
use Rattle.source_events.specs.declared.event.What.TheVariants.{Locked, Packet as Said, Raw, Trigger}
use Rattle.source_events.specs.declared.packet.Packet.{Packet}
use Rattle.source_events.specs.Fitting.{EventFits, PacketFits}
use Rattle.stretch_readings.specs.declared.heard.Heard.{Heard}
use Rattle.recovering_machines.specs.Hearing.{AddsUp, HeardFits, StrictFits, as_read, as_read_what}
use Rattle.recovering_machines.specs.Hearing.{as_strict, seen_by, seen_in, takes_read, takes_seen}
use Rattle.std.proofs.lemmas.List.{map-append}
use Rattle.std.proofs.lemmas.Grind.{flat_map-append}

pub seen_append : (es fs : List (Event (Heard Packet))) → seen_in (es ++ fs) ≡ seen_in es ++ seen_in fs
seen_append es fs = flat_map-append (λ (e : Event (Heard Packet)). seen_by e (as_strict e.what)) es fs

what_read : (what : What Packet) → as_strict (as_read_what what) ≡ Ok what
what_read (Locked skipped) = refl
what_read (Said packet) = refl
what_read (Raw bytes) = refl
what_read (Trigger byte) = refl

-- what is given without faults is seen as it is
pub seen_read : (es : List (Event Packet)) → seen_in (map as_read es) ≡ es
seen_read [] = refl
seen_read (e ∷ es) =
    ap (λ (w : Result (What Packet) Reason). seen_by (as_read e) w ++ seen_in (map as_read es)) (what_read e.what)
    ∙ ap (λ (l : List (Event Packet)). e ∷ l) (seen_read es)

pub read_fits : (e : Event Packet) → EventFits PacketFits e → HeardFits (as_read e)
read_fits e fits = subst (λ (w : Result (What Packet) Reason). StrictFits w e.source) (sym (what_read e.what)) fits

module _ {S : Type 0} (gets : S → List (Event Packet) → S → Type 0) where
  seen_more : ((a b c : S) (es fs : List (Event Packet)) → gets a es b → gets b fs c → gets a (es ++ fs) c) →
      (a b c : S) (es fs : List (Event (Heard Packet))) → takes_seen gets a es b → takes_seen gets b fs c →
      takes_seen gets a (es ++ fs) c
  seen_more more a b c es fs g h =
      subst (λ (l : List (Event Packet)). gets a l c) (sym (seen_append es fs))
      (more a b c (seen_in es) (seen_in fs) g h)

  pub seen_adds_up : AddsUp gets → AddsUp (takes_seen gets)
  seen_adds_up laws = record { none = laws.none; more = seen_more laws.more }

  -- what takes events of a report without faults, and is given them so, is given them
  pub took_read : (a b : S) (es : List (Event Packet)) → takes_read (takes_seen gets) a es b → gets a es b
  took_read a b es g = subst (λ (l : List (Event Packet)). gets a l b) (seen_read es) g

module _ {S : Type 0} (gets : S → List (Event (Heard Packet)) → S → Type 0) where
  read_more : ((a b c : S) (es fs : List (Event (Heard Packet))) → gets a es b → gets b fs c → gets a (es ++ fs) c) →
      (a b c : S) (es fs : List (Event Packet)) → takes_read gets a es b → takes_read gets b fs c →
      takes_read gets a (es ++ fs) c
  read_more more a b c es fs g h =
      subst (λ (l : List (Event (Heard Packet))). gets a l c) (sym (map-append as_read es fs))
      (more a b c (map as_read es) (map as_read fs) g h)

  pub read_adds_up : AddsUp gets → AddsUp (takes_read gets)
  read_adds_up laws = record { none = laws.none; more = read_more laws.more }
