-- What an event tells, other than a notice, is of a kind, and what lists of choices hold for.
use Rattle.std.proofs.Common.{◌≡◌, true, false, ◌||◌, List, [], ◌∷◌, ◌++◌, ℕ, Option, refl, ◌∙◌, ap, arith}
use Rattle.std.proofs.Math.Bool.{or-false}
use Rattle.std.proofs.lemmas.List.Folds.{list_any-append}
use Rattle.itm_grammar.specs.declared.packet.ItmPacket.{ItmPacket}
use Rattle.itm_grammar.specs.declared.packet.ItmPacket.TheVariants.{Sync, Overflow, Software, Hardware, Local, GlobalFirst, GlobalSecond, Extension}
use Rattle.source_events.specs.declared.event.Event.{Event}
use Rattle.source_events.specs.declared.event.What.{What}
use Rattle.source_events.specs.declared.event.What.TheVariants.{Locked, Packet as Given, Raw as Bytes, Trigger as TriggerByte}
use Rattle.source_events.specs.declared.packet.Packet.{Packet}
use Rattle.source_events.specs.declared.packet.Packet.TheVariants.{Itm as ItmKind, Stp as StpKind}
use Rattle.source_events.specs.Report.{is_item}
use Rattle.item_tap.specs.declared.choice.Choice.{Choice}
use Rattle.item_tap.specs.declared.choice.Choice.TheVariants.{OfKind, Source, Port, Comparator, Time}
use Rattle.item_tap.specs.declared.choice.Kind.{Kind}
use Rattle.item_tap.specs.declared.choice.Kind.TheVariants.{Itm, Dwt, Stp, Raw, Trigger}
use Rattle.item_tap.specs.Choices.{content_of, is_of_kind, holds_in, holds, holds_any}

pub packet_has_kind : (packet : ItmPacket) → (kind : Kind) × (is_of_kind kind (content_of (Given (ItmKind packet))) ≡ true)
packet_has_kind Sync = (Itm, refl)
packet_has_kind Overflow = (Itm, refl)
packet_has_kind (Software port size value) = (Itm, refl)
packet_has_kind (Hardware disc size value) = (Dwt, refl)
packet_has_kind (Local lateness delta) = (Itm, refl)
packet_has_kind (GlobalFirst len value change wrap) = (Itm, refl)
packet_has_kind (GlobalSecond wide value) = (Itm, refl)
packet_has_kind (Extension dwt value) = (Itm, refl)

pub has_kind : (what : What Packet) → is_item what ≡ true → (kind : Kind) × (is_of_kind kind (content_of what) ≡ true)
has_kind (Locked skipped) item = absurd (grind arith)
has_kind (Given (ItmKind packet)) item = packet_has_kind packet
has_kind (Given (StpKind stp)) item = (Stp, refl)
has_kind (Bytes bytes) item = (Raw, refl)
has_kind (TriggerByte byte) item = (Trigger, refl)

-- no choice holds for a notice
notice_in : (choice : Choice) (source : Option ℕ) (what : What Packet) → is_item what ≡ false →
    holds_in choice source (content_of what) ≡ false
notice_in (OfKind Itm) source (Locked skipped) h = refl
notice_in (OfKind Dwt) source (Locked skipped) h = refl
notice_in (OfKind Stp) source (Locked skipped) h = refl
notice_in (OfKind Raw) source (Locked skipped) h = refl
notice_in (OfKind Trigger) source (Locked skipped) h = refl
notice_in (Source x) source (Locked skipped) h = refl
notice_in (Port n) source (Locked skipped) h = refl
notice_in (Comparator n) source (Locked skipped) h = refl
notice_in Time source (Locked skipped) h = refl
notice_in choice source (Given packet) h = absurd (grind arith)
notice_in choice source (Bytes bytes) h = absurd (grind arith)
notice_in choice source (TriggerByte byte) h = absurd (grind arith)

pub none_for_notice : (choice : Choice) (e : Event Packet) → is_item e.what ≡ false → holds choice e ≡ false
none_for_notice choice e h = notice_in choice e.source e.what h

pub none_of_list : (choices : List Choice) (e : Event Packet) → is_item e.what ≡ false → holds_any choices e ≡ false
none_of_list [] e h = refl
none_of_list (choice ∷ choices) e h =
    ap (λ b. b || holds_any choices e) (none_for_notice choice e h) ∙ none_of_list choices e h

-- a list of one choice, and one more choice
pub of_one : (choice : Choice) (e : Event Packet) → holds_any (choice ∷ []) e ≡ holds choice e
of_one choice e = or-false (holds choice e)

pub of_more : (choices : List Choice) (choice : Choice) (e : Event Packet) →
    holds_any (choices ++ choice ∷ []) e ≡ (holds_any choices e || holds choice e)
of_more choices choice e =
    list_any-append (λ (c : Choice). holds c e) choices (choice ∷ [])
    ∙ ap (λ b. holds_any choices e || b) (of_one choice e)
