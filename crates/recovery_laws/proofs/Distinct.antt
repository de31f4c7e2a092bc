-- Mapped sources of which no two have one ID, and what one more run is to them.
use Rattle.std.proofs.Common.{◌≡◌, ◌≢◌, ℕ, List, [], ◌∷◌, ◌++◌, map, refl, sym, ◌∙◌, ap, Option, None, Some, Bool, true}
use Rattle.std.proofs.Common.{false}
use Rattle.std.specs.Prelude.{◌==◌, ◌&&◌, ◌||◌, nat_le, not}
use Rattle.std.specs.List.{list_any}
use Rattle.std.proofs.lemmas.Bool.{and_parts, eqb-false, not-true}
use Rattle.std.proofs.lemmas.List.{map-append}
use Rattle.trace_values.specs.declared.cell.Cell.{Cell}
use Rattle.trace_values.specs.Placed.{Place, Placed}
use Rattle.trace_values.specs.Stream.{Said}
use Rattle.frame_grammar.specs.Reading.{is_source}
use Rattle.source_events.specs.declared.packet.Packet.{Packet}
use Rattle.source_events.specs.declared.plan.Plan.{Plan}
use Rattle.source_events.specs.declared.plan.SourceKind.{SourceKind}
use Rattle.source_events.specs.declared.plan.SourceKind.TheVariants.{Itm, Stp}
use Rattle.source_events.specs.Merge.{grown, of_sources, told}
use Rattle.source_events.specs.Plan.{are_sound, is_sound, mapped_ids, sources_by, stream_of}
use Rattle.source_events.specs.Report.{AreLawful, IsLawful, Mapped, events, lifted, raw_events, raws}
use Rattle.source_events.specs.Runs.{id_of, list_of, placed_run}
use Rattle.recovery_laws.specs.Distinct.{AreDistinct, HasNot}
use Rattle.source_events.proofs.Least.{AreSound}
use Rattle.source_events.proofs.Merges.{test_same, test_other, grown_by}
use Rattle.source_events.proofs.Family.{list_other, raws_own, events_other, own_push}

other_source : (x y : ℕ) (run : List Cell) → id_of run ≡ Some x → x ≢ y → is_source y (id_of run) ≡ false
other_source x y run e n = ap (is_source y) e ∙ test_other x y n

module _ {V : Type 0} where
  -- the events of a source that stands after others
  pub events_at : (a : List (Mapped V)) (s : Mapped V) (b : List (Mapped V)) (x : ℕ) (runs : List (List Cell)) → HasNot x a → events (a ++ (s ∷ b)) x runs ≡ events (s ∷ b) x runs
  events_at [] s b x runs h = refl
  events_at (t ∷ a) s b x runs h = events_other t (a ++ (s ∷ b)) x runs h.0 ∙ events_at a s b x runs h.1

  pub events_raw : (ss : List (Mapped V)) (x : ℕ) (runs : List (List Cell)) → HasNot x ss → events ss x runs ≡ raws x runs
  events_raw [] x runs h = refl
  events_raw (s ∷ ss) x runs h = events_other s ss x runs h.0 ∙ events_raw ss x runs h.1

  -- distinct sources
  pub not_before : (a : List (Mapped V)) (s : Mapped V) (b : List (Mapped V)) → AreDistinct (a ++ (s ∷ b)) → HasNot s.id a
  not_before [] s b d = tt
  not_before (t ∷ a) s b d = ((λ e. not_in (a) s b d.0 (sym e)), not_before a s b d.1) where
    not_in : (a : List (Mapped V)) (s : Mapped V) (b : List (Mapped V)) → HasNot t.id (a ++ (s ∷ b)) → t.id ≢ s.id
    not_in [] s b h = h.0
    not_in (u ∷ a) s b h = not_in a s b h.1

  pub not_behind : (a : List (Mapped V)) (s : Mapped V) (b : List (Mapped V)) → AreDistinct (a ++ (s ∷ b)) → HasNot s.id b
  not_behind [] s b d = d.0
  not_behind (t ∷ a) s b d = not_behind a s b d.1

  -- what a run of a mapped source adds
  pub grown_own : (a : List (Mapped V)) (s : Mapped V) (b : List (Mapped V)) (runs : List (List Cell)) (run : List Cell) (given : List (Said V × Place)) → HasNot s.id a → id_of run ≡ Some s.id →
      (s.stream (list_of s.id runs ++ placed_run run)).given ≡ (s.stream (list_of s.id runs)).given ++ given → grown (of_sources (events (a ++ (s ∷ b)))) runs run (id_of run) ≡ told (Some s.id) (lifted given)
  grown_own a s b runs run given h e g =
      ap (λ (o : Option ℕ). grown (of_sources (events (a ++ (s ∷ b)))) runs run o) e
      ∙ grown_by (of_sources (events (a ++ (s ∷ b)))) runs run (Some s.id) (lifted given)
      (events_at a s b s.id (runs ++ run ∷ []) h ∙ own_push s b s.id runs run given refl (ap (is_source s.id) e ∙ test_same s.id s.id refl) g ∙ ap (λ l. l ++ lifted given) (sym (events_at a s b s.id runs h)))

  -- and what one of another source does
  pub grown_raw : (ss : List (Mapped V)) (runs : List (List Cell)) (run : List Cell) (x : ℕ) → HasNot x ss → id_of run ≡ Some x → grown (of_sources (events ss)) runs run (id_of run) ≡ told (Some x) (raw_events x run)
  grown_raw ss runs run x h e =
      ap (λ (o : Option ℕ). grown (of_sources (events ss)) runs run o) e
      ∙ grown_by (of_sources (events ss)) runs run (Some x) (raw_events x run)
      (events_raw ss x (runs ++ run ∷ []) h ∙ raws_own x runs run (ap (is_source x) e ∙ test_same x x refl) ∙ ap (λ l. l ++ raw_events x run) (sym (events_raw ss x runs h)))

  pub grown_none : (ss : List (Mapped V)) (runs : List (List Cell)) (run : List Cell) → id_of run ≡ None → grown (of_sources (events ss)) runs run (id_of run) ≡ []
  grown_none ss runs run e = ap (λ (o : Option ℕ). grown (of_sources (events ss)) runs run o) e

  -- a run of another source, or of none, changes no source's list
  pub sound_other : (ss : List (Mapped V)) (runs : List (List Cell)) (run : List Cell) (x : ℕ) → HasNot x ss → id_of run ≡ Some x → AreSound ss runs → AreSound ss (runs ++ run ∷ [])
  sound_other [] runs run x h e a = tt
  sound_other (s ∷ ss) runs run x h e a = (ap (λ (l : List Placed). (s.stream l).fault) (list_other s.id runs run (other_source x s.id run e h.0)) ∙ a.0, sound_other ss runs run x h.1 e a.1)

  pub sound_front : (a : List (Mapped V)) (s : Mapped V) (b : List (Mapped V)) (runs : List (List Cell)) → AreSound (a ++ (s ∷ b)) runs → AreSound a runs
  sound_front [] s b runs h = tt
  sound_front (t ∷ a) s b runs h = (h.0, sound_front a s b runs h.1)

  pub sound_back : (a : List (Mapped V)) (s : Mapped V) (b : List (Mapped V)) (runs : List (List Cell)) → AreSound (a ++ (s ∷ b)) runs → AreSound (s ∷ b) runs
  sound_back [] s b runs h = h
  sound_back (t ∷ a) s b runs h = sound_back a s b runs h.1

  pub lawful_at : (a : List (Mapped V)) (s : Mapped V) (b : List (Mapped V)) → AreLawful (a ++ (s ∷ b)) → AreLawful a × IsLawful s.stream × AreLawful b
  lawful_at [] s b h = (tt, h.0, h.1)
  lawful_at (t ∷ a) s b h = let k = lawful_at a s b h.1 in ((h.0, k.0), k.1, k.2)

-- the IDs of the mapped sources
ids_of : List (Mapped Packet) → List ℕ
ids_of ss = map (λ (s : Mapped Packet). s.id) ss

ids_by : (plan : Plan) (pairs : List (ℕ × SourceKind)) →
    ids_of (map (λ (s : ℕ × SourceKind). record { id = s.0; stream = stream_of plan s.1 }) pairs) ≡ map (λ (s : ℕ × SourceKind). s.0) pairs
unfolding ids_of
ids_by plan [] = refl
ids_by plan (s ∷ pairs) = ap (λ (l : List ℕ). s.0 ∷ l) (ids_by plan pairs)

ids_with : (kind : SourceKind) (ids : List ℕ) → map (λ (s : ℕ × SourceKind). s.0) (map (λ (x : ℕ). (x, kind)) ids) ≡ ids
ids_with kind [] = refl
ids_with kind (x ∷ ids) = ap (λ (l : List ℕ). x ∷ l) (ids_with kind ids)

ids_are : (plan : Plan) → ids_of (sources_by plan) ≡ plan.itm ++ plan.stp
ids_are plan =
    ids_by plan (mapped_ids plan)
    ∙ map-append (λ (s : ℕ × SourceKind). s.0) (map (λ (x : ℕ). (x, Itm)) plan.itm) (map (λ (x : ℕ). (x, Stp)) plan.stp)
    ∙ ap (λ (l : List ℕ). l ++ map (λ (s : ℕ × SourceKind). s.0) (map (λ (x : ℕ). (x, Stp)) plan.stp)) (ids_with Itm plan.itm)
    ∙ ap (λ (l : List ℕ). plan.itm ++ l) (ids_with Stp plan.stp)

has_not : (x : ℕ) (ss : List (Mapped Packet)) → list_any (λ (y : ℕ). y == x) (ids_of ss) ≡ false → HasNot x ss
unfolding ids_of
has_not x [] e = tt
has_not x (s ∷ ss) e = by (s.id == x) refl e (λ h. has_not x ss h) where
  by : (t : Bool) → (s.id == x) ≡ t → (t || list_any (λ (y : ℕ). y == x) (ids_of ss)) ≡ false →
      (list_any (λ (y : ℕ). y == x) (ids_of ss) ≡ false → HasNot x ss) → HasNot x (s ∷ ss)
  by true k h more = cc
  by false k h more = ((λ q. eqb-false s.id x k (sym q)), more h)

distinct_are : (ss : List (Mapped Packet)) → are_sound (ids_of ss) ≡ true → AreDistinct ss
unfolding ids_of
distinct_are [] e = tt
distinct_are (s ∷ ss) e =
    let not_in = not (list_any (λ (y : ℕ). y == s.id) (ids_of ss)) in
    let a = and_parts (nat_le 1 s.id && nat_le s.id 111 && not_in) (are_sound (ids_of ss)) e in
    let b = and_parts (nat_le 1 s.id && nat_le s.id 111) not_in a.0 in
    (has_not s.id ss (not-true _ b.1), distinct_are ss a.1)

pub distinct : (plan : Plan) → is_sound plan ≡ true → AreDistinct (sources_by plan)
distinct plan e = distinct_are (sources_by plan) (ap are_sound (ids_are plan) ∙ e)
