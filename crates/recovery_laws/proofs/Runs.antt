-- The report over runs is the strict one up to its first fault.
use Rattle.std.proofs.Common.{◌≡◌, ℕ, ◌+◌, ◌≤◌, List, [], ◌∷◌, ◌++◌, map, refl, sym, ◌∙◌, ap, subst, arith}
use Rattle.std.proofs.Common.{append_assoc, append-nil, Option, None, Some, true, false}
use Rattle.std.proofs.lemmas.List.{map-append}
use Rattle.trace_values.specs.declared.cell.Cell.{Cell}
use Rattle.trace_values.specs.declared.fault.Reason.{Reason}
use Rattle.trace_values.specs.Placed.{Place, Placed}
use Rattle.trace_values.specs.Stream.{Said, Kept, Stream}
use Rattle.frame_grammar.specs.Reading.{is_source}
use Rattle.source_events.specs.declared.event.Event.{Event}
use Rattle.source_events.specs.declared.packet.Packet.{Packet}
use Rattle.source_events.specs.declared.plan.Plan.{Plan}
use Rattle.source_events.specs.declared.plan.SourceKind.{SourceKind}
use Rattle.source_events.specs.Merge.{told, cut, grown, of_sources}
use Rattle.source_events.specs.Plan.{is_sound, kind_of, sources_by}
use Rattle.source_events.specs.Plan as strict
use Rattle.source_events.specs.Report.{Mapped, AreLawful, IsLawful, lifted, raw_events, events, least_fault, all_events}
use Rattle.source_events.specs.Report.{reported}
use Rattle.source_events.specs.Runs.{id_of, list_of, placed_run, IsRunFrom, RisesFrom, end_of}
use Rattle.source_events.proofs.Family.{Anywhere, adds, anywhere, list_own, run_fault, run_more, within_run}
use Rattle.source_events.proofs.Growth.{sound_first}
use Rattle.source_events.proofs.Lawful.{plan_lawful}
use Rattle.source_events.proofs.Least.{AreSound, least_at, least_none}
use Rattle.source_events.proofs.Merges.{merged_append, cut_append, cut_below, below, below_weaker, test_same}
use Rattle.source_events.proofs.Placing.{RunsBetween, between_join}
use Rattle.source_events.proofs.Running.{end_within}
use Rattle.source_events.proofs.Settling.{all_sound, least_stays, report_stays}
use Rattle.recovery_laws.specs.Distinct.{AreDistinct, HasNot}
use Rattle.recovery_laws.proofs.Distinct.{grown_own, grown_raw, grown_none, not_before, not_behind, sound_other}
use Rattle.recovery_laws.proofs.Distinct.{sound_front, sound_back, lawful_at}
use Rattle.recovery_laws.proofs.Distinct.{distinct}
use Rattle.stretch_readings.specs.declared.heard.Heard.{Heard}
use Rattle.stretch_readings.specs.declared.heard.Heard.TheVariants.{Broken}
use Rattle.stretch_readings.specs.Stretches.{heard, from_fault}
use Rattle.recovering_machines.proofs.Runs.{lifted_append}
use Rattle.recovery_report.specs.Report.{Run, added, report_from, stream_of}
use Rattle.recovery_report.proofs.PartLaws as parts
use Rattle.recovery_laws.specs.Strict.{upto, first_fault}
use Rattle.recovery_laws.proofs.Early.{early, cut_none, run_rises}
use Rattle.recovery_laws.proofs.Lists.{units, units_append, reads, hunts, reads_are, said_none, said_some}
use Rattle.recovery_laws.proofs.Sources.{IsAmong, mapped, there, missing, sound_join, sound_none}
use Rattle.recovery_laws.proofs.Uptos.{Found, after_none, after_some, told_as, raw_as, said_as, broken_as}

abbrev Heards : Type 0
Heards = List (Event (Heard Packet))

rises_in : (n : ℕ) (run : List Cell) → IsRunFrom n run → RisesFrom n run
rises_in n [] r = tt
rises_in n (c ∷ run) r = r

-- the recovering report of runs alone
abbrev pub runs_report : Plan → List (List Cell) → Heards
runs_report plan rs = report_from false plan [] (map Run rs)

-- It is the strict one up to its first fault.
pub record IsSame (plan : Plan) (rs : List (List Cell)) : Type 0 where
  pub events : reported (sources_by plan) rs ≡ upto (runs_report plan rs)
  pub fault : least_fault (sources_by plan) rs ≡ first_fault (runs_report plan rs)

-- What one more run adds after runs without a fault: these strict events, and this fault.
record IsOne (plan : Plan) (rs : List (List Cell)) (run : List Cell) : Type 0 where
  given : List (Event Packet)
  fault : Found
  events_are : upto (added false plan (map Run rs) (Run run)) ≡ given
  fault_is : first_fault (added false plan (map Run rs) (Run run)) ≡ fault
  grows : grown (of_sources (events (sources_by plan))) rs run (id_of run) ≡ given
  least : least_fault (sources_by plan) (rs ++ run ∷ []) ≡ fault
  whole : cut fault (all_events (sources_by plan) rs ++ given) ≡ all_events (sources_by plan) rs ++ given

module _ (plan : Plan) (sound : is_sound plan ≡ true) where
  abbrev ss : List (Mapped Packet)
  ss = sources_by plan

  lawful : AreLawful ss
  lawful = plan_lawful plan

  module _ (rs : List (List Cell)) (run : List Cell) where
    push : runs_report plan (rs ++ run ∷ []) ≡ runs_report plan rs ++ added false plan (map Run rs) (Run run)
    push =
        ap (report_from false plan []) (map-append Run rs (run ∷ [])) ∙ parts.growing false plan (map Run rs) (Run run)

    module _ (n : ℕ) (b : RunsBetween 0 n rs) (r : IsRunFrom n run) (snd : AreSound ss rs) where
      -- a run of no source
      of_none : id_of run ≡ None → IsOne plan rs run
      of_none e = record {
        given = [];
        fault = None;
        events_are = ap upto (parts.of_port false plan (map Run rs) (Run run) e);
        fault_is = ap first_fault (parts.of_port false plan (map Run rs) (Run run) e);
        grows = grown_none ss rs run e;
        least = least_none ss (rs ++ run ∷ []) (sound_none ss rs run e snd);
        whole = refl;
      }

      module _ (x : ℕ) (e : id_of run ≡ Some x) where
        -- one of a source that is not mapped
        of_raw : kind_of plan x ≡ None → IsOne plan rs run
        of_raw k =
            let h = missing plan x k in
            let added_is = parts.raw false plan x (map Run rs) run k e in
            let told_is = told_as (Some x) (raw_events x run) (raw_events x run) (raw_as x run) in
            record {
              given = told (Some x) (raw_events x run);
              fault = None;
              events_are = ap upto added_is ∙ told_is.0;
              fault_is = ap first_fault added_is ∙ told_is.1;
              grows = grown_raw ss rs run x h e;
              least = least_none ss (rs ++ run ∷ []) (sound_other ss rs run x h e snd);
              whole = refl;
            }

        -- one of a mapped source
        module _ (kind : SourceKind) (named : kind_of plan x ≡ Some kind) where
          abbrev s : Mapped Packet
          s = mapped plan x kind

          abbrev old : List Placed
          old = list_of x rs

          abbrev new : List Placed
          new = list_of x (rs ++ run ∷ [])

          among : IsAmong s ss
          among = there plan x kind named

          longer : new ≡ old ++ placed_run run
          longer = list_own x rs run (ap (is_source x) e ∙ test_same x x refl)

          apart : AreDistinct (among.front ++ (s ∷ among.back))
          apart = subst (λ l. AreDistinct l) among.parts (distinct plan sound)

          ahead : HasNot x among.front
          ahead = not_before among.front s among.back apart

          behind : HasNot x among.back
          behind = not_behind among.front s among.back apart

          all : AreSound (among.front ++ (s ∷ among.back)) rs
          all = subst (λ l. AreSound l rs) among.parts snd

          laws : AreLawful among.front × IsLawful s.stream × AreLawful among.back
          laws = lawful_at among.front s among.back (subst (λ l. AreLawful l) among.parts lawful)

          none : (strict.stream_of plan kind old).fault ≡ None
          none = (sound_back among.front s among.back rs all).0

          reads_old : reads plan kind (hunts plan kind) (units kind old) ≡ strict.stream_of plan kind old
          reads_old = reads_are plan kind old

          reads_new : reads plan kind (hunts plan kind) (units kind new) ≡ strict.stream_of plan kind new
          reads_new = reads_are plan kind new

          -- what the recovering report has more
          abbrev Said_more : List (Said (Heard Packet) × Place) → Type 0
          Said_more said = (stream_of plan kind x (map Run (rs ++ run ∷ []))).given
              ≡ (stream_of plan kind x (map Run rs)).given ++ said

          added_is : (said : List (Said (Heard Packet) × Place)) → Said_more said →
              added false plan (map Run rs) (Run run) ≡ told (Some x) (lifted said)
          added_is said k = (parts.own false plan kind x (map Run rs) run named e).more said
              (ap (λ l. (stream_of plan kind x l).given) (sym (map-append Run rs (run ∷ []))) ∙ k)

          abbrev Hear : List (Said Packet × Place) → List (Said (Heard Packet) × Place)
          Hear given = map (heard (reads plan kind) from_fault 0) given

          was : (stream_of plan kind x (map Run rs)).given ≡ Hear (strict.stream_of plan kind old).given
          was = said_none plan kind x rs (ap (λ (z : Stream Packet). z.fault) reads_old ∙ none)
              ∙ ap (λ (z : Stream Packet). Hear z.given) reads_old

          strict_grows : (more : List (Said Packet × Place)) →
              (strict.stream_of plan kind new).given ≡ (strict.stream_of plan kind old).given ++ more →
              grown (of_sources (events ss)) rs run (id_of run) ≡ told (Some x) (lifted more)
          strict_grows more k =
              ap (λ l. grown (of_sources (events l)) rs run (id_of run)) among.parts
              ∙ grown_own among.front s among.back rs run more ahead e
              (ap (λ l. (strict.stream_of plan kind l).given) (sym longer) ∙ k)

          of_sound : (strict.stream_of plan kind new).fault ≡ None → IsOne plan rs run
          of_sound f =
              let m = run_more s.stream laws.1.rises run old n (end_of run) (within_run n run r) in
              let k : (strict.stream_of plan kind new).given ≡ (strict.stream_of plan kind old).given ++ m.0 =
              ap (λ l. (strict.stream_of plan kind l).given) longer ∙ m.1 in
              let more : Said_more (Hear m.0) =
              said_none plan kind x (rs ++ run ∷ []) (ap (λ (z : Stream Packet). z.fault) reads_new ∙ f)
              ∙ ap (λ (z : Stream Packet). Hear z.given) reads_new ∙ ap Hear k
              ∙ map-append (heard (reads plan kind) from_fault 0) (strict.stream_of plan kind old).given m.0
              ∙ ap (λ l. l ++ Hear m.0) (sym was) in
              let added = added_is (Hear m.0) more in
              let told_is = told_as (Some x) (lifted (Hear m.0)) (lifted m.0) (said_as (reads plan kind) m.0) in
              record {
                given = told (Some x) (lifted m.0);
                fault = None;
                events_are = ap upto added ∙ told_is.0;
                fault_is = ap first_fault added ∙ told_is.1;
                grows = strict_grows m.0 k;
                least =
                    ap (λ l. least_fault l (rs ++ run ∷ [])) among.parts
                    ∙ least_none (among.front ++ (s ∷ among.back)) (rs ++ run ∷ [])
                    (sound_join among.front s among.back (rs ++ run ∷ [])
                    (sound_other among.front rs run x ahead e (sound_front among.front s among.back rs all))
                    (f, sound_other among.back rs run x behind e (sound_back among.front s among.back rs all).1));
                whole = refl;
              }

          of_fault : (f : Place × Reason) → (strict.stream_of plan kind new).fault ≡ Some f → IsOne plan rs run
          of_fault f k =
              let joined : units kind old ++ units kind (placed_run run) ≡ units kind new =
              sym (units_append kind old (placed_run run)) ∙ ap (units kind) (sym longer) in
              let read = reads plan kind (hunts plan kind) in
              let broken : (read (units kind new)).fault ≡ Some f = ap (λ (z : Stream Packet). z.fault) reads_new ∙ k in
              let i = early plan.order kind (hunts plan kind) (units kind (placed_run run)) (units kind old) f
              (ap (λ (z : Stream Packet). z.fault) reads_old ∙ none) (ap (λ l. (read l).fault) joined ∙ broken)
              (run_rises kind n run (rises_in n run r)) in
              let grew : (strict.stream_of plan kind new).given ≡ (strict.stream_of plan kind old).given ++ i.more =
              ap (λ (z : Stream Packet). z.given) (sym reads_new) ∙ ap (λ l. (read l).given) (sym joined) ∙ i.given
              ∙ ap (λ (z : Stream Packet). z.given ++ i.more) reads_old in
              let t = said_some plan kind x (rs ++ run ∷ []) f broken in
              let last : List (Said (Heard Packet) × Place) = (Kept (Broken f.1), f.0) ∷ t.0 in
              let more : Said_more (Hear i.more ++ last) =
              t.1 ∙ ap (λ (z : Stream Packet). Hear z.given ++ last) reads_new ∙ ap (λ l. Hear l ++ last) grew
              ∙ ap (λ l. l ++ last)
              (map-append (heard (reads plan kind) from_fault 0) (strict.stream_of plan kind old).given i.more)
              ∙ append_assoc (Hear (strict.stream_of plan kind old).given) (Hear i.more) last
              ∙ ap (λ l. l ++ (Hear i.more ++ last)) (sym was) in
              let added = added_is (Hear i.more ++ last) more ∙ ap (told (Some x)) (lifted_append (Hear i.more) last) in
              let told_is = broken_as (Some x) (lifted (Hear i.more)) (lifted t.0) (lifted i.more) f
              (said_as (reads plan kind) i.more) in
              let full : Place × (Reason × Option ℕ) = (f.0, (f.1, Some x)) in
              let from = (run_fault s.stream laws.1.rises laws.1.settles run old n (end_of run)
              (within_run n run r) none f
              (ap (λ l. (strict.stream_of plan kind l).fault) (sym longer) ∙ k)).0 in
              record {
                given = told (Some x) (lifted i.more);
                fault = Some full;
                events_are = ap upto added ∙ told_is.0;
                fault_is = ap first_fault added ∙ told_is.1;
                grows = strict_grows i.more grew;
                least =
                    ap (λ l. least_fault l (rs ++ run ∷ [])) among.parts
                    ∙ ap (λ l. least_fault (among.front ++ (s ∷ among.back)) l) (sym (append-nil (rs ++ run ∷ [])))
                    ∙ least_at among.front s among.back (rs ++ run ∷ []) [] f (f.0.at + 1) laws.0 laws.1 laws.2
                    (sound_other among.front rs run x ahead e (sound_front among.front s among.back rs all))
                    (sound_other among.back rs run x behind e (sound_back among.front s among.back rs all).1) k
                    (omega arith) tt;
                whole =
                    cut_append full (all_events ss rs) (told (Some x) (lifted i.more))
                    ∙ ap (λ l. l ++ cut (Some full) (told (Some x) (lifted i.more)))
                    (cut_below full (all_events ss rs) (below_weaker n f.0.at (all_events ss rs) from
                    (below Anywhere IsRunFrom end_of end_within id_of (of_sources (events ss)) (adds ss lawful) anywhere
                    rs [] 0 n tt b)))
                    ∙ ap (λ l. all_events ss rs ++ l) (cut_none full (Some x) i.more i.before);
              }

          of_mapped : IsOne plan rs run
          of_mapped = by (strict.stream_of plan kind new).fault refl where
            by : (o : Option (Place × Reason)) → (strict.stream_of plan kind new).fault ≡ o → IsOne plan rs run
            by None f = of_sound f
            by (Some g) f = of_fault g f

        of_source : IsOne plan rs run
        of_source = by (kind_of plan x) refl where
          by : (o : Option SourceKind) → kind_of plan x ≡ o → IsOne plan rs run
          by None k = of_raw k
          by (Some kind) k = of_mapped kind k

      one : IsOne plan rs run
      one = by (id_of run) refl where
        by : (o : Option ℕ) → id_of run ≡ o → IsOne plan rs run
        by None e = of_none e
        by (Some x) e = of_source x e

    -- with one more run they are the same, too
    step : (n : ℕ) → RunsBetween 0 n rs → IsRunFrom n run → IsSame plan rs → IsSame plan (rs ++ run ∷ [])
    step n b r k = by (least_fault ss rs) refl where
      by : (o : Found) → least_fault ss rs ≡ o → IsSame plan (rs ++ run ∷ [])
      by (Some f) e =
          let a = after_some (runs_report plan rs) (added false plan (map Run rs) (Run run)) f (sym k.fault ∙ e) in
          record {
            events = report_stays rs (run ∷ []) n b (r, tt) ss lawful f e ∙ k.events ∙ sym a.0 ∙ ap upto (sym push);
            fault = least_stays rs (run ∷ []) n b (r, tt) ss lawful f e ∙ sym a.1 ∙ ap first_fault (sym push);
          }
      by None e =
          let o = one n b r (all_sound rs (run ∷ []) n b (r, tt) ss e) in
          let a = after_none (runs_report plan rs) (added false plan (map Run rs) (Run run)) (sym k.fault ∙ e) in
          let whole : all_events ss rs ≡ reported ss rs = ap (λ p. cut p (all_events ss rs)) (sym e) in
          record {
            events =
                ap (λ p. cut p (all_events ss (rs ++ run ∷ []))) o.least
                ∙ ap (cut o.fault) (merged_append id_of (of_sources (events ss)) rs (run ∷ []) []
                ∙ ap (λ l. all_events ss rs ++ l)
                (append-nil (grown (of_sources (events ss)) rs run (id_of run)) ∙ o.grows))
                ∙ o.whole ∙ ap (λ l. l ++ o.given) (whole ∙ k.events)
                ∙ ap (λ l. upto (runs_report plan rs) ++ l) (sym o.events_are) ∙ sym a.0 ∙ ap upto (sym push);
            fault = o.least ∙ sym o.fault_is ∙ sym a.1 ∙ ap first_fault (sym push);
          }

  none_yet : IsSame plan []
  none_yet = record {
    events = ap (λ o. cut o (all_events ss [])) (sound_first ss lawful);
    fault = sound_first ss lawful;
  }

  walk : (more rs : List (List Cell)) (n k : ℕ) → RunsBetween 0 n rs → RunsBetween n k more → IsSame plan rs →
      IsSame plan (rs ++ more)
  walk [] rs n k b c s = subst (λ l. IsSame plan l) (sym (append-nil rs)) s
  walk (run ∷ more) rs n k b c s =
      subst (λ l. IsSame plan l) (append_assoc rs (run ∷ []) more)
      (walk more (rs ++ run ∷ []) (end_of run) k
      (between_join rs (run ∷ []) 0 n (end_of run) b (c.0, (let z : end_of run ≤ end_of run = omega arith in z))) c.1
      (step rs run n b c.0 s))

  pub all_same : (rs : List (List Cell)) (k : ℕ) → RunsBetween 0 k rs → IsSame plan rs
  all_same rs k b = walk rs [] 0 k (let z : 0 ≤ 0 = omega arith in z) b none_yet
