-- Parts that are taken, one after the other.
use Rattle.std.proofs.Common.{◌≡◌, ◌≢◌, ℕ, List, [], ◌∷◌, ◌++◌, refl, sym, ◌∙◌, ap, subst, append_assoc}
use Rattle.std.proofs.Common.{append-nil, Option, None, Some, Bool, false, map, inl, inr}
use Rattle.trace_values.specs.declared.cell.Cell.{Cell}
use Rattle.trace_values.specs.declared.fault.Reason.{Reason}
use Rattle.trace_values.specs.Placed.{Place, Placed}
use Rattle.trace_values.specs.Stream.{Stream}
use Rattle.frame_grammar.specs.Reading.{is_source}
use Rattle.deformatter.specs.Rising.{CellsRise}
use Rattle.source_events.specs.declared.event.Event.{Event}
use Rattle.source_events.specs.declared.event.What.TheVariants.{Locked, Packet as Said}
use Rattle.source_events.specs.declared.packet.Packet.{Packet}
use Rattle.source_events.specs.declared.plan.Plan.{Plan}
use Rattle.source_events.specs.declared.plan.SourceKind.{SourceKind}
use Rattle.source_events.specs.Merge.{told}
use Rattle.source_events.specs.Plan as plans
use Rattle.source_events.specs.Report.{lifted, raw_events}
use Rattle.source_events.specs.Runs.{id_of}
use Rattle.source_events.proofs.Merges.{same_or_not, test_other}
use Rattle.source_machine.specs.Units.{reads_by}
use Rattle.stretch_readings.specs.declared.heard.Heard.{Heard}
use Rattle.stretch_readings.specs.declared.heard.Heard.TheVariants.{Broken}
use Rattle.stretch_readings.specs.Guessing.{said_of}
use Rattle.stretch_readings.specs.Stretches.{One, Stretches, fed_from, from_fault, parted}
use Rattle.recovering_machines.specs.Mapped.{Guesses, IsCut, Stands, kind_of, reads_of, with_run}
use Rattle.recovering_machines.specs.Run.{units_in}
use Rattle.recovering_machines.specs.declared.mapped.MappedSource.{MappedSource}
use Rattle.recovering_machines.proofs.Mapping.{guesses_later}
use Rattle.recovery_report.specs.Placing.{PartsBetween}
use Rattle.recovery_report.specs.Report.{Part, Run, Locks, Breaks, added, report_from}
use Rattle.recovery_report.specs.Report.{said_in, stretches_of}
use Rattle.recovery_report.specs.Words.{AreOf, singles}
use Rattle.recovery_report.proofs.PartLaws as laws
use Rattle.recovery_report.proofs.Placing.{parts_le, parts_split, run_rises}
use Rattle.recovery_report.proofs.Singles.{singles_added, singles_other, singles_own, singles_rise}
use Rattle.recovery_engine.specs.Bare.{raw_each}
use Rattle.recovery_engine.specs.Slots.{IsSource, StandsAt, StandFor, source_at}
use Rattle.recovery_engine.specs.Taking.{Grown, Takes, TakesOwn, IsCutAt, AreCut}
use Rattle.recovery_engine.specs.declared.slot.RecoveringSlot.{RecoveringSlot}

abbrev Heards : Type 0
Heards = List (Event (Heard Packet))

-- nothing, and some parts after others
module _ {S : Type 0} (gets : S → Heards → S → Type 0) where
  pub takes_none : ((s : S) → gets s [] s) → (a : List RecoveringSlot × S) → Takes gets [] a a
  takes_none none a = (
    [],
    none a.1,
    λ guesses plan parts k. record {
      list = subst (λ l. StandFor guesses plan l a.0) (sym (append-nil parts)) k;
      grew = λ at b.
          ap (λ l. report_from guesses plan [] l) (append-nil parts)
          ∙ sym (append-nil (report_from guesses plan [] parts));
    },
  )

  pub takes_then : ((a b c : S) (es fs : Heards) → gets a es b → gets b fs c → gets a (es ++ fs) c) →
      (a b c : List RecoveringSlot × S) (ms ns : List Part) →
      Takes gets ms a b → Takes gets ns b c → Takes gets (ms ++ ns) a c
  takes_then more a b c ms ns t s = (
    t.0 ++ s.0,
    more a.1 b.1 c.1 t.0 s.0 t.1 s.1,
    λ guesses plan parts k.
        let g = t.2 guesses plan parts k in
        let h = s.2 guesses plan (parts ++ ms) g.list in
        record {
          list = subst (λ l. StandFor guesses plan l c.0) (append_assoc parts ms ns) h.list;
          grew = λ at b.
              let all : PartsBetween 0 at ((parts ++ ms) ++ ns) =
              subst (PartsBetween 0 at) (sym (append_assoc parts ms ns)) b in
              let first = parts_split (parts ++ ms) ns 0 at all in
              ap (λ l. report_from guesses plan [] l) (sym (append_assoc parts ms ns)) ∙ h.grew at all
              ∙ ap (λ l. l ++ s.0) (g.grew first.mid first.front)
              ∙ append_assoc (report_from guesses plan [] parts) t.0 s.0;
        },
  )

-- one part: what it is to each source, and what it adds
pub grown_by : (guesses : Bool) (plan : Plan) (parts : List Part) (m : Part) (slots : List RecoveringSlot)
    (given : Heards) → StandFor guesses plan (parts ++ m ∷ []) slots →
    ((at : ℕ) → PartsBetween 0 at (parts ++ m ∷ []) → added guesses plan parts m ≡ given) →
    Grown guesses plan parts (m ∷ []) slots given
grown_by guesses plan parts m slots given k e = record {
  list = k;
  grew = λ at b.
      laws.growing guesses plan parts m ∙ ap (λ l. report_from guesses plan [] parts ++ l) (e at b);
}

-- a source whose stretches stay as they are with more parts
module _ (guesses : Bool) (plan : Plan) (parts more : List Part) (x : ℕ) where
  pub same_with : (o : Option MappedSource) →
      ((kind : SourceKind) → stretches_of plan kind x (parts ++ more) ≡ stretches_of plan kind x parts) →
      StandsAt guesses plan parts x o → StandsAt guesses plan (parts ++ more) x o
  same_with None e k = k
  same_with (Some s) e k =
      let r = stretches_of plan (kind_of s) x parts in
      record {
        kind = k.kind;
        reads = k.reads;
        says = k.says;
        list = subst (λ r. Stands s r) (sym (e (kind_of s))) k.list;
        guess = λ at b.
            let p = parts_split parts more 0 at b in
            subst (λ r. Guesses s at r) (sym (e (kind_of s)))
            (guesses_later s p.mid at r (parts_le more p.mid at p.back) (k.guess p.mid p.front));
      }

pub same_at : (guesses : Bool) (plan : Plan) (parts : List Part) (m : Part) (x : ℕ) (o : Option MappedSource) →
    ((kind : SourceKind) → stretches_of plan kind x (parts ++ m ∷ []) ≡ stretches_of plan kind x parts) →
    StandsAt guesses plan parts x o → StandsAt guesses plan (parts ++ m ∷ []) x o
same_at guesses plan parts m x o e k = same_with guesses plan parts (m ∷ []) x o e k

-- a run of no source
pub grown_none : (guesses : Bool) (plan : Plan) (parts : List Part) (run : List Cell) (slots : List RecoveringSlot) →
    id_of run ≡ None → StandFor guesses plan parts slots → Grown guesses plan parts (Run run ∷ []) slots []
grown_none guesses plan parts run slots e k =
    grown_by guesses plan parts (Run run) slots [] (λ x. same_at guesses plan parts (Run run) x (source_at slots x)
    (λ kind. laws.other plan kind x parts run (ap (is_source x) e)) (k x))
    (λ at b. laws.of_port guesses plan parts (Run run) e)

-- one of another source
other_run : (x y : ℕ) (run : List Cell) → id_of run ≡ Some x → y ≢ x → is_source y (id_of run) ≡ false
other_run x y run e n = ap (is_source y) e ∙ test_other x y (λ q. n (sym q))

pub grown_raw : (guesses : Bool) (plan : Plan) (parts : List Part) (run : List Cell) (x : ℕ)
    (slots : List RecoveringSlot) → id_of run ≡ Some x → source_at slots x ≡ None → StandFor guesses plan parts slots →
    Grown guesses plan parts (Run run ∷ []) slots (told (Some x) (raw_events x run))
grown_raw guesses plan parts run x slots e n k =
    let none : plans.kind_of plan x ≡ None = subst (λ o. StandsAt guesses plan parts x o) n (k x) in
    grown_by guesses plan parts (Run run) slots (told (Some x) (raw_events x run))
    (λ y. elim (same_or_not y x) [
      | inl q ↦ subst (λ z. StandsAt guesses plan (parts ++ Run run ∷ []) z (source_at slots z)) (sym q)
          (subst (λ o. StandsAt guesses plan (parts ++ Run run ∷ []) x o) (sym n) none)
      | inr q ↦ same_at guesses plan parts (Run run) y (source_at slots y)
          (λ kind. laws.other plan kind y parts run (other_run x y run e q)) (k y)
    ])
    (λ at b. laws.raw guesses plan x parts run none e)

-- Cells that a source took as some parts, which are its units: it stands for its stretches with them.
module _ {S : Type 0} (gets : S → Heards → S → Type 0) (room : S → ℕ) (guesses : Bool) (plan : Plan)
    (parts more : List Part) (cells : List Cell) (x : ℕ) (old new : List RecoveringSlot × S)
    (k : StandFor guesses plan parts old.0) (t : TakesOwn gets room x cells old new) where
  abbrev a : MappedSource
  a = t.before

  abbrev kind : SourceKind
  kind = kind_of a

  abbrev r : Stretches
  r = stretches_of plan kind x parts

  pub its_own : IsSource guesses plan parts x a
  its_own = subst (λ o. StandsAt guesses plan parts x o) t.was (k x)

  module _ (list : stretches_of plan kind x (parts ++ more)
      ≡ fed_from (reads_by plan.order kind) from_fault r (map One (units_in kind cells)))
      (rise : (n at : ℕ) → PartsBetween n at more → CellsRise n at cells) where
    own : IsSource guesses plan parts x a
    own = its_own

    same : with_run a r cells ≡ stretches_of plan kind x (parts ++ more)
    same = ap (λ (f : Bool → List Placed → Stream Packet). fed_from f from_fault r (map One (units_in kind cells)))
        own.reads ∙ sym list

    fed : IsSource guesses plan (parts ++ more) x t.after
    fed = record {
      kind = own.kind ∙ ap Some (sym t.takes.kind);
      reads = t.takes.reads ∙ own.reads ∙ ap (reads_by plan.order) (sym t.takes.kind);
      says = t.takes.guesses ∙ own.says;
      list = subst (λ (z : SourceKind). Stands t.after (stretches_of plan z x (parts ++ more))) (sym t.takes.kind)
          (subst (λ s. Stands t.after s) same (t.takes.list r own.list));
      guess = λ at b.
          let p = parts_split parts more 0 at b in
          subst (λ (z : SourceKind). Guesses t.after at (stretches_of plan z x (parts ++ more))) (sym t.takes.kind)
          (subst (λ s. Guesses t.after at s) same
          (t.takes.guess p.mid at r (rise p.mid at p.back) own.list (own.guess p.mid p.front)));
    }

    -- what it says more is what was given
    pub says_more : (at : ℕ) → PartsBetween 0 at (parts ++ more) →
        said_in guesses plan kind x (parts ++ more) ≡ said_in guesses plan kind x parts ++ t.takes.said
    says_more at b =
        let p = parts_split parts more 0 at b in
        ap (λ z. said_of (reads_by plan.order kind) from_fault guesses z) (sym same)
        ∙ ap (λ (f : Bool → List Placed → Stream Packet). said_of f from_fault guesses (with_run a r cells))
        (sym own.reads)
        ∙ ap (λ (g : Bool). said_of (reads_of a) from_fault g (with_run a r cells)) (sym own.says)
        ∙ t.takes.given p.mid at r (rise p.mid at p.back) own.list (own.guess p.mid p.front)
        ∙ ap (λ (g : Bool). said_of (reads_of a) from_fault g r ++ t.takes.said) own.says
        ∙ ap (λ (f : Bool → List Placed → Stream Packet). said_of f from_fault guesses r ++ t.takes.said) own.reads

    pub stand_own : ((y : ℕ) → y ≢ x → (z : SourceKind) →
        stretches_of plan z y (parts ++ more) ≡ stretches_of plan z y parts) →
        StandFor guesses plan (parts ++ more) new.0
    stand_own others = λ y. elim (same_or_not y x) [
      | inl q ↦ subst (λ z. StandsAt guesses plan (parts ++ more) z (source_at new.0 z)) (sym q)
          (subst (λ o. StandsAt guesses plan (parts ++ more) x o) (sym t.is) fed)
      | inr q ↦ subst (λ o. StandsAt guesses plan (parts ++ more) y o) (sym (t.others y q))
          (same_with guesses plan parts more y (source_at old.0 y) (others y q) (k y))
    ]

-- a run of a source of its own
pub grown_own : {S : Type 0} (gets : S → Heards → S → Type 0) (room : S → ℕ) (guesses : Bool) (plan : Plan)
    (parts : List Part) (run : List Cell) (x : ℕ) (old new : List RecoveringSlot × S) → id_of run ≡ Some x →
    StandFor guesses plan parts old.0 → (t : TakesOwn gets room x run old new) →
    Grown guesses plan parts (Run run ∷ []) new.0 (told (Some x) (lifted t.takes.said))
grown_own gets room guesses plan parts run x old new e k t =
    let kind = kind_of t.before in
    let own = its_own gets room guesses plan parts (Run run ∷ []) run x old new k t in
    let o = laws.own guesses plan kind x parts run own.kind e in
    grown_by guesses plan parts (Run run) new.0 (told (Some x) (lifted t.takes.said))
    (stand_own gets room guesses plan parts (Run run ∷ []) run x old new k t o.list (run_rises run)
    (λ y q z. laws.other plan z y parts run (other_run x y run e q)))
    (λ at b. o.more t.takes.said
    (says_more gets room guesses plan parts (Run run ∷ []) run x old new k t o.list (run_rises run) at b))

pub takes_own : {S : Type 0} (gets : S → Heards → S → Type 0) (room : S → ℕ) (run : List Cell) (x : ℕ)
    (old new : List RecoveringSlot × S) → id_of run ≡ Some x → TakesOwn gets room x run old new →
    Takes gets (Run run ∷ []) old new
takes_own gets room run x old new e t = (
  told (Some x) (lifted t.takes.said),
  t.takes.received,
  λ guesses plan parts k. grown_own gets room guesses plan parts run x old new e k t,
)

-- a lock and a fault of the port
pub grown_lock : (guesses : Bool) (plan : Plan) (parts : List Part) (n skipped : ℕ) (place : Place)
    (slots : List RecoveringSlot) → skipped ≡ n → StandFor guesses plan parts slots →
    Grown guesses plan parts (Locks n place ∷ []) slots (told None ((Locked skipped, place) ∷ []))
grown_lock guesses plan parts n skipped place slots e k =
    grown_by guesses plan parts (Locks n place) slots (told None ((Locked skipped, place) ∷ []))
    (λ x. same_at guesses plan parts (Locks n place) x (source_at slots x)
    (λ kind. laws.lock plan kind x parts n place) (k x))
    (λ at b. laws.of_port guesses plan parts (Locks n place) refl
    ∙ ap (λ m. told None ((Locked m, place) ∷ [])) (sym e))

module _ (guesses : Bool) (plan : Plan) (parts : List Part) (reason : Reason) (place : Place) where
  abbrev after : List Part
  after = parts ++ Breaks reason place ∷ []

  cut_one : (x : ℕ) (s t : MappedSource) → IsCut s t → IsSource guesses plan parts x s →
      IsSource guesses plan after x t
  cut_one x s t c k =
      let r = stretches_of plan (kind_of s) x parts in
      let same : parted (reads_of s) from_fault r ≡ stretches_of plan (kind_of s) x after =
      ap (λ (f : Bool → List Placed → Stream Packet). parted f from_fault r) k.reads
      ∙ sym (laws.cut plan (kind_of s) x parts reason place) in
      record {
        kind = k.kind ∙ ap Some (sym c.kind);
        reads = c.reads ∙ k.reads ∙ ap (reads_by plan.order) (sym c.kind);
        says = c.guesses ∙ k.says;
        list = subst (λ (z : SourceKind). Stands t (stretches_of plan z x after)) (sym c.kind)
            (subst (λ q. Stands t q) same (c.list r k.list));
        guess = λ at b.
            let p = parts_split parts (Breaks reason place ∷ []) 0 at b in
            subst (λ (z : SourceKind). Guesses t at (stretches_of plan z x after)) (sym c.kind)
            (subst (λ q. Guesses t at q) same
            (c.guess at r k.list (guesses_later s p.mid at r (parts_le (Breaks reason place ∷ []) p.mid at p.back)
            (k.guess p.mid p.front))));
      }

  cut_at : (x : ℕ) (o p : Option MappedSource) → IsCutAt o p → StandsAt guesses plan parts x o →
      StandsAt guesses plan after x p
  cut_at x None None c k = k
  cut_at x (Some s) (Some t) c k = cut_one x s t c k
  cut_at x None (Some t) c k = absurd c
  cut_at x (Some s) None c k = absurd c

  pub grown_break : (old new : List RecoveringSlot) → AreCut old new → StandFor guesses plan parts old →
      Grown guesses plan parts (Breaks reason place ∷ []) new (told None ((Said (Broken reason), place) ∷ []))
  grown_break old new c k =
      grown_by guesses plan parts (Breaks reason place) new (told None ((Said (Broken reason), place) ∷ []))
      (λ x. cut_at x (source_at old x) (source_at new x) (c x) (k x))
      (λ at b. laws.of_port guesses plan parts (Breaks reason place) refl)

-- Cells each of which is a run of its own: those of a source that is not mapped.
pub grown_raws : (guesses : Bool) (plan : Plan) (cells : List Cell) (parts : List Part) (x : ℕ)
    (slots : List RecoveringSlot) → AreOf x cells → source_at slots x ≡ None → StandFor guesses plan parts slots →
    Grown guesses plan parts (singles cells) slots (raw_each x cells)
grown_raws guesses plan [] parts x slots a n k = record {
  list = subst (λ l. StandFor guesses plan l slots) (sym (append-nil parts)) k;
  grew = λ at b.
      ap (λ l. report_from guesses plan [] l) (append-nil parts)
      ∙ sym (append-nil (report_from guesses plan [] parts));
}
grown_raws guesses plan (c ∷ cells) parts x slots a n k =
    let own : List Part = Run (c ∷ []) ∷ [] in
    let one = grown_raw guesses plan parts (c ∷ []) x slots a.0 n k in
    let rest = grown_raws guesses plan cells (parts ++ own) x slots a.1 n one.list in
    let said = told (Some x) (raw_events x (c ∷ [])) in
    record {
      list = subst (λ l. StandFor guesses plan l slots) (append_assoc parts own (singles cells)) rest.list;
      grew = λ at b.
          let all : PartsBetween 0 at ((parts ++ own) ++ singles cells) =
          subst (PartsBetween 0 at) (sym (append_assoc parts own (singles cells))) b in
          let first = parts_split (parts ++ own) (singles cells) 0 at all in
          ap (λ l. report_from guesses plan [] l) (sym (append_assoc parts own (singles cells)))
          ∙ rest.grew at all ∙ ap (λ l. l ++ raw_each x cells) (one.grew first.mid first.front)
          ∙ append_assoc (report_from guesses plan [] parts) said (raw_each x cells);
    }

-- or of one which is
pub grown_each : {S : Type 0} (gets : S → Heards → S → Type 0) (room : S → ℕ) (guesses : Bool) (plan : Plan)
    (parts : List Part) (cells : List Cell) (x : ℕ) (old new : List RecoveringSlot × S) → AreOf x cells →
    StandFor guesses plan parts old.0 → (t : TakesOwn gets room x cells old new) →
    Grown guesses plan parts (singles cells) new.0 (told (Some x) (lifted t.takes.said))
grown_each gets room guesses plan parts cells x old new a k t =
    let kind = kind_of t.before in
    let own = its_own gets room guesses plan parts (singles cells) cells x old new k t in
    let list = singles_own plan kind x own.kind cells parts a in
    record {
      list = stand_own gets room guesses plan parts (singles cells) cells x old new k t list (singles_rise cells)
          (λ y q z. singles_other plan z x y cells parts (test_other x y (λ e. q (sym e))) a);
      grew = λ at b.
          laws.report_append guesses plan parts (singles cells) []
          ∙ ap (λ l. report_from guesses plan [] parts ++ l)
          (singles_added plan kind x own.kind guesses cells parts at t.takes.said a b
          (says_more gets room guesses plan parts (singles cells) cells x old new k t list (singles_rise cells) at b));
    }
