-- The mapped sources of a plan, as one list.
use Rattle.std.proofs.Common.{◌≡◌, ◌≢◌, ℕ, List, [], ◌∷◌, ◌++◌, map, refl, sym, ◌∙◌, ap, subst, append_assoc, None}
use Rattle.std.proofs.Common.{Some, Bool, true, false, cond, arith}
use Rattle.std.specs.Prelude.{◌==◌, ◌||◌}
use Rattle.std.specs.List.{list_any}
use Rattle.std.proofs.lemmas.Bool.Decides.{nat_tests}
use Rattle.std.proofs.lemmas.List.{map-append}
use Rattle.trace_values.specs.declared.cell.Cell.{Cell}
use Rattle.source_events.specs.declared.packet.Packet.{Packet}
use Rattle.source_events.specs.declared.plan.Plan.{Plan}
use Rattle.source_events.specs.declared.plan.SourceKind.{SourceKind}
use Rattle.source_events.specs.declared.plan.SourceKind.TheVariants.{Itm, Stp}
use Rattle.source_events.specs.Plan.{kind_of, sources_by, stream_of}
use Rattle.source_events.specs.Report.{Mapped}
use Rattle.source_events.specs.Runs.{id_of}
use Rattle.frame_grammar.specs.Reading.{is_source}
use Rattle.source_events.proofs.Family.{list_other}
use Rattle.source_events.proofs.Least.{AreSound}
use Rattle.recovery_laws.specs.Distinct.{HasNot}
use Rattle.trace_values.specs.Placed.{Placed}

-- a mapped source of this kind
abbrev pub mapped : Plan → ℕ → SourceKind → Mapped Packet
mapped plan x kind = record { id = x; stream = stream_of plan kind }

abbrev of_kind : Plan → SourceKind → List ℕ → List (Mapped Packet)
of_kind plan kind ids =
    map (λ (s : ℕ × SourceKind). record { id = s.0; stream = stream_of plan s.1 }) (map (λ (y : ℕ). (y, kind)) ids)

all_are : (plan : Plan) → sources_by plan ≡ of_kind plan Itm plan.itm ++ of_kind plan Stp plan.stp
all_are plan = map-append (λ (s : ℕ × SourceKind). record { id = s.0; stream = stream_of plan s.1 })
    (map (λ (y : ℕ). (y, Itm)) plan.itm) (map (λ (y : ℕ). (y, Stp)) plan.stp)

-- a source among others
pub record IsAmong (s : Mapped Packet) (all : List (Mapped Packet)) : Type 0 where
  pub front : List (Mapped Packet)
  pub back : List (Mapped Packet)
  pub parts : all ≡ front ++ (s ∷ back)

is_same : (x y : ℕ) → (y == x) ≡ true → y ≡ x
is_same x y e = grind (arith, nat_tests)

is_other : (x y : ℕ) → (y == x) ≡ false → x ≢ y
is_other x y e = grind (arith, nat_tests)

module _ (plan : Plan) (x : ℕ) where
  found : (kind : SourceKind) (ids : List ℕ) → list_any (λ y. y == x) ids ≡ true →
      IsAmong (mapped plan x kind) (of_kind plan kind ids)
  found kind [] e = cc
  found kind (y ∷ ids) e = by (y == x) refl e (λ h. found kind ids h) where
    by : (t : Bool) → (y == x) ≡ t → (t || list_any (λ z. z == x) ids) ≡ true →
        (list_any (λ z. z == x) ids ≡ true → IsAmong (mapped plan x kind) (of_kind plan kind ids)) →
        IsAmong (mapped plan x kind) (of_kind plan kind (y ∷ ids))
    by true k h more = record {
      front = [];
      back = of_kind plan kind ids;
      parts = ap (λ (z : ℕ). mapped plan z kind ∷ of_kind plan kind ids) (is_same x y k);
    }
    by false k h more =
        let m = more h in
        record { front = mapped plan y kind ∷ m.front; back = m.back; parts = ap (λ l. mapped plan y kind ∷ l) m.parts }

  nowhere : (kind : SourceKind) (ids : List ℕ) → list_any (λ y. y == x) ids ≡ false → HasNot x (of_kind plan kind ids)
  nowhere kind [] e = tt
  nowhere kind (y ∷ ids) e = by (y == x) refl e (λ h. nowhere kind ids h) where
    by : (t : Bool) → (y == x) ≡ t → (t || list_any (λ z. z == x) ids) ≡ false →
        (list_any (λ z. z == x) ids ≡ false → HasNot x (of_kind plan kind ids)) →
        HasNot x (of_kind plan kind (y ∷ ids))
    by true k h more = cc
    by false k h more = (is_other x y k, more h)

  neither : (a b : List (Mapped Packet)) → HasNot x a → HasNot x b → HasNot x (a ++ b)
  neither [] b h k = k
  neither (s ∷ a) b h k = (h.0, neither a b h.1 k)

  abbrev any : List ℕ → Bool
  any ids = list_any (λ y. y == x) ids

  kinds : (i s : Bool) → any plan.itm ≡ i → any plan.stp ≡ s →
      kind_of plan x ≡ cond i (Some Itm) (cond s (Some Stp) None)
  kinds i s e f = ap (λ b. cond b (Some Itm) (cond (any plan.stp) (Some Stp) None)) e
      ∙ ap (λ b. cond i (Some Itm) (cond b (Some Stp) None)) f

  -- one that is mapped
  pub there : (kind : SourceKind) → kind_of plan x ≡ Some kind → IsAmong (mapped plan x kind) (sources_by plan)
  there kind e = by (any plan.itm) (any plan.stp) refl refl where
    first : any plan.itm ≡ true → IsAmong (mapped plan x Itm) (sources_by plan)
    first k = let m = found Itm plan.itm k in record {
      front = m.front;
      back = m.back ++ of_kind plan Stp plan.stp;
      parts = all_are plan ∙ ap (λ l. l ++ of_kind plan Stp plan.stp) m.parts
          ∙ append_assoc m.front (mapped plan x Itm ∷ m.back) (of_kind plan Stp plan.stp);
    }

    second : any plan.stp ≡ true → IsAmong (mapped plan x Stp) (sources_by plan)
    second k = let m = found Stp plan.stp k in record {
      front = of_kind plan Itm plan.itm ++ m.front;
      back = m.back;
      parts = all_are plan ∙ ap (λ l. of_kind plan Itm plan.itm ++ l) m.parts
          ∙ sym (append_assoc (of_kind plan Itm plan.itm) m.front (mapped plan x Stp ∷ m.back));
    }

    by : (i s : Bool) → any plan.itm ≡ i → any plan.stp ≡ s → IsAmong (mapped plan x kind) (sources_by plan)
    by true s k l =
        let q : Some kind ≡ Some Itm = sym e ∙ kinds true s k l in
        let p : Itm ≡ kind = cc in
        subst (λ z. IsAmong (mapped plan x z) (sources_by plan)) p (first k)
    by false true k l =
        let q : Some kind ≡ Some Stp = sym e ∙ kinds false true k l in
        let p : Stp ≡ kind = cc in
        subst (λ z. IsAmong (mapped plan x z) (sources_by plan)) p (second l)
    by false false k l = (let q : Some kind ≡ None = sym e ∙ kinds false false k l in cc)

  -- and one that is not
  pub missing : kind_of plan x ≡ None → HasNot x (sources_by plan)
  missing e = by (any plan.itm) (any plan.stp) refl refl where
    by : (i s : Bool) → any plan.itm ≡ i → any plan.stp ≡ s → HasNot x (sources_by plan)
    by true s k l = (let q : None ≡ Some Itm = sym e ∙ kinds true s k l in cc)
    by false true k l = (let q : None ≡ Some Stp = sym e ∙ kinds false true k l in cc)
    by false false k l =
        subst (λ ss. HasNot x ss) (sym (all_are plan))
        (neither (of_kind plan Itm plan.itm) (of_kind plan Stp plan.stp) (nowhere Itm plan.itm k)
        (nowhere Stp plan.stp l))

-- sources without a fault, put together
pub sound_join : {V : Type 0} (a : List (Mapped V)) (s : Mapped V) (b : List (Mapped V)) (rs : List (List Cell)) →
    AreSound a rs → AreSound (s ∷ b) rs → AreSound (a ++ (s ∷ b)) rs
sound_join [] s b rs h k = k
sound_join (t ∷ a) s b rs h k = (h.0, sound_join a s b rs h.1 k)

-- a run of no source
pub sound_none : {V : Type 0} (ss : List (Mapped V)) (rs : List (List Cell)) (run : List Cell) → id_of run ≡ None →
    AreSound ss rs → AreSound ss (rs ++ run ∷ [])
sound_none [] rs run e a = tt
sound_none (s ∷ ss) rs run e a = (
  ap (λ (l : List Placed). (s.stream l).fault) (list_other s.id rs run (ap (is_source s.id) e)) ∙ a.0,
  sound_none ss rs run e a.1,
)
