-- The sources of a plan before their first byte.
use Rattle.std.proofs.Common.{◌≡◌, ℕ, ◌+◌, ◌<◌, List, [], ◌∷◌, ◌++◌, length, get_or, take, refl, sym, ◌∙◌, ap}
use Rattle.std.proofs.Common.{subst, arith, Option, None, Some, Bool, true, false, cond}
use Rattle.std.specs.Prelude.{◌==◌, ◌||◌}
use Rattle.std.specs.List.{list_any}
use Rattle.std.proofs.lemmas.List.Folds.{list_any_more}
use Rattle.source_events.specs.declared.plan.Plan.{Plan}
use Rattle.source_events.specs.declared.plan.SourceKind.{SourceKind}
use Rattle.source_events.specs.declared.plan.SourceKind.TheVariants.{Itm, Stp}
use Rattle.source_events.specs.Plan as plans
use Rattle.source_machine.specs.Units.{reads_by}
use Rattle.recovering_machines.specs.Mapped.{total_of}
use Rattle.recovering_machines.specs.declared.mapped.MappedSource.{MappedSource}
use Rattle.recovery_engine.specs.Fresh.{FreshIf, IsAdded, IsFresh}
use Rattle.recovery_engine.specs.Slots.{IsSource, StandsAt, source_at, total}
use Rattle.recovery_engine.specs.declared.slot.RecoveringSlot.{RecoveringSlot}

-- one more slot
abbrev pub pushed : Option MappedSource → Bool → MappedSource → Option MappedSource
pushed None own s = cond own (Some s) None
pushed (Some t) own s = Some t

pub source_push : (slots : List RecoveringSlot) (s : RecoveringSlot) (x : ℕ) →
    source_at (slots ++ s ∷ []) x ≡ pushed (source_at slots x) (s.id == x) s.source
source_push [] s x = refl
source_push (t ∷ slots) s x = by (t.id == x) (source_push slots s x) where
  by : (o : Bool) → source_at (slots ++ s ∷ []) x ≡ pushed (source_at slots x) (s.id == x) s.source →
      cond o (Some t.source) (source_at (slots ++ s ∷ []) x) ≡ pushed
      (cond o (Some t.source) (source_at slots x)) (s.id == x) s.source
  by true e = refl
  by false e = e

pub total_push : (slots : List RecoveringSlot) (s : RecoveringSlot) →
    total (slots ++ s ∷ []) ≡ total slots + total_of s.source
total_push [] s = (let e : total_of s.source + 0 ≡ 0 + total_of s.source = omega arith in e)
total_push (t ∷ slots) s = (let k = total_push slots s in omega (arith, k))

module _ (guesses : Bool) (plan : Plan) (kind : SourceKind) (s : MappedSource) (f : IsFresh guesses plan kind s) where
  fresh_push : (any own : Bool) (o : Option MappedSource) → FreshIf guesses plan kind any o →
      FreshIf guesses plan kind (any || own) (pushed o own s)
  fresh_push true own None h = absurd h
  fresh_push true own (Some t) h = h
  fresh_push false true None h = f
  fresh_push false false None h = refl
  fresh_push false own (Some t) h = (let k : Some t ≡ None = h in cc)

  pub added_push : (ids : List ℕ) (i d : ℕ) (x : ℕ) (o n : Option MappedSource) → i < length ids →
      IsAdded guesses plan kind (take i ids) x o n →
      IsAdded guesses plan kind (take (i + 1) ids) x o (pushed n (get_or ids i d == x) s)
  added_push ids i d x None n l h =
      subst (λ b. FreshIf guesses plan kind b (pushed n (get_or ids i d == x) s))
      (sym (list_any_more (λ y. y == x) ids i d l))
      (fresh_push (list_any (λ y. y == x) (take i ids)) (get_or ids i d == x) n h)
  added_push ids i d x (Some t) n l h = subst (λ m. pushed m (get_or ids i d == x) s ≡ Some t) (sym h) refl

pub none_yet : (guesses : Bool) (plan : Plan) (kind : SourceKind) (x : ℕ) (o : Option MappedSource) →
    IsAdded guesses plan kind [] x o o
none_yet guesses plan kind x None = refl
none_yet guesses plan kind x (Some s) = refl

-- what fresh sources stand for
module _ (guesses : Bool) (plan : Plan) (x : ℕ) where
  from_fresh : (kind : SourceKind) (t : MappedSource) → plans.kind_of plan x ≡ Some kind →
      IsFresh guesses plan kind t → IsSource guesses plan [] x t
  from_fresh kind t k f = record {
    kind = k ∙ ap Some (sym f.kind_is);
    reads = f.reads ∙ ap (reads_by plan.order) (sym f.kind_is);
    says = f.says;
    list = f.list;
    guess = λ at b. f.guess at;
  }

  kinds : (i s : Bool) → list_any (λ y. y == x) plan.itm ≡ i → list_any (λ y. y == x) plan.stp ≡ s →
      plans.kind_of plan x ≡ cond i (Some Itm) (cond s (Some Stp) None)
  kinds i s e f = ap (λ b. cond b (Some Itm) (cond (list_any (λ y. y == x) plan.stp) (Some Stp) None)) e
      ∙ ap (λ b. cond i (Some Itm) (cond b (Some Stp) None)) f

  abbrev AddedIf : Bool → Option MappedSource → Option MappedSource → Type 0
  AddedIf s None b = FreshIf guesses plan Stp s b
  AddedIf s (Some t) b = b ≡ Some t

  by : (i s : Bool) (a b : Option MappedSource) →
      plans.kind_of plan x ≡ cond i (Some Itm) (cond s (Some Stp) None) → FreshIf guesses plan Itm i a →
      AddedIf s a b → StandsAt guesses plan [] x b
  by true s None b k f g = absurd f
  by true s (Some t) b k f g = subst (λ o. StandsAt guesses plan [] x o) (sym g) (from_fresh Itm t k f)
  by false true None None k f g = absurd g
  by false true None (Some t) k f g = from_fresh Stp t k g
  by false false None b k f g = subst (λ o. StandsAt guesses plan [] x o) (sym g) k
  by false s (Some t) b k f g = (let h : Some t ≡ None = f in cc)

  pub both : (a b : Option MappedSource) → IsAdded guesses plan Itm plan.itm x None a →
      IsAdded guesses plan Stp plan.stp x a b → StandsAt guesses plan [] x b
  both a b f g = by (list_any (λ y. y == x) plan.itm) (list_any (λ y. y == x) plan.stp) a b
      (kinds _ _ refl refl) f (same a b g) where
        same : (a b : Option MappedSource) → IsAdded guesses plan Stp plan.stp x a b →
            AddedIf (list_any (λ y. y == x) plan.stp) a b
        same None b g = g
        same (Some t) b g = g
