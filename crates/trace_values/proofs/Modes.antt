-- The laws of a machine, in each mode.
use Rattle.std.proofs.Common.{◌≡◌, ℕ, List, [], ◌++◌, ◌∷◌, ◌+◌, ◌-◌, ◌*◌, ◌≤◌, length, refl, arith, subst, sym, ap, ◌∙◌, None, Bool, true, false}
use Rattle.std.specs.Prelude.{is_none, ◌==◌, ◌&&◌}
use Rattle.trace_values.specs.declared.next.Next.{Next}
use Rattle.trace_values.specs.declared.next.Next.TheVariants.{Go}
use Rattle.trace_values.specs.declared.step.Step.TheVariants.{Skipping, Locked as StepLocked}
use Rattle.trace_values.specs.declared.mode.Mode.{Mode}
use Rattle.trace_values.specs.declared.mode.Mode.TheVariants.{Aligned, Hunting, Locked}
use Rattle.trace_values.specs.Placed.{Placed, byte_at}
use Rattle.trace_values.specs.Stream.{Shows, Settled, Rises, Grows}
use Rattle.trace_values.specs.declared.pattern.Pattern.{Pattern}
use Rattle.trace_values.specs.Hunted.{run_after}
use Rattle.trace_values.specs.Standing.{live_after, state_after}
use Rattle.trace_values.specs.Moded.{stream_in, hunts, is_locked, skipped_of, StandsIn}
use Rattle.trace_values.proofs.OneUnit.{step_on, RisesOn}
use Rattle.trace_values.proofs.Rising.{rises_one}
use Rattle.trace_values.proofs.Standings as lemmas
use Rattle.trace_values.proofs.HuntSteps as seeks

module _ {S V : Type 0} (p : Pattern) (v : V) (rule : S → Placed → Next S V) (start : S) where
  -- where the state counts the units of the rest, and a byte has at most two units
  pub shows_in : (count : S → ℕ) → count start ≡ 0 → ((s t : S) (b : Placed) → rule s b ≡ Go t → count t ≡ count s + 1) →
      (m : Mode) (live : Bool) (state : S) (u : List Placed) (bytes : ℕ) → length u ≤ 2 * bytes → StandsIn p v rule start m live state u →
      Shows live (is_locked m) (count state) (skipped_of m) bytes (stream_in p v rule start (hunts m) u)
  shows_in count none one Aligned live state u bytes most s = lemmas.Keeps-shows rule start count none one live state u bytes most s
  shows_in count none one (Hunting run skipped) live state u bytes most s =
      subst (λ (x : Bool). Shows x false (count state) skipped bytes (stream_in p v rule start true u)) (sym s.1)
      (subst (λ (n : ℕ). Shows true false n skipped bytes (stream_in p v rule start true u)) (sym (ap count s.2 ∙ none)) (seeks.Seeks-shows p v rule start count none one run skipped u bytes most s.0))
  shows_in count none one (Locked skipped) live state u bytes most s = seeks.Follows-shows p v rule start count none one skipped live state u bytes most s

  -- where the units are the bytes
  pub shows : (count : S → ℕ) → count start ≡ 0 → ((s t : S) (b : Placed) → rule s b ≡ Go t → count t ≡ count s + 1) →
      (m : Mode) (live : Bool) (state : S) (u : List Placed) → StandsIn p v rule start m live state u →
      Shows live (is_locked m) (count state) (skipped_of m) (length u) (stream_in p v rule start (hunts m) u)
  shows count none one m live state u s = shows_in count none one m live state u (length u) (omega arith) s

  pub begins : (h : Bool) → ((stream_in p v rule start h []).given ≡ []) × ((stream_in p v rule start h []).fault ≡ None)
  begins false = (refl, refl)
  begins true = (refl, refl)

  pub settles : (h : Bool) (u w : List Placed) → is_none (stream_in p v rule start h u).fault ≡ false → Settled (stream_in p v rule start h u) (stream_in p v rule start h (u ++ w))
  settles false u w e = lemmas.settles rule start u w e
  settles true u w e = seeks.settles p v rule start u w e

  pub rises_on : (h : Bool) (u : List Placed) (b : Placed) → RisesOn (stream_in p v rule start h u) (stream_in p v rule start h (u ++ b ∷ [])) b.place
  rises_on false u b = lemmas.rises rule start u b
  rises_on true u b = seeks.rises p v rule start u b

  -- where the units are the bytes
  pub rises : (h : Bool) (u : List Placed) (at byte : ℕ) → Rises (stream_in p v rule start h u) (stream_in p v rule start h (u ++ byte_at at byte ∷ [])) at
  rises h u at byte = rises_one (stream_in p v rule start h u) (stream_in p v rule start h (u ++ byte_at at byte ∷ [])) at (rises_on h u (byte_at at byte))

  -- a call in a hunt that seeks
  pub skips-list : (m : Mode) (run skipped : ℕ) (b : Placed) (live : Bool) (state : S) (u : List Placed) → m ≡ Hunting run skipped →
      (b.unit == p.last && run == p.most) ≡ false → StandsIn p v rule start m live state u → StandsIn p v rule start (Hunting (run_after p run b.unit) (skipped + 1)) live state (u ++ b ∷ [])
  skips-list m run skipped b live state u e f s =
      let t : StandsIn p v rule start (Hunting run skipped) live state u = subst (λ (x : Mode). StandsIn p v rule start x live state u) e s in
      (seeks.Seeks-fed p v rule start run skipped u b t.0 f, t.1, t.2)

  pub skips-step : (m : Mode) (run skipped : ℕ) (b : Placed) (live : Bool) (state : S) (u : List Placed) → m ≡ Hunting run skipped →
      (b.unit == p.last && run == p.most) ≡ false → StandsIn p v rule start m live state u →
      Grows (stream_in p v rule start (hunts m) u) (stream_in p v rule start (hunts m) (u ++ b ∷ [])) b.place.at Skipping
  skips-step m run skipped b live state u e f s =
      let t : StandsIn p v rule start (Hunting run skipped) live state u = subst (λ (x : Mode). StandsIn p v rule start x live state u) e s in
      subst (λ (x : Mode). Grows (stream_in p v rule start (hunts x) u) (stream_in p v rule start (hunts x) (u ++ b ∷ [])) b.place.at Skipping) (sym e)
      (seeks.Grows-skipping p v rule start run skipped u b t.0 f)

  pub locks-list : (m : Mode) (run skipped : ℕ) (b : Placed) (live : Bool) (state : S) (u : List Placed) → m ≡ Hunting run skipped →
      (b.unit == p.last && run == p.most) ≡ true → StandsIn p v rule start m live state u → StandsIn p v rule start (Locked (skipped - p.most)) live state (u ++ b ∷ [])
  locks-list m run skipped b live state u e f s =
      let t : StandsIn p v rule start (Hunting run skipped) live state u = subst (λ (x : Mode). StandsIn p v rule start x live state u) e s in
      subst (λ (x : Bool). StandsIn p v rule start (Locked (skipped - p.most)) x state (u ++ b ∷ [])) (sym t.1)
      (subst (λ (r : S). StandsIn p v rule start (Locked (skipped - p.most)) true r (u ++ b ∷ [])) (sym t.2)
      (seeks.Follows-now p v rule start run skipped u b t.0 f))

  pub locks-step : (m : Mode) (run skipped : ℕ) (b : Placed) (live : Bool) (state : S) (u : List Placed) → m ≡ Hunting run skipped →
      (b.unit == p.last && run == p.most) ≡ true → StandsIn p v rule start m live state u →
      Grows (stream_in p v rule start (hunts m) u) (stream_in p v rule start (hunts m) (u ++ b ∷ [])) b.place.at (StepLocked (skipped - p.most) b.place.half v)
  locks-step m run skipped b live state u e f s =
      let t : StandsIn p v rule start (Hunting run skipped) live state u = subst (λ (x : Mode). StandsIn p v rule start x live state u) e s in
      subst (λ (x : Mode). Grows (stream_in p v rule start (hunts x) u) (stream_in p v rule start (hunts x) (u ++ b ∷ [])) b.place.at (StepLocked (skipped - p.most) b.place.half v)) (sym e)
      (seeks.Grows-locked p v rule start run skipped u b t.0 f)

  -- a call in a reading
  pub reads-list : (m : Mode) (live : Bool) (state : S) (u : List Placed) (b : Placed) (live' : Bool) (state' : S) (n : Next S V) → live ≡ true → is_locked m ≡ true →
      n ≡ rule state b → live' ≡ live_after n → state' ≡ state_after start n state →
      StandsIn p v rule start m live state u → StandsIn p v rule start m live' state' (u ++ b ∷ [])
  reads-list Aligned live state u b live' state' n l k e f g s = lemmas.list_fed rule start u live state b live' state' n l e f g s
  reads-list (Hunting run skipped) live state u b live' state' n l k e f g s = cc
  reads-list (Locked skipped) live state u b live' state' n l k e f g s = seeks.Follows-fed p v rule start skipped live state u b live' state' n l e f g s

  pub reads-step : (m : Mode) (live : Bool) (state : S) (u : List Placed) (b : Placed) (n : Next S V) → live ≡ true → is_locked m ≡ true →
      n ≡ rule state b → StandsIn p v rule start m live state u →
      Grows (stream_in p v rule start (hunts m) u) (stream_in p v rule start (hunts m) (u ++ b ∷ [])) b.place.at (step_on b.place n)
  reads-step Aligned live state u b n l k e s = lemmas.step_fed rule start u live state b n l e s
  reads-step (Hunting run skipped) live state u b n l k e s = cc
  reads-step (Locked skipped) live state u b n l k e s = seeks.Grows-followed p v rule start skipped live state u b n l e s

  -- after a fault
  pub dead-list : (m : Mode) (live : Bool) (state : S) (u w : List Placed) → live ≡ false → StandsIn p v rule start m live state u → StandsIn p v rule start m live state (u ++ w)
  dead-list Aligned live state u w l s = lemmas.list_dead rule start u w live state l s
  dead-list (Hunting run skipped) live state u w l s = (let e = sym l ∙ s.1 in cc)
  dead-list (Locked skipped) live state u w l s = seeks.Follows-dead p v rule start skipped live state u w l s

pub reads_on : (m : Mode) → ((run skipped : ℕ) → m ≡ Hunting run skipped → ⊥) → is_locked m ≡ true
reads_on Aligned n = refl
reads_on (Hunting run skipped) n = absurd (n run skipped refl)
reads_on (Locked skipped) n = refl
