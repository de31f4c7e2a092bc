-- The decoder's answer is the grammar's, and its hunt is one for the pattern.
use Rattle.std.proofs.Common.{◌≡◌, ◌≢◌, ℕ, List, [], ◌∷◌, ◌++◌, refl, sym, ◌∙◌, ap, subst, inl, inr, arith, Option, None, Some, Bool, true, false}
use Rattle.itm_codec.specs.Names.{Next, Go, End, Fail, Mode, Aligned, Hunting, Locked, Place, Placed, units_of, byte_at}
use Rattle.itm_codec.specs.Names.{InUnits, by_unit, Decides, Progress, progress, Notice, shown, pattern_of, hunt}
use Rattle.itm_codec.specs.Names.{hunted_by, StandsIn, hunts, is_locked, ItmPacket, Sync, Partial, Header, Spells, why}
use Rattle.itm_codec.specs.Names.{rule}
use Rattle.trace_values.specs.Hunted.{Found}
use Rattle.trace_values.specs.Standing.{Keeps}
use Rattle.trace_values.proofs.Placing.{on_units}
use Rattle.trace_values.proofs.OneUnit.{Says, step_on}
use Rattle.trace_values.proofs.Answering.{says}
use Rattle.trace_values.proofs.HuntedLemmas as hunting
use Rattle.itm_grammar.proofs.Deciding.{decided}
use Rattle.itm_codec.specs.Reading.{pattern, packets_in, rest_found, rest_in, IsHunt}
use Rattle.itm_codec.specs.Answers.{AnswersBy}

placed_decided : Decides (InUnits Spells) (λ x. why (units_of x)) (by_unit rule) Header
placed_decided = on_units rule Spells why Header decided

zero_is_not_last : pattern.unit ≢ pattern.last
zero_is_not_last e = omega (arith, e)

-- the pattern spells a synchronisation packet
spelled : (w : List Placed) → units_of w ≡ pattern_of pattern → InUnits Spells Sync w
spelled w e = (5, omega arith, e)

knows : (u : List Placed) → hunting.Knows (InUnits Spells) (λ x. why (units_of x)) (by_unit rule) Header placed_decided pattern Sync zero_is_not_last spelled u (hunt pattern Sync (by_unit rule) Header u)
knows u = hunting.knows (InUnits Spells) (λ x. why (units_of x)) (by_unit rule) Header placed_decided pattern Sync zero_is_not_last spelled u

-- the place of a byte
abbrev place_at : ℕ → Place
place_at at = record { at = at; half = 0 }

by_next : (n : Next Partial ItmPacket) (at : ℕ) (r : List Placed) → Says (InUnits Spells) (λ x. why (units_of x)) n r → AnswersBy (step_on (place_at at) n) at r
by_next (Go s) at r h = h
by_next (End v) at r h = (refl, h)
by_next (Fail e) at r h = (refl, refl, h.1, h.0)

answers_on : (u : List Placed) (live : Bool) (partial : Partial) (at byte : ℕ) (n : Next Partial ItmPacket) → live ≡ true → n ≡ rule partial byte →
    Keeps live partial (progress (by_unit rule) Header u) → AnswersBy (step_on (place_at at) n) at ((progress (by_unit rule) Header u).rest ++ byte_at at byte ∷ [])
answers_on u live partial at byte n l e s =
    by_next n at ((progress (by_unit rule) Header u).rest ++ byte_at at byte ∷ [])
    (says (InUnits Spells) (λ x. why (units_of x)) (by_unit rule) Header placed_decided u live partial (byte_at at byte) n l e s)

-- after the lock the reading is that of a list's end
pub locked_reading : (u : List Placed) (f : Found Partial ItmPacket) → (hunt pattern Sync (by_unit rule) Header u).found ≡ Some f → (w : List Placed) × (f.reading ≡ progress (by_unit rule) Header w)
locked_reading u f e =
    let known : hunting.Knew (InUnits Spells) (λ x. why (units_of x)) (by_unit rule) Header placed_decided pattern Sync zero_is_not_last spelled u (hunt pattern Sync (by_unit rule) Header u).run (Some f) =
    subst (λ o. hunting.Knew (InUnits Spells) (λ x. why (units_of x)) (by_unit rule) Header placed_decided pattern Sync zero_is_not_last spelled u (hunt pattern Sync (by_unit rule) Header u).run o) e (knows u).found in
    (known.1, known.5)

pub answers : (m : Mode) (live : Bool) (partial : Partial) (u : List Placed) (at byte : ℕ) (n : Next Partial ItmPacket) → live ≡ true → is_locked m ≡ true → n ≡ rule partial byte →
    StandsIn pattern Sync (by_unit rule) Header m live partial u → AnswersBy (step_on (place_at at) n) at (rest_in (hunts m) u ++ byte_at at byte ∷ [])
answers Aligned live partial u at byte n l k e s = answers_on u live partial at byte n l e s
answers (Hunting run skipped) live partial u at byte n l k e s = cc
answers (Locked skipped) live partial u at byte n l k e s =
    let known = locked_reading u s.found s.some in
    subst (λ (rest : List Placed). AnswersBy (step_on (place_at at) n) at (rest ++ byte_at at byte ∷ []))
    (sym (ap (λ o. rest_found o) s.some ∙ ap (λ (q : Progress Partial ItmPacket). q.rest) known.1))
    (answers_on known.0 live partial at byte n l e (subst (λ (q : Progress Partial ItmPacket). Keeps live partial q) known.1 s.stands))

-- the stream of a hunt is one
pub hunt_is : (u : List Placed) → IsHunt u (packets_in true u)
hunt_is u = by_found (hunt pattern Sync (by_unit rule) Header u).found refl (knows u).found where
  by_found : (o : Option (Found Partial ItmPacket)) → (hunt pattern Sync (by_unit rule) Header u).found ≡ o →
      hunting.Knew (InUnits Spells) (λ x. why (units_of x)) (by_unit rule) Header placed_decided pattern Sync zero_is_not_last spelled u (hunt pattern Sync (by_unit rule) Header u).run (hunt pattern Sync (by_unit rule) Header u).found →
      IsHunt u (packets_in true u)
  by_found None e k =
      let none : hunting.Knew (InUnits Spells) (λ x. why (units_of x)) (by_unit rule) Header placed_decided pattern Sync zero_is_not_last spelled u (hunt pattern Sync (by_unit rule) Header u).run None =
      subst (λ o. hunting.Knew (InUnits Spells) (λ x. why (units_of x)) (by_unit rule) Header placed_decided pattern Sync zero_is_not_last spelled u (hunt pattern Sync (by_unit rule) Header u).run o) e k in
      inl (
        none.0,
        ap (λ o. hunted_by (hunt pattern Sync (by_unit rule) Header u).units o) e
            ∙ ap (λ (n : ℕ). record { given = []; fault = None; held = 0; skipped = n; locked = false }) (knows u).units,
      )
  by_found (Some f) e k =
      let known : hunting.Knew (InUnits Spells) (λ x. why (units_of x)) (by_unit rule) Header placed_decided pattern Sync zero_is_not_last spelled u (hunt pattern Sync (by_unit rule) Header u).run (Some f) =
      subst (λ o. hunting.Knew (InUnits Spells) (λ x. why (units_of x)) (by_unit rule) Header placed_decided pattern Sync zero_is_not_last spelled u (hunt pattern Sync (by_unit rule) Header u).run o) e k in
      inr (
        known.0,
        known.1,
        f.place,
        known.2,
        known.3,
        ap (λ o. hunted_by (hunt pattern Sync (by_unit rule) Header u).units o) e
            ∙ ap (λ (q : Progress Partial ItmPacket). shown ((Notice f.skipped, f.place) ∷ []) f.skipped q) known.5
            ∙ ap (λ (n : ℕ). shown ((Notice n, f.place) ∷ []) n (progress (by_unit rule) Header known.1)) (sym known.4),
        (known.6.0, sym (ap (λ (q : Progress Partial ItmPacket). q.items) known.5) ∙ known.6.1),
      )
