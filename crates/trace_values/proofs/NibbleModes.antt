-- The laws of a machine that reads bytes nibble by nibble, and makes other items of the values that it reads.
use Rattle.std.proofs.Common.{◌≡◌, ℕ, ◌+◌, ◌*◌, ◌<◌, ◌≤◌, List, [], ◌∷◌, ◌++◌, length, refl, sym, ◌∙◌, ap, arith, subst, Option, None, Some, Bool, true, false}
use Rattle.std.specs.Prelude.{is_none}
use Rattle.std.proofs.lemmas.Grind.{flat_map-append}
use Rattle.trace_values.specs.declared.fault.Reason.{Reason}
use Rattle.trace_values.specs.declared.next.Next.{Next}
use Rattle.trace_values.specs.declared.next.Next.TheVariants.{Go, Fail}
use Rattle.trace_values.specs.declared.mode.Mode.{Mode}
use Rattle.trace_values.specs.declared.fault.Fault.{Fault}
use Rattle.trace_values.specs.declared.step.Step.{Step}
use Rattle.trace_values.specs.declared.step.Step.TheVariants.{Fault as Faulty}
use Rattle.trace_values.specs.Placed.{Place, Placed, byte_at}
use Rattle.trace_values.specs.Nibbles.{low_of, high_of, nibbles_of}
use Rattle.trace_values.specs.Stream.{Stream, Shows, Settled, Holds, Rises, Grows}
use Rattle.trace_values.specs.declared.pattern.Pattern.{Pattern}
use Rattle.trace_values.specs.Moded.{stream_in, hunts, is_locked, skipped_of, StandsIn}
use Rattle.trace_values.specs.Decorated.{decorated}
use Rattle.trace_values.proofs.Falls as falling
use Rattle.trace_values.proofs.Modes as laws
use Rattle.trace_values.proofs.Rising.{rises_both}
use Rattle.trace_values.proofs.Nibbling.{both, IsPair, nibbles_push, grows_both, grows_fault}
use Rattle.trace_values.proofs.Decorating as decorating

pub length-nibbles : (u : List Placed) → length (nibbles_of u) ≡ 2 * length u
length-nibbles [] = refl
length-nibbles (b ∷ u) = let k = length-nibbles u in omega arith

pub nibbles_append : (u w : List Placed) → nibbles_of (u ++ w) ≡ nibbles_of u ++ nibbles_of w
nibbles_append u w = flat_map-append (λ x. low_of x.place.at x.unit ∷ (high_of x.place.at x.unit ∷ [])) u w

module _ {S V W T : Type 0} (p : Pattern) (v : V) (rule : S → Placed → Next S V) (start : S) (make : T → V → Option W × T) (first : T) where
  -- what nibbles and bytes read as
  abbrev pub on_nibbles : Bool → List Placed → Stream W
  on_nibbles h n = decorated make first (stream_in p v rule start h n)

  abbrev pub items_of : Bool → List Placed → Stream W
  items_of h u = on_nibbles h (nibbles_of u)

  pub shows : (count : S → ℕ) → count start ≡ 0 → ((s t : S) (b : Placed) → rule s b ≡ Go t → count t ≡ count s + 1) →
      (m : Mode) (live : Bool) (state : S) (u : List Placed) → StandsIn p v rule start m live state (nibbles_of u) →
      Shows live (is_locked m) (count state) (skipped_of m) (length u) (items_of (hunts m) u)
  shows count none one m live state u s =
      let k = laws.shows_in p v rule start count none one m live state (nibbles_of u) (length u) (let l = length-nibbles u in omega arith) s in
      record { live_is = k.live_is; locked_is = k.locked_is; held_is = k.held_is; skipped_is = k.skipped_is; room = k.room }

  pub begins : (h : Bool) → ((items_of h []).given ≡ []) × ((items_of h []).fault ≡ None)
  begins false = (refl, refl)
  begins true = (refl, refl)

  pub settles : (h : Bool) (u w : List Placed) → is_none (items_of h u).fault ≡ false → Settled (items_of h u) (items_of h (u ++ w))
  settles h u w e =
      subst (λ (n : List Placed). Settled (items_of h u) (on_nibbles h n)) (sym (nibbles_append u w))
      (decorating.settles make first (stream_in p v rule start h (nibbles_of u)) (stream_in p v rule start h (nibbles_of u ++ nibbles_of w)) (laws.settles p v rule start h (nibbles_of u) (nibbles_of w) e))

  pub rises : (h : Bool) (u : List Placed) (at byte : ℕ) → Rises (items_of h u) (items_of h (u ++ byte_at at byte ∷ [])) at
  rises h u at byte =
      let n = nibbles_of u in
      let m = nibbles_of u ++ low_of at byte ∷ [] in
      subst (λ (x : List Placed). Rises (items_of h u) (on_nibbles h x) at) (sym (nibbles_push u at byte))
      (rises_both (on_nibbles h n) (on_nibbles h m) (on_nibbles h (m ++ high_of at byte ∷ [])) at
      (decorating.rises_on make first (stream_in p v rule start h n) (stream_in p v rule start h m) (record { at = at; half = 0 }) (laws.rises_on p v rule start h n (low_of at byte)))
      (decorating.rises_on make first (stream_in p v rule start h m) (stream_in p v rule start h (m ++ high_of at byte ∷ [])) (record { at = at; half = 1 }) (laws.rises_on p v rule start h m (high_of at byte))))

  -- a byte's answer by those to its nibbles
  pub grows : (h : Bool) (u : List Placed) (at byte : ℕ) (s t : Step W) → IsPair s t →
      Grows (items_of h u) (on_nibbles h (nibbles_of u ++ low_of at byte ∷ [])) at s →
      Grows (on_nibbles h (nibbles_of u ++ low_of at byte ∷ [])) (on_nibbles h ((nibbles_of u ++ low_of at byte ∷ []) ++ high_of at byte ∷ [])) at t →
      Grows (items_of h u) (items_of h (u ++ byte_at at byte ∷ [])) at (both s t)
  grows h u at byte s t i a b =
      subst (λ (x : List Placed). Grows (items_of h u) (on_nibbles h x) at (both s t)) (sym (nibbles_push u at byte))
      (grows_both (items_of h u) (on_nibbles h (nibbles_of u ++ low_of at byte ∷ [])) (on_nibbles h ((nibbles_of u ++ low_of at byte ∷ []) ++ high_of at byte ∷ [])) at s t i a b)

  pub grows_fault_in : (h : Bool) (u : List Placed) (at byte : ℕ) (f : Fault) → is_none (on_nibbles h (nibbles_of u ++ low_of at byte ∷ [])).fault ≡ false →
      Grows (items_of h u) (on_nibbles h (nibbles_of u ++ low_of at byte ∷ [])) at (Faulty f) → Grows (items_of h u) (items_of h (u ++ byte_at at byte ∷ [])) at (Faulty f)
  grows_fault_in h u at byte f e g =
      let m = nibbles_of u ++ low_of at byte ∷ [] in
      subst (λ (x : List Placed). Grows (items_of h u) (on_nibbles h x) at (Faulty f)) (sym (nibbles_push u at byte))
      (grows_fault (items_of h u) (on_nibbles h m) (on_nibbles h (m ++ high_of at byte ∷ [])) at f
      (decorating.settles make first (stream_in p v rule start h m) (stream_in p v rule start h (m ++ high_of at byte ∷ [])) (laws.settles p v rule start h m (high_of at byte ∷ []) e)) g)

  two_held : (a b c : Stream W) → Holds 1 a b → Holds 1 b c → Holds 2 a c
  two_held a b c h k = record { given = k.given ∙ h.given; held = (let i = h.held in let j = k.held in omega arith); skipped = k.skipped ∙ h.skipped; locked = k.locked ∙ h.locked }

  -- where no value fails at its first nibble, the nibbles of a byte with a fault are held
  module _ (begins : (b : Placed) (e : Reason) → b.unit < 16 → rule start b ≡ Fail e → ⊥) where
    abbrev IsNibble : Placed → Type 0
    IsNibble b = b.unit < 16

    low_held : (h : Bool) (n : List Placed) (b c : Placed) (o : Option (Place × Reason)) → IsNibble c → (stream_in p v rule start h (n ++ b ∷ [])).fault ≡ o → is_none (stream_in p v rule start h ((n ++ b ∷ []) ++ c ∷ [])).fault ≡ false →
        Holds 1 (stream_in p v rule start h n) (stream_in p v rule start h (n ++ b ∷ []))
    low_held h n b c None i e k = falling.goes p v rule start IsNibble begins h n b c i e k
    low_held h n b c (Some f) i e k = falling.holds p v rule start h n b (ap is_none e)

    pub falls : (h : Bool) (u : List Placed) (at byte : ℕ) → is_none (items_of h (u ++ byte_at at byte ∷ [])).fault ≡ false → Holds 2 (items_of h u) (items_of h (u ++ byte_at at byte ∷ []))
    falls h u at byte k =
        let n = nibbles_of u in
        let m = nibbles_of u ++ low_of at byte ∷ [] in
        let f : is_none (stream_in p v rule start h (m ++ high_of at byte ∷ [])).fault ≡ false = ap (λ (x : List Placed). is_none (on_nibbles h x).fault) (sym (nibbles_push u at byte)) ∙ k in
        subst (λ (x : List Placed). Holds 2 (items_of h u) (on_nibbles h x)) (sym (nibbles_push u at byte))
        (two_held (on_nibbles h n) (on_nibbles h m) (on_nibbles h (m ++ high_of at byte ∷ []))
        (decorating.holds make first 1 (stream_in p v rule start h n) (stream_in p v rule start h m) (low_held h n (low_of at byte) (high_of at byte) (stream_in p v rule start h m).fault (omega arith) refl f))
        (decorating.holds make first 1 (stream_in p v rule start h m) (stream_in p v rule start h (m ++ high_of at byte ∷ [])) (falling.holds p v rule start h m (high_of at byte) f)))

    -- and a machine holds those before the fault's
    module _ (count : S → ℕ) (none : count start ≡ 0) (one : (s t : S) (b : Placed) → rule s b ≡ Go t → count t ≡ count s + 1) where
      keeps_by : (m : Mode) (live : Bool) (state : S) (n : List Placed) (b c : Placed) (o : Option (Place × Reason)) → IsNibble c → (stream_in p v rule start (hunts m) (n ++ b ∷ [])).fault ≡ o →
          StandsIn p v rule start m live state ((n ++ b ∷ []) ++ c ∷ []) → live ≡ false → (stream_in p v rule start (hunts m) n).fault ≡ None →
          ((stream_in p v rule start (hunts m) n).held ≤ count state) × (count state < (stream_in p v rule start (hunts m) n).held + 2)
      keeps_by m live state n b c None i e s l f =
          let shown = laws.shows_in p v rule start count none one m live state ((n ++ b ∷ []) ++ c ∷ []) (length ((n ++ b ∷ []) ++ c ∷ [])) (omega arith) s in
          let x = falling.keeps p v rule start count none one m live state (n ++ b ∷ []) c s l e in
          let j = (falling.goes p v rule start IsNibble begins (hunts m) n b c i e (sym shown.live_is ∙ l)).held in
          (omega (arith, x, j), omega (arith, x, j))
      keeps_by m live state n b c (Some x) i e s l f =
          let y = falling.keeps p v rule start count none one m live state n b (falling.before p v rule start m live state (n ++ b ∷ []) c (ap is_none e) s) l f in
          (omega (arith, y), omega (arith, y))

      pub keeps : (m : Mode) (live : Bool) (state : S) (u : List Placed) (at byte : ℕ) → StandsIn p v rule start m live state (nibbles_of (u ++ byte_at at byte ∷ [])) → live ≡ false →
          (items_of (hunts m) u).fault ≡ None → ((items_of (hunts m) u).held ≤ count state) × (count state < (items_of (hunts m) u).held + 2)
      keeps m live state u at byte s l f =
          keeps_by m live state (nibbles_of u) (low_of at byte) (high_of at byte) (stream_in p v rule start (hunts m) (nibbles_of u ++ low_of at byte ∷ [])).fault (omega arith) refl
          (subst (λ (x : List Placed). StandsIn p v rule start m live state x) (nibbles_push u at byte) s) l f
