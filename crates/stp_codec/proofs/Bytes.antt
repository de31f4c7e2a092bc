-- A byte by its two nibbles.
use Rattle.std.proofs.Common.{◌≡◌, ℕ, ◌%◌, ◌/◌, ◌<◌, arith, List, [], ◌∷◌, ◌++◌, refl, sym, ◌∙◌, ap, subst, ◌⊎◌, inl}
use Rattle.std.proofs.Common.{inr, Bool, true, false}
use Rattle.std.specs.Prelude.{is_none}
use Rattle.trace_values.specs.declared.fault.Fault.{Fault}
use Rattle.stp_codec.specs.Names.{Step, Quiet, Skipping, Item, Locked, Fault as Faulty, Placed, byte_at, nibbles_of}
use Rattle.stp_codec.specs.Names.{low_of, high_of, by_unit, Grows, hunts, carried, Order, Async, StpItem, Partial}
use Rattle.stp_codec.specs.Names.{Start, rule, count_of, attribute, goes_on, Stands as Attributes}
use Rattle.trace_values.proofs.Modes as modes
use Rattle.trace_values.proofs.NibbleModes as laws
use Rattle.trace_values.proofs.Nibbling.{both, IsPair, nibbles_push}
use Rattle.stp_grammar.proofs.Counting.{counts_placed}
use Rattle.stp_codec.specs.declared.decoder.StpDecoder.{StpDecoder}
use Rattle.stp_codec.specs.Reading.{pattern, packets_in, packets_of, items_at, items_in, rest_in}
use Rattle.stp_codec.specs.Answers.{AnswersNibble, AnswersByte}
use Rattle.stp_codec.specs.Decoder.{ReadsAt, Reads, nibble_at, EndsItem}

-- the high nibble of a byte
pub high_is : (at byte : ℕ) → byte < 256 → nibble_at at 1 (byte / 16) ≡ high_of at byte
high_is at byte h = ap (nibble_at at 1) (let e : byte / 16 ≡ byte / 16 % 16 = omega arith in e)

-- the list of a byte's nibbles is that of the byte
pub of_byte : (d : StpDecoder) (u : List Placed) (at byte : ℕ) → byte < 256 → ReadsAt d ((nibbles_of u ++ low_of at byte ∷ []) ++ nibble_at at 1 (byte / 16) ∷ []) → Reads d (u ++ byte_at at byte ∷ [])
of_byte d u at byte h s =
    subst (ReadsAt d) (ap (λ b. (nibbles_of u ++ low_of at byte ∷ []) ++ b ∷ []) (high_is at byte h) ∙ sym (nibbles_push u at byte)) s

-- the answer is an item or a lock
abbrev pub IsGiven : Step StpItem → Type 0
IsGiven s = ((half : ℕ) × (v : StpItem) × (s ≡ Item half v)) ⊎ ((skipped : ℕ) × (half : ℕ) × (v : StpItem) × (s ≡ Locked skipped half v))

pub ended : (s : Step StpItem) (p : Partial) (l : Bool) → IsGiven s → EndsItem s p l → (p ≡ Start) × (l ≡ true)
ended s p l (inl g) e = subst (λ x. EndsItem x p l) g.2 e
ended s p l (inr g) e = subst (λ x. EndsItem x p l) g.3 e

pub given_goes : (s : Step StpItem) → IsGiven s → goes_on s ≡ true
given_goes s (inl g) = ap goes_on g.2
given_goes s (inr g) = ap goes_on g.3

module _ (order order' : Order) (h h' : Bool) (u : List Placed) (at byte : ℕ) (same : (order' ≡ order) × (h' ≡ h)) (s t : Step StpItem)
    (low : Grows (items_at order h (nibbles_of u)) (items_at order h (nibbles_of u ++ low_of at byte ∷ [])) at s)
    (small : byte < 256)
    (high : Grows (items_at order' h' (nibbles_of u ++ low_of at byte ∷ [])) (items_at order' h' ((nibbles_of u ++ low_of at byte ∷ []) ++ nibble_at at 1 (byte / 16) ∷ [])) at t) where
  high_same : Grows (items_at order h (nibbles_of u ++ low_of at byte ∷ [])) (items_at order h ((nibbles_of u ++ low_of at byte ∷ []) ++ high_of at byte ∷ [])) at t
  high_same =
      let m = nibbles_of u ++ low_of at byte ∷ [] in
      subst (λ (o : Order). Grows (items_at o h m) (items_at o h (m ++ high_of at byte ∷ [])) at t) same.0
      (subst (λ (x : Bool). Grows (items_at order' x m) (items_at order' x (m ++ high_of at byte ∷ [])) at t) same.1
      (subst (λ b. Grows (items_at order' h' m) (items_at order' h' (m ++ b ∷ [])) at t) (high_is at byte small) high))

  pub grows_pair : IsPair s t → Grows (items_in order h u) (items_in order h (u ++ byte_at at byte ∷ [])) at (both s t)
  grows_pair p = laws.grows pattern Async (by_unit (rule order)) Start attribute [] h u at byte s t p low high_same

  pub grows_high : (s ≡ Quiet) ⊎ (s ≡ Skipping) → Grows (items_in order h u) (items_in order h (u ++ byte_at at byte ∷ [])) at t
  grows_high e = subst (λ (x : Step StpItem). Grows (items_in order h u) (items_in order h (u ++ byte_at at byte ∷ [])) at x) (two s t e).1 (grows_pair (two s t e).0) where
    two : (s t : Step StpItem) → (s ≡ Quiet) ⊎ (s ≡ Skipping) → IsPair s t × (both s t ≡ t)
    two s t (inl e) = (subst (λ x. IsPair x t) (sym e) tt, ap (λ x. both x t) e)
    two s t (inr e) = (subst (λ x. IsPair x t) (sym e) tt, ap (λ x. both x t) e)

  pub grows_low : IsGiven s → t ≡ Quiet → Grows (items_in order h u) (items_in order h (u ++ byte_at at byte ∷ [])) at s
  grows_low g e = subst (λ (x : Step StpItem). Grows (items_in order h u) (items_in order h (u ++ byte_at at byte ∷ [])) at x) (two s t g e).1 (grows_pair (two s t g e).0) where
    two : (s t : Step StpItem) → IsGiven s → t ≡ Quiet → IsPair s t × (both s t ≡ s)
    two s t (inl g) e = (subst (λ x. IsPair x t) (sym g.2) e, ap (λ x. both x t) g.2 ∙ sym g.2)
    two s t (inr g) e = (subst (λ x. IsPair x t) (sym g.3) e, ap (λ x. both x t) g.3 ∙ sym g.3)

-- where a fault stands in the low nibble
pub grows_faulty : (order : Order) (h : Bool) (u : List Placed) (at byte : ℕ) (s : Step StpItem) (f : Fault) → s ≡ Faulty f →
    Grows (items_at order h (nibbles_of u)) (items_at order h (nibbles_of u ++ low_of at byte ∷ [])) at s → Grows (items_in order h u) (items_in order h (u ++ byte_at at byte ∷ [])) at s
grows_faulty order h u at byte s f e g =
    let k : Grows (items_at order h (nibbles_of u)) (items_at order h (nibbles_of u ++ low_of at byte ∷ [])) at (Faulty f) = subst (λ (x : Step StpItem). Grows (items_at order h (nibbles_of u)) (items_at order h (nibbles_of u ++ low_of at byte ∷ [])) at x) e g in
    subst (λ (x : Step StpItem). Grows (items_in order h u) (items_in order h (u ++ byte_at at byte ∷ [])) at x) (sym e)
    (laws.grows_fault_in pattern Async (by_unit (rule order)) Start attribute [] h u at byte f (ap is_none k.fault) k)

-- after a fault in the low nibble
pub faulty_list : (d : StpDecoder) (u : List Placed) (at byte : ℕ) → d.live ≡ false → ReadsAt d (nibbles_of u ++ low_of at byte ∷ []) → Reads d (u ++ byte_at at byte ∷ [])
faulty_list d u at byte l s =
    let m = nibbles_of u ++ low_of at byte ∷ [] in
    subst (ReadsAt d) (sym (nibbles_push u at byte)) (
      modes.dead-list pattern Async (by_unit (rule d.order)) Start d.mode d.live d.partial m (high_of at byte ∷ []) l s.0,
      subst (Attributes d.attribution) (sym (ap (λ g. carried attribute [] g) (modes.settles pattern Async (by_unit (rule d.order)) Start (hunts d.mode) m (high_of at byte ∷ []) (fault_is d m l s)).given)) s.1,
    )
  where
    fault_is : (d : StpDecoder) (m : List Placed) → d.live ≡ false → ReadsAt d m → is_none (packets_in d.order (hunts d.mode) m).fault ≡ false
    fault_is d m l s = sym (modes.shows pattern Async (by_unit (rule d.order)) Start count_of refl (counts_placed d.order) d.mode d.live d.partial m s.0).live_is ∙ l

-- what a nibble says, by what it is
module _ (order : Order) (h : Bool) (n : List Placed) (at byte : ℕ) where
  abbrev Low : Step StpItem → Type 0
  Low s = AnswersNibble order (packets_of order h n) (rest_in order h n ++ low_of at byte ∷ []) (low_of at byte).place s (packets_of order h (n ++ low_of at byte ∷ [])) (rest_in order h (n ++ low_of at byte ∷ []))

  abbrev High : Order → Bool → Step StpItem → Type 0
  High order' h' t =
      let m = n ++ low_of at byte ∷ [] in
      AnswersNibble order' (packets_of order' h' m) (rest_in order' h' m ++ nibble_at at 1 (byte / 16) ∷ []) (nibble_at at 1 (byte / 16)).place t
      (packets_of order' h' (m ++ nibble_at at 1 (byte / 16) ∷ [])) (rest_in order' h' (m ++ nibble_at at 1 (byte / 16) ∷ []))

  abbrev Byte : Step StpItem → Type 0
  Byte step = AnswersByte order (packets_of order h n) (rest_in order h n) at byte step

  pub high_answer : (s t : Step StpItem) (order' : Order) (h' : Bool) → byte < 256 → (order' ≡ order) × (h' ≡ h) → (s ≡ Quiet) ⊎ (s ≡ Skipping) → Low s → High order' h' t → Byte t
  high_answer s t order' h' small same (inr e) a b = absurd (subst Low e a)
  high_answer s t order' h' small same (inl e) a b =
      let m = n ++ low_of at byte ∷ [] in
      let g : High order h t = subst (λ (o : Order). High o h t) same.0 (subst (λ (x : Bool). High order' x t) same.1 b) in (
        Quiet,
        packets_of order h m,
        rest_in order h m,
        subst Low e a,
        (
          packets_of order h (m ++ nibble_at at 1 (byte / 16) ∷ []),
          rest_in order h (m ++ nibble_at at 1 (byte / 16) ∷ []),
          subst (λ (b : Placed). AnswersNibble order (packets_of order h m) (rest_in order h m ++ b ∷ []) (nibble_at at 1 (byte / 16)).place t (packets_of order h (m ++ nibble_at at 1 (byte / 16) ∷ [])) (rest_in order h (m ++ nibble_at at 1 (byte / 16) ∷ []))) (high_is at byte small) g,
        ),
      )

  pub low_answer : (s t : Step StpItem) (order' : Order) (h' : Bool) → byte < 256 → (order' ≡ order) × (h' ≡ h) → IsGiven s → t ≡ Quiet → Low s → High order' h' t → Byte s
  low_answer s t order' h' small same (inr g) q a b = absurd (subst Low g.3 a)
  low_answer s t order' h' small same (inl g) q a b =
      let m = n ++ low_of at byte ∷ [] in
      let w : High order h Quiet = subst (λ (o : Order). High o h Quiet) same.0 (subst (λ (x : Bool). High order' x Quiet) same.1 (subst (λ (x : Step StpItem). High order' h' x) q b)) in (
        Item g.0 g.1,
        packets_of order h m,
        rest_in order h m,
        subst Low g.2 a,
        (
          g.2,
          packets_of order h (m ++ nibble_at at 1 (byte / 16) ∷ []),
          rest_in order h (m ++ nibble_at at 1 (byte / 16) ∷ []),
          subst (λ (b : Placed). AnswersNibble order (packets_of order h m) (rest_in order h m ++ b ∷ []) (nibble_at at 1 (byte / 16)).place Quiet (packets_of order h (m ++ nibble_at at 1 (byte / 16) ∷ [])) (rest_in order h (m ++ nibble_at at 1 (byte / 16) ∷ []))) (high_is at byte small) w,
        ),
      )

  pub fault_answer : (s : Step StpItem) (f : Fault) → s ≡ Faulty f → Low s → Byte s
  fault_answer s f e a = (Faulty f, packets_of order h (n ++ low_of at byte ∷ []), rest_in order h (n ++ low_of at byte ∷ []), subst Low e a, e)
