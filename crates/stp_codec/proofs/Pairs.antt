-- A byte after a list of nibbles, by its two nibbles.
use Rattle.std.proofs.Common.{◌≡◌, ℕ, ◌/◌, ◌<◌, List, [], ◌∷◌, ◌++◌, refl, sym, ◌∙◌, ap, subst}
use Rattle.std.proofs.Common.{append_assoc, append-nil, ◌⊎◌, inl, inr, Bool, true, false, None}
use Rattle.trace_values.specs.declared.fault.Fault.{Fault}
use Rattle.stp_codec.specs.Names.{Step, Quiet, Skipping, Fault as Faulty, Placed, low_of, high_of, Grows}
use Rattle.stp_codec.specs.Names.{fault_by, goes_on, Order, StpItem}
use Rattle.trace_values.proofs.Nibbling.{both, IsPair, grows_both}
use Rattle.stp_codec.specs.declared.decoder.StpDecoder.{StpDecoder}
use Rattle.stp_codec.specs.Reading.{items_at}
use Rattle.stp_codec.specs.Decoder.{StandsAt, ReadsAt, IsSettled, order_of, is_hunter, nibble_at}
use Rattle.stp_codec.specs.Nibbles.{IsHalf, TakesNibbles, taken_by, before_by, nibbles_to, nibbles_before}
use Rattle.stp_codec.proofs.Bytes.{high_is, IsGiven}
use Rattle.stp_codec.proofs.Taken.{same_order, to_stands}

taken_high : (at byte : ℕ) (s : Step StpItem) → IsHalf 1 s →
    taken_by at byte s ≡ low_of at byte ∷ (high_of at byte ∷ [])
taken_high at byte (Faulty f) e = ap (λ k. nibbles_to k at byte) e
taken_high at byte x e = refl

before_high : (at byte : ℕ) (s : Step StpItem) → IsHalf 1 s → before_by at byte s ≡ low_of at byte ∷ []
before_high at byte (Faulty f) e = ap (λ k. nibbles_before k at byte) e
before_high at byte x e = refl

given_half : (s : Step StpItem) → IsGiven s → IsHalf 1 s
given_half s (inl g) = subst (λ x. IsHalf 1 x) (sym g.2) tt
given_half s (inr g) = subst (λ x. IsHalf 1 x) (sym g.3) tt

module _ (d m e : StpDecoder) (n : List Placed) (at byte : ℕ) (small : byte < 256) (same : (order_of m ≡ order_of d)
    × (is_hunter m ≡ is_hunter d))
    (s t : Step StpItem) (settled : IsSettled e)
    (list : ReadsAt e ((n ++ low_of at byte ∷ []) ++ nibble_at at 1 (byte / 16) ∷ []))
    (low : Grows (items_at (order_of d) (is_hunter d) n)
    (items_at (order_of d) (is_hunter d) (n ++ low_of at byte ∷ [])) at s)
    (high : Grows (items_at (order_of m) (is_hunter m) (n ++ low_of at byte ∷ []))
    (items_at (order_of m) (is_hunter m) ((n ++ low_of at byte ∷ []) ++ nibble_at at 1 (byte / 16) ∷ [])) at
    t) where
  abbrev mid : List Placed
  mid = n ++ low_of at byte ∷ []

  abbrev all : List Placed
  all = mid ++ high_of at byte ∷ []

  at_high : all ≡ n ++ (low_of at byte ∷ (high_of at byte ∷ []))
  at_high = append_assoc n (low_of at byte ∷ []) (high_of at byte ∷ [])

  stands : StandsAt e all
  stands = to_stands e settled all (subst (λ b. ReadsAt e (mid ++ b ∷ [])) (high_is at byte small) list)

  high_same : Grows (items_at (order_of d) (is_hunter d) mid) (items_at (order_of d) (is_hunter d) all) at t
  high_same =
      subst (λ (o : Order). Grows (items_at o (is_hunter d) mid) (items_at o (is_hunter d) all) at t) same.0
      (subst (λ (x : Bool). Grows (items_at (order_of m) x mid) (items_at (order_of m) x all) at t) same.1
      (subst (λ b. Grows (items_at (order_of m) (is_hunter m) mid)
      (items_at (order_of m) (is_hunter m) (mid ++ b ∷ [])) at t) (high_is at byte small) high))

  abbrev Made : Step StpItem → Type 0
  Made x = TakesNibbles d e n at byte x

  made : (x : Step StpItem) → IsHalf 1 x → Grows (items_at (order_of d) (is_hunter d) n)
      (items_at (order_of d) (is_hunter d) all) at x →
      (items_at (order_of d) (is_hunter d) mid).fault ≡ None → Made x
  made x h g f = record {
    list = subst (λ w. StandsAt e (n ++ w)) (sym (taken_high at byte x h)) (subst (StandsAt e) at_high stands);
    grows = subst (λ w. Grows (items_at (order_of d) (is_hunter d) n)
        (items_at (order_of d) (is_hunter d) (n ++ w)) at x) (sym (taken_high at byte x h))
        (subst (λ w. Grows (items_at (order_of d) (is_hunter d) n)
        (items_at (order_of d) (is_hunter d) w) at x) at_high g);
    sound = subst (λ w. (items_at (order_of d) (is_hunter d) (n ++ w)).fault ≡ None) (sym (before_high at byte x h)) f;
  }

  pair : IsPair s t → Grows (items_at (order_of d) (is_hunter d) n)
      (items_at (order_of d) (is_hunter d) all) at (both s t)
  pair p = grows_both (items_at (order_of d) (is_hunter d) n) (items_at (order_of d) (is_hunter d) mid)
      (items_at (order_of d) (is_hunter d) all) at s t p low high_same

  pub by_high : (s ≡ Quiet) ⊎ (s ≡ Skipping) → IsHalf 1 t → Made t
  by_high e h = made t h
      (subst (λ x. Grows (items_at (order_of d) (is_hunter d) n) (items_at (order_of d) (is_hunter d) all) at x)
      (two e).1 (pair (two e).0)) (low.fault ∙ none e) where
        two : (s ≡ Quiet) ⊎ (s ≡ Skipping) → IsPair s t × (both s t ≡ t)
        two (inl e) = (subst (λ x. IsPair x t) (sym e) tt, ap (λ x. both x t) e)
        two (inr e) = (subst (λ x. IsPair x t) (sym e) tt, ap (λ x. both x t) e)

        none : (s ≡ Quiet) ⊎ (s ≡ Skipping) → fault_by at s ≡ None
        none (inl e) = ap (fault_by at) e
        none (inr e) = ap (fault_by at) e

  pub by_low : IsGiven s → t ≡ Quiet → Made s
  by_low g e = made s (given_half s g) (subst
      (λ x. Grows (items_at (order_of d) (is_hunter d) n) (items_at (order_of d) (is_hunter d) all) at x) (two g).1
      (pair (two g).0)) (low.fault ∙ none g) where
        two : IsGiven s → IsPair s t × (both s t ≡ s)
        two (inl g) = (subst (λ x. IsPair x t) (sym g.2) e, ap (λ x. both x t) g.2 ∙ sym g.2)
        two (inr g) = (subst (λ x. IsPair x t) (sym g.3) e, ap (λ x. both x t) g.3 ∙ sym g.3)

        none : IsGiven s → fault_by at s ≡ None
        none (inl g) = ap (fault_by at) g.2
        none (inr g) = ap (fault_by at) g.3

-- where the low nibble is the fault
pub by_fault : (d e : StpDecoder) (n : List Placed) (at byte : ℕ) (s : Step StpItem) (f : Fault) → s ≡ Faulty f →
    IsHalf 0 s → IsSettled e → ReadsAt e (n ++ low_of at byte ∷ []) →
    (items_at (order_of d) (is_hunter d) n).fault ≡ None →
    Grows (items_at (order_of d) (is_hunter d) n)
    (items_at (order_of d) (is_hunter d) (n ++ low_of at byte ∷ [])) at s → TakesNibbles d e n at byte s
by_fault d e n at byte s f is h settled list none g = subst (λ x. TakesNibbles d e n at byte x) (sym is) (record {
  list = subst (λ k. StandsAt e (n ++ nibbles_to k at byte)) (sym zero_is)
      (to_stands e settled (n ++ low_of at byte ∷ []) list);
  grows = subst (λ k. Grows (items_at (order_of d) (is_hunter d) n)
      (items_at (order_of d) (is_hunter d) (n ++ nibbles_to k at byte)) at (Faulty f)) (sym zero_is)
      (subst (λ x. Grows (items_at (order_of d) (is_hunter d) n)
      (items_at (order_of d) (is_hunter d) (n ++ low_of at byte ∷ [])) at x) is g);
  sound = subst (λ k. (items_at (order_of d) (is_hunter d) (n ++ nibbles_before k at byte)).fault ≡ None)
      (sym zero_is)
      (ap (λ w. (items_at (order_of d) (is_hunter d) w).fault) (append-nil n) ∙ none);
}) where
  zero_is : f.half ≡ 0
  zero_is = subst (λ x. IsHalf 0 x) is h

-- a decoder in this order, which hunts where this one does, takes them as it does
pub takes_same : (d q e : StpDecoder) (n : List Placed) (at byte : ℕ) (s : Step StpItem) →
    (order_of q ≡ order_of d) × (is_hunter q ≡ is_hunter d) → TakesNibbles q e n at byte s →
    TakesNibbles d e n at byte s
takes_same d q e n at byte s same t = record {
  list = t.list;
  grows = same_order d q same (λ o h. Grows (items_at o h n) (items_at o h (n ++ taken_by at byte s)) at s) t.grows;
  sound = same_order d q same (λ o h. (items_at o h (n ++ before_by at byte s)).fault ≡ None) t.sound;
}

-- In a hunt that has not locked no answer is a fault.
pub no_fault : (order : Order) (n w : List Placed) (at : ℕ) (s : Step StpItem) →
    (items_at order true n).locked ≡ false → Grows (items_at order true n) (items_at order true w) at s →
    goes_on s ≡ true
no_fault order n w at (Faulty f) l g = (let k : true ≡ false = sym g.hunt.1 ∙ l in cc)
no_fault order n w at x l g = refl

taken_all : (at byte : ℕ) (s : Step StpItem) → goes_on s ≡ true →
    taken_by at byte s ≡ low_of at byte ∷ (high_of at byte ∷ [])
taken_all at byte (Faulty f) e = cc
taken_all at byte x e = refl

-- a new one that hunts, with a byte
pub hunts_pair : (d e : StpDecoder) (at byte : ℕ) (s : Step StpItem) → is_hunter d ≡ true →
    TakesNibbles d e [] at byte s → StandsAt e (low_of at byte ∷ (high_of at byte ∷ [])) × (goes_on s ≡ true)
hunts_pair d e at byte s h t = (subst (StandsAt e) (taken_all at byte s on) t.list, on) where
  on : goes_on s ≡ true
  on = no_fault (order_of d) [] (taken_by at byte s) at s refl
      (subst (λ x. Grows (items_at (order_of d) x []) (items_at (order_of d) x (taken_by at byte s)) at s) h t.grows)
