-- Bytes that end a packet are taken at once, wherever they are.
use Rattle.std.proofs.Common.{◌≡◌, ℕ, zero, suc, ◌+◌, ◌-◌, ◌*◌, ◌/◌, ◌%◌, ◌<◌, ◌≤◌, List, [], ◌∷◌, ◌++◌, length, take}
use Rattle.std.proofs.Common.{get_or, refl, sym, ◌∙◌, ap, subst, append_assoc, append-nil, arith, Option, None, Some}
use Rattle.std.proofs.Common.{true, ◌⊎◌, inl, inr}
use Rattle.std.proofs.lemmas.List.{take_more}
use Rattle.stp_codec.specs.Names.{item_at, Mode, Placed, units_of, nibbles_of, low_of, high_of, Whole, walk, Go, Stream}
use Rattle.stp_codec.specs.Names.{given_by, given_after, hunts, is_locked, Order, StpPacket, StpItem, Attribution}
use Rattle.stp_codec.specs.Names.{Partial, Start, rule, item_of, Stands as Attributes, Passes}
use Rattle.trace_values.proofs.Decorating.{item_step}
use Rattle.trace_values.proofs.NibbleModes as laws
use Rattle.trace_values.proofs.Placing.{units_push}
use Rattle.stp_codec.specs.Reading.{items_at, items_in}
use Rattle.stp_codec.specs.Wholes.{nibbles_in, between, Ends, left_of, IsQuiet}
use Rattle.stp_codec.proofs.Between.{length-nibbles, low_nibble, high_nibble}
use Rattle.stp_codec.proofs.Taking.{At}
use Rattle.stp_codec.proofs.Passing.{passed}

pub units_nibbles : (u : List Placed) → units_of (nibbles_of u) ≡ nibbles_in (units_of u)
units_nibbles [] = refl
units_nibbles (b ∷ u) = ap (λ l. b.unit % 16 ∷ (b.unit / 16 % 16 ∷ l)) (units_nibbles u)

pub take_nibbles : (k : ℕ) (bytes : List ℕ) → nibbles_in (take k bytes) ≡ take (2 * k) (nibbles_in bytes)
take_nibbles zero bytes = refl
take_nibbles (suc k) [] = ap (λ n. take n (nibbles_in [])) (let e : suc (suc (2 * k)) ≡ 2 * suc k = omega arith in e)
take_nibbles (suc k) (b ∷ bytes) =
    ap (λ l. b % 16 ∷ (b / 16 % 16 ∷ l)) (take_nibbles k bytes)
    ∙ ap (λ n. take n (b % 16 ∷ (b / 16 % 16 ∷ nibbles_in bytes))) (let e : suc (suc (2 * k)) ≡ 2 * suc k = omega arith in e)

given_item : (at half : ℕ) (o : Option StpItem) → given_by at (item_step half o) ≡ given_after at (item_at half o)
given_item at half None = refl
given_item at half (Some item) = refl

-- the nibbles of bytes of which this is the last
pub nibbles_last : (u front : List Placed) (last : Placed) →
    nibbles_of (u ++ (front ++ last ∷ [])) ≡ ((nibbles_of u ++ nibbles_of front) ++ low_of last.place.at last.unit ∷ []) ++ high_of last.place.at last.unit ∷ []
nibbles_last u front last =
    let low = low_of last.place.at last.unit in
    let high = high_of last.place.at last.unit in
    laws.nibbles_append u (front ++ last ∷ [])
    ∙ ap (λ l. nibbles_of u ++ l) (laws.nibbles_append front (last ∷ []))
    ∙ sym (append_assoc (nibbles_of u) (nibbles_of front) (low ∷ (high ∷ [])))
    ∙ sym (append_assoc (nibbles_of u ++ nibbles_of front) (low ∷ []) (high ∷ []))

-- the last of some bytes, and those before it
pub split : (front : List Placed) (last : Placed) (k : ℕ) (bytes : List ℕ) → k < length bytes → units_of (front ++ last ∷ []) ≡ take (k + 1) bytes →
    (units_of front ≡ take k bytes) × (last.unit ≡ get_or bytes k 0)
split front last k bytes h e = by front k bytes h (e ∙ ap (λ n. take n bytes) (let q : k + 1 ≡ suc k = omega arith in q)) where
  by : (front : List Placed) (k : ℕ) (bytes : List ℕ) → k < length bytes → units_of (front ++ last ∷ []) ≡ take (suc k) bytes →
      (units_of front ≡ take k bytes) × (last.unit ≡ get_or bytes k 0)
  by front k [] h e = absurd (omega arith)
  by [] zero (b ∷ bytes) h e = (refl, let q : last.unit ≡ b = cc in q)
  by [] (suc k) (b ∷ []) h e = absurd (omega arith)
  by [] (suc k) (b ∷ (c ∷ bytes)) h e = cc
  by (f ∷ []) zero (b ∷ bytes) h e = cc
  by (f ∷ (g ∷ front)) zero (b ∷ bytes) h e = cc
  by (f ∷ front) (suc k) (b ∷ bytes) h e =
      let one : f.unit ≡ b = cc in
      let more : units_of (front ++ last ∷ []) ≡ take (suc k) bytes = cc in
      let r = by front k bytes (omega arith) more in
      (ap (λ x. x ∷ units_of front) one ∙ ap (λ l. b ∷ l) r.0, r.1)

module _ (order : Order) (m : Mode) (a : Attribution) (locked : is_locked m ≡ true) (v : StpPacket) (o : Option StpItem) (b : Attribution)
    (keeps : (ps : List StpPacket) → Attributes a ps → Attributes b (ps ++ v ∷ [])) (is : (ps : List StpPacket) → Attributes a ps → o ≡ item_of (ps ++ v ∷ []) v)
    (now : List Placed → Type 0) (u front : List Placed) (last : Placed) (piece : List ℕ) (s : Partial) (stands : At order m true s a (nibbles_of u)) where
  abbrev reading : List Placed → Stream StpItem
  reading n = items_at order (hunts m) n

  abbrev at : ℕ
  at = last.place.at

  abbrev low : Placed
  low = low_of at last.unit

  abbrev high : Placed
  high = high_of at last.unit

  -- nibbles before the last byte
  abbrev early : List Placed
  early = nibbles_of front

  abbrev all : List Placed
  all = nibbles_of (u ++ (front ++ last ∷ []))

  -- all bytes up to this one, where they are taken
  taken : (half : ℕ) → now all → (reading all).given ≡ (reading (nibbles_of u)).given ++ given_by at (item_step half o) → (reading all).fault ≡ None →
      Passes (items_in order (hunts m)) (λ w. now (nibbles_of w)) u front last (item_at half o)
  taken half list given fault = record {
    list = list;
    given = given ∙ ap (λ l. (reading (nibbles_of u)).given ++ l) (given_item at half o);
    sound = fault;
  }

  module _ (k : ℕ) (h : k < length piece) (front_is : units_of front ≡ take k piece) (last_is : last.unit ≡ get_or piece k 0) where
    early_is : units_of early ≡ take (2 * k) (nibbles_in piece)
    early_is = units_nibbles front ∙ ap nibbles_in front_is ∙ take_nibbles k piece

    low_units : units_of early ++ low.unit ∷ [] ≡ take (2 * k + 1) (nibbles_in piece)
    low_units =
        let l = length-nibbles piece in
        ap (λ z. z ++ low.unit ∷ []) early_is ∙ ap (λ z. take (2 * k) (nibbles_in piece) ++ z ∷ []) (ap (λ x. x % 16) last_is ∙ sym (low_nibble piece k h))
        ∙ sym (take_more (nibbles_in piece) (2 * k) 0 (omega (arith, l, h)))

    high_units : units_of (early ++ low ∷ []) ++ high.unit ∷ [] ≡ take (2 * k + 2) (nibbles_in piece)
    high_units =
        let l = length-nibbles piece in
        ap (λ z. z ++ high.unit ∷ []) (units_push early low ∙ low_units)
        ∙ ap (λ z. take (2 * k + 1) (nibbles_in piece) ++ z ∷ []) (ap (λ x. x / 16 % 16) last_is ∙ sym (high_nibble piece k h))
        ∙ sym (take_more (nibbles_in piece) (2 * k + 1) 0 (omega (arith, l, h))) ∙ ap (λ n. take n (nibbles_in piece)) (let e : 2 * k + 1 + 1 ≡ 2 * k + 2 = omega arith in e)

    abbrev low_end : List Placed
    low_end = (nibbles_of u ++ early) ++ low ∷ []

    -- a packet that ends in the low nibble of its last byte
    low_passes : walk (rule order) s (take (2 * k + 1) (nibbles_in piece)) ≡ Whole v →
        ((n : List Placed) → At order m true Start b n → now (n ++ high ∷ [])) → ((n : List Placed) → At order m true Start b n → IsQuiet (reading n) (reading (n ++ high ∷ []))) →
        Passes (items_in order (hunts m)) (λ w. now (nibbles_of w)) u front last (item_at 0 o)
    low_passes e list quiet =
        let p = passed order m a locked v o b keeps is early (nibbles_of u) low s (ap (walk (rule order) s) low_units ∙ e) stands in
        let q = quiet low_end p.list in
        let all_is = nibbles_last u front last in
        taken 0 (subst now (sym all_is) (list low_end p.list)) (ap (λ l. (reading l).given) all_is ∙ q.0 ∙ p.given) (ap (λ l. (reading l).fault) all_is ∙ q.1)

    -- and one that ends in the high one
    high_passes : walk (rule order) s (take (2 * k + 2) (nibbles_in piece)) ≡ Whole v → ((n : List Placed) → At order m true Start b n → now (n ++ [])) →
        Passes (items_in order (hunts m)) (λ w. now (nibbles_of w)) u front last (item_at 1 o)
    high_passes e list =
        let p = passed order m a locked v o b keeps is (early ++ low ∷ []) (nibbles_of u) high s (ap (walk (rule order) s) high_units ∙ e) stands in
        let whole : List Placed = (nibbles_of u ++ (early ++ low ∷ [])) ++ high ∷ [] in
        let all_is : all ≡ (nibbles_of u ++ (early ++ low ∷ [])) ++ high ∷ [] =
        nibbles_last u front last ∙ ap (λ l. l ++ high ∷ []) (append_assoc (nibbles_of u) early (low ∷ [])) in
        taken 1 (subst now (append-nil ((nibbles_of u ++ (early ++ low ∷ [])) ++ high ∷ []) ∙ sym all_is) (list ((nibbles_of u ++ (early ++ low ∷ [])) ++ high ∷ []) p.list))
        (ap (λ l. (reading l).given) all_is ∙ p.given) (ap (λ l. (reading l).fault) all_is ∙ p.fault)

  halves : (n : ℕ) → 0 < n → (((n - 1) % 2 ≡ 0) × (2 * ((n - 1) / 2) + 1 ≡ n)) ⊎ (((n - 1) % 2 ≡ 1) × (2 * ((n - 1) / 2) + 2 ≡ n))
  halves n h = grind arith

  -- one that takes this many nibbles, by its half
  pub packet_passes : (n : ℕ) → 0 < n → n ≤ 2 * length piece → Ends order (Go s) (between (nibbles_in piece) 0 n) v → units_of (front ++ last ∷ []) ≡ take ((n - 1) / 2 + 1) piece →
      ((at : ℕ) (w : List Placed) → At order m true Start b w → now (w ++ left_of ((n - 1) % 2) at (get_or piece ((n - 1) / 2) 0))) →
      ((at : ℕ) (w : List Placed) → At order m true Start b w → IsQuiet (reading w) (reading (w ++ left_of ((n - 1) % 2) at (get_or piece ((n - 1) / 2) 0)))) →
      Passes (items_in order (hunts m)) (λ w. now (nibbles_of w)) u front last (item_at ((n - 1) % 2) o)
  packet_passes n some most e units list quiet =
      let k = (n - 1) / 2 in
      let h : k < length piece = omega arith in
      let p = split front last k piece h units in
      let whole : walk (rule order) s (take n (nibbles_in piece)) ≡ Whole v = ap (λ i. walk (rule order) s (take i (nibbles_in piece))) (let z : n ≡ n - 0 = omega arith in z) ∙ e in
      let lists : (w : List Placed) → At order m true Start b w → now (w ++ left_of ((n - 1) % 2) at last.unit) = λ w t. subst (λ x. now (w ++ left_of ((n - 1) % 2) at x)) (sym p.1) (list at w t) in
      let quiets : (w : List Placed) → At order m true Start b w → IsQuiet (reading w) (reading (w ++ left_of ((n - 1) % 2) at last.unit)) =
      λ w t. subst (λ x. IsQuiet (reading w) (reading (w ++ left_of ((n - 1) % 2) at x))) (sym p.1) (quiet at w t) in
      elim (halves n some) [
        | inl c ↦
            subst (λ half. Passes (items_in order (hunts m)) (λ w. now (nibbles_of w)) u front last (item_at half o)) (sym c.0)
            (low_passes k h p.0 p.1 (ap (λ i. walk (rule order) s (take i (nibbles_in piece))) c.1 ∙ whole)
            (λ w t. subst (λ half. now (w ++ left_of half at last.unit)) c.0 (lists w t)) (λ w t. subst (λ half. IsQuiet (reading w) (reading (w ++ left_of half at last.unit))) c.0 (quiets w t)))
        | inr c ↦
            subst (λ half. Passes (items_in order (hunts m)) (λ w. now (nibbles_of w)) u front last (item_at half o)) (sym c.0)
            (high_passes k h p.0 p.1 (ap (λ i. walk (rule order) s (take i (nibbles_in piece))) c.1 ∙ whole) (λ w t. subst (λ half. now (w ++ left_of half at last.unit)) c.0 (lists w t)))
      ]
