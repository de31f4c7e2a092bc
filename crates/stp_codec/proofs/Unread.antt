-- Nibbles that end nothing, and what comes after them.
use Rattle.std.proofs.Common.{◌≡◌, ℕ, zero, suc, ◌+◌, ◌-◌, ◌*◌, ◌/◌, ◌%◌, ◌<◌, ◌≤◌, List, [], ◌∷◌, ◌++◌, length, take}
use Rattle.std.proofs.Common.{drop, get_or, refl, sym, ◌∙◌, ap, append-nil, arith, Bool, true, false}
use Rattle.std.specs.Prelude.{nat_lt}
use Rattle.std.proofs.lemmas.Bool.Decides.{nat_tests}
use Rattle.std.proofs.lemmas.List.{take_all, take-append-drop, take-append-le, length-take-le}
use Rattle.std.proofs.Math.Seq.{take-append-add, take-append_seam}
use Rattle.std.proofs.lemmas.Grind.{flat_map-append}
use Rattle.stp_codec.specs.Names.{Next, Go, End, Fail, Walked, Within, Whole, after, walk, Order, StpPacket, Partial}
use Rattle.stp_codec.specs.Names.{rule}
use Rattle.trace_values.proofs.Walks.{walk_more, walk_beyond}
use Rattle.stp_codec.specs.Wholes.{nibbles_in, between, state_of, reached, Ends, Fronts, GoesOn}
use Rattle.stp_codec.specs.Cuts.{Leads}
use Rattle.stp_codec.proofs.Between.{length-nibbles, between_first, between_parts}
use Rattle.stp_codec.proofs.PacketPieces.{take_nibbles}

pub nibbles_append : (a b : List ℕ) → nibbles_in (a ++ b) ≡ nibbles_in a ++ nibbles_in b
nibbles_append a b = flat_map-append (λ x. x % 16 ∷ (x / 16 % 16 ∷ [])) a b

pub take_fewer : (m q : ℕ) (x : List ℕ) → m ≤ q → take m (take q x) ≡ take m x
take_fewer zero q x h = refl
take_fewer (suc m) zero x h = absurd (omega arith)
take_fewer (suc m) (suc q) [] h = refl
take_fewer (suc m) (suc q) (b ∷ x) h = ap (λ r. b ∷ r) (take_fewer m q x (omega arith))

-- bytes copied behind so many
module _ (held new window ahead : List ℕ) (w : ℕ) (h : w ≤ length held) (e : take (w + 24) new ≡ take w held ++ window) where
  pub copied_front : take w new ≡ take w held
  copied_front =
      sym (take_fewer w (w + 24) new (omega arith)) ∙ ap (take w) e
      ∙ ap (λ n. take n (take w held ++ window)) (sym (length-take-le w held h)) ∙ take-append_seam (take w held) window

  pub copied : (k : ℕ) → k ≤ 24 → window ≡ take 24 ahead → take (w + k) new ≡ take w new ++ take k ahead
  copied k few same =
      sym (take_fewer (w + k) (w + 24) new (omega (arith, few))) ∙ ap (take (w + k)) e
      ∙ ap (λ i. take (i + k) (take w held ++ window)) (sym (length-take-le w held h))
      ∙ take-append-add (take w held) window k
      ∙ ap (λ z. take w held ++ z) (ap (take k) same ∙ take_fewer k 24 ahead few)
      ∙ ap (λ z. z ++ take k ahead) (sym copied_front)

-- fewer of some elements, the next one, and the others
split_at : (x : List ℕ) (k m : ℕ) → k < m → k < length x → (c : ℕ) × (r : List ℕ) × (take m x ≡ take k x ++ c ∷ r)
split_at [] k m h l = absurd (omega arith)
split_at (b ∷ x) k zero h l = absurd (omega arith)
split_at (b ∷ x) zero (suc m) h l = (b, take m x, refl)
split_at (b ∷ x) (suc k) (suc m) h l =
    let r = split_at x k m (omega arith) (omega arith) in
    (r.0, r.1, ap (λ z. b ∷ z) r.2)

module _ (order : Order) where
  after_front : (x : Next Partial StpPacket) (k l : Partial → Walked Partial StpPacket) (a : List ℕ) (c : ℕ) (b : List ℕ) (v : StpPacket) →
      ((t : Partial) → k t ≡ Whole v → l t ≡ Within (state_of (l t))) → after x k (a ++ (c ∷ b)) ≡ Whole v → after x l a ≡ Within (state_of (after x l a))
  after_front (Go t) k l a c b v h e = h t e
  after_front (End w) k l [] c b v h e = cc
  after_front (End w) k l (d ∷ a) c b v h e = cc
  after_front (Fail f) k l a c b v h e = cc

  -- what is before the last nibble of a packet ends nothing
  front_within : (s : Partial) (a : List ℕ) (c : ℕ) (b : List ℕ) (v : StpPacket) → walk (rule order) s (a ++ (c ∷ b)) ≡ Whole v → Fronts order s a
  front_within s [] c b v e = refl
  front_within s (d ∷ a) c b v e =
      after_front (rule order s d) (λ t. walk (rule order) t (a ++ (c ∷ b))) (λ t. walk (rule order) t a) a c b v
      (λ t h. front_within t a c b v h) e

  -- fewer nibbles than end a packet end nothing
  pub fewer_front : (s : Partial) (x : List ℕ) (k m : ℕ) (v : StpPacket) → k < m → k < length x →
      Ends order (Go s) (between x 0 m) v → Fronts order s (take k x)
  fewer_front s x k m v h l e =
      let p = split_at x k m h l in
      let z : m - 0 ≡ m = omega arith in
      front_within s (take k x) p.0 p.1 v (ap (walk (rule order) s) (sym p.2 ∙ ap (λ n. take n x) (sym z)) ∙ e)

  -- the walk after nibbles that end nothing
  front_on : (s : Partial) (a b : List ℕ) → Fronts order s a → walk (rule order) s (a ++ b) ≡ walk (rule order) (reached order s a) b
  front_on s a b f = walk_more (rule order) s (reached order s a) a b f

  pub reached_on : (s : Partial) (a b : List ℕ) → Fronts order s a → reached order s (a ++ b) ≡ reached order (reached order s a) b
  reached_on s a b f = ap (λ (w : Walked Partial StpPacket). state_of w) (front_on s a b f)

  pub fronts_on : (s : Partial) (a b : List ℕ) → Fronts order s a → Fronts order (reached order s a) b → Fronts order s (a ++ b)
  fronts_on s a b f g = front_on s a b f ∙ g ∙ ap (λ (t : Partial). Within t) (sym (reached_on s a b f))

  -- and the other way
  pub fronts_behind : (s : Partial) (a b : List ℕ) → Fronts order s a → Fronts order s (a ++ b) → Fronts order (reached order s a) b
  fronts_behind s a b f g = sym (front_on s a b f) ∙ g ∙ ap (λ (t : Partial). Within t) (reached_on s a b f)

  pub reached_none : (s : Partial) (held : List ℕ) (n : ℕ) → n ≡ 0 → reached order s (nibbles_in (take n held)) ≡ s
  reached_none s held n e = ap (λ (k : ℕ). reached order s (nibbles_in (take k held))) e

  whole_within : (s t : Partial) (a b : List ℕ) (v : StpPacket) → walk (rule order) s a ≡ Whole v → walk (rule order) s (a ++ b) ≡ Within t → ⊥
  whole_within s t a [] v e f = (let g = sym e ∙ ap (walk (rule order) s) (sym (append-nil a)) ∙ f in cc)
  whole_within s t a (c ∷ b) v e f = (let g = sym (walk_beyond (rule order) s v a c b e) ∙ f in cc)

  -- bytes that wait, and those behind them, of which so many nibbles end a packet
  module _ (s : Partial) (wait ahead window : List ℕ) (n : ℕ) (v : StpPacket) (few : length wait ≤ 24) (most : n ≤ 48)
      (parts : window ≡ wait ++ take (24 - length wait) ahead) (fronts : Fronts order s (nibbles_in wait)) (ends : Ends order (Go s) (between (nibbles_in window) 0 n) v) where
    abbrev behind : List ℕ
    behind = nibbles_in (take (24 - length wait) ahead)

    abbrev w : ℕ
    w = length (nibbles_in wait)

    whole : walk (rule order) s (take n (nibbles_in wait ++ behind)) ≡ Whole v
    whole =
        let z : n - 0 ≡ n = omega arith in
        ap (λ k. walk (rule order) s (take k (nibbles_in wait ++ behind))) (sym z)
        ∙ ap (λ r. walk (rule order) s (take (n - 0) r)) (sym (ap nibbles_in parts ∙ nibbles_append wait (take (24 - length wait) ahead))) ∙ ends

    -- those that wait end nothing
    pub some_behind : 2 * length wait < n
    some_behind = by (nat_lt (2 * length wait) n) refl where
      l : w ≡ 2 * length wait
      l = length-nibbles wait

      early : n ≤ w → ⊥
      early h =
          whole_within s (reached order s (nibbles_in wait)) (take n (nibbles_in wait)) (drop n (nibbles_in wait)) v
          (ap (walk (rule order) s) (sym (take-append-le n (nibbles_in wait) behind h)) ∙ whole)
          (ap (walk (rule order) s) (take-append-drop n (nibbles_in wait)) ∙ fronts)

      by : (t : Bool) → nat_lt (2 * length wait) n ≡ t → 2 * length wait < n
      by true e = grind (arith, nat_tests)
      by false e = absurd (early (let k : n ≤ 2 * length wait = grind (arith, nat_tests) in omega (arith, k, l)))

    pub ends_behind : Ends order (Go (reached order s (nibbles_in wait))) (between (nibbles_in ahead) 0 (n - 2 * length wait)) v
    ends_behind =
        let l = length-nibbles wait in
        let b = some_behind in
        let m = n - 2 * length wait in
        let all : w + m ≡ n = omega (arith, l, b) in
        let fits : m ≤ 2 * (24 - length wait) = omega (arith, few, most) in
        let z : m - 0 ≡ m = omega arith in
        let first : take n (nibbles_in wait ++ behind) ≡ nibbles_in wait ++ take (m - 0) (nibbles_in ahead) =
        ap (λ k. take k (nibbles_in wait ++ behind)) (sym all) ∙ take-append-add (nibbles_in wait) behind m
        ∙ ap (λ r. nibbles_in wait ++ r) (ap (take m) (take_nibbles (24 - length wait) ahead) ∙ take_fewer m (2 * (24 - length wait)) (nibbles_in ahead) fits ∙ ap (λ k. take k (nibbles_in ahead)) (sym z)) in
        sym (front_on s (nibbles_in wait) (take (m - 0) (nibbles_in ahead)) fronts) ∙ ap (walk (rule order) s) (sym first) ∙ whole

  after_goes : (x : Next Partial StpPacket) (k : Partial → Walked Partial StpPacket) (r : List ℕ) (t : Partial) → after x k r ≡ Within t → GoesOn x
  after_goes (Go s) k r t e = (s, refl)
  after_goes (End v) k [] t e = cc
  after_goes (End v) k (b ∷ r) t e = cc
  after_goes (Fail f) k r t e = cc

  -- of nibbles that end nothing, each goes on
  pub next_goes : (s t : Partial) (xs : List ℕ) (i : ℕ) → i < length xs → Fronts order s xs → Leads order s (between xs 0 i) (Go t) → GoesOn (rule order t (get_or xs i 0))
  next_goes s t xs i h f k =
      let z : 0 + i ≡ i = omega arith in
      let all : xs ≡ between xs 0 i ++ between xs i (length xs) =
      sym (take_all (length xs - 0) xs (omega arith)) ∙ between_parts xs i 0 (length xs) (omega (arith, h)) (omega (arith, h)) ∙ ap (λ j. between xs 0 j ++ between xs j (length xs)) z in
      let rest : between xs i (length xs) ≡ get_or xs i 0 ∷ between xs (i + 1) (length xs) = between_first xs i (length xs) h h in
      after_goes (rule order t (get_or xs i 0)) (λ r. walk (rule order) r (between xs (i + 1) (length xs))) (between xs (i + 1) (length xs)) (reached order s xs)
      (ap (walk (rule order) t) (sym rest) ∙ sym (walk_more (rule order) s t (between xs 0 i) (between xs i (length xs)) k) ∙ ap (walk (rule order) s) (sym all) ∙ f)
