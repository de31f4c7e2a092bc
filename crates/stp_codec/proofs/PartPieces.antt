-- Bytes inside a packet are taken at once, wherever they are.
use Rattle.std.proofs.Common.{◌≡◌, ℕ, ◌+◌, ◌*◌, List, [], ◌∷◌, ◌++◌, length, take, refl, sym, ◌∙◌, ap, subst}
use Rattle.std.proofs.Common.{append_assoc, append-nil, arith, None, true}
use Rattle.std.proofs.lemmas.List.{take_all}
use Rattle.stp_codec.specs.Names.{Next, Go, End, Fail, Mode, Placed, units_of, nibbles_of, Walked, Within, after, walk}
use Rattle.stp_codec.specs.Names.{Stream, hunts, is_locked, Order, StpPacket, StpItem, Attribution, Partial, rule}
use Rattle.stp_codec.specs.Names.{count_of, Passes}
use Rattle.trace_values.proofs.NibbleModes as laws
use Rattle.stp_grammar.proofs.Counting.{counted_nibbles}
use Rattle.stp_codec.specs.Reading.{items_at, items_in}
use Rattle.stp_codec.specs.Wholes.{nibbles_in}
use Rattle.stp_codec.proofs.Between.{length-nibbles}
use Rattle.stp_codec.proofs.Passing.{sound_at}
use Rattle.stp_codec.proofs.PacketPieces.{units_nibbles}
use Rattle.stp_codec.proofs.Taking.{At, goes}

-- a state that nibbles lead to is counted
pub inside_count : (order : Order) (s t : Partial) (bytes : List ℕ) → walk (rule order) s (nibbles_in bytes) ≡ Within t → count_of t ≡ count_of s + 2 * length bytes
inside_count order s t bytes e = counted_nibbles order s t (nibbles_in bytes) e ∙ ap (λ n. count_of s + n) (length-nibbles bytes)

module _ (order : Order) (m : Mode) (a : Attribution) (locked : is_locked m ≡ true) where
  abbrev reading : List Placed → Stream StpItem
  reading n = items_at order (hunts m) n

  -- after nibbles that end no packet
  record IsInside (t : Partial) (old n : List Placed) : Type 0 where
    list : At order m true t a n
    given : (reading n).given ≡ (reading old).given

  none_within : (w : StpPacket) (t : Partial) (more : Partial → Walked Partial StpPacket) (units : List ℕ) → after (End w) more units ≡ Within t → ⊥
  none_within w t more [] e = cc
  none_within w t more (b ∷ units) e = cc

  inside : (w n : List Placed) (s t : Partial) → walk (rule order) s (units_of w) ≡ Within t → At order m true s a n → IsInside t n (n ++ w)
  inside [] n s t e h =
      let same : s ≡ t = cc in
      subst (IsInside t n) (sym (append-nil n)) (record { list = subst (λ x. At order m true x a n) same h; given = refl })
  inside (c ∷ w) n s t e h = by (rule order s c.unit) refl e (λ r f i. inside w (n ++ c ∷ []) r t f i) where
    by : (x : Next Partial StpPacket) → rule order s c.unit ≡ x → after x (λ r. walk (rule order) r (units_of w)) (units_of w) ≡ Within t →
        ((r : Partial) → walk (rule order) r (units_of w) ≡ Within t → At order m true r a (n ++ c ∷ []) → IsInside t (n ++ c ∷ []) ((n ++ c ∷ []) ++ w)) → IsInside t n (n ++ (c ∷ w))
    by (Go r) k f more =
        let g = goes order m true s a n c refl locked r (sym k) h in
        let p = more r f g.0 in
        subst (IsInside t n) (append_assoc n (c ∷ []) w) (record { list = p.list; given = p.given ∙ g.1.given ∙ append-nil (reading n).given })
    by (End x) k f more = absurd (none_within x t (λ r. walk (rule order) r (units_of w)) (units_of w) f)
    by (Fail r) k f more = cc

  pub inside_passes : (s t : Partial) (bytes : List ℕ) (u front : List Placed) (last : Placed) → walk (rule order) s (nibbles_in bytes) ≡ Within t → At order m true s a (nibbles_of u) →
      units_of (front ++ last ∷ []) ≡ take (length bytes) bytes → Passes (items_in order (hunts m)) (λ w. At order m true t a (nibbles_of w)) u front last None
  inside_passes s t bytes u front last e h units =
      let w : List Placed = front ++ last ∷ [] in
      let all : nibbles_of u ++ nibbles_of (front ++ last ∷ []) ≡ nibbles_of (u ++ (front ++ last ∷ [])) = sym (laws.nibbles_append u (front ++ last ∷ [])) in
      let walks : walk (rule order) s (units_of (nibbles_of (front ++ last ∷ []))) ≡ Within t =
      ap (walk (rule order) s) (units_nibbles (front ++ last ∷ []) ∙ ap nibbles_in (units ∙ take_all (length bytes) bytes (omega arith))) ∙ e in
      let p = inside (nibbles_of (front ++ last ∷ [])) (nibbles_of u) s t walks h in
      let list : At order m true t a (nibbles_of (u ++ (front ++ last ∷ []))) = subst (At order m true t a) all p.list in
      record {
        list = list;
        given = ap (λ n. (reading n).given) (sym all) ∙ p.given ∙ sym (append-nil (reading (nibbles_of u)).given);
        sound = sound_at order m true t a (nibbles_of (u ++ (front ++ last ∷ []))) refl list;
      }
