-- Bytes of a hunt that are skipped at once.
use Rattle.std.proofs.Common.{◌≡◌, ℕ, ◌+◌, ◌*◌, List, [], ◌∷◌, ◌++◌, length, refl, sym, ap, subst, arith}
use Rattle.std.proofs.Common.{append_assoc, append-nil, Bool, true, None, Option}
use Rattle.stp_codec.specs.Names.{Placed, units_of, nibbles_of, by_unit, Hunting, Found, hunt, hunted_by, run_after}
use Rattle.stp_codec.specs.Names.{decorated, Order, StpPacket, Async, Partial, Start, rule, Attribution, attribute}
use Rattle.trace_values.proofs.NibbleModes as laws
use Rattle.stp_codec.specs.Hunting.{Skips}
use Rattle.stp_codec.specs.Reading.{pattern, items_at}
use Rattle.stp_codec.specs.Wholes.{nibbles_in}
use Rattle.stp_codec.proofs.PacketPieces.{units_nibbles}
use Rattle.stp_codec.proofs.Taking.{At, skips}

-- after these nibbles these are skipped too
pub skips_on : (a b : List ℕ) (run mid after : ℕ) → Skips run a mid → Skips mid b after → Skips run (a ++ b) after
skips_on [] b run mid after s t = subst (λ (n : ℕ). Skips n b after) (sym s) t
skips_on (x ∷ a) b run mid after s t = (s.0, skips_on a b (run_after pattern run x) mid after s.1 t)

module _ (order : Order) (live : Bool) (partial : Partial) (a : Attribution) where
  -- what is kept of a hunt
  abbrev pub Hunts : ℕ → ℕ → List Placed → Type 0
  Hunts run skipped n = At order (Hunting run skipped) live partial a n

  -- all of these nibbles are skipped
  nibbles_on : (w n : List Placed) (run skipped after : ℕ) → Skips run (units_of w) after → Hunts run skipped n →
      Hunts after (skipped + length w) (n ++ w)
  nibbles_on [] n run skipped after s k =
      subst (λ (l : List Placed). Hunts after (skipped + 0) l) (sym (append-nil n))
      (subst (λ (i : ℕ). Hunts after i n) (let e : skipped ≡ skipped + 0 = omega arith in e)
      (subst (λ (i : ℕ). Hunts i skipped n) s k))
  nibbles_on (b ∷ w) n run skipped after s k =
      let one = (skips order (Hunting run skipped) live partial a n b run skipped refl
      (run_after pattern run b.unit) refl s.0 k).0 in
      subst (λ (l : List Placed). Hunts after (skipped + length (b ∷ w)) l) (append_assoc n (b ∷ []) w)
      (subst (λ (i : ℕ). Hunts after i ((n ++ b ∷ []) ++ w))
      (let e : skipped + 1 + length w ≡ skipped + length (b ∷ w) = omega arith in e)
      (nibbles_on w (n ++ b ∷ []) (run_after pattern run b.unit) (skipped + 1) after s.1 one))

  -- and those of bytes
  pub bytes_on : (u w : List Placed) (run skipped after : ℕ) → Skips run (nibbles_in (units_of w)) after →
      Hunts run skipped (nibbles_of u) → Hunts after (skipped + 2 * length w) (nibbles_of (u ++ w))
  bytes_on u w run skipped after s k =
      subst (λ (l : List Placed). Hunts after (skipped + 2 * length w) l) (sym (laws.nibbles_append u w))
      (subst (λ (i : ℕ). Hunts after (skipped + i) (nibbles_of u ++ nibbles_of w)) (laws.length-nibbles w)
      (nibbles_on (nibbles_of w) (nibbles_of u) run skipped after
      (subst (λ (l : List ℕ). Skips run l after) (sym (units_nibbles w)) s) k))

  -- a hunt has given nothing, and is no fault
  pub none_given : (run skipped : ℕ) (n : List Placed) → Hunts run skipped n →
      ((items_at order true n).given ≡ []) × ((items_at order true n).fault ≡ None)
  none_given run skipped n k =
      let units = (hunt pattern Async (by_unit (rule order)) Start n).units in (
        ap (λ (o : Option (Found Partial StpPacket)). (decorated attribute [] (hunted_by units o)).given) k.0.0.none,
        ap (λ (o : Option (Found Partial StpPacket)). (hunted_by units o).fault) k.0.0.none,
      )
