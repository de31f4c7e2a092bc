-- One nibble more of a packet, and all of them.
use Rattle.std.proofs.Common.{◌≡◌, ℕ, ◌+◌, ◌-◌, ◌*◌, ◌<◌, ◌≤◌, List, [], ◌∷◌, ◌++◌, length, get_or, refl, sym, ◌∙◌}
use Rattle.std.proofs.Common.{ap, subst, arith, true}
use Rattle.std.specs.Prelude.{nat_le}
use Rattle.std.proofs.lemmas.Bool.Decides.{nat_tests}
use Rattle.std.proofs.lemmas.List.{take_all}
use Rattle.stp_codec.specs.Names.{Next, Go, End, Within, after, walk, Order, StpPacket, Async}
use Rattle.stp_codec.specs.Names.{Partial, Run}
use Rattle.stp_codec.specs.Names.{rule}
use Rattle.trace_values.proofs.Walks.{walk_more}
use Rattle.stp_codec.specs.Wholes.{nibbles_in, between}
use Rattle.stp_codec.specs.Cuts.{Leads}
use Rattle.stp_codec.proofs.Between.{length-nibbles, between_first, between_none, between_parts}

pub run_ends : (order : Order) (count : ℕ) → 21 ≤ count → rule order (Run count) 0 ≡ End Async
run_ends order count h = let t : nat_le 21 count ≡ true = grind (arith, nat_tests) in rw t refl

module _ (order : Order) (s : Partial) (xs : List ℕ) where
  -- some nibbles more
  more_leads : (t : Partial) (start end : ℕ) (next : Next Partial StpPacket) → start ≤ end → end ≤ length xs →
      Leads order s (between xs 0 start) (Go t) → Leads order t (between xs start end) next → Leads order s (between xs 0 end) next
  more_leads t start end next h l e k =
      let z : 0 + start ≡ start = omega arith in
      ap (walk (rule order) s) (between_parts xs start 0 end (omega (arith, h)) (omega (arith, h, l)) ∙ ap (λ k. between xs 0 k ++ between xs k end) z)
      ∙ walk_more (rule order) s t (between xs 0 start) (between xs start end) e ∙ k

  -- one nibble more
  pub nibble_leads : (t : Partial) (start b : ℕ) (next : Next Partial StpPacket) → start < length xs → b ≡ get_or xs start 0 → rule order t b ≡ next →
      Leads order s (between xs 0 start) (Go t) → Leads order s (between xs 0 (start + 1)) next
  nibble_leads t start b next h e n k =
      more_leads t start (start + 1) next (omega arith) (omega (arith, h)) k
      (ap (walk (rule order) t) (between_first xs start (start + 1) (omega arith) h ∙ ap (λ r. get_or xs start 0 ∷ r) (between_none xs (start + 1)) ∙ ap (λ z. z ∷ []) (sym e))
      ∙ ap (λ z. after {U = ℕ} z (λ t. Within t) []) n)

-- all nibbles
pub all_leads : (order : Order) (s : Partial) (bytes : List ℕ) (end : ℕ) (next : Next Partial StpPacket) → 2 * length bytes ≤ end →
    Leads order s (between (nibbles_in bytes) 0 end) next → Leads order s (nibbles_in bytes) next
all_leads order s bytes end next h k =
    let l = length-nibbles bytes in
    subst (λ r. Leads order s r next) (take_all (end - 0) (nibbles_in bytes) (omega (arith, l, h))) k

pub none_leads : (order : Order) (s : Partial) (xs : List ℕ) → Leads order s (between xs 0 0) (Go s)
none_leads order s xs = ap (walk (rule order) s) (between_none xs 0)
