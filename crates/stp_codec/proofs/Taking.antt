-- One more nibble, in what a decoder keeps and in what it answers.
use Rattle.std.proofs.Common.{◌≡◌, ℕ, ◌+◌, ◌-◌, List, [], ◌∷◌, ◌++◌, refl, sym, ◌∙◌, ap, subst, Option, Bool, true}
use Rattle.std.proofs.Common.{false}
use Rattle.std.specs.Prelude.{◌==◌, ◌&&◌}
use Rattle.stp_codec.specs.Names.{Reason, Next, Go, End, Fail, Mode, Hunting, Step, Quiet, Skipping, Item}
use Rattle.stp_codec.specs.Names.{Locked as StepLocked, Fault as Faulty, Placed, by_unit, Grows, run_after, StandsIn}
use Rattle.stp_codec.specs.Names.{hunts, is_locked, live_after, state_after, Order, StpPacket, Async, StpItem, Partial}
use Rattle.stp_codec.specs.Names.{Start, rule, Attribution, attribute, item_of, Stands as Attributes}
use Rattle.trace_values.specs.declared.mode.Mode.TheVariants.{Locked}
use Rattle.trace_values.proofs.OneUnit.{step_on}
use Rattle.trace_values.proofs.Decorating.{item_step, step_with, GivesAtLock}
use Rattle.trace_values.proofs.Modes as laws
use Rattle.trace_values.proofs.Decorating as decorating
use Rattle.stp_grammar.specs.declared.item.StpItem.TheVariants.{Async as AsyncItem}
use Rattle.stp_grammar.proofs.Attributing.{stands_with}
use Rattle.stp_codec.specs.Reading.{pattern, packets_in, packets_of, items_at}

pub async_kept : (a : Attribution) (ps : List StpPacket) → Attributes a ps → Attributes a (ps ++ Async ∷ [])
async_kept a ps k = stands_with a a ps Async tt k (record { version = refl; master = refl; channel = refl; last = refl })

module _ (order : Order) where
  abbrev pub Reads : Mode → Bool → Partial → List Placed → Type 0
  Reads m live partial u = StandsIn pattern Async (by_unit (rule order)) Start m live partial u

  abbrev pub At : Mode → Bool → Partial → Attribution → List Placed → Type 0
  At m live partial a u = Reads m live partial u × Attributes a (packets_of order (hunts m) u)

  -- the packets so far, with what the packets' step gives
  pub packets_with : (h : Bool) (u : List Placed) (b : Placed) (s : Step StpPacket) → Grows (packets_in order h u) (packets_in order h (u ++ b ∷ [])) b.place.at s →
      packets_of order h (u ++ b ∷ []) ≡ decorating.carried_with attribute (packets_of order h u) b.place.at s
  packets_with h u b s g = decorating.carried_is attribute [] (packets_in order h u) (packets_in order h (u ++ b ∷ [])) b.place.at s g

  same_packets : (h : Bool) (u : List Placed) (b : Placed) (s : Step StpPacket) (a : Attribution) → Grows (packets_in order h u) (packets_in order h (u ++ b ∷ [])) b.place.at s →
      decorating.carried_with attribute (packets_of order h u) b.place.at s ≡ packets_of order h u → Attributes a (packets_of order h u) → Attributes a (packets_of order h (u ++ b ∷ []))
  same_packets h u b s a g e k = subst (Attributes a) (sym (packets_with h u b s g ∙ e)) k

  module _ (m : Mode) (live : Bool) (partial : Partial) (a : Attribution) (u : List Placed) (b : Placed) where
    abbrev was : Bool
    was = hunts m

    -- in a hunt
    module _ (run skipped : ℕ) (e : m ≡ Hunting run skipped) where
      pub locks : (b.unit == 0 && run == 21) ≡ true → At m live partial a u →
          At (Locked (skipped - 21)) live Start a (u ++ b ∷ []) × Grows (items_at order was u) (items_at order was (u ++ b ∷ [])) b.place.at (StepLocked (skipped - 21) b.place.half AsyncItem)
      locks f s =
          let g = laws.locks-step pattern Async (by_unit (rule order)) Start m run skipped b live partial u e f s.0 in
          let h : hunts m ≡ true = ap hunts e in
          let t : Reads (Hunting run skipped) live partial u = subst (λ (x : Mode). Reads x live partial u) e s.0 in (
            (
              subst (λ (p : Partial). Reads (Locked (skipped - 21)) live p (u ++ b ∷ [])) t.2 (laws.locks-list pattern Async (by_unit (rule order)) Start m run skipped b live partial u e f s.0),
              subst (λ (x : Bool). Attributes a (packets_of order x (u ++ b ∷ []))) h
                  (subst (Attributes a) (sym (packets_with was u b (StepLocked (skipped - 21) b.place.half Async) g)) (async_kept a (packets_of order was u) s.1)),
            ),
            decorating.grows attribute [] (packets_in order was u) (packets_in order was (u ++ b ∷ [])) b.place.at (StepLocked (skipped - 21) b.place.half Async) (AsyncItem, refl) g,
          )

      pub skips : (run' : ℕ) → run' ≡ run_after pattern run b.unit → (b.unit == 0 && run == 21) ≡ false → At m live partial a u →
          At (Hunting run' (skipped + 1)) live partial a (u ++ b ∷ []) × Grows (items_at order was u) (items_at order was (u ++ b ∷ [])) b.place.at Skipping
      skips run' r f s =
          let g = laws.skips-step pattern Async (by_unit (rule order)) Start m run skipped b live partial u e f s.0 in
          let h : hunts m ≡ true = ap hunts e in (
            (
              subst (λ (n : ℕ). Reads (Hunting n (skipped + 1)) live partial (u ++ b ∷ [])) (sym r) (laws.skips-list pattern Async (by_unit (rule order)) Start m run skipped b live partial u e f s.0),
              subst (λ (x : Bool). Attributes a (packets_of order x (u ++ b ∷ []))) h (same_packets was u b Skipping a g refl s.1),
            ),
            decorating.grows attribute [] (packets_in order was u) (packets_in order was (u ++ b ∷ [])) b.place.at Skipping tt g,
          )

    -- in a reading
    module _ (l : live ≡ true) (k : is_locked m ≡ true) where
      pub packets_step : (n : Next Partial StpPacket) → n ≡ rule order partial b.unit → At m live partial a u →
          Grows (packets_in order was u) (packets_in order was (u ++ b ∷ [])) b.place.at (step_on b.place n)
      packets_step n e s = laws.reads-step pattern Async (by_unit (rule order)) Start m live partial u b n l k e s.0

      stands_on : (n : Next Partial StpPacket) (live' : Bool) (partial' : Partial) → n ≡ rule order partial b.unit → live' ≡ live_after n → partial' ≡ state_after Start n partial → At m live partial a u →
          Reads m live' partial' (u ++ b ∷ [])
      stands_on n live' partial' e f g s = laws.reads-list pattern Async (by_unit (rule order)) Start m live partial u b live' partial' n l k e f g s.0

      items_step : (s : Step StpPacket) → GivesAtLock attribute (packets_of order was u) s → Grows (packets_in order was u) (packets_in order was (u ++ b ∷ [])) b.place.at s →
          Grows (items_at order was u) (items_at order was (u ++ b ∷ [])) b.place.at (step_with attribute (packets_of order was u) s)
      items_step s c g = decorating.grows attribute [] (packets_in order was u) (packets_in order was (u ++ b ∷ [])) b.place.at s c g

      pub goes : (t : Partial) → Go t ≡ rule order partial b.unit → At m live partial a u → At m live t a (u ++ b ∷ []) × Grows (items_at order was u) (items_at order was (u ++ b ∷ [])) b.place.at Quiet
      goes t e s =
          let g = packets_step (Go t) e s in ((stands_on (Go t) live t e l refl s, same_packets was u b Quiet a g refl s.1), items_step Quiet tt g)

      pub stops : (v : StpPacket) (a' : Attribution) (o : Option StpItem) → End v ≡ rule order partial b.unit → ((ps : List StpPacket) → Attributes a ps → Attributes a' (ps ++ v ∷ [])) →
          ((ps : List StpPacket) → Attributes a ps → o ≡ item_of (ps ++ v ∷ []) v) → At m live partial a u →
          At m live Start a' (u ++ b ∷ []) × Grows (items_at order was u) (items_at order was (u ++ b ∷ [])) b.place.at (item_step b.place.half o)
      stops v a' o e keeps is s =
          let g = packets_step (End v) e s in (
            (stands_on (End v) live Start e l refl s, subst (Attributes a') (sym (packets_with was u b (Item b.place.half v) g)) (keeps (packets_of order was u) s.1)),
            subst (λ (x : Option StpItem). Grows (items_at order was u) (items_at order was (u ++ b ∷ [])) b.place.at (item_step b.place.half x)) (sym (is (packets_of order was u) s.1))
                (items_step (Item b.place.half v) tt g),
          )

      pub fails : (r : Reason) → Fail r ≡ rule order partial b.unit → At m live partial a u →
          At m false partial a (u ++ b ∷ []) × Grows (items_at order was u) (items_at order was (u ++ b ∷ [])) b.place.at (Faulty (record { at = b.place.at; half = b.place.half; reason = r }))
      fails r e s =
          let g = packets_step (Fail r) e s in
          let faulty : Step StpPacket = Faulty (record { at = b.place.at; half = b.place.half; reason = r }) in
          ((stands_on (Fail r) false partial e refl refl s, same_packets was u b faulty a g refl s.1), items_step faulty tt g)
