-- A decoder's answer to a nibble is the grammar's, and its hunt is one for the pattern.
use Rattle.std.proofs.Common.{◌≡◌, ◌≢◌, ℕ, List, [], ◌∷◌, ◌++◌, refl, sym, ◌∙◌, ap, subst, inl, inr, arith, Option}
use Rattle.std.proofs.Common.{None, Some, Bool, true, false}
use Rattle.trace_values.proofs.Decorating.{item_step}
use Rattle.stp_codec.specs.Names.{Grows, Step}
use Rattle.stp_codec.specs.Names.{Reason, Next, Go, End, Fail, Quiet, Item, Fault as Faulty, Mode, Aligned, Hunting}
use Rattle.stp_codec.specs.Names.{Placed, units_of, InUnits, by_unit, Decides, Progress, with_unit, advance, progress}
use Rattle.stp_codec.specs.Names.{Notice, shown, pattern_of, Found, Hunt, hunt_on, hunt, hunted_by, StandsIn, hunts}
use Rattle.stp_codec.specs.Names.{is_locked, Keeps, Order, StpPacket, Async, StpItem, Attribution, Partial, Start}
use Rattle.stp_codec.specs.Names.{item_of, Stands as Attributes, Spells, why, rule}
use Rattle.trace_values.specs.declared.mode.Mode.TheVariants.{Locked}
use Rattle.trace_values.proofs.Placing.{on_units}
use Rattle.trace_values.proofs.OneUnit.{Says}
use Rattle.trace_values.proofs.Answering.{says}
use Rattle.trace_values.proofs.Standings as lemmas
use Rattle.trace_values.proofs.HuntSteps as steps
use Rattle.trace_values.proofs.HuntedLemmas as hunting
use Rattle.stp_grammar.proofs.Deciding.{decided}
use Rattle.stp_codec.specs.Reading.{pattern, packets_in, packets_of, items_at, rest_found, rest_in, IsHunt}
use Rattle.stp_codec.specs.Answers.{AnswersNibble}
use Rattle.stp_codec.proofs.Taking.{At, packets_with, packets_step, goes, stops, fails}

f_is_not_last : pattern.unit ≢ pattern.last
f_is_not_last e = omega (arith, e)

module _ (order : Order) where
  placed_decided : Decides (InUnits (Spells order)) (λ x. why (units_of x)) (by_unit (rule order)) Start
  placed_decided = on_units (rule order) (Spells order) why Start (decided order)

  -- the pattern spells an ASYNC
  spelled : (w : List Placed) → units_of w ≡ pattern_of pattern → InUnits (Spells order) Async w
  spelled w e = (21, omega arith, e)

  abbrev Knew : List Placed → ℕ → Option (Found Partial StpPacket) → Type 0
  Knew n run found = hunting.Knew (InUnits (Spells order)) (λ x. why (units_of x)) (by_unit (rule order)) Start placed_decided pattern Async f_is_not_last spelled n run found

  knows : (n : List Placed) → hunting.Knows (InUnits (Spells order)) (λ x. why (units_of x)) (by_unit (rule order)) Start placed_decided pattern Async f_is_not_last spelled n (hunt pattern Async (by_unit (rule order)) Start n)
  knows n = hunting.knows (InUnits (Spells order)) (λ x. why (units_of x)) (by_unit (rule order)) Start placed_decided pattern Async f_is_not_last spelled n

  -- after the lock the reading is that of a list's end
  pub locked_reading : (n : List Placed) (f : Found Partial StpPacket) → (hunt pattern Async (by_unit (rule order)) Start n).found ≡ Some f →
      (w : List Placed) × (f.reading ≡ progress (by_unit (rule order)) Start w)
  locked_reading n f e =
      let known : Knew n (hunt pattern Async (by_unit (rule order)) Start n).run (Some f) = subst (λ o. Knew n (hunt pattern Async (by_unit (rule order)) Start n).run o) e (knows n).found in
      (known.1, known.5)

  -- the stream of a hunt is one
  pub hunt_is : (n : List Placed) → IsHunt order n (packets_in order true n)
  hunt_is n = by_found (hunt pattern Async (by_unit (rule order)) Start n).found refl (knows n).found where
    by_found : (o : Option (Found Partial StpPacket)) → (hunt pattern Async (by_unit (rule order)) Start n).found ≡ o →
        Knew n (hunt pattern Async (by_unit (rule order)) Start n).run (hunt pattern Async (by_unit (rule order)) Start n).found →
        IsHunt order n (packets_in order true n)
    by_found None e k =
        let none : Knew n (hunt pattern Async (by_unit (rule order)) Start n).run None = subst (λ o. Knew n (hunt pattern Async (by_unit (rule order)) Start n).run o) e k in
        inl (
          none.0,
          ap (λ o. hunted_by (hunt pattern Async (by_unit (rule order)) Start n).units o) e
              ∙ ap (λ (i : ℕ). record { given = []; fault = None; held = 0; skipped = i; locked = false }) (knows n).units,
        )
    by_found (Some f) e k =
        let known : Knew n (hunt pattern Async (by_unit (rule order)) Start n).run (Some f) = subst (λ o. Knew n (hunt pattern Async (by_unit (rule order)) Start n).run o) e k in
        inr (
          known.0,
          known.1,
          f.place,
          known.2,
          known.3,
          ap (λ o. hunted_by (hunt pattern Async (by_unit (rule order)) Start n).units o) e
              ∙ ap (λ (q : Progress Partial StpPacket). shown ((Notice f.skipped, f.place) ∷ []) f.skipped q) known.5
              ∙ ap (λ (i : ℕ). shown ((Notice i, f.place) ∷ []) i (progress (by_unit (rule order)) Start known.1)) (sym known.4),
          (known.6.0, sym (ap (λ (q : Progress Partial StpPacket). q.items) known.5) ∙ known.6.1),
        )

  -- what is left of the rest with one more nibble of which the rule says this
  abbrev rest_after : Next Partial StpPacket → List Placed → List Placed
  rest_after (Go t) r = r
  rest_after (End v) r = []
  rest_after (Fail e) r = r

  rest_on : (p : Progress Partial StpPacket) (state : Partial) (b : Placed) (x : Next Partial StpPacket) → x ≡ rule order state b.unit → Keeps true state p →
      (advance (by_unit (rule order)) Start p b).rest ≡ rest_after x (p.rest ++ b ∷ [])
  rest_on p state b x e s =
      ap (λ (q : Progress Partial StpPacket). q.rest) (lemmas.grown (by_unit (rule order)) Start p state b s) ∙ by (rule order state b.unit) ∙ ap (λ z. rest_after z (p.rest ++ b ∷ [])) (sym e)
    where
      by : (z : Next Partial StpPacket) → (with_unit Start p b z None).rest ≡ rest_after z (p.rest ++ b ∷ [])
      by (Go t) = refl
      by x = refl

  abbrev Told : Next Partial StpPacket → List Placed → List Placed → Type 0
  Told x r left = Says (InUnits (Spells order)) (λ z. why (units_of z)) x r × (left ≡ rest_after x r)

  told_on : (u : List Placed) (live : Bool) (partial : Partial) (b : Placed) (x : Next Partial StpPacket) → live ≡ true → x ≡ rule order partial b.unit →
      Keeps live partial (progress (by_unit (rule order)) Start u) →
      Told x ((progress (by_unit (rule order)) Start u).rest ++ b ∷ []) (advance (by_unit (rule order)) Start (progress (by_unit (rule order)) Start u) b).rest
  told_on u live partial b x l e s = (
    says (InUnits (Spells order)) (λ z. why (units_of z)) (by_unit (rule order)) Start placed_decided u live partial b x l e s,
    rest_on (progress (by_unit (rule order)) Start u) partial b x e (subst (λ z. Keeps z partial (progress (by_unit (rule order)) Start u)) l s),
  )

  told : (m : Mode) (live : Bool) (partial : Partial) (n : List Placed) (b : Placed) (x : Next Partial StpPacket) → live ≡ true → is_locked m ≡ true → x ≡ rule order partial b.unit →
      StandsIn pattern Async (by_unit (rule order)) Start m live partial n → Told x (rest_in order (hunts m) n ++ b ∷ []) (rest_in order (hunts m) (n ++ b ∷ []))
  told Aligned live partial n b x l k e s =
      subst (λ (q : Progress Partial StpPacket). Told x (rest_in order false n ++ b ∷ []) q.rest) (sym (lemmas.progress_push (by_unit (rule order)) Start n b)) (told_on n live partial b x l e s)
  told (Hunting run skipped) live partial n b x l k e s = cc
  told (Locked skipped) live partial n b x l k e s =
      let known = locked_reading n s.found s.some in
      let push : hunt pattern Async (by_unit (rule order)) Start (n ++ b ∷ []) ≡ hunt_on pattern Async (by_unit (rule order)) Start (hunt pattern Async (by_unit (rule order)) Start n) b (Some s.found) = steps.hunt_push pattern Async (by_unit (rule order)) Start n b (Some s.found) s.some in
      let here : rest_in order true n ≡ s.found.reading.rest = ap (λ o. rest_found o) s.some in
      let there : rest_in order true (n ++ b ∷ []) ≡ (advance (by_unit (rule order)) Start s.found.reading b).rest = ap (λ (h : Hunt Partial StpPacket). rest_found h.found) push in
      let on : Told x (s.found.reading.rest ++ b ∷ []) (advance (by_unit (rule order)) Start s.found.reading b).rest =
      subst (λ (q : Progress Partial StpPacket). Told x (q.rest ++ b ∷ []) (advance (by_unit (rule order)) Start q b).rest) (sym known.1)
      (told_on known.0 live partial b x l e (subst (λ (q : Progress Partial StpPacket). Keeps live partial q) known.1 s.stands)) in
      subst (λ r. Told x (r ++ b ∷ []) (rest_in order true (n ++ b ∷ []))) (sym here) (subst (λ r. Told x (s.found.reading.rest ++ b ∷ []) r) (sym there) on)

  module _ (m : Mode) (live : Bool) (partial : Partial) (a : Attribution) (n : List Placed) (b : Placed) (l : live ≡ true) (k : is_locked m ≡ true) (s : At order m live partial a n) where
    abbrev before : List StpPacket
    before = packets_of order (hunts m) n

    abbrev packets_after : List StpPacket
    packets_after = packets_of order (hunts m) (n ++ b ∷ [])

    abbrev rest : List Placed
    rest = rest_in order (hunts m) n ++ b ∷ []

    abbrev left : List Placed
    left = rest_in order (hunts m) (n ++ b ∷ [])

    -- what a decoder keeps after a nibble, and what it answers to it
    abbrev Answers : Bool → Partial → Attribution → Step StpItem → Type 0
    Answers live' t a' answer =
        At order m live' t a' (n ++ b ∷ []) × Grows (items_at order (hunts m) n) (items_at order (hunts m) (n ++ b ∷ [])) b.place.at answer
        × AnswersNibble order before rest b.place answer packets_after left

    pub goes_answer : (t : Partial) → Go t ≡ rule order partial b.unit → Answers live t a Quiet
    goes_answer t e =
        let x = told m live partial n b (Go t) l k e s.0 in
        let g = goes order m live partial a n b l k t e s in (
          g.0,
          g.1,
          inr (x.0.0, x.0.1, packets_with order (hunts m) n b Quiet (packets_step order m live partial a n b l k (Go t) e s), x.1),
        )

    -- a packet that ends, which has this item or none
    module _ (v : StpPacket) (a' : Attribution) (e : End v ≡ rule order partial b.unit) (keeps : (ps : List StpPacket) → Attributes a ps → Attributes a' (ps ++ v ∷ [])) where
      ended : packets_after ≡ before ++ v ∷ []
      ended = packets_with order (hunts m) n b (Item b.place.half v) (packets_step order m live partial a n b l k (End v) e s)

      ends : (o : Option StpItem) → ((ps : List StpPacket) → Attributes a ps → o ≡ item_of (ps ++ v ∷ []) v) →
          AnswersNibble order before rest b.place (item_step b.place.half o) packets_after left → Answers live Start a' (item_step b.place.half o)
      ends o is answer = let g = stops order m live partial a n b l k v a' o e keeps is s in (g.0, g.1, answer)

      pub ends_answer : (o : Option StpItem) → ((ps : List StpPacket) → Attributes a ps → o ≡ item_of (ps ++ v ∷ []) v) → Answers live Start a' (item_step b.place.half o)
      ends_answer (Some item) is =
          let x = told m live partial n b (End v) l k e s.0 in
          ends (Some item) is (v, refl, x.0, ended, x.1, ap (λ ps. item_of ps v) ended ∙ sym (is before s.1))
      ends_answer None is =
          let x = told m live partial n b (End v) l k e s.0 in
          ends None is (inl (v, x.0, ended, x.1, ap (λ ps. item_of ps v) ended ∙ sym (is before s.1)))

    pub fails_answer : (r : Reason) → Fail r ≡ rule order partial b.unit → Answers false partial a (Faulty (record { at = b.place.at; half = b.place.half; reason = r }))
    fails_answer r e =
        let x = told m live partial n b (Fail r) l k e s.0 in
        let g = fails order m live partial a n b l k r e s in
        (g.0, g.1, (refl, refl, x.0.1, x.0.0))
