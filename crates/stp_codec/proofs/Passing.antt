-- Nibbles that end a packet, in what a decoder keeps and in what it reads.
use Rattle.std.proofs.Common.{◌≡◌, ℕ, ◌/◌, ◌%◌, ◌<◌, List, [], ◌∷◌, ◌++◌, refl, sym, ◌∙◌, ap, subst, append_assoc}
use Rattle.std.proofs.Common.{append-nil, arith, Option, None, Some, Bool, true}
use Rattle.stp_codec.specs.Names.{Next, Go, End, Fail, Mode, Placed, units_of, Walked, Whole, Within, after, walk}
use Rattle.stp_codec.specs.Names.{by_unit, Stream, Quiet, Grows, given_by, hunts, is_locked, Order, StpPacket, Async, Plain}
use Rattle.stp_codec.specs.Names.{StpItem, Attribution, Partial, Start, rule, count_of, item_of, Stands as Attributes}
use Rattle.stp_codec.specs.Names.{Null, high_of}
use Rattle.trace_values.proofs.Decorating.{item_step}
use Rattle.trace_values.proofs.Modes as modes
use Rattle.trace_values.proofs.Standings.{none_of}
use Rattle.stp_grammar.proofs.Counting.{counts_placed}
use Rattle.stp_grammar.proofs.Attributing.{stands_with}
use Rattle.stp_grammar.proofs.Beginning.{start_ends}
use Rattle.stp_codec.specs.Wholes.{left_of, IsQuiet, Leaves}
use Rattle.stp_codec.specs.Reading.{pattern, items_at}
use Rattle.stp_codec.proofs.Taking.{At, goes, stops}

-- a live decoder's list has no fault
pub sound_at : (order : Order) (m : Mode) (live : Bool) (s : Partial) (a : Attribution) (n : List Placed) → live ≡ true → At order m live s a n → (items_at order (hunts m) n).fault ≡ None
sound_at order m live s a n l h =
    let k = modes.shows pattern Async (by_unit (rule order)) Start count_of refl (counts_placed order) m live s n h.0 in
    none_of _ (sym l ∙ k.live_is)

module _ (order : Order) (m : Mode) (a : Attribution) (locked : is_locked m ≡ true) (v : StpPacket) (o : Option StpItem) (b : Attribution)
    (keeps : (ps : List StpPacket) → Attributes a ps → Attributes b (ps ++ v ∷ [])) (is : (ps : List StpPacket) → Attributes a ps → o ≡ item_of (ps ++ v ∷ []) v) where
  abbrev reading : List Placed → Stream StpItem
  reading n = items_at order (hunts m) n

  -- after nibbles of which the last ends the packet
  pub record IsPassed (old n : List Placed) (l : Placed) : Type 0 where
    pub list : At order m true Start b (n ++ l ∷ [])
    pub given : (reading (n ++ l ∷ [])).given ≡ (reading old).given ++ given_by l.place.at (item_step l.place.half o)
    pub fault : (reading (n ++ l ∷ [])).fault ≡ None

  whole_ends : (x : Next Partial StpPacket) → after {U = ℕ} x (λ t. Within t) [] ≡ Whole v → x ≡ End v
  whole_ends (Go t) e = cc
  whole_ends x e = cc

  never_whole : (w : StpPacket) (r : List ℕ) (l : ℕ) (more : Partial → Walked Partial StpPacket) → after (End w) more (r ++ l ∷ []) ≡ Whole v → ⊥
  never_whole w [] l more e = cc
  never_whole w (c ∷ r) l more e = cc

  fault_none : (p : ℕ) (half : ℕ) (o : Option StpItem) (new old : Stream StpItem) → Grows old new p (item_step half o) → new.fault ≡ None
  fault_none p half None new old g = g.fault
  fault_none p half (Some w) new old g = g.fault

  last_unit : (n : List Placed) (l : Placed) (s : Partial) → rule order s l.unit ≡ End v → At order m true s a n → IsPassed n n l
  last_unit n l s e h =
      let g = stops order m true s a n l refl locked v b o (sym e) keeps is h in
      record { list = g.0; given = g.1.given; fault = fault_none l.place.at l.place.half o (reading (n ++ l ∷ [])) (reading n) g.1 }

  pub passed : (w n : List Placed) (l : Placed) (s : Partial) → walk (rule order) s (units_of w ++ l.unit ∷ []) ≡ Whole v → At order m true s a n → IsPassed n (n ++ w) l
  passed [] n l s e h =
      let p = last_unit n l s (whole_ends (rule order s l.unit) e) h in
      subst (λ z. IsPassed n z l) (sym (append-nil n)) p
  passed (c ∷ w) n l s e h = by (rule order s c.unit) refl e (λ t f i. passed w (n ++ c ∷ []) l t f i) where
    by : (x : Next Partial StpPacket) → rule order s c.unit ≡ x → after x (λ t. walk (rule order) t (units_of w ++ l.unit ∷ [])) (units_of w ++ l.unit ∷ []) ≡ Whole v →
        ((t : Partial) → walk (rule order) t (units_of w ++ l.unit ∷ []) ≡ Whole v → At order m true t a (n ++ c ∷ []) → IsPassed (n ++ c ∷ []) ((n ++ c ∷ []) ++ w) l) → IsPassed n (n ++ (c ∷ w)) l
    by (Go t) k f more =
        let g = goes order m true s a n c refl locked t (sym k) h in
        let p = more t f g.0 in
        let r : IsPassed n ((n ++ c ∷ []) ++ w) l = record { list = p.list; given = p.given ∙ ap (λ z. z ++ given_by l.place.at (item_step l.place.half o)) (g.1.given ∙ append-nil (reading n).given); fault = p.fault } in
        subst (λ z. IsPassed n z l) (append_assoc n (c ∷ []) w) r
    by (End x) k f more = absurd (never_whole x (units_of w) l.unit (λ t. walk (rule order) t (units_of w ++ l.unit ∷ [])) f)
    by (Fail r) k f more = cc

-- the high nibble after a packet that ended in the low one
module _ (order : Order) (m : Mode) (live : Bool) (s : Partial) (a : Attribution) (n : List Placed) (half at byte : ℕ) (low : half ≡ 0) (small : byte < 256) (l : live ≡ true) (locked : is_locked m ≡ true) (start : s ≡ Start)
    (h : At order m live s a n) where
  abbrev high : Placed
  high = high_of at byte

  abbrev after_high : List Placed
  after_high = n ++ left_of half at byte

  high_is : high ∷ [] ≡ left_of half at byte
  high_is = sym (ap (λ k. left_of k at byte) low)

  by_rule : (x : Next Partial StpPacket) → x ≡ rule order Start (byte / 16) → x ≡ rule order s high.unit
  by_rule x e = e ∙ ap (rule order Start) (let q : byte / 16 ≡ byte / 16 % 16 = omega arith in q) ∙ ap (λ z. rule order z high.unit) (sym start)

  -- such a nibble gives nothing
  passed_on : (t : Partial) → At order m live t a (n ++ high ∷ []) × Grows (items_at order (hunts m) n) (items_at order (hunts m) (n ++ high ∷ [])) at Quiet →
      At order m live t a after_high × IsQuiet (items_at order (hunts m) n) (items_at order (hunts m) after_high)
  passed_on t g =
      subst (λ r. At order m live t a (n ++ r) × IsQuiet (items_at order (hunts m) n) (items_at order (hunts m) (n ++ r))) high_is (g.0, (g.1.given ∙ append-nil (items_at order (hunts m) n).given, g.1.fault))

  null_kept : (v : StpPacket) → v ≡ Plain Null 0 → (ps : List StpPacket) → Attributes a ps → Attributes a (ps ++ v ∷ [])
  null_kept v e ps k = subst (λ p. Attributes a (ps ++ p ∷ [])) (sym e) (stands_with a a ps (Plain Null 0) (omega arith) k (record { version = refl; master = refl; channel = refl; last = refl }))

  null_silent : (v : StpPacket) → v ≡ Plain Null 0 → (ps : List StpPacket) → Attributes a ps → None ≡ item_of (ps ++ v ∷ []) v
  null_silent v e ps k = sym (ap (λ p. item_of (ps ++ p ∷ []) p) e)

  pub left_passed : (t : Partial) → Leaves (rule order Start (byte / 16)) t → At order m live t a after_high × IsQuiet (items_at order (hunts m) n) (items_at order (hunts m) after_high)
  left_passed t k = by (rule order Start (byte / 16)) refl k where
    by : (x : Next Partial StpPacket) → rule order Start (byte / 16) ≡ x → Leaves x t → At order m live t a after_high × IsQuiet (items_at order (hunts m) n) (items_at order (hunts m) after_high)
    by (Go r) e k = passed_on t (goes order m live s a n high l locked t (by_rule (Go t) (ap Go (sym k) ∙ sym e)) h)
    by (End v) e k =
        let x = start_ends order v (byte / 16) (sym e) in
        subst (λ z. At order m live z a after_high × IsQuiet (items_at order (hunts m) n) (items_at order (hunts m) after_high)) (sym k)
        (passed_on Start (stops order m live s a n high l locked v a None (by_rule (End v) (sym e)) (null_kept v x) (null_silent v x) h))
    by (Fail r) e k = absurd k
