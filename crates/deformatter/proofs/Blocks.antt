-- The bytes of a piece, fed one by one.
use Rattle.std.proofs.Common.{◌≡◌, ◌≢◌, ℕ, zero, suc, ◌+◌, ◌*◌, ◌<◌, List, [], ◌∷◌, ◌++◌, length, take, get_or, refl, sym, ◌∙◌, ap, subst, arith, append_assoc, append-nil, Bool, true, false, cond, Option, inl, inr}
use Rattle.std.specs.Prelude.{◌==◌}
use Rattle.std.specs.List.{range_with_len}
use Rattle.std.proofs.lemmas.List.{take_more, length-take-le}
use Rattle.std.proofs.lemmas.Bool.{ne_eqb}
use Rattle.frame_grammar.proofs.CellLaws.{range_push}
use Rattle.deformatter.specs.Names.{Mode, Next, Cell, Go, End, Fail, Placed, byte_at, placed_from, Walked, Whole, after}
use Rattle.deformatter.specs.Names.{walk, StandsIn, hunts, is_locked, IsProperBelow, PortItem, Full, Frame}
use Rattle.deformatter.specs.Names.{Between, First, One, State, start, rule, offsets_of, pattern}
use Rattle.trace_values.proofs.Modes as laws
use Rattle.trace_values.proofs.Placing.{next_placed}
use Rattle.frame_grammar.proofs.Deciding.{at}
use Rattle.deformatter.specs.Reading.{port_stream, cells_in}
use Rattle.deformatter.specs.Growth.{PortGrows}
use Rattle.deformatter.specs.Rule.{step_by, item_step, cells_by}
use Rattle.deformatter.specs.Block.{Answers, EachByte, FedAs, IsInside, FedFrame}
use Rattle.deformatter.specs.declared.step.PortStep.{PortStep}
use Rattle.deformatter.specs.declared.step.PortStep.TheVariants.{Quiet, Half as HalfEnds, Frame as FrameEnds}
use Rattle.deformatter.proofs.Feeding.{fed}
use Rattle.frame_grammar.proofs.Wholes.{proper_first, proper_rest}
use Rattle.deformatter.proofs.Parts.{quiet_step}

pub offsets_are : (from : ℕ) (bytes : List ℕ) → offsets_of (placed_from from bytes) ≡ range_with_len from (length bytes)
offsets_are from [] = refl
offsets_are from (b ∷ bytes) = ap (λ (l : List ℕ). from ∷ l) (offsets_are (from + 1) bytes)

pub range_more : (from n : ℕ) → range_with_len from (n + 1) ≡ range_with_len from n ++ (from + n) ∷ []
range_more from n = ap (range_with_len from) (let e : n + 1 ≡ suc n = omega arith in e) ∙ range_push from n

-- a quiet byte has no cells
pub silent_cells : (from : ℕ) (s : State) (id : Option ℕ) (n : Next State PortItem) → step_by from s n ≡ Quiet → cells_by id n ≡ []
silent_cells from s id (Go t) e = refl
silent_cells from s id (End Full) e = cc
silent_cells from s id n e = cc

-- one more byte
pub each_push : (P : List Placed → ℕ → ℕ → Type 0) (u : List Placed) (from : ℕ) (bytes : List ℕ) (b : ℕ) → EachByte P u from bytes →
    P (u ++ placed_from from bytes) (from + length bytes) b → EachByte P u from (bytes ++ b ∷ [])
each_push P u from [] b e p = (subst (λ (v : List Placed). P v from b) (append-nil u) (subst (λ (n : ℕ). P (u ++ []) n b) (let k : from + 0 ≡ from = omega arith in k) p), tt)
each_push P u from (c ∷ bytes) b e p = (
  e.0,
  each_push P (u ++ byte_at from c ∷ []) (from + 1) bytes b e.1
      (subst (λ (v : List Placed). P v (from + 1 + length bytes) b) (sym (append_assoc u (byte_at from c ∷ []) (placed_from (from + 1) bytes)))
      (subst (λ (n : ℕ). P (u ++ placed_from from (c ∷ bytes)) n b) (let k : from + suc (length bytes) ≡ from + 1 + length bytes = omega arith in k) p)),
)

-- the last of some bytes, and one before them
pub fed_last : (P L : List Placed → ℕ → ℕ → Type 0) (u : List Placed) (from b : ℕ) → L u from b → FedAs P L u from (b ∷ [])
fed_last P L u from b l = record {
  front = [];
  last = b;
  parts = refl;
  quiet = tt;
  ends = subst (λ (v : List Placed). L v (from + 0) b) (sym (append-nil u)) (subst (λ (n : ℕ). L u n b) (let k : from ≡ from + 0 = omega arith in k) l);
}

pub fed_first : (P L : List Placed → ℕ → ℕ → Type 0) (u : List Placed) (from b : ℕ) (bytes : List ℕ) → P u from b →
    FedAs P L (u ++ byte_at from b ∷ []) (from + 1) bytes → FedAs P L u from (b ∷ bytes)
fed_first P L u from b bytes p r = record {
  front = b ∷ r.front;
  last = r.last;
  parts = ap (λ (l : List ℕ). b ∷ l) r.parts;
  quiet = (p, r.quiet);
  ends = subst (λ (v : List Placed). L v (from + suc (length r.front)) r.last) (append_assoc u (byte_at from b ∷ []) (placed_from (from + 1) r.front))
      (subst (λ (n : ℕ). L ((u ++ byte_at from b ∷ []) ++ placed_from (from + 1) r.front) n r.last) (let k : from + 1 + length r.front ≡ from + suc (length r.front) = omega arith in k) r.ends);
}

-- the last of some bytes, of each of which this is so
pub all_fed : (P : List Placed → ℕ → ℕ → Type 0) (u : List Placed) (from b : ℕ) (bytes : List ℕ) → EachByte P u from (b ∷ bytes) → FedAs P P u from (b ∷ bytes)
all_fed P u from b [] e = fed_last P P u from b e.0
all_fed P u from b (c ∷ bytes) e = fed_first P P u from b (c ∷ bytes) e.0 (all_fed P (u ++ byte_at from b ∷ []) (from + 1) c bytes e.1)

the_item : (v w : PortItem) → (let x : Walked State PortItem = Whole v in let y : Walked State PortItem = Whole w in x ≡ y) → v ≡ w
the_item v w e = cc

-- a halfword's first byte
first_byte : (n : ℕ) (f : List Placed) (h : ℕ) (x : Placed) → x.unit ≢ 255 → rule (at n f h Between) x ≡ Go (at n f h (First x))
first_byte n f h x e = ap (λ (b : Bool). cond {A = Next State PortItem} b (Go (at n f h One)) (Go (at n f h (First x)))) (ne_eqb x.unit 255 e)

module _ (m : Mode) (locked : is_locked m ≡ true) where
  abbrev Stands : State → List Placed → Type 0
  Stands s u = StandsIn pattern Full rule start m true s u

  goes : (s t : State) (u : List Placed) (x : Placed) → rule s x ≡ Go t → Stands s u → Stands t (u ++ x ∷ [])
  goes s t u x e r = laws.reads-list pattern Full rule start m true s u x true t (Go t) refl locked (sym e) refl refl r

  silent : (s t : State) (u : List Placed) (from byte : ℕ) → rule s (byte_at from byte) ≡ Go t → t.halves ≡ s.halves → Stands s u → Answers (hunts m) Quiet u from byte
  silent s t u from byte e h r =
      subst (λ (x : PortStep). PortGrows (port_stream (hunts m) u) (port_stream (hunts m) (u ++ byte_at from byte ∷ [])) from x)
      (ap (step_by from s) e ∙ sym (quiet_step from s t h)) (fed m true s u from byte refl locked r).grows

  -- the bytes of a frame from a halfword on are quiet, but for the last
  pub words_fed : (n : ℕ) (f u : List Placed) (from : ℕ) (bytes : List ℕ) → length bytes ≡ 2 * suc n → IsProperBelow (suc n) bytes → Stands (at n f 0 Between) u →
      FedAs (Answers (hunts m) Quiet) (Answers (hunts m) FrameEnds) u from bytes
  words_fed n f u from [] e p s = absurd (omega arith)
  words_fed n f u from (a ∷ []) e p s = absurd (omega arith)
  words_fed zero f u from (a ∷ (b ∷ (c ∷ bytes))) e p s = absurd (omega arith)
  words_fed zero f u from (a ∷ (b ∷ [])) e p s =
      let x = byte_at from a in
      let t : State = at 0 f 0 (First x) in
      let go = first_byte 0 f 0 x (proper_first 0 a b [] p) in
      record {
        front = a ∷ [];
        last = b;
        parts = refl;
        quiet = (silent (at 0 f 0 Between) t u from a go refl s, tt);
        ends = (fed m true t (u ++ x ∷ []) (from + 1) b refl locked (goes (at 0 f 0 Between) t u x go s)).grows;
      }
  words_fed (suc n) f u from (a ∷ (b ∷ bytes)) e p s =
      let x = byte_at from a in
      let y = byte_at (from + 1) b in
      let t : State = at (suc n) f 0 (First x) in
      let w : State = at n (f ++ (x ∷ (y ∷ []))) 0 Between in
      let go = first_byte (suc n) f 0 x (proper_first (suc n) a b bytes p) in
      let there = goes (at (suc n) f 0 Between) t u x go s in
      let r = words_fed n (f ++ (x ∷ (y ∷ []))) ((u ++ x ∷ []) ++ y ∷ []) (from + 1 + 1) bytes (omega arith) (proper_rest (suc n) a b bytes p) (goes t w (u ++ x ∷ []) y refl there) in
      record {
        front = a ∷ (b ∷ r.front);
        last = r.last;
        parts = ap (λ (l : List ℕ). a ∷ (b ∷ l)) r.parts;
        quiet = (silent (at (suc n) f 0 Between) t u from a go refl s, (silent t w (u ++ x ∷ []) (from + 1) b refl refl there, r.quiet));
        ends = subst (λ (v : List Placed). Answers (hunts m) FrameEnds v (from + suc (suc (length r.front))) r.last)
            (append_assoc (u ++ x ∷ []) (y ∷ []) (placed_from (from + 1 + 1) r.front) ∙ append_assoc u (x ∷ []) (y ∷ placed_from (from + 1 + 1) r.front))
            (subst (λ (k : ℕ). Answers (hunts m) FrameEnds (((u ++ x ∷ []) ++ y ∷ []) ++ placed_from (from + 1 + 1) r.front) k r.last)
            (let k : from + 1 + 1 + length r.front ≡ from + suc (suc (length r.front)) = omega arith in k) r.ends);
      }

  -- where a frame goes on, nothing has ended or a half synchronisation
  inside : (u : List Placed) (from byte : ℕ) (b : Bool) → PortGrows (port_stream (hunts m) u) (port_stream (hunts m) (u ++ byte_at from byte ∷ [])) from (cond b Quiet HalfEnds) →
      IsInside (hunts m) u from byte
  inside u from byte true g = inl g
  inside u from byte false g = inr g

  -- the bytes of a frame from a state on are inside it, but for the last
  pub frame_fed : (f : List Placed) (halves : ℕ) (s : State) (u : List Placed) (from : ℕ) (bytes : List ℕ) →
      walk rule s (placed_from from bytes) ≡ Whole (Frame f halves) → Stands s u → FedFrame (hunts m) u from bytes
  frame_fed f halves s u from [] e r = cc
  frame_fed f halves s u from (b ∷ bytes) e r =
      by (rule s (byte_at from b)) refl e (λ t h q. frame_fed f halves t (u ++ byte_at from b ∷ []) (from + 1) bytes h q) where
        grown : (n : Next State PortItem) → rule s (byte_at from b) ≡ n → PortGrows (port_stream (hunts m) u) (port_stream (hunts m) (u ++ byte_at from b ∷ [])) from (step_by from s n)
        grown n k =
            subst (λ (x : PortStep). PortGrows (port_stream (hunts m) u) (port_stream (hunts m) (u ++ byte_at from b ∷ [])) from x)
            (ap (step_by from s) k) (fed m true s u from b refl locked r).grows

        ended : (v : PortItem) (rest : List ℕ) → rule s (byte_at from b) ≡ End v →
            after (End v) (λ t. walk rule t (placed_from (from + 1) rest)) (placed_from (from + 1) rest) ≡ Whole (Frame f halves) → FedFrame (hunts m) u from (b ∷ rest)
        ended v (c ∷ rest) k w = cc
        ended v [] k w =
            let same : v ≡ Frame f halves = the_item v (Frame f halves) w in
            fed_last (IsInside (hunts m)) (Answers (hunts m) FrameEnds) u from b
            (subst (λ (x : PortStep). PortGrows (port_stream (hunts m) u) (port_stream (hunts m) (u ++ byte_at from b ∷ [])) from x) (ap item_step same) (grown (End v) k))

        by : (n : Next State PortItem) → rule s (byte_at from b) ≡ n →
            after n (λ t. walk rule t (placed_from (from + 1) bytes)) (placed_from (from + 1) bytes) ≡ Whole (Frame f halves) →
            ((t : State) → walk rule t (placed_from (from + 1) bytes) ≡ Whole (Frame f halves) → Stands t (u ++ byte_at from b ∷ []) → FedFrame (hunts m) (u ++ byte_at from b ∷ []) (from + 1) bytes) →
            FedFrame (hunts m) u from (b ∷ bytes)
        by (Go t) k w rest =
            fed_first (IsInside (hunts m)) (Answers (hunts m) FrameEnds) u from b bytes (inside u from b (t.halves == s.halves) (grown (Go t) k))
            (rest t w (goes s t u (byte_at from b) k r))
        by (End v) k w rest = ended v bytes k w
        by (Fail g) k w rest = cc

pub whole_fed : (P : List Placed → ℕ → ℕ → Type 0) (u : List Placed) (from : ℕ) (bytes : List ℕ) → 0 < length bytes → EachByte P u from bytes → FedAs P P u from bytes
whole_fed P u from [] l e = absurd (omega arith)
whole_fed P u from (b ∷ bytes) l e = all_fed P u from b bytes e

-- one more byte of a piece
module _ (h : Bool) (u : List Placed) (from : ℕ) (piece : List ℕ) (i : ℕ) (less : i < length piece) where
  abbrev before : List Placed
  before = u ++ placed_from from (take i piece)

  -- how a step says that the reading grew with it
  abbrev pub Grown : PortStep → Type 0
  Grown step = PortGrows (port_stream h (u ++ placed_from from (take i piece))) (port_stream h ((u ++ placed_from from (take i piece)) ++ byte_at (from + i) (get_or piece i 0) ∷ [])) (from + i) step

  answered : (step : PortStep) → Grown step → Answers h step before (from + length (take i piece)) (get_or piece i 0)
  answered step g = subst (λ (n : ℕ). Answers h step before (from + n) (get_or piece i 0)) (sym (length-take-le i piece (omega arith))) g

  pub more_quiet : EachByte (Answers h Quiet) u from (take i piece) → Grown Quiet → EachByte (Answers h Quiet) u from (take (i + 1) piece)
  more_quiet e g = subst (λ (l : List ℕ). EachByte (Answers h Quiet) u from l) (sym (take_more piece i 0 less))
      (each_push (Answers h Quiet) u from (take i piece) (get_or piece i 0) e (answered Quiet g))

  pub ended_by : (step : PortStep) → EachByte (Answers h Quiet) u from (take i piece) → Grown step → FedAs (Answers h Quiet) (Answers h step) u from (take (i + 1) piece)
  ended_by step e g = record { front = take i piece; last = get_or piece i 0; parts = take_more piece i 0 less; quiet = e; ends = answered step g }

  pub cells_more : (given : List Cell) → cells_in (port_stream h ((u ++ placed_from from (take i piece)) ++ byte_at (from + i) (get_or piece i 0) ∷ [])) ≡ cells_in (port_stream h before) ++ given →
      cells_in (port_stream h before) ≡ cells_in (port_stream h u) → cells_in (port_stream h (u ++ placed_from from (take (i + 1) piece))) ≡ cells_in (port_stream h u) ++ given
  cells_more given e q =
      ap (λ (l : List Placed). cells_in (port_stream h l)) (sym (next_placed u from piece i less)) ∙ e ∙ ap (λ (l : List Cell). l ++ given) q
