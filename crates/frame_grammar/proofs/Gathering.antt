-- The frame at the front of a list of bytes, gathered halfword by halfword.
use Rattle.std.proofs.Common.{◌≡◌, ◌≢◌, ℕ, zero, suc, ◌+◌, ◌*◌, ◌≤◌, List, [], ◌∷◌, ◌++◌, length, take, drop, refl, sym, ◌∙◌, ap, subst, arith, Bool, true, false, cond, Option, Some, None, append_assoc, append-nil, get_or, set, ◌<◌, ◌-◌, ◌%◌, ◌/◌}
use Rattle.std.specs.Prelude.{◌==◌, ◌&&◌}
use Rattle.std.specs.Option.{option_map}
use Rattle.std.specs.Array.{IsFirstChunk}
use Rattle.std.proofs.lemmas.List.{map-append, take-append-drop, length-append, length-drop, length-set, length-take-le, take_rest, take_more_set}
use Rattle.std.proofs.lemmas.Grind.{take-set_at}
use Rattle.std.proofs.Math.Seq.{take-append_seam, drop-cons}
use Rattle.std.proofs.lemmas.Bool.{eq-eqb, ne_eqb, eqb-true, eqb-false}
use Rattle.frame_grammar.specs.Names.{Placed, units_of, byte_at, placed_from}
use Rattle.trace_values.proofs.Placing.{placed_from_append, length-placed_from}
use Rattle.frame_grammar.specs.Port.{half_spelling, IsWord, IsWords, IsFrame}
use Rattle.frame_grammar.specs.Reading.{offsets_of}
use Rattle.frame_grammar.specs.Whole.{without_halves, IsWhole}
use Rattle.frame_grammar.proofs.Deciding.{none_before}
use Rattle.frame_grammar.proofs.Items.{spelled_length}
use Rattle.frame_grammar.proofs.Wholes.{units_from, word, word_stays}

-- halfwords without their half synchronisations, how many of these there were, and the bytes after them
pub record Gathered : Type 0 where
  pub halves : ℕ
  pub frame : List ℕ
  pub rest : List ℕ

-- with what was gathered before
abbrev pub joined : ℕ → List ℕ → Gathered → Gathered
joined halves frame g = record { halves = halves + g.halves; frame = frame ++ g.frame; rest = g.rest }

-- n halfwords at the front of these bytes
abbrev pub gathered : ℕ → List ℕ → Option Gathered
gathered zero r = Some (record { halves = 0; frame = []; rest = r })
gathered (suc n) [] = None
gathered (suc n) (x ∷ []) = None
gathered (suc n) (x ∷ (y ∷ r)) =
    cond (x == 255) (cond (y == 127) (option_map (joined 1 []) (gathered (suc n) r)) None) (option_map (joined 0 (x ∷ (y ∷ []))) (gathered n r))

pub at_half : (n x y : ℕ) (r : List ℕ) → x ≡ 255 → y ≡ 127 → gathered (suc n) (x ∷ (y ∷ r)) ≡ option_map (joined 1 []) (gathered (suc n) r)
at_half n x y r e f =
    ap (λ (t : Bool). cond t (cond (y == 127) (option_map (joined 1 []) (gathered (suc n) r)) None) (option_map (joined 0 (x ∷ (y ∷ []))) (gathered n r))) (eq-eqb x 255 e)
    ∙ ap (λ (t : Bool). cond t (option_map (joined 1 []) (gathered (suc n) r)) None) (eq-eqb y 127 f)

pub at_fault : (n x y : ℕ) (r : List ℕ) → x ≡ 255 → y ≢ 127 → gathered (suc n) (x ∷ (y ∷ r)) ≡ None
at_fault n x y r e f =
    ap (λ (t : Bool). cond t (cond (y == 127) (option_map (joined 1 []) (gathered (suc n) r)) None) (option_map (joined 0 (x ∷ (y ∷ []))) (gathered n r))) (eq-eqb x 255 e)
    ∙ ap (λ (t : Bool). cond t (option_map (joined 1 []) (gathered (suc n) r)) None) (ne_eqb y 127 f)

pub at_word : (n x y : ℕ) (r : List ℕ) → x ≢ 255 → gathered (suc n) (x ∷ (y ∷ r)) ≡ option_map (joined 0 (x ∷ (y ∷ []))) (gathered n r)
at_word n x y r e =
    ap (λ (t : Bool). cond t (cond (y == 127) (option_map (joined 1 []) (gathered (suc n) r)) None) (option_map (joined 0 (x ∷ (y ∷ []))) (gathered n r))) (ne_eqb x 255 e)

-- joined to what was joined
pub joined_twice : (h k : ℕ) (f g : List ℕ) (o : Option Gathered) → option_map (joined h f) (option_map (joined k g) o) ≡ option_map (joined (h + k) (f ++ g)) o
joined_twice h k f g None = refl
joined_twice h k f g (Some x) =
    ap (λ (m : ℕ). Some (record { halves = m; frame = f ++ (g ++ x.frame); rest = x.rest })) (let e : h + (k + x.halves) ≡ h + k + x.halves = omega arith in e)
    ∙ ap (λ (l : List ℕ). Some (record { halves = h + k + x.halves; frame = l; rest = x.rest })) (sym (append_assoc f g x.frame))

-- what was gathered is halfwords
record IsGathered (n : ℕ) (p : List ℕ) (g : Gathered) : Type 0 where
  bytes : List ℕ
  parts : p ≡ bytes ++ g.rest
  words : (at : ℕ) → IsWords n g.halves (without_halves (placed_from at bytes)) (placed_from at bytes)
  frame : (at : ℕ) → units_of (without_halves (placed_from at bytes)) ≡ g.frame

record Mapped (f : Gathered → Gathered) (o : Option Gathered) (g : Gathered) : Type 0 where
  before : Gathered
  was : o ≡ Some before
  is : f before ≡ g

mapped : (f : Gathered → Gathered) (o : Option Gathered) (g : Gathered) → option_map f o ≡ Some g → Mapped f o g
mapped f None g e = cc
mapped f (Some x) g e = record { before = x; was = refl; is = cc }

pub half_goes : (a b : Placed) (w : List Placed) → a.unit ≡ 255 → b.unit ≡ 127 → without_halves (a ∷ (b ∷ w)) ≡ without_halves w
half_goes a b w h k =
    ap (λ (t : Bool). cond (t && b.unit == 127) (without_halves w) (a ∷ (b ∷ without_halves w))) (eq-eqb a.unit 255 h)
    ∙ ap (λ (t : Bool). cond t (without_halves w) (a ∷ (b ∷ without_halves w))) (eq-eqb b.unit 127 k)

one_half : (n k : ℕ) (x y : Placed) (f r : List Placed) → x.unit ≡ 255 → y.unit ≡ 127 → IsWords (suc n) k f r → IsWords (suc n) (suc k) f (x ∷ (y ∷ r))
one_half n k x y f r ex ey (here, later, a, b, g, w, i, ek, ef, m) = (
  suc here,
  later,
  a,
  b,
  g,
  w,
  record {
    before = x ∷ (y ∷ i.before);
    halves_are = ap (λ (u : ℕ). u ∷ (y.unit ∷ units_of i.before)) ex ∙ ap (λ (u : ℕ). 255 ∷ (u ∷ units_of i.before)) ey ∙ ap (λ (l : List ℕ). 255 ∷ (127 ∷ l)) i.halves_are;
    proper = i.proper;
    parts = ap (λ (l : List Placed). x ∷ (y ∷ l)) i.parts;
  },
  omega arith,
  ef,
  m,
)

with_half : (n x y : ℕ) (r : List ℕ) (g : Gathered) → x ≡ 255 → y ≡ 127 → IsGathered (suc n) r g → IsGathered (suc n) (x ∷ (y ∷ r)) (joined 1 [] g)
with_half n x y r g e f s = record {
  bytes = x ∷ (y ∷ s.bytes);
  parts = ap (λ (l : List ℕ). x ∷ (y ∷ l)) s.parts;
  words = λ at. subst (λ (l : List Placed). IsWords (suc n) (1 + g.halves) l (byte_at at x ∷ (byte_at (at + 1) y ∷ placed_from (at + 1 + 1) s.bytes)))
      (sym (half_goes (byte_at at x) (byte_at (at + 1) y) (placed_from (at + 1 + 1) s.bytes) e f))
      (subst (λ (m : ℕ). IsWords (suc n) m (without_halves (placed_from (at + 1 + 1) s.bytes)) (byte_at at x ∷ (byte_at (at + 1) y ∷ placed_from (at + 1 + 1) s.bytes)))
      (let d : suc g.halves ≡ 1 + g.halves = omega arith in d)
      (one_half n g.halves (byte_at at x) (byte_at (at + 1) y) _ (placed_from (at + 1 + 1) s.bytes) e f (s.words (at + 1 + 1))));
  frame = λ at. ap units_of (half_goes (byte_at at x) (byte_at (at + 1) y) (placed_from (at + 1 + 1) s.bytes) e f) ∙ s.frame (at + 1 + 1);
}

with_word : (n x y : ℕ) (r : List ℕ) (g : Gathered) → x ≢ 255 → IsGathered n r g → IsGathered (suc n) (x ∷ (y ∷ r)) (joined 0 (x ∷ (y ∷ [])) g)
with_word n x y r g e s = record {
  bytes = x ∷ (y ∷ s.bytes);
  parts = ap (λ (l : List ℕ). x ∷ (y ∷ l)) s.parts;
  words = λ at. (
    0,
    g.halves,
    byte_at at x,
    byte_at (at + 1) y,
    without_halves (placed_from (at + 1 + 1) s.bytes),
    placed_from (at + 1 + 1) s.bytes,
    word (byte_at at x) (byte_at (at + 1) y) (placed_from (at + 1 + 1) s.bytes) e,
    refl,
    word_stays (byte_at at x) (byte_at (at + 1) y) (placed_from (at + 1 + 1) s.bytes) e,
    s.words (at + 1 + 1),
  );
  frame = λ at. ap units_of (word_stays (byte_at at x) (byte_at (at + 1) y) (placed_from (at + 1 + 1) s.bytes) e) ∙ ap (λ (l : List ℕ). x ∷ (y ∷ l)) (s.frame (at + 1 + 1));
}

is_gathered : (n : ℕ) (p : List ℕ) (g : Gathered) → gathered n p ≡ Some g → IsGathered n p g
is_gathered zero p g e = subst (λ (x : Gathered). IsGathered zero p x) (let d : record { halves = 0; frame = []; rest = p } ≡ g = cc in d) (record {
  bytes = [];
  parts = refl;
  words = λ at. (refl, refl, refl);
  frame = λ at. refl;
})
is_gathered (suc n) [] g e = cc
is_gathered (suc n) (x ∷ []) g e = cc
is_gathered (suc n) (x ∷ (y ∷ r)) g e = by (x == 255) (y == 127) (λ h q. is_gathered (suc n) r h q) (λ h q. is_gathered n r h q) refl refl where
  by : (t u : Bool) → ((h : Gathered) → gathered (suc n) r ≡ Some h → IsGathered (suc n) r h) → ((h : Gathered) → gathered n r ≡ Some h → IsGathered n r h) →
      (x == 255) ≡ t → (y == 127) ≡ u → IsGathered (suc n) (x ∷ (y ∷ r)) g
  by true true more next ex ey =
      let m = mapped (joined 1 []) (gathered (suc n) r) g (sym (at_half n x y r (eqb-true x 255 ex) (eqb-true y 127 ey)) ∙ e) in
      subst (λ (z : Gathered). IsGathered (suc n) (x ∷ (y ∷ r)) z) m.is (with_half n x y r m.before (eqb-true x 255 ex) (eqb-true y 127 ey) (more m.before m.was))
  by true false more next ex ey = let m = sym (at_fault n x y r (eqb-true x 255 ex) (eqb-false y 127 ey)) ∙ e in cc
  by false u more next ex ey =
      let m = mapped (joined 0 (x ∷ (y ∷ []))) (gathered n r) g (sym (at_word n x y r (eqb-false x 255 ex)) ∙ e) in
      subst (λ (z : Gathered). IsGathered (suc n) (x ∷ (y ∷ r)) z) m.is (with_word n x y r m.before (eqb-false x 255 ex) (next m.before m.was))

-- no half synchronisation is before a first byte that is not FF
none_first : (k : ℕ) (before r : List Placed) (x : Placed) (w : List Placed) → units_of before ≡ half_spelling k → r ≡ before ++ (x ∷ w) →
    ((y : Placed) (v : List Placed) → r ≡ y ∷ v → y.unit ≢ 255) → k ≡ 0
none_first zero before r x w h e p = refl
none_first (suc k) [] r x w h e p = cc
none_first (suc k) (y ∷ before) r x w h e p = absurd (p y (before ++ (x ∷ w)) e (let d : y.unit ≡ 255 = cc in d))

frame_of : (k : ℕ) (f r : List Placed) → IsWords 8 k f r → ((y : Placed) (v : List Placed) → r ≡ y ∷ v → y.unit ≢ 255) → IsFrame k f r
frame_of k f r (here, later, a, b, g, w, i, ek, ef, m) p =
    let z = none_first here i.before r a (b ∷ w) i.halves_are i.parts p in
    (a, b, g, w, subst (λ (n : ℕ). IsWord n a b r w) z i, ef, subst (λ (n : ℕ). IsWords 7 n g w) (let d : later ≡ k = omega arith in d) m)

first_is : (at : ℕ) (bytes : List ℕ) (y : Placed) (v : List Placed) → placed_from at bytes ≡ y ∷ v → (l : List ℕ) × (bytes ≡ y.unit ∷ l)
first_is at [] y v e = cc
first_is at (b ∷ bytes) y v e = (bytes, (let d : b ≡ y.unit = ap (λ (l : List Placed). get_or (units_of l) 0 0) e in ap (λ (n : ℕ). n ∷ bytes) d))

-- what is gathered from a list that FF does not begin is a whole frame
pub gathers_whole : (p : List ℕ) (g : Gathered) → ((x : ℕ) (l : List ℕ) → p ≡ x ∷ l → x ≢ 255) → gathered 8 p ≡ Some g →
    (16 + 2 * g.halves ≤ length p) × IsWhole (take (16 + 2 * g.halves) p) g.frame g.halves
gathers_whole p g first e =
    let s = is_gathered 8 p g e in
    let size : length s.bytes ≡ 16 + 2 * g.halves = sym (length-placed_from 0 s.bytes) ∙ spelled_length 8 g.halves (without_halves (placed_from 0 s.bytes)) (placed_from 0 s.bytes) (s.words 0) in
    let front : take (16 + 2 * g.halves) p ≡ s.bytes =
    ap (take (16 + 2 * g.halves)) s.parts ∙ ap (λ (n : ℕ). take n (s.bytes ++ g.rest)) (sym size) ∙ take-append_seam s.bytes g.rest in (
      (let d : length p ≡ length s.bytes + length g.rest = ap length s.parts ∙ length-append s.bytes g.rest in omega arith),
      subst (λ (l : List ℕ). IsWhole l g.frame g.halves) (sym front) (record {
        spelled = λ at. frame_of g.halves (without_halves (placed_from at s.bytes)) (placed_from at s.bytes) (s.words at)
            (λ y v q. let b = first_is at s.bytes y v q in first y.unit (b.0 ++ g.rest) (s.parts ∙ ap (λ (l : List ℕ). l ++ g.rest) b.1));
        frame_is = s.frame;
      }),
    )

-- halfwords are gathered
pub joined_nothing : (o : Option Gathered) → o ≡ option_map (joined 0 []) o
joined_nothing None = refl
joined_nothing (Some g) = ap (λ (n : ℕ). Some (record { halves = n; frame = g.frame; rest = g.rest })) (let d : g.halves ≡ 0 + g.halves = omega arith in d)

passes_halves : (n k : ℕ) (before : List Placed) (l : List ℕ) → units_of before ≡ half_spelling k →
    gathered (suc n) (units_of before ++ l) ≡ option_map (joined k []) (gathered (suc n) l)
passes_halves n zero [] l e = joined_nothing (gathered (suc n) l)
passes_halves n zero (x ∷ before) l e = cc
passes_halves n (suc k) [] l e = cc
passes_halves n (suc k) (x ∷ []) l e = cc
passes_halves n (suc k) (x ∷ (y ∷ before)) l e =
    let ex : x.unit ≡ 255 = cc in let ey : y.unit ≡ 127 = cc in let m : units_of before ≡ half_spelling k = cc in
    at_half n x.unit y.unit (units_of before ++ l) ex ey ∙ ap (option_map (joined 1 [])) (passes_halves n k before l m)
    ∙ joined_twice 1 k [] [] (gathered (suc n) l) ∙ ap (λ (h : ℕ). option_map (joined h []) (gathered (suc n) l)) (let d : 1 + k ≡ suc k = omega arith in d)

same_gathered : (h k : ℕ) (f g s : List ℕ) → h ≡ k → f ≡ g → (let x : Option Gathered = Some (record { halves = h; frame = f; rest = s }) in let y : Option Gathered = Some (record { halves = k; frame = g; rest = s }) in x ≡ y)
same_gathered h k f g s e d = ap (λ (n : ℕ). Some (record { halves = n; frame = f; rest = s })) e ∙ ap (λ (l : List ℕ). Some (record { halves = k; frame = l; rest = s })) d

gathers : (n k : ℕ) (f r : List Placed) (s : List ℕ) → IsWords n k f r → gathered n (units_of r ++ s) ≡ Some (record { halves = k; frame = units_of f; rest = s })
gathers zero k f r s (ek, ef, er) =
    ap (λ (l : List Placed). gathered zero (units_of l ++ s)) er ∙ same_gathered 0 k [] (units_of f) s (sym ek) (sym (ap units_of ef))
gathers (suc n) k f r s (here, later, a, b, g, w, i, ek, ef, m) =
    ap (λ (l : List Placed). gathered (suc n) (units_of l ++ s)) i.parts
    ∙ ap (λ (l : List ℕ). gathered (suc n) (l ++ s)) (map-append (λ (p : Placed). p.unit) i.before (a ∷ (b ∷ w)))
    ∙ ap (gathered (suc n)) (append_assoc (units_of i.before) (a.unit ∷ (b.unit ∷ units_of w)) s)
    ∙ passes_halves n here i.before (a.unit ∷ (b.unit ∷ (units_of w ++ s))) i.halves_are
    ∙ ap (option_map (joined here [])) (at_word n a.unit b.unit (units_of w ++ s) i.proper ∙ ap (option_map (joined 0 (a.unit ∷ (b.unit ∷ [])))) (gathers n later g w s m))
    ∙ same_gathered (here + (0 + later)) k (a.unit ∷ (b.unit ∷ units_of g)) (units_of f) s (omega arith) (sym (ap units_of ef))

module _ (p : List ℕ) (n halves : ℕ) (frame : List ℕ) (whole : IsWhole (take n p) frame halves) where
  -- a whole frame at the front is gathered
  pub whole_gathers : gathered 8 p ≡ Some (record { halves = halves; frame = frame; rest = drop n p })
  whole_gathers = by (whole.spelled 0) where
    by : IsFrame halves (without_halves (placed_from 0 (take n p))) (placed_from 0 (take n p)) → gathered 8 p ≡ Some (record { halves = halves; frame = frame; rest = drop n p })
    by (a, b, g, w, i, ef, m) =
        ap (gathered 8) (sym (take-append-drop n p)) ∙ ap (λ (l : List ℕ). gathered 8 (l ++ drop n p)) (sym (units_from 0 (take n p)))
        ∙ gathers 8 halves (without_halves (placed_from 0 (take n p))) (placed_from 0 (take n p)) (drop n p) (0, halves, a, b, g, w, i, omega arith, ef, m)
        ∙ same_gathered halves halves (units_of (without_halves (placed_from 0 (take n p)))) frame (drop n p) refl (whole.frame_is 0)

  -- and FF does not begin it
  pub whole_begins : (x : ℕ) (l : List ℕ) → p ≡ x ∷ l → x ≢ 255
  whole_begins x l e = by (whole.spelled 0) where
    by : IsFrame halves (without_halves (placed_from 0 (take n p))) (placed_from 0 (take n p)) → x ≢ 255
    by (a, b, g, w, i, ef, m) q =
        let front : take n p ≡ a.unit ∷ (b.unit ∷ units_of w) =
        sym (units_from 0 (take n p)) ∙ ap units_of (i.parts ∙ ap (λ (l : List Placed). l ++ (a ∷ (b ∷ w))) (none_before i.before i.halves_are)) in
        let d : p ≡ a.unit ∷ (b.unit ∷ (units_of w ++ drop n p)) = sym (take-append-drop n p) ∙ ap (λ (l : List ℕ). l ++ drop n p) front in
        i.proper (let c : x ≡ a.unit = ap (λ (l : List ℕ). get_or l 0 0) (sym e ∙ d) in sym c ∙ q)

-- where nothing is gathered, no whole frame is at the front
pub no_whole : (p : List ℕ) → gathered 8 p ≡ None → (n halves : ℕ) (frame : List ℕ) → IsWhole (take n p) frame halves → ⊥
no_whole p e n halves frame whole = let h = sym (whole_gathers p n halves frame whole) ∙ e in cc

-- two bytes from an index on
pub record Pair (p : List ℕ) (from x y : ℕ) : Type 0 where
  pub room : from + 2 ≤ length p
  pub parts : drop from p ≡ x ∷ (y ∷ drop (from + 2) p)

-- the two bytes from a place on
pub pair_at : (p : List ℕ) (from next after : ℕ) → next ≡ from + 1 → after ≡ from + 2 → after ≤ length p →
    drop from p ≡ get_or p from 0 ∷ (get_or p next 0 ∷ drop after p)
pair_at p from next after n a room =
    drop-cons p from 0 (omega arith)
    ∙ ap (λ (m : ℕ). get_or p from 0 ∷ drop m p) (let d : suc from ≡ next = omega arith in d)
    ∙ ap (λ (l : List ℕ). get_or p from 0 ∷ l) (drop-cons p next 0 (omega arith) ∙ ap (λ (m : ℕ). get_or p next 0 ∷ drop m p) (let d : suc next ≡ after = omega arith in d))

pub pair_of : (p chunk : List ℕ) (from : ℕ) → IsFirstChunk (take (length p - from) (drop from p)) chunk 2 → Pair p from (get_or chunk 0 0) (get_or chunk 1 0)
pair_of p chunk from i =
    let room : from + 2 ≤ length p = (let e = i.enough in let d = ap length (take_rest p from) ∙ length-drop from p in omega arith) in
    let parts : drop from p ≡ get_or p from 0 ∷ (get_or p (suc from) 0 ∷ drop (from + 2) p) =
    pair_at p from (suc from) (from + 2) (omega arith) (omega arith) room in
    let c : chunk ≡ get_or p from 0 ∷ (get_or p (suc from) 0 ∷ []) = i.same ∙ ap (take 2) (take_rest p from ∙ parts) in
    let x : get_or p from 0 ≡ get_or chunk 0 0 = ap (λ (l : List ℕ). get_or l 0 0) (sym c) in
    let y : get_or p (suc from) 0 ≡ get_or chunk 1 0 = ap (λ (l : List ℕ). get_or l 1 0) (sym c) in
    record {
      room = room;
      parts = parts ∙ ap (λ (n : ℕ). n ∷ (get_or p (suc from) 0 ∷ drop (from + 2) p)) x ∙ ap (λ (n : ℕ). get_or chunk 0 0 ∷ (n ∷ drop (from + 2) p)) y;
    }

short : (n : ℕ) (q : List ℕ) → length q < 2 → gathered (suc n) q ≡ None
short n [] l = refl
short n (x ∷ []) l = refl
short n (x ∷ (y ∷ q)) l = absurd (omega arith)

-- one step from what is gathered so far
module _ (p q t : List ℕ) (left n h : ℕ) (so_far : gathered 8 p ≡ option_map (joined h t) (gathered left q)) (more : left ≡ suc n) where
  on_with : (o : Option Gathered) → gathered (suc n) q ≡ o → gathered 8 p ≡ option_map (joined h t) o
  on_with o e = so_far ∙ ap (λ (m : ℕ). option_map (joined h t) (gathered m q)) more ∙ ap (option_map (joined h t)) e

  pub ends_short : length q < 2 → gathered 8 p ≡ None
  ends_short l = on_with None (short n q l)

  pub ends_bad : (x y : ℕ) (r : List ℕ) → q ≡ x ∷ (y ∷ r) → x ≡ 255 → y ≢ 127 → gathered 8 p ≡ None
  ends_bad x y r e f g = on_with None (ap (gathered (suc n)) e ∙ at_fault n x y r f g)

  pub next_word : (x y k : ℕ) (r u : List ℕ) → q ≡ x ∷ (y ∷ r) → x ≢ 255 → k ≡ h → u ≡ t ++ (x ∷ (y ∷ [])) → gathered 8 p ≡ option_map (joined k u) (gathered n r)
  next_word x y k r u e f g d =
      on_with (option_map (joined 0 (x ∷ (y ∷ []))) (gathered n r)) (ap (gathered (suc n)) e ∙ at_word n x y r f)
      ∙ joined_twice h 0 t (x ∷ (y ∷ [])) (gathered n r)
      ∙ ap (λ (m : ℕ). option_map (joined m (t ++ (x ∷ (y ∷ [])))) (gathered n r)) (let c : h + 0 ≡ k = omega arith in c)
      ∙ ap (λ (l : List ℕ). option_map (joined k l) (gathered n r)) (sym d)

  pub next_half : (x y k : ℕ) (r : List ℕ) → q ≡ x ∷ (y ∷ r) → x ≡ 255 → y ≡ 127 → k ≡ h + 1 → gathered 8 p ≡ option_map (joined k t) (gathered left r)
  next_half x y k r e f g d =
      on_with (option_map (joined 1 []) (gathered (suc n) r)) (ap (gathered (suc n)) e ∙ at_half n x y r f g)
      ∙ joined_twice h 1 t [] (gathered (suc n) r)
      ∙ ap (λ (l : List ℕ). option_map (joined (h + 1) l) (gathered (suc n) r)) (append-nil t)
      ∙ ap (λ (m : ℕ). option_map (joined m t) (gathered (suc n) r)) (sym d)
      ∙ ap (λ (m : ℕ). option_map (joined k t) (gathered m r)) (sym more)

-- after the last halfword
pub ends_whole : (p q t : List ℕ) (left h k : ℕ) → gathered 8 p ≡ option_map (joined h t) (gathered left q) → left ≡ 0 → k ≡ h →
    gathered 8 p ≡ Some (record { halves = k; frame = t; rest = q })
ends_whole p q t left h k e z d =
    e ∙ ap (λ (m : ℕ). option_map (joined h t) (gathered m q)) z ∙ same_gathered (h + 0) k (t ++ []) t q (omega arith) (append-nil t)

-- a halfword put after those before it
pub put_word : (bytes : List ℕ) (i m x y : ℕ) → i + 2 ≤ length bytes → m ≡ i + 2 → take m (set (set bytes i x) (i + 1) y) ≡ take i bytes ++ (x ∷ (y ∷ []))
put_word bytes i m x y l e =
    take-set_at (set bytes i x) (i + 1) m y (omega arith) (let d = length-set bytes i x in omega arith)
    ∙ ap (λ (t : List ℕ). t ++ y ∷ []) (take_more_set bytes i x (omega arith)) ∙ append_assoc (take i bytes) (x ∷ []) (y ∷ [])

-- the first halfword does not begin with FF
pub begins_well : (words from a : ℕ) (p q : List ℕ) → (words ≡ 0 → from ≡ 0) → ((x : ℕ) (r : List ℕ) → words ≢ 0 → p ≡ x ∷ r → x ≢ 255) →
    drop from p ≡ a ∷ q → a ≢ 255 → (x : ℕ) (r : List ℕ) → p ≡ x ∷ r → x ≢ 255
begins_well zero from a p q z s e h x r d = λ k.
    let f : p ≡ a ∷ q = ap (λ (n : ℕ). drop n p) (sym (z refl)) ∙ e in
    h (let g : x ≡ a = ap (λ (l : List ℕ). get_or l 0 0) (sym d ∙ f) in sym g ∙ k)
begins_well (suc n) from a p q z s e h x r d = s x r (λ k. absurd (omega arith)) d

-- half synchronisations among whole halfwords, and among those after them
without_append : (n : ℕ) (u w : List Placed) → length u ≡ 2 * n → without_halves (u ++ w) ≡ without_halves u ++ without_halves w
without_append zero [] w e = refl
without_append zero (x ∷ u) w e = absurd (omega arith)
without_append (suc n) [] w e = absurd (omega arith)
without_append (suc n) (x ∷ []) w e = absurd (omega arith)
without_append (suc n) (x ∷ (y ∷ u)) w e = by (x.unit == 255 && y.unit == 127) (without_append n u w (omega arith)) where
  by : (t : Bool) → without_halves (u ++ w) ≡ without_halves u ++ without_halves w →
      cond t (without_halves (u ++ w)) (x ∷ (y ∷ without_halves (u ++ w))) ≡ cond t (without_halves u) (x ∷ (y ∷ without_halves u)) ++ without_halves w
  by true r = r
  by false r = ap (λ (l : List Placed). x ∷ (y ∷ l)) r

-- the offsets of the halfwords so far and of two more bytes
module _ (at from x y : ℕ) (p r : List ℕ) (parts : drop from p ≡ x ∷ (y ∷ r)) (room : from + 2 ≤ length p) (even : from % 2 ≡ 0) where
  abbrev pair : List Placed
  pair = byte_at (at + from) x ∷ (byte_at (at + from + 1) y ∷ [])

  longer : take (from + 2) p ≡ take from p ++ (x ∷ (y ∷ []))
  longer =
      let long : length (take from p ++ (x ∷ (y ∷ []))) ≡ from + 2 = length-append (take from p) (x ∷ (y ∷ [])) ∙ (let d = length-take-le from p (omega arith) in omega arith) in
      let all : p ≡ (take from p ++ (x ∷ (y ∷ []))) ++ r =
      sym (take-append-drop from p) ∙ ap (λ (l : List ℕ). take from p ++ l) parts ∙ sym (append_assoc (take from p) (x ∷ (y ∷ [])) r) in
      ap (take (from + 2)) all ∙ ap (λ (n : ℕ). take n ((take from p ++ (x ∷ (y ∷ []))) ++ r)) (sym long) ∙ take-append_seam (take from p ++ (x ∷ (y ∷ []))) r

  more_placed : offsets_of (without_halves (placed_from at (take (from + 2) p))) ≡ offsets_of (without_halves (placed_from at (take from p))) ++ offsets_of (without_halves pair)
  more_placed =
      let long : length (take from p) ≡ from = length-take-le from p (omega arith) in
      ap (λ (l : List ℕ). offsets_of (without_halves (placed_from at l))) longer
      ∙ ap (λ (l : List Placed). offsets_of (without_halves l)) (placed_from_append at (take from p) (x ∷ (y ∷ [])) ∙ ap (λ (n : ℕ). placed_from at (take from p) ++ placed_from (at + n) (x ∷ (y ∷ []))) long)
      ∙ ap offsets_of (without_append (from / 2) (placed_from at (take from p)) pair (length-placed_from at (take from p) ∙ long ∙ omega arith))
      ∙ map-append (λ (b : Placed). b.place.at) (without_halves (placed_from at (take from p))) (without_halves pair)

  pub word_placed : x ≢ 255 → offsets_of (without_halves (placed_from at (take (from + 2) p))) ≡ offsets_of (without_halves (placed_from at (take from p))) ++ ((at + from) ∷ ((at + from + 1) ∷ []))
  word_placed e =
      more_placed ∙ ap (λ (l : List Placed). offsets_of (without_halves (placed_from at (take from p))) ++ offsets_of l)
      (word_stays (byte_at (at + from) x) (byte_at (at + from + 1) y) [] e)

  pub half_placed : x ≡ 255 → y ≡ 127 → offsets_of (without_halves (placed_from at (take (from + 2) p))) ≡ offsets_of (without_halves (placed_from at (take from p)))
  half_placed e f =
      more_placed ∙ ap (λ (l : List Placed). offsets_of (without_halves (placed_from at (take from p))) ++ offsets_of l)
      (half_goes (byte_at (at + from) x) (byte_at (at + from + 1) y) [] e f)
      ∙ append-nil (offsets_of (without_halves (placed_from at (take from p))))
