-- After the first cell with an ID each cell has one, where bytes are bytes.
use Rattle.std.proofs.Common.{◌≡◌, ◌≢◌, ℕ, zero, suc, ◌+◌, ◌*◌, ◌<◌, ◌≤◌, List, [], ◌∷◌, ◌++◌, map, refl, sym, ◌∙◌, ap, subst, ◌⊎◌, inl, inr, arith, append_assoc, append-nil, Bool, true, false, cond, Option, None, Some}
use Rattle.std.specs.Prelude.{◌==◌, ◌&&◌, ◌||◌, ◌/◌, ◌%◌, not, nat_lt, is_none, slice_index}
use Rattle.std.specs.List.{filter, range_with_len}
use Rattle.std.proofs.lemmas.List.{append_cancel_left}
use Rattle.std.proofs.lemmas.Bool.Decides.{nat_tests}
use Rattle.std.proofs.lemmas.Bool.{le-leb}
use Rattle.resync_grammars.specs.Names.{Cell, Place, Placed, units_of, source_id, Splits, names, aux_bit, in_effect}
use Rattle.resync_grammars.specs.Names.{id_below, cell, cells, id_after, data_at, PortItem, Full, Half, Frame, IsWords}
use Rattle.resync_grammars.specs.Names.{Spells, offsets_of, cells_of_items}
use Rattle.trace_values.proofs.Lists.{fronts_meet}
use Rattle.frame_grammar.proofs.CellLaws.{cells_are}
use Rattle.frame_grammar.proofs.Items.{frame_proper}
use Rattle.resync_grammars.specs.Port.{BeginsNamed, HasId}
use Rattle.resync_grammars.proofs.Naming as naming

-- each of a list
abbrev pub Each : {A : Type 0} → (A → Type 0) → List A → Type 0
Each P [] = Unit {0}
Each P (x ∷ xs) = P x × Each P xs

pub each_append : {A : Type 0} (P : A → Type 0) (xs ys : List A) → Each P xs → Each P ys → Each P (xs ++ ys)
each_append P [] ys a b = b
each_append P (x ∷ xs) ys a b = (a.0, each_append P xs ys a.1 b)

pub each_parts : {A : Type 0} (P : A → Type 0) (xs ys : List A) → Each P (xs ++ ys) → Each P xs × Each P ys
each_parts P [] ys e = (tt, e)
each_parts P (x ∷ xs) ys e = let k = each_parts P xs ys e.1 in ((e.0, k.0), k.1)

abbrev pub NoId : Cell → Type 0
NoId c = is_none c.id ≡ true

abbrev IsByte : Placed → Type 0
IsByte b = b.unit < 256

-- cells without an ID, and then cells with one
pub record Named (cs : List Cell) : Type 0 where
  pub hidden : List Cell
  pub named : List Cell
  pub parts : cs ≡ hidden ++ named
  pub none : Each NoId hidden
  pub some : Each HasId named

pub all_named : (cs : List Cell) → Each HasId cs → Named cs
all_named cs e = record { hidden = []; named = cs; parts = refl; none = tt; some = e }

hidden_first : (cs xs : List Cell) → Each NoId cs → Named xs → Named (cs ++ xs)
hidden_first cs xs e n = record {
  hidden = cs ++ n.hidden;
  named = n.named;
  parts = ap (λ (l : List Cell). cs ++ l) n.parts ∙ sym (append_assoc cs n.hidden n.named);
  none = each_append NoId cs n.hidden e n.none;
  some = n.some;
}

named_last : (xs cs : List Cell) → Named xs → Each HasId cs → Named (xs ++ cs)
named_last xs cs n e = record {
  hidden = n.hidden;
  named = n.named ++ cs;
  parts = ap (λ (l : List Cell). l ++ cs) n.parts ∙ append_assoc n.hidden n.named cs;
  none = n.none;
  some = each_append HasId n.named cs n.some e;
}

-- after a cell with an ID
pub named_after : (cs before later : List Cell) → Named cs → cs ≡ before ++ later → BeginsNamed later → Each HasId later
named_after cs before later n e b = elim (fronts_meet before n.hidden later n.named (sym e ∙ n.parts)) [
  | inl m ↦ elim_front m.0 m.1
  | inr m ↦ (each_parts HasId (m.1 ∷ m.0) later (subst (λ (l : List Cell). Each HasId l)
      (append_cancel_left n.hidden n.named ((m.1 ∷ m.0) ++ later) (sym n.parts ∙ e ∙ ap (λ (l : List Cell). l ++ later) m.2 ∙ append_assoc n.hidden (m.1 ∷ m.0) later)) n.some)).1
] where
  elim_front : (c : List Cell) → n.hidden ≡ before ++ c → Each HasId later
  elim_front [] k =
      subst (λ (l : List Cell). Each HasId l) (sym (append_cancel_left before later n.named (sym e ∙ n.parts ∙ ap (λ (l : List Cell). l ++ n.named) (k ∙ append-nil before)))) n.some
  elim_front (g ∷ c) k =
      let all = append_cancel_left before later ((g ∷ c) ++ n.named) (sym e ∙ n.parts ∙ ap (λ (l : List Cell). l ++ n.named) k ∙ append_assoc before (g ∷ c) n.named) in
      let none : Each NoId (before ++ (g ∷ c)) = subst (λ (l : List Cell). Each NoId l) k n.none in
      let here : is_none g.id ≡ true = (each_parts NoId before (g ∷ c) none).1.0 in
      let there : is_none g.id ≡ false = subst BeginsNamed all b in
      let q : true ≡ false = sym here ∙ there in cc

-- each ID byte names a source
abbrev Namer : List ℕ → Type 0
Namer frame = (k : ℕ) → k < 8 → names frame k ≡ true → is_none (source_id (slice_index frame (2 * k) / 2)) ≡ false

module _ (frame : List ℕ) (namer : Namer frame) where
  abbrev any : ℕ → ℕ → Bool
  any = naming.any frame

  in_effect_names : (i k : ℕ) → in_effect frame i k ≡ true → names frame k ≡ true
  in_effect_names i k e = first (names frame k) (nat_lt (2 * k) i) (aux_bit frame k == 0 || nat_lt (2 * k + 1) i) e where
    first : (a b c : Bool) → (a && b && c) ≡ true → a ≡ true
    first true b c f = refl
    first false b c f = f

  stays : (o : Option ℕ) (i n : ℕ) → n ≤ 8 → is_none o ≡ false → is_none (id_below frame o i n) ≡ false
  stays o i zero h e = e
  stays o i (suc n) h e = by (in_effect frame i n) (λ f. namer n (omega arith) (in_effect_names i n f)) (stays o i n (omega arith) e) where
    by : (b : Bool) → (b ≡ true → is_none (source_id (slice_index frame (2 * n) / 2)) ≡ false) → is_none (id_below frame o i n) ≡ false →
        is_none (cond b (source_id (slice_index frame (2 * n) / 2)) (id_below frame o i n)) ≡ false
    by true f g = f refl
    by false f g = g

  named_at : (o : Option ℕ) (i n : ℕ) → n ≤ 8 → any i n ≡ true → is_none (id_below frame o i n) ≡ false
  named_at o i zero h e = cc
  named_at o i (suc n) h e = by (in_effect frame i n) e (λ f. namer n (omega arith) (in_effect_names i n f)) (named_at o i n (omega arith)) where
    by : (b : Bool) → cond b true (any i n) ≡ true → (b ≡ true → is_none (source_id (slice_index frame (2 * n) / 2)) ≡ false) → (any i n ≡ true → is_none (id_below frame o i n) ≡ false) →
        is_none (cond b (source_id (slice_index frame (2 * n) / 2)) (id_below frame o i n)) ≡ false
    by true k f g = f refl
    by false k f g = g k

  module _ (offsets : List ℕ) (is_data : ℕ → Bool) where
    abbrev at : Option ℕ → ℕ → Cell
    at o i = cell frame offsets o i (data_at frame i)

    abbrev over : ℕ → ℕ → List ℕ
    over a n = filter is_data (range_with_len a n)

    all_over : (o : Option ℕ) (n a : ℕ) → is_none o ≡ false → Each HasId (map (at o) (over a n))
    all_over o zero a e = tt
    all_over o (suc n) a e = by (is_data a) (all_over o n (a + 1) e) where
      by : (b : Bool) → Each HasId (map (at o) (over (a + 1) n)) → Each HasId (map (at o) (cond b (a ∷ over (a + 1) n) (over (a + 1) n)))
      by true k = (stays o a 8 (omega arith) e, k)
      by false k = k

    any_over : (o : Option ℕ) (n a : ℕ) → any a 8 ≡ true → Each HasId (map (at o) (over a n))
    any_over o zero a e = tt
    any_over o (suc n) a e = by (is_data a) (any_over o n (a + 1) (naming.any_lasts frame a (a + 1) 8 (omega arith) e)) where
      by : (b : Bool) → Each HasId (map (at o) (over (a + 1) n)) → Each HasId (map (at o) (cond b (a ∷ over (a + 1) n) (over (a + 1) n)))
      by true k = (named_at o a 8 (omega arith) e, k)
      by false k = k

    none_at : (i : ℕ) → any i 8 ≡ false → is_none (id_below frame None i 8) ≡ true
    none_at i e = ap (λ (o : Option ℕ). is_none o) (naming.not_named frame None i 8 e)

    none_over : (n a : ℕ) → a + n ≤ 16 → any 16 8 ≡ false → Each NoId (map (at None) (over a n))
    none_over zero a h e = tt
    none_over (suc n) a h e = by (is_data a) (none_over n (a + 1) (omega arith) e) where
      none : (b : Bool) → any a 8 ≡ b → any a 8 ≡ false
      none false k = k
      none true k = let q = naming.any_lasts frame a 16 8 (omega arith) k in cc

      by : (b : Bool) → Each NoId (map (at None) (over (a + 1) n)) → Each NoId (map (at None) (cond b (a ∷ over (a + 1) n) (over (a + 1) n)))
      by true k = (none_at a (none (any a 8) refl), k)
      by false k = k

    named_over : (n a : ℕ) → Named (map (at None) (over a n))
    named_over zero a = all_named [] tt
    named_over (suc n) a = by (any a 8) refl (named_over n (a + 1)) where
      step : (b : Bool) → any a 8 ≡ false → Named (map (at None) (over (a + 1) n)) → Named (map (at None) (cond b (a ∷ over (a + 1) n) (over (a + 1) n)))
      step true e l = hidden_first (at None a ∷ []) (map (at None) (over (a + 1) n)) (none_at a e, tt) l
      step false e l = l

      by : (b : Bool) → any a 8 ≡ b → Named (map (at None) (over (a + 1) n)) → Named (map (at None) (over a (suc n)))
      by true e l = all_named (map (at None) (over a (suc n))) (any_over None (suc n) a e)
      by false e l = step (is_data a) e l

  abbrev is_data : ℕ → Bool
  is_data i = not (i % 2 == 0 && slice_index frame i % 2 == 1)

  pub frame_some : (offsets : List ℕ) (o : Option ℕ) → is_none o ≡ false → Each HasId (cells frame offsets o) × (is_none (id_after frame o) ≡ false)
  frame_some offsets o e = (subst (λ (l : List Cell). Each HasId l) (sym (cells_are frame offsets o)) (all_over offsets is_data o 15 0 e), stays o 16 8 (omega arith) e)

  pub frame_none : (offsets : List ℕ) → (Named (cells frame offsets None) × (is_none (id_after frame None) ≡ false)) ⊎ (Each NoId (cells frame offsets None) × (id_after frame None ≡ None))
  frame_none offsets = by (any 16 8) refl where
    by : (b : Bool) → any 16 8 ≡ b → (Named (cells frame offsets None) × (is_none (id_after frame None) ≡ false)) ⊎ (Each NoId (cells frame offsets None) × (id_after frame None ≡ None))
    by true e = inl (subst (λ (l : List Cell). Named l) (sym (cells_are frame offsets None)) (named_over offsets is_data 15 0), named_at None 16 8 (omega arith) e)
    by false e = inr (subst (λ (l : List Cell). Each NoId l) (sym (cells_are frame offsets None)) (none_over offsets is_data 15 0 (omega arith) e), naming.not_named frame None 16 8 e)

abbrev ItemNames : PortItem → Type 0
ItemNames Full = Unit {0}
ItemNames Half = Unit {0}
ItemNames (Frame f halves) = Namer (units_of f)

some_items : (o : Option ℕ) (items : List PortItem) → is_none o ≡ false → Each ItemNames items → Each HasId (cells_of_items o items)
some_items o [] e p = tt
some_items o (Full ∷ items) e p = some_items o items e p.1
some_items o (Half ∷ items) e p = some_items o items e p.1
some_items o (Frame f halves ∷ items) e p =
    let k = frame_some (units_of f) p.0 (offsets_of f) o e in
    each_append HasId (cells (units_of f) (offsets_of f) o) (cells_of_items (id_after (units_of f) o) items) k.0 (some_items (id_after (units_of f) o) items k.1 p.1)

pub named_items : (items : List PortItem) → Each ItemNames items → Named (cells_of_items None items)
named_items [] p = all_named [] tt
named_items (Full ∷ items) p = named_items items p.1
named_items (Half ∷ items) p = named_items items p.1
named_items (Frame f halves ∷ items) p = elim (frame_none (units_of f) p.0 (offsets_of f)) [
  | inl m ↦ named_last (cells (units_of f) (offsets_of f) None) (cells_of_items (id_after (units_of f) None) items) m.0 (some_items (id_after (units_of f) None) items m.1 p.1)
  | inr m ↦ hidden_first (cells (units_of f) (offsets_of f) None) (cells_of_items (id_after (units_of f) None) items) m.0
      (subst (λ (o : Option ℕ). Named (cells_of_items o items)) (sym m.1) (named_items items p.1))
]

-- the bytes of a frame are among those that spell it
words_bytes : (n halves : ℕ) (f r : List Placed) → IsWords n halves f r → Each IsByte r → Each IsByte f
words_bytes zero halves f r (a, e, b) h = subst (λ (l : List Placed). Each IsByte l) (sym e) tt
words_bytes (suc n) halves f r (here, later, a, b, g, w, i, ek, ef, m) h =
    let k = (each_parts IsByte i.before (a ∷ (b ∷ w)) (subst (λ (l : List Placed). Each IsByte l) i.parts h)).1 in
    subst (λ (l : List Placed). Each IsByte l) (sym ef) (k.0, (k.1.0, words_bytes n later g w m k.1.1))

frame_bytes : (f r : List Placed) (halves : ℕ) → Spells (Frame f halves) r → Each IsByte r → Each IsByte f
frame_bytes f r halves (a, b, g, w, i, ef, m) h =
    let k = (each_parts IsByte i.before (a ∷ (b ∷ w)) (subst (λ (l : List Placed). Each IsByte l) i.parts h)).1 in
    subst (λ (l : List Placed). Each IsByte l) (sym ef) (k.0, (k.1.0, words_bytes 7 halves g w m k.1.1))

byte_at : (f : List Placed) (i : ℕ) → Each IsByte f → slice_index (units_of f) i < 256
byte_at [] i e = (let k : 0 < 256 = omega arith in k)
byte_at (x ∷ f) zero e = e.0
byte_at (x ∷ f) (suc i) e = byte_at f i e.1

is_id : (n : ℕ) → n < 256 → n ≢ 255 → (n % 2 == 1) ≡ true → is_none (source_id (n / 2)) ≡ false
is_id n h k e =
    let o : n % 2 ≡ 1 = grind (arith, nat_tests) in
    let l : n / 2 ≤ 126 = few n h k o in
    ap (λ (b : Bool). is_none (cond b (Some (n / 2)) None)) (le-leb (n / 2) 126 l) where
      few : (n : ℕ) → n < 256 → n ≢ 255 → n % 2 ≡ 1 → n / 2 ≤ 126
      few n h k o = grind arith

item_names : (p : PortItem) (r : List Placed) → Spells p r → Each IsByte r → ItemNames p
item_names Full r s e = tt
item_names Half r s e = tt
item_names (Frame f halves) r s e = λ k h n. is_id (slice_index (units_of f) (2 * k)) (byte_at f (2 * k) (frame_bytes f r halves s e)) (frame_proper f r halves s k h) n

pub split_names : (items : List (PortItem × Place)) (rest u : List Placed) → Splits Spells items rest u → Each IsByte u → Each ItemNames (map (λ x. x.0) items)
split_names [] rest u s e = tt
split_names (x ∷ items) rest u s e =
    let k = each_parts IsByte (s.0 ++ s.1 ∷ []) s.2 (subst (λ (l : List Placed). Each IsByte l) (s.4 ∙ sym (append_assoc s.0 (s.1 ∷ []) s.2)) e) in
    (item_names x.0 (s.0 ++ s.1 ∷ []) s.3 k.0, split_names items rest s.2 s.6 k.1)
