-- The cells of items after an ID that is not known: as after a known one, but for the IDs before the first that a frame names.
use Rattle.std.proofs.Common.{◌≡◌, ℕ, zero, suc, ◌+◌, ◌*◌, ◌≤◌, List, [], ◌∷◌, ◌++◌, map, refl, sym, ◌∙◌, ap, subst, ◌⊎◌, inl, inr, arith, append_assoc, Bool, true, false, cond, Option, None, Some}
use Rattle.std.specs.Prelude.{◌==◌, ◌&&◌, ◌||◌, ◌/◌, ◌%◌, not, nat_lt, is_none, slice_index}
use Rattle.std.specs.List.{filter, range_with_len}
use Rattle.std.proofs.lemmas.List.{map-append}
use Rattle.std.proofs.lemmas.Bool.Decides.{nat_tests}
use Rattle.resync_grammars.specs.Names.{Cell, units_of, names, aux_bit, in_effect, id_below, run_at, cell, cells}
use Rattle.resync_grammars.specs.Names.{id_after, data_at, data_indexes, PortItem, Full, Half, Frame, offsets_of}
use Rattle.resync_grammars.specs.Names.{cells_of_items, source_id}
use Rattle.frame_grammar.proofs.CellLaws.{cells_are}
use Rattle.resync_grammars.specs.Port.{unnamed, AreNamedLater}

-- the same cells, but for the IDs of a front of them
pub record Later (whole rest : List Cell) : Type 0 where
  pub hidden : List Cell
  pub named : List Cell
  pub whole_is : whole ≡ hidden ++ named
  pub rest_is : rest ≡ map unnamed hidden ++ named

later_refl : (cs : List Cell) → Later cs cs
later_refl cs = record { hidden = []; named = cs; whole_is = refl; rest_is = refl }

-- hidden cells first
hidden_first : (cs xs ys : List Cell) → Later xs ys → Later (cs ++ xs) (map unnamed cs ++ ys)
hidden_first cs xs ys l = record {
  hidden = cs ++ l.hidden;
  named = l.named;
  whole_is = ap (λ (z : List Cell). cs ++ z) l.whole_is ∙ sym (append_assoc cs l.hidden l.named);
  rest_is =
      ap (λ (z : List Cell). map unnamed cs ++ z) l.rest_is ∙ sym (append_assoc (map unnamed cs) (map unnamed l.hidden) l.named)
      ∙ ap (λ (z : List Cell). z ++ l.named) (sym (map-append unnamed cs l.hidden));
}

-- and cells that are the same after them
same_last : (cs xs ys : List Cell) → Later xs ys → Later (xs ++ cs) (ys ++ cs)
same_last cs xs ys l = record {
  hidden = l.hidden;
  named = l.named ++ cs;
  whole_is = ap (λ (z : List Cell). z ++ cs) l.whole_is ∙ append_assoc l.hidden l.named cs;
  rest_is = ap (λ (z : List Cell). z ++ cs) l.rest_is ∙ append_assoc (map unnamed l.hidden) l.named cs;
}

no_id : (o : Option ℕ) → is_none o ≡ true → o ≡ None
no_id None e = refl
no_id (Some x) e = cc

-- a cell without an ID is as if it were hidden
pub begin_named : (whole rest hidden named : List Cell) → whole ≡ hidden ++ named → rest ≡ map unnamed hidden ++ named → AreNamedLater whole rest
begin_named whole rest hidden [] e f = record { hidden = hidden; named = []; whole_is = e; rest_is = f; begins = tt }
begin_named whole rest hidden (c ∷ cs) e f = by (is_none c.id) refl (λ g. begin_named whole rest (hidden ++ c ∷ []) cs
    (e ∙ sym (append_assoc hidden (c ∷ []) cs))
    (f ∙ ap (λ (x : Cell). map unnamed hidden ++ (x ∷ cs)) (as_hidden g) ∙ sym (append_assoc (map unnamed hidden) (unnamed c ∷ []) cs) ∙ ap (λ (z : List Cell). z ++ cs) (sym (map-append unnamed hidden (c ∷ []))))) where
      as_hidden : is_none c.id ≡ true → c ≡ unnamed c
      as_hidden g = ap (λ (o : Option ℕ). let x : Cell = record { at = c.at; id = o; run = c.run; byte = c.byte } in x) (no_id c.id g)

      by : (b : Bool) → is_none c.id ≡ b → (is_none c.id ≡ true → AreNamedLater whole rest) → AreNamedLater whole rest
      by true g more = more g
      by false g more = record { hidden = hidden; named = c ∷ cs; whole_is = e; rest_is = f; begins = g }

module _ (frame : List ℕ) where
  -- one of the first n ID bytes is in effect at an index
  abbrev pub any : ℕ → ℕ → Bool
  any i zero = false
  any i (suc n) = cond (in_effect frame i n) true (any i n)

  named_alike : (id other : Option ℕ) (i n : ℕ) → any i n ≡ true → id_below frame id i n ≡ id_below frame other i n
  named_alike id other i zero e = cc
  named_alike id other i (suc n) e = by (in_effect frame i n) e (named_alike id other i n) where
    by : (b : Bool) → cond b true (any i n) ≡ true → (any i n ≡ true → id_below frame id i n ≡ id_below frame other i n) →
        cond b (source_id (slice_index frame (2 * n) / 2)) (id_below frame id i n) ≡ cond b (source_id (slice_index frame (2 * n) / 2)) (id_below frame other i n)
    by true g more = refl
    by false g more = more g

  pub not_named : (id : Option ℕ) (i n : ℕ) → any i n ≡ false → id_below frame id i n ≡ id
  not_named id i zero e = refl
  not_named id i (suc n) e = by (in_effect frame i n) e (not_named id i n) where
    by : (b : Bool) → cond b true (any i n) ≡ false → (any i n ≡ false → id_below frame id i n ≡ id) → cond b (source_id (slice_index frame (2 * n) / 2)) (id_below frame id i n) ≡ id
    by true g more = cc
    by false g more = more g

  lasts_by : (name : Bool) (j i k a : ℕ) → i ≤ k → (name && nat_lt j i && (a == 0 || nat_lt (j + 1) i)) ≡ true → (name && nat_lt j k && (a == 0 || nat_lt (j + 1) k)) ≡ true
  lasts_by true j i k a h e = grind (arith, nat_tests)
  lasts_by false j i k a h e = e

  pub any_lasts : (i j n : ℕ) → i ≤ j → any i n ≡ true → any j n ≡ true
  any_lasts i j zero h e = e
  any_lasts i j (suc n) h e = by (in_effect frame i n) (in_effect frame j n) (λ g. lasts_by (names frame n) (2 * n) i j (aux_bit frame n) h g) e (any_lasts i j n h) where
    by : (b c : Bool) → (b ≡ true → c ≡ true) → cond b true (any i n) ≡ true → (any i n ≡ true → any j n ≡ true) → cond c true (any j n) ≡ true
    by true true g f more = refl
    by true false g f more = let k = g refl in cc
    by false true g f more = refl
    by false false g f more = more f

  module _ (offsets : List ℕ) (id : Option ℕ) (is_data : ℕ → Bool) where
    abbrev whole_at : ℕ → Cell
    whole_at i = cell frame offsets id i (data_at frame i)

    abbrev rest_at : ℕ → Cell
    rest_at i = cell frame offsets None i (data_at frame i)

    abbrev over : ℕ → ℕ → List ℕ
    over a n = filter is_data (range_with_len a n)

    abbrev made : ℕ → Option ℕ → Cell
    made i o = record { at = slice_index offsets i; id = o; run = run_at frame i; byte = data_at frame i }

    alike_at : (i : ℕ) → any i 8 ≡ true → rest_at i ≡ whole_at i
    alike_at i e = ap (made i) (named_alike None id i 8 e)

    hidden_at : (i : ℕ) → any i 8 ≡ false → rest_at i ≡ unnamed (whole_at i)
    hidden_at i e = ap (made i) (not_named None i 8 e)

    all_alike : (n a : ℕ) → any a 8 ≡ true → map rest_at (over a n) ≡ map whole_at (over a n)
    all_alike zero a e = refl
    all_alike (suc n) a e = by (is_data a) (all_alike n (a + 1) (any_lasts a (a + 1) 8 (omega arith) e)) where
      by : (b : Bool) → map rest_at (over (a + 1) n) ≡ map whole_at (over (a + 1) n) →
          map rest_at (cond b (a ∷ over (a + 1) n) (over (a + 1) n)) ≡ map whole_at (cond b (a ∷ over (a + 1) n) (over (a + 1) n))
      by true k = ap (λ (x : Cell). x ∷ map rest_at (over (a + 1) n)) (alike_at a e) ∙ ap (λ (l : List Cell). whole_at a ∷ l) k
      by false k = k

    all_hidden : (n a : ℕ) → a + n ≤ 16 → any 16 8 ≡ false → map rest_at (over a n) ≡ map unnamed (map whole_at (over a n))
    all_hidden zero a h e = refl
    all_hidden (suc n) a h e = by (is_data a) (all_hidden n (a + 1) (omega arith) e) where
      none : (b : Bool) → any a 8 ≡ b → any a 8 ≡ false
      none false k = k
      none true k = let q = any_lasts a 16 8 (omega arith) k in cc

      by : (b : Bool) → map rest_at (over (a + 1) n) ≡ map unnamed (map whole_at (over (a + 1) n)) →
          map rest_at (cond b (a ∷ over (a + 1) n) (over (a + 1) n)) ≡ map unnamed (map whole_at (cond b (a ∷ over (a + 1) n) (over (a + 1) n)))
      by true k = ap (λ (x : Cell). x ∷ map rest_at (over (a + 1) n)) (hidden_at a (none (any a 8) refl)) ∙ ap (λ (l : List Cell). unnamed (whole_at a) ∷ l) k
      by false k = k

    later_over : (n a : ℕ) → Later (map whole_at (over a n)) (map rest_at (over a n))
    later_over zero a = later_refl []
    later_over (suc n) a = by (any a 8) refl (later_over n (a + 1)) where
      step : (b : Bool) → any a 8 ≡ false → Later (map whole_at (over (a + 1) n)) (map rest_at (over (a + 1) n)) →
          Later (map whole_at (cond b (a ∷ over (a + 1) n) (over (a + 1) n))) (map rest_at (cond b (a ∷ over (a + 1) n) (over (a + 1) n)))
      step true e l =
          subst (λ (x : Cell). Later (whole_at a ∷ map whole_at (over (a + 1) n)) (x ∷ map rest_at (over (a + 1) n))) (sym (hidden_at a e))
          (hidden_first (whole_at a ∷ []) (map whole_at (over (a + 1) n)) (map rest_at (over (a + 1) n)) l)
      step false e l = l

      by : (b : Bool) → any a 8 ≡ b → Later (map whole_at (over (a + 1) n)) (map rest_at (over (a + 1) n)) → Later (map whole_at (over a (suc n))) (map rest_at (over a (suc n)))
      by true e l = subst (λ (l : List Cell). Later (map whole_at (over a (suc n))) l) (sym (all_alike (suc n) a e)) (later_refl (map whole_at (over a (suc n))))
      by false e l = step (is_data a) e l

  abbrev is_data : ℕ → Bool
  is_data i = not (i % 2 == 0 && slice_index frame i % 2 == 1)

  -- the frame names a source, and both read on alike; or it names none, and all its cells are hidden
  pub frame_names : (offsets : List ℕ) (id : Option ℕ) →
      (Later (cells frame offsets id) (cells frame offsets None) × (id_after frame None ≡ id_after frame id))
      ⊎ ((cells frame offsets None ≡ map unnamed (cells frame offsets id)) × (id_after frame None ≡ None) × (id_after frame id ≡ id))
  frame_names offsets id = by (any 16 8) refl where
    by : (b : Bool) → any 16 8 ≡ b →
        (Later (cells frame offsets id) (cells frame offsets None) × (id_after frame None ≡ id_after frame id))
        ⊎ ((cells frame offsets None ≡ map unnamed (cells frame offsets id)) × (id_after frame None ≡ None) × (id_after frame id ≡ id))
    by true e = inl (
      subst (λ (l : List Cell). Later l (cells frame offsets None)) (sym (cells_are frame offsets id))
          (subst (λ (l : List Cell). Later (map (λ i. cell frame offsets id i (data_at frame i)) (data_indexes frame)) l) (sym (cells_are frame offsets None)) (later_over offsets id is_data 15 0)),
      named_alike None id 16 8 e,
    )
    by false e = inr (
      cells_are frame offsets None ∙ all_hidden offsets id is_data 15 0 (omega arith) e ∙ ap (map unnamed) (sym (cells_are frame offsets id)),
      not_named None 16 8 e,
      not_named id 16 8 e,
    )

later_items : (id : Option ℕ) (items : List PortItem) → Later (cells_of_items id items) (cells_of_items None items)
later_items id [] = later_refl []
later_items id (Full ∷ items) = later_items id items
later_items id (Half ∷ items) = later_items id items
later_items id (Frame f halves ∷ items) = elim (frame_names (units_of f) (offsets_of f) id) [
  | inl m ↦ subst (λ (o : Option ℕ). Later (cells (units_of f) (offsets_of f) id ++ cells_of_items (id_after (units_of f) id) items) (cells (units_of f) (offsets_of f) None ++ cells_of_items o items)) (sym m.1)
      (same_last (cells_of_items (id_after (units_of f) id) items) (cells (units_of f) (offsets_of f) id) (cells (units_of f) (offsets_of f) None) m.0)
  | inr m ↦
      let more : Later (cells_of_items (id_after (units_of f) id) items) (cells_of_items (id_after (units_of f) None) items) =
      subst (λ (o : Option ℕ). Later (cells_of_items o items) (cells_of_items (id_after (units_of f) None) items)) (sym m.2)
      (subst (λ (o : Option ℕ). Later (cells_of_items id items) (cells_of_items o items)) (sym m.1) (later_items id items)) in
      subst (λ (l : List Cell). Later (cells (units_of f) (offsets_of f) id ++ cells_of_items (id_after (units_of f) id) items) (l ++ cells_of_items (id_after (units_of f) None) items)) (sym m.0)
      (hidden_first (cells (units_of f) (offsets_of f) id) (cells_of_items (id_after (units_of f) id) items) (cells_of_items (id_after (units_of f) None) items) more)
]

pub named_later : (id : Option ℕ) (items : List PortItem) → AreNamedLater (cells_of_items id items) (cells_of_items None items)
named_later id items = let l = later_items id items in begin_named _ _ l.hidden l.named l.whole_is l.rest_is
