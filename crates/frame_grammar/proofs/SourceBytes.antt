-- The bytes of one source, pair by pair.
use Rattle.std.proofs.Common.{◌≡◌, ◌≢◌, ℕ, ◌+◌, ◌*◌, ◌/◌, ◌%◌, ◌<◌, ◌≤◌, List, [], ◌∷◌, ◌++◌, map, refl, sym, ◌∙◌, ap, subst, arith, Bool, true, false, cond, Option, Some, None, append_assoc, add-one}
use Rattle.std.specs.Prelude.{slice_index, ◌==◌, ◌&&◌, nat_le}
use Rattle.std.proofs.lemmas.Bool.Decides.{nat_tests}
use Rattle.std.proofs.lemmas.List.{map-append}
use Rattle.std.proofs.lemmas.List.Elements.{filter-append}
use Rattle.frame_grammar.specs.Names.{Cell, source_id, byte_at, units_of}
use Rattle.frame_grammar.specs.Frame.{names, aux_bit, even_data, even_cells, cells_below, cells, id_at, run_at, cell, IsInForce}
use Rattle.frame_grammar.proofs.Cells.{odd_cells}
use Rattle.frame_grammar.specs.Reading.{is_source, source_list, offsets_of}
use Rattle.frame_grammar.specs.SourceBytes.{bytes_of_source, source_units}
use Rattle.frame_grammar.proofs.Looks.{passes, passes_odd, names_now, defers, names_next}

-- the bytes with their places, in cells that follow one another, and without their places
pub list_append : (s : ℕ) (a b : List Cell) → source_list s (a ++ b) ≡ source_list s a ++ source_list s b
list_append s a b = filter-append (λ (c : Cell). is_source s c.id) a b

pub units_append : (s : ℕ) (a b : List Cell) → source_units s (a ++ b) ≡ source_units s a ++ source_units s b
units_append s a b = ap (map (λ (c : Cell). byte_at c.at c.byte)) (list_append s a b) ∙ map-append (λ (c : Cell). byte_at c.at c.byte) (source_list s a) (source_list s b)

bytes_placed : (cells : List Cell) → units_of (map (λ (c : Cell). byte_at c.at c.byte) cells) ≡ map (λ (c : Cell). c.byte) cells
bytes_placed [] = refl
bytes_placed (c ∷ cells) = ap (λ (l : List ℕ). c.byte ∷ l) (bytes_placed cells)

offsets_placed : (cells : List Cell) → offsets_of (map (λ (c : Cell). byte_at c.at c.byte) cells) ≡ map (λ (c : Cell). c.at) cells
offsets_placed [] = refl
offsets_placed (c ∷ cells) = ap (λ (l : List ℕ). c.at ∷ l) (offsets_placed cells)

pub units_bytes : (s : ℕ) (cells : List Cell) → units_of (source_units s cells) ≡ bytes_of_source s cells
units_bytes s cells = bytes_placed (source_list s cells)

pub units_offsets : (s : ℕ) (cells : List Cell) → offsets_of (source_units s cells) ≡ map (λ (c : Cell). c.at) (source_list s cells)
units_offsets s cells = offsets_placed (source_list s cells)

pub bytes_append : (s : ℕ) (a b : List Cell) → bytes_of_source s (a ++ b) ≡ bytes_of_source s a ++ bytes_of_source s b
bytes_append s a b = ap (map (λ (c : Cell). c.byte)) (filter-append (λ (c : Cell). is_source s c.id) a b) ∙ map-append (λ (c : Cell). c.byte) (source_list s a) (source_list s b)

one : (c : Cell) (t : Bool) → map (λ (x : Cell). x.byte) (cond t (c ∷ []) []) ≡ cond t (c.byte ∷ []) []
one c true = refl
one c false = refl

bytes_one : (s : ℕ) (c : Cell) → bytes_of_source s (c ∷ []) ≡ cond (is_source s c.id) (c.byte ∷ []) []
bytes_one s c = one c (is_source s c.id)

-- the number of an ID tells the source
by_code : (s n : ℕ) (t : Bool) → s ≤ 126 → nat_le n 126 ≡ t → is_source s (cond t (Some n) None) ≡ (n == s)
by_code s n true h e = refl
by_code s n false h e = grind (arith, nat_tests)

pub is_code : (s n : ℕ) → s ≤ 126 → is_source s (source_id n) ≡ (n == s)
is_code s n h = by_code s n (nat_le n 126) h refl

odd_even : (e : ℕ) → (e % 2 == 0) ≡ true → (e % 2 == 1) ≡ false
odd_even e h = grind (arith, nat_tests)

odd_not : (e : ℕ) → (e % 2 == 0) ≡ false → (e % 2 == 1) ≡ true
odd_not e h = let k : e % 2 ≢ 0 = (λ q. (let z : (e % 2 == 0) ≡ true = grind (arith, nat_tests) in cc)) in let m : e % 2 ≡ 1 = omega (arith, k) in grind (arith, nat_tests)

module _ (frame offsets : List ℕ) (before : Option ℕ) (s : ℕ) (few : s ≤ 126) where
  even_by : (k code e : ℕ) (t : Bool) → (slice_index frame (2 * k) % 2 == 0) ≡ t → source_id code ≡ id_at frame before (2 * k) → (t ≡ true → e ≡ even_data frame k) →
      bytes_of_source s (even_cells frame offsets before k) ≡ cond (t && code == s) (e ∷ []) []
  even_by k code e true n i d =
      ap (λ (b : Bool). bytes_of_source s (cond b [] (cell frame offsets before (2 * k) (even_data frame k) ∷ []))) (odd_even (slice_index frame (2 * k)) n)
      ∙ bytes_one s (cell frame offsets before (2 * k) (even_data frame k))
      ∙ ap (λ (x : ℕ). cond (is_source s (id_at frame before (2 * k))) (x ∷ []) []) (sym (d refl))
      ∙ ap (λ (b : Bool). cond b (e ∷ []) []) (ap (is_source s) (sym i) ∙ is_code s code few)
  even_by k code e false n i d =
      ap (λ (b : Bool). bytes_of_source s (cond b [] (cell frame offsets before (2 * k) (even_data frame k) ∷ []))) (odd_not (slice_index frame (2 * k)) n)

  odd_by : (k code : ℕ) → source_id code ≡ id_at frame before (2 * k + 1) →
      bytes_of_source s (odd_cells frame offsets before k) ≡ cond (code == s) (slice_index frame (2 * k + 1) ∷ []) []
  odd_by k code i =
      bytes_one s (cell frame offsets before (2 * k + 1) (slice_index frame (2 * k + 1)))
      ∙ ap (λ (b : Bool). cond b (slice_index frame (2 * k + 1) ∷ []) []) (ap (is_source s) (sym i) ∙ is_code s code few)

  -- a pair adds the byte of its even index, and that of its odd one
  pub pair_bytes : (k code between e : ℕ) (x y z : List ℕ) → source_id code ≡ id_at frame before (2 * k) → source_id between ≡ id_at frame before (2 * k + 1) →
      ((slice_index frame (2 * k) % 2 == 0) ≡ true → e ≡ even_data frame k) → x ≡ bytes_of_source s (cells_below frame offsets before k) →
      y ≡ x ++ cond ((slice_index frame (2 * k) % 2 == 0) && code == s) (e ∷ []) [] →
      z ≡ y ++ cond (between == s) (slice_index frame (2 * k + 1) ∷ []) [] →
      z ≡ bytes_of_source s (cells_below frame offsets before (k + 1))
  pair_bytes k code between e x y z i j d p q r =
      rw add-one (
      r ∙ ap (λ (l : List ℕ). l ++ cond (between == s) (slice_index frame (2 * k + 1) ∷ []) []) q
      ∙ append_assoc x (cond ((slice_index frame (2 * k) % 2 == 0) && code == s) (e ∷ []) []) (cond (between == s) (slice_index frame (2 * k + 1) ∷ []) [])
      ∙ ap (λ (l : List ℕ). l ++ (cond ((slice_index frame (2 * k) % 2 == 0) && code == s) (e ∷ []) [] ++ cond (between == s) (slice_index frame (2 * k + 1) ∷ []) [])) p
      ∙ ap (λ (l : List ℕ). bytes_of_source s (cells_below frame offsets before k) ++ l) (
      ap (λ (l : List ℕ). l ++ cond (between == s) (slice_index frame (2 * k + 1) ∷ []) []) (sym (even_by k code e (slice_index frame (2 * k) % 2 == 0) refl i d))
      ∙ ap (λ (l : List ℕ). bytes_of_source s (even_cells frame offsets before k) ++ l) (sym (odd_by k between j))
      ∙ sym (bytes_append s (even_cells frame offsets before k) (odd_cells frame offsets before k)))
      ∙ sym (bytes_append s (cells_below frame offsets before k) (even_cells frame offsets before k ++ odd_cells frame offsets before k)))

  -- and the last even byte
  pub whole_bytes : (k code e : ℕ) (x y : List ℕ) → k ≡ 7 → source_id code ≡ id_at frame before (2 * k) →
      ((slice_index frame 14 % 2 == 0) ≡ true → e ≡ even_data frame 7) → x ≡ bytes_of_source s (cells_below frame offsets before k) →
      y ≡ x ++ cond ((slice_index frame 14 % 2 == 0) && code == s) (e ∷ []) [] → y ≡ bytes_of_source s (cells frame offsets before)
  whole_bytes k code e x y h i d p q =
      q ∙ ap (λ (l : List ℕ). l ++ cond ((slice_index frame 14 % 2 == 0) && code == s) (e ∷ []) []) (p ∙ ap (λ (n : ℕ). bytes_of_source s (cells_below frame offsets before n)) h)
      ∙ ap (λ (l : List ℕ). bytes_of_source s (cells_below frame offsets before 7) ++ l)
      (sym (even_by 7 code e (slice_index frame 14 % 2 == 0) refl (subst (λ (n : ℕ). source_id code ≡ id_at frame before (2 * n)) h i) d))
      ∙ sym (bytes_append s (cells_below frame offsets before 7) (even_cells frame offsets before 7))

-- the ID after a pair, and between its bytes
module _ (frame : List ℕ) (before : Option ℕ) (k code : ℕ) (h : k < 8) (i : source_id code ≡ id_at frame before (2 * k)) where
  here : IsInForce frame before (2 * k) (source_id code) (run_at frame (2 * k))
  here = record { id_is = i; run_is = refl }

  after_by : (t : Bool) → names frame k ≡ t → source_id (cond t (slice_index frame (2 * k) / 2) code) ≡ id_at frame before (2 * (k + 1))
  after_by true n = (names_next frame before (source_id code) k (run_at frame (2 * k)) h n here).id_is
  after_by false n = (passes frame before (source_id code) k (run_at frame (2 * k)) h n here).id_is

  pub after_is : source_id (cond (slice_index frame (2 * k) % 2 == 1) (slice_index frame (2 * k) / 2) code) ≡ id_at frame before (2 * (k + 1))
  after_is = after_by (names frame k) refl

  is_zero : (a : ℕ) → (a == 0) ≡ true → a ≡ 0
  is_zero a e = grind (arith, nat_tests)

  is_not_zero : (a : ℕ) → (a == 0) ≡ false → a ≢ 0
  is_not_zero a e q = grind (arith, nat_tests)

  within_by : (t w : Bool) → names frame k ≡ t → (aux_bit frame k == 0) ≡ w →
      source_id (cond w (cond t (slice_index frame (2 * k) / 2) code) code) ≡ id_at frame before (2 * k + 1)
  within_by true true n a = (names_now frame before (source_id code) k (run_at frame (2 * k)) h n (is_zero (aux_bit frame k) a) here).id_is
  within_by t false n a = (defers frame before (source_id code) k (run_at frame (2 * k)) h (is_not_zero (aux_bit frame k) a) here).id_is
  within_by false true n a = (passes_odd frame before (source_id code) k (run_at frame (2 * k)) h n here).id_is

  pub within_is : source_id (cond (aux_bit frame k == 0) (cond (slice_index frame (2 * k) % 2 == 1) (slice_index frame (2 * k) / 2) code) code) ≡ id_at frame before (2 * k + 1)
  within_is = within_by (names frame k) (aux_bit frame k == 0) refl refl
