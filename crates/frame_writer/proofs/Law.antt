-- A frame of the next tagged bytes has these bytes as its cells.
use Rattle.std.proofs.Common.{◌≡◌, ℕ, zero, suc, ◌+◌, ◌*◌, ◌/◌, ◌%◌, ◌<◌, ◌≤◌, List, [], ◌∷◌, ◌++◌, refl, sym, ◌∙◌, ap, arith, subst, Bool, true, false, cond, Option, None, Some, append_assoc, append-nil, length, replicate, map}
use Rattle.std.specs.Prelude.{◌==◌, slice_index, nat_le}
use Rattle.std.specs.Int.{bit_at}
use Rattle.std.proofs.lemmas.Bool.Decides.{nat_tests}
use Rattle.std.proofs.lemmas.Nat.Bits.{bit_at-suc, bit_at_lowest}
use Rattle.std.proofs.lemmas.List.{length_push, get_or-append-add, map-append, replicate-append-replicate}
use Rattle.std.proofs.lemmas.Bool.{eqb-true}
use Rattle.trace_values.specs.Cells.{source_id}
use Rattle.trace_values.specs.declared.cell.Cell.{Cell}
use Rattle.frame_grammar.specs.Frame.{names, aux_bit, even_data, even_cells, cells_below, cells, id_after, IsInForce}
use Rattle.frame_grammar.proofs.Cells.{odd_cells}
use Rattle.frame_grammar.proofs.Looks.{passes, passes_odd, names_now, names_next, defers, starts}
use Rattle.frame_grammar.proofs.Pairs.{made, even_is, even_no, odd_is}
use Rattle.frame_writer.specs.declared.pair.Pair.{Pair}
use Rattle.frame_writer.specs.Written.{Tagged, first, after_first, is_id, is_odd, paired, closed, Paired, Closed, Filled, filled, following, naming, bit, aux_byte}
use Rattle.frame_writer.specs.ReadBack.{seen, as_seen}
use Rattle.frame_writer.proofs.Frames.{filled_zero, filled_suc}
use Rattle.frame_writer.proofs.Bytes.{bit_small}

abbrev pub flat : List Pair → List ℕ
flat [] = []
flat (p ∷ pairs) = p.even ∷ (p.odd ∷ flat pairs)

abbrev pub frame_of : List Pair → ℕ → Bool → List ℕ
frame_of pairs even last = flat pairs ++ (even ∷ (aux_byte pairs last ∷ []))

-- where the parts of a frame stand
flat_length : (pairs : List Pair) → length (flat pairs) ≡ 2 * length pairs
flat_length [] = refl
flat_length (p ∷ pairs) = let k = flat_length pairs in omega arith

flat_append : (a b : List Pair) → flat (a ++ b) ≡ flat a ++ flat b
flat_append [] b = refl
flat_append (p ∷ a) b = ap (λ (l : List ℕ). p.even ∷ (p.odd ∷ l)) (flat_append a b)

stands_at : (done : List Pair) (l : List ℕ) (n : ℕ) → slice_index (flat done ++ l) (2 * length done + n) ≡ slice_index l n
stands_at done l n = ap (λ (k : ℕ). slice_index (flat done ++ l) (k + n)) (sym (flat_length done)) ∙ get_or-append-add (flat done) l n 0

halved : (b : Bool) (n : ℕ) → (bit b + 2 * n) / 2 ≡ n
halved b n = let k = bit_small b in omega arith

low : (b : Bool) (n : ℕ) → (bit b + 2 * n) % 2 ≡ bit b
low b n = let k = bit_small b in omega arith

aux_at : (done pairs : List Pair) (p : Pair) (last : Bool) → bit_at (aux_byte (done ++ (p ∷ pairs)) last) (length done) ≡ bit p.aux
aux_at [] pairs p last = bit_at_lowest (aux_byte (p ∷ pairs) last) ∙ low p.aux (aux_byte pairs last)
aux_at (q ∷ done) pairs p last =
    bit_at-suc (aux_byte (q ∷ (done ++ (p ∷ pairs))) last) (length done)
    ∙ ap (λ (n : ℕ). bit_at n (length done)) (halved q.aux (aux_byte (done ++ (p ∷ pairs)) last)) ∙ aux_at done pairs p last

aux_last : (done : List Pair) (last : Bool) → bit_at (aux_byte done last) (length done) ≡ bit last
aux_last [] last = bit_at_lowest (bit last) ∙ (let k = bit_small last in let e : bit last % 2 ≡ bit last = omega arith in e)
aux_last (q ∷ done) last =
    bit_at-suc (aux_byte (q ∷ done) last) (length done) ∙ ap (λ (n : ℕ). bit_at n (length done)) (halved q.aux (aux_byte done last)) ∙ aux_last done last

-- a pair of the frame
pub record HasPair (frame : List ℕ) (k : ℕ) (p : Pair) : Type 0 where
  pub even : slice_index frame (2 * k) ≡ p.even
  pub odd : slice_index frame (2 * k + 1) ≡ p.odd
  pub aux : aux_bit frame k ≡ bit p.aux

has_pair : (done pairs : List Pair) (p : Pair) (even : ℕ) (last : Bool) → length (done ++ (p ∷ pairs)) ≡ 7 → HasPair (frame_of (done ++ (p ∷ pairs)) even last) (length done) p
has_pair done pairs p even last h =
    let tail = even ∷ (aux_byte (done ++ (p ∷ pairs)) last ∷ []) in
    let parts : frame_of (done ++ (p ∷ pairs)) even last ≡ flat done ++ (p.even ∷ (p.odd ∷ (flat pairs ++ tail))) =
    ap (λ (l : List ℕ). l ++ tail) (flat_append done (p ∷ pairs)) ∙ append_assoc (flat done) (flat (p ∷ pairs)) tail in
    let end : slice_index (frame_of (done ++ (p ∷ pairs)) even last) 15 ≡ aux_byte (done ++ (p ∷ pairs)) last =
    ap (λ (n : ℕ). slice_index (frame_of (done ++ (p ∷ pairs)) even last) (2 * n + 1)) (sym h) ∙ stands_at (done ++ (p ∷ pairs)) tail 1 in
    record {
      even = ap (λ (l : List ℕ). slice_index l (2 * length done)) parts ∙ ap (λ (n : ℕ). slice_index (flat done ++ (p.even ∷ (p.odd ∷ (flat pairs ++ tail)))) n) (let e : 2 * length done ≡ 2 * length done + 0 = omega arith in e)
          ∙ stands_at done (p.even ∷ (p.odd ∷ (flat pairs ++ tail))) 0;
      odd = ap (λ (l : List ℕ). slice_index l (2 * length done + 1)) parts ∙ stands_at done (p.even ∷ (p.odd ∷ (flat pairs ++ tail))) 1;
      aux = ap (λ (n : ℕ). bit_at n (length done)) end ∙ aux_at done pairs p last;
    }

abbrev pub null : Tagged
null = record { id = 0; byte = 0 }

abbrev pub AllIds : List Tagged → Type 0
AllIds [] = Unit {0}
AllIds (x ∷ t) = (x.id ≤ 126) × AllIds t

pub first_id : (t : List Tagged) → AllIds t → (first t).id ≤ 126
first_id [] a = omega arith
first_id (x ∷ t) a = a.0

pub behind_ids : (t : List Tagged) → AllIds t → AllIds (after_first t)
behind_ids [] a = a
behind_ids (x ∷ t) a = a.1

-- the writer knows nothing, or the ID in force
abbrev pub Knows : Option ℕ → Option ℕ → Type 0
Knows None id = Unit {0}
Knows (Some i) id = id ≡ Some i

one : (t : List Tagged) → (n : ℕ) × ((first t ∷ after_first t) ≡ t ++ replicate n null)
one [] = (1, refl)
one (x ∷ t) = (0, sym (append-nil (x ∷ t)))

two : (t : List Tagged) → (n : ℕ) × ((first t ∷ (first (after_first t) ∷ after_first (after_first t))) ≡ t ++ replicate n null)
two [] = (2, refl)
two (x ∷ []) = (1, refl)
two (x ∷ (y ∷ t)) = (0, sym (append-nil (x ∷ (y ∷ t))))

odd_names : (i : ℕ) → ((2 * i + 1) % 2 == 1) ≡ true
odd_names i = let k : (2 * i + 1) % 2 ≡ 1 = omega arith in ap (λ (n : ℕ). n == 1) k

even_not : (b : ℕ) → ((2 * (b / 2)) % 2 == 1) ≡ false
even_not b = let k : (2 * (b / 2)) % 2 ≡ 0 = omega arith in ap (λ (n : ℕ). n == 1) k

is_source : (i : ℕ) → i ≤ 126 → source_id ((2 * i + 1) / 2) ≡ Some i
is_source i h =
    let k : (2 * i + 1) / 2 ≡ i = omega arith in
    let l : nat_le i 126 ≡ true = grind (arith, nat_tests) in
    ap source_id k ∙ ap (λ (b : Bool). cond b (Some i) None) l

bit_odd : (b : ℕ) → bit (is_odd b) ≡ b % 2
bit_odd b = grind (arith, nat_tests)

known_id : (c id : Option ℕ) (i : ℕ) → Knows c id → is_id c i ≡ true → id ≡ Some i
known_id None id i k e = cc
known_id (Some j) id i k e = k ∙ ap (λ (n : ℕ). Some n) (eqb-true j i e)

module _ (frame offsets : List ℕ) (before : Option ℕ) where
  -- pair k carries the first of the bytes t, and what is left is rest
  pub record Carries (k : ℕ) (t : List Tagged) (c : Option ℕ) (rest : List Tagged) : Type 0 where
    pub taken : List Tagged
    pub nulls : ℕ
    pub id : Option ℕ
    pub run : ℕ
    pub cells : map seen (even_cells frame offsets before k ++ odd_cells frame offsets before k) ≡ map as_seen taken
    pub bytes : taken ++ rest ≡ t ++ replicate nulls null
    pub force : IsInForce frame before (2 * (k + 1)) id run
    pub knows : Knows c id
    pub ids : AllIds rest

  named_now : (k i run : ℕ) (id : Option ℕ) → k < 8 → i ≤ 126 → slice_index frame (2 * k) ≡ 2 * i + 1 → aux_bit frame k ≡ 0 → IsInForce frame before (2 * k) id run →
      IsInForce frame before (2 * k + 1) (Some i) (run + 1)
  named_now k i run id h l e a f =
      subst (λ (x : Option ℕ). IsInForce frame before (2 * k + 1) x (run + 1)) (ap (λ (n : ℕ). source_id (n / 2)) e ∙ is_source i l)
      (names_now frame before id k run h (ap (λ (n : ℕ). n % 2 == 1) e ∙ odd_names i) a f)

  named_then : (k i run : ℕ) (id : Option ℕ) → k < 8 → i ≤ 126 → slice_index frame (2 * k) ≡ 2 * i + 1 → IsInForce frame before (2 * k) id run →
      IsInForce frame before (2 * (k + 1)) (Some i) (run + 1)
  named_then k i run id h l e f =
      subst (λ (x : Option ℕ). IsInForce frame before (2 * (k + 1)) x (run + 1)) (ap (λ (n : ℕ). source_id (n / 2)) e ∙ is_source i l)
      (names_next frame before id k run h (ap (λ (n : ℕ). n % 2 == 1) e ∙ odd_names i) f)

  odd_seen : (k run : ℕ) (id : Option ℕ) → (slice_index frame (2 * k) % 2 == 1) ≡ true → IsInForce frame before (2 * k + 1) id run →
      map seen (even_cells frame offsets before k ++ odd_cells frame offsets before k) ≡ (id, slice_index frame (2 * k + 1)) ∷ []
  odd_seen k run id n f =
      ap (λ (l : List Cell). map seen (l ++ odd_cells frame offsets before k)) (even_no frame offsets before k n)
      ∙ ap (λ (l : List Cell). map seen l) (odd_is frame offsets before k run id f)

  same_seen : (id id' : Option ℕ) (b b' : ℕ) → id ≡ id' → b ≡ b' → (let p : Option ℕ × ℕ = (id, b) in let q : Option ℕ × ℕ = (id', b') in p ≡ q)
  same_seen id id' b b' e f = cc

  carries_naming : (k run : ℕ) (c id : Option ℕ) (t : List Tagged) → k < 8 → AllIds t → IsInForce frame before (2 * k) id run →
      HasPair frame k (naming (first t) (after_first t)).pair → Carries k t (Some (first t).id) (after_first t)
  carries_naming k run c id t h a f p =
      let i = (first t).id in
      let now = named_now k i run id h (first_id t a) p.even p.aux f in
      record {
        taken = first t ∷ [];
        nulls = (one t).0;
        id = Some i;
        run = run + 1;
        cells = odd_seen k (run + 1) (Some i) (ap (λ (n : ℕ). n % 2 == 1) p.even ∙ odd_names i) now ∙ ap (λ (b : ℕ). (Some i, b) ∷ []) p.odd;
        bytes = (one t).1;
        force = named_then k i run id h (first_id t a) p.even f;
        knows = refl;
        ids = behind_ids t a;
      }

  carries_deferring : (k run : ℕ) (c id : Option ℕ) (t : List Tagged) → k < 8 → AllIds t → IsInForce frame before (2 * k) id run → id ≡ Some (first t).id →
      HasPair frame k (record { even = 2 * (first (after_first t)).id + 1; aux = true; odd = (first t).byte }) → Carries k t (Some (first (after_first t)).id) (after_first t)
  carries_deferring k run c id t h a f e p =
      let j = (first (after_first t)).id in
      let l = first_id (after_first t) (behind_ids t a) in
      record {
        taken = first t ∷ [];
        nulls = (one t).0;
        id = Some j;
        run = run + 1;
        cells = odd_seen k run id (ap (λ (n : ℕ). n % 2 == 1) p.even ∙ odd_names j) (defers frame before id k run h (λ z. (let y : 1 ≡ 0 = sym p.aux ∙ z in absurd (omega arith))) f)
            ∙ ap (λ (q : Option ℕ × ℕ). q ∷ []) (same_seen id (Some (first t).id) _ (first t).byte e p.odd);
        bytes = (one t).1;
        force = named_then k j run id h l p.even f;
        knows = refl;
        ids = behind_ids t a;
      }

  carries_two : (k run : ℕ) (c id : Option ℕ) (t : List Tagged) → k < 8 → AllIds t → IsInForce frame before (2 * k) id run → Knows c id → id ≡ Some (first t).id → (first (after_first t)).id ≡ (first t).id →
      HasPair frame k (record { even = 2 * ((first t).byte / 2); aux = is_odd (first t).byte; odd = (first (after_first t)).byte }) → Carries k t c (after_first (after_first t))
  carries_two k run c id t h a f kn e s p =
      let x = first t in
      let y = first (after_first t) in
      let n : (slice_index frame (2 * k) % 2 == 1) ≡ false = ap (λ (m : ℕ). m % 2 == 1) p.even ∙ even_not x.byte in
      let whole : even_data frame k ≡ x.byte =
      ap (λ (m : ℕ). 2 * (m / 2) + aux_bit frame k) p.even ∙ ap (λ (m : ℕ). 2 * (2 * (x.byte / 2) / 2) + m) (p.aux ∙ bit_odd x.byte) ∙ (let w : 2 * (2 * (x.byte / 2) / 2) + x.byte % 2 ≡ x.byte = omega arith in w) in
      record {
        taken = x ∷ (y ∷ []);
        nulls = (two t).0;
        id = id;
        run = run;
        cells = ap (λ (l : List Cell). map seen (l ++ odd_cells frame offsets before k)) (even_is frame offsets before k run x.byte id n f (sym whole))
            ∙ ap (λ (l : List Cell). map seen ((made (slice_index offsets (2 * k)) id run x.byte ∷ []) ++ l)) (odd_is frame offsets before k run id (passes_odd frame before id k run h n f))
            ∙ ap (λ (q : Option ℕ × ℕ). q ∷ ((id, slice_index frame (2 * k + 1)) ∷ [])) (same_seen id (Some x.id) x.byte x.byte e refl)
            ∙ ap (λ (q : Option ℕ × ℕ). as_seen x ∷ (q ∷ [])) (same_seen id (Some y.id) _ y.byte (e ∙ ap (λ (m : ℕ). Some m) (sym s)) p.odd);
        bytes = (two t).1;
        force = passes frame before id k run h n f;
        knows = kn;
        ids = behind_ids (after_first t) (behind_ids t a);
      }

  abbrev CarriesPaired : ℕ → List Tagged → Paired → Type 0
  CarriesPaired k t q = HasPair frame k q.pair → Carries k t q.id q.rest

  carries : (k run : ℕ) (c id : Option ℕ) (t : List Tagged) → k < 8 → AllIds t → IsInForce frame before (2 * k) id run → Knows c id → CarriesPaired k t (paired c t)
  carries k run c id t h a f kn = by_id (is_id c (first t).id) refl where
    x : Tagged
    x = first t

    y : Tagged
    y = first (after_first t)

    by_next : (b : Bool) → (y.id == x.id) ≡ b → is_id c x.id ≡ true →
        CarriesPaired k t (cond b (record { pair = record { even = 2 * (x.byte / 2); aux = is_odd x.byte; odd = y.byte }; id = c; rest = after_first (after_first t) }) (record { pair = record { even = 2 * y.id + 1; aux = true; odd = x.byte }; id = Some y.id; rest = after_first t }))
    by_next true e d = carries_two k run c id t h a f kn (known_id c id x.id kn d) (eqb-true y.id x.id e)
    by_next false e d = carries_deferring k run c id t h a f (known_id c id x.id kn d)

    by_id : (b : Bool) → is_id c x.id ≡ b → CarriesPaired k t (cond b (following c x y (after_first t) (after_first (after_first t))) (naming x (after_first t)))
    by_id true e = by_next (y.id == x.id) refl e
    by_id false e = carries_naming k run c id t h a f

  -- from pair k on
  abbrev pub cells_from : ℕ → ℕ → List Cell
  cells_from k zero = even_cells frame offsets before k
  cells_from k (suc r) = (even_cells frame offsets before k ++ odd_cells frame offsets before k) ++ cells_from (suc k) r

  pub record Walks (t : List Tagged) (l : List Cell) (f : Filled) (after : Option ℕ) : Type 0 where
    pub taken : List Tagged
    pub nulls : ℕ
    pub cells : map seen l ≡ map as_seen taken
    pub bytes : taken ++ f.end.rest ≡ t ++ replicate nulls null
    pub id : after ≡ f.end.id
    pub named : (i : ℕ) × (f.end.id ≡ Some i)
    pub ids : AllIds f.end.rest

  -- the parts that a frame has from pair k on
  abbrev HasPairs : ℕ → Filled → Type 0
  HasPairs k f = Has k f.pairs f.end where
    Has : ℕ → List Pair → Closed → Type 0
    Has k [] e = (slice_index frame (2 * k) ≡ e.even) × (aux_bit frame k ≡ bit e.aux)
    Has k (p ∷ pairs) e = HasPair frame k p × Has (suc k) pairs e

  joined : (taken taken' rest rest' t : List Tagged) (n m : ℕ) → taken ++ rest ≡ t ++ replicate n null → taken' ++ rest' ≡ rest ++ replicate m null →
      (taken ++ taken') ++ rest' ≡ t ++ replicate (n + m) null
  joined taken taken' rest rest' t n m e f =
      append_assoc taken taken' rest' ∙ ap (λ (l : List Tagged). taken ++ l) f ∙ sym (append_assoc taken rest (replicate m null))
      ∙ ap (λ (l : List Tagged). l ++ replicate m null) e ∙ append_assoc t (replicate n null) (replicate m null)
      ∙ ap (λ (l : List Tagged). t ++ l) (replicate-append-replicate n m null)

  lasts_data : (run : ℕ) (c id : Option ℕ) (t : List Tagged) → AllIds t → IsInForce frame before 14 id run → id ≡ Some (first t).id → c ≡ Some (first t).id →
      slice_index frame 14 ≡ 2 * ((first t).byte / 2) → aux_bit frame 7 ≡ bit (is_odd (first t).byte) →
      Walks t (even_cells frame offsets before 7) (record { pairs = []; end = record { even = 2 * ((first t).byte / 2); aux = is_odd (first t).byte; id = c; rest = after_first t } }) (id_after frame before)
  lasts_data run c id t a f e g p q =
      let x = first t in
      let n : names frame 7 ≡ false = ap (λ (m : ℕ). m % 2 == 1) p ∙ even_not x.byte in
      let whole : even_data frame 7 ≡ x.byte =
      ap (λ (m : ℕ). 2 * (m / 2) + aux_bit frame 7) p ∙ ap (λ (m : ℕ). 2 * (2 * (x.byte / 2) / 2) + m) (q ∙ bit_odd x.byte) ∙ (let w : 2 * (2 * (x.byte / 2) / 2) + x.byte % 2 ≡ x.byte = omega arith in w) in
      record {
        taken = x ∷ [];
        nulls = (one t).0;
        cells = ap (λ (l : List Cell). map seen l) (even_is frame offsets before 7 run x.byte id n f (sym whole)) ∙ ap (λ (y : Option ℕ × ℕ). y ∷ []) (same_seen id (Some x.id) x.byte x.byte e refl);
        bytes = (one t).1;
        id = sym (passes frame before id 7 run (omega arith) n f).id_is ∙ e ∙ sym g;
        named = (x.id, g);
        ids = behind_ids t a;
      }

  lasts_named : (run : ℕ) (id : Option ℕ) (t : List Tagged) → AllIds t → IsInForce frame before 14 id run → slice_index frame 14 ≡ 2 * (first t).id + 1 →
      Walks t (even_cells frame offsets before 7) (record { pairs = []; end = record { even = 2 * (first t).id + 1; aux = false; id = Some (first t).id; rest = t } }) (id_after frame before)
  lasts_named run id t a f p =
      let i = (first t).id in
      let n : names frame 7 ≡ true = ap (λ (m : ℕ). m % 2 == 1) p ∙ odd_names i in
      record {
        taken = [];
        nulls = 0;
        cells = ap (λ (l : List Cell). map seen l) (even_no frame offsets before 7 n);
        bytes = sym (append-nil t);
        id = sym (named_then 7 i run id (omega arith) (first_id t a) p f).id_is;
        named = (i, refl);
        ids = a;
      }

  known_both : (c id : Option ℕ) (i : ℕ) → Knows c id → is_id c i ≡ true → c ≡ Some i
  known_both None id i k e = cc
  known_both (Some j) id i k e = ap (λ (n : ℕ). Some n) (eqb-true j i e)

  abbrev WalksClosed : List Tagged → Closed → Type 0
  WalksClosed t e = slice_index frame 14 ≡ e.even → aux_bit frame 7 ≡ bit e.aux → Walks t (even_cells frame offsets before 7) (record { pairs = []; end = e }) (id_after frame before)

  lasts : (run : ℕ) (c id : Option ℕ) (t : List Tagged) → AllIds t → IsInForce frame before 14 id run → Knows c id → WalksClosed t (closed c t)
  lasts run c id t a f kn = by_id (is_id c (first t).id) refl where
    by_id : (b : Bool) → is_id c (first t).id ≡ b →
        WalksClosed t (cond b (record { even = 2 * ((first t).byte / 2); aux = is_odd (first t).byte; id = c; rest = after_first t }) (record { even = 2 * (first t).id + 1; aux = false; id = Some (first t).id; rest = t }))
    by_id true e = λ p q. lasts_data run c id t a f (known_id c id (first t).id kn e) (known_both c id (first t).id kn e) p q
    by_id false e = λ p q. lasts_named run id t a f p

  abbrev WalksFilled : ℕ → ℕ → List Tagged → Filled → Type 0
  WalksFilled k r t f = HasPairs k f → Walks t (cells_from k r) f (id_after frame before)

  at_seven : (k run : ℕ) (id : Option ℕ) → k ≡ 7 → IsInForce frame before (2 * k) id run → IsInForce frame before 14 id run
  at_seven k run id e f = subst (λ (n : ℕ). IsInForce frame before (2 * n) id run) e f

  walks : (r k run : ℕ) (c id : Option ℕ) (t : List Tagged) → k + r ≡ 7 → AllIds t → IsInForce frame before (2 * k) id run → Knows c id → WalksFilled k r t (filled r c t)
  walks zero k run c id t s a f kn =
      let e : k ≡ 7 = omega arith in
      subst (λ (g : Filled). WalksFilled k zero t g) (sym (filled_zero c t))
      (λ p. subst (λ (n : ℕ). Walks t (even_cells frame offsets before n) (record { pairs = []; end = closed c t }) (id_after frame before)) (sym e)
      (lasts run c id t a (at_seven k run id e f) kn (ap (λ (n : ℕ). slice_index frame (2 * n)) (sym e) ∙ p.0) (ap (λ (n : ℕ). aux_bit frame n) (sym e) ∙ p.1)))
  walks (suc r) k run c id t s a f kn =
      subst (λ (g : Filled). WalksFilled k (suc r) t g) (sym (filled_suc r c t))
      (λ p.
      let q = carries k run c id t (omega arith) a f kn p.0 in
      let more = walks r (suc k) q.run (paired c t).id q.id (paired c t).rest (omega arith) q.ids
      (subst (λ (n : ℕ). IsInForce frame before (2 * n) q.id q.run) (let n : k + 1 ≡ suc k = omega arith in n) q.force) q.knows p.1 in
      record {
        taken = q.taken ++ more.taken;
        nulls = q.nulls + more.nulls;
        cells = map-append seen (even_cells frame offsets before k ++ odd_cells frame offsets before k) (cells_from (suc k) r)
            ∙ ap (λ (l : List (Option ℕ × ℕ)). l ++ map seen (cells_from (suc k) r)) q.cells
            ∙ ap (λ (l : List (Option ℕ × ℕ)). map as_seen q.taken ++ l) more.cells ∙ sym (map-append as_seen q.taken more.taken);
        bytes = joined q.taken more.taken (paired c t).rest (filled r (paired c t).id (paired c t).rest).end.rest t q.nulls more.nulls q.bytes more.bytes;
        id = more.id;
        named = more.named;
        ids = more.ids;
      })

  from_below : (r k : ℕ) → cells_below frame offsets before k ++ cells_from k r ≡ cells_below frame offsets before (k + r) ++ even_cells frame offsets before (k + r)
  from_below zero k = ap (λ (n : ℕ). cells_below frame offsets before n ++ even_cells frame offsets before n) (let e : k ≡ k + zero = omega arith in e)
  from_below (suc r) k =
      sym (append_assoc (cells_below frame offsets before k) (even_cells frame offsets before k ++ odd_cells frame offsets before k) (cells_from (suc k) r))
      ∙ from_below r (suc k)
      ∙ ap (λ (n : ℕ). cells_below frame offsets before n ++ even_cells frame offsets before n) (let e : suc k + r ≡ k + suc r = omega arith in e)

pub filled_length : (r : ℕ) (c : Option ℕ) (t : List Tagged) → length (filled r c t).pairs ≡ r
filled_length zero c t = ap (λ (f : Filled). length f.pairs) (filled_zero c t)
filled_length (suc r) c t = ap (λ (f : Filled). length f.pairs) (filled_suc r c t) ∙ (let k = filled_length r (paired c t).id (paired c t).rest in let e : suc (length (filled r (paired c t).id (paired c t).rest).pairs) ≡ suc r = omega arith in e)

-- a frame has the parts that it is made of
has_all : (offsets : List ℕ) (before : Option ℕ) (done pairs : List Pair) (e : Closed) → length (done ++ pairs) ≡ 7 →
    HasPairs (frame_of (done ++ pairs) e.even e.aux) offsets before (length done) (record { pairs = pairs; end = e })
has_all offsets before done [] e h =
    let same = append-nil done in
    let frame = frame_of (done ++ []) e.even e.aux in
    let tail = e.even ∷ (aux_byte (done ++ []) e.aux ∷ []) in
    let l : length (done ++ []) ≡ length done = ap length same in
    let end : slice_index frame 15 ≡ aux_byte (done ++ []) e.aux = ap (λ (n : ℕ). slice_index frame (2 * n + 1)) (sym h) ∙ stands_at (done ++ []) tail 1 in (
      ap (λ (n : ℕ). slice_index frame n) (let k : 2 * length done ≡ 2 * length (done ++ []) + 0 = omega arith in k) ∙ stands_at (done ++ []) tail 0,
      ap (λ (n : ℕ). bit_at n (length done)) (end ∙ ap (λ (d : List Pair). aux_byte d e.aux) same) ∙ aux_last done e.aux,
    )
has_all offsets before done (p ∷ pairs) e h =
    let again : done ++ (p ∷ pairs) ≡ (done ++ p ∷ []) ++ pairs = sym (append_assoc done (p ∷ []) pairs) in
    let more = has_all offsets before (done ++ p ∷ []) pairs e (ap length (sym again) ∙ h) in
    let moved = subst (λ (d : List Pair). HasPairs (frame_of d e.even e.aux) offsets before (length (done ++ p ∷ [])) (record { pairs = pairs; end = e })) (sym again) more in (
      has_pair done pairs p e.even e.aux h,
      subst (λ (n : ℕ). HasPairs (frame_of (done ++ (p ∷ pairs)) e.even e.aux) offsets before n (record { pairs = pairs; end = e })) (let k : length (done ++ p ∷ []) ≡ suc (length done) = length_push done p ∙ (let q : length done + 1 ≡ suc (length done) = omega arith in q) in k) moved,
    )

-- the law of one frame: its cells are the next tagged bytes, with null bytes after the last one
pub frame_law : (offsets : List ℕ) (before c : Option ℕ) (t : List Tagged) → AllIds t → Knows c before →
    (let f = filled 7 c t in
    let frame = frame_of f.pairs f.end.even f.end.aux in
    Walks frame offsets before t (cells frame offsets before) f (id_after frame before))
frame_law offsets before c t a kn =
    let f = filled 7 c t in
    let frame = frame_of f.pairs f.end.even f.end.aux in
    let w = walks frame offsets before 7 0 0 c before t (omega arith) a (starts frame before) kn (has_all offsets before [] f.pairs f.end (filled_length 7 c t)) in
    subst (λ (l : List Cell). Walks frame offsets before t l f (id_after frame before)) (from_below frame offsets before 7 0) w
