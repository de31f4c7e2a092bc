-- A frame that is taken apart.
use Rattle.std.proofs.Common.{◌≡◌, ℕ, zero, suc, ◌+◌, ◌-◌, ◌*◌, ◌/◌, ◌%◌, ◌<◌, ◌≤◌, List, [], ◌∷◌, ◌++◌, length, take, drop, get_or, refl, sym, ◌∙◌, ap, subst, arith, Bool, true, false, cond, Option, append_assoc, append-nil, ◌⊎◌, inl, inr, flat_map}
use Rattle.std.specs.Prelude.{slice_index, nat_lt, if◌then◌else◌, ◌==◌, ◌&&◌}
use Rattle.std.proofs.lemmas.Bool.Decides.{nat_tests}
use Rattle.std.proofs.lemmas.Grind.{flat_map-append}
use Rattle.std.proofs.lemmas.List.{take_more, drop-append-le, drop_all, length-drop, length-take-le, length-map}
use Rattle.frame_grammar.specs.Frame.{names, aux_bit, cells}
use Rattle.frame_runs.specs.Data.{run_cells, is_late, byte_in, place_in}
use Rattle.trace_values.specs.Cells.{source_id}
use Rattle.trace_values.specs.declared.cell.Cell.{Cell}
use Rattle.frame_grammar.specs.Frame.{even_data, cells_below, IsInForce}
use Rattle.frame_grammar.proofs.Looks.{starts, passes, names_now, defers, names_next}
use Rattle.frame_grammar.proofs.Pairs.{made, plain, named, more_cells, whole_plain, whole_named, even_plain}
use Rattle.frame_runs.specs.Split.{RunStart, begun_cells, data_places, AreInPlace}
use Rattle.frame_runs.specs.declared.split.PlacedData.{PlacedData}

-- a run of a frame: its data from one index up to another
pub record Part : Type 0 where
  pub source : Option ℕ
  pub run : ℕ
  pub from : ℕ
  pub end : ℕ

-- its cells, of these bytes at these offsets
abbrev pub part_cells : List ℕ → List ℕ → Part → List Cell
part_cells offsets bytes part =
    run_cells (drop part.from (take part.end offsets)) part.source part.run (drop part.from (take part.end bytes))

-- the cells of some, in order
abbrev pub cells_of_parts : List ℕ → List ℕ → List Part → List Cell
cells_of_parts offsets bytes parts = flat_map (λ part. part_cells offsets bytes part) parts

-- Parts that are not empty end before an index, or there. Their runs rise, from one number on and below another.
abbrev pub AreParts : ℕ → ℕ → ℕ → List Part → Type 0
AreParts run next end [] = run ≤ next
AreParts run next end (p ∷ parts) =
    (run ≤ p.run) × (p.from < p.end) × (p.end ≤ end) × AreParts (p.run + 1) next end parts

-- what has begun, as a part that ends before an index
abbrev pub part_to : RunStart → ℕ → Part
part_to begun end = record { source = begun.source; run = begun.run; from = begun.from; end = end }

-- these parts, and the one that has begun, if it has a byte before an index
abbrev pub ended : List Part → RunStart → ℕ → List Part
ended parts begun end = if nat_lt begun.from end then parts ++ part_to begun end ∷ [] else parts

-- A frame that comes after this ID is taken apart up to index `2 * pair`, into parts and one that has begun.
pub record IsCut (frame at : List ℕ) (id : Option ℕ) (os bs : List ℕ) (pair : ℕ) (parts : List Part) (begun : RunStart) : Type 0 where
  pub cells : cells_of_parts os bs parts ++ begun_cells os bs begun (2 * pair) ≡ cells_below frame at id pair
  pub here : IsInForce frame id (2 * pair) begun.source begun.run
  pub are : AreParts 0 begun.run (2 * pair) parts

-- one more cell
push_cell : (os : List ℕ) (id : Option ℕ) (run : ℕ) (bs : List ℕ) (o b : ℕ) → length os ≡ length bs →
    run_cells (os ++ o ∷ []) id run (bs ++ b ∷ []) ≡ run_cells os id run bs ++ made o id run b ∷ []
push_cell [] id run [] o b h = refl
push_cell [] id run (y ∷ bs) o b h = absurd (omega arith)
push_cell (x ∷ os) id run [] o b h = absurd (omega arith)
push_cell (x ∷ os) id run (y ∷ bs) o b h = ap (λ (l : List Cell). made x id run y ∷ l) (push_cell os id run bs o b (omega arith))

push_item : (from n : ℕ) (xs : List ℕ) → from ≤ n → n < length xs →
    drop from (take (n + 1) xs) ≡ drop from (take n xs) ++ slice_index xs n ∷ []
push_item from n xs h l =
    let s = length-take-le n xs (omega arith) in
    ap (drop from) (take_more xs n 0 l) ∙ drop-append-le from (take n xs) (get_or xs n 0 ∷ []) (omega arith)

no_items : (from n : ℕ) (xs : List ℕ) → n ≤ from → n ≤ length xs → drop from (take n xs) ≡ []
no_items from n xs h l = let s = length-take-le n xs l in drop_all from (take n xs) (omega arith)

items_length : (from n : ℕ) (xs : List ℕ) → n ≤ length xs → length (drop from (take n xs)) ≡ n - from
items_length from n xs l = let s = length-take-le n xs l in length-drop from (take n xs) ∙ ap (λ (k : ℕ). k - from) s

module _ (offsets bytes : List ℕ) (begun : RunStart) where
  pub one_more : (n : ℕ) → begun.from ≤ n → n < length offsets → n < length bytes →
      begun_cells offsets bytes begun (n + 1) ≡
      begun_cells offsets bytes begun n ++ made (slice_index offsets n) begun.source begun.run (slice_index bytes n) ∷ []
  one_more n h l m =
      ap (λ (os : List ℕ). run_cells os begun.source begun.run (drop begun.from (take (n + 1) bytes))) (push_item begun.from n offsets h l)
      ∙ ap (λ (bs : List ℕ). run_cells (drop begun.from (take n offsets) ++ slice_index offsets n ∷ []) begun.source begun.run bs) (push_item begun.from n bytes h m)
      ∙ push_cell (drop begun.from (take n offsets)) begun.source begun.run (drop begun.from (take n bytes)) _ _
      (items_length begun.from n offsets (omega arith) ∙ sym (items_length begun.from n bytes (omega arith)))

  pub none_yet : (n : ℕ) → n ≤ begun.from → n ≤ length offsets → begun_cells offsets bytes begun n ≡ []
  none_yet n h l = ap (λ (os : List ℕ). run_cells os begun.source begun.run (drop begun.from (take n bytes))) (no_items begun.from n offsets h l)

  -- the part that ends
  with_part : (parts : List Part) (end : ℕ) (t : Bool) → (t ≡ false → begun_cells offsets bytes begun end ≡ []) →
      cells_of_parts offsets bytes (cond t (parts ++ (record { source = begun.source; run = begun.run; from = begun.from; end = end }) ∷ []) parts)
      ≡ cells_of_parts offsets bytes parts ++ begun_cells offsets bytes begun end
  with_part parts end true h =
      let p : Part = record { source = begun.source; run = begun.run; from = begun.from; end = end } in
      flat_map-append (λ (q : Part). part_cells offsets bytes q) parts (p ∷ [])
      ∙ ap (λ (l : List Cell). cells_of_parts offsets bytes parts ++ l) (append-nil (part_cells offsets bytes p))
  with_part parts end false h =
      sym (append-nil (cells_of_parts offsets bytes parts)) ∙ ap (λ (l : List Cell). cells_of_parts offsets bytes parts ++ l) (sym (h refl))

  pub ended_cells : (parts : List Part) (end : ℕ) → end ≤ length offsets →
      cells_of_parts offsets bytes (ended parts begun end) ≡ cells_of_parts offsets bytes parts ++ begun_cells offsets bytes begun end
  ended_cells parts end l = with_part parts end (nat_lt begun.from end) (λ e. none_yet end (grind (arith, nat_tests)) l)

pub parts_up : (run next end more later : ℕ) (parts : List Part) → next ≤ more → end ≤ later → AreParts run next end parts → AreParts run more later parts
parts_up run next end more later [] h l a = (let e = a in omega arith)
parts_up run next end more later (p ∷ parts) h l a =
    (a.0, a.1, (let e = a.2 in omega arith), parts_up (p.run + 1) next end more later parts h l a.3)

push_part : (run end : ℕ) (p : Part) (parts : List Part) → p.from < p.end → p.end ≤ end → AreParts run p.run end parts → AreParts run (p.run + 1) end (parts ++ p ∷ [])
push_part run end p [] h l a = (a, h, l, (let e : p.run + 1 ≤ p.run + 1 = omega arith in e))
push_part run end p (q ∷ parts) h l a = (a.0, a.1, a.2, push_part (q.run + 1) end p parts h l a.3)

ended_by : (begun : RunStart) (end : ℕ) (parts : List Part) (t : Bool) → (t ≡ true → begun.from < end) → AreParts 0 begun.run end parts →
    AreParts 0 (begun.run + 1) end (cond t (parts ++ (record { source = begun.source; run = begun.run; from = begun.from; end = end }) ∷ []) parts)
ended_by begun end parts true h a = push_part 0 end (record { source = begun.source; run = begun.run; from = begun.from; end = end }) parts (h refl) (omega arith) a
ended_by begun end parts false h a = parts_up 0 begun.run end (begun.run + 1) end parts (omega arith) (omega arith) a

pub ended_parts : (begun : RunStart) (end n : ℕ) (parts : List Part) → n ≤ end → AreParts 0 begun.run n parts → AreParts 0 (begun.run + 1) end (ended parts begun end)
ended_parts begun end n parts h a =
    ended_by begun end parts (nat_lt begun.from end) (λ e. grind (arith, nat_tests)) (parts_up 0 begun.run n begun.run end parts (omega arith) h a)

two_more : (offsets bytes : List ℕ) (begun : RunStart) (n : ℕ) → begun.from ≤ n → n + 1 < length offsets → n + 1 < length bytes →
    begun_cells offsets bytes begun (n + 1 + 1) ≡
    (begun_cells offsets bytes begun n ++ made (slice_index offsets n) begun.source begun.run (slice_index bytes n) ∷ [])
    ++ made (slice_index offsets (n + 1)) begun.source begun.run (slice_index bytes (n + 1)) ∷ []
two_more offsets bytes begun n h l m =
    one_more offsets bytes begun (n + 1) (omega arith) l m
    ∙ ap (λ (c : List Cell). c ++ made (slice_index offsets (n + 1)) begun.source begun.run (slice_index bytes (n + 1)) ∷ [])
    (one_more offsets bytes begun n h (omega arith) (omega arith))

-- a cell by its offset and byte
same_made : (at at' : ℕ) (id : Option ℕ) (run byte byte' : ℕ) → at ≡ at' → byte ≡ byte' → made at id run byte ≡ made at' id run byte'
same_made at at' id run byte byte' e f = ap (λ (x : ℕ). made x id run byte) e ∙ ap (λ (x : ℕ). made at' id run x) f

to_front : (a b : List Cell) (c d : Cell) → a ++ ((b ++ c ∷ []) ++ d ∷ []) ≡ ((a ++ b) ++ c ∷ []) ++ d ∷ []
to_front a b c d = sym (append_assoc a (b ++ c ∷ []) (d ∷ [])) ∙ ap (λ (l : List Cell). l ++ d ∷ []) (sym (append_assoc a b (c ∷ [])))

bit_or_none : (n : ℕ) → n < 2 → (n ≡ 0) ⊎ (n ≡ 1)
bit_or_none n h = grind arith

-- how many places a frame has
pub places_long : (placed : PlacedData) → length (data_places placed) ≡ 16
places_long placed = length-map placed.behind (λ (b : ℕ). placed.at + b) ∙ placed.places

-- what is in the place of a byte at an even index: of data it itself, of an ID byte that is late the byte behind it
late_is : (frame : List ℕ) (k : ℕ) (named : Bool) → names frame k ≡ named → is_late frame k ≡ (nat_lt k 7 && named && aux_bit frame k == 1)
late_is frame k named e = ap (λ (t : Bool). nat_lt k 7 && t && aux_bit frame k == 1) e

not_late : (frame : List ℕ) (k : ℕ) → names frame k ≡ false → is_late frame k ≡ false
not_late frame k e = late_is frame k false e ∙ none (nat_lt k 7) where
  none : (t : Bool) → (t && false && aux_bit frame k == 1) ≡ false
  none true = refl
  none false = refl

last_early : (frame : List ℕ) → is_late frame 7 ≡ false
last_early frame = refl

is_late_so : (frame : List ℕ) (k : ℕ) → k < 7 → names frame k ≡ true → aux_bit frame k ≡ 1 → is_late frame k ≡ true
is_late_so frame k l n a =
    late_is frame k true n
    ∙ ap (λ (t : Bool). t && true && aux_bit frame k == 1) (let e : nat_lt k 7 ≡ true = grind (arith, nat_tests) in e)
    ∙ ap (λ (x : ℕ). x == 1) a

early_byte : (frame : List ℕ) (k : ℕ) → is_late frame k ≡ false → byte_in frame k ≡ even_data frame k
early_byte frame k e = ap (λ (t : Bool). cond t (slice_index frame (2 * k + 1)) (even_data frame k)) e

late_byte : (frame : List ℕ) (k : ℕ) → is_late frame k ≡ true → byte_in frame k ≡ slice_index frame (2 * k + 1)
late_byte frame k e = ap (λ (t : Bool). cond t (slice_index frame (2 * k + 1)) (even_data frame k)) e

early_place : (frame at : List ℕ) (k : ℕ) → is_late frame k ≡ false → place_in frame at k ≡ slice_index at (2 * k)
early_place frame at k e = ap (λ (t : Bool). cond t (slice_index at (2 * k + 1)) (slice_index at (2 * k))) e

late_place : (frame at : List ℕ) (k : ℕ) → is_late frame k ≡ true → place_in frame at k ≡ slice_index at (2 * k + 1)
late_place frame at k e = ap (λ (t : Bool). cond t (slice_index at (2 * k + 1)) (slice_index at (2 * k))) e

module _ (frame at : List ℕ) (id : Option ℕ) (os bs : List ℕ) (long : length os ≡ 16) (wide : length bs ≡ 40)
    (placed : AreInPlace frame at bs os) where
  abbrev pub Cut : ℕ → List Part → RunStart → Type 0
  Cut pair parts begun = IsCut frame at id os bs pair parts begun

  pub starts_cut : (begun : RunStart) → begun.source ≡ id → begun.run ≡ 0 → Cut 0 [] begun
  starts_cut begun source run = record {
    cells = none_yet os bs begun 0 (omega arith) (omega arith);
    here =
        subst (λ (i : Option ℕ). IsInForce frame id 0 i begun.run) (sym source)
        (subst (λ (n : ℕ). IsInForce frame id 0 id n) (sym run) (starts frame id));
    are = (let e : 0 ≤ begun.run = omega arith in e);
  }

  module _ (pair : ℕ) (parts : List Part) (begun : RunStart) (low : pair < 7) (from : begun.from ≤ 2 * pair) (s : Cut pair parts begun) where
    abbrev old : List Cell
    old = cells_of_parts os bs parts ++ begun_cells os bs begun (2 * pair)

    odd_at : slice_index os (2 * pair + 1) ≡ slice_index at (2 * pair + 1)
    odd_at = placed.odd_places pair (omega arith)

    odd_byte : slice_index bs (2 * pair + 1) ≡ slice_index frame (2 * pair + 1)
    odd_byte = placed.odd pair (omega arith)

    -- the two bytes are data
    pub passed : names frame pair ≡ false → Cut (pair + 1) parts begun
    passed n =
        let a = long in
        let b = wide in
        let front = cells_of_parts os bs parts in
        let so_far = begun_cells os bs begun (2 * pair) in
        let even = made (slice_index at (2 * pair)) begun.source begun.run (slice_index bs (2 * pair)) in
        let odd = made (slice_index at (2 * pair + 1)) begun.source begun.run (slice_index frame (2 * pair + 1)) in
        let early = not_late frame pair n in
        record {
          cells =
              more_cells frame at id pair old (front ++ begun_cells os bs begun (2 * (pair + 1))) s.cells
              (ap (λ (k : ℕ). front ++ begun_cells os bs begun k) (let e : 2 * (pair + 1) ≡ 2 * pair + 1 + 1 = omega arith in e)
              ∙ ap (λ (l : List Cell). front ++ l)
              (two_more os bs begun (2 * pair) from (omega arith) (omega arith)
              ∙ ap (λ (c : Cell). (so_far ++ c ∷ []) ++ made (slice_index os (2 * pair + 1)) begun.source begun.run (slice_index bs (2 * pair + 1)) ∷ [])
              (same_made (slice_index os (2 * pair)) _ begun.source begun.run _ _ (placed.even_places pair (omega arith) ∙ early_place frame at pair early) refl)
              ∙ ap (λ (c : Cell). (so_far ++ even ∷ []) ++ c ∷ [])
              (same_made (slice_index os (2 * pair + 1)) _ begun.source begun.run _ _ odd_at odd_byte))
              ∙ to_front front so_far even odd
              ∙ plain frame at id pair begun.run (slice_index bs (2 * pair)) begun.source old (omega arith) n s.here
              (placed.even pair (omega arith) ∙ early_byte frame pair early));
          here = passes frame id begun.source pair begun.run (omega arith) n s.here;
          are = parts_up 0 begun.run (2 * pair) begun.run (2 * (pair + 1)) parts (omega arith) (omega arith) s.are;
        }

    -- the first one names a source
    module _ (n : names frame pair ≡ true) (end : ℕ) (source : Option ℕ) (named_is : source ≡ source_id (slice_index frame (2 * pair) / 2)) where
      abbrev next : RunStart
      next = record { source = source; run = begun.run + 1; from = end + 1 }

      abbrev own : Option ℕ → ℕ → Cell
      own i run = made (slice_index at (2 * pair + 1)) i run (slice_index frame (2 * pair + 1))

      -- in effect at once
      at_once : aux_bit frame pair ≡ 0 → end ≡ 2 * pair →
          cells_of_parts os bs (ended parts begun end) ++ begun_cells os bs next (2 * (pair + 1)) ≡ cells_below frame at id (pair + 1)
      at_once a e =
          let l = long in
          let w = wide in
          more_cells frame at id pair old _ s.cells
          (ap (λ (c : List Cell). c ++ begun_cells os bs next (2 * (pair + 1)))
          (ended_cells os bs begun parts end (omega arith)
          ∙ ap (λ (k : ℕ). cells_of_parts os bs parts ++ begun_cells os bs begun k) e)
          ∙ ap (λ (c : List Cell). old ++ c)
          (ap (λ (k : ℕ). begun_cells os bs next k) (let z : 2 * (pair + 1) ≡ 2 * pair + 1 + 1 = omega arith in z)
          ∙ one_more_of next (2 * pair + 1) (let z : next.from ≤ 2 * pair + 1 = omega arith in z) (omega arith) (omega arith)
          ∙ ap (λ (c : List Cell). c ++ made (slice_index os (2 * pair + 1)) source (begun.run + 1) (slice_index bs (2 * pair + 1)) ∷ [])
          (none_yet os bs next (2 * pair + 1) (let z : 2 * pair + 1 ≤ next.from = omega arith in z) (omega arith))
          ∙ ap (λ (c : Cell). c ∷ [])
          (same_made (slice_index os (2 * pair + 1)) _ source (begun.run + 1) _ _ odd_at odd_byte))
          ∙ named frame at id pair (begun.run + 1) source old n
          (subst (λ (i : Option ℕ). IsInForce frame id (2 * pair + 1) i (begun.run + 1)) (sym named_is)
          (names_now frame id begun.source pair begun.run (omega arith) n a s.here))) where
            one_more_of : (b : RunStart) (m : ℕ) → b.from ≤ m → m < length os → m < length bs →
                begun_cells os bs b (m + 1) ≡ begun_cells os bs b m ++ made (slice_index os m) b.source b.run (slice_index bs m) ∷ []
            one_more_of b m h i j = one_more os bs b m h i j

      -- in effect after the next byte
      later : aux_bit frame pair ≡ 1 → end ≡ 2 * pair + 1 →
          cells_of_parts os bs (ended parts begun end) ++ begun_cells os bs next (2 * (pair + 1)) ≡ cells_below frame at id (pair + 1)
      later a e =
          let l = long in
          let w = wide in
          let late = is_late_so frame pair low n a in
          let front = cells_of_parts os bs parts in
          let so_far = begun_cells os bs begun (2 * pair) in
          more_cells frame at id pair old _ s.cells
          (ap (λ (c : List Cell). cells_of_parts os bs (ended parts begun end) ++ c)
          (none_yet os bs next (2 * (pair + 1)) (let z : 2 * (pair + 1) ≤ next.from = omega arith in z) (omega arith))
          ∙ append-nil (cells_of_parts os bs (ended parts begun end))
          ∙ ended_cells os bs begun parts end (omega arith)
          ∙ ap (λ (k : ℕ). front ++ begun_cells os bs begun k) e
          ∙ ap (λ (c : List Cell). front ++ c)
          (one_more os bs begun (2 * pair) from (omega arith) (omega arith)
          ∙ ap (λ (c : Cell). so_far ++ c ∷ [])
          (same_made (slice_index os (2 * pair)) _ begun.source begun.run _ _
          (placed.even_places pair (omega arith) ∙ late_place frame at pair late)
          (placed.even pair (omega arith) ∙ late_byte frame pair late)))
          ∙ sym (append_assoc front so_far (own begun.source begun.run ∷ []))
          ∙ named frame at id pair begun.run begun.source old n (defers frame id begun.source pair begun.run (omega arith) (λ q. omega (arith, a, q)) s.here))

      pub divided : end ≡ 2 * pair + aux_bit frame pair → Cut (pair + 1) (ended parts begun end) next
      divided e =
          let few : aux_bit frame pair < 2 = omega arith in
          record {
            cells = elim (bit_or_none (aux_bit frame pair) few) [
              | inl z ↦ at_once z (omega arith)
              | inr z ↦ later z (omega arith)
            ];
            here =
                subst (λ (i : Option ℕ). IsInForce frame id (2 * (pair + 1)) i (begun.run + 1)) (sym named_is)
                (names_next frame id begun.source pair begun.run (omega arith) n s.here);
            are =
                parts_up 0 (begun.run + 1) end (begun.run + 1) (2 * (pair + 1)) (ended parts begun end) (omega arith) (omega arith)
                (ended_parts begun end (2 * pair) parts (omega arith) s.are);
          }

  -- the pairs up to another one are data
  pub passed_up : (parts : List Part) (begun : RunStart) (n p : ℕ) → p + n ≤ 7 → begun.from ≤ 2 * p →
      ((k : ℕ) → p ≤ k → k < p + n → names frame k ≡ false) → Cut p parts begun → Cut (p + n) parts begun
  passed_up parts begun zero p few from none s = subst (λ (k : ℕ). Cut k parts begun) (let e : p ≡ p + 0 = omega arith in e) s
  passed_up parts begun (suc n) p few from none s =
      subst (λ (k : ℕ). Cut k parts begun) (let e : p + 1 + n ≡ p + suc n = omega arith in e)
      (passed_up parts begun n (p + 1) (omega arith) (omega arith) (λ k l h. none k (omega arith) (omega arith))
      (passed p parts begun (omega arith) from s (none p (omega arith) (omega arith))))

  pub passed_to : (parts : List Part) (begun : RunStart) (p q : ℕ) → p ≤ q → q ≤ 7 → begun.from ≤ 2 * p →
      ((k : ℕ) → p ≤ k → k < q → names frame k ≡ false) → Cut p parts begun → Cut q parts begun
  passed_to parts begun p q low few from none s =
      subst (λ (k : ℕ). Cut k parts begun) (let e : p + (q - p) ≡ q = omega arith in e)
      (passed_up parts begun (q - p) p (omega arith) from (λ k l h. none k l (omega arith)) s)

  -- byte 14
  module _ (parts : List Part) (begun : RunStart) (from : begun.from ≤ 14) (s : Cut 7 parts begun) where
    last_plain : slice_index frame 14 % 2 ≡ 0 → cells_of_parts os bs (ended parts begun 15) ≡ cells frame at id
    last_plain n =
        let front = cells_of_parts os bs parts in
        let so_far = begun_cells os bs begun 14 in
        let byte = slice_index bs 14 in
        whole_plain frame at id 7 begun.run byte begun.source (front ++ so_far) _ refl s.cells s.here (even_plain (slice_index frame 14) n)
        (placed.even 7 (omega arith) ∙ early_byte frame 7 (last_early frame))
        (ended_cells os bs begun parts 15 (omega arith)
        ∙ ap (λ (l : List Cell). front ++ l)
        (one_more os bs begun 14 from (omega arith) (omega arith)
        ∙ ap (λ (c : Cell). so_far ++ c ∷ []) (same_made (slice_index os 14) _ begun.source begun.run byte byte (placed.even_places 7 (omega arith) ∙ early_place frame at 7 (last_early frame)) refl))
        ∙ sym (append_assoc front so_far (made (slice_index at 14) begun.source begun.run byte ∷ [])))

    last_named : names frame 7 ≡ true → cells_of_parts os bs (ended parts begun 14) ≡ cells frame at id
    last_named n =
        ended_cells os bs begun parts 14 (omega arith)
        ∙ whole_named frame at id 7 _ refl s.cells n

    last_bit : (slice_index frame 14 % 2 ≡ 0) ⊎ (slice_index frame 14 % 2 ≡ 1)
    last_bit = bit_or_none (slice_index frame 14 % 2) (omega arith)

    odd_named : slice_index frame 14 % 2 ≡ 1 → names frame 7 ≡ true
    odd_named h = grind (arith, nat_tests)

    pub all_cells : cells_of_parts os bs (ended parts begun (15 - slice_index frame 14 % 2)) ≡ cells frame at id
    all_cells = elim last_bit [
      | inl z ↦ ap (λ (k : ℕ). cells_of_parts os bs (ended parts begun k)) (let e : 15 - slice_index frame 14 % 2 ≡ 15 = omega arith in e) ∙ last_plain z
      | inr z ↦ ap (λ (k : ℕ). cells_of_parts os bs (ended parts begun k)) (let e : 15 - slice_index frame 14 % 2 ≡ 14 = omega arith in e) ∙ last_named (odd_named z)
    ]

    pub all_parts : begun.run ≤ 7 → AreParts 0 8 15 (ended parts begun (15 - slice_index frame 14 % 2))
    all_parts h =
        parts_up 0 (begun.run + 1) (15 - slice_index frame 14 % 2) 8 15 _ (omega arith) (omega arith)
        (ended_parts begun (15 - slice_index frame 14 % 2) 14 parts (omega arith) s.are)
