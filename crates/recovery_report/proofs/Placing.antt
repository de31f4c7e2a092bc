-- Parts that lie one after the other; so do the lock and the runs of a stretch of a port, after the bytes taken again.
use Rattle.std.proofs.Common.{◌≡◌, ℕ, zero, suc, ◌+◌, ◌≤◌, List, [], ◌∷◌, ◌++◌, map, drop, refl, sym, ◌∙◌, ap, subst}
use Rattle.std.proofs.Common.{arith, append_assoc, append-nil, None, Bool, true, false}
use Rattle.trace_values.specs.declared.cell.Cell.{Cell}
use Rattle.trace_values.specs.declared.reading_modes.FramesMode.TheVariants.{Hunt, Aligned}
use Rattle.trace_values.specs.Placed.{Place, Placed}
use Rattle.trace_values.specs.Stream.{Said, Notice, Kept}
use Rattle.trace_values.proofs.Modes as modes
use Rattle.trace_values.proofs.OneUnit.{AllOn}
use Rattle.frame_grammar.specs.Port.{PortItem, Full, start, rule}
use Rattle.port_sync.specs.Hunting.{pattern}
use Rattle.deformatter.specs.PortReading.{frames_of_items, port_reading}
use Rattle.deformatter.specs.Reading.{PortStream, items_of, port_stream}
use Rattle.deformatter.specs.Rising.{BytesRise, CellsRise}
use Rattle.source_events.specs.declared.packet.Packet.{Packet}
use Rattle.source_events.specs.Merge.{InOrder}
use Rattle.source_events.specs.Report.{lock_at, runs_in}
use Rattle.source_events.specs.Runs.{RisesFrom, all_runs, end_of}
use Rattle.source_events.proofs.Locking.{first_end, runs_first}
use Rattle.source_events.proofs.Placing.{RunsBetween, runs_between}
use Rattle.source_events.proofs.Running.{end_within}
use Rattle.recovering_machines.specs.Port.{items_by}
use Rattle.recovery_report.specs.Placing.{PartLies, PartsBetween, part_end}
use Rattle.recovery_report.specs.Report.{Part, Run, Locks, Breaks, lock_of}
use Rattle.recovery_report.proofs.Items.{from_given, items_from, lock_by}

-- a part ends where it lies, or later
pub end_later : (n : ℕ) (m : Part) → PartLies n m → n ≤ part_end m
end_later n (Run run) l = end_within n run l
end_later n (Locks skipped place) l = (let k : n ≤ place.at = l in let z : n ≤ place.at + 1 = omega arith in z)
end_later n (Breaks reason place) l = (let k : n ≤ place.at = l in let z : n ≤ place.at + 1 = omega arith in z)

-- parts are where they lie: the last one ends at the second offset, or before it
pub parts_le : (ms : List Part) (n k : ℕ) → PartsBetween n k ms → n ≤ k
parts_le [] n k b = b
parts_le (m ∷ ms) n k b =
    (let x = end_later n m b.0 in let y = parts_le ms (part_end m) k b.1 in omega (arith, x, y))

-- and may be said to end later
pub parts_later : (ms : List Part) (n k l : ℕ) → k ≤ l → PartsBetween n k ms → PartsBetween n l ms
parts_later [] n k l h b = (let x : n ≤ k = b in let z : n ≤ l = omega arith in z)
parts_later (m ∷ ms) n k l h b = (b.0, parts_later ms (part_end m) k l h b.1)

-- those of two lists lie before and after an offset
pub record Split (n k : ℕ) (a b : List Part) : Type 0 where
  pub mid : ℕ
  pub front : PartsBetween n mid a
  pub back : PartsBetween mid k b

pub parts_split : (a b : List Part) (n k : ℕ) → PartsBetween n k (a ++ b) → Split n k a b
parts_split [] b n k x = record { mid = n; front = (let z : n ≤ n = omega arith in z); back = x }
parts_split (m ∷ a) b n k x =
    let s = parts_split a b (part_end m) k x.1 in record { mid = s.mid; front = (x.0, s.front); back = s.back }

part_low : (m : Part) (n k : ℕ) → n ≤ k → PartLies k m → PartLies n m
part_low (Run []) n k l y = absurd y
part_low (Run (c ∷ run)) n k l y = ((let z = y.0 in omega arith), y.1)
part_low (Locks skipped place) n k l y = (let z : k ≤ place.at = y in let q : n ≤ place.at = omega arith in q)
part_low (Breaks reason place) n k l y = (let z : k ≤ place.at = y in let q : n ≤ place.at = omega arith in q)

pub parts_join : (a b : List Part) (n m k : ℕ) → PartsBetween n m a → PartsBetween m k b → PartsBetween n k (a ++ b)
parts_join [] [] n m k x y = (let p : n ≤ m = x in let q : m ≤ k = y in let z : n ≤ k = omega arith in z)
parts_join [] (s ∷ b) n m k x y = (part_low s n m x y.0, y.1)
parts_join (s ∷ a) b n m k x y = (x.0, parts_join a b (part_end s) m k x.1 y)

pub parts_order : (ms : List Part) (n k : ℕ) → PartsBetween n k ms → InOrder PartLies part_end n ms
parts_order [] n k b = tt
parts_order (m ∷ ms) n k b = (b.0, parts_order ms (part_end m) k b.1)

-- the offsets of a run rise where it lies
rise_cells : (n k : ℕ) (c : Cell) (cells : List Cell) → RisesFrom n (c ∷ cells) → end_of (c ∷ cells) ≤ k →
    CellsRise n k (c ∷ cells)
rise_cells n k c [] r l = (r.0, l)
rise_cells n k c (d ∷ cells) r l = (r.0, rise_cells (c.at + 1) k d cells r.1 l)

pub run_rises : (run : List Cell) (n k : ℕ) → PartsBetween n k (Run run ∷ []) → CellsRise n k run
run_rises [] n k b = absurd b.0
run_rises (c ∷ cells) n k b = rise_cells n k c cells b.0 b.1

pub runs_parts : (rs : List (List Cell)) (n k : ℕ) → RunsBetween n k rs → PartsBetween n k (map Run rs)
runs_parts [] n k b = b
runs_parts (r ∷ rs) n k b = (b.0, runs_parts rs (end_of r) k b.1)

-- bytes with one more, and without their first
pub bytes_push : (u : List Placed) (b : Placed) (lo n : ℕ) → BytesRise lo n u → n ≤ b.place.at →
    BytesRise lo (b.place.at + 1) (u ++ b ∷ [])
bytes_push [] b lo n r l = (let q : lo ≤ n = r in let z : lo ≤ b.place.at = omega arith in z, omega arith)
bytes_push (x ∷ u) b lo n r l = (r.0, bytes_push u b (x.place.at + 1) n r.1 l)

bytes_low : (u : List Placed) (lo n hi : ℕ) → lo ≤ n → BytesRise n hi u → BytesRise lo hi u
bytes_low [] lo n hi l r = (let q : n ≤ hi = r in let z : lo ≤ hi = omega arith in z)
bytes_low (x ∷ u) lo n hi l r = ((let q = r.0 in omega arith), r.1)

bytes_le : (u : List Placed) (lo hi : ℕ) → BytesRise lo hi u → lo ≤ hi
bytes_le [] lo hi r = r
bytes_le (x ∷ u) lo hi r = (let q = r.0 in let z = bytes_le u (x.place.at + 1) hi r.1 in omega arith)

pub bytes_drop : (k : ℕ) (u : List Placed) (lo hi : ℕ) → BytesRise lo hi u → BytesRise lo hi (drop k u)
bytes_drop zero u lo hi r = r
bytes_drop (suc k) [] lo hi r = r
bytes_drop (suc k) (x ∷ u) lo hi r =
    bytes_low (drop k u) lo (x.place.at + 1) hi (let q = r.0 in omega arith) (bytes_drop k u (x.place.at + 1) hi r.1)

-- The items that end with more bytes are at these.
abbrev AllFrom : ℕ → List (PortItem × Place) → Type 0
AllFrom n [] = Unit {0}
AllFrom n (x ∷ xs) = (n ≤ x.1.at) × AllFrom n xs

from_join : (xs ys : List (PortItem × Place)) (n k : ℕ) → n ≤ k → AllFrom n xs → AllFrom k ys → AllFrom n (xs ++ ys)
from_join [] [] n k l a b = tt
from_join [] (y ∷ ys) n k l a b = ((let q = b.0 in omega arith), from_join [] ys n k l tt b.1)
from_join (x ∷ xs) ys n k l a b = (a.0, from_join xs ys n k l a.1 b)

items_append : (xs ys : List (Said PortItem × Place)) → items_from (xs ++ ys) ≡ items_from xs ++ items_from ys
unfolding items_from
items_append [] ys = refl
items_append ((Notice n, p) ∷ xs) ys = items_append xs ys
items_append ((Kept v, p) ∷ xs) ys = ap (λ l. (v, p) ∷ l) (items_append xs ys)

items_on : (p : Place) (n : ℕ) (xs : List (Said PortItem × Place)) → AllOn p xs → n ≤ p.at → AllFrom n (items_from xs)
unfolding items_from
items_on p n [] a l = tt
items_on p n ((Notice k, q) ∷ xs) a l = items_on p n xs a.1 l
items_on p n ((Kept v, q) ∷ xs) a l = (subst (λ (z : Place). n ≤ z.at) (sym a.0) l, items_on p n xs a.1 l)

module _ (h : Bool) where
  record IsLater (n : ℕ) (old new : PortStream) : Type 0 where
    more : List (PortItem × Place)
    items : new.items ≡ old.items ++ more
    all : AllFrom n more

  later : (a v : List Placed) (n k : ℕ) → BytesRise n k a → IsLater n (port_stream h v) (port_stream h (v ++ a))
  later [] v n k r = record {
    more = [];
    items = ap (λ l. (port_stream h l).items) (append-nil v) ∙ sym (append-nil (port_stream h v).items);
    all = tt;
  }
  later (b ∷ a) v n k r =
      let on = modes.rises_on pattern Full rule start h v b in
      let one : (port_stream h (v ++ b ∷ [])).items ≡ (port_stream h v).items ++ items_from on.more =
      sym (from_given h (v ++ b ∷ [])) ∙ ap items_from on.given ∙ items_append (items_by h v).given on.more
      ∙ ap (λ l. l ++ items_from on.more) (from_given h v) in
      let rest = later a (v ++ b ∷ []) (b.place.at + 1) k r.1 in
      record {
        more = items_from on.more ++ rest.more;
        items =
            ap (λ l. (port_stream h l).items) (sym (append_assoc v (b ∷ []) a)) ∙ rest.items
            ∙ ap (λ l. l ++ rest.more) one ∙ append_assoc (port_stream h v).items (items_from on.more) rest.more;
        all =
            from_join (items_from on.more) rest.more n (b.place.at + 1) (let q = r.0 in omega arith)
            (items_on b.place n on.more on.all r.0) rest.all;
      }

-- the lock and the runs that these items are
abbrev pub front : Bool → ℕ → List (PortItem × Place) → List Part
front h skipped items = lock_of (lock_by h items) skipped ++ map Run (all_runs (frames_of_items None (items_of items)))

-- They lie from the first byte on that the stretch did not take again: with those that it took no item ends.
pub front_lies : (h : Bool) (v a : List Placed) (lo n k : ℕ) → (port_stream h v).items ≡ [] → BytesRise lo k (v ++ a) →
    BytesRise n k a → (h ≡ false → lo ≡ n) → (skipped : ℕ) →
    PartsBetween n k (front h skipped (port_stream h (v ++ a)).items)
front_lies false v a lo n k empty whole rise first skipped =
    let rs = runs_in (port_reading Aligned (v ++ a)) in
    runs_parts rs n k (subst (λ (l : ℕ). RunsBetween l k rs) (first refl) (runs_between Aligned (v ++ a) lo k whole))
front_lies true v a lo n k empty whole rise first skipped =
    by s.items refl (subst (AllFrom n) (sym (m.items ∙ ap (λ l. l ++ m.more) empty)) m.all) where
      s : PortStream
      s = port_stream true (v ++ a)

      m : IsLater true n (port_stream true v) (port_stream true (v ++ a))
      m = later true a v n k rise

      by : (items : List (PortItem × Place)) → (port_stream true (v ++ a)).items ≡ items → AllFrom n items →
          PartsBetween n k (front true skipped items)
      by [] e f = bytes_le a n k rise
      by (x ∷ items) e f = (
        f.0,
        subst (λ i. PartsBetween (x.1.at + 1) k (map Run (all_runs (frames_of_items None (items_of i))))) e
            (runs_parts (runs_in (port_reading Hunt (v ++ a))) (x.1.at + 1) k
            (subst (λ i. RunsBetween (first_end lo (lock_at {V = Packet} (port_stream true (v ++ a)).skipped i)) k
            (runs_in (port_reading Hunt (v ++ a)))) e (runs_first Packet Hunt (v ++ a) lo k whole))),
      )
