-- The notice of the port's lock is before all cells: a hunted reading begins with a full synchronisation.
use Rattle.std.proofs.Common.{◌≡◌, ℕ, zero, suc, ◌+◌, ◌<◌, ◌≤◌, List, [], ◌∷◌, ◌++◌, length, refl, sym, ◌∙◌, ap, subst}
use Rattle.std.proofs.Common.{inl, inr, arith, append_assoc, true, Option, None}
use Rattle.std.proofs.lemmas.List.{map-append, append_cancel_left}
use Rattle.trace_values.specs.declared.cell.Cell.{Cell}
use Rattle.trace_values.specs.Placed.{Place, Placed, units_of}
use Rattle.trace_values.specs.Hunt.{IsFirst}
use Rattle.trace_values.specs.Reading.{Splits}
use Rattle.trace_values.proofs.Readings as readings
use Rattle.trace_values.proofs.Walks as walks
use Rattle.trace_values.specs.declared.reading_modes.FramesMode.{FramesMode}
use Rattle.trace_values.specs.declared.reading_modes.FramesMode.TheVariants.{Hunt, Aligned, Bare}
use Rattle.frame_grammar.specs.Port.{PortItem, Full, Half, Frame, Spells, why, start, rule}
use Rattle.frame_grammar.specs.Reading.{offsets_of, port_progress, cells_of_items, port_reading as grammar_reading}
use Rattle.frame_grammar.proofs.Deciding.{port_decided}
use Rattle.deformatter.specs.Reading.{PortStream, port_stream, read_after, items_of, cells_in}
use Rattle.deformatter.proofs.Readings.{hunt_is}
use Rattle.deformatter.specs.PortReading.{PortReading, framed, port_reading, cells_of}
use Rattle.deformatter.specs.ByGrammar.{full_sync}
use Rattle.deformatter.specs.Rising.{Rise, offsets_in, BytesRise, CellsRise, end_at}
use Rattle.deformatter.proofs.PortReadingLaws.{framed_cells}
use Rattle.deformatter.proofs.RisingLaws.{rise_le, rise_split, items_rise, reading_rises}
use Rattle.source_events.specs.declared.event.What.{What}
use Rattle.source_events.specs.Merge.{IsAtMost, start_of, AllIn}
use Rattle.source_events.specs.Report.{lock_at, port_events, runs_in}
use Rattle.source_events.proofs.Placing.{RunsBetween, frames_between, runs_between}

pub units_append : (a b : List Placed) → units_of (a ++ b) ≡ units_of a ++ units_of b
units_append a b = map-append (λ (p : Placed). p.unit) a b

-- the first four bytes
pub front_of : (v : List Placed) (w : List ℕ) → units_of v ≡ full_sync ++ w →
    (full : List Placed) × (rest : List Placed) × (units_of full ≡ full_sync) × (v ≡ full ++ rest)
front_of [] w e = cc
front_of (a ∷ []) w e = cc
front_of (a ∷ (b ∷ [])) w e = cc
front_of (a ∷ (b ∷ (c ∷ []))) w e = cc
front_of (a ∷ (b ∷ (c ∷ (d ∷ v)))) w e = (a ∷ (b ∷ (c ∷ (d ∷ []))), v, (let k = e in cc), refl)

full_spelled : (x : PortItem) (a b v w : List Placed) → Spells x a → units_of b ≡ full_sync → a ++ v ≡ b ++ w → x ≡ Full
full_spelled x a b v w s f e =
    let law = walks.prefix_law Spells why rule start port_decided in
    let same = law.same_spelling x Full a b v w s f e in
    law.same_value x Full b (subst (λ (l : List Placed). Spells x l) same s) f

end_last : (a : List Placed) (l : Placed) (lo : ℕ) → end_at lo (offsets_of (a ++ l ∷ [])) ≡ l.place.at + 1
end_last [] l lo = refl
end_last (b ∷ a) l lo = end_last a l (b.place.at + 1)

at_least : (p : Place) → IsAtMost (start_of 0) p
at_least p = from_zero p.at p.half where
  from_zero : (at half : ℕ) → IsAtMost (start_of 0) (record { at = at; half = half })
  from_zero zero half = inr (refl, (let k : 0 ≤ half = omega arith in k))
  from_zero (suc at) half = inl (let k : 0 < suc at = omega arith in k)

-- the offset after the first of what is given, or lo where nothing is
abbrev pub first_end : {V : Type 0} → ℕ → List (What V × Place) → ℕ
first_end lo [] = lo
first_end lo (x ∷ given) = x.1.at + 1

-- What the port gives comes first, and the cells after it.
pub record IsFirstOf {V : Type 0} (lo hi : ℕ) (given : List (What V × Place)) (cells : List Cell) : Type 0 where
  pub from : lo ≤ first_end lo given
  pub first : AllIn (start_of 0) (first_end lo given) given
  pub rises : CellsRise (first_end lo given) hi cells

itself : (n : ℕ) → n ≤ n
itself n = omega arith

module _ (V : Type 0) (skipped low lo hi : ℕ) (from : low ≤ lo) (rest v full w : List Placed) (rise : BytesRise lo hi v)
    (sync : units_of full ≡ full_sync) (parts : v ≡ full ++ w) where
  pub items_first : (items : List (PortItem × Place)) → Splits Spells items rest v →
      IsFirstOf {V = V} low hi (lock_at skipped items) (cells_of_items None (items_of items))
  items_first [] s = record {
    from = itself low;
    first = tt;
    rises = (let k = rise_le (offsets_of v) lo hi rise in let z : low ≤ hi = omega arith in z);
  }
  items_first (x ∷ items) (a, l, z, spelled, split, place, more) =
      let all : v ≡ (a ++ l ∷ []) ++ z = split ∙ sym (append_assoc a (l ∷ []) z) in
      let is_full : x.0 ≡ Full = full_spelled x.0 (a ++ l ∷ []) full z w spelled sync (sym all ∙ parts) in
      let two = rise_split (offsets_of (a ++ l ∷ [])) (offsets_of z) lo hi
      (subst (λ (o : List ℕ). Rise lo hi o)
      (ap offsets_of all ∙ map-append (λ (p : Placed). p.place.at) (a ++ l ∷ []) z) rise) in
      let end : end_at lo (offsets_of (a ++ l ∷ [])) ≡ x.1.at + 1 =
      end_last a l lo ∙ ap (λ (p : Place). p.at + 1) (sym place) in
      let front = rise_le (offsets_of (a ++ l ∷ [])) lo (end_at lo (offsets_of (a ++ l ∷ []))) two.0 in
      record {
        from = (let k : lo ≤ x.1.at + 1 = subst (λ (n : ℕ). lo ≤ n) end front in omega arith);
        first = (at_least x.1, (let k : x.1.at < x.1.at + 1 = omega arith in k), tt);
        rises =
            subst (λ (p : PortItem). CellsRise (x.1.at + 1) hi (cells_of_items None (p ∷ items_of items))) (sym is_full)
            (items_rise items None rest z (x.1.at + 1) hi more (subst (λ (n : ℕ). BytesRise n hi z) end two.1));
      }

-- in each mode
pub port_first : (V : Type 0) (mode : FramesMode) (u : List Placed) (lo hi : ℕ) → BytesRise lo hi u →
    IsFirstOf {V = V} lo hi (port_events mode u) (cells_of (port_reading mode u))
port_first V Aligned u lo hi rise = record {
  from = itself lo;
  first = tt;
  rises = reading_rises Aligned u lo hi rise;
}
port_first V Bare u lo hi rise = record {
  from = itself lo;
  first = tt;
  rises = reading_rises Bare u lo hi rise;
}
port_first V Hunt u lo hi rise =
    subst (λ (l : List Cell). IsFirstOf {V = V} lo hi (port_events Hunt u) l) (sym (framed_cells (port_stream true u)))
    (elim (hunt_is u) [
      | inl m ↦
          subst (λ (s : PortStream). IsFirstOf {V = V} lo hi (lock_at s.skipped s.items) (cells_in s)) (sym m.1)
          (record { from = itself lo; first = tt; rises = rise_le (offsets_of u) lo hi rise })
      | inr (before, behind, parts, first, is) ↦
          (let two = rise_split (offsets_of before) (offsets_of behind) lo hi
          (subst (λ (z : List ℕ). Rise lo hi z) (ap offsets_of parts ∙ map-append (λ (p : Placed). p.place.at) before behind) rise) in
          let middle = end_at lo (offsets_of before) in
          let low = rise_le (offsets_of before) lo middle two.0 in
          let units : units_of behind ≡ full_sync ++ first.stands.0 =
          append_cancel_left (units_of before) (units_of behind) (full_sync ++ first.stands.0)
          (sym (units_append before behind) ∙ ap units_of (sym parts) ∙ first.stands.1) in
          let f = front_of behind first.stands.0 units in
          subst (λ (s : PortStream). IsFirstOf {V = V} lo hi (lock_at s.skipped s.items) (cells_in s)) (sym is)
          (items_first V (length before) lo middle hi low (grammar_reading behind).rest behind f.0 f.1 two.1 f.2 f.3
          (grammar_reading behind).items (readings.reading_is Spells why rule start port_decided behind).splits))
    ])

-- and the runs after it
pub runs_first : (V : Type 0) (mode : FramesMode) (u : List Placed) (lo hi : ℕ) → BytesRise lo hi u →
    RunsBetween (first_end lo (port_events {V = V} mode u)) hi (runs_in (port_reading mode u))
runs_first V mode u lo hi rise =
    frames_between (port_reading mode u).frames (first_end lo (port_events {V = V} mode u)) hi
    (port_first V mode u lo hi rise).rises
