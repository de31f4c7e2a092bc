-- After the first cell of a port's reading that has an ID each cell has one.
use Rattle.std.proofs.Common.{◌≡◌, ◌<◌, List, [], ◌∷◌, ◌++◌, length, map, refl, sym, ◌∙◌, ap, subst, inl, inr, Bool}
use Rattle.std.proofs.Common.{true, false}
use Rattle.std.specs.List.{AllByRecursion}
use Rattle.resync_grammars.specs.Names.{Cell, Placed, progress, Full, Spells, why, start, rule, pattern, PortStream}
use Rattle.resync_grammars.specs.Names.{items_of, port_stream, cells_in, FramesMode, Hunt, Aligned, Bare, bare_cell}
use Rattle.resync_grammars.specs.Names.{port_reading, cells_of}
use Rattle.trace_values.proofs.Readings as readings
use Rattle.frame_grammar.proofs.Deciding.{port_decided}
use Rattle.deformatter.proofs.PortReadingLaws.{framed_cells, bare_cells}
use Rattle.resync_grammars.specs.Port.{BeginsNamed, HasId}
use Rattle.resync_rules.proofs.Locking as locking
use Rattle.resync_grammars.proofs.Syncing.{port_syncs}
use Rattle.resync_grammars.proofs.Resting.{reads, skips}
use Rattle.resync_grammars.proofs.Named.{Each, each_parts, Named, all_named, named_after, named_items, split_names}

to_each : {A : Type 0} (P : A → Type 0) (xs : List A) → AllByRecursion P xs → Each P xs
to_each P [] e = tt
to_each P (x ∷ xs) e = (e.0, to_each P xs e.1)

of_each : {A : Type 0} (P : A → Type 0) (xs : List A) → Each P xs → AllByRecursion P xs
of_each P [] e = tt
of_each P (x ∷ xs) e = (e.0, of_each P xs e.1)

named_cells : (h : Bool) (u : List Placed) → Each (λ b. b.unit < 256) u → Named (cells_in (port_stream h u))
named_cells h u e = elim (locking.by_mode Spells why rule start pattern Full port_syncs h u) [
  | inr n ↦ subst (λ (s : PortStream). Named (cells_in s)) (sym (ap (λ (b : Bool). port_stream b u) n.0 ∙ skips u n.2)) (all_named [] tt)
  | inl r ↦
      let s = reads h u (length r.front) r.place (progress rule start r.seen) r.here in
      let b = (each_parts (λ (x : Placed). x.unit < 256) r.front r.seen (subst (λ (l : List Placed). Each (λ b. b.unit < 256) l) r.parts e)).1 in
      let splits = (readings.reading_is Spells why rule start port_decided r.seen).splits in
      subst (λ (z : PortStream). Named (cells_in z)) (sym s)
      (named_items (items_of (progress rule start r.seen).items) (split_names (progress rule start r.seen).items (progress rule start r.seen).rest r.seen splits b))
]

framed_names : (h : Bool) (u : List Placed) → AllByRecursion (λ b. b.unit < 256) u → (before later : List Cell) → cells_in (port_stream h u) ≡ before ++ later → BeginsNamed later → AllByRecursion HasId later
framed_names h u e before later k b = of_each HasId later (named_after (cells_in (port_stream h u)) before later (named_cells h u (to_each (λ (x : Placed). x.unit < 256) u e)) k b)

-- with no formatter each cell has an ID
bare_named : (u : List Placed) → Each HasId (map bare_cell u)
bare_named [] = tt
bare_named (b ∷ u) = (refl, bare_named u)

-- and so in each mode
pub names : (mode : FramesMode) (u : List Placed) → AllByRecursion (λ b. b.unit < 256) u → (before later : List Cell) → cells_of (port_reading mode u) ≡ before ++ later → BeginsNamed later → AllByRecursion HasId later
names Aligned u e before later k b = framed_names false u e before later (sym (framed_cells (port_stream false u)) ∙ k) b
names Hunt u e before later k b = framed_names true u e before later (sym (framed_cells (port_stream true u)) ∙ k) b
names Bare u e before later k b =
    of_each HasId later (each_parts HasId before later (subst (λ (l : List Cell). Each HasId l) (sym (bare_cells u) ∙ k) (bare_named u))).1
