-- The rest of a capture in each mode.
use Rattle.std.proofs.Common.{◌≡◌, List, [], ◌∷◌, ◌++◌, map, refl, sym, ◌∙◌, ap, inl, inr, append_assoc, append-nil}
use Rattle.std.proofs.Common.{true, false, Bool, ℕ, None}
use Rattle.std.proofs.lemmas.List.{map-append}
use Rattle.resync_grammars.specs.Names.{Cell, Placed, FramesMode, Hunt, Aligned, Bare, cells_of_items, source_units}
use Rattle.resync_grammars.specs.Names.{items_of, port_stream, cells_in, bare_cell, port_reading, cells_of}
use Rattle.frame_grammar.proofs.SourceBytes as sources
use Rattle.deformatter.proofs.PortReadingLaws.{framed_cells, bare_cells}
use Rattle.resync_grammars.specs.Port.{unnamed, BeginsNamed, IsPortRest, rest_mode, CellsRest}
use Rattle.resync_grammars.proofs.Resting as framed

pub is_rest : (mode : FramesMode) (lost rest : List Placed) → (port_reading mode (lost ++ rest)).fault ≡ None → IsPortRest mode lost rest
is_rest Aligned lost rest e = framed.is_rest false lost rest e
is_rest Hunt lost rest e = framed.is_rest true lost rest e
is_rest Bare lost rest e = (refl, bare_cells (lost ++ rest) ∙ map-append bare_cell lost rest ∙ ap (λ l. map bare_cell lost ++ l) (sym (bare_cells rest)))

-- a cell without an ID is of no source
none_unnamed : (id : ℕ) (cells : List Cell) → source_units id (map unnamed cells) ≡ []
none_unnamed id [] = refl
none_unnamed id (c ∷ cells) = none_unnamed id cells

-- cells without IDs before others change no source's units
same_units : (hidden named rest : List Cell) → rest ≡ map unnamed hidden ++ named → (id : ℕ) → source_units id rest ≡ source_units id named
same_units hidden named rest e id =
    ap (source_units id) e ∙ sources.units_append id (map unnamed hidden) named ∙ ap (λ l. l ++ source_units id named) (none_unnamed id hidden)

made : (gone hidden named whole rest : List Cell) → whole ≡ gone ++ (hidden ++ named) → rest ≡ map unnamed hidden ++ named → BeginsNamed named → CellsRest whole rest
made gone hidden named whole rest e f b =
    let same = same_units hidden named rest f in
    record { gone = gone; hidden = hidden; named = named; whole_is = e; rest_is = f; begins = b; sources = same }

framed_rest : (h : Bool) (lost rest : List Placed) → (port_stream h (lost ++ rest)).fault ≡ None → CellsRest (cells_in (port_stream h (lost ++ rest))) (cells_in (port_stream true rest))
framed_rest h lost rest e = elim (framed.is_rest h lost rest e) [
  | inl m ↦ made (cells_in (port_stream h (lost ++ rest))) [] [] (cells_in (port_stream h (lost ++ rest))) (cells_in (port_stream true rest)) (sym (append-nil _)) (ap cells_in m.1) tt
  | inr m ↦
      let l = m.1 in let c = l.rest_cells in
      made (cells_of_items None (items_of l.early)) c.hidden c.named (cells_in (port_stream h (lost ++ rest))) (cells_in (port_stream true rest))
      (l.whole_cells ∙ ap (λ z. cells_of_items None (items_of l.early) ++ z) c.whole_is) c.rest_is c.begins
]

bare_begins : (rest : List Placed) → BeginsNamed (map bare_cell rest)
bare_begins [] = tt
bare_begins (b ∷ rest) = refl

by_cells : (a b c d : List Cell) → a ≡ b → c ≡ d → CellsRest b d → CellsRest a c
by_cells a b c d e f k = made k.gone k.hidden k.named a c (e ∙ k.whole_is) (f ∙ k.rest_is) k.begins

pub cells_rest : (mode : FramesMode) (lost rest : List Placed) → (port_reading mode (lost ++ rest)).fault ≡ None → CellsRest (cells_of (port_reading mode (lost ++ rest))) (cells_of (port_reading (rest_mode mode) rest))
cells_rest Aligned lost rest e = by_cells _ _ _ _ (framed_cells (port_stream false (lost ++ rest))) (framed_cells (port_stream true rest)) (framed_rest false lost rest e)
cells_rest Hunt lost rest e = by_cells _ _ _ _ (framed_cells (port_stream true (lost ++ rest))) (framed_cells (port_stream true rest)) (framed_rest true lost rest e)
cells_rest Bare lost rest e =
    made (map bare_cell lost) [] (map bare_cell rest) _ _ (bare_cells (lost ++ rest) ∙ map-append bare_cell lost rest) (bare_cells rest) (bare_begins rest)

-- and so a source's bytes in the rest are the last of those in the whole
pub bytes_rest : (mode : FramesMode) (id : ℕ) (lost rest : List Placed) → (port_reading mode (lost ++ rest)).fault ≡ None →
    (early : List Placed) × (source_units id (cells_of (port_reading mode (lost ++ rest))) ≡ early ++ source_units id (cells_of (port_reading (rest_mode mode) rest)))
bytes_rest mode id lost rest e =
    let c = cells_rest mode lost rest e in (
      source_units id (c.gone ++ c.hidden),
      ap (source_units id) (c.whole_is ∙ sym (append_assoc c.gone c.hidden c.named)) ∙ sources.units_append id (c.gone ++ c.hidden) c.named
          ∙ ap (λ l. source_units id (c.gone ++ c.hidden) ++ l) (sym (c.sources id)),
    )
