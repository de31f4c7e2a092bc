-- The list of a source in a written capture is its bytes.
use Rattle.std.proofs.Common.{◌≡◌, ◌≢◌, ℕ, List, [], ◌∷◌, refl, ◌∙◌, ap, arith, Bool, true, false, Option, Some, None}
use Rattle.std.proofs.Common.{map, cond, ◌==◌, not, if◌then◌else◌}
use Rattle.std.proofs.lemmas.Bool.Decides.{nat_tests}
use Rattle.script_laws.specs.Names.{Cell, Placed, units_of, placed, Aligned, is_source, source_list, cells_of, Tagged}
use Rattle.script_laws.specs.Names.{ReadsBack, seen, as_seen, source_cells, list_of, runs_in}
use Rattle.frame_grammar.specs.SourceBytes.{source_units}
use Rattle.deformatter.proofs.PortReadingLaws.{frames_have_runs}
use Rattle.source_events.proofs.RunNumbers.{lists_are}
use Rattle.script_laws.specs.ReadBack.{port_of}
use Rattle.script_laws.proofs.Bytes.{bytes_for}

-- the bytes of a source among what is seen of cells
abbrev pick : ℕ → List (Option ℕ × ℕ) → List ℕ
pick x [] = []
pick x (p ∷ ps) = if is_source x p.0 then p.1 ∷ pick x ps else pick x ps

pick_cells : (x : ℕ) (cs : List Cell) → units_of (source_units x cs) ≡ pick x (map seen cs)
pick_cells x [] = refl
pick_cells x (c ∷ cs) = by (is_source x c.id) (pick_cells x cs)
  where
    by : (v : Bool) → units_of (source_units x cs) ≡ pick x (map seen cs) →
        units_of (map (λ (c : Cell). record { unit = c.byte; place = record { at = c.at; half = 0 } }) (cond v (c ∷ source_list x cs) (source_list x cs))) ≡ (if v then c.byte ∷ pick x (map seen cs) else pick x (map seen cs))
    by true e = ap (λ (l : List ℕ). c.byte ∷ l) e
    by false e = e

null_other : (x : ℕ) (id : Option ℕ) → x ≢ 0 → is_source 0 id ≡ true → is_source x id ≡ false
null_other x None n e = refl
null_other x (Some k) n e = grind (arith, nat_tests)

pick_source : (x : ℕ) (cs : List Cell) → x ≢ 0 → pick x (map seen cs) ≡ pick x (map seen (source_cells cs))
pick_source x [] n = refl
pick_source x (c ∷ cs) n = by (is_source 0 c.id) refl (pick_source x cs n)
  where
    by : (v : Bool) → is_source 0 c.id ≡ v → pick x (map seen cs) ≡ pick x (map seen (source_cells cs)) →
        (if is_source x c.id then c.byte ∷ pick x (map seen cs) else pick x (map seen cs)) ≡ pick x (map seen (cond (not v) (c ∷ source_cells cs) (source_cells cs)))
    by true e more = (let other = null_other x c.id n e in rw other more)
    by false e more = ap (λ (l : List ℕ). if is_source x c.id then c.byte ∷ l else l) more

pick_tagged : (x : ℕ) (t : List Tagged) → pick x (map as_seen t) ≡ bytes_for x t
pick_tagged x [] = refl
pick_tagged x (b ∷ t) = ap (λ (l : List ℕ). if b.id == x then b.byte ∷ l else l) (pick_tagged x t)

module _ (bytes : List ℕ) (t : List Tagged) (law : ReadsBack bytes t) where
  abbrev written : List Placed
  written = placed bytes

  -- the bytes of a source's cells
  pub cell_bytes : (x : ℕ) → x ≢ 0 → units_of (source_units x (cells_of (port_of written))) ≡ bytes_for x t
  cell_bytes x n =
      pick_cells x (cells_of (port_of written)) ∙ pick_source x (cells_of (port_of written)) n ∙ ap (pick x) law.cells ∙ pick_tagged x t

  -- which its runs have
  pub list_is : (x : ℕ) → list_of x (runs_in (port_of written)) ≡ source_units x (cells_of (port_of written))
  list_is x = lists_are x (port_of written).frames (frames_have_runs Aligned written)

  pub list_bytes : (x : ℕ) → x ≢ 0 → units_of (list_of x (runs_in (port_of written))) ≡ bytes_for x t
  list_bytes x n = ap units_of (list_is x) ∙ cell_bytes x n

  pub no_cell : (x : ℕ) → x ≢ 0 → bytes_for x t ≡ [] → source_list x (cells_of (port_of written)) ≡ []
  no_cell x n e = empty (source_list x (cells_of (port_of written))) (cell_bytes x n ∙ e)
    where
      empty : (cs : List Cell) → units_of (map (λ (c : Cell). record { unit = c.byte; place = record { at = c.at; half = 0 } }) cs) ≡ [] → cs ≡ []
      empty [] e = refl
      empty (c ∷ cs) e = cc
