use Rattle.std.proofs.Common.{◌≡◌, ◌<◌, ◌+◌, ◌∷◌, [], ◌++◌, ℕ, List, length, take, get_or, refl, sym, ◌∙◌, ap, subst, arith, append-nil, Bool}
use Rattle.std.proofs.lemmas.List.{take_all}
use Rattle.deformatter.specs.Names.{Cell, Placed, byte_at, placed_from}
use Rattle.trace_values.proofs.Placing.{next_placed}
use Rattle.deformatter.specs.Block.{Answers, EachByte, FedAs}
use Rattle.deformatter.specs.Reading.{port_stream, cells_in}
use Rattle.deformatter.specs.Growth.{PortGrows, goes_on}
use Rattle.deformatter.specs.Deformatter.{Stands, is_hunter}
use Rattle.deformatter.specs.declared.step.PortStep.{PortStep}
use Rattle.deformatter.specs.declared.step.PortStep.TheVariants.{Quiet}
use Rattle.deformatter.proofs.Blocks.{Grown, more_quiet, ended_by, cells_more, whole_fed}
use Rattle.deformatter.specs.declared.deformatter.Deformatter.{Deformatter}
use Rattle.deformatter.proofs.deformatter.Deformatter.feed_bytes.Invariants.{IsQuiet}
use Rattle.deformatter.proofs.deformatter.Deformatter.feed_bytes.Goals as goal

-- what one more byte says, of the bytes that are there then
record IsMore (old new : Deformatter) (u : List Placed) (at : ℕ) (piece : List ℕ) (i : ℕ) (less : i < length piece) (step : PortStep) (given : List Cell) : Type 0 where
  list : Stands new (u ++ placed_from at (take (i + 1) piece))
  grown : Grown (is_hunter old) u at piece i less step
  cells : cells_in (port_stream (is_hunter old) (u ++ placed_from at (take (i + 1) piece))) ≡ cells_in (port_stream (is_hunter old) u) ++ given

module _ (old now new : Deformatter) (u : List Placed) (at : ℕ) (piece : List ℕ) (i : ℕ) (less : i < length piece) (step : PortStep) (given : List Cell) where
  abbrev w : List Placed
  w = u ++ placed_from at (take i piece)

  abbrev v : List Placed
  v = w ++ byte_at (at + i) (get_or piece i 0) ∷ []

  more : is_hunter now ≡ is_hunter old → IsQuiet old now u at (take i piece) → Stands new v → PortGrows (port_stream (is_hunter now) w) (port_stream (is_hunter now) v) (at + i) step →
      cells_in (port_stream (is_hunter now) v) ≡ cells_in (port_stream (is_hunter now) w) ++ given → IsMore old new u at piece i less step given
  more same q list grows cells = record {
    list = subst (Stands new) (next_placed u at piece i less) list;
    grown = subst (λ (h : Bool). Grown h u at piece i less step) same grows;
    cells = cells_more (is_hunter old) u at piece i less given (subst (λ (h : Bool). cells_in (port_stream h v) ≡ cells_in (port_stream h w) ++ given) same cells) q.cells;
  }

pub loop-index-preserved : goal.loop-index-preserved
loop-index-preserved c = record {
  same = c.feed.ensures.same ∙ c.loop-index.invariant.same;
  live = c.feed.ensures.live ∙ ap goes_on c.in-Quiet.is;
  none = c.feed.ensures.quiet c.in-Quiet.is;
  tail = omega (arith, c.feed.ensures.each.0, c.loop-index.invariant.tail);
  skipped = omega (arith, c.feed.ensures.each.1, c.loop-index.invariant.skipped);
  few = omega (arith, c.feed.ensures.few, c.loop-index.invariant.few);
  quiet = λ u s.
      let h = is_hunter c.args.self.now in
      let i = c.loop-index.index in
      let q = c.loop-index.invariant.quiet u s in
      let m = more c.args.self.now c.loop-index.self c.feed.new.self u c.args.at c.args.piece.now i c.loop-index-test.true c.feed.result c.feed.new.out.items
      c.loop-index.invariant.same q (c.feed.ensures.list _ q.list) (c.feed.ensures.step _ q.list) (c.feed.ensures.cells _ q.list) in
      record {
        list = m.list;
        quiet = more_quiet h u c.args.at c.args.piece.now i c.loop-index-test.true q.quiet
            (subst (λ (step : PortStep). Grown h u c.args.at c.args.piece.now i c.loop-index-test.true step) c.in-Quiet.is m.grown);
        cells = m.cells ∙ ap (λ (l : List Cell). cells_in (port_stream h u) ++ l) (c.feed.ensures.quiet c.in-Quiet.is) ∙ append-nil (cells_in (port_stream h u));
      };
}

pub returns-in_default : goal.returns-in_default
returns-in_default c =
    let i = c.loop-index.index in
    let within = c.loop-index-test.true in
    record {
      same = c.feed.ensures.same ∙ c.loop-index.invariant.same;
      bytes = (omega arith, omega (arith, within));
      stops = λ q. absurd (c.in_default.not-Quiet q);
      takes = λ u s.
          let q = c.loop-index.invariant.quiet u s in
          let m = more c.args.self.now c.loop-index.self c.feed.new.self u c.args.at c.args.piece.now i within c.feed.result c.feed.new.out.items
          c.loop-index.invariant.same q (c.feed.ensures.list _ q.list) (c.feed.ensures.step _ q.list) (c.feed.ensures.cells _ q.list) in
          record {
            list = m.list;
            fed = ended_by (is_hunter c.args.self.now) u c.args.at c.args.piece.now i within c.feed.result q.quiet m.grown;
            cells = m.cells;
          };
      live = c.feed.ensures.live;
      few = omega (arith, c.feed.ensures.few, c.loop-index.invariant.few);
    }

pub returns : goal.returns
returns c =
    let h = is_hunter c.args.self.now in
    let piece = c.args.piece.now in
    let front : take c.loop-index.index piece ≡ piece = take_all c.loop-index.index piece (omega arith) in
    let all : take c.loop-index.index piece ≡ take (length piece) piece = front ∙ sym (take_all (length piece) piece (omega arith)) in
    record {
      same = c.loop-index.invariant.same;
      bytes = (c.requires.some, omega arith);
      stops = λ q. refl;
      takes = λ u s.
          let q = c.loop-index.invariant.quiet u s in
          record {
            list = subst (λ (l : List ℕ). Stands c.loop-index.self (u ++ placed_from c.args.at l)) all q.list;
            fed = subst (λ (l : List ℕ). FedAs (Answers h Quiet) (Answers h Quiet) u c.args.at l) (sym (take_all (length piece) piece (omega arith)))
                (whole_fed (Answers h Quiet) u c.args.at piece c.requires.some (subst (λ (l : List ℕ). EachByte (Answers h Quiet) u c.args.at l) front q.quiet));
            cells = ap (λ (l : List ℕ). cells_in (port_stream h (u ++ placed_from c.args.at l))) (sym all) ∙ q.cells
                ∙ sym (append-nil (cells_in (port_stream h u))) ∙ ap (λ (l : List Cell). cells_in (port_stream h u) ++ l) (sym c.loop-index.invariant.none);
          };
      live = c.loop-index.invariant.live;
      few = omega (arith, c.loop-index.invariant.few);
    }
