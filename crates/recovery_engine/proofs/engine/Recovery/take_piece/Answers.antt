use Rattle.std.proofs.Common.{◌≡◌, ◌+◌, ◌*◌, ◌≤◌, ℕ, List, ◌++◌, ◌∙◌, ap, arith, length, map, subst, sym, take}
use Rattle.std.proofs.Common.{refl}
use Rattle.std.specs.List.{refill}
use Rattle.std.proofs.lemmas.List.{length-append, take_all}
use Rattle.trace_values.specs.declared.cell.Cell.{Cell}
use Rattle.trace_values.specs.Placed.{Placed, placed_from}
use Rattle.trace_values.proofs.Placing.{length-placed_from}
use Rattle.trace_values.specs.declared.reading_modes.FramesMode.{FramesMode}
use Rattle.trace_values.specs.declared.reading_modes.FramesMode.TheVariants.{Bare}
use Rattle.deformatter.specs.PortReading.{bare_cell}
use Rattle.frame_runs.specs.Piece.{bytes_in, piece_cells}
use Rattle.frame_runs.proofs.PieceCells.{bytes_length, piece_length}
use Rattle.recovery_engine.proofs.Refilled.{refilled}
use Rattle.recovery_report.specs.Port.{recovered}
use Rattle.recovery_report.specs.Report.{parts_in}
use Rattle.recovery_report.specs.Words.{AreOf, singles}
use Rattle.recovery_engine.specs.Port.{PortStands}
use Rattle.recovery_engine.specs.Engine.{Stands}
use Rattle.recovery_engine.specs.Front.{Adds, Kept}
use Rattle.recovery_engine.specs.Slots.{total}
use Rattle.recovery_engine.specs.declared.slot.RecoveringSlot.{RecoveringSlot}
use Rattle.recovery_engine.proofs.Feeding.{bare_more, bare_of, next_more, piece_bare, rises_more}
use Rattle.recovery_engine.proofs.Gathering.{report_after, stands_after, took}
use Rattle.recovery_engine.proofs.engine.Recovery.take_piece.Goals as goal

pub take_each-requires-clause-own : goal.take_each-requires-clause-own
take_each-requires-clause-own g c =
    let run = c.args.run.now in
    subst (λ (x : ℕ). AreOf x (piece_cells run)) (sym c.bare_source.ensures)
    (subst (λ (l : List Cell). AreOf 1 l) (sym (piece_bare run.at (bytes_in run)))
    (bare_of (placed_from run.at (bytes_in run))))

pub take_each-requires-clause-few : goal.take_each-requires-clause-few
take_each-requires-clause-few g c =
    let self = c.args.self.now in
    let size = piece_length c.args.run.now in
    let few = self.few in
    let before = self.within in
    let offsets = c.requires.offsets in
    let same : total c.as_mut_slice.result.now ≡ total self.slots.items = ap total c.as_mut_slice.ensures.value in
    omega (arith, size, few, before, offsets.0, offsets.1, same)

pub take_each-requires-clause-room : goal.take_each-requires-clause-room
take_each-requires-clause-room g c =
    let size = piece_length c.args.run.now in
    let room = c.requires.room in omega (arith, size, room)

pub invariant_of-self : goal.invariant_of-self
invariant_of-self g c =
    let self = c.args.self.now in
    let run = c.args.run.now in
    let size = piece_length run in
    let old = self.slots.items in
    let new = c.take_each.new.slots in
    let all : refill (length old) old new ≡ new =
    refilled old new (c.take_each.ensures.len ∙ ap length c.as_mut_slice.ensures.value) in
    let before : total c.as_mut_slice.result.now ≡ total old = ap total c.as_mut_slice.ensures.value in
    record {
      port_few = (let p = self.port_few in omega (arith, p));
      few = subst (λ (l : List RecoveringSlot). total l ≤ 90 * (self.count + run.count)) (sym all)
          (let f = self.few in let t = c.take_each.ensures.few in omega (arith, f, t, size, before));
      counted_few = (let f = self.counted_few in omega (arith, f));
      within = (let w = self.within in let o = c.requires.offsets.0 in omega (arith, w, o));
      limit = (let o = c.requires.offsets.1 in omega (arith, o));
    }

pub returns : goal.returns
returns g c =
    let self = c.args.self.now in
    let plan = self.plan in
    let run = c.args.run.now in
    let cells = piece_cells run in
    let bytes = take run.count (bytes_in run) in
    let size = bytes_length run in
    let all_bytes : bytes ≡ bytes_in run = take_all run.count (bytes_in run) (omega (arith, size)) in
    let taken : length bytes ≡ run.count = ap length all_bytes ∙ size in
    let at = run.at in
    let w = placed_from at bytes in
    let cells_are : cells ≡ map bare_cell w =
    piece_bare run.at (bytes_in run)
    ∙ ap (λ (b : List ℕ). map bare_cell (placed_from at b)) (sym all_bytes) in
    let bare = c.requires.bare in
    let takes = took g.V.Receiver.gets (singles cells) self.slots.items c.as_mut_slice.ensures.value
    c.take_each.ensures.len c.take_each.ensures.takes in
    let now : Kept = record {
      port = self.port;
      totals = self.totals;
      count = self.count + run.count;
      next = at + run.count;
    } in
    let adds : (u : List Placed) → Stands self u → Adds self now (singles cells) u (u ++ w) = λ u k. record {
      port_is = subst (λ (m : FramesMode). PortStands m self.port (u ++ w)) (sym bare) tt;
      counted = λ framed. absurd (framed bare);
      count_is = (let e = k.count in let l = length-append u w in let p = length-placed_from at bytes in
          omega (arith, e, l, p, taken));
      next_is = next_more u at run.count bytes taken c.requires.some;
      rising = rises_more u self.next at run.count bytes taken c.requires.offsets.0 k.rising;
      parts = subst (λ (m : FramesMode). parts_in (recovered m (u ++ w)) ≡ parts_in (recovered m u) ++ singles cells)
          (sym bare) (bare_more w u ∙ ap (λ (l : List Cell). parts_in (recovered Bare u) ++ singles l) (sym cells_are));
    } in
    record {
      bytes = (c.requires.some, omega (arith, size));
      plan = refl;
      guesses = refl;
      next = refl;
      list = λ u k.
          stands_after g.V.Receiver.gets self (singles cells) takes u (u ++ w) k _ refl refl refl (adds u k);
      given = (
        takes.0,
        takes.1,
        λ u k. report_after g.V.Receiver.gets self (singles cells) takes u (u ++ w) k now (adds u k),
      );
      late = λ framed. absurd (framed bare);
      room = (let a = c.take_each.ensures.room in let b = piece_length run in omega (arith, a, b));
    }
