use Rattle.std.proofs.Common.{◌≡◌, ◌+◌, ◌≤◌, ◌++◌, [], ℕ, List, take, true}
use Rattle.deformatter.specs.Names.{Placed, placed_from}
use Rattle.deformatter.specs.Block.{Answers, EachByte}
use Rattle.deformatter.specs.Reading.{port_stream, cells_in}
use Rattle.deformatter.specs.Deformatter.{Stands, is_hunter, is_live, tail_of, skipped_by}
use Rattle.deformatter.specs.declared.step.PortStep.TheVariants.{Quiet}
use Rattle.deformatter.specs.declared.deformatter.Deformatter.{Deformatter}
use Rattle.deformatter.proofs.deformatter.Deformatter.feed_bytes.Given as goal

-- this many bytes were quiet
pub record IsQuiet (old new : Deformatter) (u : List Placed) (at : ℕ) (bytes : List ℕ) : Type 0 where
  pub list : Stands new (u ++ placed_from at bytes)
  pub quiet : EachByte (Answers (is_hunter old) Quiet) u at bytes
  pub cells : cells_in (port_stream (is_hunter old) (u ++ placed_from at bytes)) ≡ cells_in (port_stream (is_hunter old) u)

abbrev pub invariant-loop-index : goal.invariant-loop-index
invariant-loop-index l = record {
  same : is_hunter l.self ≡ is_hunter l.initial.self;
  live : is_live l.self ≡ true;
  none : l.out.items ≡ [];
  tail : tail_of l.self ≤ tail_of l.initial.self + l.index;
  skipped : skipped_by l.self ≤ skipped_by l.initial.self + l.index;
  few : tail_of l.self + skipped_by l.self ≤ tail_of l.initial.self + skipped_by l.initial.self + l.index;
  quiet : (u : List Placed) → Stands l.initial.self u → IsQuiet l.initial.self l.self u l.at (take l.index l.piece);
}
