use Rattle.std.proofs.Common.{arith, ap, ◌∙◌, ◌++◌, ◌-◌, ◌/◌, List, ℕ}
use Rattle.itm_codec.specs.Names.{groups_of}
use Rattle.itm_codec.proofs.Encoding.{group_out}
use Rattle.itm_codec.proofs.encoder.put_groups.Goals as goal

pub groups-preserved : goal.groups-preserved
groups-preserved c = record {
  some = omega arith;
  room = omega arith;
  bytes = ap (λ (o : List ℕ). o ++ groups_of (c.groups.left - 1) (c.groups.rest / 128)) c.push.ensures.items
      ∙ group_out c.groups.left c.groups.rest c.groups.out.items c.groups-test.true ∙ c.groups.invariant.bytes;
}
