-- What the action of `vcd` stands for.
use Rattle.std.specs.Prelude.{◌≡◌, ℕ, List, true, option_map}
use Rattle.value_dump.specs.Names.{placed, stop_of, fault_of, itm_packets, report_of, source_of}
use Rattle.source_merge.specs.Engine as reading
use Rattle.value_dump.specs.Dumping as dumping
use Rattle.value_dump.specs.declared.vcd_plan.VcdPlan.{VcdPlan}
use Rattle.value_dump.specs.declared.vcd.Vcd.{Vcd}

-- what it was asked for
abbrev pub plan_of : Vcd → VcdPlan
plan_of vcd = record { plan = reading.plan_of vcd.engine; hz = dumping.hz_of vcd.source.dump }

-- its engine stands for these bytes, its dump took the packets of the plan's source, and it keeps the fault of their
-- report
pub record Stands (vcd : Vcd) (seen : List ℕ) : Type 0 where
  pub engine : reading.Stands vcd.engine (placed seen)
  pub source : vcd.source.source ≡ source_of (reading.plan_of vcd.engine)
  pub dump : dumping.Stands vcd.source.dump
      (itm_packets vcd.source.source (report_of (reading.plan_of vcd.engine) (placed seen)))
  pub stop : option_map stop_of vcd.stop ≡ fault_of (reading.plan_of vcd.engine) (placed seen)

-- how many bytes it took
abbrev pub taken_by : Vcd → ℕ
taken_by vcd = reading.next_of vcd.engine

abbrev pub IsLive : Vcd → Type 0
IsLive vcd = reading.is_live vcd.engine ≡ true
