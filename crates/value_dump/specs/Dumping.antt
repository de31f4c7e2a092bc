-- What a value dump stands for.
use Rattle.std.specs.Prelude.{◌≡◌, ℕ, List, Option}
use Rattle.value_dump.specs.Names.{ItmPacket, local_after}
use Rattle.value_dump.specs.Dump.{up_to_stamp}
use Rattle.value_dump.specs.Lines.{nanoseconds}
use Rattle.value_dump.specs.Signals.{value_after}
use Rattle.value_dump.specs.Values as values
use Rattle.value_dump.specs.Values.{latest_of, stamped_of}
use Rattle.value_dump.specs.declared.dump.ValueDump.{ValueDump}

-- of how many Hz its clock is, if times are in nanoseconds
abbrev pub hz_of : ValueDump → Option ℕ
hz_of dump = dump.hz

-- how many bytes the lines that are pending have at most
abbrev pub owed_by : ValueDump → ℕ
owed_by dump = values.owed_by dump.values

-- it took these packets
pub record Stands (dump : ValueDump) (packets : List ItmPacket) : Type 0 where
  pub clock : dump.clock ≡ local_after packets
  pub time : dump.time ≡ nanoseconds dump.hz (local_after packets)
  pub latest : (number : ℕ) → latest_of dump.values number ≡ value_after packets number
  pub stamped : (number : ℕ) → stamped_of dump.values number ≡ value_after (up_to_stamp packets) number
