-- The lines of the faults of usage.
use Rattle.std.specs.Prelude.{ℕ, ◌≤◌, List, codes, decimal, ◌++◌}
use Rattle.capture_words.specs.Command.{option_name}
use Rattle.capture_words.specs.declared.usage.UsageFault.{UsageFault}
use Rattle.capture_words.specs.declared.usage.UsageFault.TheVariants.{UnknownAction, BadValue, SplitNeedsId}
use Rattle.capture_words.specs.declared.usage.UsageFault.TheVariants.{MappedTwice, RingNeedsSize, UnringNeedsSize}
use Rattle.capture_words.specs.declared.usage.UsageFault.TheVariants.{PointerNotUnderSize}
use Rattle.capture_words.specs.declared.usage.UsageFault.TheVariants.{TextNeedsItm, TextReadsOneSource}
use Rattle.capture_words.specs.declared.usage.UsageFault.TheVariants.{FunnelNeedsOrder, OrderedTwice}
use Rattle.capture_words.specs.declared.usage.UsageFault.TheVariants.{VcdNeedsItm, VcdReadsOneSource}

abbrev pub usage_line : UsageFault → List ℕ
usage_line UnknownAction = codes "usage: unknown action\n"
usage_line (BadValue option) = codes "usage: bad value of --" ++ option_name option ++ codes "\n"
usage_line SplitNeedsId = codes "usage: split needs --id\n"
usage_line (MappedTwice id) = codes "usage: " ++ decimal id ++ codes " is mapped twice\n"
usage_line RingNeedsSize = codes "usage: ring needs --size\n"
usage_line UnringNeedsSize = codes "usage: unring needs --size\n"
usage_line PointerNotUnderSize = codes "usage: pointer isn't under size\n"
usage_line TextNeedsItm = codes "usage: text needs --itm\n"
usage_line TextReadsOneSource = codes "usage: text reads one source\n"
usage_line VcdNeedsItm = codes "usage: vcd needs --itm\n"
usage_line VcdReadsOneSource = codes "usage: vcd reads one source\n"
usage_line FunnelNeedsOrder = codes "usage: funnel needs --order\n"
usage_line (OrderedTwice id) = codes "usage: " ++ decimal id ++ codes " is ordered twice\n"

-- An ID that is mapped twice is one that can be mapped, and one that is ordered twice is of a source.
abbrev pub IsFault : UsageFault → Type 0
IsFault (MappedTwice id) = id ≤ 111
IsFault (OrderedTwice id) = id ≤ 126
IsFault fault = Unit {0}
