-- What an encoder stands for.
use Rattle.std.specs.Prelude.{◌≡◌, ℕ, List, Option}
use Rattle.stp_encoder.specs.Names.{Order, StpPacket}
use Rattle.stp_encoder.specs.Puts.{Put, items_in}
use Rattle.stp_grammar.specs.Attributed as attributed
use Rattle.stp_encoder.specs.declared.encoder.StpEncoder.{StpEncoder}
use Rattle.stp_encoder.specs.Packets.{packets_for}
use Rattle.stp_encoder.specs.Bytes.{odd_nibble, nibbles_for}
use Rattle.stp_encoder.specs.Joined.{Joins, count_in}

-- It stands for these items and flushes: it keeps what the packets for the items tell, and the odd last one of all
-- nibbles.
pub record Stands (encoder : StpEncoder) (puts : List Put) : Type 0 where
  pub attribution : attributed.Stands encoder.attribution (packets_for (items_in puts))
  pub nibble : encoder.joiner.low ≡ odd_nibble (nibbles_for encoder.order puts)

-- the same part by part: it keeps what these packets tell, and of these nibbles these are the whole bytes, and it keeps
-- the odd last one
abbrev pub IsAt : StpEncoder → List ℕ → List StpPacket → List ℕ → Type 0
IsAt encoder bytes packets nibbles =
    attributed.Stands encoder.attribution packets × Joins encoder.joiner bytes nibbles

-- how many nibbles these bytes and the kept one are
abbrev pub count_with : StpEncoder → List ℕ → ℕ
count_with encoder bytes = count_in encoder.joiner bytes

-- the order of the nibbles of its numbers, and the version that it keeps
abbrev pub order_of : StpEncoder → Order
order_of encoder = encoder.order

abbrev pub version_in_force : StpEncoder → Option ℕ
version_in_force encoder = attributed.kept_version encoder.attribution
