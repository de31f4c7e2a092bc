-- What a packet says, in one form for all rows of the table of opcodes.
use Rattle.std.specs.Prelude.{ℕ, ◌^◌, ◌<◌, ◌==◌, if◌then◌else◌, Bool, true, false, Option, Some}
use Rattle.stp_grammar.specs.declared.packet.Row.{Row}
use Rattle.stp_grammar.specs.declared.packet.Row.TheVariants.{Master8, Channel8, Master16, Channel16, Version}
use Rattle.stp_grammar.specs.declared.packet.StpPacket.{StpPacket}
use Rattle.stp_grammar.specs.declared.packet.StpPacket.TheVariants.{Async, Plain, Stamped}
use Rattle.stp_grammar.specs.declared.item.StpItem.{StpItem}
use Rattle.stp_grammar.specs.declared.item.StpItem.TheVariants.{Async as AsyncItem}
use Rattle.stp_grammar.specs.declared.said.Said.{Said}
use Rattle.stp_grammar.specs.Opcodes.{line_of, row_at}
use Rattle.stp_grammar.specs.Attribution.{item_with}
use Rattle.stp_grammar.specs.Proper.{IsProperPlace, IsProperStamp}

-- the packet of the row of this number: with a timestamp, where the row has one
abbrev pub row_packet : ℕ → ℕ → ℕ → ℕ → StpPacket
row_packet number payload size word =
    if (line_of (row_at number)).stamped then Stamped (row_at number) payload size word
    else Plain (row_at number) payload

-- the packet of this number: 35 is that of ASYNC, which has no row
abbrev pub packet_at : ℕ → ℕ → ℕ → ℕ → StpPacket
packet_at number payload size word = if number == 35 then Async else row_packet number payload size word

-- the packets of this row tell a master, a channel or a version
abbrev pub tells : Row → Bool
tells Master8 = true
tells Channel8 = true
tells Master16 = true
tells Channel16 = true
tells Version = true
tells row = false

-- the item of what a packet says: masters, channels and NULL have none
unfoldable pub said_item : Said → Option StpItem
said_item said =
    if said.number == 35 then Some AsyncItem else item_with said.place said.stamp (row_at said.number) said.payload

-- its numbers are in their ranges: that of an ASYNC has no payload, as NULL
pub record IsProperSaid (said : Said) : Type 0 where
  pub number : said.number < 36
  pub payload : said.payload < 16 ^ (line_of (row_at said.number)).payload
  pub place : IsProperPlace said.place
  pub stamp : IsProperStamp said.stamp
