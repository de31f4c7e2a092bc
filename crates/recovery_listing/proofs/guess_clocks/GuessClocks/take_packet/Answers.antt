use Rattle.recovery_listing.proofs.guess_clocks.GuessClocks.take_packet.Goals as goal

pub returns-then-self-clause-taken : goal.returns-then-self-clause-taken
returns-then-self-clause-taken c = λ es event source what h k. c.packet_remark.ensures.stand es event source what (h k)
