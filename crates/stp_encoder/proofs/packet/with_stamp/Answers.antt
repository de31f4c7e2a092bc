use Rattle.stp_encoder.proofs.packet.with_stamp.Goals as goal

pub returns-in-Some-clause-proper : goal.returns-in-Some-clause-proper
returns-in-Some-clause-proper c = (c.requires.stamped, c.requires.fits (c.in-Some.size, c.in-Some.word) c.in-Some.is)
