use Rattle.frame_runs.proofs.placed.place_frame.Goals as goal

pub returns-clause-whole : goal.returns-clause-whole
returns-clause-whole c = c.place_plain.ensures.gathered.whole

pub returns-clause-offsets : goal.returns-clause-offsets
returns-clause-offsets c = c.place_plain.ensures.gathered.offsets
