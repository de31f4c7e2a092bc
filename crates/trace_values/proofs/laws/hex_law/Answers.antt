use Rattle.trace_values.proofs.HexTexts.{text_read, bytes_told}
use Rattle.trace_values.proofs.laws.hex_law.Goals as goal

pub returns-clause-reads : goal.returns-clause-reads
returns-clause-reads c = text_read

pub returns-clause-refuses : goal.returns-clause-refuses
returns-clause-refuses c = bytes_told
