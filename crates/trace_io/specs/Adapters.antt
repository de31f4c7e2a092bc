-- What the adapters over readers and writers keep.
use Rattle.std.specs.Prelude.{ℕ}
use Rattle.trace_io.specs.declared.read_adapter.ReadAdapter.{ReadAdapter}
use Rattle.trace_io.specs.declared.write_adapter.WriteAdapter.{WriteAdapter}

-- the reader below a source
abbrev pub inner_reader : {R : Type 0} → ReadAdapter R → R
inner_reader a = a.inner

-- how many errors the reader gave, up to the last value
abbrev pub reader_faults : {R : Type 0} → ReadAdapter R → ℕ
reader_faults a = a.faults

-- how many reads gave no byte, up to the last value
abbrev pub reader_empty_reads : {R : Type 0} → ReadAdapter R → ℕ
reader_empty_reads a = a.empty_reads

-- the writer below a sink
abbrev pub inner_writer : {W : Type 0} → WriteAdapter W → W
inner_writer a = a.inner

-- how many errors and writes of no bytes the writer gave, up to the last value
abbrev pub writer_faults : {W : Type 0} → WriteAdapter W → ℕ
writer_faults a = a.faults
