-- What contracts see of the sources and sinks over std.
use Rattle.std.specs.Prelude.{ℕ, List}
use Rattle.std.specs.declared.option.Option.{Option}
use Rattle.std.specs.Io.Buffered.{writer_buffer, writer_inner}
use Rattle.std.specs.Io.KnownBytes.{append_known}
use Rattle.aim_io.specs.declared.standard.StdSource.{StdSource}
use Rattle.aim_io.specs.declared.standard.StdSink.{StdSink}

-- how often the source has failed
abbrev pub source_faults : {R : Type 0} → StdSource R → ℕ
source_faults s = s.faults

-- how often the sink has failed
abbrev pub sink_faults : {W : Type 0} → StdSink W → ℕ
sink_faults s = s.faults

-- the reader that the source takes its bytes from
abbrev pub source_reader : {R : Type 0} → StdSource R → R
source_reader s = s.reader

-- the writer that the sink gives its bytes to
abbrev pub sink_writer : {W : Type 0} → StdSink W → W
sink_writer s = writer_inner s.writer

-- the bytes that the sink keeps back
abbrev pub sink_kept : {W : Type 0} → StdSink W → List ℕ
sink_kept s = writer_buffer s.writer

-- the bytes that the writer holds and then those that the sink keeps back, where the writer tells its own
abbrev pub sink_held : {W : Type 0} → (W → Option (List ℕ)) → StdSink W → Option (List ℕ)
sink_held contents s = append_known (contents (sink_writer s)) (sink_kept s)
