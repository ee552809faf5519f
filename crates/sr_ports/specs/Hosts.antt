-- What the host's files and streams know of their bytes, where they know it.
use Rattle.std.specs.Prelude.{ℕ, List, Option, None, Some}
use Rattle.sr_ports.specs.declared.host_streams.HostSink.{HostSink}
use Rattle.sr_ports.specs.declared.host_streams.HostSource.{HostSource}

abbrev pub sink_writer : {O : Type 0} → HostSink O → O
sink_writer sink = sink.writer

abbrev pub source_reader : {I : Type 0} → HostSource I → I
source_reader source = source.reader

-- what a file tells of what it holds, where it is open; one that isn't tells nothing
abbrev pub contents_of_open : {F : Type 0} → (F → Option (List ℕ)) → Option F → Option (List ℕ)
contents_of_open contents None = None
contents_of_open contents (Some file) = contents file
