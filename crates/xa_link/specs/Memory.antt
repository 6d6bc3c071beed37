-- What the forms in memory tell.
use Rattle.std.specs.Prelude.{ℕ, List, take, drop, map, Option, Some}
use Rattle.xa_types.specs.declared.setup.Setup.{Setup}
use Rattle.xa_link.specs.Links.{LinkShows}
use Rattle.xa_link.specs.declared.memory.source.MemorySource.{MemorySource}
use Rattle.xa_link.specs.declared.memory.sink.MemorySink.{MemorySink}
use Rattle.xa_link.specs.declared.memory.link.MemoryLink.{MemoryLink}
use Rattle.xa_link.specs.declared.memory.shelf.MemoryShelf.{MemoryShelf}
use Rattle.xa_link.specs.declared.memory.yard.MemoryYard.{MemoryYard}

-- the octets that are still to come
abbrev pub source_left : MemorySource → List ℕ
source_left s = drop s.at s.octets

-- the octets that came
abbrev pub source_gave : MemorySource → List ℕ
source_gave s = take s.at s.octets

-- how often a read failed
abbrev pub source_faults : MemorySource → ℕ
source_faults s = s.faults

-- the octets that went in
abbrev pub sink_took : MemorySink → List ℕ
sink_took s = s.taken.items

-- how often a write failed, or took nothing
abbrev pub sink_faults : MemorySink → ℕ
sink_faults s = s.faults

-- what a link shows
abbrev pub link_shows : MemoryLink → LinkShows
link_shows l = record {
  took = Some (sink_took l.sink);
  gave = Some (source_gave l.source);
  left = Some (source_left l.source);
  reads = source_faults l.source;
  writes = sink_faults l.sink;
  program = record { whose = l.whose; fate = Some l.fate };
}

-- the two directions of a link
abbrev pub link_source : MemoryLink → MemorySource
link_source l = l.source

abbrev pub link_sink : MemoryLink → MemorySink
link_sink l = l.sink

-- the files, each with its name
abbrev pub shelf_files : MemoryShelf → List (List ℕ × List ℕ)
shelf_files s = s.files.items

-- the names of the files that it was asked for
abbrev pub shelf_asked : MemoryShelf → List (List ℕ)
shelf_asked s = s.asked.items

-- how often a read failed
abbrev pub shelf_faults : MemoryShelf → ℕ
shelf_faults s = s.faults

-- the lives of each server, in the order of their generations
abbrev pub yard_lives : MemoryYard → List (List (Option MemoryLink))
yard_lives y = map (λ server. server.items) y.lives.items

-- for which setups it was asked for starters
abbrev pub yard_asked : MemoryYard → List Setup
yard_asked y = y.asked.items
