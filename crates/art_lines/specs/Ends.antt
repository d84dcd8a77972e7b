-- What the ends of a run hold: a reader as a source, a writer as a sink, and a sink that gathers before another one.
use Rattle.std.specs.Prelude.{◌≡◌, ◌≢◌, ℕ, Bool, true, List, [], length}
use Rattle.std.specs.List.{between}
use Rattle.art_lines.specs.declared.from_reader.FromReader.{FromReader}
use Rattle.art_lines.specs.declared.to_writer.ToWriter.{ToWriter}
use Rattle.art_lines.specs.declared.buffered.Buffered.{Buffered}
use Rattle.art_lines.specs.declared.head.Head.{Head}
use Rattle.art_lines.specs.declared.stream.Sink as sink

-- the reader, the bytes that it gave, whether it came to its end, whether a read failed, and how many reads may follow
abbrev pub reader_of : {R : Type 0} → FromReader R → R
reader_of s = s.reader.inner

abbrev pub bytes_given : {R : Type 0} → FromReader R → List ℕ
bytes_given s = s.given.items

abbrev pub has_run_out : {R : Type 0} → FromReader R → Bool
has_run_out s = s.ended

abbrev pub has_read_failed : {R : Type 0} → FromReader R → Bool
has_read_failed s = s.failed

abbrev pub reads_to_come : {R : Type 0} → FromReader R → ℕ
reads_to_come s = s.reads_left

-- how often the reader was called to read
abbrev pub calls_to_read : {R : Type 0} → FromReader R → ℕ
calls_to_read s = length s.reader.calls.items

-- how often the reader failed
abbrev pub failed_reads : {R : Type 0} → FromReader R → ℕ
failed_reads s = length s.reader.failures.items

-- the writer, the bytes that it took, and whether a write failed
abbrev pub writer_of : {W : Type 0} → ToWriter W → W
writer_of s = s.writer.inner

abbrev pub bytes_taken : {W : Type 0} → ToWriter W → List ℕ
bytes_taken s = s.taken.items

abbrev pub has_write_failed : {W : Type 0} → ToWriter W → Bool
has_write_failed s = s.failed

-- how often the writer was called to write, how often to flush, and how often to write since it was flushed
abbrev pub calls_to_write : {W : Type 0} → ToWriter W → ℕ
calls_to_write s = length s.writer.calls.items

abbrev pub calls_to_flush : {W : Type 0} → ToWriter W → ℕ
calls_to_flush s = length s.writer.flushes.items

abbrev pub writes_unflushed : {W : Type 0} → ToWriter W → ℕ
writes_unflushed s = length s.writer.unflushed.items

-- the inner sink of a gathering one, what is held back before it, and whether a write to the gathering one failed
abbrev pub inner_sink : {S : Type 0} {of : sink.Ghosts S} → Buffered S of → S
inner_sink s = s.sink

abbrev pub held_back : {S : Type 0} {of : sink.Ghosts S} → Buffered S of → List ℕ
held_back s = between s.from s.to s.room.items

abbrev pub has_stopped : {S : Type 0} {of : sink.Ghosts S} → Buffered S of → Bool
has_stopped s = s.failed

-- where the inner sink has failed, what it failed to take is held back
abbrev pub HoldsWhatFailed : {S : Type 0} {of : sink.Ghosts S} → Buffered S of → Type 0
HoldsWhatFailed {S} {of} s = of.has_failed (inner_sink s) ≡ true → held_back s ≢ []

-- the tenant whose lines a head begins
abbrev pub tenant_of_head : Head → ℕ
tenant_of_head head = head.tenant
