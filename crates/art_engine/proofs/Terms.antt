-- The words of this crate that its proofs and those above name, from one place.
pub use Rattle.art_engine.specs.Ahead.{AreNext, IsAllTold, IsNextLine, Tells, most_ahead, total}
pub use Rattle.art_engine.specs.ReadAhead.{read_of, texts_of, to_come}
pub use Rattle.art_engine.specs.Changed.{IsChangeDone, IsPutDone, changed_words, change_is_memory}
pub use Rattle.art_engine.specs.Counts.{Grew, GrewBy, GrewUpTo, IsOwnPath, IsShort, IsWithin, ReadsOwnPath, Visits, drop_nodes, exactly, fronts_shared, key_visits, line_visits, list_nodes, listed_after, look_up_nodes, number_span_nodes, number_visits, part_opening, path_nodes, range_opening, span_nodes, visits_of}
pub use Rattle.art_engine.specs.Faults.{AfterWriteFault, IsAnswerCut, IsCutLine}
pub use Rattle.art_engine.specs.FewVisits.{VisitsAreBounded, dropping, listing, longest, visit_bounds}
pub use Rattle.art_engine.specs.Held.{IsNumberRecordIn, IsRecordIn, IsShortNumber, IsShortNumberPair, IsShortPair, IsShortRecord}
pub use Rattle.art_engine.specs.Keys.{full_key_of, full_pair, number_key_of, number_of_bytes, number_pair}
pub use Rattle.art_engine.specs.Laws.{DeletionsGoByOwnKeys, DeletionsGoByOwnNumbers, DropsReadFew, DumpsAreReadBack, DumpsTellRecords, FullKeysKeepConflicts, FullKeysKeepOrder, NumberPutsAreUndone, OthersAreUntouched, OwnIsUnderPrefix, OwnIsInPlace, OwnReadsBack, PutsAreUndone}
pub use Rattle.art_engine.specs.Laws.{RequestsLeaveOthers, TenantsStandAlone, dump_text, own_at_end, own_after_line, own_changed, own_replies, own_output, request_to, with_reply}
pub use Rattle.art_engine.specs.Outcome.{AreOnOwnPaths, IsLineDone, IsOnOwnPathIn, IsOutcome, answer, answers, left_by, records_after, records_in, records_so_far, reply_to}
pub use Rattle.art_engine.specs.Progress.{AllOnOwnPath, Carried, IsCutRun, NoNewline}
pub use Rattle.art_engine.specs.Records.{AreRecords, InOrder, KeyComesBefore, KeyFits, KeyRecord, NumberComesBefore, NumberFits, NumberRecord, Own, Record, Records, no_records, own, own_part, with_own, with_part}
pub use Rattle.art_engine.specs.Refusals.{LineMayRefuse, MayRefuse}
pub use Rattle.art_engine.specs.Replies.{audit_lines, command_after, command_reply, count_words, dump_of, front_at, has_conflict, key_lines, number_lines, numbers_from_to, overlapped, own_after, own_reply, puts, value_at, with_changed, with_pair, with_value_over, without_at}
pub use Rattle.art_engine.specs.Spans.{IsClosed, IsListed, IsNumbered, own_number, own_pair, pending, pending_all, span_pairs}
pub use Rattle.art_engine.specs.State.{State, unread}
pub use Rattle.art_engine.specs.Stored.{AreFull, AreNumberPairs, ArePairs, IsFull, IsNumberPair, IsOfTenant, NumberPair, Pair, all_records_of, number_record_of, number_records_of, record_of, records_of}
