-- What proofs above this crate name of it, from one place: its words and its lemmas.
pub use Rattle.art_lines.proofs.Terms.{Command, IsCut, IsPartTaken, Reads, Spells, Writes, asks_all, audit, bound_in_place, bytes, changes, command_in, command_with, del, drop, drops, dump, end_words, fields_of, find, found_or, full_key, get, key_in_place, line_of, lines_of, lines_so_far}
pub use Rattle.art_lines.proofs.Terms.{list, listed, looks_up, name, natural, ndel, nget, nput, nput_words, nspan, number_in_place, number_words, numbers_listed, of_tenant, over, pair_words, pieces_of, put, put_reply, put_words, shown, signed, span, tenant_in_place, text_of}
pub use Rattle.art_lines.proofs.Terms.{upper_in_place, value_in_place, words_of}
pub use Rattle.art_lines.proofs.Cuts.{cut_before, cut_same, taken_all, taken_cut, taken_from, taken_longer, taken_more, taken_none, taken_through, when_err, writes_cut, writes_rest, writes_same}
pub use Rattle.art_lines.proofs.ReplyLines.{line_more, nput_parts, number_parts, pair_parts, put_parts}
pub use Rattle.art_lines.proofs.Spelling.{spelled, spells, spells_one}
