-- The words of this crate that its proofs and those above name, from one place.
pub use Rattle.art_lines.specs.Commands.{Command, Spells, audit, del, drop, dump, fields_of, find, get, list, ndel, nget, nput, nput_words, nspan, of_tenant, over, put, put_words, span, words_of}
pub use Rattle.art_lines.specs.Decimals.{AreFirstDigits, IsDigit, IsDigitAt, pairs_shown}
pub use Rattle.art_lines.specs.Gathered.{IsHead, IsPartTaken, Puts, head_of}
pub use Rattle.art_lines.specs.InPlace.{HasNoFirst, IsFirst, IsRead, fields_after}
pub use Rattle.art_lines.specs.Keys.{full_key}
pub use Rattle.art_lines.specs.Lines.{lines_of, lines_so_far, pieces_of}
pub use Rattle.art_lines.specs.Parsed.{AllInPlace, all_in_place, asks_all, fields_in_place, bound_in_place, changes, command_of_row, command_with, drops, key_in_place, looks_up, meaning, number_in_place, tenant_in_place, upper_in_place, value_in_place}
pub use Rattle.art_lines.specs.Reading.{fields_in, command_by, command_in, negated, nothing_in, one_in, some_bytes, tenant_alone_in, two_in, ◌>>=◌}
pub use Rattle.art_lines.specs.ReplyWords.{end_words, found_or, listed, number_words, numbers_listed, pair_words, put_reply}
pub use Rattle.art_lines.specs.Table.{FieldsFor, Row, all_words, called, found_among, made_by, made_in, row, row_of_word, shape_in, shape_of, with_shape, word_in}
pub use Rattle.art_lines.specs.Words.{Reads, bytes, line_of, name, natural, shown, signed, text_of}
pub use Rattle.art_lines.specs.Writes.{IsCut, Writes}
pub use Rattle.art_lines.specs.declared.command.fields.Fields.{Fields}
pub use Rattle.art_lines.specs.declared.command.word.Shape.{Shape}
pub use Rattle.art_lines.specs.declared.command.word.Shape.TheVariants.{Key, KeyAndValue, Nothing, Number, NumberAndValue, Tenant, TwoKeys, TwoNumbers}
