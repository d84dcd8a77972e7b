-- A worked example beside each definition, computed by the checker.
use Rattle.std.proofs.Common.{◌≡◌, ℕ, zero, suc, ◌<◌, List, [], ◌∷◌, ◌++◌, refl, false, true, negsuc, lit<, lit≤, arith, inl, inr}
use Rattle.std.specs.Prelude.{codes, flat_map, map, replicate, Some, None}
use Rattle.hex.specs.Hex.{IsBytes}
use Rattle.art_lines.specs.Lines.{whole_lines_of, unfinished_line_of}
use Rattle.art_lines.proofs.Common.{lines_of, lines_so_far, name, natural, signed, bytes, shown, line_of, span, put, get, nget, drop, of_tenant, dump, Spells, list, full_key, IsCut}
use Rattle.art_lines.specs.Reading.{command_of, natural_in, tenant_in, number_in, bytes_in}
use Rattle.art_bytes.proofs.Common.{is_below, conflicts}
use Rattle.art_engine.proofs.Terms.{number_key_of, number_of_bytes, full_key_of, exactly, visits_of, visit_bounds, path_nodes, fronts_shared, AreRecords, KeyRecord, KeyFits, Records, no_records, own, with_own}
use Rattle.art_engine.proofs.Terms.{State, unread, most_ahead, dump_of, audit_lines, MayRefuse, LineMayRefuse, answers, IsLineDone, reply_to}
use Rattle.art_engine.proofs.Terms.{IsAnswerCut, IsOutcome, AfterWriteFault, IsCutLine}
use Rattle.hex.proofs.OnLiterals.{hex_on_literals}
use Rattle.std.specs.Fmt.{digits}
use mathlib.Core.Bool.{false≢true}

-- lines, each with its newline
abbrev text : List (List ℕ) → List ℕ
text ls = flat_map (λ l. l ++ 10 ∷ []) ls

-- what an empty index replies to a text with memory to spare
abbrev output : List ℕ → List ℕ
output t = answers no_records (map (λ line. (line, false)) (lines_of t))

-- what the examples compute with
computed : Unit {0}
unfolding whole_lines_of unfinished_line_of command_of natural_in tenant_in number_in bytes_in hex_on_literals digits
computed = tt

-- Lines: the last one counts without a newline, unless it is empty.

lines-of_texts : map lines_of ((codes "a" ++ 10 ∷ codes "b") ∷ (10 ∷ 10 ∷ []) ∷ []) ≡ (codes "a" ∷ codes "b" ∷ []) ∷ ([] ∷ [] ∷ []) ∷ []
unfolding computed
lines-of_texts = refl

-- before the end of the bytes and at it
lines-so_far : map (λ ended. lines_so_far ended (codes "a" ++ 10 ∷ codes "b")) (false ∷ true ∷ []) ≡ (codes "a" ∷ []) ∷ (codes "a" ∷ codes "b" ∷ []) ∷ []
unfolding computed
lines-so_far = refl

-- Words: how they are written.

shown-words : map shown (signed (negsuc 4) ∷ bytes (10 ∷ 11 ∷ []) ∷ bytes [] ∷ []) ≡ codes "-5" ∷ codes "0a0b" ∷ codes "-" ∷ []
unfolding computed
shown-words = refl

line-of_words : line_of (name (codes "end") ∷ natural 12 ∷ []) ≡ codes "end 12" ++ 10 ∷ []
unfolding computed
line-of_words = refl

-- Commands: what spells one, and what does not.

get-spelled : Spells (codes "get 7 0A") (of_tenant 7 (get (10 ∷ [])))
unfolding computed
get-spelled = record { short = lit≤ tt; read = (refl, ((refl, lit< tt), (refl, tt))) }

commands-read : map command_of (codes "dump" ∷ codes "drop 7" ∷ codes "nget 1 -5" ∷ codes "nget 1 -9223372036854775808" ∷ [])
    ≡ map (λ c. Some c) (dump ∷ of_tenant 7 drop ∷ of_tenant 1 (nget (negsuc 4)) ∷ of_tenant 1 (nget (negsuc 9223372036854775807)) ∷ [])
unfolding computed
commands-read = refl

-- a field too many, a zero in front, a tenant that is too large, an odd digit, and two spaces
not-read : map command_of (codes "drop 7 8" ∷ codes "get 07 0a" ∷ codes "get 4294967296 0a" ∷ codes "get 7 0" ∷ codes "get  7 0a" ∷ []) ≡ replicate 5 None
unfolding computed
not-read = refl

numbers-not_read : map command_of (codes "nget 1 -0" ∷ codes "nget 1 +1" ∷ codes "nget 1 9223372036854775808" ∷ []) ≡ replicate 3 None
unfolding computed
numbers-not_read = refl

-- Keys: a front is below a longer key and conflicts with it, a key does not conflict with itself.

front-below : is_below (1 ∷ []) (1 ∷ 0 ∷ []) ≡ true
front-below = refl

keys-conflict : map (λ k. conflicts k (1 ∷ [])) ((1 ∷ 0 ∷ []) ∷ (1 ∷ []) ∷ []) ≡ true ∷ false ∷ []
keys-conflict = refl

full_key-of_258 : full_key 258 (7 ∷ []) ≡ 0 ∷ 0 ∷ 1 ∷ 2 ∷ 7 ∷ []
full_key-of_258 = refl

number_key-below_zero : number_key_of (record { tenant = 258; key = negsuc 0; value = [] }) ≡ 0 ∷ 0 ∷ 1 ∷ 2 ∷ 127 ∷ 255 ∷ 255 ∷ 255 ∷ 255 ∷ 255 ∷ 255 ∷ 255 ∷ []
number_key-below_zero = refl

number-of_bytes : number_of_bytes (127 ∷ 255 ∷ 255 ∷ 255 ∷ 255 ∷ 255 ∷ 255 ∷ 255 ∷ []) ≡ negsuc 0
number-of_bytes = refl

-- Records: two tenants, of whom one is looked up and put in place.

abbrev held : KeyRecord
held = record { tenant = 2; key = 10 ∷ []; value = 97 ∷ [] }

abbrev other : KeyRecord
other = record { tenant = 5; key = 10 ∷ 11 ∷ []; value = [] }

abbrev two : Records
two = record { keys = held ∷ other ∷ []; numbers = [] }

own-of_two : map (λ t. (own t two).keys) (5 ∷ 3 ∷ []) ≡ ((10 ∷ 11 ∷ [], []) ∷ []) ∷ [] ∷ []
own-of_two = refl

with_own-of_two : (with_own 2 (record { keys = []; numbers = [] }) two).keys ≡ other ∷ []
with_own-of_two = refl

-- Replies, to one line and as a dump.

replies-of_two : map (reply_to two) (codes "get 2 0a" ∷ codes "put 5 0a 00" ∷ []) ≡ (codes "is 61" ++ 10 ∷ []) ∷ (codes "conflict" ++ 10 ∷ []) ∷ []
unfolding computed
replies-of_two = refl

dump-of_two : flat_map line_of (dump_of two) ≡ text (codes "put 2 0a 61" ∷ codes "put 5 0a0b -" ∷ codes "end 2" ∷ [])
unfolding computed
dump-of_two = refl

audit-of_two : flat_map line_of (audit_lines two) ≡ text (codes "bytes 2 1 0 0 0 0" ∷ codes "numbers 0 0 0 0 0 0" ∷ [])
unfolding computed
audit-of_two = refl

-- Refusals: a put may find no memory, the drop of a tenant that has nothing may not.

put-may_refuse : LineMayRefuse two (codes "put 1 0a -")
unfolding computed
put-may_refuse = (of_tenant 1 (put (10 ∷ []) []), record { short = lit≤ tt; read = (refl, ((refl, lit< tt), (refl, (refl, tt)))) }, tt)

drop_of_nothing-may_not_refuse : MayRefuse no_records (of_tenant 7 drop) → ⊥
drop_of_nothing-may_not_refuse (inl keys) = keys.0 refl
drop_of_nothing-may_not_refuse (inr numbers) = numbers.0 refl

-- Outcomes of lines.

-- of no line, of an empty one, and of a last one without a newline
texts-output : map output ([] ∷ (10 ∷ []) ∷ (text (codes "put 7 0a0b 6869" ∷ codes "get 7 0a0b" ∷ []) ++ codes "get 8 0a0b") ∷ [])
    ≡ [] ∷ text (codes "bad" ∷ []) ∷ text (codes "new" ∷ codes "is 6869" ∷ codes "none" ∷ []) ∷ []
unfolding computed
texts-output = refl

misspelt-is_bad : output (text (codes "get  1 0a" ∷ codes "get 1 0" ∷ codes "PUT 1 0a 61" ∷ codes "nget 1 -0" ∷ codes "put 1 0a" ∷ codes "end 2" ∷ []))
    ≡ text (replicate 6 (codes "bad"))
unfolding computed
misspelt-is_bad = refl

-- keys of one tenant conflict, those of two don't
keys-conflict_within_a_tenant : output (text (codes "put 1 0a 61" ∷ codes "put 1 0a0b 62" ∷ codes "put 2 0a0b 63" ∷ codes "put 1 0a 64" ∷ codes "dump" ∷ []))
    ≡ text (codes "new" ∷ codes "conflict" ∷ codes "new" ∷ codes "old 61" ∷ codes "put 1 0a 64" ∷ codes "put 2 0a0b 63" ∷ codes "end 2" ∷ [])
unfolding computed
keys-conflict_within_a_tenant = refl

tenants-in_number_order : output (text (codes "put 256 00 61" ∷ codes "put 1 00 62" ∷ codes "put 2 AB 4A" ∷ codes "dump" ∷ []))
    ≡ text (codes "new" ∷ codes "new" ∷ codes "new" ∷ codes "put 1 00 62" ∷ codes "put 2 ab 4a" ∷ codes "put 256 00 61" ∷ codes "end 3" ∷ [])
unfolding computed
tenants-in_number_order = refl

-- a key takes the place of all that it begins or extends, and is found by a longer one
keys-put_over_others : output (text (codes "put 3 616262 61" ∷ codes "put 3 62 62" ∷ codes "over 3 6162 6363" ∷ codes "find 3 616263" ∷ codes "list 3 -" ∷ []))
    ≡ text (codes "new" ∷ codes "new" ∷ codes "over 1" ∷ codes "at 6162 6363" ∷ codes "6162 6363" ∷ codes "62 62" ∷ codes "end 2" ∷ [])
unfolding computed
keys-put_over_others = refl

keys-deleted : output (text (codes "put 1 0a 61" ∷ codes "del 1 0a" ∷ codes "del 1 0a" ∷ codes "dump" ∷ [])) ≡ text (codes "new" ∷ codes "gone 61" ∷ codes "none" ∷ codes "end 0" ∷ [])
unfolding computed
keys-deleted = refl

-- all that a tenant has is dropped, and another's stays
tenants-dropped : output (text (codes "put 1 0a 61" ∷ codes "put 2 0a 62" ∷ codes "nput 1 5 63" ∷ codes "drop 1" ∷ codes "drop 1" ∷ codes "dump" ∷ []))
    ≡ text (codes "new" ∷ codes "new" ∷ codes "new" ∷ codes "dropped 2" ∷ codes "dropped 0" ∷ codes "put 2 0a 62" ∷ codes "end 1" ∷ [])
unfolding computed
tenants-dropped = refl

-- bounds may end within a key, and are told where they are not in order
keys-between_bounds : output (text (codes "put 1 0a 61" ∷ codes "put 1 0b0101 62" ∷ codes "put 1 0c 63" ∷ codes "span 1 0a 0b02" ∷ codes "span 1 0b 0a" ∷ codes "list 1 0b" ∷ []))
    ≡ text (codes "new" ∷ codes "new" ∷ codes "new" ∷ codes "0a 61" ∷ codes "0b0101 62" ∷ codes "end 2" ∷ codes "bounds" ∷ codes "0b0101 62" ∷ codes "end 1" ∷ [])
unfolding computed
keys-between_bounds = refl

-- numbers ascend, and are told after all keys
numbers-in_order : output (text (codes "nput 5 -1 61" ∷ codes "nput 5 256 62" ∷ codes "nput 5 -300 63" ∷ codes "nput 5 256 64" ∷ codes "put 6 0a 65" ∷ codes "nspan 5 -300 0" ∷ codes "dump" ∷ []))
    ≡ text (codes "new" ∷ codes "new" ∷ codes "new" ∷ codes "old 62" ∷ codes "new" ∷ codes "-300 63" ∷ codes "-1 61" ∷ codes "end 2"
    ∷ codes "put 6 0a 65" ∷ codes "nput 5 -300 63" ∷ codes "nput 5 -1 61" ∷ codes "nput 5 256 64" ∷ codes "end 4" ∷ [])
unfolding computed
numbers-in_order = refl

numbers-deleted : output (text (codes "nput 1 5 61" ∷ codes "nget 1 5" ∷ codes "ndel 1 5" ∷ codes "ndel 1 5" ∷ codes "nget 1 5" ∷ codes "nspan 1 5 4" ∷ []))
    ≡ text (codes "new" ∷ codes "is 61" ∷ codes "gone 61" ∷ codes "none" ∷ codes "none" ∷ codes "bounds" ∷ [])
unfolding computed
numbers-deleted = refl

-- a line of 4096 bytes, and one of 4097 after it
long_line-is_bad_once : output (text ((codes "put 1 " ++ replicate 4088 97 ++ codes " -") ∷ (codes "put 10 " ++ replicate 4088 97 ++ codes " -") ∷ codes "get 1 00" ∷ []))
    ≡ text (codes "new" ∷ codes "bad" ∷ codes "none" ∷ [])
unfolding computed
long_line-is_bad_once = refl

-- the second line finds no memory
refused_line-changes_nothing : answers no_records ((codes "put 1 0a 61", false) ∷ (codes "put 1 0b 62", true) ∷ (codes "dump", false) ∷ [])
    ≡ text (codes "new" ∷ codes "memory" ∷ codes "put 1 0a 61" ∷ codes "end 1" ∷ [])
unfolding computed
refused_line-changes_nothing = refl

-- Faults: a read that fails after an unfinished line, and a sink that fails within a reply.

abbrev empty : State 16
empty = unread no_records

one_record : Records
one_record = record { keys = (record { tenant = 1; key = 10 ∷ []; value = 97 ∷ [] }) ∷ []; numbers = [] }

one_byte : (b : ℕ) → b < 256 → IsBytes (b ∷ [])
one_byte b fits zero = fits
one_byte b fits (suc i) = lit< tt

-- it is one that an index may hold
one-fits : AreRecords one_record
unfolding one_record computed
one-fits = record {
  keys_in_order = (tt, tt);
  numbers_in_order = tt;
  keys_fit = (record { tenant_fits = lit< tt; key_fits = one_byte 10 (lit< tt); value_fits = one_byte 97 (lit< tt); line_fits = lit≤ tt }, tt);
  numbers_fit = tt;
}

put-done : IsLineDone false empty (codes "put 1 0a 61") (record { records = one_record; reads = 0 ∷ []; ahead = 0 ∷ []; prefetched = [] })
unfolding one_record computed
put-done = record {
  lawful = λ no_memory. absurd (false≢true no_memory);
  left = refl;
  are = one-fits;
  visits = 0;
  within = (lit≤ tt, lit≤ tt);
  short = tt;
  own_path = tt;
  counted = refl;
  visits_ahead = 0;
  few = lit≤ tt;
  counted_ahead = refl;
}

read_fault-after_a_line : IsOutcome empty (whole_lines_of (codes "put 1 0a 61" ++ 10 ∷ codes "get 1 0")) (codes "new" ++ 10 ∷ []) (record { records = one_record; reads = 0 ∷ []; ahead = 0 ∷ []; prefetched = [] })
unfolding one_record computed
read_fault-after_a_line =
    record { asked = (codes "put 1 0a 61", false) ∷ []; are = refl; output = refl; done = (record { records = one_record; reads = 0 ∷ []; ahead = 0 ∷ []; prefetched = [] }, put-done, refl); told = 0 ∷ []; told_ahead = refl; own_ahead = ((empty.records, inl refl, lit≤ tt), refl) }

-- one byte of three was taken, after another
text-cut_after_a_byte : IsCut (codes "o") (codes "on") (codes "new")
text-cut_after_a_byte = record { begun = codes "n"; missing = codes "ew"; is_cut = λ e. cc; parts = refl; output = refl }

-- the state after the put, which read no node, and ahead of which none was read
abbrev after_put : State 16
after_put = record { records = one_record; reads = 0 ∷ []; ahead = 0 ∷ []; prefetched = [] }

-- a put was carried out, and of its answer nothing was taken
answer-cut_at_once : IsAnswerCut empty (codes "put 1 0a 61") (codes "o") (codes "o") after_put
unfolding one_record computed
answer-cut_at_once = record {
  memory = false;
  lawful = λ no_memory. absurd (false≢true no_memory);
  begun = [];
  is_cut = refl;
  output = refl;
  left = refl;
  visits = 0;
  few = lit≤ tt;
  counted = refl;
}

-- or a beginning was
answer-cut_within : IsAnswerCut empty (codes "put 1 0a 61") [] (codes "ne") after_put
unfolding one_record computed
answer-cut_within = record {
  memory = false;
  lawful = λ no_memory. absurd (false≢true no_memory);
  begun = codes "ne";
  is_cut = refl;
  output = refl;
  left = refl;
  visits = 0;
  few = lit≤ tt;
  counted = refl;
}

line-cut_within : IsCutLine empty (codes "put 1 0a 61") [] (codes "ne") after_put
line-cut_within = record { cut = answer-cut_within; visits_ahead = 0; few = omega arith; unused = []; counted_ahead = refl }

-- so no line was answered whole
write_fault-within_a_reply : AfterWriteFault empty (codes "put 1 0a 61" ∷ codes "get 1 0a" ∷ []) (codes "ne") after_put
unfolding line-cut_within
write_fault-within_a_reply = ([], codes "get 1 0a" ∷ [], codes "put 1 0a 61", [], empty, refl, record { asked = []; are = refl; output = refl; done = refl; told = []; told_ahead = refl; own_ahead = refl }, line-cut_within, (empty.records, inl refl, omega arith))

-- Records: a key is bytes, so that no record has 256 in its key.

no_record-256 : KeyFits (record { tenant = 1; key = 256 ∷ []; value = [] }) → ⊥
no_record-256 h = let first : 256 < 256 = h.key_fits 0 in omega arith

-- Counts: what a line reads of three records, and of which fronts two tenants share one.

abbrev at_key : ℕ → ℕ → ℕ → KeyRecord
at_key tenant key value = record { tenant = tenant; key = key ∷ []; value = value ∷ [] }

abbrev of_two : Records
of_two = record { keys = at_key 1 170 97 ∷ at_key 1 187 98 ∷ at_key 2 170 99 ∷ []; numbers = [] }

visits-of_commands : map (λ c. visits_of 16 (Some c) of_two) (of_tenant 1 (get (170 ∷ [])) ∷ of_tenant 3 (get (170 ∷ [])) ∷ of_tenant 1 (list []) ∷ of_tenant 1 drop ∷ dump ∷ [])
    ≡ exactly 3 ∷ exactly 1 ∷ exactly 9 ∷ exactly 10 ∷ exactly 0 ∷ []
visits-of_commands = refl

-- a node that stores no byte of its prefix has it told by a leaf, which is found by two nodes more
visits-of_no_prefix : visits_of 0 (Some (of_tenant 1 (list []))) of_two ≡ exactly 11
visits-of_no_prefix = refl

bounds-of_commands : map (λ c. visit_bounds 16 (Some c) of_two) (of_tenant 1 (get (170 ∷ [])) ∷ of_tenant 1 (list []) ∷ of_tenant 1 drop ∷ dump ∷ [])
    ≡ exactly 3 ∷ record { least = 2; most = 86 } ∷ record { least = 4; most = 143 } ∷ exactly 0 ∷ []
bounds-of_commands = refl

path-of_its_own : path_nodes full_key_of (at_key 1 170 97 ∷ at_key 1 187 98 ∷ []) (full_key 1 (170 ∷ [])) ≡ 2
path-of_its_own = refl

shares-one_front : fronts_shared (λ r. r.tenant) 1 of_two.keys ≡ 1
shares-one_front = refl

-- What is read ahead of a line: six nodes at most of a key of one byte, and none of bounds out of order, of a line that is
-- bad or of one that puts.

ahead-of_lines : map most_ahead (Some (of_tenant 1 (get (170 ∷ []))) ∷ Some (of_tenant 1 (list [])) ∷ Some (of_tenant 1 (span (2 ∷ []) (1 ∷ []))) ∷ None ∷ []) ≡ 6 ∷ 5 ∷ 0 ∷ 0 ∷ []
ahead-of_lines = refl
