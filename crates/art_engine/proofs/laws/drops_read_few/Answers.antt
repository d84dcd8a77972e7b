use Rattle.std.proofs.Common.{arith}
use Rattle.std.proofs.lemmas.List.{length-map}
use Rattle.std.specs.Prelude.{◌==◌, ℕ, ℤ, List, filter}
use Rattle.art_operations.proofs.NodeCounts.{few-nodes, many-nodes}
use Rattle.art_engine.proofs.Terms.{full_key_of, number_key_of, DropsReadFew, KeyRecord, NumberRecord}
use Rattle.art_engine.proofs.laws.drops_read_few.Goals as goal

few : DropsReadFew
few tenant records =
    let keys : List KeyRecord = filter (λ r. r.tenant == tenant) records.keys in
    let numbers : List NumberRecord = filter (λ r. r.tenant == tenant) records.numbers in
    let a = length-map {B = List ℕ × List ℕ} keys (λ r. (r.key, r.value)) in
    let b = length-map {B = ℤ × List ℕ} numbers (λ r. (r.key, r.value)) in
    let many_keys = many-nodes full_key_of keys in
    let many_numbers = many-nodes number_key_of numbers in
    let few_keys = few-nodes full_key_of keys in
    let few_numbers = few-nodes number_key_of numbers in
    (omega (arith, a, b, many_keys, many_numbers), omega (arith, a, b, few_keys, few_numbers))

pub returns : goal.returns
returns c = few
