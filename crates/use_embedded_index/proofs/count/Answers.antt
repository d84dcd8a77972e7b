use Rattle.std.proofs.Common.{◌∙◌, ap, sym, length}
use Rattle.std.proofs.lemmas.List.{length-map}
use Rattle.art_engine.proofs.Common.{full_pair}
use Rattle.use_embedded_index.proofs.count.Goals as goal

pub returns : goal.returns
returns c =
    let records = c.args.seats.now.records in
    c.len.ensures ∙ sym (length-map c.byte_map.result.now.pairs (λ p. (p.0.items, p.1.items))) ∙ ap length c.byte_map.ensures
    ∙ length-map records.keys full_pair
