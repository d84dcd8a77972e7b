use Rattle.art_walks.proofs.map_reader.MapReader+K+V+PREFIX_LEN.get_key_value.Goals as goal

pub returns-clause-value : goal.returns-clause-value
returns-clause-value g c = rw (← c.as_bytes.ensures.value) c.pair_of.ensures.value
