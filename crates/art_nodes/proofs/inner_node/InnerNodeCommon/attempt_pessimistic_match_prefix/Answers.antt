use Rattle.std.proofs.Common.{◌≤◌, length, ap, ◌∙◌, arith}
use Rattle.art_nodes.proofs.Terms.{Header}
use Rattle.art_nodes.proofs.inner_node.InnerNodeCommon.attempt_pessimistic_match_prefix.Goals as goal

pub returns-else-matched_bytes-len-clause-compared : goal.returns-else-matched_bytes-len-clause-compared
returns-else-matched_bytes-len-clause-compared g c whole =
    let header = (g.Self.InnerNodeInit.inner c.args.self.now).header in
    let stores = c.header-header.ensures.is_inner_node.header.stores in
    let stored = c.read_prefix.ensures ∙ ap (λ (h : Header). h.stored) c.header-header.ensures.value in
    let len = c.prefix_len-len.ensures ∙ ap (λ (h : Header). h.prefix_len) c.header-header.ensures.value in
    let within : c.count_agreeing-matched_bytes.result ≤ length header.stored = rw stored at c.count_agreeing-matched_bytes.ensures.within in
    (rw stored at c.count_agreeing-matched_bytes.ensures.value, omega (arith, within, stores, len, c.if-matched_bytes-len.false))
