use Rattle.std.proofs.Common.{◌≡◌, ◌≤◌, ◌^◌, None, sym, subst, ◌∙◌, arith}
use Rattle.std.proofs.lemmas.Result.{on_ok_weaker}
use Rattle.std.specs.Prelude.{OnOk}
use Rattle.art_nodes.proofs.Common.{Name}
use Rattle.art_nodes.specs.declared.kind.NodeType.TheVariants.{Node4, Node16, Node32, Node48, Node256}
use Rattle.art_arena.proofs.Terms.{Arena, HasNoSpare, IsArenaClone, held_at}
use Rattle.art_arena.proofs.shapes.ClonedArenas.{arena-cloned, vacant-cloned}
use Rattle.art_arena.proofs.arena.NodeArena.put_clones.Goals as goal

pub returns-then-this-ge-PREFIX_LEN_LIMIT-clause-clones : goal.returns-then-this-ge-PREFIX_LEN_LIMIT-clause-clones
returns-then-this-ge-PREFIX_LEN_LIMIT-clause-clones g c =
    let large = c.if-this-ge-PREFIX_LEN_LIMIT.true in
    let kc = g.K.Clone.is_clone in
    let vc = g.V.Clone.is_clone in
    let s = c.source.inside in
    let a = c.self.inside in
    let from : Arena g.row.K.Denot g.row.V.Denot = record { leaves = s.leaves; nodes4 = s.nodes4; nodes16 = s.nodes16; nodes32 = s.nodes32; nodes48 = s.nodes48; nodes256 = s.nodes256 } in
    let new : Arena g.row.K.Denot g.row.V.Denot = record { leaves = c.put_clones.new.self; nodes4 = a.nodes4; nodes16 = a.nodes16; nodes32 = a.nodes32; nodes48 = a.nodes48; nodes256 = a.nodes256 } in
    let vacant = subst (λ arena. (n : Name) → held_at arena n ≡ None) (sym c.self.view_is) c.requires in
    subst (λ arena. IsArenaClone kc vc arena new) c.source.view_is
    (arena-cloned kc vc from new c.in_ok-put_clones.ensures.clones
    (vacant-cloned kc vc s.nodes4 a.nodes4 (c.none_fits.ensures.none (omega (arith, large))) (λ slot. vacant (record { kind = Node4; slot = slot })))
    (vacant-cloned kc vc s.nodes16 a.nodes16 (c.none_fits-then-this-ge-PREFIX_LEN_LIMIT.ensures.none (omega (arith, large))) (λ slot. vacant (record { kind = Node16; slot = slot })))
    (vacant-cloned kc vc s.nodes32 a.nodes32 (c.none_fits-then-this-ge-PREFIX_LEN_LIMIT-2.ensures.none (omega (arith, large))) (λ slot. vacant (record { kind = Node32; slot = slot })))
    (vacant-cloned kc vc s.nodes48 a.nodes48 (c.none_fits-then-this-ge-PREFIX_LEN_LIMIT-3.ensures.none (omega (arith, large))) (λ slot. vacant (record { kind = Node48; slot = slot })))
    (vacant-cloned kc vc s.nodes256 a.nodes256 (c.none_fits-then-this-ge-PREFIX_LEN_LIMIT-4.ensures.none (omega (arith, large))) (λ slot. vacant (record { kind = Node256; slot = slot }))))

pub returns-clause-clones : goal.returns-clause-clones
returns-clause-clones g c =
    let kc = g.K.Clone.is_clone in
    let vc = g.V.Clone.is_clone in
    let s = c.source.inside in
    let last = c.put_clones-6.result in
    let from : Arena g.row.K.Denot g.row.V.Denot = record { leaves = s.leaves; nodes4 = s.nodes4; nodes16 = s.nodes16; nodes32 = s.nodes32; nodes48 = s.nodes48; nodes256 = s.nodes256 } in
    let new : Arena g.row.K.Denot g.row.V.Denot = record {
      leaves = c.put_clones.new.self;
      nodes4 = c.put_clones-2.new.self;
      nodes16 = c.put_clones-3.new.self;
      nodes32 = c.put_clones-4.new.self;
      nodes48 = c.put_clones-5.new.self;
      nodes256 = c.put_clones-6.new.self;
    } in
    subst (λ arena. OnOk last (IsArenaClone kc vc arena new)) c.source.view_is
    (on_ok_weaker last (λ cloned. arena-cloned kc vc from new c.in_ok-put_clones.ensures.clones c.in_ok-put_clones-2.ensures.clones c.in_ok-put_clones-3.ensures.clones c.in_ok-put_clones-4.ensures.clones c.in_ok-put_clones-5.ensures.clones cloned) c.put_clones-6.ensures.clones)

pub returns-then-this-ge-PREFIX_LEN_LIMIT-clause-exact : goal.returns-then-this-ge-PREFIX_LEN_LIMIT-clause-exact
returns-then-this-ge-PREFIX_LEN_LIMIT-clause-exact g c =
    let large : 2 ^ 62 ≤ g.row.PREFIX_LEN = omega (arith, c.if-this-ge-PREFIX_LEN_LIMIT.true) in
    let a = c.self.inside in
    let new : Arena g.row.K.Denot g.row.V.Denot = record { leaves = c.put_clones.new.self; nodes4 = a.nodes4; nodes16 = a.nodes16; nodes32 = a.nodes32; nodes48 = a.nodes48; nodes256 = a.nodes256 } in
    subst (λ arena. HasNoSpare arena new) c.source.view_is
    (record {
      leaves = c.in_ok-put_clones.ensures.exact;
      nodes4 = c.none_fits-then-this-ge-PREFIX_LEN_LIMIT-5.ensures.capacity large ∙ sym (c.none_fits.ensures.len large);
      nodes16 = c.none_fits-then-this-ge-PREFIX_LEN_LIMIT-6.ensures.capacity large ∙ sym (c.none_fits-then-this-ge-PREFIX_LEN_LIMIT.ensures.len large);
      nodes32 = c.none_fits-then-this-ge-PREFIX_LEN_LIMIT-7.ensures.capacity large ∙ sym (c.none_fits-then-this-ge-PREFIX_LEN_LIMIT-2.ensures.len large);
      nodes48 = c.none_fits-then-this-ge-PREFIX_LEN_LIMIT-8.ensures.capacity large ∙ sym (c.none_fits-then-this-ge-PREFIX_LEN_LIMIT-3.ensures.len large);
      nodes256 = c.none_fits-then-this-ge-PREFIX_LEN_LIMIT-9.ensures.capacity large ∙ sym (c.none_fits-then-this-ge-PREFIX_LEN_LIMIT-4.ensures.len large);
    })

pub returns-clause-exact : goal.returns-clause-exact
returns-clause-exact g c =
    let s = c.source.inside in
    let last = c.put_clones-6.result in
    let from : Arena g.row.K.Denot g.row.V.Denot = record { leaves = s.leaves; nodes4 = s.nodes4; nodes16 = s.nodes16; nodes32 = s.nodes32; nodes48 = s.nodes48; nodes256 = s.nodes256 } in
    let new : Arena g.row.K.Denot g.row.V.Denot = record {
      leaves = c.put_clones.new.self;
      nodes4 = c.put_clones-2.new.self;
      nodes16 = c.put_clones-3.new.self;
      nodes32 = c.put_clones-4.new.self;
      nodes48 = c.put_clones-5.new.self;
      nodes256 = c.put_clones-6.new.self;
    } in
    subst (λ arena. OnOk last (HasNoSpare arena new)) c.source.view_is
    (on_ok_weaker last
    (λ exact. record { leaves = c.in_ok-put_clones.ensures.exact; nodes4 = c.in_ok-put_clones-2.ensures.exact; nodes16 = c.in_ok-put_clones-3.ensures.exact; nodes32 = c.in_ok-put_clones-4.ensures.exact; nodes48 = c.in_ok-put_clones-5.ensures.exact; nodes256 = exact })
    c.put_clones-6.ensures.exact)
