use Rattle.std.proofs.Common.{◌<◌, ℕ, List, All, sym, subst, arith}
use Rattle.std.proofs.lemmas.List.Elements.{All-get_or}
use Rattle.art_bytes.proofs.Common.{IsBefore}
use Rattle.art_arena.proofs.Common.{LeafAt}
use Rattle.art_operations.proofs.Terms.{PartAt, CanPass, CanPassAt}
use Rattle.art_operations.proofs.Building.{old-byte, old-inside}
use Rattle.art_operations.proofs.PassedLeaves.{above, next-is-held, next-read}
use Rattle.art_operations.proofs.Rebuilding.{last-is-held, last-read}
use Rattle.art_operations.proofs.build.over_leaves.pass_to.Goals as goal
use Rattle.art_operations.proofs.build.over_leaves.pass_to.Goals.{After-parting-parted}

pub as_key_ref-requires : goal.as_key_ref-requires
as_key_ref-requires g c =
    let r = c.requires.stands in
    (omega arith, last-is-held g.K.AsBytes.bytes g.row.PREFIX_LEN c.args.arena.now c.args.spine.now c.args.last _ r.1 r.2.up_to)

pub as_key_ref-requires-2 : goal.as_key_ref-requires-2
as_key_ref-requires-2 g c =
    let r = c.requires.stands in
    (omega arith, next-is-held g.K.AsBytes.bytes g.row.PREFIX_LEN c.args.arena.now c.args.spine.now c.args.last c.args.next r.0 r.1 r.2)

pub parting-parted-requires : goal.parting-parted-requires
parting-parted-requires g c =
    let r = c.requires.stands in
    let old_is = last-read g.K.AsBytes.bytes g.row.PREFIX_LEN c.args.arena.now c.args.spine.now c.args.last _ r.1 r.2.up_to c.as_key_ref.result.now c.as_bytes.result.now c.as_key_ref.ensures c.as_bytes.ensures.value in
    let new_is = next-read g.K.AsBytes.bytes g.row.PREFIX_LEN c.args.arena.now c.args.spine.now c.args.last c.args.next r.0 r.1 r.2 c.as_key_ref-2.result.now c.as_bytes-2.result.now c.as_key_ref-2.ensures c.as_bytes-2.ensures.value in
    subst (λ o. IsBefore o c.as_bytes-2.result.now) (sym old_is) (subst (IsBefore (g.K.AsBytes.bytes r.2.up_to.key)) (sym new_is)
    (above g.K.AsBytes.bytes g.row.PREFIX_LEN c.args.arena.now c.args.spine.now c.args.last c.args.next r.0 r.1 r.2))

-- where the keys part
module _ (g : _) (c : After-parting-parted g) (rest ls : List (LeafAt g.row.K.Denot g.row.V.Denot)) (can : CanPass g.K.AsBytes.bytes g.row.PREFIX_LEN c.args.arena.now c.args.spine.now c.args.last c.args.next rest ls) where
  parts : CanPassAt g.K.AsBytes.bytes g.row.PREFIX_LEN c.args.arena.now c.args.spine.now c.args.last c.args.next c.parting-parted.result rest ls
  parts =
      let old_is = last-read g.K.AsBytes.bytes g.row.PREFIX_LEN c.args.arena.now c.args.spine.now c.args.last _ ls can.up_to c.as_key_ref.result.now c.as_bytes.result.now c.as_key_ref.ensures c.as_bytes.ensures.value in
      let new_is = next-read g.K.AsBytes.bytes g.row.PREFIX_LEN c.args.arena.now c.args.spine.now c.args.last c.args.next rest ls can c.as_key_ref-2.result.now c.as_bytes-2.result.now c.as_key_ref-2.ensures c.as_bytes-2.ensures.value in
      record {
        can = can;
        parts = subst (λ o. PartAt o (g.K.AsBytes.bytes can.leaf.key) c.parting-parted.result) old_is (subst (λ n. PartAt c.as_bytes.result.now n c.parting-parted.result) new_is c.parting-parted.ensures.part);
      }

pub pass_at-requires : goal.pass_at-requires
pass_at-requires g c =
    let r = c.requires.stands in
    let d = (goal.at.pass_at-requires g c).After-parting-parted in
    let p = c.parting-parted.result in
    let part = c.parting-parted.ensures.part in
    let all = subst (λ k. All (λ b. b < 256) k) (sym c.as_bytes.ensures.value) (g.met.K.AsBytes.bytes_fit c.as_key_ref.result.now c.as_bytes.ensures.key) in
    let byte = All-get_or (λ (b : ℕ). b < 256) c.as_bytes.result.now p.matched 0 (old-inside c.as_bytes.result.now c.as_bytes-2.result.now p part) all in
    let fits : p.old_byte < 256 = subst (λ b. b < 256) (old-byte c.as_bytes.result.now c.as_bytes-2.result.now p part) byte in
    (omega arith, ((r.0, r.1, parts g d r.0 r.1 r.2), (c.requires.room, (c.parting-parted.ensures.counts, fits))))

pub returns-clause-passes : goal.returns-clause-passes
returns-clause-passes g c = λ rest ls can. c.pass_at.ensures.passes rest ls (parts g (goal.at.returns-clause-passes g c).After-parting-parted rest ls can)

pub returns-clause-around : goal.returns-clause-around
returns-clause-around g c = c.pass_at.ensures.around
