use Rattle.art_lines.proofs.Gathering.{head_put}
use Rattle.art_lines.proofs.head.Head.put.Goals as goal

pub returns : goal.returns
returns c = head_put _ _ _ _ _ _ _ c.requires c.args.self.now.held c.put_text-next.ensures
