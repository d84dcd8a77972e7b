use Rattle.art_lines.proofs.Gathering.{text_put}
use Rattle.art_lines.proofs.room.put_text.Goals as goal

pub returns : goal.returns
returns c = text_put c.args.room.now c.args.text.now _ c.args.at _ c.copy_from_slice.ensures.after c.requires
