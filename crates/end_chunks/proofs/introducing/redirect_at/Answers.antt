use Rattle.end_chunks.proofs.Introduced.{narrow_tag}
use Rattle.end_chunks.proofs.introducing.redirect_at.Goals as goal

pub redirect_answer-requires-clause-tag : goal.redirect_answer-requires-clause-tag
redirect_answer-requires-clause-tag c = narrow_tag c.args.tag.now c.requires
