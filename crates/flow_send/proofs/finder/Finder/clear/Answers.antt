use Rattle.std.proofs.Common.{◌%◌, refl, ◌∙◌, ap}
use Rattle.flow_send.proofs.Finding.{found_clear}
use Rattle.flow_send.proofs.finder.Finder.clear.Goals as goal

pub returns : goal.returns
returns c = found_clear c.args.pending c.args.self.now (record { base = c.args.self.now.base; words = c.unmark.new.words }) c.args.rows.now.items c.args.at refl
    (λ b ne. c.unmark.ensures b (λ e. ne (e ∙ ap (λ n. n % 2176) c.block-block.ensures))) (c.any_with_mark.ensures c.if-any_with_mark.false)
