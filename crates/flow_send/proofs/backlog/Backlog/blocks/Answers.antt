use Rattle.std.proofs.Common.{◌+◌, List, length, ap, ◌∙◌, arith}
use Rattle.flow_send.specs.declared.waiting.Waiting.{Waiting}
use Rattle.std.specs.Option.{unwrap_or}
use Rattle.flow_send.specs.Sender.{first_number}
use Rattle.flow_send.specs.Lows.{block_of}
use Rattle.flow_send.proofs.Lowest.{all_in}
use Rattle.flow_send.proofs.backlog.Backlog.blocks.Goals as goal

pub returns-clause-within : goal.returns-clause-within
returns-clause-within c =
    let high = c.args.forward + 1 + length c.args.rows.now.rows in
    let first = c.unwrap_or-first.ensures ∙ (ap (λ o. unwrap_or o 0) c.first.ensures ∙ ap (λ (ws : List Waiting). unwrap_or (first_number ws) 0) c.self.view_is) in
    all_in high _ _ c.args.self.now c.requires (c.block_of.ensures ∙ ap block_of first) (omega (arith, c.from.ensures, c.len.ensures))
