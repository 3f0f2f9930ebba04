use Rattle.std.proofs.Common.{◌≡◌, ap, sym, ◌∙◌, subst}
use Rattle.flow_send.specs.declared.pick.Pick.{Pick}
use Rattle.flow_send.specs.Choice.{chunk_for, sent_after}
use Rattle.flow_send.specs.Flow.{Flow, with_sender}
use Rattle.flow_send.specs.Picked.{picked, IsThere}
use Rattle.flow_send.proofs.Chosen.{same_chunk, still_there}
use Rattle.flow_send.proofs.sender.FlowSender.send.Goals as goal
use Rattle.flow_send.proofs.sender.FlowSender.send.Goals.{After-send_row}

after : (c : After-send_row) → c.send_row.new.self ≡ with_sender c.args.self.now (sent_after c.args.moment (picked c.args.self.now.sender c.args.pick) c.args.self.now.sender)
after c =
    let f = c.args.self.now in
    subst (λ (p : Pick). c.send_row.new.self ≡ with_sender f (sent_after c.args.moment (picked f.sender p) f.sender)) (sym c.in-Row.is) c.send_row.ensures

pub returns-in-Row-clause-chunk : goal.returns-in-Row-clause-chunk
returns-in-Row-clause-chunk c =
    let p = c.args.pick in
    ap (λ (f : Flow). chunk_for f.sender (picked f.sender p)) (after c) ∙ same_chunk c.args.self.now.sender p c.args.moment c.requires.there

pub returns-in-Row-clause-there : goal.returns-in-Row-clause-there
returns-in-Row-clause-there c =
    let p = c.args.pick in
    subst (λ (f : Flow). IsThere f.sender p) (sym (after c)) (still_there c.args.self.now.sender p c.args.moment c.requires.there)
