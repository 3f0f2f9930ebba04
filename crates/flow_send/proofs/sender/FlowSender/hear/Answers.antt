use Rattle.std.proofs.Common.{◌≡◌, ℕ, ◌+◌, ◌-◌, ◌≤◌, List, length, map, drop, Some, ap, sym, ◌∙◌, subst, arith}
use Rattle.std.specs.List.{sum_by}
use Rattle.flow_send.specs.Rows.{Row, Roomy, stored_of, settled_front}
use Rattle.flow_send.specs.Sender.{sender_of, Sender}
use Rattle.flow_send.specs.Acks.{told, last_ordinal, greatest, acknowledge, new_bytes, rows_acknowledged, rows_told, makes_lost, told_by, count_ack, still_waits}
use Rattle.flow_send.specs.Messages.{OthersWait}
use Rattle.flow_send.specs.Steady.{Steady, Line, end_of}
use Rattle.flow_send.specs.Flow.{Flow, with_sender}
use Rattle.flow_send.proofs.Ends.{line_rows, next_small}
use Rattle.flow_send.proofs.Keeping.{front_fits}
use Rattle.flow_send.proofs.Numbered.{map_length}
use Rattle.flow_send.proofs.Steadies.{told_length, steady_told}
use Rattle.flow_send.proofs.Followed.{acked_on, told_on, settled_on}
use Rattle.flow_send.proofs.Keepings.{acked_marks, counted_marks, told_marks}
use Rattle.flow_send.proofs.Walking.{in_line}
use Rattle.flow_send.proofs.Tellings.{others_told, acked_bytes, counted_rows, counted_lost, told_eq}
use Rattle.flow_send.proofs.sender.FlowSender.hear.Goals as goal

pub acknowledge-ordinal-requires : goal.acknowledge-ordinal-requires
acknowledge-ordinal-requires c =
    let i = c.self.inside in
    let s = sender_of i.forward i.rows.rows i.waiting i.finish i.sent i.upto i.told i.notice i.order in
    let k : Steady s = c.self.invariant.0 in
    omega (arith, c.greatest-greatest.ensures, c.if-greatest-self.false, k.below)

pub overflow_sub-bytes : goal.overflow_sub-bytes
overflow_sub-bytes c =
    let i = c.self.inside in
    let s = sender_of i.forward i.rows.rows i.waiting i.finish i.sent i.upto i.told i.notice i.order in
    let k : Steady s = c.self.invariant.0 in
    let a = told c.args.blocks c.args.upto c.args.spans in
    let g : greatest a.upto a.spans ≤ s.sent = omega (arith, c.greatest-greatest.ensures, c.if-greatest-self.false) in
    let e : c.acknowledge-ordinal.new.rows.rows ≡ rows_acknowledged a s = c.acknowledge-ordinal.ensures.rows in
    omega (arith, c.stored-before.ensures, c.stored.ensures, acked_bytes a s.sent (s.forward + 1) s.rows k.rows, ap (λ (xs : List Row). sum_by stored_of xs) e)

pub mark-requires-clause-follows : goal.mark-requires-clause-follows
mark-requires-clause-follows c =
    let i = c.self.inside in
    let a = told c.args.blocks c.args.upto c.args.spans in
    acked_on i.sendings a (i.forward + 1) i.rows.rows c.acknowledge-ordinal.new.rows.rows c.acknowledge-ordinal.ensures.rows c.self.invariant.3

pub mark-requires-clause-line : goal.mark-requires-clause-line
mark-requires-clause-line c =
    let i = c.self.inside in
    in_line 0 (end_of (sender_of i.forward i.rows.rows i.waiting i.finish i.sent i.upto i.told i.notice i.order)) i.waiting c.self.invariant.0.line

pub count_acks-lost-requires-clause-inside : goal.count_acks-lost-requires-clause-inside
count_acks-lost-requires-clause-inside c =
    let i = c.self.inside in
    let s = sender_of i.forward i.rows.rows i.waiting i.finish i.sent i.upto i.told i.notice i.order in
    let k : Steady s = c.self.invariant.0 in
    let a = told c.args.blocks c.args.upto c.args.spans in
    let g : greatest a.upto a.spans ≤ s.sent = omega (arith, c.greatest-greatest.ensures, c.if-greatest-self.false) in
    let e : c.acknowledge-ordinal.new.rows.rows ≡ rows_acknowledged a s = c.acknowledge-ordinal.ensures.rows in
    let n : c.sent_rows-to.result ≤ length s.rows = subst (λ (f : Flow). c.sent_rows-to.result ≤ length f.sender.rows) (sym c.self.view_is) c.sent_rows-to.ensures.inside in
    omega (arith, n, ap (λ (xs : List Row). length xs) e, map_length (acknowledge a) (s.forward + 1) s.rows)

pub count_acks-lost-requires-clause-follows : goal.count_acks-lost-requires-clause-follows
count_acks-lost-requires-clause-follows c =
    let i = c.self.inside in
    let s = sender_of i.forward i.rows.rows i.waiting i.finish i.sent i.upto i.told i.notice i.order in
    let a = told c.args.blocks c.args.upto c.args.spans in
    acked_on i.sendings a (i.forward + 1) i.rows.rows c.acknowledge-ordinal.new.rows.rows c.acknowledge-ordinal.ensures.rows c.self.invariant.3

pub drop_done-requires-clause-inside : goal.drop_done-requires-clause-inside
drop_done-requires-clause-inside c =
    let i = c.self.inside in
    let s = sender_of i.forward i.rows.rows i.waiting i.finish i.sent i.upto i.told i.notice i.order in
    let k : Steady s = c.self.invariant.0 in
    let a = told c.args.blocks c.args.upto c.args.spans in
    let g : greatest a.upto a.spans ≤ s.sent = omega (arith, c.greatest-greatest.ensures, c.if-greatest-self.false) in
    let e : c.acknowledge-ordinal.new.rows.rows ≡ rows_acknowledged a s = c.acknowledge-ordinal.ensures.rows in
    let to : c.sent_rows-to.result ≡ s.sent - s.forward = c.sent_rows-to.ensures.count ∙ ap (λ (f : Flow). f.sender.sent - f.sender.forward) (sym c.self.view_is) in
    let rows : c.count_acks-lost.new.rows.rows ≡ rows_told a s = counted_rows a s c.acknowledge-ordinal.result c.sent_rows-to.result c.acknowledge-ordinal.new.rows.rows c.count_acks-lost.new.rows.rows k g e c.acknowledge-ordinal.ensures.ordinal to c.count_acks-lost.ensures.rows in
    let n : length s.rows ≡ length c.count_acks-lost.new.rows.rows = sym (ap (λ (xs : List Row). length xs) rows ∙ told_length a s) in
    subst (λ (j : ℕ). Line 0 (s.forward + 1 + j) s.waiting) n (line_rows s k)

pub drop_done-requires-clause-others : goal.drop_done-requires-clause-others
drop_done-requires-clause-others c =
    let i = c.self.inside in
    let s = sender_of i.forward i.rows.rows i.waiting i.finish i.sent i.upto i.told i.notice i.order in
    let k : Steady s = c.self.invariant.0 in
    let a = told c.args.blocks c.args.upto c.args.spans in
    let g : greatest a.upto a.spans ≤ s.sent = omega (arith, c.greatest-greatest.ensures, c.if-greatest-self.false) in
    let e : c.acknowledge-ordinal.new.rows.rows ≡ rows_acknowledged a s = c.acknowledge-ordinal.ensures.rows in
    let to : c.sent_rows-to.result ≡ s.sent - s.forward = c.sent_rows-to.ensures.count ∙ ap (λ (f : Flow). f.sender.sent - f.sender.forward) (sym c.self.view_is) in
    let rows : c.count_acks-lost.new.rows.rows ≡ rows_told a s = counted_rows a s c.acknowledge-ordinal.result c.sent_rows-to.result c.acknowledge-ordinal.new.rows.rows c.count_acks-lost.new.rows.rows k g e c.acknowledge-ordinal.ensures.ordinal to c.count_acks-lost.ensures.rows in
    subst (λ (xs : List Row). OthersWait c.args.upto c.args.spans (s.forward + 1) xs s.waiting) (sym rows) (others_told a s k.waits)

pub overflow_add-self : goal.overflow_add-self
overflow_add-self c =
    let i = c.self.inside in
    let s = sender_of i.forward i.rows.rows i.waiting i.finish i.sent i.upto i.told i.notice i.order in
    let k : Steady s = c.self.invariant.0 in
    let a = told c.args.blocks c.args.upto c.args.spans in
    let g : greatest a.upto a.spans ≤ s.sent = omega (arith, c.greatest-greatest.ensures, c.if-greatest-self.false) in
    let e : c.acknowledge-ordinal.new.rows.rows ≡ rows_acknowledged a s = c.acknowledge-ordinal.ensures.rows in
    let to : c.sent_rows-to.result ≡ s.sent - s.forward = c.sent_rows-to.ensures.count ∙ ap (λ (f : Flow). f.sender.sent - f.sender.forward) (sym c.self.view_is) in
    let rows : c.count_acks-lost.new.rows.rows ≡ rows_told a s = counted_rows a s c.acknowledge-ordinal.result c.sent_rows-to.result c.acknowledge-ordinal.new.rows.rows c.count_acks-lost.new.rows.rows k g e c.acknowledge-ordinal.ensures.ordinal to c.count_acks-lost.ensures.rows in
    omega (arith, c.settle.ensures.count, ap (λ (q : Roomy). settled_front q.rows) c.drop_done.ensures.same, front_fits c.count_acks-lost.new.rows.rows, ap (λ (xs : List Row). length xs) rows, told_length a s, next_small s k)

pub invariant_of-self : goal.invariant_of-self
invariant_of-self c =
    let i = c.self.inside in
    let s = sender_of i.forward i.rows.rows i.waiting i.finish i.sent i.upto i.told i.notice i.order in
    let k : Steady s = c.self.invariant.0 in
    let a = told c.args.blocks c.args.upto c.args.spans in
    let g : greatest a.upto a.spans ≤ s.sent = omega (arith, c.greatest-greatest.ensures, c.if-greatest-self.false) in
    let e : c.acknowledge-ordinal.new.rows.rows ≡ rows_acknowledged a s = c.acknowledge-ordinal.ensures.rows in
    let to : c.sent_rows-to.result ≡ s.sent - s.forward = c.sent_rows-to.ensures.count ∙ ap (λ (f : Flow). f.sender.sent - f.sender.forward) (sym c.self.view_is) in
    let rows : c.count_acks-lost.new.rows.rows ≡ rows_told a s = counted_rows a s c.acknowledge-ordinal.result c.sent_rows-to.result c.acknowledge-ordinal.new.rows.rows c.count_acks-lost.new.rows.rows k g e c.acknowledge-ordinal.ensures.ordinal to c.count_acks-lost.ensures.rows in
    let count : c.settle.result ≡ settled_front c.count_acks-lost.new.rows.rows = c.settle.ensures.count ∙ ap (λ (q : Roomy). settled_front q.rows) c.drop_done.ensures.same in
    let left : c.settle.new.self.rows ≡ drop (settled_front c.count_acks-lost.new.rows.rows) c.count_acks-lost.new.rows.rows = c.settle.ensures.rows ∙ ap (λ (q : Roomy). drop (settled_front q.rows) q.rows) c.drop_done.ensures.same in
    let is = told_eq a s c.count_acks-lost.new.rows.rows c.settle.new.self.rows (i.forward + c.settle.result) c.drop_done.new.self rows (ap (λ j. i.forward + j) count) left c.drop_done.ensures.left in (
      subst Steady (sym is) (steady_told s a k g),
      c.self.invariant.1,
      λ none. let r = c.self.invariant.2 none in omega (arith, r, c.acknowledge-ordinal.ensures.room, c.count_acks-lost.ensures.room, ap (λ (q : Roomy). q.room) c.drop_done.ensures.same, c.settle.ensures.room),
      settled_on c.prune.new.self i.forward c.settle.result c.count_acks-lost.new.rows.rows c.settle.new.self.rows count left
          (c.prune.ensures.follows (told_on i.sendings a (last_ordinal a (s.forward + 1) s.rows) (i.forward + 1) i.rows.rows c.count_acks-lost.new.rows.rows rows c.self.invariant.3)),
      told_marks c.mark.new.marks i.waiting c.drop_done.new.self (still_waits (i.forward + 1) c.count_acks-lost.new.rows.rows) i.forward c.settle.result c.count_acks-lost.new.rows.rows c.settle.new.self.rows c.drop_done.ensures.left count left
          (counted_marks i.marks c.mark.new.marks i.waiting c.acknowledge-ordinal.result (i.forward + 1) c.acknowledge-ordinal.new.rows.rows c.count_acks-lost.new.rows.rows
          (rows ∙ (ap (λ o. map (count_ack o) (rows_acknowledged a s)) (sym c.acknowledge-ordinal.ensures.ordinal) ∙ ap (λ (xs : List Row). map (count_ack c.acknowledge-ordinal.result) xs) (sym e)))
          c.mark.ensures.grows c.mark.ensures.covers (acked_marks i.marks i.waiting a (i.forward + 1) i.rows.rows c.acknowledge-ordinal.new.rows.rows e c.self.invariant.4)),
    )

pub returns-clause-bytes : goal.returns-clause-bytes
returns-clause-bytes c =
    let i = c.self.inside in
    let s = sender_of i.forward i.rows.rows i.waiting i.finish i.sent i.upto i.told i.notice i.order in
    let k : Steady s = c.self.invariant.0 in
    let a = told c.args.blocks c.args.upto c.args.spans in
    let g : greatest a.upto a.spans ≤ s.sent = omega (arith, c.greatest-greatest.ensures, c.if-greatest-self.false) in
    let e : c.acknowledge-ordinal.new.rows.rows ≡ rows_acknowledged a s = c.acknowledge-ordinal.ensures.rows in
    let b : c.stored-before.result - c.stored.result ≡ new_bytes a (s.forward + 1) s.rows =
    omega (arith, c.stored-before.ensures, c.stored.ensures, acked_bytes a s.sent (s.forward + 1) s.rows k.rows, ap (λ (xs : List Row). sum_by stored_of xs) e) in
    subst (λ (f : Flow). c.stored-before.result - c.stored.result ≡ new_bytes a (f.sender.forward + 1) f.sender.rows) c.self.view_is b

pub returns-clause-lost : goal.returns-clause-lost
returns-clause-lost c =
    let i = c.self.inside in
    let s = sender_of i.forward i.rows.rows i.waiting i.finish i.sent i.upto i.told i.notice i.order in
    let k : Steady s = c.self.invariant.0 in
    let a = told c.args.blocks c.args.upto c.args.spans in
    let g : greatest a.upto a.spans ≤ s.sent = omega (arith, c.greatest-greatest.ensures, c.if-greatest-self.false) in
    let e : c.acknowledge-ordinal.new.rows.rows ≡ rows_acknowledged a s = c.acknowledge-ordinal.ensures.rows in
    let to : c.sent_rows-to.result ≡ s.sent - s.forward = c.sent_rows-to.ensures.count ∙ ap (λ (f : Flow). f.sender.sent - f.sender.forward) (sym c.self.view_is) in
    let rows : c.count_acks-lost.new.rows.rows ≡ rows_told a s = counted_rows a s c.acknowledge-ordinal.result c.sent_rows-to.result c.acknowledge-ordinal.new.rows.rows c.count_acks-lost.new.rows.rows k g e c.acknowledge-ordinal.ensures.ordinal to c.count_acks-lost.ensures.rows in
    subst (λ (f : Flow). c.count_acks-lost.result ≡ makes_lost a f.sender) c.self.view_is
    (counted_lost a s c.acknowledge-ordinal.result c.sent_rows-to.result c.acknowledge-ordinal.new.rows.rows c.count_acks-lost.result k g e c.acknowledge-ordinal.ensures.ordinal to c.count_acks-lost.ensures.lost)

pub returns-clause-ok : goal.returns-clause-ok
returns-clause-ok c =
    let i = c.self.inside in
    let s = sender_of i.forward i.rows.rows i.waiting i.finish i.sent i.upto i.told i.notice i.order in
    let k : Steady s = c.self.invariant.0 in
    let a = told c.args.blocks c.args.upto c.args.spans in
    let g : greatest a.upto a.spans ≤ s.sent = omega (arith, c.greatest-greatest.ensures, c.if-greatest-self.false) in
    let e : c.acknowledge-ordinal.new.rows.rows ≡ rows_acknowledged a s = c.acknowledge-ordinal.ensures.rows in
    let to : c.sent_rows-to.result ≡ s.sent - s.forward = c.sent_rows-to.ensures.count ∙ ap (λ (f : Flow). f.sender.sent - f.sender.forward) (sym c.self.view_is) in
    let rows : c.count_acks-lost.new.rows.rows ≡ rows_told a s = counted_rows a s c.acknowledge-ordinal.result c.sent_rows-to.result c.acknowledge-ordinal.new.rows.rows c.count_acks-lost.new.rows.rows k g e c.acknowledge-ordinal.ensures.ordinal to c.count_acks-lost.ensures.rows in
    let count : c.settle.result ≡ settled_front c.count_acks-lost.new.rows.rows = c.settle.ensures.count ∙ ap (λ (q : Roomy). settled_front q.rows) c.drop_done.ensures.same in
    let left : c.settle.new.self.rows ≡ drop (settled_front c.count_acks-lost.new.rows.rows) c.count_acks-lost.new.rows.rows = c.settle.ensures.rows ∙ ap (λ (q : Roomy). drop (settled_front q.rows) q.rows) c.drop_done.ensures.same in
    let is = told_eq a s c.count_acks-lost.new.rows.rows c.settle.new.self.rows (i.forward + c.settle.result) c.drop_done.new.self rows (ap (λ j. i.forward + j) count) left c.drop_done.ensures.left in
    let F : Sender → Flow = λ v. record { id = i.id; options = Rattle.rtmfp_forms.specs.OptionReading.options_in i.options.items; priority = i.priority; sender = v } in
    let v : Sender = sender_of (i.forward + c.settle.result) c.settle.new.self.rows c.drop_done.new.self i.finish i.sent c.args.upto (Some c.args.blocks) i.notice i.order in
    subst (λ (f : Flow). F v ≡ with_sender f (told_by a f.sender)) c.self.view_is (ap F is)
