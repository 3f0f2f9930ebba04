use Rattle.std.proofs.Common.{◌≡◌, ℕ, ◌+◌, List, [], ◌∷◌, ◌++◌, length, None, refl, ap, sym, ◌∙◌, subst, arith, append_assoc}
use Rattle.std.specs.List.{sum_by}
use Rattle.std.proofs.lemmas.List.Sums.{sum_by-cons, sum_by-append}
use Rattle.rtmfp_data_chunks.specs.Fragments.{Message, fragments_of_length}
use Rattle.rtmfp_forms.specs.OptionReading.{options_in}
use Rattle.flow_send.specs.declared.waiting.Waiting.{Waiting}
use Rattle.flow_send.specs.Rows.{Row, stored_of}
use Rattle.flow_send.specs.Sender.{sender_of, Sender, next_of, rows_of, waiting_of, queued}
use Rattle.flow_send.specs.Steady.{Steady, Line, end_of, line_end}
use Rattle.flow_send.specs.Flow.{Flow, queue_refusal, next_message, with_sender}
use Rattle.flow_send.proofs.Steadies.{steady_queued}
use Rattle.flow_send.proofs.Queuings.{rows_stored, allowed}
use Rattle.flow_send.proofs.Followed.{held}
use Rattle.flow_send.proofs.Keepings.{held_marks, same_marks, same_follows}
use Rattle.flow_send.proofs.sender.FlowSender.hold.Goals as goal
use Rattle.flow_send.proofs.sender.FlowSender.hold.Goals.{After-append}

pub push-requires-2-clause-fits : goal.push-requires-2-clause-fits
push-requires-2-clause-fits c =
    let m : Message = record { number = 0; bytes = c.args.message.now } in
    let pieces = c.in_ok-pieces.pieces in
    let few = rows_stored m 0 c.fragments_of-count.result in
    let left = ap (λ (rs : List Row). sum_by stored_of rs) c.reserve.ensures.rows in
    let right = ap (λ (rs : List Row). sum_by stored_of rs) (c.in_ok-pieces.ensures.rows 0) in
    omega (arith, c.stored.ensures, few, left, right, sum_by-cons stored_of pieces.first pieces.more.items, c.if-size-stored.false)

pub append-requires-clause-fits : goal.append-requires-clause-fits
append-requires-clause-fits c =
    let m : Message = record { number = 0; bytes = c.args.message.now } in
    let pieces = c.in_ok-pieces.pieces in
    let few = rows_stored m 0 c.fragments_of-count.result in
    let left = ap (λ (rs : List Row). sum_by stored_of rs) c.reserve.ensures.rows in
    let right = ap (λ (rs : List Row). sum_by stored_of rs) (c.in_ok-pieces.ensures.rows 0) in
    let pushed = ap (λ (rs : List Row). sum_by stored_of rs) c.push-2.ensures.rows in
    omega (arith, c.stored.ensures, few, left, right, pushed, sum_by-append stored_of c.reserve.new.self.rows (pieces.first ∷ []), sum_by-cons stored_of pieces.first pieces.more.items, sum_by-cons stored_of pieces.first [], c.if-size-stored.false)

abbrev At : After-append → Sender
At c = let i = c.self.inside in sender_of i.forward i.rows.rows i.waiting i.finish i.sent i.upto i.told i.notice i.order

after : (c : After-append) → sender_of c.self.inside.forward c.append.new.self.rows c.push.new.self c.self.inside.finish c.self.inside.sent c.self.inside.upto c.self.inside.told c.self.inside.notice c.self.inside.order ≡ queued (next_message (At c) c.args.message.now) c.args.options (At c)
after c =
    let i = c.self.inside in
    let s = At c in
    let m = next_message s c.args.message.now in
    let pieces = c.in_ok-pieces.pieces in
    let number : c.args.number ≡ next_of s = c.requires.number ∙ ap (λ (f : Flow). next_of f.sender) (sym c.self.view_is) in
    let count : c.fragments_of-count.result ≡ fragments_of_length (length c.args.message.now) = c.fragments_of-count.ensures in
    let rows : c.append.new.self.rows ≡ i.rows.rows ++ rows_of m m.number (fragments_of_length (length c.args.message.now)) =
    c.append.ensures.rows ∙ (ap (λ (rs : List Row). rs ++ pieces.more.items) (c.push-2.ensures.rows ∙ ap (λ (rs : List Row). rs ++ pieces.first ∷ []) c.reserve.ensures.rows)
    ∙ (append_assoc i.rows.rows (pieces.first ∷ []) pieces.more.items ∙ (ap (λ (rs : List Row). i.rows.rows ++ rs) (c.in_ok-pieces.ensures.rows (next_of s)) ∙ ap (λ k. i.rows.rows ++ rows_of m m.number k) count))) in
    let W : ℕ → ℕ → Waiting = λ n k. record { number = n; count = k; size = length c.args.message.now; options = c.args.options } in
    let waiting : c.push.new.self ≡ i.waiting ++ waiting_of m c.args.options ∷ [] = c.in_ok-push.ensures.pushed ∙ (ap (λ k. i.waiting ++ W k c.fragments_of-count.result ∷ []) number ∙ ap (λ k. i.waiting ++ W (next_of s) k ∷ []) count) in
    ap (λ (rs : List Row). sender_of i.forward rs c.push.new.self i.finish i.sent i.upto i.told i.notice i.order) rows
    ∙ ap (λ (ws : List Waiting). sender_of i.forward (i.rows.rows ++ rows_of m m.number (fragments_of_length (length c.args.message.now))) ws i.finish i.sent i.upto i.told i.notice i.order) waiting

rows_after : (c : After-append) → let m = next_message (At c) c.args.message.now in c.append.new.self.rows ≡ c.self.inside.rows.rows ++ rows_of m m.number (fragments_of_length (length c.args.message.now))
rows_after c = ap (λ (t : Sender). t.rows) (after c)

pub invariant_of-self-2 : goal.invariant_of-self-2
invariant_of-self-2 c =
    let s = At c in
    let a = allowed s (length c.args.message.now) (subst (λ (f : Flow). queue_refusal f.sender (length c.args.message.now) ≡ None) (sym c.self.view_is) c.requires.allowed) in (
      subst Steady (sym (after c)) (steady_queued s c.args.message.now c.args.options c.self.invariant.0 a.unfinished a.bytes a.fragments a.numbers),
      c.self.invariant.1,
      λ none. omega (arith, c.append.ensures.room, c.push-2.ensures.room, c.in_ok-reserve.ensures.room, c.len.ensures),
      held (record c.self.inside.sendings { room = c.reserve-2.new.self.room }) c.reserve-2.new.self (c.self.inside.forward + 1) c.self.inside.rows.rows c.append.new.self.rows (next_message s c.args.message.now) (fragments_of_length (length c.args.message.now)) c.reserve-2.ensures.kept (rows_after c) c.self.invariant.3,
      held_marks c.self.inside.marks c.make_for.new.self c.self.inside.waiting c.push.new.self (record { number = c.args.number; count = c.fragments_of-count.result; size = length c.args.message.now; options = c.args.options }) c.self.inside.sent (c.self.inside.forward + 1) c.self.inside.rows.rows c.append.new.self.rows (next_message s c.args.message.now) (fragments_of_length (length c.args.message.now))
          c.make_for.ensures c.in_ok-push.ensures.pushed (rows_after c) c.self.invariant.0.rows (let k = c.self.invariant.0.below in let n : c.args.number ≡ next_of s = c.requires.number ∙ ap (λ (f : Flow). next_of f.sender) (sym c.self.view_is) in omega (arith, k, n)) c.self.invariant.4,
    )

pub invariant_of-self-in_err-make_for : goal.invariant_of-self-in_err-make_for
invariant_of-self-in_err-make_for c =
    let i = c.self.inside in
    let e = c.reserve.ensures.rows in
    let n = i.forward + 1 in (
      subst (λ (rs : List Row). Steady (sender_of i.forward rs i.waiting i.finish i.sent i.upto i.told i.notice i.order)) (sym e) c.self.invariant.0,
      c.self.invariant.1,
      λ none. let a = c.self.invariant.2 none in omega (arith, a, c.reserve.ensures.kept),
      same_follows i.sendings i.sendings n i.rows.rows c.reserve.new.self.rows refl e c.self.invariant.3,
      same_marks i.marks c.make_for.new.self i.waiting i.waiting n i.rows.rows c.reserve.new.self.rows c.make_for.ensures refl e c.self.invariant.4,
    )

pub invariant_of-self-in_err-reserve-2 : goal.invariant_of-self-in_err-reserve-2
invariant_of-self-in_err-reserve-2 c =
    let i = c.self.inside in
    let e = c.reserve.ensures.rows in
    let n = i.forward + 1 in (
      subst (λ (rs : List Row). Steady (sender_of i.forward rs i.waiting i.finish i.sent i.upto i.told i.notice i.order)) (sym e) c.self.invariant.0,
      c.self.invariant.1,
      λ none. let a = c.self.invariant.2 none in omega (arith, a, c.reserve.ensures.kept),
      same_follows (record i.sendings { room = c.reserve-2.new.self.room }) c.reserve-2.new.self n i.rows.rows c.reserve.new.self.rows c.reserve-2.ensures.kept e c.self.invariant.3,
      same_marks i.marks c.make_for.new.self i.waiting i.waiting n i.rows.rows c.reserve.new.self.rows c.make_for.ensures refl e c.self.invariant.4,
    )

pub invariant_of-self-in_err-push : goal.invariant_of-self-in_err-push
invariant_of-self-in_err-push c =
    let i = c.self.inside in
    let e = c.reserve.ensures.rows in
    let n = i.forward + 1 in (
      subst (λ (ws : List Waiting). Steady (sender_of i.forward c.reserve.new.self.rows ws i.finish i.sent i.upto i.told i.notice i.order)) (sym c.in_err-push.ensures.err) (subst (λ (rs : List Row). Steady (sender_of i.forward rs i.waiting i.finish i.sent i.upto i.told i.notice i.order)) (sym e) c.self.invariant.0),
      c.self.invariant.1,
      λ none. let a = c.self.invariant.2 none in omega (arith, a, c.reserve.ensures.kept),
      same_follows (record i.sendings { room = c.reserve-2.new.self.room }) c.reserve-2.new.self n i.rows.rows c.reserve.new.self.rows c.reserve-2.ensures.kept e c.self.invariant.3,
      same_marks i.marks c.make_for.new.self i.waiting c.push.new.self n i.rows.rows c.reserve.new.self.rows c.make_for.ensures c.in_err-push.ensures.err e c.self.invariant.4,
    )

pub returns-clause-queued : goal.returns-clause-queued
returns-clause-queued c =
    let i = c.self.inside in
    let F : Sender → Flow = λ t. record { id = i.id; options = options_in i.options.items; priority = i.priority; sender = t } in
    subst (λ (f : Flow). F (sender_of i.forward c.append.new.self.rows c.push.new.self i.finish i.sent i.upto i.told i.notice i.order) ≡ with_sender f (queued (next_message f.sender c.args.message.now) c.args.options f.sender)) c.self.view_is (ap F (after c))

pub push-requires-clause-last : goal.push-requires-clause-last
push-requires-clause-last c =
    let i = c.self.inside in
    let s = sender_of i.forward i.rows.rows i.waiting i.finish i.sent i.upto i.told i.notice i.order in
    let a = allowed s (length c.args.message.now) (subst (λ (f : Flow). queue_refusal f.sender (length c.args.message.now) ≡ None) (sym c.self.view_is) c.requires.allowed) in
    let number : c.args.number ≡ next_of s = c.requires.number ∙ ap (λ (f : Flow). next_of f.sender) (sym c.self.view_is) in
    let end : end_of s ≡ c.args.number = ap (λ o. line_end o (next_of s)) a.unfinished ∙ sym number in
    subst (λ n. Line 0 n i.waiting) end c.self.invariant.0.line
