use Rattle.std.proofs.Common.{ℕ, ◌≡◌, ap, ◌∙◌, None}
use Rattle.std.specs.FinMap.{insert}
use Rattle.glare_core.specs.declared.facts.Joined.{Joined}
use Rattle.glare_core.specs.declared.answers.Heard.TheVariants.{Birth}
use Rattle.glare_core.specs.declared.answers.Keying.{Keying}
use Rattle.glare_core.specs.Ledger.{Ledger, held_with}
use Rattle.glare_core.specs.Calls.{heard, heard_noted}
use Rattle.startup.specs.State.{StartupState}
use Rattle.startup.specs.Rows.{state_of}
use Rattle.startup.specs.Keyings.{repeated_session, opening_id, without, session_answer, kept_keying, born_session}
use Rattle.startup.proofs.Stepping.{born_is_kept_sound, born_is_birth, gone_is_opening}
use Rattle.startup.proofs.startup.Startup.bear.Goals as goal

pub invariant_of-self-in-Ok-bear : goal.invariant_of-self-in-Ok-bear
invariant_of-self-in-Ok-bear c =
    let i = c.self.inside in
    let s : StartupState = state_of i.cert i.cookies i.peers i.attempts.attempts i.kept.keyings in
    let keying : Keying = c.args.keying.now in
    let fresh : repeated_session (held_with s.ledger keying.peer) keying ≡ None =
    ap (λ (t : StartupState). repeated_session (held_with t.ledger keying.peer) keying) c.self.view_is ∙ c.requires.fresh in
    let gone : c.attempt_gone-attempt.result ≡ opening_id (held_with s.ledger keying.peer) =
    c.attempt_gone-attempt.ensures ∙ gone_is_opening s keying c.args.near c.args.nr c.in-Ok-bear.ended c.in-Ok-bear.born fresh c.in-Ok-bear.ensures.ok.0 in
    let session : ℕ → Joined = λ k. record { peer = keying.peer; n = keying.n; near = c.args.near; far = keying.far; ni = keying.ni; nr = c.args.nr; k = k } in
    let put : c.put.new.self.keyings ≡ insert s.kept keying.peer (kept_keying s (born_session s.ledger keying c.args.near c.args.nr) c.args.under.now) =
    c.put.ensures ∙ (λ j. insert (c.reserve.ensures.keyings j) keying.peer ((c.kept_keying-kept.ensures ∙ ap (λ k. kept_keying s (session k) c.args.under.now) c.started.ensures.started) j)) in
    record {
      print_is = c.self.invariant.print_is;
      sound = born_is_kept_sound s keying c.args.near c.args.nr c.args.under.now (Birth c.in-Ok-bear.ended c.in-Ok-bear.born) c.bear.new.self c.forget.new.attempts.attempts c.put.new.self.keyings
          c.self.invariant.sound fresh c.in-Ok-bear.ensures.ok.0 c.in-Ok-bear.ensures.ok.1 (c.forget.ensures ∙ ap (without s.attempts) gone) put;
    }

pub returns-in-Ok-bear-clause-ok : goal.returns-in-Ok-bear-clause-ok
returns-in-Ok-bear-clause-ok c =
    let s : StartupState = c.args.self.now in
    let keying : Keying = c.args.keying.now in
    let ledger_is : c.self.inside.peers ≡ s.ledger = ap (λ (t : StartupState). t.ledger) c.self.view_is in
    let attempts_are : c.self.inside.attempts.attempts ≡ s.attempts = ap (λ (t : StartupState). t.attempts) c.self.view_is in
    let heard_is : Birth c.in-Ok-bear.ended c.in-Ok-bear.born ≡ heard s.ledger keying c.args.near c.args.nr =
    c.in-Ok-bear.ensures.ok.0 ∙ ap (λ (l : Ledger). heard l keying c.args.near c.args.nr) ledger_is in
    let noted_is : c.bear.new.self ≡ heard_noted s.ledger (heard s.ledger keying c.args.near c.args.nr) =
    c.in-Ok-bear.ensures.ok.1 ∙ (λ i. heard_noted (ledger_is i) (heard_is i)) in
    let gone : c.attempt_gone-attempt.result ≡ opening_id (held_with s.ledger keying.peer) =
    c.attempt_gone-attempt.ensures
    ∙ gone_is_opening s keying c.args.near c.args.nr c.in-Ok-bear.ended c.in-Ok-bear.born c.requires.fresh heard_is in
    let left_is : c.forget.new.attempts.attempts ≡ without s.attempts (opening_id (held_with s.ledger keying.peer)) =
    c.forget.ensures ∙ (λ i. without (attempts_are i) (gone i)) in
    let count : c.started.result ≡ s.ledger.started = c.started.ensures.started ∙ ap (λ (l : Ledger). l.started) ledger_is in
    let session : ℕ → Joined = λ k. record { peer = keying.peer; n = keying.n; near = c.args.near; far = keying.far; ni = keying.ni; nr = c.args.nr; k = k } in
    let kept_is : c.kept_keying-kept.result ≡ kept_keying s (session c.started.result) c.args.under.now =
    c.kept_keying-kept.ensures ∙ ap (λ (t : StartupState). kept_keying t (session c.started.result) c.args.under.now) c.self.view_is in
    let put : c.put.new.self.keyings ≡ insert s.kept keying.peer (kept_keying s (born_session s.ledger keying c.args.near c.args.nr) c.args.under.now) =
    c.put.ensures ∙ (λ i. insert ((c.reserve.ensures.keyings ∙ ap (λ (t : StartupState). t.kept) c.self.view_is) i) keying.peer ((kept_is ∙ ap (λ k. kept_keying s (session k) c.args.under.now) count) i)) in
    let told : c.kept_answer-answer.result ≡ session_answer s (born_session s.ledger keying c.args.near c.args.nr) c.args.from.now c.args.under.now =
    c.kept_answer-answer.ensures.born c.args.under.now c.kept_keying-kept.ensures
    ∙ ap (λ (t : StartupState). session_answer t (session c.started.result) c.args.from.now c.args.under.now) c.self.view_is
    ∙ ap (λ k. session_answer s (session k) c.args.from.now c.args.under.now) count in (
      born_is_birth s keying c.args.from.now c.args.near c.args.nr c.args.under.now c.in-Ok-bear.ended c.in-Ok-bear.born c.kept_answer-answer.result c.requires.fresh heard_is told,
      λ i. record (c.self.view_is i) { ledger = noted_is i; attempts = left_is i; kept = put i },
    )
