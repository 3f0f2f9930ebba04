use Rattle.std.proofs.Common.{◌∙◌, List, ℕ, sym, ap}
use Rattle.crypto_profile.specs.declared.group.GroupSecret.{GroupSecret}
use Rattle.startup.specs.Answers.{group_of}
use Rattle.startup.specs.Attempts.{lowest, has_tag, answer_fact, answer_keying, after_answer}
use Rattle.startup.proofs.startup.Startup.responder_hello.Goals as goal

pub apply_responder_hello-requires-clause-greeted : goal.apply_responder_hello-requires-clause-greeted
apply_responder_hello-requires-clause-greeted c = (lowest (has_tag c.args.tag.now) c.args.self.now.attempts, (c.args.cert.now, c.in-Ok.ensures.greeted))

pub returns-in-Ok-apply_responder_hello-clause-fact : goal.returns-in-Ok-apply_responder_hello-clause-fact
returns-in-Ok-apply_responder_hello-clause-fact c =
    let s = c.args.self.now in
    let chosen = lowest (has_tag c.args.tag.now) s.attempts in
    c.in-Ok-apply_responder_hello.ensures.fact chosen c.in-Ok.ensures.greeted.found ∙ ap (λ (p : List ℕ). answer_fact s p chosen) c.in-Ok.ensures.greeted.print

pub returns-in-Ok-apply_responder_hello-clause-answer : goal.returns-in-Ok-apply_responder_hello-clause-answer
returns-in-Ok-apply_responder_hello-clause-answer c =
    let s = c.args.self.now in
    let chosen = lowest (has_tag c.args.tag.now) s.attempts in
    ap (λ (p : List ℕ). answer_keying s p chosen c.args.from.now c.args.cookie.now (group_of c.args.generation c.args.secret.now)) (sym c.in-Ok.ensures.greeted.print) ∙ ap (λ (g : GroupSecret). answer_keying s c.in-Ok.greeting.print chosen c.args.from.now c.args.cookie.now g) (sym c.of-under.ensures) ∙ c.in-Ok-apply_responder_hello.ensures.answer chosen c.in-Ok.ensures.greeted.found

pub returns-in-Ok-apply_responder_hello-clause-after : goal.returns-in-Ok-apply_responder_hello-clause-after
returns-in-Ok-apply_responder_hello-clause-after c =
    let s = c.args.self.now in
    let chosen = lowest (has_tag c.args.tag.now) s.attempts in
    c.in-Ok-apply_responder_hello.ensures.after chosen c.in-Ok.ensures.greeted.found
    ∙ ap (λ (g : GroupSecret). after_answer s c.in-Ok.greeting.print chosen c.args.from.now c.args.cookie.now c.args.moment g) c.of-under.ensures ∙ ap (λ (p : List ℕ). after_answer s p chosen c.args.from.now c.args.cookie.now c.args.moment (group_of c.args.generation c.args.secret.now)) c.in-Ok.ensures.greeted.print
