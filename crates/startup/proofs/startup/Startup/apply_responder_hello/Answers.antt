use Rattle.std.proofs.Common.{ℕ, List, ◌≡◌, ◌+◌, Some, ap, subst, ◌∙◌, refl, sym}
use Rattle.std.specs.FinMap.{get}
use Rattle.sha2.specs.Sha256.{sha256}
use Rattle.rtmfp_forms.specs.Address.{AddressParts}
use Rattle.startup.specs.declared.attempt.Stage.TheVariants.{Keying}
use Rattle.startup.specs.declared.answer.Answer.{Answer}
use Rattle.glare_core.specs.declared.facts.Fact.{Fact}
use Rattle.startup.specs.State.{AttemptState, StartupState}
use Rattle.startup.specs.Attempts.{answered, keying_towards, with_attempt}
use Rattle.startup.proofs.Choices.{got_is, never_none}
use Rattle.startup.proofs.Greeted.{greeted_starts, has_it, search_after, search_fact, search_keying, towards_after, towards_fact, towards_keying}
use Rattle.startup.proofs.Keeping.{peer_fits}
use Rattle.startup.proofs.Startups.{changed_is_kept, changed_state}
use Rattle.startup.proofs.startup.Startup.apply_responder_hello.Goals as goal

pub unreachable-requires : goal.unreachable-requires
unreachable-requires c =
    let i = c.self.inside in
    let s : StartupState = c.args.self.now in
    let near : ℕ = c.args.greeting.now.found.near in
    let found = c.requires.greeted.1.1.found in
    never_none found.attempt (get i.attempts.attempts near) c.in_default.ensures (ap (λ (t : StartupState). get t.attempts near) c.self.view_is ∙ found.there)

-- ---- an attempt

pub invariant_of-self : goal.invariant_of-self
invariant_of-self c =
    let i = c.self.inside in
    let s : StartupState = c.args.self.now in
    let near : ℕ = c.args.greeting.now.found.near in
    let found = c.requires.greeted.1.1.found in
    let there : get i.attempts.attempts near ≡ Some found.attempt = ap (λ (t : StartupState). get t.attempts near) c.self.view_is ∙ found.there in
    let same : c.in-Some.attempt.now ≡ found.attempt = got_is i.attempts.attempts near c.in-Some.attempt.now found.attempt (sym c.in-Some.ensures) there in
    let inner : c.attempt.inside.aim ≡ found.attempt.aim = ap (λ (x : AttemptState). x.aim) (c.attempt.view_is ∙ same) in
    changed_is_kept i.cert i.print i.cookies i.peers i.attempts.attempts i.kept.keyings c.self.invariant near found.attempt there
    (λ a. answered a c.args.from.now c.args.cookie.now c.args.moment c.args.under.now) c.change.new.self.attempts c.change.ensures (record { aim = λ a. refl; ni = λ a. refl })
    (peer_fits found.attempt.aim c.in-AtPeer.peer c.in-AtPeer.n (Keying c.args.from.now c.args.cookie.now c.args.under.now) (sym inner ∙ c.in-AtPeer.is))

pub returns-in-AtPeer-clause-fact : goal.returns-in-AtPeer-clause-fact
returns-in-AtPeer-clause-fact c chosen found =
    let i = c.self.inside in
    let s : StartupState = c.args.self.now in
    let near : ℕ = c.args.greeting.now.found.near in
    let there : get i.attempts.attempts near ≡ Some found.attempt = ap (λ (t : StartupState). get t.attempts near) c.self.view_is ∙ found.there in
    let same : c.in-Some.attempt.now ≡ found.attempt = got_is i.attempts.attempts near c.in-Some.attempt.now found.attempt (sym c.in-Some.ensures) there in
    let inner : c.attempt.inside.aim ≡ found.attempt.aim = ap (λ (x : AttemptState). x.aim) (c.attempt.view_is ∙ same) in
    sym (towards_fact s c.args.greeting.now.print c.args.greeting.now.found chosen found c.in-AtPeer.peer c.in-AtPeer.n (sym inner ∙ c.in-AtPeer.is))

pub returns-in-AtPeer-clause-answer : goal.returns-in-AtPeer-clause-answer
returns-in-AtPeer-clause-answer c chosen found =
    let i = c.self.inside in
    let s : StartupState = c.args.self.now in
    let near : ℕ = c.args.greeting.now.found.near in
    let there : get i.attempts.attempts near ≡ Some found.attempt = ap (λ (t : StartupState). get t.attempts near) c.self.view_is ∙ found.there in
    let same : c.in-Some.attempt.now ≡ found.attempt = got_is i.attempts.attempts near c.in-Some.attempt.now found.attempt (sym c.in-Some.ensures) there in
    let inner : c.attempt.inside.aim ≡ found.attempt.aim = ap (λ (x : AttemptState). x.aim) (c.attempt.view_is ∙ same) in
    towards_keying s c.args.greeting.now.print c.args.greeting.now.found chosen found c.in-AtPeer.peer c.in-AtPeer.n (sym inner ∙ c.in-AtPeer.is) c.args.from.now c.args.cookie.now c.args.under.now
    ∙ ap (λ (x : Answer). Some x) (sym (c.keying_towards-answer.ensures ∙ ap (λ (x : AttemptState). keying_towards s near x.ni c.in-AtPeer.peer c.in-AtPeer.n c.args.from.now c.args.cookie.now c.args.under.now) (c.attempt.view_is ∙ same)))

pub returns-in-AtPeer-clause-after : goal.returns-in-AtPeer-clause-after
returns-in-AtPeer-clause-after c chosen found =
    let i = c.self.inside in
    let s : StartupState = c.args.self.now in
    let near : ℕ = c.args.greeting.now.found.near in
    let there : get i.attempts.attempts near ≡ Some found.attempt = ap (λ (t : StartupState). get t.attempts near) c.self.view_is ∙ found.there in
    let same : c.in-Some.attempt.now ≡ found.attempt = got_is i.attempts.attempts near c.in-Some.attempt.now found.attempt (sym c.in-Some.ensures) there in
    let inner : c.attempt.inside.aim ≡ found.attempt.aim = ap (λ (x : AttemptState). x.aim) (c.attempt.view_is ∙ same) in
    changed_state i.cert i.print i.cookies i.peers i.attempts.attempts i.kept.keyings c.self.invariant near found.attempt there
    (λ a. answered a c.args.from.now c.args.cookie.now c.args.moment c.args.under.now) c.change.new.self.attempts c.change.ensures
    ∙ ap (λ (t : StartupState). with_attempt t near (answered found.attempt c.args.from.now c.args.cookie.now c.args.moment c.args.under.now)) c.self.view_is
    ∙ sym (towards_after s c.args.greeting.now.print c.args.greeting.now.found chosen found c.in-AtPeer.peer c.in-AtPeer.n (sym inner ∙ c.in-AtPeer.is) c.args.from.now c.args.cookie.now c.args.moment c.args.under.now)

-- ---- a search

pub start_search-requires-clause-search : goal.start_search-requires-clause-search
start_search-requires-clause-search c =
    let i = c.self.inside in
    let s : StartupState = c.args.self.now in
    let near : ℕ = c.args.greeting.now.found.near in
    let found = c.requires.greeted.1.1.found in
    let there : get i.attempts.attempts near ≡ Some found.attempt = ap (λ (t : StartupState). get t.attempts near) c.self.view_is ∙ found.there in
    let same : c.in-Some.attempt.now ≡ found.attempt = got_is i.attempts.attempts near c.in-Some.attempt.now found.attempt (sym c.in-Some.ensures) there in
    let inner : c.attempt.inside.aim ≡ found.attempt.aim = ap (λ (x : AttemptState). x.aim) (c.attempt.view_is ∙ same) in
    has_it s c.args.greeting.now.print c.args.greeting.now.found c.requires.greeted.0 found c.in-ByName.name (sym inner ∙ c.in-ByName.is)

pub start_search-requires-clause-free : goal.start_search-requires-clause-free
start_search-requires-clause-free c =
    let i = c.self.inside in
    let s : StartupState = c.args.self.now in
    let near : ℕ = c.args.greeting.now.found.near in
    let found = c.requires.greeted.1.1.found in
    let there : get i.attempts.attempts near ≡ Some found.attempt = ap (λ (t : StartupState). get t.attempts near) c.self.view_is ∙ found.there in
    let same : c.in-Some.attempt.now ≡ found.attempt = got_is i.attempts.attempts near c.in-Some.attempt.now found.attempt (sym c.in-Some.ensures) there in
    let inner : c.attempt.inside.aim ≡ found.attempt.aim = ap (λ (x : AttemptState). x.aim) (c.attempt.view_is ∙ same) in
    greeted_starts s c.args.greeting.now c.requires.greeted.0 c.requires.greeted.1.0 c.in-ByName.name c.requires.greeted.1.1
    (subst (λ (t : StartupState). t.ledger.own ≡ sha256 t.cert) c.self.view_is c.self.invariant.sound.own) (sym inner ∙ c.in-ByName.is)

pub returns-in-Ok-clause-fact : goal.returns-in-Ok-clause-fact
returns-in-Ok-clause-fact c chosen found =
    let i = c.self.inside in
    let s : StartupState = c.args.self.now in
    let near : ℕ = c.args.greeting.now.found.near in
    let there : get i.attempts.attempts near ≡ Some found.attempt = ap (λ (t : StartupState). get t.attempts near) c.self.view_is ∙ found.there in
    let same : c.in-Some.attempt.now ≡ found.attempt = got_is i.attempts.attempts near c.in-Some.attempt.now found.attempt (sym c.in-Some.ensures) there in
    let inner : c.attempt.inside.aim ≡ found.attempt.aim = ap (λ (x : AttemptState). x.aim) (c.attempt.view_is ∙ same) in
    ap (λ (f : Fact). Some f) (c.in-Ok.ensures.fact found.attempt found.there)
    ∙ sym (search_fact s c.args.greeting.now.print c.args.greeting.now.found chosen found c.in-ByName.name (sym inner ∙ c.in-ByName.is))

pub returns-in-Ok-clause-after : goal.returns-in-Ok-clause-after
returns-in-Ok-clause-after c chosen found =
    let i = c.self.inside in
    let s : StartupState = c.args.self.now in
    let near : ℕ = c.args.greeting.now.found.near in
    let there : get i.attempts.attempts near ≡ Some found.attempt = ap (λ (t : StartupState). get t.attempts near) c.self.view_is ∙ found.there in
    let same : c.in-Some.attempt.now ≡ found.attempt = got_is i.attempts.attempts near c.in-Some.attempt.now found.attempt (sym c.in-Some.ensures) there in
    let inner : c.attempt.inside.aim ≡ found.attempt.aim = ap (λ (x : AttemptState). x.aim) (c.attempt.view_is ∙ same) in
    c.in-Ok.ensures.after found.attempt found.there
    ∙ sym (search_after s c.args.greeting.now.print c.args.greeting.now.found chosen found c.in-ByName.name (sym inner ∙ c.in-ByName.is) c.args.from.now c.args.cookie.now c.args.moment c.args.under.now)

pub returns-in-Ok-clause-answer : goal.returns-in-Ok-clause-answer
returns-in-Ok-clause-answer c chosen found =
    let i = c.self.inside in
    let s : StartupState = c.args.self.now in
    let near : ℕ = c.args.greeting.now.found.near in
    let print : List ℕ = c.args.greeting.now.print in
    let from : AddressParts = c.args.from.now in
    let cookie : List ℕ = c.args.cookie.now in
    let there : get i.attempts.attempts near ≡ Some found.attempt = ap (λ (t : StartupState). get t.attempts near) c.self.view_is ∙ found.there in
    let same : c.in-Some.attempt.now ≡ found.attempt = got_is i.attempts.attempts near c.in-Some.attempt.now found.attempt (sym c.in-Some.ensures) there in
    let inner : c.attempt.inside.aim ≡ found.attempt.aim = ap (λ (x : AttemptState). x.aim) (c.attempt.view_is ∙ same) in
    let left = c.in-Ok.ensures.after found.attempt found.there in
    let next : c.started-n.result ≡ s.ledger.started + 1 = c.started-n.ensures.started ∙ ap (λ (t : StartupState). t.ledger.started) (c.self-in-ByName.view_is ∙ left) in
    search_keying s print c.args.greeting.now.found chosen found c.in-ByName.name (sym inner ∙ c.in-ByName.is) from cookie c.args.under.now
    ∙ ap (λ (x : Answer). Some x) (sym (c.keying_towards-answer-in-ByName.ensures
    ∙ ap (λ (t : StartupState). keying_towards t near c.attempt.inside.ni print c.started-n.result from cookie c.args.under.now) left
    ∙ ap (λ (n : ℕ). keying_towards s near c.attempt.inside.ni print n from cookie c.args.under.now) next
    ∙ ap (λ (x : AttemptState). keying_towards s near x.ni print (s.ledger.started + 1) from cookie c.args.under.now) (c.attempt.view_is ∙ same)))
