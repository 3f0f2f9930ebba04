use Rattle.std.proofs.Common.{sym, subst, ap, ◌∙◌, ◌≡◌, None}
use Rattle.std.specs.FinMap.{get}
use Rattle.glare_core.specs.Ledger.{noted}
use Rattle.startup.specs.State.{StartupState}
use Rattle.startup.specs.Rows.{state_of, IsStartup}
use Rattle.startup.specs.Attempts.{after_begin}
use Rattle.startup.proofs.Startups.{begun_state, begun_is_kept, begun_attempt_is}
use Rattle.startup.proofs.startup.Startup.begin.Goals as goal

pub invariant_of-self : goal.invariant_of-self
invariant_of-self c =
    let i = c.self.inside in
    subst (λ a. IsStartup i.cert i.print i.cookies i.peers a i.kept.keyings) (sym c.reserve.ensures.attempts) c.self.invariant

pub invariant_of-self-2 : goal.invariant_of-self-2
invariant_of-self-2 c =
    let i = c.self.inside in
    let s : StartupState = state_of i.cert i.cookies i.peers i.attempts.attempts i.kept.keyings in
    let free : get i.attempts.attempts c.args.near ≡ None = ap (λ (t : StartupState). get t.attempts c.args.near) c.self.view_is ∙ c.requires.free in
    begun_is_kept i.cert i.print i.cookies i.peers i.attempts.attempts i.kept.keyings c.self.invariant c.args.epd.now.print c.args.ni c.args.tag c.args.candidates.now c.args.near c.args.moment
    free (sym c.start_refusal.ensures ∙ c.in-None.is) _
    (begun_attempt_is s c.args.epd.now.print c.args.candidates.now c.args.near c.args.ni c.args.tag c.args.moment _ _ c.start.new.self c.in-Ok-start.fact c.started.ensures.started c.in-Ok-start.ensures.ok.1 c.in-Ok-start.ensures.ok.0 c.distinct_candidates-to.ensures.distinct)
    c.start.new.self (c.in-Ok-start.ensures.ok.1 ∙ ap (noted i.peers) c.in-Ok-start.ensures.ok.0)
    c.reserve.new.self.attempts c.keep.new.self.attempts c.reserve.ensures.attempts c.keep.ensures

pub keep-requires-clause-free : goal.keep-requires-clause-free
keep-requires-clause-free c = ap (λ a. get a c.args.near) c.reserve.ensures.attempts ∙ ap (λ (t : StartupState). get t.attempts c.args.near) c.self.view_is ∙ c.requires.free

pub returns-clause-after : goal.returns-clause-after
returns-clause-after c =
    let i = c.self.inside in
    let s : StartupState = state_of i.cert i.cookies i.peers i.attempts.attempts i.kept.keyings in
    let free : get i.attempts.attempts c.args.near ≡ None = ap (λ (t : StartupState). get t.attempts c.args.near) c.self.view_is ∙ c.requires.free in
    begun_state i.cert i.print i.cookies i.peers i.attempts.attempts i.kept.keyings c.self.invariant c.args.epd.now.print c.args.ni c.args.tag c.args.candidates.now c.args.near c.args.moment
    free (sym c.start_refusal.ensures ∙ c.in-None.is) _
    (begun_attempt_is s c.args.epd.now.print c.args.candidates.now c.args.near c.args.ni c.args.tag c.args.moment _ _ c.start.new.self c.in-Ok-start.fact c.started.ensures.started c.in-Ok-start.ensures.ok.1 c.in-Ok-start.ensures.ok.0 c.distinct_candidates-to.ensures.distinct)
    c.start.new.self (c.in-Ok-start.ensures.ok.1 ∙ ap (noted i.peers) c.in-Ok-start.ensures.ok.0)
    c.reserve.new.self.attempts c.keep.new.self.attempts c.reserve.ensures.attempts c.keep.ensures
    ∙ ap (λ (t : StartupState). after_begin t c.args.epd.now.print c.args.candidates.now c.args.near c.args.ni c.args.tag c.args.moment) c.self.view_is
