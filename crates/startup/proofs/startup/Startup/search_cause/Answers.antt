use Rattle.std.proofs.Common.{◌≡◌, ◌∙◌, true, false, List, ℕ, sym, ap}
use Rattle.std.specs.Prelude.{drop}
use Rattle.std.specs.Str.{bytes_eq}
use Rattle.glare_core.specs.Ledger.{held_with}
use Rattle.startup.specs.State.{StartupState}
use Rattle.startup.specs.Rows.{state_of}
use Rattle.startup.specs.Attempts.{held_cause, spent_cause, is_own}
use Rattle.startup.proofs.Greeted.{other_print, unheld, search_held, search_spent}
use Rattle.startup.proofs.startup.Startup.search_cause.Goals as goal

pub spent_cause-requires-clause-other : goal.spent_cause-requires-clause-other
spent_cause-requires-clause-other c =
    let i = c.self.inside in
    let s : StartupState = state_of i.cert i.cookies i.peers i.attempts.attempts i.kept.keyings in
    let other : is_own s c.args.cert.now ≡ false = ap (λ (t : StartupState). is_own t c.args.cert.now) c.self.view_is ∙ sym c.is_own.ensures ∙ c.if-is_own.false in
    ap (λ (p : List ℕ). bytes_eq p i.peers.own) c.requires ∙ other_print s c.args.cert.now c.self.invariant.sound.own other

pub spent_cause-requires-clause-unheld : goal.spent_cause-requires-clause-unheld
spent_cause-requires-clause-unheld c = unheld _ (sym c.held_cause.ensures ∙ c.in-None.is)

pub returns-in-Some : goal.returns-in-Some
returns-in-Some c =
    let s : StartupState = c.args.self.now in
    let named : bytes_eq c.args.name.now (drop 16 c.args.cert.now) ≡ true = ap (λ (n : List ℕ). bytes_eq n (drop 16 c.args.cert.now)) (sym c.bytes.ensures.bytes) ∙ sym c.has_name.ensures ∙ c.if-not-has_name.false in
    let other : is_own s c.args.cert.now ≡ false = sym c.is_own.ensures ∙ c.if-is_own.false in
    let held_is = ap (λ (t : StartupState). held_cause (held_with t.ledger c.args.print.now)) (sym c.self.view_is) ∙ sym c.held_cause.ensures ∙ c.in-Some.is in
    sym (search_held s c.args.name.now c.args.cert.now c.in-Some.cause named other (ap (λ (p : List ℕ). held_cause (held_with s.ledger p)) (sym c.requires) ∙ held_is))

pub returns-in-None : goal.returns-in-None
returns-in-None c =
    let s : StartupState = c.args.self.now in
    let named : bytes_eq c.args.name.now (drop 16 c.args.cert.now) ≡ true = ap (λ (n : List ℕ). bytes_eq n (drop 16 c.args.cert.now)) (sym c.bytes.ensures.bytes) ∙ sym c.has_name.ensures ∙ c.if-not-has_name.false in
    let other : is_own s c.args.cert.now ≡ false = sym c.is_own.ensures ∙ c.if-is_own.false in
    let held_is = ap (λ (t : StartupState). held_cause (held_with t.ledger c.args.print.now)) (sym c.self.view_is) ∙ sym c.held_cause.ensures ∙ c.in-None.is in
    c.spent_cause.ensures ∙ ap (λ (t : StartupState). spent_cause t.ledger c.args.print.now) c.self.view_is ∙ ap (λ (p : List ℕ). spent_cause s.ledger p) c.requires
    ∙ sym (search_spent s c.args.name.now c.args.cert.now named other (ap (λ (p : List ℕ). held_cause (held_with s.ledger p)) (sym c.requires) ∙ held_is))
