-- What an end keeps is what its log says.
use Rattle.std.proofs.Common.{ℕ, ◌≡◌, List, [], true, false, Option, Some, None, inl, inr, refl, sym, ap, subst, ◌∙◌, arith}
use Rattle.std.specs.FinMap.{get}
use Rattle.glare_core.specs.declared.facts.Held.{Held}
use Rattle.glare_core.specs.declared.facts.Held.TheVariants.{Opening as AttemptHeld}
use Rattle.glare_core.specs.declared.facts.Joined.{Joined}
use Rattle.glare_core.specs.Standing.{held}
use Rattle.glare_core.specs.Things.{near_of}
use Rattle.glare_core.specs.Ledger.{held_with}
use Rattle.glare_core.proofs.Accounts.{reads_held, reads_floor, reads_started, reads_knows, reads_rows}
use Rattle.startup.specs.declared.aim.Aim.{Aim}
use Rattle.startup.specs.declared.aim.Aim.TheVariants.{AtPeer, ByName}
use Rattle.startup.specs.Aims.{IsHeldAs, peer_of_aim}
use Rattle.startup.specs.State.{AttemptState, peer_of_attempt}
use Rattle.session_core.specs.declared.stage.Role.{Role}
use Rattle.session_core.specs.declared.stage.Role.TheVariants.{Initiator, Responder}
use Rattle.session_core.specs.declared.stage.Stage.{Stage}
use Rattle.session_core.specs.declared.stage.Stage.TheVariants.{Opening, Open, NearClose, FarLinger, Closed}
use Rattle.endpoint_model.specs.declared.row.Row.{Row}
use Rattle.endpoint_model.specs.Event.{Setup}
use Rattle.endpoint_laws.specs.Past.{Past, Search, facts_of, past_of, last_moment}
use Rattle.endpoint_model.specs.State.{State}
use Rattle.endpoint_laws.specs.OfTheLog.{IsOfAim, IsThing, IsClosingStage, AttemptIsThere, SearchIsThere, SessionStands, SessionIsThere, ClosingIsThere, IsOfTheLog, TheStateIsOfTheLog}
use Rattle.endpoint_laws.proofs.Tied.{Tied, WasStartedAs, IsKeptIn, StageFits, IsClosedThing, thing_of, found_in}
use Rattle.endpoint_laws.proofs.Agrees.{found_row}
use Rattle.endpoint_laws.proofs.Chunked.{either_way}
use Rattle.session_core.specs.Closing.{is_held}
use Rattle.endpoint_laws.specs.Contexts.{Secrets}
use Rattle.endpoint_laws.proofs.Succeeding.{secrets_of_log}
use Rattle.endpoint_laws.proofs.Logged.{log_is}

is_thing : (role : Role) (stage : Stage) (j : Joined) → StageFits role stage → is_held stage ≡ true → IsThing role stage j (thing_of role stage j)
is_thing Initiator Opening j fits e = fits
is_thing Initiator Open j fits e = refl
is_thing Initiator NearClose j fits e = absurd (cc)
is_thing Initiator FarLinger j fits e = absurd (cc)
is_thing Initiator Closed j fits e = fits
is_thing Responder Opening j fits e = refl
is_thing Responder Open j fits e = refl
is_thing Responder NearClose j fits e = absurd (cc)
is_thing Responder FarLinger j fits e = absurd (cc)
is_thing Responder Closed j fits e = fits

closing_stage : (role : Role) (stage : Stage) → StageFits role stage → is_held stage ≡ false → IsClosingStage stage
closing_stage Initiator Opening fits e = absurd fits
closing_stage Initiator Open fits e = absurd (cc)
closing_stage Initiator NearClose fits e = tt
closing_stage Initiator FarLinger fits e = tt
closing_stage Initiator Closed fits e = absurd fits
closing_stage Responder Opening fits e = absurd (cc)
closing_stage Responder Open fits e = absurd (cc)
closing_stage Responder NearClose fits e = tt
closing_stage Responder FarLinger fits e = tt
closing_stage Responder Closed fits e = absurd fits

n_in : ℕ → Option Held → ℕ
n_in other (Some (AttemptHeld n near ni)) = n
n_in other held = other

ni_in : List ℕ → Option Held → List ℕ
ni_in other (Some (AttemptHeld n near ni)) = ni
ni_in other held = other

same_n : (n n' near near' : ℕ) (ni ni' : List ℕ) → Some (AttemptHeld n near ni) ≡ Some (AttemptHeld n' near' ni') → n ≡ n'
unfolding n_in
same_n n n' near near' ni ni' e = ap (n_in n) e

same_ni : (n n' near near' : ℕ) (ni ni' : List ℕ) → Some (AttemptHeld n near ni) ≡ Some (AttemptHeld n' near' ni') → ni ≡ ni'
unfolding ni_in
same_ni n n' near near' ni ni' e = ap (ni_in ni) e

module _ (secrets : Secrets) (setup : Setup) (past : Past) (s : State) (tied : Tied secrets setup past s) where
  holds : (q : List ℕ) → held_with s.startup.ledger q ≡ held q (facts_of past)
  holds = reads_held 0 s.startup.ledger (facts_of past) tied.account

  attempt_as : (peer : List ℕ) (n near : ℕ) (ni : List ℕ) (a : AttemptState) (aim : Aim) → a.aim ≡ aim → get s.startup.attempts near ≡ Some a → peer_of_aim aim ≡ Some peer →
      held_with s.startup.ledger peer ≡ Some (AttemptHeld n near ni) → AttemptIsThere s peer n near ni
  attempt_as peer n near ni a (AtPeer q m) aims e is thing =
      let same : q ≡ peer = cc in
      let held_is : held_with s.startup.ledger q ≡ Some (AttemptHeld m near a.ni) = subst (λ (aim : Aim). IsHeldAs s.startup.ledger near a.ni aim) aims (tied.sound.held near a e) in
      let both : Some (AttemptHeld m near a.ni) ≡ Some (AttemptHeld n near ni) = sym held_is ∙ ap (held_with s.startup.ledger) same ∙ thing in
      let number : m ≡ n = same_n m n near near a.ni ni both in
      record { attempt = a; there = e; aim_is = aims ∙ (λ i. AtPeer (same i) (number i)); ni_is = same_ni m n near near a.ni ni both }
  attempt_as peer n near ni a (ByName name) aims e is thing = absurd (cc)

  held_by_log : (near : ℕ) (a : AttemptState) (aim : Aim) → IsHeldAs s.startup.ledger near a.ni aim → WasStartedAs past near a aim → IsOfAim past near a aim
  held_by_log near a (AtPeer peer n) is was = (sym (holds peer) ∙ is, was)
  held_by_log near a (ByName name) is was = was.0

  search_there : (near : ℕ) (which : Search) (at : ℕ) (o : Option AttemptState) → get s.startup.attempts near ≡ o → IsKeptIn o which at → SearchIsThere s near which at
  search_there near which at None e kept = absurd kept
  search_there near which at (Some a) e kept = record { attempt = a; there = e; aim_is = kept.0; tag_is = kept.1; ni_is = kept.2; start_is = kept.3 }

  attempt_there : (peer : List ℕ) (n near : ℕ) (ni : List ℕ) (o : Option AttemptState) → get s.startup.attempts near ≡ o → peer_of_attempt o ≡ Some peer → held_with s.startup.ledger peer ≡ Some (AttemptHeld n near ni) →
      AttemptIsThere s peer n near ni
  attempt_there peer n near ni None e is thing = absurd (cc)
  attempt_there peer n near ni (Some a) e is thing = attempt_as peer n near ni a a.aim refl e is thing

  session_there : (peer : List ℕ) (thing : Held) → found_in (get s.sessions (near_of thing)) ≡ Some (peer, thing) → SessionIsThere s thing
  session_there peer thing e =
      let found = found_row (get s.sessions (near_of thing)) peer thing e in
      let x : Row = found.0 in
      let ties = tied.sessions (near_of thing) x found.1 in
      record { row = x; there = found.1; is = subst (IsThing x.session.role x.session.stage x.session.joined) found.2.thing (is_thing x.session.role x.session.stage x.session.joined ties.stage found.2.held) }

  closing_there : (near : ℕ) (thing : Held) (o : Option Row) → get s.sessions near ≡ o → IsClosedThing o thing → ClosingIsThere s near thing
  closing_there near thing None e closed = absurd closed
  closing_there near thing (Some x) e closed =
      let ties = tied.sessions near x e in
      record { row = x; there = e; stage = closing_stage x.session.role x.session.stage ties.stage closed.0; is = closed.1 }

  stands : (near : ℕ) (x : Row) → get s.sessions near ≡ Some x → SessionStands past near x.session
  stands near x e =
      let ties = tied.sessions near x e in
      elim (either_way (is_held x.session.stage)) [
        | inl h ↦
            inl (thing_of x.session.role x.session.stage x.session.joined, is_thing x.session.role x.session.stage x.session.joined ties.stage h, sym (holds x.session.joined.peer) ∙ ties.thing h)
        | inr c ↦
            let closed = ties.closed c in
            inr (closing_stage x.session.role x.session.stage ties.stage c, (closed.thing, closed.at, closed.was, closed.closing))
      ]

  of_the_log : (now : ℕ) → s.moment ≡ now → IsOfTheLog setup s now past
  of_the_log now at = record {
    moment = at;
    ids = tied.used;
    uses_are = tied.count;
    attempts = λ near a e. held_by_log near a a.aim (tied.sound.held near a e) (tied.started near a e);
    searches_there = λ near which at there. search_there near which at (get s.startup.attempts near) refl (tied.searching near which at there);
    attempts_there = λ peer n near ni e. let thing = holds peer ∙ e in attempt_there peer n near ni (get s.startup.attempts near) refl (tied.sound.there peer n near ni thing) thing;
    sessions = λ near x e. let ties = tied.sessions near x e in record { stands = stands near x e; id = ties.id; own = ties.own };
    sessions_there = λ peer thing e is. session_there peer thing (tied.there peer thing (holds peer ∙ e) is);
    closing_there = λ near thing at c. closing_there near thing (get s.sessions near) refl (tied.closing near thing at c);
    held_is = holds;
    floor_is = reads_floor 0 s.startup.ledger (facts_of past) tied.account;
    row_is = reads_knows 0 s.startup.ledger (facts_of past) tied.account;
    rows_are = reads_rows 0 s.startup.ledger (facts_of past) tied.account;
    count_is = omega (arith, reads_started 0 s.startup.ledger (facts_of past) tied.account);
  }

pub state_of_log : TheStateIsOfTheLog
state_of_log setup log s is calls stands =
    let map = secrets_of_log setup log s stands in
    let said = log_is map.0 setup log s map.1 is calls stands in
    of_the_log map.0 setup (past_of 0 [] log) s said.holds.tied (last_moment 0 log) said.moment
