-- The state agrees with what was done, the account of the ledger aside; and what is kept of that when one thing changes.
use Rattle.std.proofs.Common.{◌≡◌, ℕ, ◌≤◌, ◌<◌, ◌^◌, List, Bool, true, false, if◌then◌else◌, Option, Some, None, is_some, ◌||◌, inl, inr, refl, sym, ap, subst, ◌∙◌}
use Rattle.std.specs.FinMap.{get}
use Rattle.sha2.specs.Sha256.{sha256}
use Rattle.glare_core.specs.declared.facts.Joined.{Joined}
use Rattle.glare_core.specs.declared.facts.Held.{Held}
use Rattle.glare_core.specs.declared.facts.Held.TheVariants.{Opening as OpeningHeld, HalfOpen, KeptAsResponder, KeptAsInitiator}
use Rattle.glare_core.specs.Things.{IsSession, near_of}
use Rattle.glare_core.specs.Ledger.{held_with, row_count}
use Rattle.glare_core.specs.Standing.{count}
use Rattle.glare_core.specs.Account.{StandsFor}
use Rattle.rtmfp_base.proofs.Maps.{none_is_some, same_or_not}
use Rattle.startup.specs.declared.aim.Aim.{Aim}
use Rattle.startup.specs.declared.aim.Aim.TheVariants.{AtPeer, ByName}
use Rattle.startup.specs.Aims.{IsHeldAs, peer_of_aim}
use Rattle.startup.specs.State.{AttemptState, FitsStage, peer_of_attempt}
use Rattle.session_core.specs.declared.stage.Role.{Role}
use Rattle.session_core.specs.declared.stage.Role.TheVariants.{Initiator, Responder}
use Rattle.session_core.specs.declared.stage.Stage.{Stage}
use Rattle.session_core.specs.declared.stage.Stage.TheVariants.{Opening, Open, NearClose, FarLinger, Closed}
use Rattle.session_core.specs.Session.{SessionState}
use Rattle.session_core.specs.Closing.{is_held}
use Rattle.endpoint_model.specs.declared.row.Row.{Row}
use Rattle.endpoint_model.specs.Event.{Setup, own_of}
use Rattle.endpoint_laws.specs.Past.{Stamped, Search, facts_of, ids_in_use, IsClosing, IsSearch, WasDone, Past, current_of, next_of}
use Rattle.endpoint_model.specs.State.{State, is_used}
use Rattle.endpoint_laws.proofs.Matching.{Found, of_peer, of_some, Matches, Ids}
use Rattle.endpoint_laws.proofs.Tied.{Tied, search_of, WasStartedAs, IsKeptIn, AreBy, StageFits, IsClosed, IsClosedThing, thing_of, held_of, found_in, HasKeys}
use Rattle.endpoint_laws.specs.Contexts.{Secrets, BegunUnder}
use Rattle.endpoint_laws.specs.Groups.{number_in}
use Rattle.endpoint_laws.proofs.Kin.{HoldsSecrets}
use Rattle.endpoint_laws.proofs.Begun.{born_thing, KeepsBegun}

-- what an attempt is, with its peer; a search is nothing that is held
abbrev pub found_as : ℕ → List ℕ → Aim → Found
found_as near ni (AtPeer peer n) = Some (peer, OpeningHeld n near ni)
found_as near ni (ByName name) = None

-- what stands under a session ID, with its peer
abbrev pub combined : ℕ → Option AttemptState → Option Row → Found
combined near (Some a) o = found_as near a.ni a.aim
combined near None o = found_in o

abbrev pub thing_at : State → ℕ → Found
thing_at s near = combined near (get s.startup.attempts near) (get s.sessions near)

-- The session under this session ID is one of this end.
pub record IsOurs (secrets : Secrets) (setup : Setup) (past : Past) (near : ℕ) (session : SessionState) : Type 0 where
  pub id : session.joined.near ≡ near
  pub own : session.own ≡ own_of setup
  pub known : HasKeys secrets session
  pub begun : BegunUnder secrets setup (born_thing session.role session.joined) session.generation past
  pub stage : StageFits session.role session.stage
  pub closed : is_held session.stage ≡ false → IsClosed past near session

-- what was given at the beginning, and the secrets of the group
pub record IsGiven (secrets : Secrets) (setup : Setup) (past : Past) (s : State) : Type 0 where
  pub config : s.config ≡ setup.config
  pub cert : s.startup.cert ≡ setup.cert
  pub holds : HoldsSecrets secrets s
  pub current : s.group.generation ≡ current_of setup past
  pub next : number_in s.next ≡ next_of past
  pub cookie_secret : s.startup.cookie_secret ≡ setup.cookie_secret
  pub own : s.startup.ledger.own ≡ own_of setup
  pub max_peers : s.startup.ledger.max_peers ≡ setup.config.max_peers

abbrev pub WasStarted : Past → ℕ → AttemptState → Type 0
WasStarted past near a = WasStartedAs past near a a.aim

-- what was started stays so where all that was done stays so, and a search goes on
pub started_still : (past now : Past) (near : ℕ) (a : AttemptState) (aim : Aim) → ((x : Stamped) → WasDone x past → WasDone x now) →
    ((which : Search) (at : ℕ) → IsSearch near which at past → IsSearch near which at now) → WasStartedAs past near a aim → WasStartedAs now near a aim
started_still past now near a (AtPeer peer n) done on was = done _ was
started_still past now near a (ByName name) done on was = (on (search_of name a) a.start was.0, was.1, was.2)

-- What closes by what was done is closing under its session ID.
abbrev pub ClosesAt : Past → ℕ → Option Row → Type 0
ClosesAt past near o = (thing : Held) (at : ℕ) → IsClosing near thing at past → IsClosedThing o thing

-- A search is kept under its session ID.
abbrev pub SearchesAt : Past → ℕ → Option AttemptState → Type 0
SearchesAt past near o = (which : Search) (at : ℕ) → IsSearch near which at past → IsKeptIn o which at

pub record Agrees (secrets : Secrets) (setup : Setup) (past : Past) (s : State) : Type 0 where
  pub given : IsGiven secrets setup past s
  pub matches : Matches (thing_at s) (held_with s.startup.ledger)
  pub ours : (near : ℕ) (row : Row) → get s.sessions near ≡ Some row → IsOurs secrets setup past near row.session
  pub closing : (near : ℕ) → ClosesAt past near (get s.sessions near)
  pub apart : (near : ℕ) (a : AttemptState) → get s.startup.attempts near ≡ Some a → get s.sessions near ≡ None
  pub started : (near : ℕ) (a : AttemptState) → get s.startup.attempts near ≡ Some a → WasStarted past near a
  pub searching : (near : ℕ) → SearchesAt past near (get s.startup.attempts near)
  pub stages : (near : ℕ) (a : AttemptState) → get s.startup.attempts near ≡ Some a → FitsStage a.aim a.stage
  pub ids : Ids setup.config.max_sessions (ids_in_use past) s
  pub by_now : AreBy s.moment past
  pub rows : row_count s.startup.ledger ≤ setup.config.max_peers

-- ---- both ways between this and the whole

pub near_of_session : (role : Role) (stage : Stage) (j : Joined) → near_of (thing_of role stage j) ≡ j.near
near_of_session Initiator stage j = refl
near_of_session Responder Opening j = refl
near_of_session Responder Open j = refl
near_of_session Responder NearClose j = refl
near_of_session Responder FarLinger j = refl
near_of_session Responder Closed j = refl

pub is_session : (role : Role) (stage : Stage) (j : Joined) → IsSession (thing_of role stage j)
is_session Initiator stage j = tt
is_session Responder Opening j = tt
is_session Responder Open j = tt
is_session Responder NearClose j = tt
is_session Responder FarLinger j = tt
is_session Responder Closed j = tt

not_opening : (h : Held) (n near : ℕ) (ni : List ℕ) → IsSession h → h ≡ OpeningHeld n near ni → ⊥
not_opening h n near ni is e = subst IsSession e is

-- what is held for a session is the thing that it is, and then it is held
held_if : (b : Bool) (thing h : Held) → ◌≡◌ {A = Option Held} (if b then Some thing else None) (Some h) → (b ≡ true) × (thing ≡ h)
held_if true thing h e = (refl, let same : thing ≡ h = cc in same)
held_if false thing h e = absurd (cc)

pub held_in : (session : SessionState) (h : Held) → held_of session ≡ Some h → (is_held session.stage ≡ true) × (thing_of session.role session.stage session.joined ≡ h)
held_in session h e = held_if (is_held session.stage) (thing_of session.role session.stage session.joined) h e

-- what is found of a session with its peer
pub record IsFoundIn (row : Row) (p : List ℕ) (h : Held) : Type 0 where
  pub peer : row.session.joined.peer ≡ p
  pub held : is_held row.session.stage ≡ true
  pub thing : thing_of row.session.role row.session.stage row.session.joined ≡ h

pub in_row : (row : Row) (p : List ℕ) (h : Held) → found_in (Some row) ≡ Some (p, h) → IsFoundIn row p h
in_row row p h e =
    let both = of_some row.session.joined.peer (held_of row.session) p h e in
    let is = held_in row.session h both.1 in
    record { peer = both.0; held = is.0; thing = is.1 }

-- it is there
pub found_row : (o : Option Row) (p : List ℕ) (h : Held) → found_in o ≡ Some (p, h) → (row : Row) × (o ≡ Some row) × IsFoundIn row p h
found_row None p h e = absurd (cc)
found_row (Some row) p h e = (row, refl, in_row row p h e)

pub held_row_is : (row : Row) → is_held row.session.stage ≡ true → found_in (Some row) ≡ Some (row.session.joined.peer, thing_of row.session.role row.session.stage row.session.joined)
held_row_is row e = ap (λ (b : Bool). of_peer row.session.joined.peer (if b then Some (thing_of row.session.role row.session.stage row.session.joined) else None)) e

pub closing_row_is : (row : Row) → is_held row.session.stage ≡ false → found_in (Some row) ≡ None
closing_row_is row e = ap (λ (b : Bool). of_peer row.session.joined.peer (if b then Some (thing_of row.session.role row.session.stage row.session.joined) else None)) e

pub found_of_attempt : (s : State) (near : ℕ) (a : AttemptState) → get s.startup.attempts near ≡ Some a → thing_at s near ≡ found_as near a.ni a.aim
found_of_attempt s near a e = ap (λ (o : Option AttemptState). combined near o (get s.sessions near)) e

-- where it is towards a peer
pub found_of_peer : (s : State) (near : ℕ) (a : AttemptState) (peer : List ℕ) (n : ℕ) → get s.startup.attempts near ≡ Some a → a.aim ≡ AtPeer peer n → thing_at s near ≡ Some (peer, OpeningHeld n near a.ni)
found_of_peer s near a peer n e aims = found_of_attempt s near a e ∙ ap (found_as near a.ni) aims

pub found_at : (s : State) (near : ℕ) (row : Row) → get s.startup.attempts near ≡ None → get s.sessions near ≡ Some row → thing_at s near ≡ found_in (Some row)
found_at s near row none e = ap (λ (o : Option AttemptState). combined near o (get s.sessions near)) none ∙ ap found_in e

pub found_of_session : (s : State) (near : ℕ) (row : Row) → get s.startup.attempts near ≡ None → get s.sessions near ≡ Some row → is_held row.session.stage ≡ true →
    thing_at s near ≡ Some (row.session.joined.peer, thing_of row.session.role row.session.stage row.session.joined)
found_of_session s near row none e held = found_at s near row none e ∙ held_row_is row held

-- under the session ID of a session there is no attempt
pub no_attempt : (s : State) (near : ℕ) (row : Row) → ((a : AttemptState) → get s.startup.attempts near ≡ Some a → get s.sessions near ≡ None) →
    get s.sessions near ≡ Some row → get s.startup.attempts near ≡ None
no_attempt s near row apart e = go (get s.startup.attempts near) refl
  where
    go : (o : Option AttemptState) → get s.startup.attempts near ≡ o → get s.startup.attempts near ≡ None
    go None is = is
    go (Some a) is = absurd (none_is_some row (get s.sessions near) (apart a is) e)

-- what is found is an attempt or a session
peer_of_found : (near : ℕ) (oa : Option AttemptState) (os : Option Row) (peer : List ℕ) (h : Held) → combined near oa os ≡ Some (peer, h) →
    (((n m : ℕ) (ni : List ℕ) → h ≡ OpeningHeld n m ni → peer_of_attempt oa ≡ Some peer) × (IsSession h → found_in os ≡ Some (peer, h)))
peer_of_found near (Some a) os peer h e = by a.aim e
  where
    by : (aim : Aim) → found_as near a.ni aim ≡ Some (peer, h) → (((n m : ℕ) (ni : List ℕ) → h ≡ OpeningHeld n m ni → peer_of_aim aim ≡ Some peer) × (IsSession h → found_in os ≡ Some (peer, h)))
    by (AtPeer q number) e =
        let same : (q, OpeningHeld number near a.ni) ≡ (peer, h) = cc in
        let p : q ≡ peer = ap (λ (x : List ℕ × Held). x.0) same in
        let t : OpeningHeld number near a.ni ≡ h = ap (λ (x : List ℕ × Held). x.1) same in
        ((λ n m ni is. ap (λ (x : List ℕ). Some x) p), (λ is. absurd (not_opening h number near a.ni is (sym t))))
    by (ByName name) e = absurd (cc)
peer_of_found near None os peer h e = (
  (λ n m ni is.
      let found = found_row os peer h e in
      let row : Row = found.0 in
      absurd (not_opening (thing_of row.session.role row.session.stage row.session.joined) n m ni (is_session row.session.role row.session.stage row.session.joined) (found.2.thing ∙ is))),
  (λ is. e),
)

-- an attempt that is found is held as what it aims at
held_of_found : (s : State) → Matches (thing_at s) (held_with s.startup.ledger) → (near : ℕ) (ni : List ℕ) (aim : Aim) → thing_at s near ≡ found_as near ni aim → IsHeldAs s.startup.ledger near ni aim
held_of_found s matches near ni (AtPeer peer n) found = (matches.found near peer (OpeningHeld n near ni) found).0
held_of_found s matches near ni (ByName name) found = tt

pub tied_of : (secrets : Secrets) (setup : Setup) (past : Past) (s : State) → Agrees secrets setup past s → StandsFor 0 s.startup.ledger (facts_of past) → count (facts_of past) < 2 ^ 64 → Tied secrets setup past s
tied_of secrets setup past s a account few = record {
  config = a.given.config;
  cert = a.given.cert;
  holds = a.given.holds;
  current = a.given.current;
  next = a.given.next;
  cookie_secret = a.given.cookie_secret;
  own = a.given.own;
  max_peers = a.given.max_peers;
  account = account;
  sound = record {
    own = a.given.own ∙ ap sha256 (sym a.given.cert);
    held = λ near b e. held_of_found s a.matches near b.ni b.aim (found_of_attempt s near b e);
    stages = a.stages;
    there = λ peer n near ni e.
        (peer_of_found near (get s.startup.attempts near) (get s.sessions near) peer (OpeningHeld n near ni) (a.matches.there peer (OpeningHeld n near ni) e)).0 n near ni refl;
  };
  sessions = λ near row e.
      let ours = a.ours near row e in
      record {
        id = ours.id;
        own = ours.own;
        known = ours.known;
        begun = ours.begun;
        stage = ours.stage;
        thing = λ held.
            (a.matches.found near row.session.joined.peer (thing_of row.session.role row.session.stage row.session.joined) (found_of_session s near row (no_attempt s near row (a.apart near) e) e held)).0;
        closed = ours.closed;
      };
  there = λ peer thing e is.
      (peer_of_found (near_of thing) (get s.startup.attempts (near_of thing)) (get s.sessions (near_of thing)) peer thing (a.matches.there peer thing e)).1 is;
  closing = a.closing;
  apart = a.apart;
  started = a.started;
  searching = a.searching;
  used = a.ids.used;
  count = a.ids.count;
  once = a.ids.once;
  not_zero = a.ids.not_zero;
  by_now = a.by_now;
  within = a.ids.within;
  rows = a.rows;
  few = few;
}

found_is : (secrets : Secrets) (setup : Setup) (past : Past) (s : State) → Tied secrets setup past s → (near : ℕ) (oa : Option AttemptState) (os : Option Row) →
    get s.startup.attempts near ≡ oa → get s.sessions near ≡ os → (p : List ℕ) (h : Held) → combined near oa os ≡ Some (p, h) →
    (held_with s.startup.ledger p ≡ Some h) × (near_of h ≡ near)
found_is secrets setup past s t near (Some a) os ea es p h e = by a.aim (t.sound.held near a ea) e
  where
    by : (aim : Aim) → IsHeldAs s.startup.ledger near a.ni aim → found_as near a.ni aim ≡ Some (p, h) → (held_with s.startup.ledger p ≡ Some h) × (near_of h ≡ near)
    by (AtPeer q n) is e =
        let same : (q, OpeningHeld n near a.ni) ≡ (p, h) = cc in
        (subst (λ (x : List ℕ × Held). (held_with s.startup.ledger x.0 ≡ Some x.1) × (near_of x.1 ≡ near)) same (is, refl))
    by (ByName name) is e = absurd (cc)
found_is secrets setup past s t near None os ea es p h e =
    let found = found_row os p h e in
    let row : Row = found.0 in
    let is = t.sessions near row (es ∙ found.1) in
    let held : held_with s.startup.ledger p ≡ Some h =
    ap (held_with s.startup.ledger) (sym found.2.peer) ∙ is.thing found.2.held ∙ ap (λ (x : Held). Some x) found.2.thing in
    (held, ap near_of (sym found.2.thing) ∙ near_of_session row.session.role row.session.stage row.session.joined ∙ is.id)

attempt_there : (secrets : Secrets) (setup : Setup) (past : Past) (s : State) → Tied secrets setup past s → (peer : List ℕ) (n near : ℕ) (ni : List ℕ) → held_with s.startup.ledger peer ≡ Some (OpeningHeld n near ni) →
    thing_at s near ≡ Some (peer, OpeningHeld n near ni)
attempt_there secrets setup past s t peer n near ni e = go (get s.startup.attempts near) refl (t.sound.there peer n near ni e)
  where
    by_aim : (a : AttemptState) (aim : Aim) → a.aim ≡ aim → get s.startup.attempts near ≡ Some a → peer_of_aim aim ≡ Some peer → thing_at s near ≡ Some (peer, OpeningHeld n near ni)
    by_aim a (AtPeer q m) aims is at =
        let p : q ≡ peer = cc in
        let held_is : held_with s.startup.ledger q ≡ Some (OpeningHeld m near a.ni) = subst (λ (aim : Aim). IsHeldAs s.startup.ledger near a.ni aim) aims (t.sound.held near a is) in
        let both : Some (OpeningHeld m near a.ni) ≡ Some (OpeningHeld n near ni) = sym held_is ∙ ap (held_with s.startup.ledger) p ∙ e in
        found_of_peer s near a q m is aims ∙ ap (λ (x : List ℕ). Some (x, OpeningHeld m near a.ni)) p ∙ ap (of_peer peer) both
    by_aim a (ByName name) aims is at = absurd (cc)

    go : (o : Option AttemptState) → get s.startup.attempts near ≡ o → peer_of_attempt o ≡ Some peer → thing_at s near ≡ Some (peer, OpeningHeld n near ni)
    go None is at = absurd (cc)
    go (Some a) is at = by_aim a a.aim refl is at

session_there : (secrets : Secrets) (setup : Setup) (past : Past) (s : State) → Tied secrets setup past s → (peer : List ℕ) (thing : Held) → held_with s.startup.ledger peer ≡ Some thing → IsSession thing →
    thing_at s (near_of thing) ≡ Some (peer, thing)
session_there secrets setup past s t peer thing e sess =
    let found = t.there peer thing e sess in
    let row = found_row (get s.sessions (near_of thing)) peer thing found in
    ap (λ (o : Option AttemptState). combined (near_of thing) o (get s.sessions (near_of thing))) (no_attempt s (near_of thing) row.0 (t.apart (near_of thing)) row.1) ∙ found

held_there : (secrets : Secrets) (setup : Setup) (past : Past) (s : State) → Tied secrets setup past s → (peer : List ℕ) (thing : Held) → held_with s.startup.ledger peer ≡ Some thing →
    thing_at s (near_of thing) ≡ Some (peer, thing)
held_there secrets setup past s t peer (OpeningHeld n near ni) e = attempt_there secrets setup past s t peer n near ni e
held_there secrets setup past s t peer (HalfOpen j) e = session_there secrets setup past s t peer (HalfOpen j) e tt
held_there secrets setup past s t peer (KeptAsResponder j) e = session_there secrets setup past s t peer (KeptAsResponder j) e tt
held_there secrets setup past s t peer (KeptAsInitiator j) e = session_there secrets setup past s t peer (KeptAsInitiator j) e tt

pub agrees_of : (secrets : Secrets) (setup : Setup) (past : Past) (s : State) → Tied secrets setup past s → Agrees secrets setup past s
agrees_of secrets setup past s t = record {
  given = record { config = t.config; cert = t.cert; holds = t.holds; current = t.current; next = t.next; cookie_secret = t.cookie_secret; own = t.own; max_peers = t.max_peers };
  matches = record {
    found = λ near p h e. found_is secrets setup past s t near (get s.startup.attempts near) (get s.sessions near) refl refl p h e;
    there = held_there secrets setup past s t;
  };
  ours = λ near row e. let is = t.sessions near row e in record { id = is.id; own = is.own; known = is.known; begun = is.begun; stage = is.stage; closed = is.closed };
  closing = t.closing;
  apart = t.apart;
  started = t.started;
  searching = t.searching;
  stages = t.sound.stages;
  ids = record { used = t.used; count = t.count; once = t.once; not_zero = t.not_zero; within = t.within };
  by_now = t.by_now;
  rows = t.rows;
}

-- ---- nothing closes where something is held, or nothing stands

clash : (b : Bool) → b ≡ true → b ≡ false → ⊥
clash b p q = let e : true ≡ false = sym p ∙ q in cc

-- under the session ID of what is held nothing closes
pub none_closes : (secrets : Secrets) (setup : Setup) (past : Past) (s : State) → Agrees secrets setup past s → (near : ℕ) (p : List ℕ) (h : Held) → thing_at s near ≡ Some (p, h) → (thing : Held) (at : ℕ) → IsClosing near thing at past → ⊥
none_closes secrets setup past s a near p h is thing at c = by (get s.startup.attempts near) refl (get s.sessions near) refl (a.closing near thing at c)
  where
    in_session : (o : Option Row) → found_in o ≡ Some (p, h) → IsClosedThing o thing → ⊥
    in_session None e closed = closed
    in_session (Some row) e closed = clash (is_held row.session.stage) (in_row row p h e).held closed.0

    by : (oa : Option AttemptState) → get s.startup.attempts near ≡ oa → (os : Option Row) → get s.sessions near ≡ os → IsClosedThing os thing → ⊥
    by (Some b) ea None es closed = closed
    by (Some b) ea (Some row) es closed = none_is_some row (get s.sessions near) (a.apart near b ea) es
    by None ea os es closed = in_session os (sym (ap (λ (o : Option AttemptState). combined near o os) ea) ∙ ap (combined near (get s.startup.attempts near)) (sym es) ∙ is) closed

-- nor is there a search

none_kept : (near : ℕ) (oa : Option AttemptState) (os : Option Row) (p : List ℕ) (h : Held) → combined near oa os ≡ Some (p, h) → (which : Search) (at : ℕ) → IsKeptIn oa which at → ⊥
none_kept near None os p h e which at kept = kept
none_kept near (Some a) os p h e which at kept = let clash : ◌≡◌ {A = Found} None (Some (p, h)) = sym (ap (found_as near a.ni) kept.0) ∙ e in cc

pub none_searches : (secrets : Secrets) (setup : Setup) (past : Past) (s : State) → Agrees secrets setup past s → (near : ℕ) (p : List ℕ) (h : Held) → thing_at s near ≡ Some (p, h) → (which : Search) (at : ℕ) → IsSearch near which at past → ⊥
none_searches secrets setup past s a near p h is which at there = none_kept near (get s.startup.attempts near) (get s.sessions near) p h is which at (a.searching near which at there)

-- ---- one thing changes

-- what stands under one session ID after a change, all else as before
pub record IsAt (near : ℕ) (oa : Option AttemptState) (os : Option Row) (s t : State) : Type 0 where
  pub attempt : get t.startup.attempts near ≡ oa
  pub session : get t.sessions near ≡ os
  pub attempts : (q : ℕ) → (q ≡ near → ⊥) → get t.startup.attempts q ≡ get s.startup.attempts q
  pub sessions : (q : ℕ) → (q ≡ near → ⊥) → get t.sessions q ≡ get s.sessions q

-- More was done, that begins and ends no closing and no search, and begins no session, but under one session ID.
pub record GoesOnBeside (near : ℕ) (past now : Past) : Type 0 where
  pub done : (x : Stamped) → WasDone x past → WasDone x now
  pub closing : (q : ℕ) → (q ≡ near → ⊥) → (thing : Held) (at : ℕ) → IsClosing q thing at past → IsClosing q thing at now
  pub back : (q : ℕ) → (q ≡ near → ⊥) → (thing : Held) (at : ℕ) → IsClosing q thing at now → IsClosing q thing at past
  pub sought : (q : ℕ) → (q ≡ near → ⊥) → (which : Search) (at : ℕ) → IsSearch q which at past → IsSearch q which at now
  pub before : (q : ℕ) → (q ≡ near → ⊥) → (which : Search) (at : ℕ) → IsSearch q which at now → IsSearch q which at past
  pub begun : (q : ℕ) → (q ≡ near → ⊥) → KeepsBegun q past now

-- an attempt or a session of this end, and not both
abbrev pub Fits : Secrets → Setup → Past → ℕ → Option AttemptState → Option Row → Type 0
Fits secrets setup past near None None = Unit {0}
Fits secrets setup past near None (Some row) = IsOurs secrets setup past near row.session
Fits secrets setup past near (Some a) None = WasStarted past near a × FitsStage a.aim a.stage
Fits secrets setup past near (Some a) (Some row) = ⊥

pub thing_elsewhere : (near : ℕ) (oa : Option AttemptState) (os : Option Row) (s t : State) → IsAt near oa os s t → (q : ℕ) → (q ≡ near → ⊥) → thing_at t q ≡ thing_at s q
thing_elsewhere near oa os s t at q other =
    ap (λ (o : Option AttemptState). combined q o (get t.sessions q)) (at.attempts q other) ∙ ap (combined q (get s.startup.attempts q)) (at.sessions q other)

pub thing_here : (near : ℕ) (oa : Option AttemptState) (os : Option Row) (s t : State) → IsAt near oa os s t → thing_at t near ≡ combined near oa os
thing_here near oa os s t at = ap (λ (o : Option AttemptState). combined near o (get t.sessions near)) at.attempt ∙ ap (combined near oa) at.session

pub used_elsewhere : (near : ℕ) (oa : Option AttemptState) (os : Option Row) (s t : State) → IsAt near oa os s t → (q : ℕ) → (q ≡ near → ⊥) → is_used t q ≡ is_used s q
used_elsewhere near oa os s t at q other =
    ap (λ (o : Option AttemptState). is_some o || is_some (get t.sessions q)) (at.attempts q other) ∙ ap (λ (o : Option Row). is_some (get s.startup.attempts q) || is_some o) (at.sessions q other)

pub used_here : (near : ℕ) (oa : Option AttemptState) (os : Option Row) (s t : State) → IsAt near oa os s t → is_used t near ≡ (is_some oa || is_some os)
used_here near oa os s t at =
    ap (λ (o : Option AttemptState). is_some o || is_some (get t.sessions near)) at.attempt ∙ ap (λ (o : Option Row). is_some oa || is_some o) at.session

fits_session : (secrets : Secrets) (setup : Setup) (past : Past) (near : ℕ) (oa : Option AttemptState) (os : Option Row) (row : Row) → Fits secrets setup past near oa os → os ≡ Some row → IsOurs secrets setup past near row.session
fits_session secrets setup past near oa None row f e = absurd (cc)
fits_session secrets setup past near None (Some x) row f e = let same : x ≡ row = cc in subst (λ (r : Row). IsOurs secrets setup past near r.session) same f
fits_session secrets setup past near (Some a) (Some x) row f e = absurd f

fits_attempt : (secrets : Secrets) (setup : Setup) (past : Past) (near : ℕ) (oa : Option AttemptState) (os : Option Row) (a : AttemptState) → Fits secrets setup past near oa os → oa ≡ Some a → (os ≡ None) × WasStarted past near a × FitsStage a.aim a.stage
fits_attempt secrets setup past near None os a f e = absurd (cc)
fits_attempt secrets setup past near (Some x) None a f e = let same : x ≡ a = cc in (refl, subst (WasStarted past near) same f.0, subst (λ (b : AttemptState). FitsStage b.aim b.stage) same f.1)
fits_attempt secrets setup past near (Some x) (Some row) a f e = absurd f

-- what closes elsewhere goes on
closed_on : (past now : Past) (near q : ℕ) (session : SessionState) → GoesOnBeside near past now → (q ≡ near → ⊥) → IsClosed past q session → IsClosed now q session
closed_on past now near q session more other c = record { thing = c.thing; at = c.at; was = c.was; closing = more.closing q other c.thing c.at c.closing; since = c.since }

pub agrees_changed : (secrets : Secrets) (setup : Setup) (past now : Past) (s t : State) (near : ℕ) (oa : Option AttemptState) (os : Option Row) → Agrees secrets setup past s → IsGiven secrets setup now t → IsAt near oa os s t →
    Matches (thing_at t) (held_with t.startup.ledger) → Fits secrets setup now near oa os → GoesOnBeside near past now → ClosesAt now near os → SearchesAt now near oa →
    Ids setup.config.max_sessions (ids_in_use now) t → AreBy t.moment now → row_count t.startup.ledger ≤ setup.config.max_peers → Agrees secrets setup now t
agrees_changed secrets setup past now s t near oa os a given at matches fits more closes sought ids by_now rows = record {
  given = given;
  matches = matches;
  ours = λ q row e. elim (same_or_not q near) [
    | inl is ↦ subst (λ (k : ℕ). IsOurs secrets setup now k row.session) (sym is.0) (fits_session secrets setup now near oa os row fits (sym at.session ∙ ap (get t.sessions) (sym is.0) ∙ e))
    | inr is ↦
        let before = a.ours q row (sym (at.sessions q is.0) ∙ e) in
        record {
          id = before.id;
          own = before.own;
          known = before.known;
          begun = more.begun q is.0 secrets setup row.session.role row.session.joined before.id row.session.generation before.begun;
          stage = before.stage;
          closed = λ c. closed_on past now near q row.session more is.0 (before.closed c);
        }
  ];
  closing = λ q thing m c. elim (same_or_not q near) [
    | inl is ↦
        subst (λ (o : Option Row). IsClosedThing o thing) (sym (ap (get t.sessions) is.0 ∙ at.session)) (closes thing m (subst (λ (k : ℕ). IsClosing k thing m now) is.0 c))
    | inr is ↦ subst (λ (o : Option Row). IsClosedThing o thing) (sym (at.sessions q is.0)) (a.closing q thing m (more.back q is.0 thing m c))
  ];
  apart = λ q b e. elim (same_or_not q near) [
    | inl is ↦ ap (get t.sessions) is.0 ∙ at.session ∙ (fits_attempt secrets setup now near oa os b fits (sym at.attempt ∙ ap (get t.startup.attempts) (sym is.0) ∙ e)).0
    | inr is ↦ at.sessions q is.0 ∙ a.apart q b (sym (at.attempts q is.0) ∙ e)
  ];
  started = λ q b e. elim (same_or_not q near) [
    | inl is ↦
        subst (λ (k : ℕ). WasStarted now k b) (sym is.0) (fits_attempt secrets setup now near oa os b fits (sym at.attempt ∙ ap (get t.startup.attempts) (sym is.0) ∙ e)).1
    | inr is ↦ started_still past now q b b.aim more.done (λ which m. more.sought q is.0 which m) (a.started q b (sym (at.attempts q is.0) ∙ e))
  ];
  searching = λ q which m there. elim (same_or_not q near) [
    | inl is ↦
        subst (λ (o : Option AttemptState). IsKeptIn o which m) (sym (ap (get t.startup.attempts) is.0 ∙ at.attempt)) (sought which m (subst (λ (k : ℕ). IsSearch k which m now) is.0 there))
    | inr is ↦ subst (λ (o : Option AttemptState). IsKeptIn o which m) (sym (at.attempts q is.0)) (a.searching q which m (more.before q is.0 which m there))
  ];
  stages = λ q b e. elim (same_or_not q near) [
    | inl is ↦ (fits_attempt secrets setup now near oa os b fits (sym at.attempt ∙ ap (get t.startup.attempts) (sym is.0) ∙ e)).2
    | inr is ↦ a.stages q b (sym (at.attempts q is.0) ∙ e)
  ];
  ids = ids;
  by_now = by_now;
  rows = rows;
}
