-- What an end knows of each of its sessions by what it did: which numbers it would take, that what it took was in time, and when it began.
use Rattle.std.proofs.Common.{◌≡◌, ◌↔◌, ℕ, ◌≤◌, List, [], ◌∷◌, ◌++◌, Bool, true, false, if◌then◌else◌, Option, Some, Ok, inl, inr, refl, sym, ap, subst, ◌∙◌, arith}
use Rattle.std.specs.FinMap.{get, insert, remove}
use Rattle.rtmfp_base.proofs.Maps.{found_inserted, found_left}
use Rattle.rtmfp_packet.specs.declared.head.Mode.{Mode}
use Rattle.crypto_profile.specs.declared.keys.Context.{Context}
use Rattle.crypto_profile.specs.Keys.{Keys, keys_of}
use Rattle.crypto_profile.specs.Window.{WindowState, window_answer}
use Rattle.glare_core.specs.declared.facts.Fact.{Fact}
use Rattle.glare_core.specs.declared.facts.Fact.TheVariants.{Born, Opened}
use Rattle.glare_core.specs.declared.facts.Joined.{Joined}
use Rattle.session_core.specs.declared.stage.Role.{Role}
use Rattle.session_core.specs.declared.stage.Role.TheVariants.{Initiator, Responder}
use Rattle.session_core.specs.Session.{SessionState, context_between, is_opening}
use Rattle.endpoint_model.specs.declared.row.Row.{Row}
use Rattle.endpoint_model.specs.declared.entry.Entry.{Entry}
use Rattle.endpoint_model.specs.declared.entry.Entry.TheVariants.{Fact as FactEntry}
use Rattle.endpoint_model.specs.Views.{fact_in}
use Rattle.endpoint_model.specs.State.{Sessions, State, Did, nothing, then_do}
use Rattle.endpoint_model.specs.Admission.{peers_mode}
use Rattle.endpoint_laws.specs.Past.{Stamped, stamped, onto, WasDone, Past, Taken, begins, taken_since}
use Rattle.endpoint_laws.specs.Taken.{IsNewAfter, TookIn}
use Rattle.endpoint_laws.specs.Contexts.{Secrets}

-- ---- what of a session lasts

-- what of a session is changed by a datagram that it takes alone
pub record Lasting : Type 0 where
  pub joined : Joined
  pub own : List ℕ
  pub role : Role
  pub generation : ℕ
  pub inward : Keys
  pub outward : Keys
  pub window : WindowState
  pub taken : ℕ

abbrev pub lasting : SessionState → Lasting
lasting s = record { joined = s.joined; own = s.own; role = s.role; generation = s.generation; inward = s.inward; outward = s.outward; window = s.window; taken = s.taken }

-- the context of what it takes, and the mode
abbrev pub inward_of : Lasting → Context
inward_of l = context_between l.generation l.joined l.own l.role false

abbrev pub mode_in : Lasting → Mode
mode_in l = peers_mode l.role

-- what it takes is sealed under the secret that these have for its generation
abbrev pub TakesUnder : Secrets → Lasting → Type 0
TakesUnder secrets l = (secret : List ℕ) × (get secrets l.generation ≡ Some secret) × (l.inward ≡ keys_of secret (inward_of l))

-- ---- what is known

-- It would take the numbers that are new after these datagrams under a secret, and whatever it took of them it took by the moment that it keeps.
pub record CountsUnder (secrets : Secrets) (taken : List Taken) (near : ℕ) (l : Lasting) : Type 0 where
  pub numbers : (n : ℕ) → (window_answer l.window n ≡ Ok tt) ↔ IsNewAfter secrets (inward_of l) near n taken
  pub times : (moment : ℕ) → TookIn secrets (inward_of l) (mode_in l) near moment taken → moment ≤ l.taken

abbrev pub Counts : List Taken → ℕ → Lasting → Type 0
Counts taken near l = (secrets : Secrets) → TakesUnder secrets l → CountsUnder secrets taken near l

-- the fact with which a session of this role begins
abbrev pub first_fact : Role → Joined → Fact
first_fact Initiator j = Opened j
first_fact Responder j = Born j

-- It began before it took anything.
pub record Began (past : Past) (l : Lasting) : Type 0 where
  pub first : ℕ
  pub done : WasDone (stamped first (FactEntry (first_fact l.role l.joined))) past
  pub early : first ≤ l.taken

-- A session that is half-open was born here, at the moment that it keeps.
abbrev pub BornSince : Past → SessionState → Type 0
BornSince past session = (session.role ≡ Responder) × WasDone (stamped session.since (FactEntry (Born session.joined))) past

pub record IsKnown (past : Past) (now near : ℕ) (session : SessionState) : Type 0 where
  pub counts : Counts (taken_since near past) near (lasting session)
  pub began : Began past (lasting session)
  pub half_open : is_opening session.stage ≡ true → BornSince past session
  pub not_later : session.taken ≤ now

abbrev pub AreKnown : Past → ℕ → Sessions → Type 0
AreKnown past now sessions = (near : ℕ) (row : Row) → get sessions near ≡ Some row → IsKnown past now near row.session

abbrev pub HeardWell : Past → State → Type 0
HeardWell past s = AreKnown past s.moment s.sessions

-- ---- entries that begin no session

abbrev pub BeginsNone : Option Fact → Type 0
BeginsNone fact = (near : ℕ) → begins near fact ≡ false

abbrev pub NoneBegin : List Entry → Type 0
NoneBegin [] = Unit {0}
NoneBegin (entry ∷ rest) = BeginsNone (fact_in entry) × NoneBegin rest

pub none_append : (xs ys : List Entry) → NoneBegin xs → NoneBegin ys → NoneBegin (xs ++ ys)
none_append [] ys p q = q
none_append (x ∷ xs) ys p q = (p.0, none_append xs ys p.1 q)

-- what was taken since a session began stays, where it isn't begun anew
pub since_entry : (near now : ℕ) (entry : Entry) (past : Past) → begins near (fact_in entry) ≡ false → taken_since near (stamped now entry ∷ past) ≡ taken_since near past
since_entry near now entry past e = ap (λ (b : Bool). if b then [] else taken_since near past) e

pub since_onto : (near now : ℕ) (entries : List Entry) (past : Past) → NoneBegin entries → taken_since near (onto now entries past) ≡ taken_since near past
since_onto near now [] past none = refl
since_onto near now (x ∷ xs) past none = since_onto near now xs (stamped now x ∷ past) none.1 ∙ since_entry near now x past (none.0 near)

pub done_onto : (now : ℕ) (entries : List Entry) (past : Past) (done : Stamped) → WasDone done past → WasDone done (onto now entries past)
done_onto now [] past done w = w
done_onto now (x ∷ xs) past done w = done_onto now xs (stamped now x ∷ past) done (inr w)

-- what is known stays known, where more was done that doesn't begin the session
pub known_more : (past more : Past) (now later near : ℕ) (session : SessionState) → IsKnown past now near session → taken_since near more ≡ taken_since near past →
    ((done : Stamped) → WasDone done past → WasDone done more) → now ≤ later → IsKnown more later near session
known_more past more now later near session k same done up = record {
  counts = subst (λ taken. Counts taken near (lasting session)) (sym same) k.counts;
  began = record { first = k.began.first; done = done _ k.began.done; early = k.began.early };
  half_open = λ e. let b = k.half_open e in (b.0, done _ b.1);
  not_later = omega (arith, k.not_later, up);
}

pub known_onto : (past : Past) (now near : ℕ) (session : SessionState) (entries : List Entry) → NoneBegin entries → IsKnown past now near session → IsKnown (onto now entries past) now near session
known_onto past now near session entries none k =
    known_more past (onto now entries past) now now near session k (since_onto near now entries past none) (λ done w. done_onto now entries past done w) (omega arith)

-- ---- sessions that are changed in what doesn't last

pub record Descends (old new : SessionState) : Type 0 where
  pub same : lasting new ≡ lasting old
  pub opening : is_opening new.stage ≡ true → (is_opening old.stage ≡ true) × (new.since ≡ old.since)

pub descends_same : (s : SessionState) → Descends s s
descends_same s = record { same = refl; opening = λ e. (e, refl) }

pub descends_then : (a b c : SessionState) → Descends a b → Descends b c → Descends a c
descends_then a b c p q = record {
  same = q.same ∙ p.same;
  opening = λ e. let one = q.opening e in let two = p.opening one.0 in (two.0, one.1 ∙ two.1);
}

pub known_descends : (past : Past) (now near : ℕ) (old new : SessionState) → Descends old new → IsKnown past now near old → IsKnown past now near new
known_descends past now near old new d k =
    let back : lasting old ≡ lasting new = sym d.same in
    record {
      counts = subst (Counts (taken_since near past) near) back k.counts;
      began = subst (Began past) back k.began;
      half_open = λ e.
          let was = d.opening e in
          let b = k.half_open was.0 in (
            ap (λ (l : Lasting). l.role) d.same ∙ b.0,
            subst (λ (l : Lasting). WasDone (stamped new.since (FactEntry (Born l.joined))) past) back (subst (λ (m : ℕ). WasDone (stamped m (FactEntry (Born old.joined))) past) (sym was.1) b.1),
          );
      not_later = subst (λ (l : Lasting). l.taken ≤ now) back k.not_later;
    }

-- ---- one thing more

-- What a thing does keeps what is known of the sessions.
pub record Heard (past : Past) (s : State) (d : Did) : Type 0 where
  pub well : HeardWell (onto s.moment d.entries past) d.state
  pub moment : d.state.moment ≡ s.moment

abbrev pub KeepsHeard : State → Did → Type 0
KeepsHeard s d = (past : Past) → HeardWell past s → Heard past s d

pub onto_append : (now : ℕ) (xs ys : List Entry) (past : Past) → onto now (xs ++ ys) past ≡ onto now ys (onto now xs past)
onto_append now [] ys past = refl
onto_append now (x ∷ xs) ys past = onto_append now xs ys (stamped now x ∷ past)

pub heard_then : (past : Past) (s : State) (d : Did) (next : State → Did) → Heard past s d → Heard (onto s.moment d.entries past) d.state (next d.state) → Heard past s (then_do d next)
heard_then past s d next f g =
    let e : Did = next d.state in
    let P : ℕ → Type 0 = λ m. HeardWell (onto m e.entries (onto s.moment d.entries past)) e.state in
    let Q : Past → Type 0 = λ p. HeardWell p e.state in
    record {
      well = subst Q (sym (onto_append s.moment d.entries e.entries past)) (subst P f.moment g.well);
      moment = g.moment ∙ f.moment;
    }

-- ---- things after which each session was there before

-- It descends from a session that was there.
pub record Had (sessions : Sessions) (near : ℕ) (new : Row) : Type 0 where
  pub old : Row
  pub there : get sessions near ≡ Some old
  pub descends : Descends old.session new.session

-- The thing begins no session, and each that it leaves descends from one that was there.
pub record Follows (s : State) (d : Did) : Type 0 where
  pub none : NoneBegin d.entries
  pub had : (near : ℕ) (row : Row) → get d.state.sessions near ≡ Some row → Had s.sessions near row
  pub moment : d.state.moment ≡ s.moment

pub had_it : (m : Sessions) (near : ℕ) (row : Row) → get m near ≡ Some row → Had m near row
had_it m near row e = record { old = row; there = e; descends = descends_same row.session }

pub had_inserted : (m : Sessions) (near : ℕ) (old new : Row) → get m near ≡ Some old → Descends old.session new.session → (q : ℕ) (row : Row) → get (insert m near new) q ≡ Some row → Had m q row
had_inserted m near old new is d q row e = elim (found_inserted m near new q row e) [
  | inl here ↦ record { old = old; there = ap (get m) here.0 ∙ is; descends = subst (λ (r : Row). Descends old.session r.session) here.1 d }
  | inr beside ↦ had_it m q row beside.1
]

pub had_left : (m : Sessions) (near q : ℕ) (row : Row) → get (remove m near) q ≡ Some row → Had m q row
had_left m near q row e = had_it m q row (found_left m near q row e).1

pub follows_nothing : (s : State) → Follows s (nothing s)
follows_nothing s = record { none = tt; had = λ near row e. had_it s.sessions near row e; moment = refl }

pub follows_then : (s : State) (d : Did) (next : State → Did) → Follows s d → Follows d.state (next d.state) → Follows s (then_do d next)
follows_then s d next f g = record {
  none = none_append d.entries (next d.state).entries f.none g.none;
  had = λ near row e.
      let two = g.had near row e in
      let one = f.had near two.old two.there in
      record { old = one.old; there = one.there; descends = descends_then one.old.session two.old.session row.session one.descends two.descends };
  moment = g.moment ∙ f.moment;
}

pub heard_follows : (s : State) (d : Did) → Follows s d → KeepsHeard s d
heard_follows s d f = λ past h. record {
  well = subst (λ (m : ℕ). AreKnown (onto s.moment d.entries past) m d.state.sessions) (sym f.moment) (λ near row e.
      let was = f.had near row e in
      known_descends (onto s.moment d.entries past) s.moment near was.old.session row.session was.descends
      (known_onto past s.moment near was.old.session d.entries f.none (h near was.old was.there)));
  moment = f.moment;
}

pub keeps_if : (s : State) (b : Bool) (d e : Did) → KeepsHeard s d → KeepsHeard s e → KeepsHeard s (if b then d else e)
keeps_if s true d e f g = f
keeps_if s false d e f g = g

-- a change of the state that keeps the moment and the sessions comes before the thing
pub heard_from : (past : Past) (s t : State) (d : Did) → t.moment ≡ s.moment → Heard past t d → Heard past s d
heard_from past s t d moment h = record {
  well = subst (λ (m : ℕ). HeardWell (onto m d.entries past) d.state) moment h.well;
  moment = h.moment ∙ moment;
}
