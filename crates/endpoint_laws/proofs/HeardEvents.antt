-- What an end knows of its sessions at its beginning and when an event begins; and what is said of a datagram's admission.
use Rattle.std.proofs.Common.{◌≡◌, ◌≢◌, ◌||◌, ℕ, List, [], ◌∷◌, max, Bool, true, false, if◌then◌else◌, is_some, Option, Some, None, inr, refl, sym, ap, ◌∙◌, arith}
use Rattle.std.specs.Ordering.{nat_cmp}
use Rattle.std.specs.FinMap.{get, contains_key, get-empty}
use Rattle.rtmfp_base.proofs.Maps.{none_is_some}
use Rattle.startup.specs.State.{AttemptState}
use Rattle.endpoint_model.specs.declared.row.Row.{Row}
use Rattle.endpoint_model.specs.Event.{Setup, ReceiveCall, receive_in, Event}
use Rattle.endpoint_model.specs.State.{State, fresh, at_moment, is_used}
use Rattle.endpoint_model.specs.Admission.{Admission, Rejected, Admitted}
use Rattle.endpoint_laws.specs.Past.{Past, OfEvent, begun, was_gone_through, datagram_of, datagram_in, taken_and, taken_since}
use Rattle.endpoint_laws.proofs.Hearing.{HeardWell, known_more}
use Rattle.endpoint_laws.proofs.Passing.{PassedAt}

-- ---- a new end

pub heard_fresh : (setup : Setup) → HeardWell [] (fresh setup)
heard_fresh setup near row e = absurd (none_is_some row (get (fresh setup).sessions near) (get-empty nat_cmp near) e)

-- ---- whether the datagram of an event counts

pub no_datagram : (e : Event) → receive_in e.call ≡ None → datagram_in (OfEvent e) ≡ None
no_datagram e none = by (was_gone_through e.answer)
  where
    by : (b : Bool) → (if b then datagram_of (receive_in e.call) else None) ≡ None
    by true = ap datagram_of none
    by false = refl

pub not_gone_through : (e : Event) → was_gone_through e.answer ≡ false → datagram_in (OfEvent e) ≡ None
not_gone_through e is = ap (λ (b : Bool). if b then datagram_of (receive_in e.call) else None) is

pub gone_through_is : (e : Event) (r : ReceiveCall) → receive_in e.call ≡ Some r → was_gone_through e.answer ≡ true → datagram_in (OfEvent e) ≡ Some r.datagram
gone_through_is e r call is = ap (λ (b : Bool). if b then datagram_of (receive_in e.call) else None) is ∙ ap datagram_of call

-- ---- an event begins

-- one whose datagram doesn't count
pub heard_begun : (past : Past) (s : State) (e : Event) → datagram_in (OfEvent e) ≡ None → HeardWell past s → HeardWell (begun (max s.moment e.moment) e ∷ past) (at_moment s e.moment)
heard_begun past s e none h near row there =
    let now : ℕ = max s.moment e.moment in
    known_more past (begun now e ∷ past) s.moment now near row.session (h near row there) (ap (λ (o : Option (List ℕ)). taken_and now o (taken_since near past)) none) (λ done w. inr w) (omega arith)

-- ---- a datagram that counts

-- Each session has its own session ID, which isn't 0, and no attempt has it.
pub record IsNamed (s : State) (near : ℕ) (row : Row) : Type 0 where
  pub named : row.session.joined.near ≡ near
  pub some : near ≢ 0
  pub apart : contains_key s.startup.attempts near ≡ false

abbrev pub AreNamed : State → Type 0
AreNamed s = (near : ℕ) (row : Row) → get s.sessions near ≡ Some row → IsNamed s near row

no_key : (o : Option AttemptState) → ((a : AttemptState) → o ≡ Some a → ⊥) → is_some o ≡ false
no_key None none = refl
no_key (Some a) none = absurd (none a refl)

in_use : (a b : Bool) → b ≡ true → (a || b) ≡ false → ⊥
in_use true b e f = cc
in_use false b e f = let clash : true ≡ false = sym e ∙ f in cc

pub are_named : (s : State) → ((near : ℕ) (row : Row) → get s.sessions near ≡ Some row → row.session.joined.near ≡ near) →
    ((near : ℕ) (a : AttemptState) → get s.startup.attempts near ≡ Some a → get s.sessions near ≡ None) → is_used s 0 ≡ false → AreNamed s
are_named s named apart zero near row there = record {
  named = named near row there;
  some = λ is.
      let here : is_some (get s.sessions 0) ≡ true = ap (λ (n : ℕ). is_some (get s.sessions n)) (sym is) ∙ ap (λ (o : Option Row). is_some o) there in
      in_use (contains_key s.startup.attempts 0) (contains_key s.sessions 0) here zero;
  apart = no_key (get s.startup.attempts near) (λ a e. none_is_some row (get s.sessions near) (apart near a e) there);
}

-- what the admission leaves is known well, and a datagram that is taken in a session passes
pub record IsWell (more : Past) (now : ℕ) (u : State) : Type 0 where
  pub well : HeardWell more u
  pub moment : u.moment ≡ now

abbrev pub AdmissionHeard : Past → ℕ → List ℕ → Admission → Type 0
AdmissionHeard more now datagram (Rejected u cause) = IsWell more now u
AdmissionHeard more now datagram (Admitted u place packet) = IsWell more now u × PassedAt more place datagram packet u
