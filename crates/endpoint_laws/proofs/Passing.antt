-- The datagram of a call, which a session takes.
use Rattle.std.proofs.Common.{◌≡◌, ℕ, List, ◌∷◌, Some, sym, subst, ◌∙◌}
use Rattle.std.specs.FinMap.{get}
use Rattle.rtmfp_packet.specs.Whole.{Whole}
use Rattle.endpoint_model.specs.declared.row.Row.{Row}
use Rattle.endpoint_model.specs.declared.place.Place.{Place}
use Rattle.endpoint_model.specs.declared.place.Place.TheVariants.{Startup, Attempt, Session}
use Rattle.endpoint_model.specs.State.{State, Did}
use Rattle.endpoint_laws.specs.Past.{Past, onto, Taken, taken_since}
use Rattle.endpoint_laws.specs.Taken.{PassesIn}
use Rattle.endpoint_laws.proofs.Hearing.{Lasting, lasting, inward_of, mode_in, TakesUnder, Follows, since_onto}
use Rattle.endpoint_laws.specs.Contexts.{Secrets}

-- The datagram is the last one that was given since the session began, and passes in it under a secret.
pub record PassedUnder (secrets : Secrets) (past : Past) (near : ℕ) (datagram : List ℕ) (packet : Whole) (l : Lasting) : Type 0 where
  pub moment : ℕ
  pub before : List Taken
  pub last : taken_since near past ≡ record { moment = moment; datagram = datagram } ∷ before
  pub passes : PassesIn secrets (inward_of l) (mode_in l) near before datagram
  pub is : passes.packet ≡ packet

abbrev pub Passed : Past → ℕ → List ℕ → Whole → Lasting → Type 0
Passed past near datagram packet l = (secrets : Secrets) → TakesUnder secrets l → PassedUnder secrets past near datagram packet l

-- so for whatever row is there
abbrev pub PassedIn : Past → ℕ → List ℕ → Whole → State → Type 0
PassedIn past near datagram packet s = (row : Row) → get s.sessions near ≡ Some row → Passed past near datagram packet (lasting row.session)

-- at a place
abbrev pub PassedAt : Past → Place → List ℕ → Whole → State → Type 0
PassedAt past (Startup generation) datagram packet s = Unit {0}
PassedAt past (Attempt near generation) datagram packet s = Unit {0}
PassedAt past (Session near) datagram packet s = PassedIn past near datagram packet s

pub passed_follows : (past : Past) (near : ℕ) (datagram : List ℕ) (packet : Whole) (s : State) (d : Did) → Follows s d → PassedIn past near datagram packet s →
    PassedIn (onto s.moment d.entries past) near datagram packet d.state
passed_follows past near datagram packet s d f passed row there =
    let was = f.had near row there in
    let here : Passed (onto s.moment d.entries past) near datagram packet (lasting was.old.session) = λ secrets under. (
    let p = passed was.old was.there secrets under in record {
      moment = p.moment;
      before = p.before;
      last = since_onto near s.moment d.entries past f.none ∙ p.last;
      passes = p.passes;
      is = p.is;
    }) in
    subst (Passed (onto s.moment d.entries past) near datagram packet) (sym was.descends.same) here
