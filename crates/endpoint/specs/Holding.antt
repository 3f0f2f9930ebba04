-- What an end holds with its peers, and the attempts and the sessions that are there.
use Rattle.std.specs.Prelude.{ℕ, ◌≡◌, ◌⊎◌, false, List, Some, None}
use Rattle.std.specs.FinMap.{get}
use Rattle.rtmfp_fragments.specs.Held.{IsWithinLimits}
use Rattle.glare_core.specs.declared.facts.Held.{Held}
use Rattle.glare_core.specs.declared.facts.Held.TheVariants.{Opening as AttemptHeld}
use Rattle.glare_core.specs.Things.{IsSession, near_of}
use Rattle.glare_core.specs.Ledger.{Ledger, held_with}
use Rattle.startup.specs.Aims.{IsHeldAs}
use Rattle.startup.specs.State.{AttemptState}
use Rattle.session_core.specs.Session.{SessionState}
use Rattle.session_flows.specs.Laws.{IsSound}
use Rattle.endpoint_model.specs.declared.row.Row.{Row}
use Rattle.endpoint_model.specs.FlowChunks.{owes_by}
use Rattle.endpoint_model.specs.State.{State}
use Rattle.endpoint_laws.specs.OfTheLog.{IsThing, IsClosingStage, AttemptIsThere}
use Rattle.endpoint_laws.specs.Within.{HoldFew}

-- The session is held with its peer as what it is by its role and its stage: half-open, or kept by
-- the end that bore it or by the one that opened it.
pub record SessionIsHeld (ledger : Ledger) (session : SessionState) : Type 0 where
  pub thing : Held
  pub is : IsThing session.role session.stage session.joined thing
  pub is_held : held_with ledger session.joined.peer ≡ Some thing

-- The session that is held so with this peer is there under its near ID.
pub record SessionIsThere (s : State) (peer : List ℕ) (thing : Held) : Type 0 where
  pub row : Row
  pub there : get s.sessions (near_of thing) ≡ Some row
  pub peer_is : row.session.joined.peer ≡ peer
  pub is : IsThing row.session.role row.session.stage row.session.joined thing

-- What is held with the peers names just the attempts and the sessions that are there.
pub record HoldsWhatIsThere (s : State) : Type 0 where
  -- each attempt is held as what it aims at, under its near ID and its nonce: with its peer, under its
  -- number; a search is held with no peer
  pub attempts : (near : ℕ) (a : AttemptState) → get s.startup.attempts near ≡ Some a →
      IsHeldAs s.startup.ledger near a.ni a.aim
  pub attempts_there : (peer : List ℕ) (n near : ℕ) (ni : List ℕ) →
      held_with s.startup.ledger peer ≡ Some (AttemptHeld n near ni) →
      AttemptIsThere s peer n near ni
  -- each session is held with its peer, or it is closing; one that is closing isn't held
  pub sessions : (near : ℕ) (row : Row) → get s.sessions near ≡ Some row →
      SessionIsHeld s.startup.ledger row.session ⊎ IsClosingStage row.session.stage
  pub sessions_there : (peer : List ℕ) (thing : Held) →
      held_with s.startup.ledger peer ≡ Some thing → IsSession thing →
      SessionIsThere s peer thing
  -- each session stands under its near ID, and no attempt or search has one that a session has
  pub ids : (near : ℕ) (row : Row) → get s.sessions near ≡ Some row →
      row.session.joined.near ≡ near
  pub apart : (near : ℕ) (a : AttemptState) → get s.startup.attempts near ≡ Some a →
      get s.sessions near ≡ None

-- Each session has at most 256 flows in either direction, and their IDs are those of their places, or
-- rise.
abbrev pub AllFlowsAreWithin : State → Type 0
AllFlowsAreWithin s = (near : ℕ) (row : Row) → get s.sessions near ≡ Some row → IsSound row.flows

-- No flow of a session holds more bytes, fragments and numbers than it may.
abbrev pub AllFlowsHoldFew : State → Type 0
AllFlowsHoldFew s = (near : ℕ) (row : Row) → get s.sessions near ≡ Some row → HoldFew row.flows

-- No session holds pieces of more packets, or more pieces and bytes of one, than it may.
abbrev pub AllPiecesHoldFew : State → Type 0
AllPiecesHoldFew s = (near : ℕ) (row : Row) → get s.sessions near ≡ Some row →
    IsWithinLimits row.gathering

-- Between calls no session owes an ack.
abbrev pub NoneOwesAcks : State → Type 0
NoneOwesAcks s = (near : ℕ) → owes_by (get s.sessions near) ≡ false
