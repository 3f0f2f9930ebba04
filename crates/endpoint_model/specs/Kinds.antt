-- The types of chunks: for each how its chunks are judged, and who takes them.
use Rattle.std.specs.Prelude.{ℕ, ◌==◌, Bool, true, false, ◌≡◌}
use Rattle.rtmfp_chunks.specs.declared.kinds.TheConstants.{IIKEYING, RIKEYING, FRAGMENT}
use Rattle.session_core.specs.declared.stage.Stage.{Stage}
use Rattle.session_core.specs.Closing.{is_held, is_near_close}
use Rattle.endpoint_model.specs.declared.place.Place.TheVariants as place
use Rattle.endpoint_model.specs.Causes.{is_known, stage_takes, takes}
use Rattle.endpoint_model.specs.FlowChunks.{is_of_flows}
use Rattle.endpoint_model.specs.declared.kinds.Kind.{Kind}
use Rattle.endpoint_model.specs.declared.kinds.Kind.TheVariants.{Unknown, OfFlows, Judged}
use Rattle.endpoint_model.specs.declared.kinds.KindRow.{KindRow}
use Rattle.endpoint_model.specs.declared.kinds.Way.{Way}
use Rattle.endpoint_model.specs.declared.kinds.Way.TheVariants.{InitiatorKeying, ResponderKeying}
use Rattle.endpoint_model.specs.declared.kinds.Way.TheVariants.{Fragment, Fields}
use Rattle.endpoint_model.specs.declared.kinds.Takers.{Takers}
use Rattle.endpoint_model.specs.declared.kinds.Takers.TheVariants.{Startup, Attempts}
use Rattle.endpoint_model.specs.declared.kinds.Takers.TheVariants.{StartupAndAttempts, Sessions}
use Rattle.endpoint_model.specs.declared.kinds.Takers.TheVariants.{HeldSessions, ClosingSessions}

-- ---- ways of judging

abbrev pub is_initiator : Way → Bool
is_initiator InitiatorKeying = true
is_initiator ResponderKeying = false
is_initiator Fragment = false
is_initiator Fields = false

abbrev pub is_responder : Way → Bool
is_responder InitiatorKeying = false
is_responder ResponderKeying = true
is_responder Fragment = false
is_responder Fields = false

abbrev pub is_fragment : Way → Bool
is_fragment InitiatorKeying = false
is_fragment ResponderKeying = false
is_fragment Fragment = true
is_fragment Fields = false

-- ---- who takes a chunk

abbrev pub at_startup : Takers → Bool
at_startup Startup = true
at_startup StartupAndAttempts = true
at_startup takers = false

abbrev pub in_attempts : Takers → Bool
in_attempts Attempts = true
in_attempts StartupAndAttempts = true
in_attempts takers = false

abbrev pub in_sessions : Takers → Bool
in_sessions HeldSessions = true
in_sessions ClosingSessions = true
in_sessions Sessions = true
in_sessions takers = false

-- at which stages a session does, of the chunks that sessions take
abbrev pub at_stage : Takers → Stage → Bool
at_stage Sessions stage = true
at_stage ClosingSessions stage = is_near_close stage
at_stage takers stage = is_held stage

-- ---- the table

-- A row is what the rules say of its type.
pub record IsRow (row : KindRow) : Type 0 where
  pub known : is_known row.kind ≡ true
  pub apart : is_of_flows row.kind ≡ false
  pub initiator : (row.kind == IIKEYING) ≡ is_initiator row.way
  pub responder : (row.kind == RIKEYING) ≡ is_responder row.way
  pub fragment : (row.kind == FRAGMENT) ≡ is_fragment row.way
  pub startup : takes (place.Startup 0) row.kind ≡ at_startup row.takers
  pub attempt : takes (place.Attempt 0 0) row.kind ≡ in_attempts row.takers
  pub session : takes (place.Session 0) row.kind ≡ in_sessions row.takers
  pub stage : (stage : Stage) → stage_takes stage row.kind ≡ at_stage row.takers stage

-- An end reads no chunks of the type.
pub record IsUnknown (kind : ℕ) : Type 0 where
  pub known : is_known kind ≡ false
  pub apart : is_of_flows kind ≡ false
  pub initiator : (kind == IIKEYING) ≡ false

abbrev pub IsKind : ℕ → Kind → Type 0
IsKind kind Unknown = IsUnknown kind
IsKind kind OfFlows = is_of_flows kind ≡ true
IsKind kind (Judged row) = IsRow row × (row.kind ≡ kind)
