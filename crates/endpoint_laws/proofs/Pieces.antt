-- What a piece of a packet does: its session holds it, or has put the packet together, and nothing is stated or sent.
use Rattle.std.proofs.Common.{◌≡◌, ℕ, List, Option, Some, None, Result, Ok, refl}
use Rattle.std.specs.FinMap.{get}
use Rattle.rtmfp_chunks.specs.declared.reading.ChunkFault.{ChunkFault}
use Rattle.rtmfp_chunks.specs.Chunk.{Chunk, Fragment}
use Rattle.rtmfp_fragments.specs.Pieces.{PieceParts, piece}
use Rattle.rtmfp_base.specs.declared.cause.Cause.{Cause}
use Rattle.endpoint_model.specs.declared.row.Row.{Row}
use Rattle.endpoint_model.specs.declared.entry.Entry.{Entry}
use Rattle.endpoint_model.specs.Admission.{packet_in}
use Rattle.endpoint_model.specs.Event.{Setup, Call}
use Rattle.endpoint_model.specs.Gathering.{fault_entries, whole_by, whole_cause, whole_faults, gathered_more, piece_taken_by, piece_taken}
use Rattle.endpoint_model.specs.State.{State}
use Rattle.endpoint_laws.specs.Contexts.{Secrets}
use Rattle.endpoint_laws.specs.Past.{Past}
use Rattle.endpoint_laws.proofs.Unseen.{AreUnseen}
use Rattle.endpoint_laws.proofs.Going.{Keeps, goes_nothing}
use Rattle.endpoint_laws.proofs.OutSends.{Sent, Meets, meets_nothing}
use Rattle.endpoint_laws.proofs.OnFlows.{like_itself, goes_unseen, meets_unseen}

fault_unseen : (at : ℕ) (o : Option Cause) → AreUnseen (fault_entries at o)
fault_unseen at None = tt
fault_unseen at (Some cause) = (record { no_fact = refl; no_out = refl; no_closed = refl; no_sought = refl; no_unsought = refl; no_learnt = refl; no_advanced = refl }, tt)

faults_unseen : (s : State) (near at : ℕ) (o : Option (List ℕ)) → AreUnseen (whole_faults s near at o)
faults_unseen s near at None = tt
faults_unseen s near at (Some packet) = fault_unseen at (whole_cause s near (packet_in packet))

module _ (s : State) (near at : ℕ) where
  module _ (id : ℕ) (x : PieceParts) where
    abbrev faults : Row → List Entry
    faults row = whole_faults s near at (whole_by s.moment (Some row) id x)

    goes_by : (secrets : Secrets) (setup : Setup) (call : Call) (o : Option Row) → get s.sessions near ≡ o → Keeps secrets setup call s (piece_taken_by s near at id x o)
    goes_by secrets setup call None is = goes_nothing secrets setup call s
    goes_by secrets setup call (Some row) is =
        goes_unseen s near row (gathered_more s.moment id x row) is (like_itself s.moment row.session) (faults row) (faults_unseen s near at (whole_by s.moment (Some row) id x)) secrets setup call

    meets_by : (secrets : Secrets) (setup : Setup) (call : Call) (past : Past) → Sent secrets setup past s → (o : Option Row) → get s.sessions near ≡ o → Meets secrets setup s.moment call past (piece_taken_by s near at id x o)
    meets_by secrets setup call past sent None is = meets_nothing secrets setup s.moment call past s sent
    meets_by secrets setup call past sent (Some row) is =
        meets_unseen s near row (gathered_more s.moment id x row) is (like_itself s.moment row.session) (faults row) (faults_unseen s near at (whole_by s.moment (Some row) id x)) secrets setup call past sent

  pub goes_piece : (secrets : Secrets) (setup : Setup) (call : Call) (read : Result Chunk ChunkFault) → Keeps secrets setup call s (piece_taken s near at read)
  goes_piece secrets setup call (Ok (Fragment more id number bytes)) = goes_by id (piece number more bytes) secrets setup call (get s.sessions near) refl
  goes_piece secrets setup call read = goes_nothing secrets setup call s

  pub meets_piece : (secrets : Secrets) (setup : Setup) (call : Call) (past : Past) → Sent secrets setup past s → (read : Result Chunk ChunkFault) → Meets secrets setup s.moment call past (piece_taken s near at read)
  meets_piece secrets setup call past sent (Ok (Fragment more id number bytes)) = meets_by id (piece number more bytes) secrets setup call past sent (get s.sessions near) refl
  meets_piece secrets setup call past sent read = meets_nothing secrets setup s.moment call past s sent
