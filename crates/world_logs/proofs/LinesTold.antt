-- The event of a journal's line, as it is written.
use Rattle.std.proofs.Common.{◌≡◌, ℕ, zero, suc, ◌≤◌, List, [], ◌∷◌, length, sym, ap, ◌∙◌, refl, arith}
use Rattle.sha2.specs.Sha256.{sha256}
use Rattle.audit_text.specs.declared.line.LogCall.{LogCall}
use Rattle.log_writing.specs.Written.{written_call, written_nonce}
use Rattle.rendezvous_world.specs.declared.journal.JournalLine.{JournalLine}
use Rattle.rendezvous_world.specs.declared.step.Step.{Step}
use Rattle.rendezvous_world.specs.Deed.{deed_of}
use Rattle.rendezvous_world.specs.History.{bytes_or_none, call_by, call_of, event_of, given_by, peer_of}
use Rattle.rendezvous_world.specs.Seen.{EndSeen, print_at}
use Rattle.world_logs.specs.Given.{IsGivenTo}

-- an end that isn't there
pub nobody_at : (ends : List EndSeen) (who : ℕ) → length ends ≤ who → print_at ends who ≡ sha256 []
nobody_at [] who h = refl
nobody_at (end ∷ ends) zero h = absurd (omega arith)
nobody_at (end ∷ ends) (suc who) h = nobody_at ends who (omega arith)

pub nonce_told : (ends : List EndSeen) (line : JournalLine) (step : Step) (nonce : List ℕ) → step ≡ line.step →
    ((given bytes : List ℕ) → written_nonce (call_by given line.line bytes (deed_of step)) ≡ nonce) → written_nonce (event_of ends line).call ≡ nonce
nonce_told ends line step nonce same h =
    ap (λ (s : Step). written_nonce (call_of ends line.line line.generation line.datagram s)) (sym same)
    ∙ h (given_by (print_at ends (peer_of (deed_of step))) line.generation (deed_of step)) (bytes_or_none line.datagram)

pub call_told : (ends : List EndSeen) (line : JournalLine) (step : Step) (given bytes : List ℕ) (call : LogCall) → step ≡ line.step →
    IsGivenTo (print_at ends (peer_of (deed_of step))) line.generation (deed_of step) given → bytes ≡ bytes_or_none line.datagram →
    written_call (call_by given line.line bytes (deed_of step)) ≡ call → written_call (event_of ends line).call ≡ call
call_told ends line step given bytes call same is_given is_bytes h =
    ap (λ (s : Step). written_call (call_of ends line.line line.generation line.datagram s)) (sym same)
    ∙ is_given line.line (bytes_or_none line.datagram)
    ∙ ap (λ (b : List ℕ). written_call (call_by given line.line b (deed_of step))) (sym is_bytes)
    ∙ h
