use Rattle.std.proofs.Common.{ℕ, ◌≡◌, ◌≤◌, ◌+◌, List, ◌++◌, ◌∷◌, [], length, Option, Some, None, refl, sym, ap, ◌∙◌, subst, arith}
use Rattle.std.specs.FinMap.{get}
use Rattle.std.proofs.lemmas.List.{append-nil}
use Rattle.rtmfp_forms.specs.Address.{AddressParts}
use Rattle.rtmfp_fragments.specs.Pieces.{piece_parts}
use Rattle.session_core.specs.Sealed.{after_seal}
use Rattle.startup.specs.State.{StartupState}
use Rattle.session_table.specs.declared.sealing.Sealed.{Sealed}
use Rattle.session_table.specs.Table.{in_session, sealed_by}
use Rattle.endpoint_model.specs.declared.entry.Entry.{Entry}
use Rattle.endpoint_model.specs.Added.{Added}
use Rattle.endpoint_model.specs.Sending.{piece_body, sent_whole}
use Rattle.endpoint_model.specs.State.{State, Did, Done, Sessions, with_sessions}
use Rattle.end_state.specs.declared.settings.Settings.{Settings}
use Rattle.end_state.specs.declared.groups.Groups.{Groups}
use Rattle.end_state.specs.Stored.{state_of}
use Rattle.end_state.proofs.InSession.{out_of, sealed_did, whole_as}
use Rattle.end_state.proofs.end_state.EndState.send_piece.Goals as goal

piece_one : (settings : Settings) (moment sealed limit : ℕ) (groups : Groups) (startup : StartupState) (old new : Sessions) (t : State) (near : ℕ) (to : AddressParts) (body : List ℕ) (answer : Option Sealed) (before after : Added) →
    state_of settings moment sealed limit groups startup old ≡ t → answer ≡ sealed_by moment body (get old near) → new ≡ in_session after_seal old near →
    after.entries ≡ before.entries ++ out_of to answer → before.free ≤ after.free + length (out_of to answer) → after.room ≡ before.room →
    Done (sent_whole t near to body (get t.sessions near)) (state_of settings moment sealed limit groups startup new) before after
piece_one settings moment sealed limit groups startup old new t near to body answer before after view answer_is new_is entries free room =
    let s : State = state_of settings moment sealed limit groups startup old in
    let did : sealed_did s near to (get old near) answer ≡ sent_whole s near to body (get old near) =
    ap (sealed_did s near to (get old near)) answer_is ∙ sym (whole_as s near to body (get old near) refl) in
    let done : Done (sealed_did s near to (get old near) answer) (with_sessions s new) before after = record { state = ap (with_sessions s) new_is; entries = entries; free = free; room = room } in
    subst (λ (x : State). Done (sent_whole x near to body (get x.sessions near)) (with_sessions s new) before after) view (subst (λ (d : Did). Done d (with_sessions s new) before after) did done)

pub returns : goal.returns
returns c =
    let i = c.self.inside in
    piece_one i.settings i.moment i.sealed i.limit i.groups i.startup i.sessions.rows c.seal_piece.new.self.rows c.args.self.now c.args.near c.args.to.now (piece_body c.args.id (piece_parts c.args.piece.now))
    (Some c.in-Some.sealed) c.args.out.now c.add.new.self c.self.view_is c.in-Some.ensures.answer c.in-Some.ensures.rows
    (c.add.ensures.entries ∙ ap (λ (entry : Entry). c.args.out.now.entries ++ entry ∷ []) c.entry_of.ensures) c.add.ensures.free c.add.ensures.room

pub returns-in_default : goal.returns-in_default
returns-in_default c =
    let i = c.self.inside in
    piece_one i.settings i.moment i.sealed i.limit i.groups i.startup i.sessions.rows c.seal_piece.new.self.rows c.args.self.now c.args.near c.args.to.now (piece_body c.args.id (piece_parts c.args.piece.now))
    None c.args.out.now c.args.out.now c.self.view_is c.in_default.ensures.answer c.in_default.ensures.rows
    (sym (append-nil c.args.out.now.entries)) (omega arith) refl
