use Rattle.std.specs.Prelude.{option_to_list}
use Rattle.std.specs.FinMap.{get}
use Rattle.std.proofs.Common.{ℕ, ◌≡◌, ◌≤◌, ◌+◌, ◌++◌, List, length, Option, Some, None, Ok, OnOk, refl, sym, ap, subst, ◌∙◌, arith}
use Rattle.std.proofs.lemmas.List.{append-nil}
use Rattle.rtmfp_fragments.specs.declared.outcome.Gathered.{Gathered}
use Rattle.rtmfp_fragments.specs.Pieces.{piece_parts}
use Rattle.rtmfp_packet.specs.declared.head.Mode.{Mode}
use Rattle.endpoint_model.specs.declared.entry.Entry.{Entry}
use Rattle.endpoint_model.specs.declared.place.Place.TheVariants.{Session}
use Rattle.endpoint_model.specs.Added.{Added}
use Rattle.endpoint_model.specs.Admission.{mode_at, packet_in}
use Rattle.endpoint_model.specs.Gathering.{fault_entries, given, piece_taken_by, whole_by, whole_faults}
use Rattle.endpoint_model.specs.State.{State, Done, with_sessions}
use Rattle.end_state.specs.Stored.{state_of}
use Rattle.end_state.proofs.Endings.{made_room}
use Rattle.end_chunks.specs.Pieces.{fault_by_mode}
use Rattle.end_chunks.proofs.Pieced.{fault_is, ok_anyway, piece_done}
use Rattle.end_chunks.proofs.pieces.gather.Goals as goal
use Rattle.end_chunks.proofs.pieces.gather.Goals.{in-Again, in-Kept, in-Whole}

pub returns-clause-ok : goal.returns-clause-ok
returns-clause-ok c =
    let i = c.end.inside in
    let near = c.args.near in
    let at = c.args.at in
    let id = c.args.part.now.id in
    let x = piece_parts c.args.part.now.piece in
    let before : Added = c.args.out.now in
    let between : Added = c.make_room.new.self in
    let after : Added = c.match-branch-3.out in
    let s : State = state_of i.settings i.moment i.sealed i.limit i.groups i.startup i.sessions.rows in
    let t : State = with_sessions s c.gather.new.self.rows in
    let done : (whole : Option (List ℕ)) (entry : Option Entry) → whole ≡ whole_by s.moment (get s.sessions near) id x → whole_faults s near at whole ≡ option_to_list entry →
    after.entries ≡ between.entries ++ option_to_list entry → between.free ≤ after.free + length (option_to_list entry) → after.room ≡ between.room →
    OnOk c.match-branch-3.result (Done (piece_taken_by c.args.end.now near at id x (get c.args.end.now.sessions near)) t before after) =
    λ whole entry given_is told entries free room.
    ok_anyway c.match-branch-3.result
    (subst (λ (u : State). Done (piece_taken_by u near at id x (get u.sessions near)) t before after) c.end.view_is
    (made_room (piece_taken_by s near at id x (get s.sessions near)) t before between after c.make_room.ensures.entries c.make_room.ensures.free c.make_room.ensures.room
    (piece_done s near at id x c.gather.new.self.rows whole entry between after c.in_ok-gather.ensures.rows given_is told entries free room))) in
    elim c.match-branch-3.branch [
      | in-Again w ↦ done None None
          (ap (λ (g : Gathered). given (Ok g)) (sym w.in-Again.is) ∙ c.in_ok-gather.ensures.given) refl
          (ap (λ (o : Added). o.entries) w.out-is ∙ sym (append-nil between.entries))
          (omega (arith, ap (λ (o : Added). o.free) w.out-is))
          (ap (λ (o : Added). o.room) w.out-is)
      | in-Kept w ↦ done None None
          (ap (λ (g : Gathered). given (Ok g)) (sym w.in-Kept.is) ∙ c.in_ok-gather.ensures.given) refl
          (ap (λ (o : Added). o.entries) w.out-is ∙ sym (append-nil between.entries))
          (omega (arith, ap (λ (o : Added). o.free) w.out-is))
          (ap (λ (o : Added). o.room) w.out-is)
      | in-Whole w ↦
          let faults : Mode → List Entry = λ m. fault_entries at (fault_by_mode m (packet_in w.in-Whole.packet)) in
          let mode : c.mode_at-mode.result ≡ mode_at s (Session near) = c.mode_at-mode.ensures ∙ ap (λ (u : State). mode_at u (Session near)) (sym c.end.view_is) in
          done (Some w.in-Whole.packet) w.fault_entry.result
          (ap (λ (g : Gathered). given (Ok g)) (sym w.in-Whole.is) ∙ c.in_ok-gather.ensures.given)
          (ap (fault_entries at) (sym (fault_is s near (packet_in w.in-Whole.packet))) ∙ ap faults (sym mode)
          ∙ ap (λ (b : List ℕ). fault_entries at (fault_by_mode c.mode_at-mode.result (packet_in b))) (sym w.as_slice.ensures) ∙ w.fault_entry.ensures.entries)
          (ap (λ (o : Added). o.entries) w.out-is ∙ w.add_some.ensures.entries)
          (omega (arith, ap (λ (o : Added). o.free) w.out-is, w.add_some.ensures.free))
          (ap (λ (o : Added). o.room) w.out-is ∙ w.add_some.ensures.room)
    ]
