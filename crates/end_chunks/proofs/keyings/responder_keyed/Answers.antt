use Rattle.std.proofs.Common.{◌≡◌, ◌++◌, ◌∷◌, [], Some, ap, ◌∙◌, subst, arith}
use Rattle.rtmfp_chunks.specs.Chunk.{Ping}
use Rattle.rtmfp_chunks.specs.Writing.{chunk_bytes}
use Rattle.startup.specs.Keyings.{opened, after_opening}
use Rattle.endpoint_model.specs.declared.entry.Entry.TheVariants.{Fact as FactEntry}
use Rattle.endpoint_model.specs.Effects.{responder_keyed, with_opened}
use Rattle.end_state.specs.Stored.{IsEnd, state_of}
use Rattle.crypto_profile.specs.declared.group.GroupSecret.{GroupSecret}
use Rattle.endpoint_model.specs.Sending.{sent_in_session}
use Rattle.endpoint_model.specs.State.{State, Done, with_startup}
use Rattle.end_chunks.proofs.Keyed.{kept_opening, startup_put, opened_state, opened_so, added_first, IsAdded}
use Rattle.end_chunks.proofs.keyings.responder_keyed.Goals as goal

pub returns-clause-ok : goal.returns-clause-ok
returns-clause-ok c =
    let v : State = state_of c.end.inside.settings c.end.inside.moment c.end.inside.sealed c.end.inside.limit c.end.inside.groups c.end.inside.startup c.end.inside.sessions.rows in
    let h : (opened c.end.inside.startup c.args.near c.args.fields.now.payload.now ≡ Some c.apply_responder_keying-fact.result) ×
    (c.apply_responder_keying-fact.new.self ≡ after_opening c.end.inside.startup c.args.near c.apply_responder_keying-fact.result) =
    (c.apply_responder_keying-fact.ensures.fact, c.apply_responder_keying-fact.ensures.after) in
    let t : State = state_of c.end.inside.settings c.end.inside.moment c.end.inside.sealed c.end.inside.limit c.end.inside.groups c.apply_responder_keying-fact.new.self c.keep_opened.new.sessions.rows in
    let u : State = state_of c.end.inside.settings c.end.inside.moment c.end.inside.sealed c.end.inside.limit c.end.inside.groups c.apply_responder_keying-fact.new.self c.reserve.new.self.rows in
    let kept : IsEnd c.end.inside.settings c.end.inside.print c.apply_responder_keying-fact.new.self =
    kept_opening c.end.inside.settings c.end.inside.print c.end.inside.startup c.apply_responder_keying-fact.new.self
    c.args.near c.apply_responder_keying-fact.result c.end.invariant h.1 in
    let g : GroupSecret = c.copy-group.result in
    let put : u ≡ with_startup v (after_opening c.end.inside.startup c.args.near c.apply_responder_keying-fact.result) =
    startup_put c.end.inside.settings c.end.inside.moment c.end.inside.sealed c.end.inside.limit c.end.inside.groups c.end.inside.startup c.apply_responder_keying-fact.new.self
    (after_opening c.end.inside.startup c.args.near c.apply_responder_keying-fact.result) c.end.inside.sessions.rows c.reserve.new.self.rows c.reserve.ensures.rows h.1 in
    let opens : t ≡ with_opened u c.apply_responder_keying-fact.result c.args.from.now g =
    opened_state c.end.inside.settings c.end.inside.moment c.end.inside.sealed c.end.inside.limit c.end.inside.groups c.apply_responder_keying-fact.new.self c.reserve.new.self.rows c.keep_opened.new.sessions.rows
    c.apply_responder_keying-fact.result c.args.from.now c.end.inside.print g kept.print_is c.keep_opened.ensures in
    let added : IsAdded c.args.out.now c.add.new.self (FactEntry c.apply_responder_keying-fact.result ∷ []) =
    record { entries_are = c.add.ensures.entries ∙ ap (λ xs. xs ++ FactEntry c.apply_responder_keying-fact.result ∷ []) c.make_room.ensures.entries; free = omega (arith, c.add.ensures.free, c.make_room.ensures.free); room = c.add.ensures.room ∙ c.make_room.ensures.room } in
    subst (λ (s : State). Done (responder_keyed s c.args.near c.args.from.now c.args.fields.now.payload.now) c.send_in_session.new.self c.args.out.now c.send_in_session.new.out) c.end.view_is
    (opened_so v t c.args.near c.args.from.now c.args.fields.now.payload.now c.apply_responder_keying-fact.result g c.send_in_session.new.self c.args.out.now c.send_in_session.new.out h.0 (c.copy-group.ensures ∙ c.of_attempt.ensures)
    (opens ∙ ap (λ (s : State). with_opened s c.apply_responder_keying-fact.result c.args.from.now g) put)
    (added_first (FactEntry c.apply_responder_keying-fact.result ∷ []) (sent_in_session t c.args.near c.args.from.now (chunk_bytes (Ping []))) c.send_in_session.new.self c.args.out.now c.add.new.self c.send_in_session.new.out added c.send_in_session.ensures))
