use Rattle.std.proofs.Common.{List, ◌≡◌, Err, sym, ap, ◌∙◌, subst}
use Rattle.rtmfp_packet.specs.Walk.{Placed}
use Rattle.rtmfp_packet.specs.declared.head.PacketHead.{PacketHead}
use Rattle.rtmfp_packet.specs.Chunks.{left}
use Rattle.endpoint_model.specs.Admission.{admission, confirming, counted_at, opened_datagram, timed_at}
use Rattle.endpoint_model.specs.Effects.{WalkStep, outset, steps_of}
use Rattle.endpoint_model.specs.Log.{IsTaken, not_taken}
use Rattle.endpoint_model.specs.State.{State, Did, Done, at_moment}
use Rattle.endpoint.proofs.Confirms.{stopped_before, not_refused, refused_steps, AreRefused}
use Rattle.endpoint.proofs.Extending.{receive_extends}
use Rattle.endpoint.proofs.Taking.{packet_refused, packet_taken, unopened_taken}
use Rattle.endpoint.proofs.Walking.{received_ok, stops_if}
use Rattle.endpoint.proofs.Reaching.{reached_more}
use Rattle.endpoint.proofs.endpoint.Endpoint.receive.Goals as goal

-- ---- a datagram that wasn't opened

unopened : (c : goal.After-refuse_unopened) (now : State) → c.open_datagram.new.end ≡ now → IsTaken now c.args.from c.args.draws.now (admission now c.args.datagram.now) c.refuse_unopened.result c.refuse_unopened.new.end c.args.out.now c.refuse_unopened.new.out
unopened c now same =
    unopened_taken now c.open_datagram.new.end c.args.from c.args.draws.now c.args.datagram.now c.in-Err.cause c.refuse_unopened.result c.refuse_unopened.new.end c.args.out.now c.refuse_unopened.new.out same
    (ap (λ (s : State). opened_datagram s c.args.datagram.now) c.open_datagram.ensures.state ∙ c.in-Err.ensures.err) c.refuse_unopened.ensures.ok c.refuse_unopened.ensures.stop c.refuse_unopened.ensures.enough

pub returns-in-Err-clause-taken : goal.returns-in-Err-clause-taken
returns-in-Err-clause-taken c = unopened c (at_moment c.args.self.now c.args.moment) (c.open_datagram.ensures.state ∙ c.advance.ensures ∙ ap (λ (s : State). at_moment s c.args.moment) c.self.view_is)

pub returns-in-Err-clause-stands : goal.returns-in-Err-clause-stands
returns-in-Err-clause-stands c =
    receive_extends c.args.self.now c.refuse_unopened.new.end c.args.moment c.args.from c.args.datagram.now c.args.draws.now c.refuse_unopened.result c.args.out.now c.refuse_unopened.new.out
    (unopened c (at_moment c.args.self.now c.args.moment) (c.open_datagram.ensures.state ∙ c.advance.ensures ∙ ap (λ (s : State). at_moment s c.args.moment) c.self.view_is))

pub invariant_of-self : goal.invariant_of-self
invariant_of-self c =
    reached_more c.self.inside.end c.refuse_unopened.new.end _ c.self.invariant
    (receive_extends c.self.inside.end c.refuse_unopened.new.end c.args.moment c.args.from c.args.datagram.now c.args.draws.now c.refuse_unopened.result c.args.out.now c.refuse_unopened.new.out
    (unopened c (at_moment c.self.inside.end c.args.moment) (c.open_datagram.ensures.state ∙ c.advance.ensures)))
    (c.are_bytes.ensures, c.are_sized.ensures.nonce, c.are_sized.ensures.word, c.are_sized.ensures.token)

-- ---- one whose packet is refused

refused : (c : goal.After-refuse) (now : State) → c.open_datagram.new.end ≡ now → IsTaken now c.args.from c.args.draws.now (admission now c.args.datagram.now) c.refuse.result c.refuse.new.end c.args.out.now c.refuse.new.out
refused c now same =
    packet_refused now c.open_datagram.new.end c.args.from c.args.draws.now c.args.datagram.now c.open_datagram.new.datagram c.behind-part.result.now c.behind-plain.result.now c.in-Ok.place same
    (record { is = ap (λ (s : State). opened_datagram s c.args.datagram.now) c.open_datagram.ensures.state ∙ c.in-Ok.ensures.ok; front = c.in-Ok.ensures.front; part_is = c.behind-part.ensures.value; plain_is = c.behind-plain.ensures.value })
    c.in-Err-packet_at.cause c.refuse.result c.refuse.new.end c.args.out.now c.refuse.new.out c.in-Err-packet_at.ensures.err c.refuse.ensures.ok c.refuse.ensures.stop c.refuse.ensures.enough

pub returns-in-Err-packet_at-clause-taken : goal.returns-in-Err-packet_at-clause-taken
returns-in-Err-packet_at-clause-taken c = refused c (at_moment c.args.self.now c.args.moment) (c.open_datagram.ensures.state ∙ c.advance.ensures ∙ ap (λ (s : State). at_moment s c.args.moment) c.self.view_is)

pub returns-in-Err-packet_at-clause-stands : goal.returns-in-Err-packet_at-clause-stands
returns-in-Err-packet_at-clause-stands c =
    receive_extends c.args.self.now c.refuse.new.end c.args.moment c.args.from c.args.datagram.now c.args.draws.now c.refuse.result c.args.out.now c.refuse.new.out
    (refused c (at_moment c.args.self.now c.args.moment) (c.open_datagram.ensures.state ∙ c.advance.ensures ∙ ap (λ (s : State). at_moment s c.args.moment) c.self.view_is))

pub invariant_of-self-in-Err-packet_at : goal.invariant_of-self-in-Err-packet_at
invariant_of-self-in-Err-packet_at c =
    reached_more c.self.inside.end c.refuse.new.end _ c.self.invariant
    (receive_extends c.self.inside.end c.refuse.new.end c.args.moment c.args.from c.args.datagram.now c.args.draws.now c.refuse.result c.args.out.now c.refuse.new.out
    (refused c (at_moment c.self.inside.end c.args.moment) (c.open_datagram.ensures.state ∙ c.advance.ensures)))
    (c.are_bytes.ensures, c.are_sized.ensures.nonce, c.are_sized.ensures.word, c.are_sized.ensures.token)

-- ---- one that is taken

taken : (c : goal.After-go_through) (now : State) → c.open_datagram.new.end ≡ now → IsTaken now c.args.from c.args.draws.now (admission now c.args.datagram.now) c.go_through.result c.go_through.new.end c.args.out.now c.go_through.new.out
taken c now same =
    let s : State = c.open_datagram.new.end in
    let P : PacketHead → Type 0 = λ h. Done (confirming (timed_at (counted_at s c.in-Ok.place c.behind-part.result.now) c.in-Ok.place h) c.in-Ok.place) c.enter.new.end c.args.out.now c.enter.new.out in
    let entered = subst P c.head.ensures c.in-Ok-enter.ensures.ok in
    packet_taken now s c.args.from c.args.draws.now c.args.datagram.now c.open_datagram.new.datagram c.behind-part.result.now c.behind-plain.result.now c.in-Ok.place same
    (record { is = ap (λ (s : State). opened_datagram s c.args.datagram.now) c.open_datagram.ensures.state ∙ c.in-Ok.ensures.ok; front = c.in-Ok.ensures.front; part_is = c.behind-part.ensures.value; plain_is = c.behind-plain.ensures.value })
    c.in-Ok-packet_at.packet c.go_through.result c.go_through.new.end c.args.out.now c.go_through.new.out c.in-Ok-packet_at.ensures.ok
    (record {
      ok =
          received_ok s c.in-Ok.place c.behind-part.result.now c.args.from c.args.draws.now c.in-Ok-packet_at.packet c.go_through.result (left c.chunks.result) c.enter.new.end c.go_through.new.end
          c.args.out.now c.enter.new.out c.go_through.new.out c.chunks.ensures entered c.go_through.ensures.ok;
      stop =
          stops_if s c.in-Ok.place c.behind-part.result.now c.args.from c.args.draws.now c.in-Ok-packet_at.packet c.go_through.result (left c.chunks.result) c.enter.new.end c.go_through.new.end
          c.args.out.now c.enter.new.out c.go_through.new.out c.chunks.ensures entered c.go_through.ensures.stop;
      enough = λ refused room.
          let steps : List Placed → List WalkStep = steps_of c.in-Ok.place c.args.from c.args.draws.now outset c.enter.new.end in
          let are : AreRefused c.enter.new.end c.in-Ok.place c.args.from c.args.draws.now (steps (left c.chunks.result)) c.enter.new.out.free =
          subst (λ (cs : List Placed). AreRefused c.enter.new.end c.in-Ok.place c.args.from c.args.draws.now (steps cs) c.enter.new.out.free) (sym c.chunks.ensures)
          (refused_steps s c.enter.new.end c.in-Ok.place c.behind-part.result.now c.args.from c.args.draws.now c.in-Ok-packet_at.packet c.args.out.now c.enter.new.out entered refused room) in
          c.go_through.ensures.enough are.quiet are.ends are.room;
    })

pub returns-in-Ok-enter-clause-taken : goal.returns-in-Ok-enter-clause-taken
returns-in-Ok-enter-clause-taken c = taken c (at_moment c.args.self.now c.args.moment) (c.open_datagram.ensures.state ∙ c.advance.ensures ∙ ap (λ (s : State). at_moment s c.args.moment) c.self.view_is)

pub returns-in-Ok-enter-clause-stands : goal.returns-in-Ok-enter-clause-stands
returns-in-Ok-enter-clause-stands c =
    receive_extends c.args.self.now c.go_through.new.end c.args.moment c.args.from c.args.datagram.now c.args.draws.now c.go_through.result c.args.out.now c.go_through.new.out
    (taken c (at_moment c.args.self.now c.args.moment) (c.open_datagram.ensures.state ∙ c.advance.ensures ∙ ap (λ (s : State). at_moment s c.args.moment) c.self.view_is))

pub invariant_of-self-in-Ok-enter : goal.invariant_of-self-in-Ok-enter
invariant_of-self-in-Ok-enter c =
    reached_more c.self.inside.end c.go_through.new.end _ c.self.invariant
    (receive_extends c.self.inside.end c.go_through.new.end c.args.moment c.args.from c.args.datagram.now c.args.draws.now c.go_through.result c.args.out.now c.go_through.new.out
    (taken c (at_moment c.self.inside.end c.args.moment) (c.open_datagram.ensures.state ∙ c.advance.ensures)))
    (c.are_bytes.ensures, c.are_sized.ensures.nonce, c.are_sized.ensures.word, c.are_sized.ensures.token)

-- ---- one for whose fact no memory was found

stopped : (c : goal.In-Err-enter) (now : State) → c.open_datagram.new.end ≡ now → IsTaken now c.args.from c.args.draws.now (admission now c.args.datagram.now) (Err not_taken) c.enter.new.end c.args.out.now c.enter.new.out
stopped c now same =
    let s : State = c.open_datagram.new.end in
    packet_taken now s c.args.from c.args.draws.now c.args.datagram.now c.open_datagram.new.datagram c.behind-part.result.now c.behind-plain.result.now c.in-Ok.place same
    (record { is = ap (λ (s : State). opened_datagram s c.args.datagram.now) c.open_datagram.ensures.state ∙ c.in-Ok.ensures.ok; front = c.in-Ok.ensures.front; part_is = c.behind-part.ensures.value; plain_is = c.behind-plain.ensures.value })
    c.in-Ok-packet_at.packet (Err not_taken) c.enter.new.end c.args.out.now c.enter.new.out c.in-Ok-packet_at.ensures.ok
    (record {
      ok = tt;
      stop =
          stopped_before (λ (d : Did). Done d c.enter.new.end c.args.out.now c.enter.new.out) s c.in-Ok.place c.behind-part.result.now c.args.from c.args.draws.now c.in-Ok-packet_at.packet
          c.in-Err-enter.ensures.confirms c.in-Err-enter.ensures.err;
      enough = λ refused room. not_refused _ s c.in-Ok.place c.behind-part.result.now c.args.from c.args.draws.now c.in-Ok-packet_at.packet c.in-Err-enter.ensures.confirms refused;
    })

pub returns-in-Err-enter-clause-taken : goal.returns-in-Err-enter-clause-taken
returns-in-Err-enter-clause-taken c = stopped c (at_moment c.args.self.now c.args.moment) (c.open_datagram.ensures.state ∙ c.advance.ensures ∙ ap (λ (s : State). at_moment s c.args.moment) c.self.view_is)

pub returns-in-Err-enter-clause-stands : goal.returns-in-Err-enter-clause-stands
returns-in-Err-enter-clause-stands c =
    receive_extends c.args.self.now c.enter.new.end c.args.moment c.args.from c.args.datagram.now c.args.draws.now (Err not_taken) c.args.out.now c.enter.new.out
    (stopped c (at_moment c.args.self.now c.args.moment) (c.open_datagram.ensures.state ∙ c.advance.ensures ∙ ap (λ (s : State). at_moment s c.args.moment) c.self.view_is))

pub invariant_of-self-in-Err-enter : goal.invariant_of-self-in-Err-enter
invariant_of-self-in-Err-enter c =
    reached_more c.self.inside.end c.enter.new.end _ c.self.invariant
    (receive_extends c.self.inside.end c.enter.new.end c.args.moment c.args.from c.args.datagram.now c.args.draws.now (Err not_taken) c.args.out.now c.enter.new.out
    (stopped c (at_moment c.self.inside.end c.args.moment) (c.open_datagram.ensures.state ∙ c.advance.ensures)))
    (c.are_bytes.ensures, c.are_sized.ensures.nonce, c.are_sized.ensures.word, c.are_sized.ensures.token)
