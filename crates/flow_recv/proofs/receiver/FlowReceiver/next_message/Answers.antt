use Rattle.std.proofs.Common.{◌≡◌, ◌-◌, List, None, Some, ap, sym, ◌∙◌, subst, arith}
use Rattle.std.specs.Option.{option_map}
use Rattle.rtmfp_data_chunks.specs.Runs.{Run, message_of}
use Rattle.flow_recv.specs.Receiver.{Receiver, hands, next_run, handed_next}
use Rattle.flow_recv.specs.Outcome.{message}
use Rattle.flow_recv.specs.Order.{Laid}
use Rattle.flow_recv.proofs.Ready.{receiver, message_eq, held_handed, without_none}
use Rattle.flow_recv.proofs.Sounds.{sound_handed}
use Rattle.flow_recv.proofs.Laying.{order_handed, known_handed}
use Rattle.flow_recv.proofs.Searching.{all_open}
use Rattle.flow_recv.proofs.Reaching.{reached_handed}
use Rattle.flow_recv.proofs.receiver.FlowReceiver.next_message.Goals as goal

pub take_ready-requires-clause-open : goal.take_ready-requires-clause-open
take_ready-requires-clause-open c = let i = c.self.inside in all_open i.through i.above i.runs c.self.invariant.sound.alive

pub returns-in_default-clause-next : goal.returns-in_default-clause-next
returns-in_default-clause-next c = subst (λ (v : Receiver). None ≡ option_map message_of (next_run v)) c.self.view_is (ap (option_map message_of) c.in_default.ensures.run)

pub returns-in_default-clause-rest : goal.returns-in_default-clause-rest
returns-in_default-clause-rest c =
    let i = c.self.inside in
    subst (λ (v : Receiver). receiver i.arriving i.through i.above c.take_ready.new.runs i.last i.highest ≡ handed_next v) c.self.view_is
    (ap (λ (rs : List Run). receiver i.arriving i.through i.above rs i.last i.highest) c.take_ready.ensures.rest)

pub invariant_of-self : goal.invariant_of-self
invariant_of-self c =
    let i = c.self.inside in
    let same : c.take_ready.new.runs ≡ i.runs = c.take_ready.ensures.rest ∙ without_none (hands i.arriving i.through) i.runs (sym c.in_default.ensures.run) in
    subst (λ (rs : List Run). Laid (receiver i.arriving i.through i.above rs i.last i.highest) i.held) (sym same) c.self.invariant

pub overflow_sub-self : goal.overflow_sub-self
overflow_sub-self c =
    let i = c.self.inside in
    let sum = held_handed (hands i.arriving i.through) i.runs c.in-Some.run' (sym c.in-Some.ensures.run) in
    omega (arith, sum, c.len.ensures, c.self.invariant.sum)

abbrev At : goal.After-of → Receiver
At c = let i = c.self.inside in receiver i.arriving i.through i.above i.runs i.last i.highest

abbrev New : goal.After-of → Receiver
New c = let i = c.self.inside in receiver i.arriving i.through i.above c.take_ready.new.runs i.last i.highest

is_handed : (c : goal.After-of) → New c ≡ handed_next (At c)
is_handed c = let i = c.self.inside in ap (λ (rs : List Run). receiver i.arriving i.through i.above rs i.last i.highest) c.take_ready.ensures.rest

pub invariant_of-self-2 : goal.invariant_of-self-2
invariant_of-self-2 c =
    let i = c.self.inside in
    let run = c.in-Some.run' in
    let sum = held_handed (hands i.arriving i.through) i.runs run (sym c.in-Some.ensures.run) in
    let laid : Laid (handed_next (At c)) (i.held - c.len.result) = record {
      reached = reached_handed (At c) run c.self.invariant.reached (sym c.in-Some.ensures.run);
      sound = sound_handed (At c) c.self.invariant.sound;
      order = order_handed (At c) c.self.invariant.order;
      known = known_handed (At c) c.self.invariant.known;
      top = c.self.invariant.top;
      sum = omega (arith, sum, c.len.ensures, c.self.invariant.sum);
    } in
    subst (λ (r : Receiver). Laid r (i.held - c.len.result)) (sym (is_handed c)) laid

pub returns-clause-next : goal.returns-clause-next
returns-clause-next c =
    let run = c.in-Some.run' in
    let m : message c.first-number.result c.of.result ≡ message_of run = message_eq c.first-number.result run.first c.of.result run.bytes c.first-number.ensures (c.of.ensures ∙ c.into_bytes.ensures) in
    subst (λ (v : Receiver). Some (message c.first-number.result c.of.result) ≡ option_map message_of (next_run v)) c.self.view_is (ap (λ x. Some x) m ∙ ap (option_map message_of) c.in-Some.ensures.run)

pub returns-clause-rest : goal.returns-clause-rest
returns-clause-rest c = subst (λ (v : Receiver). New c ≡ handed_next v) c.self.view_is (is_handed c)
