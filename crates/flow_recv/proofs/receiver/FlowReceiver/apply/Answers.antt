use Rattle.std.proofs.Common.{◌≡◌, ◌+◌, ◌-◌, ◌∷◌, List, length, cond, None, refl, ap, sym, ◌∙◌, subst, arith, rules}
use Rattle.flow_recv.specs.declared.spans.Span.{Span}
use Rattle.rtmfp_data_chunks.specs.Runs.{Run}
use Rattle.rtmfp_data_chunks.specs.Taken.{chunk_of}
use Rattle.flow_recv.specs.Receiver.{Receiver, Apart, span, add_span, spans_after, runs_after, lacks, held_in, holds, taken}
use Rattle.flow_recv.specs.Outcome.{refusal}
use Rattle.flow_recv.specs.Sound.{Sound}
use Rattle.flow_recv.specs.Order.{Laid, InOrder}
use Rattle.flow_recv.proofs.Knowing.{apart_formed, apart_add}
use Rattle.flow_recv.proofs.Taking.{not_beyond, added_small, held_small}
use Rattle.flow_recv.proofs.Ready.{receiver}
use Rattle.flow_recv.proofs.Placing.{free_from}
use Rattle.flow_recv.proofs.Sounds.{held_runs, runs_are, taken_is, sound_taken}
use Rattle.flow_recv.proofs.Laying.{order_held, order_taken, known_taken, held_with}
use Rattle.flow_recv.proofs.Telling.{top_taken}
use Rattle.flow_recv.proofs.Reaching.{reached_taken}
use Rattle.flow_recv.proofs.receiver.FlowReceiver.apply.Goals as goal

abbrev At : goal.After-took_by → Receiver
At c = let i = c.self.inside in receiver i.arriving i.through i.above i.runs i.last i.highest

abbrev New : goal.After-took_by → Receiver
New c =
    let i = c.self.inside in
    receiver i.arriving c.in-Ok.end c.admit.new.above c.drop_after-dropped.new.runs c.last_after-self-inside.result c.max-self-inside.result

is_taken : (c : goal.After-took_by) → New c ≡ taken (At c) (chunk_of c.args.chunk.now)
is_taken c =
    let i = c.self.inside in
    let d = chunk_of c.args.chunk.now in
    let end = c.in-Ok.end in
    let new = c.admit.new.above in
    let held = c.admit.new.runs in
    let runs = c.drop_after-dropped.new.runs in
    let spans : span 0 end ∷ new ≡ spans_after (At c) d =
    c.in-Ok.ensures.spans in
    let kept : held ≡ held_runs (At c) d = search rules in
    let after : runs ≡ runs_after (At c) d = runs_are (At c) d i.through end i.above new held runs refl c.self.invariant.sound spans kept c.drop_after-dropped.ensures.kept in
    taken_is (At c) d (span 0 end ∷ new) runs c.last_after-self-inside.result c.max-self-inside.result spans after c.last_after-self-inside.ensures c.max-self-inside.ensures

is_sound : (c : goal.After-took_by) → Sound (New c)
is_sound c =
    let d = chunk_of c.args.chunk.now in
    let none : refusal c.args.self.now d ≡ None = search rules in
    let none' : refusal (At c) d ≡ None = subst (λ (v : Receiver). refusal v d ≡ None) (sym c.self.view_is) none in
    subst Sound (sym (is_taken c)) (sound_taken (At c) d c.self.invariant.sound c.requires.below (not_beyond (At c) d none'))

pub invariant_of-self-2 : goal.invariant_of-self-2
invariant_of-self-2 c =
    let i = c.self.inside in
    let d = chunk_of c.args.chunk.now in
    let formed = apart_formed (At c).spans c.self.invariant.sound.apart in
    let left = i.held + c.added_by.result - c.drop_after-dropped.result in
    let kept : c.admit.new.runs ≡ held_runs (At c) d = search rules in
    let added : c.added_by.result ≡ cond (holds (At c) d) (length d.bytes) 0 = search rules in
    let with = held_with (At c) d i.held c.added_by.result c.self.invariant.sum added ∙ ap (λ (ys : List Run). held_in ys) (sym kept) in
    let after = ap (λ (r : Receiver). held_in r.runs) (is_taken c) in
    let laid : Laid (taken (At c) d) left = record {
      reached = reached_taken (At c) d c.self.invariant.reached c.requires.low c.requires.below;
      sound = subst Sound (is_taken c) (is_sound c);
      order = order_taken (At c) d c.self.invariant.known c.self.invariant.order;
      known = known_taken (At c) d formed c.self.invariant.known;
      top = top_taken (At c) d formed c.requires.low c.self.invariant.top;
      sum = omega (arith, with, c.drop_after-dropped.ensures.dropped, after);
    } in
    subst (λ (r : Receiver). Laid r left) (sym (is_taken c)) laid

pub admit-requires-clause-free : goal.admit-requires-clause-free
admit-requires-clause-free c =
    let i = c.self.inside in
    let spans = span 0 i.through ∷ i.above in
    let lack = c.lacks-missing.ensures ∙ ap (λ n. lacks spans n) c.from.ensures in
    λ m. free_from spans c.args.chunk.now.seq i.runs (sym lack ∙ m) c.self.invariant.known

pub overflow_sub-self : goal.overflow_sub-self
overflow_sub-self c =
    let i = c.self.inside in
    let d = chunk_of c.args.chunk.now in
    let r = receiver i.arriving i.through i.above i.runs i.last i.highest in
    let kept : c.admit.new.runs ≡ held_runs r d = search rules in
    let added : c.added_by.result ≡ cond (holds r d) (length d.bytes) 0 = search rules in
    let with = held_with r d i.held c.added_by.result c.self.invariant.sum added ∙ ap (λ (ys : List Run). held_in ys) (sym kept) in
    omega (arith, with, c.drop_after-dropped.ensures.dropped)

pub drop_after-dropped-requires-clause-apart : goal.drop_after-dropped-requires-clause-apart
drop_after-dropped-requires-clause-apart c =
    let i = c.self.inside in
    let d = chunk_of c.args.chunk.now in
    let e = c.in-Ok.ensures.spans in
    let a = subst (λ (ss : List Span). Apart ss) (sym e) (apart_add d.seq d.seq (add_span 0 d.forward (span 0 i.through ∷ i.above)) (omega arith) (apart_add 0 d.forward (span 0 i.through ∷ i.above) (omega arith) c.self.invariant.sound.apart)) in a.2

pub drop_after-dropped-requires-clause-order : goal.drop_after-dropped-requires-clause-order
drop_after-dropped-requires-clause-order c =
    let i = c.self.inside in
    let d = chunk_of c.args.chunk.now in
    let r = receiver i.arriving i.through i.above i.runs i.last i.highest in
    let kept : c.admit.new.runs ≡ held_runs r d = search rules in
    subst (InOrder 0) (sym kept) (order_held r d c.self.invariant.known c.self.invariant.order)

pub drop_after-dropped-requires-clause-few : goal.drop_after-dropped-requires-clause-few
drop_after-dropped-requires-clause-few c =
    let i = c.self.inside in
    let d = chunk_of c.args.chunk.now in
    let r = receiver i.arriving i.through i.above i.runs i.last i.highest in
    let kept : c.admit.new.runs ≡ held_runs r d = search rules in
    let added : c.added_by.result ≡ cond (holds r d) (length d.bytes) 0 = search rules in
    let none : refusal c.args.self.now d ≡ None = search rules in
    let none' : refusal r d ≡ None = subst (λ (v : Receiver). refusal v d ≡ None) (sym c.self.view_is) none in
    let small = added_small r d c.added_by.result c.requires.below (not_beyond r d none') added in
    let sum = held_with r d i.held c.added_by.result c.self.invariant.sum added ∙ ap (λ (ys : List Run). held_in ys) (sym kept) in
    let few = c.self.invariant.sound.bytes in
    omega (arith, small, sum, few, c.self.invariant.sum)

pub returns-clause-taken : goal.returns-clause-taken
returns-clause-taken c = subst (λ (v : Receiver). New c ≡ taken v (chunk_of c.args.chunk.now)) c.self.view_is (is_taken c)

pub returns-clause-sound : goal.returns-clause-sound
returns-clause-sound c = is_sound c

pub admit-requires-clause-few : goal.admit-requires-clause-few
admit-requires-clause-few c a m =
    let i = c.self.inside in
    let d = chunk_of c.args.chunk.now in
    let r = receiver i.arriving i.through i.above i.runs i.last i.highest in
    let none : refusal c.args.self.now d ≡ None = search rules in
    let none' : refusal r d ≡ None = subst (λ (v : Receiver). refusal v d ≡ None) (sym c.self.view_is) none in
    let lack = sym (c.lacks-missing.ensures ∙ ap (λ n. lacks (span 0 i.through ∷ i.above) n) c.from.ensures) ∙ m in
    omega (arith, held_small r d c.requires.below (not_beyond r d none') a lack, c.self.invariant.sound.bytes)
