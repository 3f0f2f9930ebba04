use Rattle.std.proofs.Common.{◌≡◌, is_none, sym, ap, ◌∙◌, Ok, Some, None, IsTrue}
use Rattle.glare_core.specs.Ledger.{held_with}
use Rattle.startup.specs.declared.answer.Keyed.{Keyed}
use Rattle.startup.specs.declared.answer.Keyed.TheVariants as keyed
use Rattle.startup.specs.declared.answer.KeyRefusal.{KeyRefusal}
use Rattle.startup.specs.declared.answer.KeyRefusal.TheVariants.{Memory}
use Rattle.startup.specs.declared.judging.Hearing.{Hearing}
use Rattle.startup.specs.Keyings.{keyed as keyed_now, keyed_reading, after_keying, after_keyed_reading, bears, bears_reading, again_or_birth, after_again_or_birth}
use Rattle.startup_packets.specs.Read.{initiator_of}
use Rattle.startup.proofs.Judged.{birth_so, change_so, again_so, if_ok, if_err}
use Rattle.startup.proofs.Stepping.{repeated_is_born}
use Rattle.startup.proofs.startup.Startup.apply_initiator_keying.Goals as goal

pub bear-requires-clause-other : goal.bear-requires-clause-other
bear-requires-clause-other c =
    let is_bears = birth_so c.args.self.now c.args.fields.now.payload.now c.args.from.now c.args.moment c.requires.judged.0 c.args.under.now (initiator_of c.args.fields.now) c.args.near c.args.nr c.in-Birth.keying c.in-Birth.way
    (c.requires.judged.1 ∙ ap (λ (h : Hearing). Ok h) c.in-Birth.is) in
    is_bears.other

pub bear-requires-clause-judged : goal.bear-requires-clause-judged
bear-requires-clause-judged c =
    let is_bears = birth_so c.args.self.now c.args.fields.now.payload.now c.args.from.now c.args.moment c.requires.judged.0 c.args.under.now (initiator_of c.args.fields.now) c.args.near c.args.nr c.in-Birth.keying c.in-Birth.way
    (c.requires.judged.1 ∙ ap (λ (h : Hearing). Ok h) c.in-Birth.is) in
    (is_none c.requires.judged.0, is_bears.judged_so)

pub bear-requires-clause-fresh : goal.bear-requires-clause-fresh
bear-requires-clause-fresh c =
    let is_bears = birth_so c.args.self.now c.args.fields.now.payload.now c.args.from.now c.args.moment c.requires.judged.0 c.args.under.now (initiator_of c.args.fields.now) c.args.near c.args.nr c.in-Birth.keying c.in-Birth.way
    (c.requires.judged.1 ∙ ap (λ (h : Hearing). Ok h) c.in-Birth.is) in
    is_bears.fresh

pub returns-in-Change-clause-ok : goal.returns-in-Change-clause-ok
returns-in-Change-clause-ok c =
    let so = change_so c.args.self.now c.args.fields.now.payload.now c.args.from.now c.args.moment c.requires.judged.0 c.args.under.now (initiator_of c.args.fields.now) c.args.near c.args.nr
    (c.requires.judged.1 ∙ ap (λ (h : Hearing). Ok h) c.in-Change.is) in (
      ap (keyed_reading c.args.self.now c.args.from.now c.args.moment c.args.near c.args.nr c.args.under.now) c.requires.reads ∙ so.gives ∙ sym (ap (λ a. Some (keyed.Change a)) c.change_answer.ensures),
      sym (ap (after_keyed_reading c.args.self.now c.args.from.now c.args.moment c.args.near c.args.nr c.args.under.now) c.requires.reads ∙ so.leaves),
    )

pub again-requires : goal.again-requires
again-requires c =
    let so = again_so c.args.self.now c.args.fields.now.payload.now c.args.from.now c.args.moment c.requires.judged.0 c.args.under.now (initiator_of c.args.fields.now) c.args.near c.args.nr c.in-Again.keying c.in-Again.session
    (c.requires.judged.1 ∙ ap (λ (h : Hearing). Ok h) c.in-Again.is) in
    repeated_is_born (held_with c.args.self.now.ledger c.in-Again.keying.peer) c.in-Again.keying c.in-Again.session so.held_is

pub returns-in-Again-clause-ok : goal.returns-in-Again-clause-ok
returns-in-Again-clause-ok c =
    let so = again_so c.args.self.now c.args.fields.now.payload.now c.args.from.now c.args.moment c.requires.judged.0 c.args.under.now (initiator_of c.args.fields.now) c.args.near c.args.nr c.in-Again.keying c.in-Again.session
    (c.requires.judged.1 ∙ ap (λ (h : Hearing). Ok h) c.in-Again.is) in (
      ap (keyed_reading c.args.self.now c.args.from.now c.args.moment c.args.near c.args.nr c.args.under.now) c.requires.reads ∙ so.gives.gives ∙ c.again.ensures,
      sym (ap (after_keyed_reading c.args.self.now c.args.from.now c.args.moment c.args.near c.args.nr c.args.under.now) c.requires.reads ∙ so.gives.leaves),
    )

pub returns-in-Birth-clause-ok : goal.returns-in-Birth-clause-ok
returns-in-Birth-clause-ok c =
    let is_bears = birth_so c.args.self.now c.args.fields.now.payload.now c.args.from.now c.args.moment c.requires.judged.0 c.args.under.now (initiator_of c.args.fields.now) c.args.near c.args.nr c.in-Birth.keying c.in-Birth.way
    (c.requires.judged.1 ∙ ap (λ (h : Hearing). Ok h) c.in-Birth.is) in
    if_ok (λ (answer : Keyed). (Some answer ≡ again_or_birth c.args.self.now c.in-Birth.keying c.args.from.now c.args.near c.args.nr c.args.under.now None) ×
    (c.bear.new.self ≡ after_again_or_birth c.args.self.now c.in-Birth.keying c.args.near c.args.nr c.args.under.now None))
    (λ (answer : Keyed). (keyed_now c.args.self.now c.args.fields.now.payload.now c.args.from.now c.args.moment c.args.near c.args.nr c.args.under.now ≡ Some answer) ×
    (c.bear.new.self ≡ after_keying c.args.self.now c.args.fields.now.payload.now c.args.from.now c.args.moment c.args.near c.args.nr c.args.under.now))
    c.bear.result (λ answer h. (
      ap (keyed_reading c.args.self.now c.args.from.now c.args.moment c.args.near c.args.nr c.args.under.now) c.requires.reads ∙ is_bears.gives.gives ∙ sym h.0,
      h.1 ∙ sym (ap (after_keyed_reading c.args.self.now c.args.from.now c.args.moment c.args.near c.args.nr c.args.under.now) c.requires.reads ∙ is_bears.gives.leaves),
    )) c.bear.ensures.ok

pub returns-in-Birth-clause-memory : goal.returns-in-Birth-clause-memory
returns-in-Birth-clause-memory c =
    let is_bears = birth_so c.args.self.now c.args.fields.now.payload.now c.args.from.now c.args.moment c.requires.judged.0 c.args.under.now (initiator_of c.args.fields.now) c.args.near c.args.nr c.in-Birth.keying c.in-Birth.way
    (c.requires.judged.1 ∙ ap (λ (h : Hearing). Ok h) c.in-Birth.is) in
    if_err (λ (refusal : KeyRefusal). refusal ≡ Memory) (λ (refusal : KeyRefusal). (refusal ≡ Memory) × IsTrue (bears c.args.self.now c.args.fields.now.payload.now c.args.from.now c.args.moment))
    c.bear.result (λ refusal h. (h, ap (bears_reading c.args.self.now c.args.from.now c.args.moment) c.requires.reads ∙ is_bears.bears_it)) c.bear.ensures.memory
