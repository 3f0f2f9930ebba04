-- The number of each attempt is one of 64 bits: the last one that is given is the greatest of them.
use Rattle.std.proofs.Common.{◌≡◌, ℕ, ◌+◌, ◌-◌, ◌^◌, ◌<◌, ◌==◌, List, [], ◌∷◌, false, None, sym, subst, arith, inl, inr, Option, Some, refl}
use Rattle.std.proofs.lemmas.Bool.Decides.{nat_tests}
use Rattle.std.specs.Str.{bytes_eq}
use Rattle.rtmfp_forms.specs.Address.{AddressParts}
use Rattle.glare_core.specs.declared.facts.Fact.{Fact}
use Rattle.glare_core.specs.declared.facts.Fact.TheVariants.{Started, Born, Opened, Confirmed, Ended}
use Rattle.glare_core.specs.declared.answers.StartRefusal.TheVariants.{OwnPrint, AttemptsSpent, PeersFull}
use Rattle.glare_core.specs.Standing.{count}
use Rattle.glare_core.specs.Ledger.{Ledger, held_with, row_count}
use Rattle.rtmfp_base.specs.Reasons.{where_true}
use Rattle.glare_core.specs.Calls.{start_held, peers_full}
use Rattle.glare_core.proofs.Accounts.{reads_started}
use Rattle.startup.specs.Attempts.{begin_spread, after_begin}
use Rattle.endpoint_model.proofs.Apart.{opens_alone}
use Rattle.endpoint_model.specs.Views.{fact_in}
use Rattle.endpoint_laws.proofs.NoFacts.{NoFactAnd, NoFacts, the_rest, none_sends}
use Rattle.endpoint_laws.proofs.Made.{spread_made}
use Rattle.endpoint_model.specs.declared.config.Draws.{Draws}
use Rattle.endpoint_model.specs.declared.entry.Entry.{Entry}
use Rattle.endpoint_model.specs.declared.entry.Entry.TheVariants.{Fact as FactEntry}
use Rattle.endpoint_model.specs.Event.{Setup, own_of, Call, Open, Answer, Began, NotOpened, OpenCall, ReceiveCall, open_in, receive_in}
use Rattle.endpoint_laws.specs.Contexts.{Secrets}
use Rattle.endpoint_laws.specs.Past.{Past, stamped, onto, facts_of, fact_and}
use Rattle.endpoint_laws.specs.Lawful.{Opens, FactLine, IsCounted, OpensIn, TakesHelloIn}
use Rattle.endpoint_model.specs.State.{State, with_startup, free_from}
use Rattle.endpoint_model.specs.Sending.{sent_each}
use Rattle.endpoint_model.specs.Effects.{open_refusal, opening}
use Rattle.endpoint_model.specs.Log.{Answers}
use Rattle.endpoint_laws.proofs.Counted.{count_more}
use Rattle.endpoint_laws.proofs.Facts.{all_none, test_fails}
use Rattle.endpoint_laws.proofs.Lines.{EntriesMeet, FactPart, CountPart, FactMeets, CountMeets}
use Rattle.endpoint_laws.proofs.Tied.{Tied}
use Rattle.endpoint_laws.proofs.Starting.{may_start}

-- ---- entries that are no facts

none_counted : (o : Option Fact) (P : Type 0) → NoFactAnd o P → CountMeets o
none_counted None P none = tt
none_counted (Some fact) P none = absurd none

no_facts_counted : (secrets : Secrets) (setup : Setup) (now : ℕ) (call : Call) (past : Past) (entries : List Entry) → NoFacts entries → EntriesMeet CountPart secrets setup now call past entries
no_facts_counted secrets setup now call past [] none = tt
no_facts_counted secrets setup now call past (entry ∷ rest) none =
    (none_counted (fact_in entry) (NoFacts rest) none, no_facts_counted secrets setup now call (stamped now entry ∷ past) rest (the_rest (fact_in entry) (NoFacts rest) none))

-- ---- a call that opens no attempt

abbrev IsNotOpen : Call → Type 0
IsNotOpen call = open_in call ≡ None

-- an attempt that answers a search has a number of 64 bits
hello_counted : (secrets : Secrets) (setup : Setup) (past : Past) (peer : List ℕ) (n near : ℕ) (ni : List ℕ) (o : Option ReceiveCall) → TakesHelloIn secrets setup past o peer n near ni → n < 2 ^ 64
hello_counted secrets setup past peer n near ni None hello = absurd hello
hello_counted secrets setup past peer n near ni (Some r) hello = hello.2.number

opens_none : (call : Call) (peer ni : List ℕ) → IsNotOpen call → Opens call peer ni → ⊥
opens_none call peer ni other by = subst (λ (o : Option OpenCall). OpensIn o peer ni) other by

fact_counted : (secrets : Secrets) (setup : Setup) (now : ℕ) (call : Call) (past : Past) (rest : List Entry) (fact : Fact) → IsNotOpen call → FactLine secrets setup now call past rest fact → IsCounted fact
fact_counted secrets setup now call past rest (Started peer n near ni) other (inl by_open) = absurd (opens_none call peer ni other by_open.0)
fact_counted secrets setup now call past rest (Started peer n near ni) other (inr hello) = hello_counted secrets setup past peer n near ni (receive_in call) hello
fact_counted secrets setup now call past rest (Born j) other line = tt
fact_counted secrets setup now call past rest (Opened j) other line = tt
fact_counted secrets setup now call past rest (Confirmed peer near) other line = tt
fact_counted secrets setup now call past rest (Ended peer near why) other line = tt

by_counted : (secrets : Secrets) (setup : Setup) (now : ℕ) (call : Call) (past : Past) (rest : List Entry) (o : Option Fact) → IsNotOpen call → FactMeets secrets setup now call past rest o → CountMeets o
by_counted secrets setup now call past rest None other meets = tt
by_counted secrets setup now call past rest (Some fact) other meets = fact_counted secrets setup now call past rest fact other meets.1

other_counted : (secrets : Secrets) (setup : Setup) (now : ℕ) (call : Call) (past : Past) (entries : List Entry) → IsNotOpen call → EntriesMeet FactPart secrets setup now call past entries → EntriesMeet CountPart secrets setup now call past entries
other_counted secrets setup now call past [] other meets = tt
other_counted secrets setup now call past (entry ∷ rest) other meets =
    (by_counted secrets setup now call past rest (fact_in entry) other meets.0.0, other_counted secrets setup now call (stamped now entry ∷ past) rest other meets.1)

-- ---- the count after an event

few_with : (secrets : Secrets) (setup : Setup) (now : ℕ) (call : Call) (past : Past) (rest : List Entry) (o : Option Fact) → FactMeets secrets setup now call past rest o → CountMeets o →
    count (facts_of past) < 2 ^ 64 → count (fact_and o (facts_of past)) < 2 ^ 64
few_with secrets setup now call past rest None f n few = few
few_with secrets setup now call past rest (Some fact) f n few = count_more (own_of setup) (facts_of past) fact few f.0 n

pub few_after : (secrets : Secrets) (setup : Setup) (now : ℕ) (call : Call) (past : Past) (entries : List Entry) → EntriesMeet FactPart secrets setup now call past entries → EntriesMeet CountPart secrets setup now call past entries →
    count (facts_of past) < 2 ^ 64 → count (facts_of (onto now entries past)) < 2 ^ 64
few_after secrets setup now call past [] f n few = few
few_after secrets setup now call past (entry ∷ rest) f n few =
    few_after secrets setup now call (stamped now entry ∷ past) rest f.1 n.1 (few_with secrets setup now call past rest (fact_in entry) f.0.0 n.0 few)

-- ---- an attempt

not_last : (s : State) (peer : List ℕ) (candidates : List AddressParts) → open_refusal s peer candidates ≡ None → (s.startup.ledger.started == 2 ^ 64 - 1) ≡ false
not_last s peer candidates none =
    let l : Ledger = s.startup.ledger in
    let each = all_none (where_true (bytes_eq peer l.own) OwnPrint ∷ start_held (held_with l peer) ∷ where_true (l.started == 2 ^ 64 - 1) AttemptsSpent ∷ where_true (peers_full l peer) (PeersFull (row_count l)) ∷ [])
    (may_start s peer candidates none).start in
    test_fails (l.started == 2 ^ 64 - 1) AttemptsSpent each.1.1.0

next_fits : (n : ℕ) → n < 2 ^ 64 → (n == 2 ^ 64 - 1) ≡ false → n + 1 < 2 ^ 64
next_fits n few other = grind (arith, nat_tests)

opening_counted : (secrets : Secrets) (setup : Setup) (now : ℕ) (past : Past) (s : State) (peer : List ℕ) (candidates : List AddressParts) (draws : Draws) (entries : List Entry) → Tied secrets setup past s → count (facts_of past) < 2 ^ 64 →
    open_refusal s peer candidates ≡ None → entries ≡ (opening s peer candidates draws).entries → EntriesMeet CountPart secrets setup now (Open peer candidates draws) past entries
opening_counted secrets setup now past s peer candidates draws entries tied few none is =
    let started : s.startup.ledger.started ≡ 0 + count (facts_of past) = reads_started 0 s.startup.ledger (facts_of past) tied.account in
    let fact : Fact = Started peer (s.startup.ledger.started + 1) (free_from s draws.word) draws.nonce in
    let t : State = with_startup s (after_begin s.startup peer candidates (free_from s draws.word) draws.nonce draws.tag s.moment) in
    let spread = begin_spread s.startup peer candidates draws.nonce draws.tag s.moment in
    subst (λ (es : List Entry). EntriesMeet CountPart secrets setup now (Open peer candidates draws) past es) (sym is) (
      next_fits s.startup.ledger.started (omega (arith, started, few)) (not_last s peer candidates none),
      no_facts_counted secrets setup now (Open peer candidates draws) (stamped now (FactEntry fact) ∷ past) (sent_each t spread.plain spread.to).entries (spread_made none_sends t spread),
    )

-- ---- a call

opening_answers : (secrets : Secrets) (setup : Setup) (now : ℕ) (past : Past) (s t : State) (peer : List ℕ) (candidates : List AddressParts) (draws : Draws) (answer : Answer) (entries : List Entry) → Tied secrets setup past s →
    count (facts_of past) < 2 ^ 64 → Answers s (Open peer candidates draws) answer entries t → EntriesMeet CountPart secrets setup now (Open peer candidates draws) past entries
opening_answers secrets setup now past s t peer candidates draws (Began n) entries tied few h = opening_counted secrets setup now past s peer candidates draws entries tied few h.0 h.2.entries
opening_answers secrets setup now past s t peer candidates draws (NotOpened refusal) entries tied few h =
    subst (λ (es : List Entry). EntriesMeet CountPart secrets setup now (Open peer candidates draws) past es) (sym h.1.entries) tt
opening_answers secrets setup now past s t peer candidates draws _ entries tied few h = absurd h

-- Only an open adds a number, or the answer to a search, whose line says that it is one of 64 bits.
pub answers_counted : (secrets : Secrets) (setup : Setup) (now : ℕ) (past : Past) (s t : State) (call : Call) (answer : Answer) (entries : List Entry) → Tied secrets setup past s → count (facts_of past) < 2 ^ 64 →
    EntriesMeet FactPart secrets setup now call past entries → Answers s call answer entries t → EntriesMeet CountPart secrets setup now call past entries
answers_counted secrets setup now past s t call answer entries tied few meets h = by (open_in call) refl
  where
    by : (o : Option OpenCall) → open_in call ≡ o → EntriesMeet CountPart secrets setup now call past entries
    by None e = other_counted secrets setup now call past entries e meets
    by (Some o) e =
        let is : call ≡ Open o.peer o.candidates o.draws = opens_alone call o e in
        subst (λ (c : Call). EntriesMeet CountPart secrets setup now c past entries) (sym is)
        (opening_answers secrets setup now past s t o.peer o.candidates o.draws answer entries tied few (subst (λ (c : Call). Answers s c answer entries t) is h))
