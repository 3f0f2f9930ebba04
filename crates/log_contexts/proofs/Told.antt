-- What is told by what is kept, and that nothing has session ID 0.
use Rattle.std.proofs.Common.{ℕ, List, ◌∷◌, ◌≡◌, ◌≢◌, ◌==◌, inl, inr, refl, sym, ap, subst, Bool, true, false, ◌||◌, if◌then◌else◌, Option, Some, None, is_some, ◌∙◌}
use Rattle.std.specs.FinMap.{get}
use Rattle.glare_core.specs.declared.facts.Fact.{Fact}
use Rattle.glare_core.specs.declared.facts.Fact.TheVariants.{Started, Born, Opened, Confirmed, Ended}
use Rattle.glare_core.specs.declared.facts.Held.{Held}
use Rattle.glare_core.specs.Things.{IsSession}
use Rattle.endpoint_model.specs.Event.{Setup, Call, ReceiveCall, receive_in}
use Rattle.endpoint_model.specs.declared.entry.Entry.{Entry}
use Rattle.endpoint_model.specs.declared.entry.Entry.TheVariants.{Fact as FactEntry, Closed, Sought, Unsought, Moved, Learnt, Advanced, FlowOpened, Queued, Finished, Abandoned, Handed, Discard, Out}
use Rattle.endpoint_model.proofs.Members.{has, without, tested, has_others, has_gone}
use Rattle.endpoint_laws.specs.Past.{Past, ids_after, ids_in_use, is_close, is_in_use, with_entry}
use Rattle.endpoint_laws.specs.Contexts.{Secrets, SearchUnder, StandsUnder}
use Rattle.endpoint_laws.specs.Lawful.{FactLine, Line, TakesHelloIn}
use Rattle.log_digest.specs.Kept.{Digested}
use Rattle.log_digest.specs.Digest.{IsDigestOf}
use Rattle.log_contexts.specs.Kept.{KeptContexts, generation_in, keying_at, last_in}
use Rattle.log_contexts.specs.Contexts.{AreContextsOf}
use Rattle.log_contexts.specs.Laws.{IsToldOf, KeptTells, NoIdIsZero}

none_some : (g : ℕ) → None ≡ Some g → ⊥
none_some g e = absurd cc

no_keying : (o : Option ℕ) → ((g : ℕ) → o ≡ Some g → ⊥) → o ≡ None
no_keying None never = refl
no_keying (Some g) never = absurd (never g refl)

session_told : (secrets : Secrets) (setup : Setup) (past : Past) (c : KeptContexts) (near : ℕ) (thing : Held) → AreContextsOf secrets setup past c → StandsUnder past near thing → IsSession thing →
    IsToldOf secrets setup past near thing (generation_in (get c.sessions near)) (last_in (get c.sessions near))
session_told secrets setup past c near thing are stands is_session =
    let k = are.session near thing stands is_session in
    let last : last_in (get c.sessions near) ≡ k.heard.last = ap last_in k.kept_is in
    record {
      generation = k.generation;
      began_is = ap generation_in k.kept_is;
      begun = k.begun;
      took = λ moment e. k.hearing.took moment (sym last ∙ e);
      within = λ moment took. let w = k.hearing.within moment took in (w.0, last ∙ w.1, w.2);
    }

pub kept_tells : KeptTells
kept_tells = record {
  hello = λ secrets setup past c near are none generation went. none_some generation (sym none ∙ are.went near generation went);
  in_hello = λ secrets setup past c near are hello. no_keying (keying_at near c.threads) (λ g e. hello g (are.keying near g e));
  session = session_told;
}

-- ---- session ID 0

or_false : (a b : Bool) → a ≡ false → b ≡ false → (a || b) ≡ false
or_false true b e f = absurd cc
or_false false b e f = f

is_other : (near : ℕ) → near ≢ 0 → (near == 0) ≡ false
is_other near some = elim (tested near 0) [ inl zero ↦ absurd (some zero.0) | inr other ↦ other.1 ]

-- none of these is 0
one_more : (near : ℕ) (ids : List ℕ) → near ≢ 0 → has 0 ids ≡ false → has 0 (near ∷ ids) ≡ false
one_more near ids some none = or_false (near == 0) (has 0 ids) (is_other near some) none

one_less : (near : ℕ) (ids : List ℕ) → has 0 ids ≡ false → has 0 (without near ids) ≡ false
one_less near ids none = elim (tested 0 near) [
  | inl zero ↦ subst (λ (n : ℕ). has n (without near ids) ≡ false) (sym zero.0) (has_gone near ids)
  | inr other ↦ has_others 0 near ids other.0 ∙ none
]

less_if : (close : Bool) (near : ℕ) (ids : List ℕ) → has 0 ids ≡ false → has 0 (if close then ids else without near ids) ≡ false
less_if true near ids none = none
less_if false near ids none = one_less near ids none

never_used : true ≡ false → ⊥
never_used e = absurd cc

module _ (secrets : Secrets) (setup : Setup) (now : ℕ) (call : Call) (past : Past) (rest : List Entry) (moment last : ℕ) (d : Digested) (is : IsDigestOf last past d) (none : is_in_use 0 past ≡ false) where
  -- a search that stands hasn't it
  search_other : (near : ℕ) → SearchUnder past near → near ≢ 0
  search_other near s zero =
      let used : is_in_use near past ≡ true = (is.spots_are.spot near).used ∙ ap is_some ((is.spots_are.spot near).search_there s.which s.at s.stands) in
      never_used (sym used ∙ ap (λ (n : ℕ). is_in_use n past) zero ∙ none)

  hello_other : (o : Option ReceiveCall) (peer : List ℕ) (n near : ℕ) (ni : List ℕ) → TakesHelloIn secrets setup past o peer n near ni → near ≢ 0
  hello_other None peer n near ni takes = absurd takes
  hello_other (Some r) peer n near ni takes = search_other near (record { which = _; at = takes.2.at; stands = takes.2.stands })

  of_fact : (g : Fact) → FactLine secrets setup now call past rest g → has 0 (ids_after (Some g) (ids_in_use past)) ≡ false
  of_fact (Started peer n near ni) (inl by_open) = one_more near (without near (ids_in_use past)) by_open.1.some (one_less near (ids_in_use past) none)
  of_fact (Started peer n near ni) (inr hello) = one_more near (without near (ids_in_use past)) (hello_other (receive_in call) peer n near ni hello) (one_less near (ids_in_use past) none)
  of_fact (Born j) line = one_more j.near (ids_in_use past) line.id.some none
  of_fact (Opened j) line = none
  of_fact (Confirmed peer near) line = none
  of_fact (Ended peer near why) line = less_if (is_close why) near (ids_in_use past) none

  of_entry : (entry : Entry) → Line secrets setup now call past rest entry → is_in_use 0 (with_entry moment entry past) ≡ false
  of_entry (FactEntry g) line = of_fact g line.1
  of_entry (Closed near) line = one_less near (ids_in_use past) none
  of_entry (Sought near name) line = one_more near (ids_in_use past) line.0.id.some none
  of_entry (Unsought near why) line = one_less near (ids_in_use past) none
  of_entry (Moved near to) line = none
  of_entry (Learnt generation) line = none
  of_entry (Advanced generation) line = none
  of_entry (FlowOpened near flow) line = none
  of_entry (Queued near flow seq message) line = none
  of_entry (Finished near flow seq) line = none
  of_entry (Abandoned near flow seq) line = none
  of_entry (Handed near flow seq message) line = none
  of_entry (Discard place cause) line = none
  of_entry (Out to datagram context) line = none

pub zero_is_none : NoIdIsZero
zero_is_none = record {
  first = refl;
  begins = λ past moment e none. none;
  adds = λ secrets setup now call past rest entry moment last d is line none. of_entry secrets setup now call past rest moment last d is none entry line;
}
