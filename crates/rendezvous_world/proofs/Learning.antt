-- What an end learns is the secret that the group has for its next generation.
use Rattle.std.proofs.Common.{◌≡◌, ◌≢◌, ℕ, ◌+◌, ◌-◌, ◌^◌, ◌<◌, ◌==◌, List, [], ◌∷◌, ◌++◌, ◌⊎◌, Bool, true, false, Option, Some, None, inl, inr, refl, sym, ap, subst, ◌∙◌, arith}
use Rattle.std.specs.FinMap.{get}
use Rattle.std.proofs.Math.Nat.{mod-eq_of_lt}
use Rattle.std.proofs.lemmas.Bool.Decides.{nat_tests}
use Rattle.rtmfp_base.specs.Reasons.{where_true, first_that_stands}
use Rattle.session_flows.specs.declared.refusal.CallRefusal.{CallRefusal}
use Rattle.session_flows.specs.declared.refusal.CallRefusal.TheVariants.{GenerationsSpent}
use Rattle.endpoint_model.specs.declared.entry.Entry.{Entry}
use Rattle.endpoint_model.specs.Event.{Setup, Call, Learn, Answer, Succeeds, Refused, Event, learn_in, moment_at}
use Rattle.endpoint_model.specs.Views.{learnt_in}
use Rattle.endpoint_model.specs.State.{State, at_moment}
use Rattle.endpoint_model.specs.Succession.{next_known, last_generation, learn_refusal, learning}
use Rattle.endpoint_model.specs.Log.{Answers, Step as StepOf, StandsFor}
use Rattle.endpoint_laws.specs.Past.{Past, begun, stamped, onto, with_event, last_call, last_moment, learn_of, WasLearnt, past_of, past_of_log}
use Rattle.endpoint_laws.specs.Contexts.{Knows}
use Rattle.endpoint_laws.specs.Laws.{IsSetup, AreCalls}
use Rattle.endpoint_laws.specs.Groups.{KeepsItsGroups}
use Rattle.endpoint_laws.proofs.Groups.{groups_of_log}
use Rattle.counted_secrets.specs.Secrets.{counted_secret, secret_after}
use Rattle.counted_secrets.proofs.Counted.{known_below, none_above}
use Rattle.rendezvous_world.specs.Seen.{group_secrets}
use Rattle.rendezvous_world.specs.Deed.{Learns, Deed, Calls}
use Rattle.rendezvous_world.specs.History.{call_by, given_by}
use Rattle.rendezvous_world.proofs.Ends.{below_or_not}

-- ---- what an event adds to what was learnt

-- one of the entries tells that this generation was learnt
abbrev TellsLearnt : ℕ → List Entry → Type 0
TellsLearnt generation [] = ⊥
TellsLearnt generation (entry ∷ rest) = (learnt_in entry ≡ Some generation) ⊎ TellsLearnt generation rest

learnt_onto : (now : ℕ) (entries : List Entry) (past : Past) (call : Call) (generation : ℕ) (secret : List ℕ) → last_call past ≡ Some call → WasLearnt generation secret (onto now entries past) →
    ((learn_in call ≡ Some secret) × TellsLearnt generation entries) ⊎ WasLearnt generation secret past
learnt_onto now [] past call generation secret last was = inr was
learnt_onto now (entry ∷ rest) past call generation secret last was = elim (learnt_onto now rest (stamped now entry ∷ past) call generation secret last was) [
  | inl later ↦ inl (later.0, inr later.1)
  | inr here ↦ (elim here [
    | inl own ↦ inl (sym (ap learn_of last) ∙ own.1, inl own.0)
    | inr old ↦ inr old
  ])
]

-- an event after a log
past_more : (last : ℕ) (past : Past) (log : List Event) (e : Event) → past_of last past (log ++ e ∷ []) ≡ with_event (moment_at (last_moment last log) e) e (past_of last past log)
past_more last past [] e = refl
past_more last past (x ∷ log) e = past_more (moment_at last x) (with_event (moment_at last x) x past) log e

-- a secret was learnt before, or the event learns it
learnt_by : (now : ℕ) (e : Event) (past : Past) (generation : ℕ) (secret : List ℕ) → WasLearnt generation secret (with_event now e past) →
    ((learn_in e.call ≡ Some secret) × TellsLearnt generation e.entries) ⊎ WasLearnt generation secret past
learnt_by now e past generation secret was = elim (learnt_onto now e.entries (begun now e ∷ past) e.call generation secret refl was) [
  | inl own ↦ inl own
  | inr before ↦ (elim before [
    | inl begins ↦ (let clash : None ≡ Some generation = begins.0 in absurd (cc))
    | inr old ↦ inr old
  ])
]

-- then its number is the one after the current one, which isn't the last
tells_next : (s t : State) (call : Call) (answer : Answer) (entries : List Entry) (generation : ℕ) (secret : List ℕ) → learn_in call ≡ Some secret → Answers s call answer entries t → TellsLearnt generation entries →
    (learn_refusal s secret ≡ None) × (generation ≡ s.group.generation + 1)
tells_next s t (Learn own) (Succeeds number) entries generation secret is h told =
    let same : own ≡ secret = cc in
    let one : TellsLearnt generation (learning s own).entries = subst (TellsLearnt generation) h.2.entries told in
    (subst (λ (x : List ℕ). learn_refusal s x ≡ None) same h.0, number_told one)
  where
    number_told : (Some (s.group.generation + 1) ≡ Some generation) ⊎ ⊥ → generation ≡ s.group.generation + 1
    number_told (inl told) = let number : s.group.generation + 1 ≡ generation = cc in sym number
    number_told (inr none) = absurd none
tells_next s t (Learn own) (Refused refusal) entries generation secret is h told = absurd (subst (TellsLearnt generation) h.1.entries told)
tells_next s t (Learn own) answer entries generation secret is h told = absurd h
tells_next s t call answer entries generation secret is h told = let clash : None ≡ Some secret = is in absurd (cc)

unspent : (known : Option CallRefusal) (spent : Bool) (rest : List (Option CallRefusal)) → first_that_stands (known ∷ where_true spent GenerationsSpent ∷ rest) ≡ None → spent ≡ false
unspent (Some refusal) spent rest e = absurd (cc)
unspent None true rest e = absurd (cc)
unspent None false rest e = refl

-- the group has a secret for no other generations than those that there are
known_is_below : (generation : ℕ) (secret : List ℕ) → get group_secrets generation ≡ Some secret → generation < 2 ^ 64
known_is_below generation secret known = elim (below_or_not generation (2 ^ 64)) [
  | inl below ↦ below
  | inr above ↦ (let clash : None ≡ Some secret = sym (none_above (2 ^ 64) generation above) ∙ known in absurd (cc))
]

-- the secret after a generation that isn't the last is that of the next one
known_after : (generation : ℕ) → generation < 2 ^ 64 → (generation == last_generation) ≡ false → get group_secrets (generation + 1) ≡ Some (secret_after generation)
known_after generation below other =
    let apart : generation ≢ 2 ^ 64 - 1 = λ is. (let clash : (generation == last_generation) ≡ true = grind (arith, nat_tests) in cc) in
    let less : generation + 1 < 2 ^ 64 = omega arith in
    known_below (2 ^ 64) (generation + 1) less ∙ ap (λ (n : ℕ). Some (counted_secret n)) (sym (mod-eq_of_lt less))

-- ---- an event of an end

-- What an end knows of the secrets of its group is what the group has, after one more event by which it learns no other secret than that.
pub knows_more : (setup : Setup) (log : List Event) (told s t : State) (noted : ℕ) (e : Event) → IsSetup setup → AreCalls log → StandsFor setup log told → Knows group_secrets setup (past_of_log log) →
    s ≡ at_moment told noted → StepOf s e t → ((secret : List ℕ) → learn_in e.call ≡ Some secret → secret ≡ secret_after s.group.generation) → Knows group_secrets setup (past_of_log (log ++ e ∷ []))
knows_more setup log told s t noted e sized calls stands known is step given = record {
  first = known.first;
  learnt = λ generation secret was. learnt generation secret
      (learnt_by (moment_at (last_moment 0 log) e) e (past_of_log log) generation secret (subst (λ (past : Past). WasLearnt generation secret past) (past_more 0 [] log e) was));
}
  where
    current_known : get group_secrets s.group.generation ≡ Some s.group.secret
    current_known =
        let kept : KeepsItsGroups group_secrets setup (past_of_log log) told = groups_of_log group_secrets setup log told known sized calls stands in
        subst (λ (x : State). get group_secrets x.group.generation ≡ Some x.group.secret) (sym is) kept.current_known

    learnt : (generation : ℕ) (secret : List ℕ) → ((learn_in e.call ≡ Some secret) × TellsLearnt generation e.entries) ⊎ WasLearnt generation secret (past_of_log log) → get group_secrets generation ≡ Some secret
    learnt generation secret (inr before) = known.learnt generation secret before
    learnt generation secret (inl own) =
        let next = tells_next (at_moment s e.moment) t e.call e.answer e.entries generation secret own.0 step own.1 in
        ap (get group_secrets) next.1
        ∙ known_after s.group.generation (known_is_below s.group.generation s.group.secret current_known) (unspent (next_known s.next) (s.group.generation == last_generation) _ next.0)
        ∙ ap (λ (x : List ℕ). Some x) (sym (given secret own.0))

-- ---- the call of a line

-- a step that learns is given the secret after the generation of its end, and other steps learn none
pub given_learnt : (print : List ℕ) (generation number : ℕ) (bytes : List ℕ) (deed : Deed) (secret : List ℕ) → learn_in (call_by (given_by print generation deed) number bytes deed) ≡ Some secret → secret ≡ secret_after generation
given_learnt print generation number bytes (Calls end Learns) secret is = let same : secret_after generation ≡ secret = cc in sym same
given_learnt print generation number bytes deed secret is = let clash : None ≡ Some secret = is in absurd (cc)
