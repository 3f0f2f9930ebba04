-- Each lawful, honest and fresh history of one group is agreed.
use Rattle.std.proofs.Common.{ℕ, length, List, [], ◌∷◌, ◌≡◌, sym, ap, subst, ◌∙◌}
use Rattle.crypto_profile.specs.Keys.{keys_of}
use Rattle.glare_core.specs.declared.facts.Fact.TheVariants.{Born, Opened}
use Rattle.glare_core.specs.Tells.{Values, as_initiator, as_responder}
use Rattle.glare_core.specs.Steps.{Item, Told, Did, Sends, Step, step, IsTail, Happened}
use Rattle.glare_core.specs.Told.{AllDifferent}
use Rattle.glare_core.specs.Agreed.{EachOpenedHasOneBirth}
use Rattle.glare_core.specs.declared.facts.Joined.{Joined}
use Rattle.glare_core.proofs.Tails.{same_step, lift}
use Rattle.glare_core.proofs.Sound.{IsSound, sound_tail}
use Rattle.glare_core.proofs.Agreement.{keep_the_same}
use Rattle.glare_core.proofs.Births.{each_opened_has_one_birth, no_started_has_two_births}
use Rattle.glare_core.proofs.Crossed.{crossed_is_over, one_opens, prevailing_is_spared}
use Rattle.glare_core.proofs.Late.{override_is_late}
use Rattle.endpoint_model.specs.Event.{Setup, own_of}
use Rattle.endpoint_laws.specs.Contexts.{Secrets, session_context}
use Rattle.endpoint_laws.specs.History.{History, IsHonest, IsFresh}
use Rattle.endpoint_laws.specs.Agreed.{HaveTheSameKeys, AreAgreed, AreStated, EveryLawfulHistoryIsAgreed}
use Rattle.endpoint_laws.proofs.FactsAlone.{alone, whole, same_alone, opened_alone, started_alone, over_law_alone, one_alone, spared_alone, late_alone}
use Rattle.endpoint_laws.proofs.StatedFacts.{nonces_stated}
use Rattle.endpoint_laws.proofs.HistoryTold.{Ends, history_told}
use Rattle.endpoint_laws.proofs.Stating.{IsList, list_of}

-- a step is one with its number
item_number : Item → ℕ
item_number (Told t) = 0
item_number (Did fact g) = g
item_number (Sends t) = 0

first_number : List Step → ℕ
first_number [] = 0
first_number (s ∷ earlier) = item_number s.item

number_one : (who : List ℕ) (s t : Joined) (g h : ℕ) (before early : List Step) → step who (Did (Born s) g) ∷ before ≡ step who (Did (Born t) h) ∷ early → g ≡ h
unfolding item_number first_number
number_one who s t g h before early e = ap first_number e

-- the same values give the same keys under one secret, in one generation
same_keys : (secrets : Secrets) (ends : ℕ → Setup) (history : History) (now : List Step) → EachOpenedHasOneBirth now → HaveTheSameKeys secrets ends history now
same_keys secrets ends history now law a b s t g h before early part_a part_b opened born peer n ni =
    let birth = law (own_of (ends a)) s g before opened in
    let there : Happened s.peer (Did (Born t) h) early now = subst (λ (p : List ℕ). Happened p (Did (Born t) h) early now) (sym peer) born in
    let is = birth.only t h early there n ni in
    let values : as_initiator (own_of (ends a)) s ≡ as_responder (own_of (ends b)) t =
    sym birth.values ∙ ap (as_responder s.peer) (sym is.0) ∙ ap (λ (p : List ℕ). as_responder p t) peer in
    let step_one : step s.peer (Did (Born birth.t) g) ∷ birth.early ≡ step s.peer (Did (Born t) h) ∷ early =
    same_step (step s.peer (Did (Born birth.t) g)) (step s.peer (Did (Born t) h)) birth.early early now (lift (step s.peer (Did (Born birth.t) g)) (step (own_of (ends a)) (Did (Opened s) g)) birth.early before now birth.born opened) there (ap length (sym is.1)) in
    let one : g ≡ h = number_one s.peer birth.t t g h birth.early early step_one in (
      one,
      λ secret to_responder known.
          ap (λ (k : ℕ). keys_of secret (session_context k (as_initiator (own_of (ends a)) s) to_responder)) one
          ∙ ap (λ (v : Values). keys_of secret (session_context h v to_responder)) values,
    )

agreed_at : (secrets : Secrets) (ends : ℕ → Setup) (history : History) (then : List Step) → IsSound then → AreAgreed secrets ends history (alone then)
agreed_at secrets ends history then sound =
    let opened = opened_alone then (each_opened_has_one_birth then sound) in
    record {
      same = same_alone then (keep_the_same then sound);
      opened = opened;
      keys = same_keys secrets ends history (alone then) opened;
      started = started_alone then (no_started_has_two_births then sound);
      over = over_law_alone then (crossed_is_over then sound);
      one = one_alone then (one_opens then sound);
      spared = spared_alone then (prevailing_is_spared then sound);
      late = late_alone then (override_is_late then sound);
    }

at_each : (secrets : Secrets) (ends : ℕ → Setup) (history : History) (stated now : List Step) → AreStated secrets ends history stated → Ends secrets ends history → IsHonest secrets ends history → IsFresh ends history → IsTail now stated → AreAgreed secrets ends history now
at_each secrets ends history stated now is e honest fresh tail =
    let told = history_told secrets ends history stated is e honest (subst AllDifferent (sym (nonces_stated secrets ends history stated is)) fresh.nonces) in
    let w = whole now told.steps (subst (λ (r : List Step). IsTail now r) (sym told.is) tail) in
    subst (λ (r : List Step). AreAgreed secrets ends history r) (sym w.is) (agreed_at secrets ends history w.then (sound_tail w.then told.steps told.telling.sound w.tail))

pub every_history_is_agreed : EveryLawfulHistoryIsAgreed
every_history_is_agreed secrets ends history calls lawful honest fresh =
    let e : Ends secrets ends history = record { prints = fresh.prints; calls = calls; lawful = lawful } in
    let list : IsList secrets ends history = list_of secrets ends history lawful in
    record { steps = list.0; stated = list.1; moments = λ others now is tail. at_each secrets ends history others now is e honest fresh tail }
