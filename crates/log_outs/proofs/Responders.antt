-- Responders' keyings that go out, by what is kept.
use Rattle.std.proofs.Common.{ℕ, List, [], ◌∷◌, ◌≡◌, ◌==◌, ◌⊎◌, inl, inr, refl, sym, ap, subst, true, ◌&&◌, Option, Some, None, ◌∙◌}
use Rattle.std.specs.FinMap.{get}
use Rattle.std.specs.Str.{bytes_eq}
use Rattle.std.proofs.lemmas.Slice.Eq.{bytes_eq-Decides}
use Rattle.rtmfp_forms.proofs.Places.{first_true, second_true, both_true}
use Rattle.crypto_profile.specs.declared.keys.Context.{Context}
use Rattle.crypto_profile.specs.declared.keys.Context.TheVariants.{Startup, Session}
use Rattle.glare_core.specs.declared.facts.Fact.{Fact}
use Rattle.glare_core.specs.declared.facts.Held.{Held}
use Rattle.glare_core.specs.declared.facts.Held.TheVariants.{Opening, HalfOpen, KeptAsResponder, KeptAsInitiator}
use Rattle.glare_core.specs.declared.facts.Joined.{Joined}
use Rattle.glare_core.specs.Standing.{held}
use Rattle.glare_core.specs.Things.{IsSession}
use Rattle.endpoint_model.specs.Event.{Setup}
use Rattle.endpoint_model.specs.Keying.{responder_part}
use Rattle.endpoint_laws.specs.Past.{Past, fact_done, facts_of}
use Rattle.endpoint_laws.specs.Contexts.{Secrets, Begins, BegunUnder, EventOpenedIn, HeldUnder}
use Rattle.endpoint_laws.specs.Lawful.{IsBornHere, KeyingOfBorn}
use Rattle.log_digest.specs.declared.spot.Spot.{Spot}
use Rattle.log_digest.specs.declared.spot.Spot.TheVariants.{Searching, Holding, Closing}
use Rattle.log_digest.proofs.Stated.{holds_peer}
use Rattle.log_contexts.specs.Kept.{generation_in}
use Rattle.log_contexts.proofs.Standing.{held_spot, begun_confirmed}
use Rattle.log_outs.specs.declared.sender.Sender.{Sender}
use Rattle.log_outs.specs.Standing.{born_in, born_under, born_at}
use Rattle.log_outs.specs.Keyings.{is_of_birth}
use Rattle.log_outs.specs.Outs.{IsSenderOf}
use Rattle.log_outs.proofs.Ways.{same_number, number_same, began_in, begun_of}

joined_one : (a b : Joined) → Some a ≡ Some b → a ≡ b
joined_one a b e = cc

-- a session that is confirmed began as it was half-open
begun_first : (secrets : Secrets) (setup : Setup) (j : Joined) (generation : ℕ) (past : Past) → BegunUnder secrets setup (KeptAsResponder j) generation past → BegunUnder secrets setup (HalfOpen j) generation past
begun_first secrets setup j generation [] begun = begun
begun_first secrets setup j generation (x ∷ earlier) begun = by (λ before. begun_first secrets setup j generation earlier before) (fact_done x.what) begun
  where
    by : (BegunUnder secrets setup (KeptAsResponder j) generation earlier → BegunUnder secrets setup (HalfOpen j) generation earlier) → (o : Option Fact) → (Begins (KeptAsResponder j) o × EventOpenedIn secrets setup earlier generation) ⊎ ((Begins (KeptAsResponder j) o → ⊥) × BegunUnder secrets setup (KeptAsResponder j) generation earlier) →
        (Begins (HalfOpen j) o × EventOpenedIn secrets setup earlier generation) ⊎ ((Begins (HalfOpen j) o → ⊥) × BegunUnder secrets setup (HalfOpen j) generation earlier)
    by later None (inl here) = absurd here.0
    by later None (inr before) = inr (before.0, later before.1)
    by later (Some fact) (inl here) = inl here
    by later (Some fact) (inr before) = inr (before.0, later before.1)

module _ (secrets : Secrets) (setup : Setup) (past : Past) (s : Sender) (is : IsSenderOf secrets setup past s) where
  -- ---- the session that was born here

  -- What is held under the session ID, which is a session that was born here.
  record IsBirth (near : ℕ) (j : Joined) : Type 0 where
    thing : Held
    under : HeldUnder (facts_of past) near thing
    here : IsBornHere (held j.peer (facts_of past)) j
    is_session : IsSession thing
    near_is : near ≡ j.near
    first : (generation : ℕ) → BegunUnder secrets setup thing generation past → BegunUnder secrets setup (HalfOpen j) generation past

  as_half_open : (near : ℕ) (j : Joined) → HeldUnder (facts_of past) near (HalfOpen j) → IsBirth near j
  as_half_open near j h = record {
    thing = HalfOpen j;
    under = h;
    here = inl (ap (λ (p : List ℕ). held p (facts_of past)) (holds_peer h.peer (facts_of past) (HalfOpen j) h.is_held) ∙ h.is_held);
    is_session = tt;
    near_is = sym h.id;
    first = λ generation begun. begun;
  }

  as_confirmed : (near : ℕ) (j : Joined) → HeldUnder (facts_of past) near (KeptAsResponder j) → IsBirth near j
  as_confirmed near j h = record {
    thing = KeptAsResponder j;
    under = h;
    here = inr (ap (λ (p : List ℕ). held p (facts_of past)) (holds_peer h.peer (facts_of past) (KeptAsResponder j) h.is_held) ∙ h.is_held);
    is_session = tt;
    near_is = sym h.id;
    first = λ generation begun. begun_first secrets setup j generation past begun;
  }

  by_thing : (near : ℕ) (j : Joined) (thing : Held) → HeldUnder (facts_of past) near thing → born_in (Some thing) ≡ Some j → IsBirth near j
  by_thing near j (Opening n id ni) h e = absurd cc
  by_thing near j (HalfOpen t) h e = as_half_open near j (subst (λ (x : Joined). HeldUnder (facts_of past) near (HalfOpen x)) (joined_one t j e) h)
  by_thing near j (KeptAsResponder t) h e = as_confirmed near j (subst (λ (x : Joined). HeldUnder (facts_of past) near (KeptAsResponder x)) (joined_one t j e) h)
  by_thing near j (KeptAsInitiator t) h e = absurd cc

  birth_of : (near : ℕ) (j : Joined) → born_at near s.digest.now ≡ Some j → IsBirth near j
  birth_of near j found = by_spot (get s.digest.now.spots near) refl found
    where
      by_spot : (o : Option Spot) → get s.digest.now.spots near ≡ o → born_under s.digest.now.roll o ≡ Some j → IsBirth near j
      by_spot None e f = absurd cc
      by_spot (Some (Searching name tag ni at)) e f = absurd cc
      by_spot (Some (Holding peer at)) e f =
          let h = (is.digest.spots_are.spot near).held_is peer at e in
          by_thing near j h.thing (record { peer = peer; is_held = h.is_held; id = h.id }) (ap born_in (sym h.is_held) ∙ ap born_in (sym (is.digest.roll_is.held_is peer)) ∙ f)
      by_spot (Some (Closing t at)) e f = absurd cc

  found_birth : (near : ℕ) (j : Joined) (thing : Held) (h : HeldUnder (facts_of past) near thing) → born_in (Some thing) ≡ Some j → born_at near s.digest.now ≡ Some j
  found_birth near j thing h e =
      ap (born_under s.digest.now.roll) (held_spot is.last past s.digest.now is.digest near thing h).1 ∙ ap born_in (is.digest.roll_is.held_is h.peer ∙ h.is_held) ∙ e

  -- ---- its keying

  birth_yes : (near sid : ℕ) (part : List ℕ) (context : Context) (b : Option Joined) (o : Option ℕ) → born_at near s.digest.now ≡ b → generation_in (get s.contexts.now.sessions near) ≡ o → is_of_birth s.own.now b o context sid part ≡ true →
      KeyingOfBorn secrets setup past context sid near part
  birth_yes near sid part context None o born began e = absurd cc
  birth_yes near sid part context (Some j) None born began e = absurd cc
  birth_yes near sid part (Session generation ni nr fp_i fp_r sid_i sid_r to_responder) (Some j) (Some g) born began e = absurd cc
  birth_yes near sid part (Startup generation) (Some j) (Some g) born began e =
      let its : List ℕ = responder_part j.nr j.k s.own.now j.ni in
      let it = birth_of near j born in
      let rest = second_true (j.far == sid) ((g == generation) && bytes_eq part its) e in
      record {
        j = j;
        generation = g;
        born = it.first g (begun_of secrets setup past s is near it.thing (inl it.under) it.is_session g began);
        startup = ap (λ (n : ℕ). Startup n) (sym (same_number g generation (first_true (g == generation) (bytes_eq part its) rest)));
        is_held = it.here;
        sid_is = sym (same_number j.far sid (first_true (j.far == sid) ((g == generation) && bytes_eq part its) e));
        near_is = it.near_is;
        values = (bytes_eq-Decides part its).0 (second_true (g == generation) (bytes_eq part its) rest)
            ∙ ap (λ (own : List ℕ). responder_part j.nr j.k own j.ni) (sym is.own_is);
      }

  birth_is : (near sid : ℕ) (part : List ℕ) (context : Context) (k : KeyingOfBorn secrets setup past context sid near part) (thing : Held) (h : HeldUnder (facts_of past) near thing) → IsSession thing → born_in (Some thing) ≡ Some k.j → BegunUnder secrets setup thing k.generation past →
      is_of_birth s.own.now (born_at near s.digest.now) (generation_in (get s.contexts.now.sessions near)) context sid part ≡ true
  birth_is near sid part context k thing h is_session e begun =
      let its : List ℕ = responder_part k.j.nr k.j.k s.own.now k.j.ni in
      let same : bytes_eq part its ≡ true = (bytes_eq-Decides part its).1 (k.values ∙ ap (λ (own : List ℕ). responder_part k.j.nr k.j.k own k.j.ni) is.own_is) in
      ap (λ (b : Option Joined). is_of_birth s.own.now b (generation_in (get s.contexts.now.sessions near)) context sid part) (found_birth near k.j thing h e)
      ∙ ap (λ (o : Option ℕ). is_of_birth s.own.now (Some k.j) o context sid part) (began_in secrets setup past s is near thing (inl h) is_session k.generation begun)
      ∙ ap (λ (c : Context). is_of_birth s.own.now (Some k.j) (Some k.generation) c sid part) k.startup
      ∙ both_true (k.j.far == sid) ((k.generation == k.generation) && bytes_eq part its) (number_same k.j.far sid (sym k.sid_is))
      (both_true (k.generation == k.generation) (bytes_eq part its) (number_same k.generation k.generation refl) same)

  birth_no : (near sid : ℕ) (part : List ℕ) (context : Context) → KeyingOfBorn secrets setup past context sid near part →
      is_of_birth s.own.now (born_at near s.digest.now) (generation_in (get s.contexts.now.sessions near)) context sid part ≡ true
  birth_no near sid part context k = elim k.is_held [
    | inl half ↦ birth_is near sid part context k (HalfOpen k.j) (record { peer = k.j.peer; is_held = half; id = sym k.near_is }) tt refl k.born
    | inr kept ↦ birth_is near sid part context k (KeptAsResponder k.j) (record { peer = k.j.peer; is_held = kept; id = sym k.near_is }) tt refl (begun_confirmed secrets setup k.j k.generation past k.born)
  ]

  pub responder_yes : (context : Context) (sid near : ℕ) (part : List ℕ) → is_of_birth s.own.now (born_at near s.digest.now) (generation_in (get s.contexts.now.sessions near)) context sid part ≡ true → KeyingOfBorn secrets setup past context sid near part
  responder_yes context sid near part e = birth_yes near sid part context (born_at near s.digest.now) (generation_in (get s.contexts.now.sessions near)) refl refl e

  pub responder_no : (context : Context) (sid near : ℕ) (part : List ℕ) → KeyingOfBorn secrets setup past context sid near part → is_of_birth s.own.now (born_at near s.digest.now) (generation_in (get s.contexts.now.sessions near)) context sid part ≡ true
  responder_no context sid near part k = birth_no near sid part context k
