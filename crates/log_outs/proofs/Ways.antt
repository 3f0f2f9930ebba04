-- In which sessions datagrams go out, by what is kept.
use Rattle.std.proofs.Common.{ℕ, List, ◌≡◌, ◌==◌, inl, inr, refl, sym, ap, subst, Bool, true, false, if◌then◌else◌, ◌&&◌, Option, Some, None, ◌∙◌, arith}
use Rattle.std.specs.FinMap.{get}
use Rattle.std.proofs.lemmas.Bool.Decides.{nat_tests}
use Rattle.rtmfp_forms.proofs.Places.{first_true, second_true, both_true}
use Rattle.crypto_profile.specs.declared.keys.Context.{Context}
use Rattle.crypto_profile.specs.declared.keys.Context.TheVariants.{Startup, Session}
use Rattle.crypto_profile.specs.Keys.{same_context}
use Rattle.crypto_profile.proofs.Contexts.{same_context_is, same_itself}
use Rattle.glare_core.specs.declared.facts.Held.{Held}
use Rattle.glare_core.specs.declared.facts.Held.TheVariants.{Opening, HalfOpen, KeptAsResponder, KeptAsInitiator}
use Rattle.glare_core.specs.declared.facts.Joined.{Joined}
use Rattle.glare_core.specs.Standing.{held}
use Rattle.glare_core.specs.Tells.{as_initiator, as_responder}
use Rattle.glare_core.specs.Things.{IsSession, near_of}
use Rattle.endpoint_model.specs.Event.{Setup, own_of}
use Rattle.endpoint_laws.specs.Past.{Past, facts_of, IsClosing}
use Rattle.endpoint_laws.specs.Contexts.{Secrets, BegunUnder, StandsUnder, generation_of, outward, session_context}
use Rattle.endpoint_laws.specs.Lawful.{InSession, IsFarOf}
use Rattle.log_digest.specs.declared.spot.Spot.{Spot}
use Rattle.log_digest.specs.declared.spot.Spot.TheVariants.{Searching, Holding, Closing}
use Rattle.log_digest.proofs.Stated.{is_thing}
use Rattle.log_contexts.specs.Kept.{generation_in}
use Rattle.log_contexts.proofs.Standing.{held_spot, closing_spot, begun_one}
use Rattle.log_outs.specs.declared.sender.Sender.{Sender}
use Rattle.log_outs.specs.Standing.{standing_in, standing_at}
use Rattle.log_outs.specs.Sessions.{near_side, is_in_way, stands_on, is_in_session}
use Rattle.log_outs.specs.Outs.{IsSenderOf}

pub same_number : (a b : ℕ) → (a == b) ≡ true → a ≡ b
same_number a b e = grind (arith, nat_tests)

pub number_same : (a b : ℕ) → a ≡ b → (a == b) ≡ true
number_same a b e = grind (arith, nat_tests)

number_one : (a b : ℕ) → Some a ≡ Some b → a ≡ b
number_one a b e = cc

context_same : (c d : Context) → c ≡ d → same_context c d ≡ true
context_same c d e = subst (λ (x : Context). same_context c x ≡ true) e (same_itself c)

module _ (secrets : Secrets) (setup : Setup) (past : Past) (s : Sender) (is : IsSenderOf secrets setup past s) where
  -- ---- what stands

  pub is_standing : (near : ℕ) (thing : Held) → standing_at near s.digest.now ≡ Some thing → StandsUnder past near thing
  is_standing near thing found = by_spot (get s.digest.now.spots near) refl found
    where
      by_spot : (o : Option Spot) → get s.digest.now.spots near ≡ o → standing_in s.digest.now.roll o ≡ Some thing → StandsUnder past near thing
      by_spot None e f = absurd cc
      by_spot (Some (Searching name tag ni at)) e f = absurd cc
      by_spot (Some (Holding peer at)) e f =
          let h = (is.digest.spots_are.spot near).held_is peer at e in
          let it : held peer (facts_of past) ≡ Some thing = sym (is.digest.roll_is.held_is peer) ∙ f in
          inl (record { peer = peer; is_held = it; id = ap near_of (is_thing thing h.thing (sym it ∙ h.is_held)) ∙ h.id })
      by_spot (Some (Closing t at)) e f = inr (at, subst (λ (x : Held). IsClosing near x at past) (is_thing t thing f) ((is.digest.spots_are.spot near).closing_is t at e))

  pub stands_there : (near : ℕ) (thing : Held) → StandsUnder past near thing → standing_at near s.digest.now ≡ Some thing
  stands_there near thing (inl h) = ap (standing_in s.digest.now.roll) (held_spot is.last past s.digest.now is.digest near thing h).1 ∙ is.digest.roll_is.held_is h.peer ∙ h.is_held
  stands_there near thing (inr c) = ap (standing_in s.digest.now.roll) (closing_spot is.last past s.digest.now is.digest near thing c)

  pub own_id : (near : ℕ) (thing : Held) → StandsUnder past near thing → near_of thing ≡ near
  own_id near thing (inl h) = h.id
  own_id near thing (inr c) = is.closing near thing c.0 c.1

  -- ---- the generation in which it began

  pub began_in : (near : ℕ) (thing : Held) → StandsUnder past near thing → IsSession thing → (g : ℕ) → BegunUnder secrets setup thing g past → generation_in (get s.contexts.now.sessions near) ≡ Some g
  began_in near thing stands is_session g begun =
      let kept = is.contexts.session near thing stands is_session in
      ap generation_in kept.kept_is ∙ ap (λ (n : ℕ). Some n) (begun_one secrets setup thing kept.generation g past kept.begun begun)

  pub begun_of : (near : ℕ) (thing : Held) → StandsUnder past near thing → IsSession thing → (g : ℕ) → generation_in (get s.contexts.now.sessions near) ≡ Some g → BegunUnder secrets setup thing g past
  begun_of near thing stands is_session g e =
      let kept = is.contexts.session near thing stands is_session in
      subst (λ (n : ℕ). BegunUnder secrets setup thing n past) (number_one kept.generation g (sym (ap generation_in kept.kept_is) ∙ e)) kept.begun

  -- ---- sessions

  abbrev GoesOut : ℕ → ℕ → Context → Type 0
  GoesOut generation sid context = (thing : Held) × (near : ℕ) × StandsUnder past near thing × BegunUnder secrets setup thing generation past × (context ≡ outward setup generation thing) × IsFarOf thing sid

  goes_out : (near : ℕ) (thing : Held) (g sid : ℕ) (context : Context) → StandsUnder past near thing → IsSession thing → generation_in (get s.contexts.now.sessions near) ≡ Some g → generation_of (outward setup g thing) ≡ g → context ≡ outward setup g thing → IsFarOf thing sid →
      GoesOut (generation_of context) sid context
  goes_out near thing g sid context stands is_session began of is_it far =
      subst (λ (n : ℕ). GoesOut n sid context) (sym (ap generation_of is_it ∙ of)) (thing, near, stands, begun_of near thing stands is_session g began, is_it, far)

  by_far : (j : Joined) (sid : ℕ) (b : Bool) → ((j.far == sid) && b) ≡ true → sid ≡ j.far
  by_far j sid b e = sym (same_number j.far sid (first_true (j.far == sid) b e))

  as_born : (j : Joined) (g sid : ℕ) (context : Context) → ((j.far == sid) && same_context (session_context g (as_responder s.own.now j) false) context) ≡ true → context ≡ outward setup g (HalfOpen j)
  as_born j g sid context e =
      sym (same_context_is (session_context g (as_responder s.own.now j) false) context (second_true (j.far == sid) (same_context (session_context g (as_responder s.own.now j) false) context) e))
      ∙ ap (λ (own : List ℕ). session_context g (as_responder own j) false) (sym is.own_is)

  as_opened : (j : Joined) (g sid : ℕ) (context : Context) → ((j.far == sid) && same_context (session_context g (as_initiator s.own.now j) true) context) ≡ true → context ≡ outward setup g (KeptAsInitiator j)
  as_opened j g sid context e =
      sym (same_context_is (session_context g (as_initiator s.own.now j) true) context (second_true (j.far == sid) (same_context (session_context g (as_initiator s.own.now j) true) context) e))
      ∙ ap (λ (own : List ℕ). session_context g (as_initiator own j) true) (sym is.own_is)

  by_way : (near : ℕ) (context : Context) (sid : ℕ) (o : Option ℕ) (t : Option Held) → generation_in (get s.contexts.now.sessions near) ≡ o → standing_at near s.digest.now ≡ t → is_in_way s.own.now o t context sid ≡ true → GoesOut (generation_of context) sid context
  by_way near context sid o None began found e = absurd cc
  by_way near context sid o (Some (Opening n id ni)) began found e = absurd cc
  by_way near context sid None (Some (HalfOpen j)) began found e = absurd cc
  by_way near context sid None (Some (KeptAsResponder j)) began found e = absurd cc
  by_way near context sid None (Some (KeptAsInitiator j)) began found e = absurd cc
  by_way near context sid (Some g) (Some (HalfOpen j)) began found e =
      goes_out near (HalfOpen j) g sid context (is_standing near (HalfOpen j) found) tt began refl (as_born j g sid context e)
      (by_far j sid (same_context (session_context g (as_responder s.own.now j) false) context) e)
  by_way near context sid (Some g) (Some (KeptAsResponder j)) began found e =
      goes_out near (KeptAsResponder j) g sid context (is_standing near (KeptAsResponder j) found) tt began refl (as_born j g sid context e)
      (by_far j sid (same_context (session_context g (as_responder s.own.now j) false) context) e)
  by_way near context sid (Some g) (Some (KeptAsInitiator j)) began found e =
      goes_out near (KeptAsInitiator j) g sid context (is_standing near (KeptAsInitiator j) found) tt began refl (as_opened j g sid context e)
      (by_far j sid (same_context (session_context g (as_initiator s.own.now j) true) context) e)

  -- what stands under the side of this end is the thing
  in_way : (near side : ℕ) (thing : Held) (g sid : ℕ) (context : Context) → side ≡ near → StandsUnder past near thing → IsSession thing → BegunUnder secrets setup thing g past → is_in_way s.own.now (Some g) (Some thing) context sid ≡ true →
      stands_on s.own.now s.digest.now s.contexts.now side context sid ≡ true
  in_way near side thing g sid context at stands is_session begun e =
      subst (λ (n : ℕ). stands_on s.own.now s.digest.now s.contexts.now n context sid ≡ true) (sym at)
      (ap (λ (o : Option ℕ). is_in_way s.own.now o (standing_at near s.digest.now) context sid) (began_in near thing stands is_session g begun)
      ∙ ap (λ (t : Option Held). is_in_way s.own.now (Some g) t context sid) (stands_there near thing stands) ∙ e)

  born_way : (j : Joined) (g sid : ℕ) (context : Context) → context ≡ session_context g (as_responder (own_of setup) j) false → sid ≡ j.far → ((j.far == sid) && same_context (session_context g (as_responder s.own.now j) false) context) ≡ true
  born_way j g sid context is_it far =
      both_true (j.far == sid) (same_context (session_context g (as_responder s.own.now j) false) context) (number_same j.far sid (sym far))
      (context_same (session_context g (as_responder s.own.now j) false) context (ap (λ (own : List ℕ). session_context g (as_responder own j) false) (sym is.own_is) ∙ sym is_it))

  opened_way : (j : Joined) (g sid : ℕ) (context : Context) → context ≡ session_context g (as_initiator (own_of setup) j) true → sid ≡ j.far → ((j.far == sid) && same_context (session_context g (as_initiator s.own.now j) true) context) ≡ true
  opened_way j g sid context is_it far =
      both_true (j.far == sid) (same_context (session_context g (as_initiator s.own.now j) true) context) (number_same j.far sid (sym far))
      (context_same (session_context g (as_initiator s.own.now j) true) context (ap (λ (own : List ℕ). session_context g (as_initiator own j) true) (sym is.own_is) ∙ sym is_it))

  by_goes : (g sid : ℕ) (context : Context) (thing : Held) (near : ℕ) → StandsUnder past near thing → BegunUnder secrets setup thing g past → context ≡ outward setup g thing → IsFarOf thing sid → stands_on s.own.now s.digest.now s.contexts.now (near_side context) context sid ≡ true
  by_goes g sid context (Opening n id ni) near stands begun is_it far = absurd far
  by_goes g sid context (HalfOpen j) near stands begun is_it far =
      in_way near (near_side context) (HalfOpen j) g sid context (ap near_side is_it ∙ own_id near (HalfOpen j) stands) stands tt begun (born_way j g sid context is_it far)
  by_goes g sid context (KeptAsResponder j) near stands begun is_it far =
      in_way near (near_side context) (KeptAsResponder j) g sid context (ap near_side is_it ∙ own_id near (KeptAsResponder j) stands) stands tt begun (born_way j g sid context is_it far)
  by_goes g sid context (KeptAsInitiator j) near stands begun is_it far =
      in_way near (near_side context) (KeptAsInitiator j) g sid context (ap near_side is_it ∙ own_id near (KeptAsInitiator j) stands) stands tt begun (opened_way j g sid context is_it far)

  pub session_yes : (context : Context) (sid : ℕ) → is_in_session s.own.now s.digest.now s.contexts.now context sid ≡ true → InSession secrets setup past sid context
  session_yes (Startup generation) sid e = tt
  session_yes (Session generation ni nr fp_i fp_r sid_i sid_r to_responder) sid e =
      by_way (if to_responder then sid_i else sid_r) (Session generation ni nr fp_i fp_r sid_i sid_r to_responder) sid _ _ refl refl e

  pub session_no : (context : Context) (sid : ℕ) → InSession secrets setup past sid context → is_in_session s.own.now s.digest.now s.contexts.now context sid ≡ true
  session_no (Startup generation) sid goes = refl
  session_no (Session generation ni nr fp_i fp_r sid_i sid_r to_responder) sid goes =
      by_goes generation sid (Session generation ni nr fp_i fp_r sid_i sid_r to_responder) goes.0 goes.1 goes.2 goes.3 goes.4 goes.5
