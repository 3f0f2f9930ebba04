-- What a Keying was found to be, and what hearing it then is.
use Rattle.std.proofs.Common.{ℕ, ◌≡◌, Bool, true, false, Option, Some, None, is_some, Ok, refl, sym, ap, ◌∙◌, if◌then◌else◌}
use Rattle.glare_core.specs.declared.facts.Held.{Held}
use Rattle.glare_core.specs.declared.facts.Held.TheVariants.{Opening, HalfOpen, KeptAsResponder, KeptAsInitiator}
use Rattle.glare_core.specs.declared.facts.Joined.{Joined}
use Rattle.glare_core.specs.declared.answers.Keying.{Keying}
use Rattle.glare_core.specs.declared.answers.HearRefusal.{HearRefusal}
use Rattle.glare_core.specs.declared.answers.Way.{Way}
use Rattle.glare_core.specs.declared.answers.Judged.{Judged}
use Rattle.glare_core.specs.declared.answers.Judged.TheVariants.{Birth}
use Rattle.rtmfp_base.specs.Reasons.{where_true}
use Rattle.glare_core.specs.Ledger.{Ledger, held_with}
use Rattle.glare_core.specs.Calls.{is_born_of, again_of, session_again, birth_refusal, hear_refusal, way_of, again_or_way, unless_refused, judged}

-- ---- the near id of the session that a Keying is again of

abbrev near_in : Option Joined → Option ℕ
near_in None = None
near_in (Some j) = Some j.near

near_where : (b : Bool) (j : Joined) → where_true b j.near ≡ near_in (where_true b j)
near_where true j = refl
near_where false j = refl

again_is : (h : Option Held) (keying : Keying) → again_of h keying ≡ near_in (session_again h keying)
again_is None keying = refl
again_is (Some (Opening n near ni)) keying = refl
again_is (Some (HalfOpen j)) keying = near_where (is_born_of j keying) j
again_is (Some (KeptAsResponder j)) keying = near_where (is_born_of j keying) j
again_is (Some (KeptAsInitiator j)) keying = refl

-- ---- what was found, where nothing refuses

pub unrefused : (found is : Judged) (o : Option HearRefusal) → unless_refused found o ≡ Ok is → (o ≡ None) × (found ≡ is)
unrefused found is None e = (refl, cc)
unrefused found is (Some x) e = absurd (cc)

birth_new : (o : Option Joined) (way is : Way) → again_or_way o way ≡ Birth is → (o ≡ None) × (way ≡ is)
birth_new None way is e = (refl, cc)
birth_new (Some x) way is e = absurd (cc)

module _ (l : Ledger) (keying : Keying) (free : Bool) where
  abbrev session : Option Joined
  session = session_again (held_with l keying.peer) keying

  abbrev found : Judged
  found = again_or_way session (way_of l keying.peer)

  -- a session would be born in this way
  pub record IsBirth (way : Way) : Type 0 where
    pub fresh : again_of (held_with l keying.peer) keying ≡ None
    pub heard : hear_refusal l keying free ≡ None
    pub unrefused : birth_refusal l keying free ≡ None
    pub way_is : way ≡ way_of l keying.peer

  pub birth_so : (way : Way) → judged l keying free ≡ Ok (Birth way) → IsBirth way
  birth_so way e =
      let is = unrefused found (Birth way) (hear_refusal l keying free) e in
      let new = birth_new session (way_of l keying.peer) way is.1 in
      let fresh : again_of (held_with l keying.peer) keying ≡ None = again_is (held_with l keying.peer) keying ∙ ap near_in new.0 in
      record {
        fresh = fresh;
        heard = is.0;
        unrefused = sym (ap (λ o. if is_some o then None else birth_refusal l keying free) fresh) ∙ is.0;
        way_is = sym new.1;
      }
