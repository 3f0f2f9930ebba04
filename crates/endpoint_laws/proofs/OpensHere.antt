-- Outside of sessions an end opens a datagram at a place exactly where it opens in the context of that place.
use Rattle.std.proofs.Common.{◌≡◌, ℕ, List, ◌∷◌, drop, Bool, true, false, ◌==◌, if◌then◌else◌, Option, Some, None, Result, Ok, Err, inl, inr, refl, sym, ap, subst, ◌∙◌, arith}
use Rattle.std.proofs.lemmas.Bool.{eqb-true}
use Rattle.std.proofs.lemmas.Bool.Decides.{nat_tests}
use Rattle.crypto_profile.specs.declared.group.GroupSecret.{GroupSecret}
use Rattle.crypto_profile.specs.declared.keys.Context.{Context}
use Rattle.crypto_profile.specs.declared.keys.Context.TheVariants.{Startup as StartupContext}
use Rattle.crypto_profile.specs.declared.sealing.SealFault.{SealFault}
use Rattle.crypto_profile.specs.Keys.{Keys, startup_keys_of}
use Rattle.crypto_profile.specs.Opening.{open_refusal, plain_of}
use Rattle.crypto_profile.proofs.Opened.{opens_by_its_tag}
use Rattle.packet_scramble.specs.Datagram.{sid_of}
use Rattle.rtmfp_base.specs.declared.cause.Cause.{Cause}
use Rattle.rtmfp_base.specs.declared.cause.Cause.TheVariants.{BadTag}
use Rattle.endpoint_model.specs.declared.place.Place.{Place}
use Rattle.endpoint_model.specs.declared.place.Place.TheVariants.{Startup}
use Rattle.endpoint_model.specs.State.{State}
use Rattle.endpoint_model.specs.Admission.{known_group, group_at, sid_at, opened_by, opened_in_startup, opened_at, opened_first, placed_or, next_places}
use Rattle.endpoint_laws.specs.Contexts.{Secrets, OpensUnder, OpensFirst, next_contexts}
use Rattle.endpoint_laws.specs.Groups.{HasSecret, number_in}
use Rattle.endpoint_laws.proofs.Kin.{HoldsSecrets, group_known}
use Rattle.endpoint_laws.proofs.Knowing.{opens_known, known_opens}

module _ (secrets : Secrets) (s : State) (place : Place) (known : HasSecret secrets (group_at s place)) (datagram : List ℕ) where
  abbrev group : GroupSecret
  group = group_at s place

  abbrev context : Context
  context = StartupContext group.generation

  abbrev keys : Keys
  keys = startup_keys_of group

  abbrev part : List ℕ
  part = drop 4 datagram

  -- what opens isn't refused, and the other way round
  pub unrefused : (plain : List ℕ) → OpensUnder secrets context (sid_at place) datagram plain → (open_refusal keys (sid_at place) part ≡ None) × (plain ≡ plain_of keys part)
  unrefused plain under =
      let told = (opens_by_its_tag group.secret context (sid_at place) part plain).0 (known_opens secrets context group.secret known (sid_at place) datagram plain under) in
      (told.0, told.2)

  pub opens_plain : sid_of datagram ≡ sid_at place → open_refusal keys (sid_at place) part ≡ None → OpensUnder secrets context (sid_at place) datagram (plain_of keys part)
  opens_plain id none = opens_known secrets context group.secret known (sid_at place) datagram (plain_of keys part) id ((opens_by_its_tag group.secret context (sid_at place) part (plain_of keys part)).1 (none, tt, refl))

  abbrev pub Shut : Type 0
  Shut = (plain : List ℕ) → OpensUnder secrets context (sid_at place) datagram plain → ⊥

  pub refused : sid_of datagram ≡ sid_at place → Shut → (fault : SealFault) × (open_refusal keys (sid_at place) part ≡ Some fault)
  refused id shut = by (open_refusal keys (sid_at place) part) refl
    where
      by : (o : Option SealFault) → open_refusal keys (sid_at place) part ≡ o → (fault : SealFault) × (o ≡ Some fault)
      by None is = absurd (shut (plain_of keys part) (opens_plain id is))
      by (Some fault) is = (fault, refl)

  pub opened_here : (plain : List ℕ) → OpensUnder secrets context (sid_at place) datagram plain → opened_in_startup s place part ≡ Ok plain
  opened_here plain under =
      let told = unrefused plain under in
      ap (opened_by keys part) told.0 ∙ ap (λ (p : List ℕ). Ok p) (sym told.1)

  -- what it opens to there opens so
  by_none : (o : Option SealFault) (plain : List ℕ) → opened_by keys part o ≡ Ok plain → (o ≡ None) × (plain ≡ plain_of keys part)
  by_none None plain e = (refl, let same : plain ≡ plain_of keys part = cc in same)
  by_none (Some fault) plain e = absurd (cc)

  pub opened_under : sid_of datagram ≡ sid_at place → (plain : List ℕ) → opened_in_startup s place part ≡ Ok plain → OpensUnder secrets context (sid_at place) datagram plain
  opened_under id plain e =
      let told = by_none (open_refusal keys (sid_at place) part) plain e in
      subst (OpensUnder secrets context (sid_at place) datagram) (sym told.1) (opens_plain id told.0)

  pub unopened : (cause : Cause) → opened_in_startup s place part ≡ Err cause → Shut
  unopened cause e plain under = let clash : Err cause ≡ Ok plain = sym e ∙ opened_here plain under in cc

  pub shut_here : sid_of datagram ≡ sid_at place → Shut → opened_in_startup s place part ≡ Err BadTag
  shut_here id shut = ap (opened_by keys part) (refused id shut).1

-- ---- under session ID 0

-- the numbers of its places are those of their secrets
pub current_number : (s : State) → (group_at s (Startup s.group.generation)).generation ≡ s.group.generation
current_number s = by s.next
  where
    by : (next : Option GroupSecret) → (known_group s.group.generation next s.group).generation ≡ s.group.generation
    by None = refl
    by (Some next) = tested (next.generation == s.group.generation) refl
      where
        tested : (b : Bool) → (next.generation == s.group.generation) ≡ b → (if b then next else s.group).generation ≡ s.group.generation
        tested true is = eqb-true next.generation s.group.generation is
        tested false is = refl

pub next_is : (s : State) (next : GroupSecret) → s.next ≡ Some next → group_at s (Startup next.generation) ≡ next
next_is s next is =
    let same : (next.generation == next.generation) ≡ true = grind (arith, nat_tests) in
    ap (λ (o : Option GroupSecret). known_group next.generation o s.group) is ∙ ap (λ (b : Bool). if b then next else s.group) same

-- of which it opens in the first
module _ (secrets : Secrets) (s : State) (holds : HoldsSecrets secrets s) (datagram : List ℕ) (zero : sid_of datagram ≡ 0) (generation : ℕ) (plain : List ℕ) where
  abbrev OpensIn : ℕ → Type 0
  OpensIn number = OpensUnder secrets (StartupContext number) 0 datagram plain

  abbrev Goal : Result (Place × List ℕ) Cause → Type 0
  Goal r = r ≡ Ok (Startup generation, plain)

  same_number : (number : ℕ) → StartupContext number ≡ StartupContext generation → number ≡ generation
  same_number number e = cc

  -- at a place of this number
  opens_there : (number : ℕ) → (group_at s (Startup number)).generation ≡ number → StartupContext number ≡ StartupContext generation → OpensIn generation → (further : Cause → Result (Place × List ℕ) Cause) →
      Goal (placed_or (Startup number) (opened_at s (Startup number) (drop 4 datagram)) further)
  opens_there number its e under further =
      let is : number ≡ generation = same_number number e in
      let here : opened_at s (Startup number) (drop 4 datagram) ≡ Ok plain =
      opened_here secrets s (Startup number) (group_known secrets s holds (Startup number)) datagram plain (subst OpensIn (sym is ∙ sym its) under) in
      ap (λ (r : Result (List ℕ) Cause). placed_or (Startup number) r further) here ∙ ap (λ (n : ℕ). Ok (Startup n, plain)) is

  shut_there : (number : ℕ) → (group_at s (Startup number)).generation ≡ number → ((other : List ℕ) → OpensUnder secrets (StartupContext number) 0 datagram other → ⊥) → opened_at s (Startup number) (drop 4 datagram) ≡ Err BadTag
  shut_there number its none =
      shut_here secrets s (Startup number) (group_known secrets s holds (Startup number)) datagram zero (λ other under. none other (subst (λ (n : ℕ). OpensUnder secrets (StartupContext n) 0 datagram other) its under))

  opens_next : (cause : Cause) (next : Option GroupSecret) → s.next ≡ next → OpensFirst secrets (next_contexts (number_in next)) 0 datagram (StartupContext generation) plain → Goal (opened_first s cause (next_places next) (drop 4 datagram))
  opens_next cause None is none = absurd none
  opens_next cause (Some next) is (inl here) = opens_there next.generation (ap (λ (g : GroupSecret). g.generation) (next_is s next is)) here.0 here.1 (λ last. Err last)
  opens_next cause (Some next) is (inr later) = absurd later.1

  pub opens_first_there : (cause : Cause) → OpensFirst secrets (StartupContext s.group.generation ∷ next_contexts (number_in s.next)) 0 datagram (StartupContext generation) plain →
      Goal (opened_first s cause (Startup s.group.generation ∷ next_places s.next) (drop 4 datagram))
  opens_first_there cause (inl here) = opens_there s.group.generation (current_number s) here.0 here.1 (λ last. opened_first s last (next_places s.next) (drop 4 datagram))
  opens_first_there cause (inr later) =
      ap (λ (r : Result (List ℕ) Cause). placed_or (Startup s.group.generation) r (λ last. opened_first s last (next_places s.next) (drop 4 datagram))) (shut_there s.group.generation (current_number s) later.0)
      ∙ opens_next BadTag s.next refl later.1

-- ---- and what it finds there is such a place

-- Under session ID 0 the datagram opens so in the first context of these in which it opens, which is that of this place.
pub record FoundAtZero (secrets : Secrets) (s : State) (datagram : List ℕ) (found : Place × List ℕ) : Type 0 where
  pub generation : ℕ
  pub place : found.0 ≡ Startup generation
  pub number : (group_at s (Startup generation)).generation ≡ generation
  pub opens : OpensFirst secrets (StartupContext s.group.generation ∷ next_contexts (number_in s.next)) 0 datagram (StartupContext generation) found.1

module _ (secrets : Secrets) (s : State) (holds : HoldsSecrets secrets s) (datagram : List ℕ) (zero : sid_of datagram ≡ 0) (found : Place × List ℕ) where
  abbrev Under : ℕ → List ℕ → Type 0
  Under number plain = OpensUnder secrets (StartupContext number) 0 datagram plain

  opens_at : (number : ℕ) → (group_at s (Startup number)).generation ≡ number → (plain : List ℕ) → opened_at s (Startup number) (drop 4 datagram) ≡ Ok plain → Under number plain
  opens_at number its plain e = subst (λ (n : ℕ). Under n plain) its (opened_under secrets s (Startup number) (group_known secrets s holds (Startup number)) datagram zero plain e)

  shut_at : (number : ℕ) → (group_at s (Startup number)).generation ≡ number → (cause : Cause) → opened_at s (Startup number) (drop 4 datagram) ≡ Err cause → (plain : List ℕ) → Under number plain → ⊥
  shut_at number its cause e plain under = unopened secrets s (Startup number) (group_known secrets s holds (Startup number)) datagram cause e plain (subst (λ (n : ℕ). Under n plain) (sym its) under)

  -- the next one, where it is shut in the current one
  found_next : ((plain : List ℕ) → Under s.group.generation plain → ⊥) → (cause : Cause) (next : Option GroupSecret) → s.next ≡ next → opened_first s cause (next_places next) (drop 4 datagram) ≡ Ok found → FoundAtZero secrets s datagram found
  found_next shut cause None is e = absurd (cc)
  found_next shut cause (Some next) is e = by (opened_at s (Startup next.generation) (drop 4 datagram)) refl e
    where
      its : (group_at s (Startup next.generation)).generation ≡ next.generation
      its = ap (λ (g : GroupSecret). g.generation) (next_is s next is)

      by : (r : Result (List ℕ) Cause) → opened_at s (Startup next.generation) (drop 4 datagram) ≡ r → placed_or (Startup next.generation) r (λ last. Err last) ≡ Ok found → FoundAtZero secrets s datagram found
      by (Err last) at e = absurd (cc)
      by (Ok plain) at e =
          let same : (Startup next.generation, plain) ≡ found = cc in
          let later : OpensFirst secrets (next_contexts (Some next.generation)) 0 datagram (StartupContext next.generation) plain = inl (refl, opens_at next.generation its plain at) in
          subst (FoundAtZero secrets s datagram) same (record {
            generation = next.generation;
            place = refl;
            number = its;
            opens = inr (shut, subst (λ (o : Option GroupSecret). OpensFirst secrets (next_contexts (number_in o)) 0 datagram (StartupContext next.generation) plain) (sym is) later);
          })

  pub found_at_zero : (cause : Cause) → opened_first s cause (Startup s.group.generation ∷ next_places s.next) (drop 4 datagram) ≡ Ok found → FoundAtZero secrets s datagram found
  found_at_zero cause e = by (opened_at s (Startup s.group.generation) (drop 4 datagram)) refl e
    where
      by : (r : Result (List ℕ) Cause) → opened_at s (Startup s.group.generation) (drop 4 datagram) ≡ r → placed_or (Startup s.group.generation) r (λ last. opened_first s last (next_places s.next) (drop 4 datagram)) ≡ Ok found → FoundAtZero secrets s datagram found
      by (Err last) at e = found_next (shut_at s.group.generation (current_number s) last at) last s.next refl e
      by (Ok plain) at e =
          let same : (Startup s.group.generation, plain) ≡ found = cc in
          subst (FoundAtZero secrets s datagram) same (record { generation = s.group.generation; place = refl; number = current_number s; opens = inl (refl, opens_at s.group.generation (current_number s) plain at) })
