-- What is kept stays as it should be when an attempt changes or goes, or when the ledger does.
use Rattle.std.proofs.Common.{ℕ, ◌≡◌, ◌+◌, true, false, List, Option, Some, None, is_some, refl, sym, ap, subst, ◌∙◌}
use Rattle.std.specs.FinMap.{get, insert, remove}
use Rattle.rtmfp_forms.specs.Address.{AddressParts}
use Rattle.glare_core.specs.Standing.{starts_in}
use Rattle.glare_core.specs.Calls.{start_refusal, started_fact, ended_fact}
use Rattle.glare_core.specs.Things.{near_of}
use Rattle.glare_core.specs.declared.facts.Held.{Held}
use Rattle.glare_core.specs.declared.facts.Fact.TheVariants.{Ended}
use Rattle.startup.specs.declared.aim.Aim.{Aim}
use Rattle.startup.specs.declared.aim.Aim.TheVariants.{AtPeer, ByName}
use Rattle.startup.specs.declared.attempt.Stage.TheVariants.{Hello}
use Rattle.startup.specs.Aims.{IsHeldAs, end_of_aim, is_search}
use Rattle.glare_core.specs.declared.facts.Why.{Why}
use Rattle.glare_core.specs.declared.facts.Fact.{Fact}
use Rattle.glare_core.specs.Ledger.{Ledger, held_with, noted, noted_if}
use Rattle.crypto_profile.specs.declared.group.GroupSecret.{GroupSecret}
use Rattle.startup.specs.State.{AttemptState, Attempts, KeptKeyings, StartupState, FitsStage, IsSound}
use Rattle.startup.specs.Rows.{state_of, IsStartup}
use Rattle.startup.specs.Table.{in_attempt, with_changed}
use Rattle.startup.specs.Attempts.{with_ledger, with_attempt, without_attempt_by, end_of, after_end_of, session_in, end_fact, after_end, after_end_by, distinct_candidates, begun_attempt, after_begin, begun_search, after_seek, after_start, met}
use Rattle.startup.proofs.Keeping.{changed_is_sound, end_is_sound, after_end_is_sound, session_is_held, begun_is_sound, sought_is_sound, unsought_is_sound, met_is_sound, startable_is_unheld}

-- an attempt that goes on is still towards the same, with the same nonce
pub record GoesOn (change : AttemptState → AttemptState) : Type 0 where
  pub aim : (a : AttemptState) → (change a).aim ≡ a.aim
  pub ni : (a : AttemptState) → (change a).ni ≡ a.ni

-- what is searched for
pub name_of : (aim : Aim) → is_search aim ≡ true → (name : List ℕ) × (aim ≡ ByName name)
name_of (AtPeer peer n) e = absurd (let clash : false ≡ true = e in cc)
name_of (ByName name) e = (name, refl)

-- an attempt that is there is changed
pub changed_there : (change : AttemptState → AttemptState) (attempts : Attempts) (near : ℕ) (a : AttemptState) → get attempts near ≡ Some a → in_attempt change attempts near ≡ insert attempts near (change a)
changed_there change attempts near a there = ap (with_changed change attempts near) there

module _ (cert print cookies : List ℕ) (ledger : Ledger) (attempts : Attempts) (keyings : KeptKeyings) (is : IsStartup cert print cookies ledger attempts keyings) (near : ℕ) (a : AttemptState) (there : get attempts near ≡ Some a) where
  -- an attempt that is there is held
  pub held_at : (b : AttemptState) → get attempts near ≡ Some b → IsHeldAs ledger near b.ni b.aim
  held_at b at = is.sound.held near b at

  -- ---- an attempt changes
  module _ (change : AttemptState → AttemptState) (new : Attempts) (changed : new ≡ in_attempt change attempts near) where
    pub changed_state : state_of cert cookies ledger new keyings ≡ with_attempt (state_of cert cookies ledger attempts keyings) near (change a)
    changed_state = λ i. record { cert = cert; cookie_secret = cookies; ledger = ledger; attempts = (changed ∙ changed_there change attempts near a there) i; kept = keyings }

    pub changed_is_kept : GoesOn change → FitsStage (change a).aim (change a).stage → IsStartup cert print cookies ledger new keyings
    changed_is_kept goes fits = record {
      print_is = is.print_is;
      sound = subst IsSound (sym changed_state)
          (changed_is_sound (state_of cert cookies ledger attempts keyings) near a (change a) is.sound there (goes.aim a) (goes.ni a) fits);
    }

  -- ---- an attempt ends
  module _ (why : Why) (fact : Option Fact) (ends : (b : AttemptState) → get attempts near ≡ Some b → fact ≡ end_of_aim near why b.aim)
      (after : Ledger) (new : Attempts) (noted_is : after ≡ noted_if ledger fact) (gone : new ≡ remove attempts near) where
    pub ended_state : state_of cert cookies after new keyings ≡ without_attempt_by (state_of cert cookies ledger attempts keyings) near (end_of_aim near why a.aim)
    ended_state = λ i. record { cert = cert; cookie_secret = cookies; ledger = (noted_is ∙ ap (noted_if ledger) (ends a there)) i; attempts = gone i; kept = keyings }

    pub ended_is_kept : IsStartup cert print cookies after new keyings
    ended_is_kept = record {
      print_is = is.print_is;
      sound = subst IsSound (sym ended_state) (end_is_sound (state_of cert cookies ledger attempts keyings) (near, a) why is.sound there);
    }

    -- where it is the one that is chosen
    pub end_told : (chosen : Option (ℕ × AttemptState)) → chosen ≡ Some (near, a) → fact ≡ end_of chosen why
    end_told chosen at = ends a there ∙ sym (ap (λ o. end_of o why) at)

    pub end_left : (chosen : Option (ℕ × AttemptState)) → chosen ≡ Some (near, a) → state_of cert cookies after new keyings ≡ after_end_of (state_of cert cookies ledger attempts keyings) chosen why
    end_left chosen at = ended_state ∙ sym (ap (λ o. after_end_of (state_of cert cookies ledger attempts keyings) o why) at)

module _ (cert print cookies : List ℕ) (ledger : Ledger) (attempts : Attempts) (keyings : KeptKeyings) (is : IsStartup cert print cookies ledger attempts keyings) where
  -- ---- the ledger changes, and the attempts don't
  pub ledger_is_kept : (after : Ledger) → IsSound (with_ledger (state_of cert cookies ledger attempts keyings) after) → IsStartup cert print cookies after attempts keyings
  ledger_is_kept after sound = record { print_is = is.print_is; sound = sound }

  -- ---- a session ends
  module _ (peer : List ℕ) (why : Why) (session : is_some (session_in (held_with ledger peer)) ≡ true) (after : Ledger) (new : KeptKeyings) (fact : Option Fact)
      (fact_is : fact ≡ ended_fact (held_with ledger peer) peer why) (noted_is : after ≡ noted_if ledger fact) (gone : new ≡ remove keyings peer) where
    pub session_end : fact ≡ end_fact (state_of cert cookies ledger attempts keyings) peer why
    session_end = fact_is ∙ sym (ap (λ thing. ended_fact thing peer why) (session_is_held (held_with ledger peer) session))

    pub session_left : state_of cert cookies after attempts new ≡ after_end (state_of cert cookies ledger attempts keyings) peer why
    session_left = go (session_in (held_with ledger peer)) refl
      where
        go : (o : Option Held) → session_in (held_with ledger peer) ≡ o → state_of cert cookies after attempts new ≡ after_end (state_of cert cookies ledger attempts keyings) peer why
        go None e = absurd (let clash : false ≡ true = ap is_some (sym e) ∙ session in cc)
        go (Some thing) e =
            let is : fact ≡ Some (Ended peer (near_of thing) why) = session_end ∙ ap (λ t. ended_fact t peer why) e in
            (λ i. state_of cert cookies ((noted_is ∙ ap (noted_if ledger) is) i) attempts (gone i)) ∙ sym (ap (λ t. after_end_by (state_of cert cookies ledger attempts keyings) peer (ended_fact t peer why)) e)

    pub session_end_is_kept : IsStartup cert print cookies after attempts new
    session_end_is_kept = record {
      print_is = is.print_is;
      sound = subst IsSound (sym session_left) (after_end_is_sound (state_of cert cookies ledger attempts keyings) peer why is.sound);
    }

  -- ---- a search begins, or is given up
  module _ (name ni tag : List ℕ) (candidates : List AddressParts) (near moment : ℕ) (free : get attempts near ≡ None)
      (a : AttemptState) (search_is : a ≡ begun_search name candidates ni tag moment) (held new : Attempts) (same : held ≡ attempts) (kept : new ≡ insert held near a) where
    pub sought_state : state_of cert cookies ledger new keyings ≡ after_seek (state_of cert cookies ledger attempts keyings) name candidates near ni tag moment
    sought_state = λ i. record { cert = cert; cookie_secret = cookies; ledger = ledger; attempts = (kept ∙ (λ j. insert (same j) near (search_is j))) i; kept = keyings }

    pub sought_is_kept : IsStartup cert print cookies ledger new keyings
    sought_is_kept = record {
      print_is = is.print_is;
      sound = subst IsSound (sym sought_state) (sought_is_sound (state_of cert cookies ledger attempts keyings) name candidates near ni tag moment is.sound free);
    }

  -- ---- a search is answered
  module _ (near : ℕ) (a : AttemptState) (there : get attempts near ≡ Some a) (searches : is_search a.aim ≡ true) where
    pub unsought_is_kept : (new : Attempts) → new ≡ remove attempts near → IsStartup cert print cookies ledger new keyings
    unsought_is_kept new gone = record {
      print_is = is.print_is;
      sound = subst (λ (x : Attempts). IsSound (state_of cert cookies ledger x keyings)) (sym gone)
          (let named = name_of a.aim searches in unsought_is_sound (state_of cert cookies ledger attempts keyings) near a named.0 is.sound there named.1);
    }

    module _ (peer : List ℕ) (from : AddressParts) (cookie : List ℕ) (moment n : ℕ) (g : GroupSecret) (startable : start_refusal ledger peer ≡ None) (after : Ledger) (fact : Fact) (fact_is : fact ≡ started_fact ledger peer near a.ni) (noted_is : after ≡ noted ledger fact)
        (n_is : n ≡ after.started) (new : Attempts) (changed : new ≡ in_attempt (λ b. met b peer n from cookie moment g) attempts near) where
      pub met_state : state_of cert cookies after new keyings ≡ after_start (state_of cert cookies ledger attempts keyings) peer near a from cookie moment g
      met_state =
          let number : n ≡ ledger.started + 1 = n_is ∙ ap (λ (l : Ledger). l.started) noted_is ∙ ap (λ (f : Fact). ledger.started + starts_in f) fact_is in
          let attempts_are : new ≡ insert attempts near (met a peer (ledger.started + 1) from cookie moment g) =
          changed ∙ changed_there (λ b. met b peer n from cookie moment g) attempts near a there ∙ (λ i. insert attempts near (met a peer (number i) from cookie moment g)) in
          λ i. record { cert = cert; cookie_secret = cookies; ledger = (noted_is ∙ ap (noted ledger) fact_is) i; attempts = attempts_are i; kept = keyings }

      pub met_is_kept : IsStartup cert print cookies after new keyings
      met_is_kept = record {
        print_is = is.print_is;
        sound = subst IsSound (sym met_state)
            (let named = name_of a.aim searches in
            met_is_sound (state_of cert cookies ledger attempts keyings) peer near a named.0 from cookie moment g is.sound there named.1 (startable_is_unheld ledger peer startable));
      }

  -- ---- an attempt begins
  module _ (peer ni tag : List ℕ) (candidates : List AddressParts) (near moment : ℕ) (free : get attempts near ≡ None) (startable : start_refusal ledger peer ≡ None)
      (a : AttemptState) (attempt_is : a ≡ begun_attempt (state_of cert cookies ledger attempts keyings) peer candidates ni tag moment)
      (after : Ledger) (noted_is : after ≡ noted ledger (started_fact ledger peer near ni)) (held new : Attempts) (same : held ≡ attempts) (kept : new ≡ insert held near a) where
    pub begun_state : state_of cert cookies after new keyings ≡ after_begin (state_of cert cookies ledger attempts keyings) peer candidates near ni tag moment
    begun_state = λ i. record { cert = cert; cookie_secret = cookies; ledger = noted_is i; attempts = (kept ∙ (λ j. insert (same j) near (attempt_is j))) i; kept = keyings }

    pub begun_is_kept : IsStartup cert print cookies after new keyings
    begun_is_kept = record {
      print_is = is.print_is;
      sound = subst IsSound (sym begun_state)
          (begun_is_sound (state_of cert cookies ledger attempts keyings) peer candidates near ni tag moment is.sound free (startable_is_unheld ledger peer startable));
    }

-- the search that is made when one begins
pub begun_search_is : (name : List ℕ) (candidates : List AddressParts) (ni tag : List ℕ) (moment : ℕ) (places : List AddressParts) → places ≡ distinct_candidates candidates →
    ◌≡◌ {A = AttemptState} (record { aim = ByName name; ni = ni; tag = tag; start = moment; candidates = places; stage = Hello; last = moment; gap = 0 }) (begun_search name candidates ni tag moment)
begun_search_is name candidates ni tag moment places places_are =
    λ i. record { aim = ByName name; ni = ni; tag = tag; start = moment; candidates = places_are i; stage = Hello; last = moment; gap = 0 }

-- the attempt that is made when one begins
pub begun_attempt_is : (s : StartupState) (peer : List ℕ) (candidates : List AddressParts) (near : ℕ) (ni tag : List ℕ) (moment n : ℕ) (places : List AddressParts) (after : Ledger) (fact : Fact) →
    n ≡ after.started → after ≡ noted s.ledger fact → fact ≡ started_fact s.ledger peer near ni → places ≡ distinct_candidates candidates →
    ◌≡◌ {A = AttemptState} (record { aim = AtPeer peer n; ni = ni; tag = tag; start = moment; candidates = places; stage = Hello; last = moment; gap = 0 }) (begun_attempt s peer candidates ni tag moment)
begun_attempt_is s peer candidates near ni tag moment n places after fact n_is after_is fact_is places_are =
    let number : n ≡ s.ledger.started + 1 = n_is ∙ ap (λ (l : Ledger). l.started) after_is ∙ ap (λ (f : Fact). s.ledger.started + starts_in f) fact_is in
    λ i. record { aim = AtPeer peer (number i); ni = ni; tag = tag; start = moment; candidates = places_are i; stage = Hello; last = moment; gap = 0 }
