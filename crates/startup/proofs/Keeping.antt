-- The attempts and the ledger name the same things after each call on attempts, and after what time makes due.
use Rattle.std.proofs.Common.{inl, inr, is_some, ◌⊎◌, ◌==◌, if◌then◌else◌, ◌∷◌, ℕ, ◌+◌, List, ◌≡◌, Bool, true, false, cond, refl, sym, ap, subst, ◌∙◌, Option, Some, None}
use Rattle.std.specs.FinMap.{get, insert, remove}
use Rattle.rtmfp_base.proofs.Maps.{same_or_not, none_is_some, get_inserted, get_beside, get_left, found_inserted, found_left}
use Rattle.rtmfp_base.proofs.Lowest.{first_is_there}
use Rattle.rtmfp_forms.specs.Address.{AddressParts}
use Rattle.glare_core.specs.declared.facts.Why.{Why}
use Rattle.glare_core.specs.declared.facts.Fact.{Fact}
use Rattle.glare_core.specs.declared.facts.Fact.TheVariants.{Ended, Confirmed}
use Rattle.glare_core.specs.declared.facts.Held.{Held}
use Rattle.glare_core.specs.declared.facts.Held.TheVariants.{Opening, HalfOpen, KeptAsResponder, KeptAsInitiator}
use Rattle.glare_core.specs.Standing.{peer_of, after, confirmed}
use Rattle.glare_core.specs.Ledger.{Ledger, held_with, noted, noted_if}
use Rattle.rtmfp_base.specs.Reasons.{first_that_stands, where_true}
use Rattle.glare_core.specs.Calls.{start_refusal, start_held, started_fact, confirmed_fact, ended_fact}
use Rattle.glare_core.proofs.Tails.{same_end}
use Rattle.startup.specs.declared.aim.Aim.{Aim}
use Rattle.startup.specs.declared.aim.Aim.TheVariants.{AtPeer, ByName}
use Rattle.startup.specs.declared.attempt.Stage.{Stage}
use Rattle.startup.specs.Aims.{peer_of_aim, IsHeldAs, end_of_aim}
use Rattle.startup.specs.declared.attempt.Stage.TheVariants.{Hello, Keying}
use Rattle.crypto_profile.specs.declared.group.GroupSecret.{GroupSecret}
use Rattle.startup.specs.State.{AttemptState, Attempts, KeptKeyings, StartupState, FitsStage, AreKept, IsSound, is_born_here, peer_of_attempt}
use Rattle.startup.specs.Attempts.{lowest, has_cookie, with_ledger, with_attempt, without_attempt_by, begun_attempt, after_begin, begun_search, after_seek, after_start, met, after_confirm, session_in, after_end, after_end_by, is_cookie_of, with_cookie, again_under, if_cookie, changed}
use Rattle.startup.specs.Keyings.{opening_id, without}
use Rattle.startup.proofs.Stepping.{held_after, held_after_own, kept_stays, kept_taken, sound_after}

-- ---- an attempt that is chosen is there

pub lowest_is_there : (test : AttemptState → Bool) (attempts : Attempts) (e : ℕ × AttemptState) → lowest test attempts ≡ Some e → get attempts e.0 ≡ Some e.1
lowest_is_there test attempts e is = (first_is_there test attempts e is).0

pub lowest_passes : (test : AttemptState → Bool) (attempts : Attempts) (e : ℕ × AttemptState) → lowest test attempts ≡ Some e → test e.1 ≡ true
lowest_passes test attempts e is = (first_is_there test attempts e is).1

-- ---- an attempt begins

unheld_start : (thing : Option Held) → start_held thing ≡ None → thing ≡ None
unheld_start None e = refl
unheld_start (Some (Opening n near ni)) e = absurd (cc)
unheld_start (Some (HalfOpen j)) e = absurd (cc)
unheld_start (Some (KeptAsResponder j)) e = absurd (cc)
unheld_start (Some (KeptAsInitiator j)) e = absurd (cc)

second_is_none : {A : Type 0} (a b : Option A) (rest : List (Option A)) → first_that_stands (a ∷ b ∷ rest) ≡ None → b ≡ None
second_is_none None None rest e = refl
second_is_none None (Some y) rest e = absurd (cc)
second_is_none (Some x) b rest e = absurd (cc)

-- Nothing is held with a peer towards which an attempt may start.
pub startable_is_unheld : (l : Ledger) (peer : List ℕ) → start_refusal l peer ≡ None → held_with l peer ≡ None
startable_is_unheld l peer e = unheld_start (held_with l peer) (second_is_none _ _ _ e)

-- what is held as it aims at still is after a fact of a peer with which nothing was held
held_beside : (l : Ledger) (fact : Fact) → held_with l (peer_of fact) ≡ None → (near : ℕ) (ni : List ℕ) (aim : Aim) → IsHeldAs l near ni aim → IsHeldAs (noted l fact) near ni aim
held_beside l fact unheld near ni (AtPeer peer n) was =
    held_after l fact peer ∙ elim (same_end (peer_of fact) peer) [
      | inl d ↦ absurd (none_is_some (Opening n near ni) (held_with l peer) (ap (held_with l) (sym d.0) ∙ unheld) was)
      | inr d ↦ ap (λ b. cond b (after fact (held_with l (peer_of fact))) (held_with l peer)) d.1 ∙ was
    ]
held_beside l fact unheld near ni (ByName name) was = tt

-- They do after an attempt towards a peer has started, with which nothing is held, under a near id that no attempt towards a peer has.
pub started_is_sound : (s : StartupState) (peer : List ℕ) (near : ℕ) (a : AttemptState) → IsSound s → a.aim ≡ AtPeer peer (s.ledger.started + 1) →
    peer_of_attempt (get s.attempts near) ≡ None → held_with s.ledger peer ≡ None → IsSound (with_attempt (with_ledger s (noted s.ledger (started_fact s.ledger peer near a.ni))) near a)
started_is_sound s peer near a sound aims free unheld =
    let fact : Fact = started_fact s.ledger peer near a.ni in
    record {
      own = sound.own;
      held = λ k b e. elim (found_inserted s.attempts near a k b e) [
        | inl here ↦
            subst (λ (c : AttemptState). IsHeldAs (noted s.ledger fact) k c.ni c.aim) here.1
            (subst (λ (aim : Aim). IsHeldAs (noted s.ledger fact) k a.ni aim) (sym aims)
            (held_after_own s.ledger fact ∙ ap (λ (id : ℕ). Some (Opening (s.ledger.started + 1) id a.ni)) (sym here.0)))
        | inr other ↦ held_beside s.ledger fact unheld k b.ni b.aim (sound.held k b other.1)
      ];
      stages = λ k b e. elim (found_inserted s.attempts near a k b e) [
        | inl here ↦
            subst (λ (c : AttemptState). FitsStage c.aim c.stage) here.1
            (subst (λ (aim : Aim). FitsStage aim a.stage) (sym aims) tt)
        | inr other ↦ sound.stages k b other.1
      ];
      there = λ q n k ki e. elim (same_end peer q) [
        | inl d ↦
            let here : Some (Opening (s.ledger.started + 1) near a.ni) ≡ Some (Opening n k ki) = sym (held_after_own s.ledger fact) ∙ ap (held_with (noted s.ledger fact)) d.0 ∙ e in
            let id : near ≡ k = cc in
            ap (λ (i : ℕ). peer_of_attempt (get (insert s.attempts near a) i)) (sym id) ∙ ap peer_of_attempt (get_inserted s.attempts near a) ∙ ap peer_of_aim aims ∙ ap (λ (p : List ℕ). Some p) d.0
        | inr d ↦
            let was : held_with s.ledger q ≡ Some (Opening n k ki) = sym (held_after s.ledger fact q ∙ ap (λ b'. cond b' (after fact (held_with s.ledger peer)) (held_with s.ledger q)) d.1) ∙ e in
            let at : peer_of_attempt (get s.attempts k) ≡ Some q = sound.there q n k ki was in
            elim (same_or_not k near) [
              | inl is ↦ absurd (none_is_some q (peer_of_attempt (get s.attempts k)) (ap (λ (i : ℕ). peer_of_attempt (get s.attempts i)) is.0 ∙ free) at)
              | inr is ↦ ap peer_of_attempt (get_beside s.attempts near a k is.0) ∙ at
            ]
      ];
      kept = kept_stays s.ledger s.kept fact sound.kept (ap is_born_here (held_after_own s.ledger fact) ∙ sym (ap is_born_here unheld));
    }

-- They do after an attempt has begun, under a near id that no attempt has, with a peer with which nothing is held.
pub begun_is_sound : (s : StartupState) (peer : List ℕ) (candidates : List AddressParts) (near : ℕ) (ni tag : List ℕ) (moment : ℕ) →
    IsSound s → get s.attempts near ≡ None → held_with s.ledger peer ≡ None → IsSound (after_begin s peer candidates near ni tag moment)
begun_is_sound s peer candidates near ni tag moment sound free unheld =
    started_is_sound s peer near (begun_attempt s peer candidates ni tag moment) sound refl (ap peer_of_attempt free) unheld

-- ---- a search

-- no peer is known of a search
no_peer : (a : AttemptState) (name : List ℕ) → a.aim ≡ ByName name → peer_of_aim a.aim ≡ None
no_peer a name searches = ap peer_of_aim searches

-- They do after a search has begun, under a near id that no attempt has.
pub sought_is_sound : (s : StartupState) (name : List ℕ) (candidates : List AddressParts) (near : ℕ) (ni tag : List ℕ) (moment : ℕ) →
    IsSound s → get s.attempts near ≡ None → IsSound (after_seek s name candidates near ni tag moment)
sought_is_sound s name candidates near ni tag moment sound free =
    let a : AttemptState = begun_search name candidates ni tag moment in
    record {
      own = sound.own;
      held = λ k b e. elim (found_inserted s.attempts near a k b e) [
        | inl here ↦ subst (λ (c : AttemptState). IsHeldAs s.ledger k c.ni c.aim) here.1 tt
        | inr other ↦ sound.held k b other.1
      ];
      stages = λ k b e. elim (found_inserted s.attempts near a k b e) [
        | inl here ↦ subst (λ (c : AttemptState). FitsStage c.aim c.stage) here.1 tt
        | inr other ↦ sound.stages k b other.1
      ];
      there = λ q n k ki e.
          let at : peer_of_attempt (get s.attempts k) ≡ Some q = sound.there q n k ki e in
          elim (same_or_not k near) [
            | inl is ↦ absurd (none_is_some q (peer_of_attempt (get s.attempts k)) (ap (λ (i : ℕ). peer_of_attempt (get s.attempts i)) is.0 ∙ ap peer_of_attempt free) at)
            | inr is ↦ ap peer_of_attempt (get_beside s.attempts near a k is.0) ∙ at
          ];
      kept = sound.kept;
    }

-- They do after a search was given up.
pub unsought_is_sound : (s : StartupState) (near : ℕ) (a : AttemptState) (name : List ℕ) → IsSound s → get s.attempts near ≡ Some a → a.aim ≡ ByName name →
    IsSound (record s { attempts = remove s.attempts near })
unsought_is_sound s near a name sound at searches =
    record {
      own = sound.own;
      held = λ k b e. sound.held k b (found_left s.attempts near k b e).1;
      stages = λ k b e. sound.stages k b (found_left s.attempts near k b e).1;
      there = λ q n k ki e.
          let was : peer_of_attempt (get s.attempts k) ≡ Some q = sound.there q n k ki e in
          elim (same_or_not k near) [
            | inl is ↦
                absurd (none_is_some q (peer_of_attempt (get s.attempts k)) (ap (λ (i : ℕ). peer_of_attempt (get s.attempts i)) is.0 ∙ ap peer_of_attempt at ∙ no_peer a name searches) was)
            | inr is ↦ ap peer_of_attempt (get_left s.attempts near k is.0) ∙ was
          ];
      kept = sound.kept;
    }

-- They do after a search was answered by an end with which nothing is held: it is an attempt towards that end.
pub met_is_sound : (s : StartupState) (peer : List ℕ) (near : ℕ) (a : AttemptState) (name : List ℕ) (from : AddressParts) (cookie : List ℕ) (moment : ℕ) (g : GroupSecret) →
    IsSound s → get s.attempts near ≡ Some a → a.aim ≡ ByName name → held_with s.ledger peer ≡ None → IsSound (after_start s peer near a from cookie moment g)
met_is_sound s peer near a name from cookie moment g sound at searches unheld =
    started_is_sound s peer near (met a peer (s.ledger.started + 1) from cookie moment g) sound refl (ap peer_of_attempt at ∙ no_peer a name searches) unheld

-- ---- an attempt goes on

-- They do after an attempt was changed that is still towards the same, with the same nonce.
pub changed_is_sound : (s : StartupState) (near : ℕ) (a b : AttemptState) → IsSound s → get s.attempts near ≡ Some a → b.aim ≡ a.aim → b.ni ≡ a.ni → FitsStage b.aim b.stage → IsSound (with_attempt s near b)
changed_is_sound s near a b sound at same_aim same_ni fits =
    let was : IsHeldAs s.ledger near a.ni a.aim = sound.held near a at in
    let now : IsHeldAs s.ledger near b.ni b.aim =
    subst (λ (aim : Aim). IsHeldAs s.ledger near b.ni aim) (sym same_aim) (subst (λ (ni : List ℕ). IsHeldAs s.ledger near ni a.aim) (sym same_ni) was) in
    record {
      own = sound.own;
      held = λ k c e. elim (found_inserted s.attempts near b k c e) [
        | inl here ↦
            subst (λ (x : AttemptState). IsHeldAs s.ledger k x.ni x.aim) here.1
            (subst (λ (id : ℕ). IsHeldAs s.ledger id b.ni b.aim) (sym here.0) now)
        | inr other ↦ sound.held k c other.1
      ];
      stages = λ k c e. elim (found_inserted s.attempts near b k c e) [
        | inl here ↦ subst (λ (x : AttemptState). FitsStage x.aim x.stage) here.1 fits
        | inr other ↦ sound.stages k c other.1
      ];
      there = λ q n k ki e.
          let old : peer_of_attempt (get s.attempts k) ≡ Some q = sound.there q n k ki e in
          elim (same_or_not k near) [
            | inl is ↦
                ap (λ (i : ℕ). peer_of_attempt (get (insert s.attempts near b) i)) is.0 ∙ ap peer_of_attempt (get_inserted s.attempts near b)
                ∙ ap peer_of_aim same_aim ∙ sym (ap peer_of_attempt at) ∙ ap (λ (i : ℕ). peer_of_attempt (get s.attempts i)) (sym is.0) ∙ old
            | inr is ↦ ap peer_of_attempt (get_beside s.attempts near b k is.0) ∙ old
          ];
      kept = sound.kept;
    }

-- an attempt that is answered is towards a peer, and one whose cookie changes has one
pub peer_fits : (aim : Aim) (peer : List ℕ) (n : ℕ) (stage : Stage) → aim ≡ AtPeer peer n → FitsStage aim stage
peer_fits aim peer n stage aims = subst (λ (x : Aim). FitsStage x stage) (sym aims) tt

pub recookied_fits : (aim : Aim) (stage : Stage) (cookie : List ℕ) → FitsStage aim stage → FitsStage aim (with_cookie cookie stage)
recookied_fits (AtPeer peer n) stage cookie fits = tt
recookied_fits (ByName name) Hello cookie fits = tt
recookied_fits (ByName name) (Keying at old under) cookie fits = absurd fits

-- ---- an attempt ends

-- They do after the end of an attempt or a search that is there.
end_by_aim : (s : StartupState) (near : ℕ) (why : Why) (a : AttemptState) (aim : Aim) → IsSound s → get s.attempts near ≡ Some a → a.aim ≡ aim → IsHeldAs s.ledger near a.ni aim → IsSound (without_attempt_by s near (end_of_aim near why aim))
end_by_aim s near why a (ByName name) sound at aims was = unsought_is_sound s near a name sound at aims
end_by_aim s near why a (AtPeer peer n) sound at aims was =
    subst (λ (gone : Option ℕ). IsSound (record s { ledger = noted s.ledger (Ended peer near why); attempts = without s.attempts gone })) (ap opening_id was)
    (sound_after s (Ended peer near why) s.kept sound (ap opening_id (held_after_own s.ledger (Ended peer near why)))
    (kept_stays s.ledger s.kept (Ended peer near why) sound.kept (ap is_born_here (held_after_own s.ledger (Ended peer near why)) ∙ sym (ap is_born_here was))))

pub end_is_sound : (s : StartupState) (e : ℕ × AttemptState) (why : Why) → IsSound s → get s.attempts e.0 ≡ Some e.1 →
    IsSound (without_attempt_by s e.0 (end_of_aim e.0 why e.1.aim))
end_is_sound s e why sound at = end_by_aim s e.0 why e.1 e.1.aim sound at refl (sound.held e.0 e.1 at)

-- ---- a session is confirmed or ends

-- They do after a fact of a peer with which no attempt is held, neither before nor after it.
pub session_is_sound : (s : StartupState) (fact : Fact) (kept : KeptKeyings) → IsSound s → opening_id (held_with s.ledger (peer_of fact)) ≡ None → opening_id (after fact (held_with s.ledger (peer_of fact))) ≡ None →
    AreKept (noted s.ledger fact) kept → IsSound (record s { ledger = noted s.ledger fact; kept = kept })
session_is_sound s fact kept sound before now are =
    subst (λ (gone : Option ℕ). IsSound (record s { ledger = noted s.ledger fact; attempts = without s.attempts gone; kept = kept })) before
    (sound_after s fact kept sound (ap opening_id (held_after_own s.ledger fact) ∙ now) are)

confirmed_by : (s : StartupState) (peer : List ℕ) (thing : Option Held) → held_with s.ledger peer ≡ thing → IsSound s → IsSound (with_ledger s (noted_if s.ledger (confirmed_fact thing peer)))
confirmed_by s peer None is sound = sound
confirmed_by s peer (Some (Opening n near ni)) is sound = sound
confirmed_by s peer (Some (HalfOpen j)) is sound = session_is_sound s (Confirmed peer j.near) s.kept sound (ap opening_id is) (ap (λ (t : Option Held). opening_id (confirmed t)) is)
    (kept_stays s.ledger s.kept (Confirmed peer j.near) sound.kept
    (ap is_born_here (held_after_own s.ledger (Confirmed peer j.near)) ∙ ap (λ (t : Option Held). is_born_here (confirmed t)) is ∙ sym (ap is_born_here is)))
confirmed_by s peer (Some (KeptAsResponder j)) is sound = sound
confirmed_by s peer (Some (KeptAsInitiator j)) is sound = sound

pub after_confirm_is_sound : (s : StartupState) (peer : List ℕ) → IsSound s → IsSound (after_confirm s peer)
after_confirm_is_sound s peer sound = confirmed_by s peer (held_with s.ledger peer) refl sound

session_ends : (s : StartupState) (peer : List ℕ) (near : ℕ) (why : Why) → IsSound s → opening_id (held_with s.ledger peer) ≡ None → IsSound (after_end_by s peer (Some (Ended peer near why)))
session_ends s peer near why sound none = session_is_sound s (Ended peer near why) (remove s.kept peer) sound none refl
    (kept_taken s.ledger s.kept (Ended peer near why) sound.kept (ap is_born_here (held_after_own s.ledger (Ended peer near why))))

ended_by : (s : StartupState) (peer : List ℕ) (why : Why) (thing : Option Held) → held_with s.ledger peer ≡ thing → IsSound s → IsSound (after_end_by s peer (ended_fact (session_in thing) peer why))
ended_by s peer why None is sound = sound
ended_by s peer why (Some (Opening n near ni)) is sound = sound
ended_by s peer why (Some (HalfOpen j)) is sound = session_ends s peer j.near why sound (ap opening_id is)
ended_by s peer why (Some (KeptAsResponder j)) is sound = session_ends s peer j.near why sound (ap opening_id is)
ended_by s peer why (Some (KeptAsInitiator j)) is sound = session_ends s peer j.near why sound (ap opening_id is)

pub after_end_is_sound : (s : StartupState) (peer : List ℕ) (why : Why) → IsSound s → IsSound (after_end s peer why)
after_end_is_sound s peer why sound = ended_by s peer why (held_with s.ledger peer) refl sound

-- ---- the calls

record IsWithCookie (cookie : List ℕ) (near : ℕ) (o : Option AttemptState) (e : ℕ × AttemptState) : Type 0 where
  near_is : e.0 ≡ near
  found : o ≡ Some e.1
  has : has_cookie cookie e.1 ≡ true

if_cookie_is : (cookie : List ℕ) (near : ℕ) (o : Option AttemptState) (e : ℕ × AttemptState) → if_cookie cookie near o ≡ Some e → IsWithCookie cookie near o e
if_cookie_is cookie near None e is = absurd (cc)
if_cookie_is cookie near (Some a) e is = tested (has_cookie cookie a) refl is
  where
    tested : (b : Bool) → has_cookie cookie a ≡ b → where_true b (near, a) ≡ Some e → IsWithCookie cookie near (Some a) e
    tested true t is =
        let same : (near, a) ≡ e = cc in
        record {
          near_is = ap (λ (p : ℕ × AttemptState). p.0) (sym same);
          found = ap (λ (p : ℕ × AttemptState). Some p.1) same;
          has = ap (λ (p : ℕ × AttemptState). has_cookie cookie p.1) (sym same) ∙ t;
        }
    tested false t is = absurd (cc)

either_one : {A : Type 0} (b : Bool) (x y z : A) → (if b then x else y) ≡ z → (x ≡ z) ⊎ (y ≡ z)
either_one true x y z e = inl e
either_one false x y z e = inr e

pub changed_has_cookie : (attempts : Attempts) (sid : ℕ) (old : List ℕ) (e : ℕ × AttemptState) → changed attempts sid old ≡ Some e → has_cookie old e.1 ≡ true
changed_has_cookie attempts sid old e is = elim (either_one (sid == 0) (lowest (has_cookie old) attempts) (if_cookie old sid (get attempts sid)) (Some e) is) [
  | inl first ↦ lowest_passes (has_cookie old) attempts e first
  | inr at ↦ (if_cookie_is old sid (get attempts sid) e at).has
]

stage_again : (cert : List ℕ) (near : ℕ) (a : AttemptState) (stage : Stage) (old cookie : List ℕ) → is_cookie_of old stage ≡ true → again_under cert near a stage cookie ≡ None → ⊥
stage_again cert near a Hello old cookie has none = let clash : false ≡ true = has in cc
stage_again cert near a (Keying at kept under) old cookie has none = cc

-- an attempt that has a cookie has a keying to send again
pub keying_goes_again : (cert : List ℕ) (near : ℕ) (a : AttemptState) (old cookie : List ℕ) → has_cookie old a ≡ true → again_under cert near a a.stage cookie ≡ None → ⊥
keying_goes_again cert near a old cookie has none = stage_again cert near a a.stage old cookie has none

-- what is held is a session where it is one
pub session_is_held : (thing : Option Held) → is_some (session_in thing) ≡ true → session_in thing ≡ thing
session_is_held None e = refl
session_is_held (Some (Opening n near ni)) e = absurd (let clash : false ≡ true = e in cc)
session_is_held (Some (HalfOpen j)) e = refl
session_is_held (Some (KeptAsResponder j)) e = refl
session_is_held (Some (KeptAsInitiator j)) e = refl
