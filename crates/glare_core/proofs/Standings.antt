-- What an end holds, by the last of its facts about the peer.
use Rattle.std.proofs.Common.{ℕ, List, [], ◌∷◌, ◌≡◌, ◌≤◌, ◌⊎◌, inl, inr, length, refl, sym, ap, subst, arith, Some, None, ◌∙◌}
use Rattle.glare_core.specs.declared.facts.Fact.{Fact}
use Rattle.glare_core.specs.declared.facts.Fact.TheVariants.{Started, Born, Opened, Confirmed, Ended}
use Rattle.glare_core.specs.declared.facts.Held.TheVariants.{Opening, HalfOpen, KeptAsResponder, KeptAsInitiator}
use Rattle.glare_core.specs.declared.facts.Joined.{Joined}
use Rattle.glare_core.specs.Standing.{peer_of, after}
use Rattle.glare_core.specs.Steps.{Item, Told, Did, Sends, Step, step, holding, Happened}
use Rattle.glare_core.proofs.Tails.{same_end, step_length, step_is, cons_is}
use Rattle.glare_core.proofs.Sound.{IsSound, FactSound, fits_at}

-- No fact of the end about the peer came after these steps and the next.
abbrev pub IsQuiet : List ℕ → List ℕ → List Step → List Step → Type 0
IsQuiet x p early now = (fact : Fact) (g : ℕ) (before : List Step) → Happened x (Did fact g) before now → peer_of fact ≡ p → length before ≤ length early

-- the last fact of the end about the peer
pub record LastFact (x p : List ℕ) (now : List Step) : Type 0 where
  pub fact : Fact
  pub g : ℕ
  pub before : List Step
  pub at : Happened x (Did fact g) before now
  pub about : peer_of fact ≡ p
  pub made : holding x p now ≡ after fact (holding x p before)
  pub quiet : IsQuiet x p before now

-- the step is no fact of the end about the peer
abbrev pub IsElsewhere : List ℕ → List ℕ → Step → Type 0
IsElsewhere x p s = (fact : Fact) (g : ℕ) → s.who ≡ x → s.item ≡ Did fact g → peer_of fact ≡ p → ⊥

quiet_later : (x p : List ℕ) (s : Step) (early earlier : List Step) → IsElsewhere x p s → IsQuiet x p early earlier → IsQuiet x p early (s ∷ earlier)
quiet_later x p s early earlier none quiet fact g before (inl e) about =
    let h : step x (Did fact g) ≡ s = cc in
    absurd (none fact g (sym (ap (λ (r : Step). r.who) h)) (sym (ap (λ (r : Step). r.item) h)) about)
quiet_later x p s early earlier none quiet fact g before (inr t) about = quiet fact g before t about

quiet_self : (x p : List ℕ) (s : Step) (earlier : List Step) → IsQuiet x p earlier (s ∷ earlier)
quiet_self x p s earlier fact g before h about = omega (arith, step_length (step x (Did fact g)) before (s ∷ earlier) h)

-- A step that is no fact of the end about the peer changes nothing.
later_last : (x p : List ℕ) (s : Step) (earlier : List Step) → holding x p (s ∷ earlier) ≡ holding x p earlier → IsElsewhere x p s →
    (holding x p earlier ≡ None) ⊎ LastFact x p earlier → (holding x p (s ∷ earlier) ≡ None) ⊎ LastFact x p (s ∷ earlier)
later_last x p s earlier same none (inl e) = inl (same ∙ e)
later_last x p s earlier same none (inr l) =
    inr (record {
      fact = l.fact;
      g = l.g;
      before = l.before;
      at = inr l.at;
      about = l.about;
      made = same ∙ l.made;
      quiet = quiet_later x p s l.before earlier none l.quiet;
    })

last_step : (x p who : List ℕ) (item : Item) (earlier : List Step) →
    (holding x p earlier ≡ None) ⊎ LastFact x p earlier → (holding x p (step who item ∷ earlier) ≡ None) ⊎ LastFact x p (step who item ∷ earlier)
last_step x p who (Told t) earlier before =
    later_last x p (step who (Told t)) earlier (elim (same_end who x) [ inl d ↦ rw d.1 refl | inr d ↦ rw d.1 refl ]) (λ fact g a b c. cc) before
last_step x p who (Sends t) earlier before =
    later_last x p (step who (Sends t)) earlier (elim (same_end who x) [ inl d ↦ rw d.1 refl | inr d ↦ rw d.1 refl ]) (λ fact g a b c. cc) before
last_step x p who (Did fact g) earlier before =
    elim (same_end who x) [
      | inl d ↦ elim (same_end (peer_of fact) p) [
        | inl e ↦
            inr (record {
              fact = fact;
              g = g;
              before = earlier;
              at = inl (cons_is (step who (Did fact g)) (step x (Did fact g)) earlier (step_is (step who (Did fact g)) x (Did fact g) d.0 refl));
              about = e.0;
              made = rw (d.1, e.1) refl;
              quiet = quiet_self x p (step who (Did fact g)) earlier;
            })
        | inr e ↦ later_last x p (step who (Did fact g)) earlier (rw (d.1, e.1) refl) (λ fact' g' a b c. e.0 (same_about fact g fact' g' b c)) before
      ]
      | inr d ↦ later_last x p (step who (Did fact g)) earlier (rw d.1 refl) (λ fact' g' a b c. d.0 a) before
    ]
  where
    same_about : (fact : Fact) (g : ℕ) (fact' : Fact) (g' : ℕ) → Did fact g ≡ Did fact' g' → peer_of fact' ≡ p → peer_of fact ≡ p
    same_about fact g fact' g' b c = let f : fact ≡ fact' = cc in rw f c

pub held_last : (x p : List ℕ) (now : List Step) → (holding x p now ≡ None) ⊎ LastFact x p now
held_last x p [] = inl refl
held_last x p (s ∷ earlier) = last_step x p s.who s.item earlier (held_last x p earlier)

-- This fact is the last one of the end about the peer.
pub record LastIs (x p : List ℕ) (fact : Fact) (now : List Step) : Type 0 where
  pub g : ℕ
  pub before : List Step
  pub at : Happened x (Did fact g) before now
  pub quiet : IsQuiet x p before now

last_is : (x p : List ℕ) (fact' fact : Fact) (g : ℕ) (before now : List Step) → fact ≡ fact' → Happened x (Did fact g) before now → IsQuiet x p before now → LastIs x p fact' now
last_is x p fact' fact g before now e at quiet = record { g = g; before = before; at = subst (λ f. Happened x (Did f g) before now) e at; quiet = quiet }

-- what a Confirmed made
confirmed_made : (x p peer : List ℕ) (near g : ℕ) (before : List Step) → FactSound x before (Confirmed peer near) g → peer ≡ p →
    (j : Joined) × (holding x p before ≡ Some (HalfOpen j)) × (after (Confirmed peer near) (holding x p before) ≡ Some (KeptAsResponder j)) × (near ≡ j.near)
confirmed_made x p peer near g before sound e =
    let h : holding x p before ≡ Some (HalfOpen sound.fits.stands.j) = subst (λ q. holding x q before ≡ Some (HalfOpen sound.fits.stands.j)) e sound.fits.stands.session in
    (sound.fits.stands.j, h, rw h refl, sound.fits.stands.id)

-- what an Opened made
pub opened_made : (x p : List ℕ) (j : Joined) (g : ℕ) (before : List Step) → FactSound x before (Opened j) g → j.peer ≡ p →
    after (Opened j) (holding x p before) ≡ Some (KeptAsInitiator j)
opened_made x p j g before sound e =
    let h : holding x p before ≡ Some (Opening j.n j.near j.ni) = subst (λ q. holding x q before ≡ Some (Opening j.n j.near j.ni)) e sound.fits.stands in
    rw h refl

opening_of : (x p : List ℕ) (n near : ℕ) (ni : List ℕ) (now : List Step) (fact : Fact) (g : ℕ) (before : List Step) →
    FactSound x before fact g → Happened x (Did fact g) before now → peer_of fact ≡ p → IsQuiet x p before now →
    after fact (holding x p before) ≡ Some (Opening n near ni) → LastIs x p (Started p n near ni) now
opening_of x p n near ni now (Started p' n' near' ni') g before sound at about quiet made = last_is x p (Started p n near ni) (Started p' n' near' ni') g before now (cc) at quiet
opening_of x p n near ni now (Born j) g before sound at about quiet made = absurd (cc)
opening_of x p n near ni now (Opened j) g before sound at about quiet made = let h = opened_made x p j g before sound about in absurd (cc)
opening_of x p n near ni now (Confirmed p' near') g before sound at about quiet made = let h = (confirmed_made x p p' near' g before sound about).2 in absurd (cc)
opening_of x p n near ni now (Ended p' near' why) g before sound at about quiet made = absurd (cc)

half_open_of : (x p : List ℕ) (j : Joined) (now : List Step) (fact : Fact) (g : ℕ) (before : List Step) →
    FactSound x before fact g → Happened x (Did fact g) before now → peer_of fact ≡ p → IsQuiet x p before now →
    after fact (holding x p before) ≡ Some (HalfOpen j) → (j.peer ≡ p) × LastIs x p (Born j) now
half_open_of x p j now (Started p' n' near' ni') g before sound at about quiet made = absurd (cc)
half_open_of x p j now (Born j') g before sound at about quiet made =
    let e : j' ≡ j = cc in (subst (λ q. q.peer ≡ p) e about, last_is x p (Born j) (Born j') g before now (cc) at quiet)
half_open_of x p j now (Opened j') g before sound at about quiet made = let h = opened_made x p j' g before sound about in absurd (cc)
half_open_of x p j now (Confirmed p' near') g before sound at about quiet made = let h = (confirmed_made x p p' near' g before sound about).2 in absurd (cc)
half_open_of x p j now (Ended p' near' why) g before sound at about quiet made = absurd (cc)

kept_i_of : (x p : List ℕ) (j : Joined) (now : List Step) (fact : Fact) (g : ℕ) (before : List Step) →
    FactSound x before fact g → Happened x (Did fact g) before now → peer_of fact ≡ p → IsQuiet x p before now →
    after fact (holding x p before) ≡ Some (KeptAsInitiator j) → (j.peer ≡ p) × LastIs x p (Opened j) now
kept_i_of x p j now (Started p' n' near' ni') g before sound at about quiet made = absurd (cc)
kept_i_of x p j now (Born j') g before sound at about quiet made = absurd (cc)
kept_i_of x p j now (Opened j') g before sound at about quiet made =
    let h = opened_made x p j' g before sound about in
    let e : j' ≡ j = cc in (subst (λ q. q.peer ≡ p) e about, last_is x p (Opened j) (Opened j') g before now (cc) at quiet)
kept_i_of x p j now (Confirmed p' near') g before sound at about quiet made = let h = (confirmed_made x p p' near' g before sound about).2 in absurd (cc)
kept_i_of x p j now (Ended p' near' why) g before sound at about quiet made = absurd (cc)

pub record ConfirmedLast (x p : List ℕ) (j : Joined) (now : List Step) : Type 0 where
  pub near : ℕ
  pub last : LastIs x p (Confirmed p near) now
  pub half : holding x p last.before ≡ Some (HalfOpen j)
  pub id : near ≡ j.near

kept_r_of : (x p : List ℕ) (j : Joined) (now : List Step) (fact : Fact) (g : ℕ) (before : List Step) →
    FactSound x before fact g → Happened x (Did fact g) before now → peer_of fact ≡ p → IsQuiet x p before now →
    after fact (holding x p before) ≡ Some (KeptAsResponder j) → ConfirmedLast x p j now
unfolding last_is
kept_r_of x p j now (Started p' n' near' ni') g before sound at about quiet made = absurd (cc)
kept_r_of x p j now (Born j') g before sound at about quiet made = absurd (cc)
kept_r_of x p j now (Opened j') g before sound at about quiet made = let h = opened_made x p j' g before sound about in absurd (cc)
kept_r_of x p j now (Confirmed p' near') g before sound at about quiet made =
    let m = confirmed_made x p p' near' g before sound about in
    let e : m.0 ≡ j = cc in
    record {
      near = near';
      last = last_is x p (Confirmed p near') (Confirmed p' near') g before now (cc) at quiet;
      half = subst (λ q. holding x p before ≡ Some (HalfOpen q)) e m.1;
      id = subst (λ q. near' ≡ q.near) e m.3;
    }
kept_r_of x p j now (Ended p' near' why) g before sound at about quiet made = absurd (cc)

-- from what is held to the last fact
module _ (x p : List ℕ) (now : List Step) (sound : IsSound now) where
  pub opening_is : (n near : ℕ) (ni : List ℕ) → holding x p now ≡ Some (Opening n near ni) → LastIs x p (Started p n near ni) now
  opening_is n near ni e = elim (held_last x p now) [
    | inl none ↦ absurd (cc)
    | inr l ↦ opening_of x p n near ni now l.fact l.g l.before (fits_at x (Did l.fact l.g) l.before now sound l.at) l.at l.about l.quiet (sym l.made ∙ e)
  ]

  pub half_open_is : (j : Joined) → holding x p now ≡ Some (HalfOpen j) → (j.peer ≡ p) × LastIs x p (Born j) now
  half_open_is j e = elim (held_last x p now) [
    | inl none ↦ absurd (cc)
    | inr l ↦ half_open_of x p j now l.fact l.g l.before (fits_at x (Did l.fact l.g) l.before now sound l.at) l.at l.about l.quiet (sym l.made ∙ e)
  ]

  pub kept_i_is : (j : Joined) → holding x p now ≡ Some (KeptAsInitiator j) → (j.peer ≡ p) × LastIs x p (Opened j) now
  kept_i_is j e = elim (held_last x p now) [
    | inl none ↦ absurd (cc)
    | inr l ↦ kept_i_of x p j now l.fact l.g l.before (fits_at x (Did l.fact l.g) l.before now sound l.at) l.at l.about l.quiet (sym l.made ∙ e)
  ]

  pub kept_r_is : (j : Joined) → holding x p now ≡ Some (KeptAsResponder j) → ConfirmedLast x p j now
  kept_r_is j e = elim (held_last x p now) [
    | inl none ↦ absurd (cc)
    | inr l ↦ kept_r_of x p j now l.fact l.g l.before (fits_at x (Did l.fact l.g) l.before now sound l.at) l.at l.about l.quiet (sym l.made ∙ e)
  ]
