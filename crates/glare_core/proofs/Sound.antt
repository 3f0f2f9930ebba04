-- A history that is lawful, honest and fresh, as one list of steps each of which fits those before it.
use Rattle.std.proofs.Common.{ℕ, List, [], ◌∷◌, ◌≡◌, ◌<◌, inl, inr, refl, sym, subst, arith}
use Rattle.glare_core.specs.declared.facts.Why.TheVariants.{Override}
use Rattle.glare_core.specs.declared.facts.Fact.{Fact}
use Rattle.glare_core.specs.declared.facts.Fact.TheVariants.{Started, Born, Opened, Confirmed, Ended}
use Rattle.glare_core.specs.Standing.{seen}
use Rattle.glare_core.specs.Tells.{Tell, Keying}
use Rattle.glare_core.specs.Steps.{Item, Told, Did, Sends, Step, step, Among, view, facts, IsTail, Happened}
use Rattle.glare_core.specs.Stands.{IsBornOf}
use Rattle.glare_core.specs.Table.{FactFits, SentFits, NextBorn, Followed}
use Rattle.glare_core.specs.Told.{Event, onto, onto_told, steps, DoneLawful, told_to, IsLawful, WasSent, AllSent, IsHonest, with_nonce, nonces, AllDifferent, IsFresh}
use Rattle.glare_core.proofs.Views.{view_same, seen_item}

-- A Keying of the peer to this end was told, with a number above those seen.
pub record KeyingHeard (own : List ℕ) (log : List Item) (peer : List ℕ) : Type 0 where
  pub n : ℕ
  pub ni : List ℕ
  pub near_i : ℕ
  pub generation : ℕ
  pub told : Among (Told (Keying peer own n ni near_i generation)) log
  pub above : seen peer (facts log) < n

-- An Ended for Override has heard the Keying of the Born that follows.
abbrev pub IsCalledFor : List ℕ → List Item → Fact → Type 0
IsCalledFor own log (Started peer n near ni) = Unit {0}
IsCalledFor own log (Born j) = Unit {0}
IsCalledFor own log (Opened j) = Unit {0}
IsCalledFor own log (Confirmed peer near) = Unit {0}
IsCalledFor own log (Ended peer near why) = why ≡ Override → KeyingHeard own log peer

abbrev pub IsNew : List Step → Fact → Type 0
IsNew before (Started peer n near ni) = Among ni (nonces before) → ⊥
IsNew before (Born j) = Among j.nr (nonces before) → ⊥
IsNew before (Opened j) = Unit {0}
IsNew before (Confirmed peer near) = Unit {0}
IsNew before (Ended peer near why) = Unit {0}

pub record FactSound (own : List ℕ) (before : List Step) (fact : Fact) (generation : ℕ) : Type 0 where
  pub fits : FactFits own (view own before) fact generation
  pub fresh : IsNew before fact
  pub called : IsCalledFor own (view own before) fact

abbrev pub ItemFits : List ℕ → List Step → Item → Type 0
ItemFits own before (Told t) = WasSent t before
ItemFits own before (Did fact generation) = FactSound own before fact generation
ItemFits own before (Sends t) = SentFits own (view own before) t

abbrev pub IsSound : List Step → Type 0
IsSound [] = Unit {0}
IsSound (s ∷ earlier) = ItemFits s.who earlier s.item × IsSound earlier

not_told : (k : Tell) (item : Item) (earlier : List Item) → ((t : Tell) → item ≡ Told t → ⊥) → Among (Told k) (item ∷ earlier) → Among (Told k) earlier
not_told k item earlier ne (inl e) = absurd (ne k (sym e))
not_told k item earlier ne (inr h) = h

heard_before : (own peer : List ℕ) (item : Item) (log : List Item) → ((t : Tell) → item ≡ Told t → ⊥) → KeyingHeard own (item ∷ log) peer → KeyingHeard own log peer
heard_before own peer item log ne h =
    record {
      n = h.n;
      ni = h.ni;
      near_i = h.near_i;
      generation = h.generation;
      told = not_told _ item log ne h.told;
      above = omega (arith, h.above, seen_item peer item log);
    }

born_heard : (own peer : List ℕ) (log : List Item) (fact : Fact) (g : ℕ) → FactFits own log fact g → IsBornOf peer fact → KeyingHeard own log peer
born_heard own peer log (Started p n near ni) g fits born = elim born [ ]
born_heard own peer log (Born j) g fits born =
    subst (λ p. KeyingHeard own log p) born (record { n = j.n; ni = j.ni; near_i = j.far; generation = g; told = fits.heard; above = fits.stands.above })
born_heard own peer log (Opened j) g fits born = elim born [ ]
born_heard own peer log (Confirmed p near) g fits born = elim born [ ]
born_heard own peer log (Ended p near why) g fits born = elim born [ ]

next_born : (own peer : List ℕ) (log rest : List Item) → DoneLawful own log rest → NextBorn peer rest → KeyingHeard own log peer
next_born own peer log [] l n = elim n [ ]
next_born own peer log (Told t ∷ rest) l n = absurd l.0
next_born own peer log (Sends t ∷ rest) l n = heard_before own peer (Sends t) log (λ u e. cc) (next_born own peer (Sends t ∷ log) rest l.2 n)
next_born own peer log (Did fact g ∷ rest) l n = born_heard own peer log fact g l.0 n

-- the two conditions beside the table that a step of a sound history meets
called : (own : List ℕ) (log : List Item) (fact : Fact) (g : ℕ) (rest : List Item) → Followed (Did fact g) rest → DoneLawful own (Did fact g ∷ log) rest → IsCalledFor own log fact
called own log (Started peer n near ni) g rest f l = tt
called own log (Born j) g rest f l = tt
called own log (Opened j) g rest f l = tt
called own log (Confirmed peer near) g rest f l = tt
called own log (Ended peer near why) g rest f l = λ e. heard_before own peer (Did (Ended peer near why) g) log (λ u e'. cc) (next_born own peer (Did (Ended peer near why) g ∷ log) rest l (f (inr e)))

fresh_now : (own : List ℕ) (before : List Step) (fact : Fact) (g : ℕ) → AllDifferent (nonces (step own (Did fact g) ∷ before)) → IsNew before fact
fresh_now own before (Started peer n near ni) g d = d.0
fresh_now own before (Born j) g d = d.0
fresh_now own before (Opened j) g d = tt
fresh_now own before (Confirmed peer near) g d = tt
fresh_now own before (Ended peer near why) g d = tt

fresh_before : (s : Step) (before : List Step) (item : Item) → AllDifferent (with_nonce item (nonces before)) → AllDifferent (nonces before)
fresh_before s before (Told t) d = d
fresh_before s before (Sends t) d = d
fresh_before s before (Did (Started peer n near ni) g) d = d.1
fresh_before s before (Did (Born j) g) d = d.1
fresh_before s before (Did (Opened j) g) d = d
fresh_before s before (Did (Confirmed peer near) g) d = d
fresh_before s before (Did (Ended peer near why) g) d = d

fresh_onto : (own : List ℕ) (items : List Item) (before : List Step) → AllDifferent (nonces (onto own items before)) → AllDifferent (nonces before)
fresh_onto own [] before d = d
fresh_onto own (item ∷ items) before d = fresh_before (step own item) before item (fresh_onto own items (step own item ∷ before) d)

fresh_onto_told : (own : List ℕ) (ts : List Tell) (before : List Step) → AllDifferent (nonces (onto_told own ts before)) → AllDifferent (nonces before)
fresh_onto_told own [] before d = d
fresh_onto_told own (t ∷ ts) before d = fresh_onto_told own ts (step own (Told t) ∷ before) d

sound_item : (own : List ℕ) (before : List Step) (log : List Item) (item : Item) (rest : List Item) → view own before ≡ log →
    DoneLawful own log (item ∷ rest) → AllDifferent (nonces (step own item ∷ before)) → ItemFits own before item
sound_item own before log (Told t) rest e l d = absurd l.0
sound_item own before log (Sends t) rest e l d = subst (λ v. SentFits own v t) (sym e) l.0
sound_item own before log (Did fact g) rest e l d =
    record {
      fits = subst (λ v. FactFits own v fact g) (sym e) l.0;
      fresh = fresh_now own before fact g d;
      called = subst (λ v. IsCalledFor own v fact) (sym e) (called own log fact g rest l.1 l.2);
    }

sound_done : (own : List ℕ) (before : List Step) (log done : List Item) → view own before ≡ log → IsSound before → DoneLawful own log done → AllDifferent (nonces (onto own done before)) → IsSound (onto own done before)
sound_done own before log [] e sound l d = sound
sound_done own before log (item ∷ rest) e sound l d =
    sound_done own (step own item ∷ before) (item ∷ log) rest (rw (view_same own item before, e) refl)
    (sound_item own before log item rest e l (fresh_onto own rest (step own item ∷ before) d), sound)
    l.2 d

view_told : (own : List ℕ) (ts : List Tell) (before : List Step) (log : List Item) → view own before ≡ log → view own (onto_told own ts before) ≡ told_to ts log
view_told own [] before log e = e
view_told own (t ∷ ts) before log e = view_told own ts (step own (Told t) ∷ before) (Told t ∷ log) (rw (view_same own (Told t) before, e) refl)

sound_told : (own : List ℕ) (ts : List Tell) (base before : List Step) → IsSound before → ((t : Tell) → WasSent t base → WasSent t before) → AllSent ts base → IsSound (onto_told own ts before)
sound_told own [] base before sound more sent = sound
sound_told own (t ∷ ts) base before sound more sent =
    sound_told own ts base (step own (Told t) ∷ before) (more t sent.0, sound) (λ u w. ((more u w).0, inr (more u w).1)) sent.1

pub sound_history : (history : List Event) → IsLawful history → IsHonest history → IsFresh history → IsSound (steps history)
sound_history [] l h f = tt
sound_history (e ∷ earlier) l h f =
    let told_fresh = fresh_onto e.who e.done (onto_told e.who e.told (steps earlier)) f in
    let before = sound_history earlier l.1 h.1 (fresh_onto_told e.who e.told (steps earlier) told_fresh) in
    sound_done e.who (onto_told e.who e.told (steps earlier)) (told_to e.told (view e.who (steps earlier))) e.done (view_told e.who e.told (steps earlier) (view e.who (steps earlier)) refl)
    (sound_told e.who e.told (steps earlier) (steps earlier) before (λ t w. w) h.0) l.0 f

pub sound_tail : (a now : List Step) → IsSound now → IsTail a now → IsSound a
sound_tail a [] sound t = subst IsSound (sym t) tt
sound_tail a (s ∷ earlier) sound (inl e) = subst IsSound (sym e) sound
sound_tail a (s ∷ earlier) sound (inr t) = sound_tail a earlier sound.1 t

-- each step fits those before it
pub fits_at : (who : List ℕ) (item : Item) (before now : List Step) → IsSound now → Happened who item before now → ItemFits who before item
fits_at who item before now sound h = (sound_tail (step who item ∷ before) now sound h).0

pub sound_at : (who : List ℕ) (item : Item) (before now : List Step) → IsSound now → Happened who item before now → IsSound before
sound_at who item before now sound h = (sound_tail (step who item ∷ before) now sound h).1
