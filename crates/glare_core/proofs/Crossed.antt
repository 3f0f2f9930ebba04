-- Of two attempts that were crossed at most one opens, and then the other has been ended.
use Rattle.std.proofs.Common.{ℕ, List, ◌∷◌, ◌≡◌, ◌≤◌, inl, inr, length, ap, subst, arith, Some, None, ◌∙◌}
use Rattle.std.proofs.lemmas.Bool.{cases_order, cases_lt}
use Rattle.glare_core.specs.declared.facts.Why.TheVariants.{Glare}
use Rattle.glare_core.specs.declared.facts.Fact.TheVariants.{Started, Born, Opened, Ended}
use Rattle.glare_core.specs.declared.facts.Held.TheVariants.{Opening}
use Rattle.glare_core.specs.declared.facts.Joined.{Joined}
use Rattle.glare_core.specs.Steps.{Did, Step, step, holding, IsTail, Happened}
use Rattle.glare_core.specs.Agreed.{Attempt, Attempts, IsNotBorn, CrossedIsOver, OneOpens, PrevailingIsSpared}
use Rattle.glare_core.proofs.Tails.{tail_trans, tail_of_step, tail_order, step_length, earlier_step, same_step, lift, AreOneFact, one_fact}
use Rattle.identity.proofs.Above.{never_both}
use Rattle.glare_core.proofs.Sound.{IsSound, fits_at, sound_at, sound_tail}
use Rattle.glare_core.proofs.Views.{started_at}
use Rattle.glare_core.proofs.Standings.{opening_is}
use Rattle.glare_core.proofs.Causes.{opened_born}
use Rattle.glare_core.proofs.Since.{attempt_since}

pub prevailing_is_spared : (now : List Step) → IsSound now → PrevailingIsSpared now
prevailing_is_spared now sound x y near g before at prevails =
    never_both x y prevails (fits_at x (Did (Ended y near Glare) g) before now sound at).fits.stands.ends.1

-- Two Started of an end with one number are one step.
numbered_once : (x p : List ℕ) (n near : ℕ) (ni : List ℕ) (g : ℕ) (b : List Step) (p' : List ℕ) (n' near' : ℕ) (ni' : List ℕ) (g' : ℕ) (b' now : List Step) → IsSound now →
    Happened x (Did (Started p n near ni) g) b now → Happened x (Did (Started p' n' near' ni') g') b' now → n ≡ n' →
    AreOneFact x (Started p n near ni) g b x (Started p' n' near' ni') g' b'
numbered_once x p n near ni g b p' n' near' ni' g' b' now sound at at' e =
    let s = step x (Did (Started p n near ni) g) in
    let s' = step x (Did (Started p' n' near' ni') g') in
    let next = (fits_at x (Did (Started p n near ni) g) b now sound at).fits.stands.next in
    let next' = (fits_at x (Did (Started p' n' near' ni') g') b' now sound at').fits.stands.next in
    elim (cases_order (length b) (length b')) [
      | inl same ↦ one_fact x (Started p n near ni) g b x (Started p' n' near' ni') g' b' (same_step s s' b b' now at at' same)
      | inr (inl lt) ↦ absurd (omega (arith, e, next, next', started_at x (Started p n near ni) g b b' (earlier_step s s' b b' now at at' lt)))
      | inr (inr gt) ↦ absurd (omega (arith, e, next, next', started_at x (Started p' n' near' ni') g' b' b (earlier_step s' s b' b now at' at gt)))
    ]

same_ni : (p : List ℕ) (n near : ℕ) (ni p' : List ℕ) (n' near' : ℕ) (ni' : List ℕ) → Started p n near ni ≡ Started p' n' near' ni' → ni ≡ ni'
same_ni p n near ni p' n' near' ni' e = cc

-- The Opened of an attempt that was crossed: it was born since, and at its own end nothing was born between.
record OpenedSince (x y : List ℕ) (then d now : List Step) : Type 0 where
  t : Joined
  g : ℕ
  early : List Step
  born : Happened y (Did (Born t) g) early d
  peer : t.peer ≡ x
  since : length then ≤ length early
  none : (t' : Joined) (g' : ℕ) (early' : List Step) → Happened x (Did (Born t') g') early' now → t'.peer ≡ y → length then ≤ length early' → length d ≤ length early'

opened_since : (x y : List ℕ) (a : Attempt) (s : Joined) (g : ℕ) (then d now : List Step) → IsSound now → IsTail then now → Attempts x y a then → IsNotBorn x y a then →
    Happened x (Did (Opened s) g) d now → s.peer ≡ y → s.n ≡ a.n → OpenedSince x y then d now
opened_since x y a s g then d now sound tail attempts not_born at ep en =
    let s_step = step x (Did (Opened s) g) in
    let sound_d = sound_at x (Did (Opened s) g) d now sound at in
    let fits = (fits_at x (Did (Opened s) g) d now sound at).fits in
    let start = opening_is x y d sound_d s.n s.near s.ni (subst (λ q. holding x q d ≡ Some (Opening s.n s.near s.ni)) ep fits.stands) in
    let start_step = step x (Did (Started y s.n s.near s.ni) start.g) in
    let begun = opening_is x y then (sound_tail then now sound tail) a.n a.near a.ni attempts in
    let begun_step = step x (Did (Started y a.n a.near a.ni) begun.g) in
    let same = numbered_once x y s.n s.near s.ni start.g start.before y a.n a.near a.ni begun.g begun.before now sound
    (lift start_step s_step start.before d now start.at at) (tail_trans (begun_step ∷ begun.before) then now begun.at tail) en in
    let eni : s.ni ≡ a.ni = same_ni y s.n s.near s.ni y a.n a.near a.ni same.fact_is in
    let b = opened_born x s g d now sound at in
    let born : Happened y (Did (Born b.t) g) b.early d = subst (λ q. Happened q (Did (Born b.t) g) b.early d) ep b.born in
    let born_now = lift (step y (Did (Born b.t) g)) s_step b.early d now born at in
    record {
      t = b.t;
      g = g;
      early = b.early;
      born = born;
      peer = b.peer;
      since = elim (cases_lt (length b.early) (length then)) [
        | inl lt ↦ absurd (not_born b.t g b.early (tail_order (step y (Did (Born b.t) g) ∷ b.early) then now born_now tail (omega arith)) b.peer (b.n ∙ en) (b.ni ∙ eni))
        | inr ge ↦ ge
      ];
      none = λ t' g' early' at' about ge.
          elim (cases_lt (length early') (length d)) [
            | inr le ↦ le
            | inl lt ↦
                absurd (omega (
                  arith,
                  ge,
                  ap length same.before,
                  step_length begun_step begun.before then begun.at,
                  start.quiet (Born t') g' early' (earlier_step (step x (Did (Born t') g')) s_step early' d now at' at lt) about,
                ))
          ];
    }

pub one_opens : (now : List Step) → IsSound now → OneOpens now
one_opens now sound x y a b then d d' tail c (s, g, at, ep, en) (s', g', at', ep', en') =
    let o = opened_since x y a s g then d now sound tail c.attempts_x c.not_born_y at ep en in
    let o' = opened_since y x b s' g' then d' now sound tail c.attempts_y c.not_born_x at' ep' en' in
    let born = lift (step y (Did (Born o.t) o.g)) (step x (Did (Opened s) g)) o.early d now o.born at in
    let born' = lift (step x (Did (Born o'.t) o'.g)) (step y (Did (Opened s') g')) o'.early d' now o'.born at' in
    omega (
      arith,
      o.none o'.t o'.g o'.early born' o'.peer o'.since,
      o'.none o.t o.g o.early born o.peer o.since,
      step_length (step y (Did (Born o.t) o.g)) o.early d o.born,
      step_length (step x (Did (Born o'.t) o'.g)) o'.early d' o'.born,
    )

pub crossed_is_over : (now : List Step) → IsSound now → CrossedIsOver now
crossed_is_over now sound x y a b then d tail c (s, g, at, ep, en) =
    let s_step = step x (Did (Opened s) g) in
    let sound_d = sound_at x (Did (Opened s) g) d now sound at in
    let o = opened_since x y a s g then d now sound tail c.attempts_x c.not_born_y at ep en in
    let born_step = step y (Did (Born o.t) o.g) in
    let born = lift born_step s_step o.early d now o.born at in
    let free = subst (λ q. holding y q o.early ≡ None) o.peer (fits_at y (Did (Born o.t) o.g) o.early now sound born).fits.stands.free in
    let tail_early = tail_order then o.early now tail (tail_of_step born_step o.early now born) o.since in
    elim (attempt_since y x b then o.early (sound_at y (Did (Born o.t) o.g) o.early now sound born) tail_early c.attempts_y) [
      | inl h ↦ absurd (cc)
      | inr (inl e) ↦ (e.near, e.why, e.g, e.early, lift (step y (Did (Ended x e.near e.why) e.g)) born_step e.early o.early d e.ended o.born, e.attempt)
      | inr (inr p) ↦
          absurd (one_opens now sound x y a b then d p.early tail c (s, g, at, ep, en)
          (p.s, p.g, lift (step y (Did (Opened p.s) p.g)) born_step p.early o.early now p.opened born, p.peer, p.n))
    ]
