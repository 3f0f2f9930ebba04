-- Steps that are sound, and how they grow: by a tell, by what a datagram told, and by a fact with its tell.
use Rattle.std.proofs.Common.{ℕ, ◌<◌, ◌^◌, List, [], ◌∷◌, ◌≡◌, inl, inr, refl, sym, ap, subst, ◌∙◌, Option, Some, None, arith, true, ◌⊎◌, Bool, cond}
use Rattle.glare_core.specs.declared.facts.Fact.{Fact}
use Rattle.glare_core.specs.declared.facts.Fact.TheVariants.{Started, Born, Opened, Confirmed, Ended}
use Rattle.glare_core.specs.declared.facts.Held.{Held}
use Rattle.glare_core.specs.declared.facts.Held.TheVariants.{Opening, HalfOpen, KeptAsResponder, KeptAsInitiator}
use Rattle.glare_core.specs.declared.facts.Joined.{Joined}
use Rattle.glare_core.specs.Standing.{peer_of, count, after, held}
use Rattle.glare_core.specs.Tells.{Tell, Keying, Answer, Under, as_initiator}
use Rattle.glare_core.specs.Table.{SentFits}
use Rattle.glare_core.specs.Steps.{Item, Told, Did, Sends, Step, step, Among, view, facts, started, IsTail}
use Rattle.glare_core.specs.Told.{WasSent}
use Rattle.glare_core.proofs.Tails.{same_end, tail_self, tail_trans}
use Rattle.glare_core.proofs.Views.{view_same}
use Rattle.glare_core.proofs.Sound.{IsSound, FactSound}
use Rattle.endpoint_laws.proofs.FactsAlone.{alone}
use Rattle.endpoint_laws.proofs.HeldTold.{tail_sent}

pub record Telling (steps : List Step) : Type 0 where
  pub sound : IsSound steps
  pub few : (who : List ℕ) → started who steps < 2 ^ 64

pub telling_new : Telling []
telling_new = record { sound = tt; few = λ who. omega arith }

-- ---- steps that are no facts

-- It changes nothing that is stated.
abbrev pub IsNoFact : Item → Type 0
IsNoFact (Told t) = Unit {0}
IsNoFact (Did fact g) = ⊥
IsNoFact (Sends t) = Unit {0}

facts_no_fact : (item : Item) (log : List Item) → IsNoFact item → facts (item ∷ log) ≡ facts log
facts_no_fact (Told t) log idle = refl
facts_no_fact (Did fact g) log idle = absurd idle
facts_no_fact (Sends t) log idle = refl

stated_no_fact : (own who : List ℕ) (item : Item) (steps : List Step) → IsNoFact item → facts (view who (step own item ∷ steps)) ≡ facts (view who steps)
stated_no_fact own who item steps idle = elim (same_end own who) [ inl d ↦ rw d.1 (facts_no_fact item (view who steps) idle) | inr d ↦ rw d.1 refl ]

few_no_fact : (own who : List ℕ) (item : Item) (steps : List Step) → IsNoFact item → started who steps < 2 ^ 64 → started who (step own item ∷ steps) < 2 ^ 64
few_no_fact own who item steps idle few = subst (λ (n : ℕ). n < 2 ^ 64) (sym (ap count (stated_no_fact own who item steps idle))) few

-- More steps, with the same facts.
pub record Quietly (steps next : List Step) : Type 0 where
  pub telling : Telling next
  pub is : alone next ≡ alone steps
  pub same : (who : List ℕ) → facts (view who next) ≡ facts (view who steps)
  pub tail : IsTail steps next

pub quiet_self : (steps : List Step) → Telling steps → Quietly steps steps
quiet_self steps is = record { telling = is; is = refl; same = λ who. refl; tail = tail_self steps }

pub quiet_told : (own : List ℕ) (t : Tell) (steps : List Step) → Telling steps → WasSent t steps → Quietly steps (step own (Told t) ∷ steps)
quiet_told own t steps is w = record {
  telling = record { sound = (w, is.sound); few = λ who. few_no_fact own who (Told t) steps tt (is.few who) };
  is = refl;
  same = λ who. stated_no_fact own who (Told t) steps tt;
  tail = inr (tail_self steps);
}

-- a tell, where there is one
abbrev pub with_tell : List ℕ → Option Tell → List Step → List Step
with_tell own None steps = steps
with_tell own (Some t) steps = step own (Sends t) ∷ steps

pub quiet_tell : (own : List ℕ) (o : Option Tell) (base steps : List Step) → Quietly base steps → ((t : Tell) → o ≡ Some t → SentFits own (view own steps) t) → Quietly base (with_tell own o steps)
quiet_tell own None base steps q fits = q
quiet_tell own (Some t) base steps q fits = record {
  telling = record { sound = (fits t refl, q.telling.sound); few = λ who. few_no_fact own who (Sends t) steps tt (q.telling.few who) };
  is = q.is;
  same = λ who. stated_no_fact own who (Sends t) steps tt ∙ q.same who;
  tail = inr q.tail;
}

pub tell_sent : (own : List ℕ) (o : Option Tell) (t : Tell) (steps : List Step) → o ≡ Some t → WasSent t (with_tell own o steps)
tell_sent own o t steps e = subst (λ (x : Option Tell). WasSent t (with_tell own x steps)) (sym e) (own, inl refl)

tell_tail : (own : List ℕ) (o : Option Tell) (steps : List Step) → IsTail steps (with_tell own o steps)
tell_tail own None steps = tail_self steps
tell_tail own (Some t) steps = inr (tail_self steps)

one_tell : (t u : Tell) → Some t ≡ Some u → t ≡ u
one_tell t u e = cc

-- ---- the keyings of all attempts, in a generation

keying_tell : ℕ → List ℕ → List ℕ → Option Held → Option Tell
keying_tell g own peer None = None
keying_tell g own peer (Some (Opening n near ni)) = Some (Keying own peer n ni near g)
keying_tell g own peer (Some (HalfOpen j)) = None
keying_tell g own peer (Some (KeptAsResponder j)) = None
keying_tell g own peer (Some (KeptAsInitiator j)) = None

keying_fits : (g : ℕ) (own peer : List ℕ) (log : List Item) (o : Option Held) → held peer (facts log) ≡ o → (t : Tell) → keying_tell g own peer o ≡ Some t → SentFits own log t
unfolding keying_tell
keying_fits g own peer log None e t q = absurd (cc)
keying_fits g own peer log (Some (Opening n near ni)) e t q = subst (SentFits own log) (one_tell (Keying own peer n ni near g) t q) (record { from = refl; attempt = e })
keying_fits g own peer log (Some (HalfOpen j)) e t q = absurd (cc)
keying_fits g own peer log (Some (KeptAsResponder j)) e t q = absurd (cc)
keying_fits g own peer log (Some (KeptAsInitiator j)) e t q = absurd (cc)

-- The peer is that of one of these facts.
abbrev PeerAmong : List ℕ → List Fact → Type 0
PeerAmong peer [] = ⊥
PeerAmong peer (f ∷ rest) = (peer_of f ≡ peer) ⊎ PeerAmong peer rest

held_among : (peer : List ℕ) (h : Held) (fs : List Fact) → held peer fs ≡ Some h → PeerAmong peer fs
held_among peer h [] e = absurd (cc)
held_among peer h (f ∷ fs) e = elim (same_end (peer_of f) peer) [
  | inl d ↦ inl d.0
  | inr d ↦ inr (held_among peer h fs (subst (λ (b : Bool). cond b (after f (held peer fs)) (held peer fs) ≡ Some h) d.1 e))
]

pub record KeyingsSent (g : ℕ) (own : List ℕ) (steps : List Step) : Type 0 where
  pub next : List Step
  pub quiet : Quietly steps next
  pub sent : (peer : List ℕ) (n near : ℕ) (ni : List ℕ) → held peer (facts (view own steps)) ≡ Some (Opening n near ni) → WasSent (Keying own peer n ni near g) next

module _ (g : ℕ) (own : List ℕ) (steps : List Step) (is : Telling steps) where
  abbrev stated : List Fact
  stated = facts (view own steps)

  sending : List Fact → List Step
  sending [] = steps
  sending (f ∷ rest) = with_tell own (keying_tell g own (peer_of f) (held (peer_of f) stated)) (sending rest)

  sending_quiet : (fs : List Fact) → Quietly steps (sending fs)
  unfolding sending
  sending_quiet [] = quiet_self steps is
  sending_quiet (f ∷ rest) =
      let q = sending_quiet rest in
      quiet_tell own (keying_tell g own (peer_of f) (held (peer_of f) stated)) steps (sending rest) q
      (keying_fits g own (peer_of f) (view own (sending rest)) (held (peer_of f) stated) (ap (held (peer_of f)) (q.same own)))

  sending_sends : (fs : List Fact) (peer : List ℕ) (n near : ℕ) (ni : List ℕ) → PeerAmong peer fs → held peer stated ≡ Some (Opening n near ni) → WasSent (Keying own peer n ni near g) (sending fs)
  unfolding sending keying_tell
  sending_sends [] peer n near ni among e = absurd among
  sending_sends (f ∷ rest) peer n near ni (inl here) e =
      let there : held (peer_of f) stated ≡ Some (Opening n near ni) = ap (λ (p : List ℕ). held p stated) here ∙ e in
      subst (λ (p : List ℕ). WasSent (Keying own p n ni near g) (sending (f ∷ rest))) here
      (tell_sent own (keying_tell g own (peer_of f) (held (peer_of f) stated)) (Keying own (peer_of f) n ni near g) (sending rest) (ap (keying_tell g own (peer_of f)) there))
  sending_sends (f ∷ rest) peer n near ni (inr later) e =
      tail_sent (Keying own peer n ni near g) (sending rest) (sending (f ∷ rest)) (tell_tail own (keying_tell g own (peer_of f) (held (peer_of f) stated)) (sending rest)) (sending_sends rest peer n near ni later e)

  pub keyings_sent : KeyingsSent g own steps
  keyings_sent = record {
    next = sending stated;
    quiet = sending_quiet stated;
    sent = λ peer n near ni e. sending_sends stated peer n near ni (held_among peer (Opening n near ni) stated e) e;
  }

-- ---- a fact, and what its end tells after it

abbrev pub fact_tell : List ℕ → Fact → ℕ → Option Tell
fact_tell own (Started peer n near ni) g = None
fact_tell own (Born j) g = Some (Answer j.far own j.near j.nr j.k j.ni g)
fact_tell own (Opened j) g = Some (Under (as_initiator own j) true g)
fact_tell own (Confirmed peer near) g = None
fact_tell own (Ended peer near why) g = None

pub record Grown (own : List ℕ) (fact : Fact) (g : ℕ) (steps : List Step) : Type 0 where
  pub next : List Step
  pub telling : Telling next
  pub is : alone next ≡ step own (Did fact g) ∷ alone steps
  pub stated : facts (view own next) ≡ fact ∷ facts (view own steps)
  pub tail : IsTail steps next
  pub among : Among (Did fact g) (view own next)
  pub sent : (t : Tell) → fact_tell own fact g ≡ Some t → WasSent t next

born_held : (j : Joined) (fs : List Fact) → held j.peer (Born j ∷ fs) ≡ Some (HalfOpen j)
born_held j fs = elim (same_end j.peer j.peer) [ inl d ↦ rw d.1 refl | inr d ↦ absurd (d.0 refl) ]

opened_held : (j : Joined) (fs : List Fact) → held j.peer fs ≡ Some (Opening j.n j.near j.ni) → held j.peer (Opened j ∷ fs) ≡ Some (KeptAsInitiator j)
opened_held j fs e = elim (same_end j.peer j.peer) [ inl d ↦ rw (d.1, e) refl | inr d ↦ absurd (d.0 refl) ]

fact_fits : (own : List ℕ) (fact : Fact) (g : ℕ) (steps : List Step) → FactSound own steps fact g → (log : List Item) → log ≡ Did fact g ∷ view own steps → (t : Tell) → fact_tell own fact g ≡ Some t → SentFits own log t
fact_fits own (Started peer n near ni) g steps sound log is t q = absurd (cc)
fact_fits own (Born j) g steps sound log is t q =
    subst (SentFits own log) (one_tell (Answer j.far own j.near j.nr j.k j.ni g) t q)
    (subst (λ (l : List Item). SentFits own l (Answer j.far own j.near j.nr j.k j.ni g)) (sym is)
    (record { from = refl; j = j; session = inl (born_held j (facts (view own steps))); born = inl refl; near_i_is = refl; near_r_is = refl; nr_is = refl; k_is = refl; ni_is = refl }))
fact_fits own (Opened j) g steps sound log is t q =
    subst (SentFits own log) (one_tell (Under (as_initiator own j) true g) t q)
    (subst (λ (l : List Item). SentFits own l (Under (as_initiator own j) true g)) (sym is)
    (record { j = j; session = inl (opened_held j (facts (view own steps)) sound.fits.stands); opened = inl refl; values_are = refl }))
fact_fits own (Confirmed peer near) g steps sound log is t q = absurd (cc)
fact_fits own (Ended peer near why) g steps sound log is t q = absurd (cc)

module _ (own : List ℕ) (fact : Fact) (g : ℕ) (steps : List Step) (is : Telling steps) (sound : FactSound own steps fact g) (count_fits : count (fact ∷ facts (view own steps)) < 2 ^ 64) where
  abbrev did : List Step
  did = step own (Did fact g) ∷ steps

  did_few : (who : List ℕ) → started who did < 2 ^ 64
  did_few who = elim (same_end own who) [
    | inl d ↦ rw d.1 (subst (λ (w : List ℕ). count (fact ∷ facts (view w steps)) < 2 ^ 64) d.0 count_fits)
    | inr d ↦ rw d.1 (is.few who)
  ]

  did_view : view own did ≡ Did fact g ∷ view own steps
  did_view = view_same own (Did fact g) steps

  told : Quietly did (with_tell own (fact_tell own fact g) did)
  told = quiet_tell own (fact_tell own fact g) did did (quiet_self did (record { sound = (sound, is.sound); few = did_few })) (fact_fits own fact g steps sound (view own did) did_view)

  among_after : (o : Option Tell) → Among (Did fact g) (view own (with_tell own o did))
  among_after None = subst (Among (Did fact g)) (sym did_view) (inl refl)
  among_after (Some t) = subst (Among (Did fact g)) (sym (view_same own (Sends t) did)) (inr (subst (Among (Did fact g)) (sym did_view) (inl refl)))

  pub grown : Grown own fact g steps
  grown = record {
    next = with_tell own (fact_tell own fact g) did;
    telling = told.telling;
    is = told.is;
    stated = told.same own ∙ ap facts did_view;
    tail = tail_trans steps did (with_tell own (fact_tell own fact g) did) (inr (tail_self steps)) told.tail;
    among = among_after (fact_tell own fact g);
    sent = λ t e. tell_sent own (fact_tell own fact g) t did e;
  }
