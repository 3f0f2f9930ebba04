-- What an end told of the sessions that began at it, and the sizes of what it holds.
use Rattle.std.proofs.Common.{ℕ, ◌<◌, ◌^◌, List, [], ◌∷◌, length, Option, Some, None, ◌≡◌, inl, inr, sym, ap, subst, ◌∙◌, true}
use Rattle.glare_core.specs.declared.facts.Fact.{Fact}
use Rattle.glare_core.specs.declared.facts.Fact.TheVariants.{Started, Born, Opened, Confirmed, Ended}
use Rattle.glare_core.specs.declared.facts.Held.{Held}
use Rattle.glare_core.specs.declared.facts.Held.TheVariants.{Opening, HalfOpen, KeptAsResponder, KeptAsInitiator}
use Rattle.glare_core.specs.declared.facts.Joined.{Joined}
use Rattle.glare_core.specs.Standing.{peer_of, after, held}
use Rattle.glare_core.specs.Tells.{Tell, Answer, Under, as_initiator}
use Rattle.glare_core.specs.Steps.{Item, Did, Step, Among, view, IsTail}
use Rattle.glare_core.specs.Told.{WasSent}
use Rattle.glare_core.proofs.Tails.{same_end}
use Rattle.endpoint_model.specs.Event.{Setup, own_of}
use Rattle.endpoint_laws.specs.Past.{Past, facts_of}
use Rattle.endpoint_laws.specs.Contexts.{Secrets, BegunUnder}

-- ---- what stays as steps are added

pub tail_sent : (t : Tell) (steps last : List Step) → IsTail steps last → WasSent t steps → WasSent t last
tail_sent t steps [] tail w = subst (WasSent t) tail w
tail_sent t steps (s ∷ last) (inl e) w = subst (WasSent t) e w
tail_sent t steps (s ∷ last) (inr tail) w = let r = tail_sent t steps last tail w in (r.0, inr r.1)

pub tail_among : (own : List ℕ) (item : Item) (steps last : List Step) → IsTail steps last → Among item (view own steps) → Among item (view own last)
tail_among own item steps [] tail a = subst (λ (r : List Step). Among item (view own r)) tail a
tail_among own item steps (s ∷ last) (inl e) a = subst (λ (r : List Step). Among item (view own r)) e a
tail_among own item steps (s ∷ last) (inr tail) a = elim (same_end s.who own) [
  | inl d ↦ rw d.1 (inr (tail_among own item steps last tail a))
  | inr d ↦ rw d.1 (tail_among own item steps last tail a)
]

-- ---- sizes

pub record BornSizes (j : Joined) : Type 0 where
  pub nr : length j.nr ≡ 16
  pub ni : length j.ni ≡ 16
  pub k : j.k < 2 ^ 64
  pub far : j.far < 2 ^ 32

abbrev pub AttemptSizes : List ℕ → ℕ → List ℕ → Type 0
AttemptSizes peer n ni = (length peer ≡ 32) × (length ni ≡ 16) × (n < 2 ^ 64)

abbrev pub FactSizes : Fact → Type 0
FactSizes (Started peer n near ni) = AttemptSizes peer n ni
FactSizes (Born j) = BornSizes j
FactSizes (Opened j) = Unit {0}
FactSizes (Confirmed peer near) = Unit {0}
FactSizes (Ended peer near why) = Unit {0}

-- the attempts that are held after these facts have them
abbrev pub AreSized : List Fact → Type 0
AreSized facts = (peer : List ℕ) (n near : ℕ) (ni : List ℕ) → held peer facts ≡ Some (Opening n near ni) → AttemptSizes peer n ni

same_attempt : (peer : List ℕ) (n n' near near' : ℕ) (ni ni' : List ℕ) → Some (Opening n near ni) ≡ Some (Opening n' near' ni') → AttemptSizes peer n ni → AttemptSizes peer n' ni'
same_attempt peer n n' near near' ni ni' e sizes =
    let number : n ≡ n' = cc in
    let nonce : ni ≡ ni' = cc in
    (sizes.0, sym (ap length nonce) ∙ sizes.1, subst (λ (m : ℕ). m < 2 ^ 64) number sizes.2)

sized_after : (fact : Fact) (o : Option Held) (peer : List ℕ) → peer_of fact ≡ peer → FactSizes fact → ((n near : ℕ) (ni : List ℕ) → o ≡ Some (Opening n near ni) → AttemptSizes peer n ni) →
    (n near : ℕ) (ni : List ℕ) → after fact o ≡ Some (Opening n near ni) → AttemptSizes peer n ni
sized_after (Started p n' near' ni') o peer is sizes h n near ni e = same_attempt peer n' n near' near ni' ni e (sym (ap length is) ∙ sizes.0, sizes.1, sizes.2)
sized_after (Born j) o peer is sizes h n near ni e = absurd (cc)
sized_after (Opened j) None peer is sizes h n near ni e = absurd (cc)
sized_after (Opened j) (Some (Opening a b c)) peer is sizes h n near ni e = absurd (cc)
sized_after (Opened j) (Some (HalfOpen t)) peer is sizes h n near ni e = absurd (cc)
sized_after (Opened j) (Some (KeptAsResponder t)) peer is sizes h n near ni e = absurd (cc)
sized_after (Opened j) (Some (KeptAsInitiator t)) peer is sizes h n near ni e = absurd (cc)
sized_after (Confirmed p near') None peer is sizes h n near ni e = absurd (cc)
sized_after (Confirmed p near') (Some (Opening a b c)) peer is sizes h n near ni e = h n near ni e
sized_after (Confirmed p near') (Some (HalfOpen t)) peer is sizes h n near ni e = absurd (cc)
sized_after (Confirmed p near') (Some (KeptAsResponder t)) peer is sizes h n near ni e = absurd (cc)
sized_after (Confirmed p near') (Some (KeptAsInitiator t)) peer is sizes h n near ni e = absurd (cc)
sized_after (Ended p near' why) o peer is sizes h n near ni e = absurd (cc)

pub sized_more : (fact : Fact) (facts : List Fact) → FactSizes fact → AreSized facts → AreSized (fact ∷ facts)
sized_more fact facts sizes are peer = elim (same_end (peer_of fact) peer) [
  | inl d ↦ rw d.1 (sized_after fact (held peer facts) peer d.0 sizes (are peer))
  | inr d ↦ rw d.1 (are peer)
]

-- ---- what was told

-- a session that was born in this generation
pub record BornTold (setup : Setup) (steps : List Step) (j : Joined) (generation : ℕ) : Type 0 where
  pub stated : Among (Did (Born j) generation) (view (own_of setup) steps)
  pub sent : WasSent (Answer j.far (own_of setup) j.near j.nr j.k j.ni generation) steps
  pub sizes : BornSizes j

-- An end that did this told of its sessions, in the generations in which they began.
pub record EndTold (secrets : Secrets) (setup : Setup) (past : Past) (steps : List Step) : Type 0 where
  pub born : (j : Joined) (generation : ℕ) → BegunUnder secrets setup (HalfOpen j) generation past → BornTold setup steps j generation
  pub opened : (j : Joined) (generation : ℕ) → BegunUnder secrets setup (KeptAsInitiator j) generation past → WasSent (Under (as_initiator (own_of setup) j) true generation) steps
  pub sized : AreSized (facts_of past)

pub born_stays : (setup : Setup) (steps last : List Step) (j : Joined) (generation : ℕ) → IsTail steps last → BornTold setup steps j generation → BornTold setup last j generation
born_stays setup steps last j generation tail b = record {
  stated = tail_among (own_of setup) (Did (Born j) generation) steps last tail b.stated;
  sent = tail_sent (Answer j.far (own_of setup) j.near j.nr j.k j.ni generation) steps last tail b.sent;
  sizes = b.sizes;
}

pub told_stays : (secrets : Secrets) (setup : Setup) (past : Past) (steps last : List Step) → IsTail steps last → EndTold secrets setup past steps → EndTold secrets setup past last
told_stays secrets setup past steps last tail told = record {
  born = λ j g b. born_stays setup steps last j g tail (told.born j g b);
  opened = λ j g b. tail_sent (Under (as_initiator (own_of setup) j) true g) steps last tail (told.opened j g b);
  sized = told.sized;
}

pub nothing_told : (secrets : Secrets) (setup : Setup) (steps : List Step) → EndTold secrets setup [] steps
nothing_told secrets setup steps = record { born = λ j g b. absurd b; opened = λ j g b. absurd b; sized = λ peer n near ni e. absurd (cc) }
