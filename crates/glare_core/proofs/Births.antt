-- Each Opened has exactly one Born, and no Started has two.
use Rattle.std.proofs.Common.{ℕ, List, ◌≡◌, sym, subst, ◌∙◌}
use Rattle.glare_core.specs.declared.facts.Fact.{Fact}
use Rattle.glare_core.specs.declared.facts.Fact.TheVariants.{Started, Born, Opened}
use Rattle.glare_core.specs.declared.facts.Joined.{Joined}
use Rattle.glare_core.specs.Steps.{Did, Step, step, Happened}
use Rattle.glare_core.specs.Agreed.{EachOpenedHasOneBirth, NoStartedHasTwoBirths}
use Rattle.glare_core.proofs.Tails.{lift, AreOneFact}
use Rattle.glare_core.proofs.Sound.{IsSound}
use Rattle.glare_core.proofs.Causes.{born_started, started_once, born_once, opened_born}

same_peer : (p : List ℕ) (n near : ℕ) (ni p' : List ℕ) (n' near' : ℕ) (ni' : List ℕ) → Started p n near ni ≡ Started p' n' near' ni' → p ≡ p'
same_peer p n near ni p' n' near' ni' e = cc

same_n : (p : List ℕ) (n near : ℕ) (ni p' : List ℕ) (n' near' : ℕ) (ni' : List ℕ) → Started p n near ni ≡ Started p' n' near' ni' → n ≡ n'
same_n p n near ni p' n' near' ni' e = cc

same_born : (t t' : Joined) → ◌≡◌ {A = Fact} (Born t) (Born t') → t ≡ t'
same_born t t' e = cc

-- Two Borns of one nonce, at whatever ends, are one step.
pub births_once : (y : List ℕ) (t : Joined) (g : ℕ) (b : List Step) (y' : List ℕ) (t' : Joined) (g' : ℕ) (b' now : List Step) → IsSound now →
    Happened y (Did (Born t) g) b now → Happened y' (Did (Born t') g') b' now → t.ni ≡ t'.ni → AreOneFact y (Born t) g b y' (Born t') g' b'
births_once y t g b y' t' g' b' now sound at at' e =
    let a = born_started y t g b now sound at in
    let a' = born_started y' t' g' b' now sound at' in
    let here = lift (step t.peer (Did (Started y t.n t.far t.ni) a.g)) (step y (Did (Born t) g)) a.before b now a.at at in
    let here' = lift (step t'.peer (Did (Started y' t'.n t'.far t'.ni) a'.g)) (step y' (Did (Born t') g')) a'.before b' now a'.at at' in
    let same = started_once t.peer y t.n t.far t.ni a.g a.before t'.peer y' t'.n t'.far t'.ni a'.g a'.before now sound here here' e in
    let ends : y ≡ y' = same_peer y t.n t.far t.ni y' t'.n t'.far t'.ni same.fact_is in
    let numbers : t.n ≡ t'.n = same_n y t.n t.far t.ni y' t'.n t'.far t'.ni same.fact_is in
    let one = born_once y t g b t' g' b' now sound at (subst (λ q. Happened q (Did (Born t') g') b' now) (sym ends) at') same.who numbers in
    record { who = ends; fact_is = one.fact_is; g_is = one.g_is; before = one.before }

pub each_opened_has_one_birth : (now : List Step) → IsSound now → EachOpenedHasOneBirth now
each_opened_has_one_birth now sound x s g before at =
    let b = opened_born x s g before now sound at in
    let born = lift (step s.peer (Did (Born b.t) g)) (step x (Did (Opened s) g)) b.early before now b.born at in
    record {
      t = b.t;
      early = b.early;
      born = b.born;
      n = b.n;
      k = b.k;
      values = λ i. record { ni = b.ni i; nr = b.nr i; initiator = b.peer i; responder = s.peer; near_i = b.far i; near_r = b.near i };
      only = λ t' g' early' at' en eni.
          let once = births_once s.peer t' g' early' s.peer b.t g b.early now sound at' born (eni ∙ sym b.ni) in
          (same_born t' b.t once.fact_is, once.before);
    }

pub no_started_has_two_births : (now : List Step) → IsSound now → NoStartedHasTwoBirths now
no_started_has_two_births now sound x p n near ni g before at y y' t t' h h' early early' born ex en eni born' ex' en' eni' =
    let once = births_once y t h early y' t' h' early' now sound born born' (eni ∙ sym eni') in
    (once.who, same_born t t' once.fact_is, once.before)
