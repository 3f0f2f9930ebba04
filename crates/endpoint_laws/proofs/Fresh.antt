-- Where no nonce was drawn twice, each fact brings a new one.
use Rattle.std.proofs.Common.{ℕ, List, [], ◌∷◌, ◌≡◌, refl, ap, subst, ◌∙◌, Option, Some, None}
use Rattle.glare_core.specs.declared.facts.Fact.{Fact}
use Rattle.glare_core.specs.declared.facts.Fact.TheVariants.{Started, Born, Opened, Confirmed, Ended}
use Rattle.glare_core.specs.Steps.{Item, Told, Did, Sends, Step, Among}
use Rattle.glare_core.specs.Told.{with_nonce, nonces, AllDifferent}
use Rattle.glare_core.proofs.Sound.{IsNew}
use Rattle.endpoint_model.specs.Views.{fact_in}
use Rattle.endpoint_model.specs.declared.entry.Entry.{Entry}
use Rattle.endpoint_model.specs.Event.{Setup}
use Rattle.endpoint_laws.specs.Past.{Past, with_entry}
use Rattle.endpoint_laws.specs.Contexts.{Secrets}
use Rattle.endpoint_laws.specs.Agreed.{IsStatedOn, IsStatedOnto}
use Rattle.endpoint_laws.proofs.FactsAlone.{alone_on, alone}

nonces_on : (who : List ℕ) (item : Item) (before : List Step) → nonces (alone_on who item before) ≡ with_nonce item (nonces before)
nonces_on who (Told t) before = refl
nonces_on who (Did fact g) before = refl
nonces_on who (Sends t) before = refl

pub nonces_alone : (now : List Step) → nonces (alone now) ≡ nonces now
nonces_alone [] = refl
nonces_alone (s ∷ earlier) = nonces_on s.who s.item (alone earlier) ∙ ap (with_nonce s.item) (nonces_alone earlier)

different_below : (g : ℕ) (fact : Fact) (drawn : List (List ℕ)) → AllDifferent (with_nonce (Did fact g) drawn) → AllDifferent drawn
different_below g (Started peer n near ni) drawn d = d.1
different_below g (Born j) drawn d = d.1
different_below g (Opened j) drawn d = d
different_below g (Confirmed peer near) drawn d = d
different_below g (Ended peer near why) drawn d = d

different_under : (secrets : Secrets) (setup : Setup) (past : Past) (o : Option Fact) (before steps : List Step) → IsStatedOn secrets setup past o before steps → AllDifferent (nonces steps) → AllDifferent (nonces before)
different_under secrets setup past None before steps is d = subst (λ (r : List Step). AllDifferent (nonces r)) is d
different_under secrets setup past (Some fact) before steps is d = different_below is.0 fact (nonces before) (subst (λ (r : List Step). AllDifferent (nonces r)) is.2 d)

-- they are different at each moment of an event
pub different_before : (secrets : Secrets) (setup : Setup) (now : ℕ) (past : Past) (entries : List Entry) (before steps : List Step) → IsStatedOnto secrets setup now past entries before steps → AllDifferent (nonces steps) → AllDifferent (nonces before)
different_before secrets setup now past [] before steps is d = subst (λ (r : List Step). AllDifferent (nonces r)) is d
different_before secrets setup now past (entry ∷ rest) before steps is d =
    different_under secrets setup past (fact_in entry) before is.0 is.1 (different_before secrets setup now (with_entry now entry past) rest is.0 steps is.2 d)

pub is_new : (g : ℕ) (fact : Fact) (steps : List Step) (drawn : List (List ℕ)) → nonces steps ≡ drawn → AllDifferent (with_nonce (Did fact g) drawn) → IsNew steps fact
is_new g (Started peer n near ni) steps drawn e d = λ among. d.0 (subst (λ (ns : List (List ℕ)). Among ni ns) e among)
is_new g (Born j) steps drawn e d = λ among. d.0 (subst (λ (ns : List (List ℕ)). Among j.nr ns) e among)
is_new g (Opened j) steps drawn e d = tt
is_new g (Confirmed peer near) steps drawn e d = tt
is_new g (Ended peer near why) steps drawn e d = tt
