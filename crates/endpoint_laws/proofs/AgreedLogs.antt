-- What agreement says of the logs of the ends.
use Rattle.std.proofs.Common.{ℕ, List, [], ◌∷◌, ◌++◌, ◌≡◌, inl, inr, sym, subst, ap, ◌∙◌, Option, Some, None}
use Rattle.glare_core.specs.declared.facts.Joined.{Joined}
use Rattle.glare_core.specs.Standing.{held}
use Rattle.glare_core.specs.Steps.{Step, view, facts, IsTail}
use Rattle.glare_core.specs.Agreed.{Keeps as KeepsAt}
use Rattle.glare_core.proofs.Tails.{tail_self, tail_trans}
use Rattle.glare_core.specs.declared.facts.Fact.{Fact}
use Rattle.endpoint_model.specs.Views.{fact_in}
use Rattle.endpoint_model.specs.declared.entry.Entry.{Entry}
use Rattle.endpoint_model.specs.Event.{Setup, own_of, moment_at}
use Rattle.endpoint_laws.specs.History.{History, log_of, past_at, facts_at, TakesPart}
use Rattle.endpoint_laws.specs.Past.{Past, begun, with_entry, last_moment}
use Rattle.endpoint_laws.specs.Contexts.{Secrets}
use Rattle.endpoint_laws.specs.Agreed.{IsStatedOn, IsStatedOnto, Keeps, EachEndStatesItsLog, EachPrefixIsAMoment, LogsKeepTheSame}
use Rattle.endpoint_laws.proofs.StatedFacts.{view_stated}

pub each_end_states_its_log : EachEndStatesItsLog
each_end_states_its_log secrets ends history steps is fresh who part = view_stated secrets ends who history steps is (λ a there same. fresh.prints a who there part same)

-- ---- moments

tail_on : (secrets : Secrets) (setup : Setup) (past : Past) (o : Option Fact) (before steps : List Step) → IsStatedOn secrets setup past o before steps → IsTail before steps
tail_on secrets setup past None before steps is = subst (IsTail before) (sym is) (tail_self before)
tail_on secrets setup past (Some fact) before steps is = subst (IsTail before) (sym is.2) (inr (tail_self before))

tail_onto : (secrets : Secrets) (setup : Setup) (now : ℕ) (past : Past) (entries : List Entry) (before steps : List Step) → IsStatedOnto secrets setup now past entries before steps → IsTail before steps
tail_onto secrets setup now past [] before steps is = subst (IsTail before) (sym is) (tail_self before)
tail_onto secrets setup now past (entry ∷ rest) before steps is =
    tail_trans before is.0 steps (tail_on secrets setup past (fact_in entry) before is.0 is.1) (tail_onto secrets setup now (with_entry now entry past) rest is.0 steps is.2)

pub each_prefix_is_a_moment : EachPrefixIsAMoment
each_prefix_is_a_moment secrets ends [] early steps is = (steps, is, tail_self steps)
each_prefix_is_a_moment secrets ends (h ∷ later) early steps is =
    let earlier = each_prefix_is_a_moment secrets ends later early is.0 is.1 in
    let m : ℕ = moment_at (last_moment 0 (log_of h.who (later ++ early))) h.event in
    (earlier.0, earlier.1, tail_trans earlier.0 is.0 steps earlier.2 (tail_onto secrets (ends h.who) m (begun m h.event ∷ past_at h.who (later ++ early)) h.event.entries is.0 steps is.2))

-- ---- what is kept

took_part : (who : ℕ) (later early : History) → TakesPart who early → TakesPart who (later ++ early)
took_part who [] early part = part
took_part who (h ∷ later) early part = inr (took_part who later early part)

keeps_at : (ends : ℕ → Setup) (who : ℕ) (peer : List ℕ) (s : Joined) (history : History) (steps : List Step) → facts (view (own_of (ends who)) steps) ≡ facts_at who history → Keeps who peer s history →
    KeepsAt (own_of (ends who)) peer s steps
keeps_at ends who peer s history steps is (inl e) = inl (ap (held peer) is ∙ e)
keeps_at ends who peer s history steps is (inr e) = inr (ap (held peer) is ∙ e)

pub logs_keep_the_same : LogsKeepTheSame
logs_keep_the_same secrets ends later early fresh agreed a b s t part_a part_b kept_a kept_b =
    let alone : (who : ℕ) → TakesPart who early → (x : ℕ) → TakesPart x early → own_of (ends x) ≡ own_of (ends who) → x ≡ who =
    λ who part x there same. fresh.prints x who (took_part x later early there) (took_part who later early part) same in
    let moment = each_prefix_is_a_moment secrets ends later early agreed.steps agreed.stated in
    (agreed.moments agreed.steps moment.0 agreed.stated moment.2).same (own_of (ends a)) (own_of (ends b)) s t
    (keeps_at ends a (own_of (ends b)) s early moment.0 (view_stated secrets ends a early moment.0 moment.1 (alone a part_a)) kept_a)
    (keeps_at ends b (own_of (ends a)) t early moment.0 (view_stated secrets ends b early moment.0 moment.1 (alone b part_b)) kept_b)
