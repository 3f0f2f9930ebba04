-- What is answered of a fact is what it asks of the facts before it.
use Rattle.std.proofs.Common.{ℕ, List, ◌≡◌, ◌+◌, Bool, false, refl, sym, ap, subst, Decides, Option, Some, None, is_some, is_none, ◌∙◌}
use Rattle.std.specs.FinMap.{get}
use Rattle.std.proofs.lemmas.Bool.Decides.{Decides-and, Decides-at, Decides-like, Decides-not, Decides-eqb, Decides-ltb}
use Rattle.std.proofs.lemmas.Slice.Eq.{bytes_eq-Decides}
use Rattle.glare_core.specs.declared.facts.Why.{Why}
use Rattle.glare_core.specs.declared.facts.Why.TheVariants.{Cancelled, Expired, Glare, Override, Unconfirmed, Near, Far, Idle}
use Rattle.glare_core.specs.declared.facts.Fact.{Fact}
use Rattle.glare_core.specs.declared.facts.Fact.TheVariants.{Started, Born, Opened, Confirmed, Ended}
use Rattle.glare_core.specs.declared.facts.Held.{Held}
use Rattle.glare_core.specs.declared.facts.Held.TheVariants.{Opening, HalfOpen, KeptAsResponder, KeptAsInitiator}
use Rattle.glare_core.specs.declared.facts.Joined.{Joined}
use Rattle.glare_core.specs.Standing.{held, seen, count}
use Rattle.glare_core.specs.Stands.{Stands, Ends, StartedStands, BornStands, ConfirmedStands, EndedStands}
use Rattle.glare_core.specs.Things.{IsAttempt, IsHalfOpen, IsKept, IsSession, near_of}
use Rattle.fact_digest.specs.Roll.{Rolled, IsOfFacts}
use Rattle.endpoint_laws.specs.Past.{Past, is_in_use}
use Rattle.endpoint_laws.specs.Lawful.{IsFree}
use Rattle.log_digest.specs.declared.spot.Spot.{Spot}
use Rattle.log_digest.specs.Kept.{Digested}
use Rattle.log_digest.specs.Digest.{IsDigestOf}
use Rattle.log_digest.proofs.Stated.{is_thing}
use Rattle.log_lines.specs.Decisions.{is_attempt, is_session, is_half_open, is_kept, may_end, may_start, may_bear, is_attempt_of, is_half_open_under, may_end_held, is_standing, is_unused}
use Rattle.log_lines.proofs.Asked.{never, always, refused, none_decides}

-- ---- things

attempt_decides : (thing : Held) → Decides (is_attempt thing) (IsAttempt thing)
attempt_decides (Opening n near ni) = always
attempt_decides (HalfOpen j) = never
attempt_decides (KeptAsResponder j) = never
attempt_decides (KeptAsInitiator j) = never

pub session_decides : (thing : Held) → Decides (is_session thing) (IsSession thing)
session_decides (Opening n near ni) = never
session_decides (HalfOpen j) = always
session_decides (KeptAsResponder j) = always
session_decides (KeptAsInitiator j) = always

half_open_decides : (thing : Held) → Decides (is_half_open thing) (IsHalfOpen thing)
half_open_decides (Opening n near ni) = never
half_open_decides (HalfOpen j) = always
half_open_decides (KeptAsResponder j) = never
half_open_decides (KeptAsInitiator j) = never

kept_decides : (thing : Held) → Decides (is_kept thing) (IsKept thing)
kept_decides (Opening n near ni) = never
kept_decides (HalfOpen j) = never
kept_decides (KeptAsResponder j) = always
kept_decides (KeptAsInitiator j) = always

may_end_decides : (own peer : List ℕ) (why : Why) (thing : Held) → Decides (may_end own peer why thing) (Ends own peer why thing)
may_end_decides own peer Cancelled thing = attempt_decides thing
may_end_decides own peer Expired thing = attempt_decides thing
may_end_decides own peer Glare thing = Decides-and _ _ (attempt_decides thing) (λ e. e, λ e. e)
may_end_decides own peer Override thing = session_decides thing
may_end_decides own peer Unconfirmed thing = half_open_decides thing
may_end_decides own peer Near thing = session_decides thing
may_end_decides own peer Far thing = session_decides thing
may_end_decides own peer Idle thing = kept_decides thing

-- ---- facts

start_decides : (own peer : List ℕ) (n : ℕ) (facts : List Fact) → Decides (may_start own (count facts) (held peer facts) peer n) (StartedStands own (count facts) facts peer n)
start_decides own peer n facts =
    Decides-like _ (λ p. record { other = p.0; free = p.1.0; next = p.1.1 }) (λ s. (s.other, (s.free, s.next)))
    (Decides-and _ _ (Decides-not _ (bytes_eq-Decides peer own)) (Decides-and _ _ (none_decides (held peer facts)) (Decides-eqb n (count facts + 1))))

bear_decides : (j : Joined) (facts : List Fact) → Decides (may_bear (count facts) (seen j.peer facts) (held j.peer facts) j) (BornStands (count facts) facts j)
bear_decides j facts =
    Decides-like _ (λ p. record { above = p.0; free = p.1.0; counted = p.1.1 }) (λ s. (s.above, (s.free, s.counted)))
    (Decides-and _ _ (Decides-ltb (seen j.peer facts) j.n) (Decides-and _ _ (none_decides (held j.peer facts)) (Decides-eqb j.k (count facts))))

attempt_of_decides : (j : Joined) (before : Option Held) → Decides (is_attempt_of j before) (before ≡ Some (Opening j.n j.near j.ni))
attempt_of_decides j None = refused _ (λ e. absurd cc)
attempt_of_decides j (Some (Opening n near ni)) =
    Decides-like _ (λ p. (λ i. Some (Opening (p.0 i) (p.1.0 i) (p.1.1 i)))) (λ e. (cc, (cc, cc)))
    (Decides-and _ _ (Decides-eqb n j.n) (Decides-and _ _ (Decides-eqb near j.near) (bytes_eq-Decides ni j.ni)))
attempt_of_decides j (Some (HalfOpen t)) = refused _ (λ e. absurd cc)
attempt_of_decides j (Some (KeptAsResponder t)) = refused _ (λ e. absurd cc)
attempt_of_decides j (Some (KeptAsInitiator t)) = refused _ (λ e. absurd cc)

confirm_decides : (peer : List ℕ) (near : ℕ) (facts : List Fact) (before : Option Held) → held peer facts ≡ before → Decides (is_half_open_under near before) (ConfirmedStands facts peer near)
confirm_decides peer near facts (Some (HalfOpen j)) e =
    Decides-like _ (λ (is : near ≡ j.near). record { j = j; session = e; id = is })
    (λ (s : ConfirmedStands facts peer near). let same : HalfOpen j ≡ HalfOpen s.j = is_thing (HalfOpen j) (HalfOpen s.j) (sym e ∙ s.session) in s.id ∙ ap near_of (sym same))
    (Decides-eqb near j.near)
confirm_decides peer near facts None e = refused _ (λ (s : ConfirmedStands facts peer near). let clash = sym e ∙ s.session in absurd cc)
confirm_decides peer near facts (Some (Opening n id ni)) e = refused _ (λ (s : ConfirmedStands facts peer near). let clash = sym e ∙ s.session in absurd cc)
confirm_decides peer near facts (Some (KeptAsResponder j)) e = refused _ (λ (s : ConfirmedStands facts peer near). let clash = sym e ∙ s.session in absurd cc)
confirm_decides peer near facts (Some (KeptAsInitiator j)) e = refused _ (λ (s : ConfirmedStands facts peer near). let clash = sym e ∙ s.session in absurd cc)

end_decides : (own peer : List ℕ) (near : ℕ) (why : Why) (facts : List Fact) (before : Option Held) → held peer facts ≡ before → Decides (may_end_held own peer near why before) (EndedStands own facts peer near why)
end_decides own peer near why facts None e = refused _ (λ (s : EndedStands own facts peer near why). let clash = sym e ∙ s.thing in absurd cc)
end_decides own peer near why facts (Some thing) e =
    Decides-like _ (λ p. record { h = thing; thing = e; id = p.0; ends = p.1 })
    (λ (s : EndedStands own facts peer near why).
    let same : s.h ≡ thing = is_thing s.h thing (sym s.thing ∙ e) in
    (s.id ∙ ap near_of same, subst (λ (t : Held). Ends own peer why t) same s.ends))
    (Decides-and _ _ (Decides-eqb near (near_of thing)) (may_end_decides own peer why thing))

pub standing_decides : (own : List ℕ) (facts : List Fact) (roll : Rolled) → IsOfFacts facts roll → (fact : Fact) → Decides (is_standing own roll fact) (Stands own (count facts) facts fact)
standing_decides own facts roll is (Started peer n near ni) = Decides-at _ _ (λ i. may_start own (is.count_is i) (is.held_is peer i) peer n) (start_decides own peer n facts)
standing_decides own facts roll is (Born j) = Decides-at _ _ (λ i. may_bear (is.count_is i) (is.seen_is j.peer i) (is.held_is j.peer i) j) (bear_decides j facts)
standing_decides own facts roll is (Opened j) = Decides-at _ _ (ap (is_attempt_of j) (is.held_is j.peer)) (attempt_of_decides j (held j.peer facts))
standing_decides own facts roll is (Confirmed peer near) = confirm_decides peer near facts _ (sym (is.held_is peer))
standing_decides own facts roll is (Ended peer near why) = end_decides own peer near why facts _ (sym (is.held_is peer))

-- ---- session IDs

unused_decides : (used : Bool) (spot : Option Spot) → used ≡ is_some spot → Decides (is_none spot) (used ≡ false)
unused_decides used None is = (λ e. is, λ e. refl)
unused_decides used (Some s) is = refused _ (λ e. let clash = sym is ∙ e in absurd cc)

pub free_decides : (last : ℕ) (past : Past) (d : Digested) → IsDigestOf last past d → (near : ℕ) → Decides (is_unused near d) (IsFree near past)
free_decides last past d is near =
    Decides-like _ (λ p. record { some = p.0; unused = p.1 }) (λ f. (f.some, f.unused))
    (Decides-and _ _ (Decides-not _ (Decides-eqb near 0)) (unused_decides (is_in_use near past) (get d.spots near) (is.spots_are.spot near).used))
