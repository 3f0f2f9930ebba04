-- What is answered of each line is that line of the table.
use Rattle.std.proofs.Common.{ℕ, List, [], ◌∷◌, ◌≡◌, ◌+◌, ◌≤◌, inl, inr, Bool, true, false, ◌&&◌, refl, sym, ap, subst, Decides, arith, Option, Some, None, ◌∙◌}
use Rattle.std.specs.FinMap.{get}
use Rattle.std.proofs.lemmas.Bool.Decides.{Decides-and, Decides-at, Decides-like, Decides-eqb}
use Rattle.std.proofs.lemmas.Bool.{cases_Bool}
use Rattle.std.proofs.lemmas.Slice.Eq.{bytes_eq-Decides}
use Rattle.glare_core.specs.declared.facts.Why.{Why}
use Rattle.glare_core.specs.declared.facts.Why.TheVariants.{Cancelled, Expired, Glare, Override, Unconfirmed, Near, Far, Idle}
use Rattle.glare_core.specs.declared.facts.Fact.{Fact}
use Rattle.glare_core.specs.declared.facts.Fact.TheVariants.{Started, Born, Opened, Confirmed, Ended}
use Rattle.glare_core.specs.declared.facts.Held.{Held}
use Rattle.glare_core.specs.declared.facts.Held.TheVariants.{Opening, HalfOpen, KeptAsResponder, KeptAsInitiator}
use Rattle.glare_core.specs.Standing.{held}
use Rattle.glare_core.specs.Things.{near_of, IsSession}
use Rattle.endpoint_model.specs.declared.entry.Entry.{Entry}
use Rattle.endpoint_model.specs.Event.{Setup}
use Rattle.endpoint_model.specs.Views.{fact_in}
use Rattle.endpoint_laws.specs.Past.{Past, facts_of, taken_since, WasStated}
use Rattle.endpoint_laws.specs.Contexts.{Secrets, BeganWith, BegunUnder}
use Rattle.endpoint_laws.specs.Taken.{TookAt}
use Rattle.endpoint_laws.specs.Lawful.{lifetime, IsTick, IsOverdue, CancelledLine, Cancels, IsBornIn, BornFollows, IsUnconfirmed, IsIdle, EndedLine, SoughtLine, SearchEnds, UnsoughtLine, LearntLine, AdvancedLine}
use Rattle.log_digest.specs.declared.spot.Spot.{Spot}
use Rattle.log_digest.specs.declared.spot.Spot.TheVariants.{Searching, Holding, Closing}
use Rattle.log_digest.specs.Spots.{beginning, IsSpotOf}
use Rattle.log_digest.specs.Kept.{Digested}
use Rattle.log_digest.specs.Digest.{IsDigestOf}
use Rattle.log_digest.specs.Generations.{Known, AreGenerationsOf}
use Rattle.log_digest.proofs.Stated.{is_thing}
use Rattle.log_values.specs.declared.log.LoggedCall.{LoggedCall}
use Rattle.log_values.specs.Events.{call_of}
use Rattle.log_lines.specs.Decisions.{is_tick, seeks, is_over, is_quiet, closing_since, is_cancelled, is_overdue, confirming_time, is_unconfirmed, idle_time, is_old, is_session, is_idle, is_birth, is_birth_next, is_ended, closing_time, is_closed, is_unused, held_with, search_ends, is_search_over, is_learnt, is_next, is_advanced}
use Rattle.log_lines.specs.Lines.{hangs_on_datagrams, IsLastTaken, IsLastWith, IsClosedByTime}
use Rattle.log_lines.proofs.Asked.{never, refused, le_decides, none_decides, tick_decides, learns_decides, advances_decides, seeks_decides, cancels_decides, unseeks_decides, closes_decides}
use Rattle.log_lines.proofs.Standing.{session_decides, free_decides}
use Rattle.log_lines.proofs.Ages.{BeganAgo, old_decides, begun_one}

and_false : (b : Bool) → (b && false) ≡ false
and_false true = refl
and_false false = refl

-- ---- facts

born_decides : (peer : List ℕ) (fact : Option Fact) → Decides (is_birth peer fact) (IsBornIn peer fact)
born_decides peer (Some (Born j)) = bytes_eq-Decides j.peer peer
born_decides peer None = refused _ (λ b. b)
born_decides peer (Some (Started p n near ni)) = refused _ (λ b. b)
born_decides peer (Some (Opened j)) = refused _ (λ b. b)
born_decides peer (Some (Confirmed p near)) = refused _ (λ b. b)
born_decides peer (Some (Ended p near why)) = refused _ (λ b. b)

pub born_next_decides : (peer : List ℕ) (rest : List Entry) → Decides (is_birth_next peer rest) (BornFollows peer rest)
born_next_decides peer [] = refused _ (λ b. b)
born_next_decides peer (entry ∷ rest) = born_decides peer (fact_in entry)

-- ---- what ends

module _ (nonce : List ℕ) (now : ℕ) (past : Past) (d : Digested) (is : IsDigestOf now past d) (call : LoggedCall) where
  cancel_by : (peer : List ℕ) (before : Option Held) → held peer (facts_of past) ≡ before → Decides (is_cancelled call before) (CancelledLine (call_of nonce call) (facts_of past) peer)
  cancel_by peer (Some (Opening n near ni)) e =
      Decides-like _ (λ (by : Cancels (call_of nonce call) n). record { n = n; near = near; ni = ni; is_held = e; by = by })
      (λ (c : CancelledLine (call_of nonce call) (facts_of past) peer).
      let clear : Some (Opening c.n c.near c.ni) ≡ Some (Opening n near ni) = sym c.is_held ∙ e in
      let same : c.n ≡ n = cc in
      subst (λ (m : ℕ). Cancels (call_of nonce call) m) same c.by)
      (cancels_decides nonce call n)
  cancel_by peer None e = refused _ (λ (c : CancelledLine (call_of nonce call) (facts_of past) peer). let clash = sym e ∙ c.is_held in absurd cc)
  cancel_by peer (Some (HalfOpen j)) e = refused _ (λ (c : CancelledLine (call_of nonce call) (facts_of past) peer). let clash = sym e ∙ c.is_held in absurd cc)
  cancel_by peer (Some (KeptAsResponder j)) e = refused _ (λ (c : CancelledLine (call_of nonce call) (facts_of past) peer). let clash = sym e ∙ c.is_held in absurd cc)
  cancel_by peer (Some (KeptAsInitiator j)) e = refused _ (λ (c : CancelledLine (call_of nonce call) (facts_of past) peer). let clash = sym e ∙ c.is_held in absurd cc)

  pub cancel_decides : (peer : List ℕ) → Decides (is_cancelled call (held_with d.roll peer)) (CancelledLine (call_of nonce call) (facts_of past) peer)
  cancel_decides peer = cancel_by peer _ (sym (is.roll_is.held_is peer))

  overdue_by : (peer : List ℕ) (near : ℕ) (before : Option Held) → held peer (facts_of past) ≡ before → Decides (is_overdue d near before) (IsOverdue now past peer near)
  overdue_by peer near (Some (Opening n id ni)) e =
      Decides-like _
      (λ (p : (id ≡ near) × BeganAgo lifetime now past peer (Opening n id ni)). record {
        n = n;
        ni = ni;
        is_held = e ∙ (λ i. Some (Opening n (p.0 i) ni));
        start = p.1.at;
        started = subst (λ (q : ℕ). WasStated p.1.at (Started peer n q ni) past) p.0 p.1.began;
        over = p.1.over;
      })
      (λ (o : IsOverdue now past peer near).
      let same : Opening o.n near o.ni ≡ Opening n id ni = is_thing (Opening o.n near o.ni) (Opening n id ni) (sym o.is_held ∙ e) in
      (ap near_of (sym same), record { at = o.start; began = subst (λ (t : Held). WasStated o.start (beginning peer t) past) same o.started; over = o.over }))
      (Decides-and _ _ (Decides-eqb id near) (old_decides lifetime now past d is peer (Opening n id ni) e))
  overdue_by peer near None e = refused _ (λ (o : IsOverdue now past peer near). let clash = sym e ∙ o.is_held in absurd cc)
  overdue_by peer near (Some (HalfOpen j)) e = refused _ (λ (o : IsOverdue now past peer near). let clash = sym e ∙ o.is_held in absurd cc)
  overdue_by peer near (Some (KeptAsResponder j)) e = refused _ (λ (o : IsOverdue now past peer near). let clash = sym e ∙ o.is_held in absurd cc)
  overdue_by peer near (Some (KeptAsInitiator j)) e = refused _ (λ (o : IsOverdue now past peer near). let clash = sym e ∙ o.is_held in absurd cc)

  pub overdue_decides : (peer : List ℕ) (near : ℕ) → Decides (is_tick call && is_overdue d near (held_with d.roll peer)) (IsTick (call_of nonce call) × IsOverdue now past peer near)
  overdue_decides peer near = Decides-and _ _ (tick_decides nonce call) (overdue_by peer near _ (sym (is.roll_is.held_is peer)))

  unconfirmed_by : (peer : List ℕ) (before : Option Held) → held peer (facts_of past) ≡ before → Decides (is_unconfirmed d before) (IsUnconfirmed now past peer)
  unconfirmed_by peer (Some (HalfOpen j)) e =
      Decides-like _
      (λ (b : BeganAgo confirming_time now past peer (HalfOpen j)). record { j = j; is_held = e; birth = b.at; born = b.began; over = b.over })
      (λ (u : IsUnconfirmed now past peer).
      let same : HalfOpen u.j ≡ HalfOpen j = is_thing (HalfOpen u.j) (HalfOpen j) (sym u.is_held ∙ e) in
      record { at = u.birth; began = subst (λ (t : Held). WasStated u.birth (beginning peer t) past) same u.born; over = u.over })
      (old_decides confirming_time now past d is peer (HalfOpen j) e)
  unconfirmed_by peer None e = refused _ (λ (u : IsUnconfirmed now past peer). let clash = sym e ∙ u.is_held in absurd cc)
  unconfirmed_by peer (Some (Opening n id ni)) e = refused _ (λ (u : IsUnconfirmed now past peer). let clash = sym e ∙ u.is_held in absurd cc)
  unconfirmed_by peer (Some (KeptAsResponder j)) e = refused _ (λ (u : IsUnconfirmed now past peer). let clash = sym e ∙ u.is_held in absurd cc)
  unconfirmed_by peer (Some (KeptAsInitiator j)) e = refused _ (λ (u : IsUnconfirmed now past peer). let clash = sym e ∙ u.is_held in absurd cc)

  pub unconfirmed_decides : (peer : List ℕ) → Decides (is_tick call && is_unconfirmed d (held_with d.roll peer)) (IsTick (call_of nonce call) × IsUnconfirmed now past peer)
  unconfirmed_decides peer = Decides-and _ _ (tick_decides nonce call) (unconfirmed_by peer _ (sym (is.roll_is.held_is peer)))

  pub ended_decides : (secrets : Secrets) (setup : Setup) (rest : List Entry) (peer : List ℕ) (near : ℕ) (why : Why) → hangs_on_datagrams why ≡ false →
      Decides (is_ended d call rest peer near why) (EndedLine secrets setup now (call_of nonce call) past rest peer near why)
  ended_decides secrets setup rest peer near Cancelled none = cancel_decides peer
  ended_decides secrets setup rest peer near Expired none = overdue_decides peer near
  ended_decides secrets setup rest peer near Glare none = born_next_decides peer rest
  ended_decides secrets setup rest peer near Override none = born_next_decides peer rest
  ended_decides secrets setup rest peer near Unconfirmed none = unconfirmed_decides peer
  ended_decides secrets setup rest peer near Near none = closes_decides nonce call near
  ended_decides secrets setup rest peer near Far none = absurd cc
  ended_decides secrets setup rest peer near Idle none = absurd cc

  -- ---- idle sessions

  module _ (secrets : Secrets) (setup : Setup) (peer : List ℕ) (near : ℕ) (last : Option ℕ) (of : IsLastWith secrets setup past peer near last) where
    -- all that such a session took, it took so long ago
    abbrev Took : Held → ℕ → ℕ → Type 0
    Took thing generation moment = TookAt secrets setup generation thing near moment (taken_since near past)

    abbrev Quiet : Held → ℕ → Type 0
    Quiet thing generation = (moment : ℕ) → Took thing generation moment → moment + 120000 ≤ now

    quiet_by : (thing : Held) (generation : ℕ) (latest : Option ℕ) → ((moment : ℕ) → latest ≡ Some moment → Took thing generation moment) →
        ((moment : ℕ) → Took thing generation moment → (l : ℕ) × (latest ≡ Some l) × (moment ≤ l)) → Decides (is_quiet idle_time latest now) (Quiet thing generation)
    quiet_by thing generation None took within = (λ e. λ moment t. (let w = within moment t in let clash : None ≡ Some w.0 = w.1 in absurd cc), λ q. refl)
    quiet_by thing generation (Some l) took within =
        Decides-like _
        (λ (over : l + 120000 ≤ now). λ moment t. (let w = within moment t in let same : l ≡ w.0 = (let is_one : Some l ≡ Some w.0 = w.1 in cc) in let below : moment ≤ w.0 = w.2 in omega arith))
        (λ (q : Quiet thing generation). q l (took l refl))
        (le_decides (l + 120000) now)

    began_as : (thing : Held) → IsSession thing → BeganWith thing (beginning peer thing)
    began_as (Opening n id ni) s = absurd s
    began_as (HalfOpen j) s = refl
    began_as (KeptAsResponder j) s = refl
    began_as (KeptAsInitiator j) s = refl

    began_by : (thing : Held) (fact : Fact) → BeganWith thing fact → fact ≡ beginning peer thing
    began_by (Opening n id ni) fact b = absurd b
    began_by (HalfOpen j) fact b = b
    began_by (KeptAsResponder j) fact b = b
    began_by (KeptAsInitiator j) fact b = b

    is_of_session : (thing : Held) (fact : Fact) → BeganWith thing fact → IsSession thing
    is_of_session (Opening n id ni) fact b = absurd b
    is_of_session (HalfOpen j) fact b = tt
    is_of_session (KeptAsResponder j) fact b = tt
    is_of_session (KeptAsInitiator j) fact b = tt

    idle_session : (thing : Held) (e : held peer (facts_of past) ≡ Some thing) (s : IsSession thing) → BeganAgo idle_time now past peer thing × Quiet thing (of.session thing e s).generation → IsIdle secrets setup now past peer near
    idle_session thing e s p = record {
      thing = thing;
      is_held = e;
      first = p.0.at;
      fact = beginning peer thing;
      began_with = began_as thing s;
      began = p.0.began;
      old = p.0.over;
      generation = (of.session thing e s).generation;
      begun = (of.session thing e s).begun;
      quiet = p.1;
    }

    session_idle : (thing : Held) (e : held peer (facts_of past) ≡ Some thing) (s : IsSession thing) → IsIdle secrets setup now past peer near → BeganAgo idle_time now past peer thing × Quiet thing (of.session thing e s).generation
    session_idle thing e s i =
        let same : i.thing ≡ thing = is_thing i.thing thing (sym i.is_held ∙ e) in
        let l : IsLastTaken secrets setup past thing near last = of.session thing e s in
        let one : i.generation ≡ l.generation = begun_one secrets setup thing i.generation l.generation past (subst (λ (t : Held). BegunUnder secrets setup t i.generation past) same i.begun) l.begun in (
          record {
            at = i.first;
            began = subst (λ (t : Held). WasStated i.first (beginning peer t) past) same (subst (λ (f : Fact). WasStated i.first f past) (began_by i.thing i.fact i.began_with) i.began);
            over = i.old;
          },
          subst (λ (g : ℕ). Quiet thing g) one (subst (λ (t : Held). Quiet t i.generation) same i.quiet),
        )

    idle_by : (before : Option Held) → held peer (facts_of past) ≡ before → Decides (is_idle d before last) (IsIdle secrets setup now past peer near)
    idle_by None e = refused _ (λ (i : IsIdle secrets setup now past peer near). let clash = sym e ∙ i.is_held in absurd cc)
    idle_by (Some thing) e = elim (cases_Bool (is_session thing)) [
      | inl yes_one ↦
          let s : IsSession thing = (session_decides thing).0 yes_one in
          let l : IsLastTaken secrets setup past thing near last = of.session thing e s in
          Decides-at _ (is_old idle_time (near_of thing) d && is_quiet idle_time last now)
          (λ i. (yes_one i && is_old idle_time (near_of thing) d) && is_quiet idle_time last (is.moment_is i))
          (Decides-like _ (idle_session thing e s) (session_idle thing e s)
          (Decides-and _ _ (old_decides idle_time now past d is peer thing e) (quiet_by thing l.generation last l.took l.within)))
      | inr no_one ↦
          Decides-at _ false (λ i. (no_one i && is_old idle_time (near_of thing) d) && is_quiet idle_time last d.moment)
          (refused _ (λ (i : IsIdle secrets setup now past peer near).
          let same : i.thing ≡ thing = is_thing i.thing thing (sym i.is_held ∙ e) in
          let clash : true ≡ false = sym ((session_decides thing).1 (subst (λ (t : Held). IsSession t) same (is_of_session i.thing i.fact i.began_with))) ∙ no_one in
          absurd cc))
    ]

    pub idle_decides : Decides (is_tick call && is_idle d (held_with d.roll peer) last) (IsTick (call_of nonce call) × IsIdle secrets setup now past peer near)
    idle_decides = Decides-and _ _ (tick_decides nonce call) (idle_by _ (sym (is.roll_is.held_is peer)))

  -- ---- closings

  never_closed : (near : ℕ) (spot : Option Spot) → IsSpotOf past near spot → closing_since spot ≡ None → ((thing : Held) (at : ℕ) → spot ≡ Some (Closing thing at) → ⊥) →
      Decides (is_tick call && is_over closing_time (closing_since spot) now) (IsClosedByTime now (call_of nonce call) past near)
  never_closed near spot s none other =
      Decides-at _ false ((λ i. is_tick call && is_over closing_time (none i) now) ∙ and_false (is_tick call))
      (refused _ (λ (c : IsClosedByTime now (call_of nonce call) past near). other c.thing c.at (s.closing_there c.thing c.at c.closing)))

  closed_by : (near : ℕ) (spot : Option Spot) → IsSpotOf past near spot → Decides (is_tick call && is_over closing_time (closing_since spot) now) (IsClosedByTime now (call_of nonce call) past near)
  closed_by near (Some (Closing thing at)) s =
      Decides-like _
      (λ (by : IsTick (call_of nonce call) × (at + 19000 ≤ now)). record { thing = thing; at = at; closing = s.closing_is thing at refl; by = by })
      (λ (c : IsClosedByTime now (call_of nonce call) past near).
      let there : Some (Closing thing at) ≡ Some (Closing c.thing c.at) = s.closing_there c.thing c.at c.closing in
      let same : c.at ≡ at = cc in
      (c.by.0, subst (λ (m : ℕ). m + 19000 ≤ now) same c.by.1))
      (Decides-and _ _ (tick_decides nonce call) (le_decides (at + 19000) now))
  closed_by near None s = never_closed near None s refl (λ thing at e. absurd cc)
  closed_by near (Some (Searching name tag ni at)) s = never_closed near (Some (Searching name tag ni at)) s refl (λ thing m e. absurd cc)
  closed_by near (Some (Holding peer at)) s = never_closed near (Some (Holding peer at)) s refl (λ thing m e. absurd cc)

  pub closed_decides : (near : ℕ) → Decides (is_closed d call near) (IsClosedByTime now (call_of nonce call) past near)
  closed_decides near =
      Decides-at _ _ (λ i. is_tick call && is_over closing_time (closing_since (get d.spots near)) (is.moment_is i)) (closed_by near (get d.spots near) (is.spots_are.spot near))

  -- ---- searches

  pub sought_decides : (near : ℕ) (name : List ℕ) → Decides (seeks call name && is_unused near d) (SoughtLine (call_of nonce call) past near name)
  sought_decides near name =
      Decides-like _ (λ p. record { by = p.0; id = p.1 }) (λ (l : SoughtLine (call_of nonce call) past near name). (l.by, l.id))
      (Decides-and _ _ (seeks_decides nonce call name) (free_decides now past d is near))

  search_end_decides : (near at : ℕ) (why : Why) → Decides (search_ends call near at now why) (SearchEnds (call_of nonce call) near at now why)
  search_end_decides near at Cancelled = unseeks_decides nonce call near
  search_end_decides near at Expired = Decides-and _ _ (tick_decides nonce call) (le_decides (at + lifetime) now)
  search_end_decides near at Glare = never
  search_end_decides near at Override = never
  search_end_decides near at Unconfirmed = never
  search_end_decides near at Near = never
  search_end_decides near at Far = never
  search_end_decides near at Idle = never

  search_over_by : (near : ℕ) (why : Why) (spot : Option Spot) → IsSpotOf past near spot → Decides (is_search_over call near now why spot) (UnsoughtLine now (call_of nonce call) past near why)
  search_over_by near why (Some (Searching name tag ni at)) s =
      Decides-like _
      (λ (by : SearchEnds (call_of nonce call) near at now why). record { which = record { name = name; tag = tag; ni = ni }; at = at; stands = s.search_is (record { name = name; tag = tag; ni = ni }) at refl; by = by })
      (λ (u : UnsoughtLine now (call_of nonce call) past near why).
      let there : Some (Searching name tag ni at) ≡ Some (Searching u.which.name u.which.tag u.which.ni u.at) = s.search_there u.which u.at u.stands in
      let same : u.at ≡ at = cc in
      subst (λ (m : ℕ). SearchEnds (call_of nonce call) near m now why) same u.by)
      (search_end_decides near at why)
  search_over_by near why None s = refused _ (λ (u : UnsoughtLine now (call_of nonce call) past near why). let clash = s.search_there u.which u.at u.stands in absurd cc)
  search_over_by near why (Some (Holding peer at)) s = refused _ (λ (u : UnsoughtLine now (call_of nonce call) past near why). let clash = s.search_there u.which u.at u.stands in absurd cc)
  search_over_by near why (Some (Closing thing at)) s = refused _ (λ (u : UnsoughtLine now (call_of nonce call) past near why). let clash = s.search_there u.which u.at u.stands in absurd cc)

  pub search_over_decides : (near : ℕ) (why : Why) → Decides (is_search_over call near d.moment why (get d.spots near)) (UnsoughtLine now (call_of nonce call) past near why)
  search_over_decides near why =
      Decides-at _ _ (λ i. is_search_over call near (is.moment_is i) why (get d.spots near)) (search_over_by near why (get d.spots near) (is.spots_are.spot near))

-- ---- generations

module _ (nonce : List ℕ) (setup : Setup) (past : Past) (k : Known) (are : AreGenerationsOf setup past k) (call : LoggedCall) (generation : ℕ) where
  pub learnt_decides : Decides (is_learnt call k generation) (LearntLine setup (call_of nonce call) past generation)
  learnt_decides =
      Decides-like _
      (λ p. record { by = p.0; none = sym are.next_is ∙ p.1.0; number = p.1.1 ∙ ap (λ (c : ℕ). c + 1) are.current_is })
      (λ (l : LearntLine setup (call_of nonce call) past generation). (l.by, (are.next_is ∙ l.none, l.number ∙ ap (λ (c : ℕ). c + 1) (sym are.current_is))))
      (Decides-and _ _ (learns_decides nonce call) (Decides-and _ _ (none_decides k.next) (Decides-eqb generation (k.current + 1))))

  next_decides : (next : Option ℕ) → Decides (is_next next generation) (next ≡ Some generation)
  next_decides None = refused _ (λ e. absurd cc)
  next_decides (Some n) = Decides-like _ (λ (e : n ≡ generation). ap (λ (m : ℕ). Some m) e) (λ e. cc) (Decides-eqb n generation)

  pub advanced_decides : Decides (is_advanced call k generation) (AdvancedLine (call_of nonce call) past generation)
  advanced_decides =
      Decides-like _ (λ p. record { by = p.0; number = sym are.next_is ∙ p.1 }) (λ (a : AdvancedLine (call_of nonce call) past generation). (a.by, are.next_is ∙ a.number))
      (Decides-and _ _ (advances_decides nonce call) (next_decides k.next))
