-- A session is born where what an end did lets it.
use Rattle.std.specs.Prelude.{cond, max}
use Rattle.rtmfp_forms.proofs.Places.{both_true, first_true, second_true}
use Rattle.std.proofs.Common.{[], ◌∷◌, ℕ, ◌<◌, ◌≡◌, ◌⊎◌, inl, inr, nat_lt, Bool, true, false, ◌&&◌, ◌||◌, List, length, Option, Some, None, is_some, refl, sym, ap, subst, ◌∙◌, Decides, arith}
use Rattle.std.specs.List.{list_any}
use Rattle.std.specs.Str.{bytes_eq}
use Rattle.std.specs.FinMap.{len}
use Rattle.std.proofs.lemmas.Bool.Decides.{Decides-and, Decides-at, Decides-like, Decides-or, Decides-ltb}
use Rattle.std.proofs.lemmas.Slice.Eq.{bytes_eq-Decides}
use Rattle.identity.specs.Order.{Prevails}
use Rattle.glare_core.specs.declared.facts.Fact.{Fact}
use Rattle.glare_core.specs.declared.facts.Fact.TheVariants.{Ended}
use Rattle.glare_core.specs.declared.facts.Held.{Held}
use Rattle.glare_core.specs.declared.facts.Held.TheVariants.{Opening, HalfOpen, KeptAsResponder, KeptAsInitiator}
use Rattle.glare_core.specs.Ledger.{row_in}
use Rattle.glare_core.specs.Standing.{held, peer_of, seen, peers_in}
use Rattle.glare_core.specs.Things.{IsAttempt}
use Rattle.endpoint_model.specs.Event.{Setup, own_of}
use Rattle.endpoint_laws.specs.Past.{Past, facts_of, ids_in_use, with_fact}
use Rattle.endpoint_laws.specs.Lawful.{WayMade}
use Rattle.log_digest.specs.Kept.{Digested}
use Rattle.log_digest.specs.Digest.{IsDigestOf}
use Rattle.log_births.specs.declared.party.Party.{Party}
use Rattle.log_births.specs.declared.party.Way.{Way}
use Rattle.log_births.specs.Rooms.{has_row, may_bear, takes, takes_after, yields}
use Rattle.log_births.specs.Births.{HasEnded, IsPartyOf, IsWay, MadeWay, MayBear, MayBearHere}

one_of : {A : Type 0} (a b : A) → Some a ≡ Some b → a ≡ b
one_of a b e = cc

max_zero : (x : ℕ) → max 0 x ≡ x
max_zero x = omega arith

same_seen : (b : Bool) (x : ℕ) → cond b (max 0 x) x ≡ x
same_seen true x = max_zero x
same_seen false x = refl

abbrev first_peer : List Fact → List ℕ
first_peer [] = []
first_peer (fact ∷ facts) = peer_of fact

abbrev rest_of : Past → Past
rest_of [] = []
rest_of (s ∷ earlier) = earlier

-- ---- what is held, and the room

-- what is asked of what is held
abbrev Yields : List ℕ → List ℕ → Option Held → Type 0
Yields peer own before = (thing : Held) → before ≡ Some thing → IsAttempt thing → Prevails peer own

no_attempt : (peer own : List ℕ) (before : Option Held) → ((thing : Held) → before ≡ Some thing → IsAttempt thing → ⊥) → Decides true (Yields peer own before)
no_attempt peer own before none = (λ e thing is attempt. absurd (none thing is attempt), λ y. refl)

yields_decides : (peer own : List ℕ) (before : Option Held) → Decides (yields peer own before) (Yields peer own before)
yields_decides peer own None = no_attempt peer own None (λ thing is attempt. absurd cc)
yields_decides peer own (Some (Opening n near ni)) = (λ e thing is attempt. e, λ y. y (Opening n near ni) refl tt)
yields_decides peer own (Some (HalfOpen j)) = no_attempt peer own (Some (HalfOpen j)) (λ thing is attempt. subst IsAttempt (sym (one_of (HalfOpen j) thing is)) attempt)
yields_decides peer own (Some (KeptAsResponder j)) = no_attempt peer own (Some (KeptAsResponder j)) (λ thing is attempt. subst IsAttempt (sym (one_of (KeptAsResponder j) thing is)) attempt)
yields_decides peer own (Some (KeptAsInitiator j)) = no_attempt peer own (Some (KeptAsInitiator j)) (λ thing is attempt. subst IsAttempt (sym (one_of (KeptAsInitiator j) thing is)) attempt)

place_decides : (before : Option Held) (uses most : ℕ) → Decides (is_some before || nat_lt uses most) (before ≡ None → uses < most)
place_decides None uses most = Decides-like _ (λ (lt : uses < most) (e : None ≡ None). lt) (λ f. f refl) (Decides-ltb uses most)
place_decides (Some thing) uses most = (λ e none. absurd cc, λ f. refl)

-- ---- what an end did

module _ (setup : Setup) (p : Party) (of : IsPartyOf setup p) (peer : List ℕ) (n : ℕ) where
  abbrev Above : Past → Type 0
  Above past = seen peer (facts_of past) < n

  abbrev Row : Past → Type 0
  Row past = (list_any (bytes_eq peer) (peers_in (facts_of past)) ≡ true) ⊎ (length (peers_in (facts_of past)) < setup.config.max_peers)

  record Takes (past : Past) : Type 0 where
    prevails : Yields peer (own_of setup) (held peer (facts_of past))
    place : held peer (facts_of past) ≡ None → length (ids_in_use past) < setup.config.max_sessions

  takes_decides : (past : Past) (thing : Option Held) (uses : ℕ) → held peer (facts_of past) ≡ thing → length (ids_in_use past) ≡ uses → Decides (takes p peer thing uses) (Takes past)
  takes_decides past thing uses is count =
      let own_back = sym of.own_is in
      let most_back = sym of.sessions_are in
      let thing_back = sym is in
      let uses_back = sym count in
      Decides-at _ _ (λ i. (yields peer (own_back i) (thing_back i) && (is_some (thing_back i) || nat_lt (uses_back i) (most_back i))))
      (Decides-like _ (λ q. record { prevails = q.0; place = q.1 }) (λ (t : Takes past). (t.prevails, t.place))
      (Decides-and _ _ (yields_decides peer (own_of setup) (held peer (facts_of past))) (place_decides (held peer (facts_of past)) (length (ids_in_use past)) setup.config.max_sessions)))

  is_may : (past : Past) → Above past → Row past → Takes past → MayBear setup past peer n
  is_may past a r t = record { above = a; prevails = t.prevails; row = r; place = t.place }

  may_take : (past : Past) → MayBear setup past peer n → Takes past
  may_take past m = record { prevails = m.prevails; place = m.place }

  module _ (now : ℕ) (past : Past) where
    -- ---- since the end that made way

    above_same : (before : Past) (w : HasEnded now past before peer) → seen peer (facts_of past) ≡ seen peer (facts_of before)
    above_same before w = ap (λ (q : Past). seen peer (facts_of q)) w.last ∙ same_seen (bytes_eq peer peer) (seen peer (facts_of before))

    row_same : (before : Past) (w : HasEnded now past before peer) → peers_in (facts_of past) ≡ peers_in (facts_of before)
    row_same before w = ap (λ (q : Past). peers_in (facts_of q)) w.last

    abbrev RowIn : List (List ℕ) → Type 0
    RowIn ps = (list_any (bytes_eq peer) ps ≡ true) ⊎ (length ps < setup.config.max_peers)

    above_then : (before : Past) → HasEnded now past before peer → Above past → Above before
    above_then before w a = subst (λ (m : ℕ). m < n) (above_same before w) a

    above_now : (before : Past) → HasEnded now past before peer → Above before → Above past
    above_now before w a = subst (λ (m : ℕ). m < n) (sym (above_same before w)) a

    row_then : (before : Past) → HasEnded now past before peer → Row past → Row before
    row_then before w r = subst (λ (ps : List (List ℕ)). RowIn ps) (row_same before w) r

    row_now : (before : Past) → HasEnded now past before peer → Row before → Row past
    row_now before w r = subst (λ (ps : List (List ℕ)). RowIn ps) (sym (row_same before w)) r

    record After : Type 0 where
      before : Past
      ended : HasEnded now past before peer
      takes : Takes before

    after_yes : (way : Way) → MadeWay now past way → takes_after p peer (Some way) ≡ true → After
    after_yes way m e =
        let same : way.peer ≡ peer = (bytes_eq-Decides way.peer peer).0 (first_true (bytes_eq way.peer peer) (takes p peer (Some way.thing) way.uses) e) in
        let is_held : held peer (facts_of m.before) ≡ Some way.thing = subst (λ (q : List ℕ). held q (facts_of m.before) ≡ Some way.thing) same m.thing_is in
        record {
          before = m.before;
          ended = subst (λ (q : List ℕ). HasEnded now past m.before q) same m.ended;
          takes = (takes_decides m.before (Some way.thing) way.uses is_held m.uses_are).0 (second_true (bytes_eq way.peer peer) (takes p peer (Some way.thing) way.uses) e);
        }

    after_no : (way : Way) → MadeWay now past way → After → takes_after p peer (Some way) ≡ true
    after_no way m a =
        let both : with_fact now (Ended way.peer m.ended.near m.ended.why) m.before ≡ with_fact now (Ended peer a.ended.near a.ended.why) a.before = sym m.ended.last ∙ a.ended.last in
        let same : way.peer ≡ peer = ap (λ (q : Past). first_peer (facts_of q)) both in
        let pasts : m.before ≡ a.before = ap rest_of both in
        let is_held : held peer (facts_of a.before) ≡ Some way.thing = (λ i. held (sym same i) (facts_of (sym pasts i))) ∙ m.thing_is in
        let count : length (ids_in_use a.before) ≡ way.uses = ap (λ (q : Past). length (ids_in_use q)) (sym pasts) ∙ m.uses_are in
        both_true (bytes_eq way.peer peer) (takes p peer (Some way.thing) way.uses) ((bytes_eq-Decides way.peer peer).1 same)
        ((takes_decides a.before (Some way.thing) way.uses is_held count).1 a.takes)

    after_decides : (way : Option Way) → IsWay now past way → Decides (takes_after p peer way) After
    after_decides None none = (λ e. absurd cc, λ a. absurd (none a.before peer a.ended))
    after_decides (Some way) m = (after_yes way m, after_no way m)

    -- ---- all of it

    abbrev Parts : Type 0
    Parts = Above past × (Row past × (Takes past ⊎ After))

    there_by : Above past → Row past → Takes past ⊎ After → MayBearHere setup now past peer n
    there_by a r (inl t) = record { before = past; way = inl refl; may = is_may past a r t }
    there_by a r (inr w) = record {
      before = w.before;
      way = inr (w.ended.near, w.ended.why, w.ended.for_born, w.ended.last);
      may = is_may w.before (above_then w.before w.ended a) (row_then w.before w.ended r) w.takes;
    }

    back_by : (before : Past) → WayMade now past before peer → MayBear setup before peer n → Parts
    back_by before (inl same) m =
        let here : MayBear setup past peer n = subst (λ (q : Past). MayBear setup q peer n) (sym same) m in
        (here.above, (here.row, inl (may_take past here)))
    back_by before (inr w) m =
        let ended : HasEnded now past before peer = record { near = w.0; why = w.1; for_born = w.2; last = w.3 } in
        (above_now before ended m.above, (row_now before ended m.row, inr (record { before = before; ended = ended; takes = may_take before m })))

    module _ (d : Digested) (is : IsDigestOf now past d) where
      above_decides : Decides (nat_lt (row_in d.roll.rows peer).floor n) (Above past)
      above_decides = Decides-at _ _ (ap (λ (m : ℕ). nat_lt m n) (is.roll_is.seen_is peer)) (Decides-ltb (seen peer (facts_of past)) n)

      row_decides : Decides (has_row p d peer) (Row past)
      row_decides =
          let most_back = sym of.peers_are in
          Decides-at _ _ (λ i. (is.roll_is.row_is peer i || nat_lt (is.roll_is.rows_are i) (most_back i)))
          (Decides-or _ _ (λ e. e, λ e. e) (Decides-ltb (length (peers_in (facts_of past))) setup.config.max_peers))

      here_decides : Decides (takes p peer (row_in d.roll.rows peer).held (len d.spots)) (Takes past)
      here_decides = takes_decides past _ _ (sym (is.roll_is.held_is peer)) is.spots_are.uses

      pub bear_decides : (way : Option Way) → IsWay now past way → Decides (may_bear p d way peer n) (MayBearHere setup now past peer n)
      bear_decides way is_way =
          Decides-like _ (λ (q : Parts). there_by q.0 q.1.0 q.1.1) (λ (m : MayBearHere setup now past peer n). back_by m.before m.way m.may)
          (Decides-and _ _ above_decides (Decides-and _ _ row_decides (Decides-or _ _ here_decides (after_decides way is_way))))
