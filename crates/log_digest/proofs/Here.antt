-- What stands under the session ID of an entry after it.
use Rattle.std.proofs.Common.{ℕ, List, ◌∷◌, ◌≡◌, ◌==◌, inl, inr, refl, sym, ap, subst, Bool, true, false, ◌||◌, Option, Some, None, is_some, if◌then◌else◌, ◌∙◌}
use Rattle.glare_core.specs.declared.facts.Fact.{Fact}
use Rattle.glare_core.specs.declared.facts.Fact.TheVariants.{Started, Born, Opened, Confirmed, Ended}
use Rattle.glare_core.specs.declared.facts.Held.{Held}
use Rattle.glare_core.specs.declared.facts.Held.TheVariants.{Opening, HalfOpen, KeptAsInitiator}
use Rattle.glare_core.specs.declared.facts.Joined.{Joined}
use Rattle.glare_core.specs.declared.facts.Why.{Why}
use Rattle.glare_core.specs.Standing.{peer_of, after, held, count}
use Rattle.glare_core.specs.Stands.{Stands}
use Rattle.glare_core.specs.Things.{near_of}
use Rattle.glare_core.proofs.Tails.{same_end}
use Rattle.endpoint_model.specs.declared.entry.Entry.TheVariants.{Fact as FactEntry, Closed, Sought, Unsought}
use Rattle.endpoint_model.proofs.Members.{has, without, tested, has_gone}
use Rattle.endpoint_laws.specs.Past.{stamped, WasStated, DrawsFor, facts_of, Past, Search, IsSearch, IsClosing, is_close, ids_in_use, is_in_use, seek_of, last_call}
use Rattle.endpoint_model.specs.Event.{SeekCall}
use Rattle.endpoint_laws.specs.Contexts.{SearchUnder}
use Rattle.log_digest.specs.declared.spot.Drawn.{Drawn}
use Rattle.log_digest.specs.declared.spot.Spot.{Spot}
use Rattle.log_digest.specs.declared.spot.Spot.TheVariants.{Searching, Holding, Closing}
use Rattle.log_digest.specs.Spots.{beginning, searching, IsHeldSince, IsSpotOf, IsOrderly}
use Rattle.log_digest.specs.Changes.{HasPlace, ClosingUnder, drawn_in, drawn_of}
use Rattle.log_digest.proofs.Stated.{id_of, is_thing, held_same}
use Rattle.log_digest.proofs.Orderly.{since_plain_back, since_other_back, since_confirmed, orderly_fact}
use Rattle.log_digest.proofs.Beside.{stands_before}

-- ---- what a spot isn't

not_searching : (peer : List ℕ) (at : ℕ) (which : Search) (m : ℕ) → Some (Holding peer at) ≡ Some (searching which m) → ⊥
not_searching peer at which m e = absurd cc

not_closing : (peer : List ℕ) (at : ℕ) (thing : Held) (m : ℕ) → Some (Holding peer at) ≡ Some (Closing thing m) → ⊥
not_closing peer at thing m e = absurd cc

is_peer : (p q : List ℕ) (a b : ℕ) → Some (Holding p a) ≡ Some (Holding q b) → p ≡ q
is_peer p q a b e = cc

is_moment : (p q : List ℕ) (a b : ℕ) → Some (Holding p a) ≡ Some (Holding q b) → a ≡ b
is_moment p q a b e = cc

-- With one peer something is held under a session ID since one moment.
one_moment : (past : Past) (near near' : ℕ) (p : List ℕ) (a b : ℕ) → IsHeldSince past near p a → IsHeldSince past near' p b → a ≡ b
one_moment past near near' p a b h k =
    let same : h.thing ≡ k.thing = is_thing h.thing k.thing (sym h.is_held ∙ k.is_held) in
    k.once a (subst (λ (t : Held). WasStated a (beginning p t) past) same h.began)

-- Where one thing is held under a session ID, and nothing else stands there, it is this.
pub holding : (past : Past) (near : ℕ) (p : List ℕ) (m : ℕ) → ((which : Search) (at : ℕ) → IsSearch near which at past → ⊥) → ((thing : Held) (at : ℕ) → IsClosing near thing at past → ⊥) →
    IsHeldSince past near p m → ((q : List ℕ) (at : ℕ) → (p ≡ q → ⊥) → IsHeldSince past near q at → ⊥) → is_in_use near past ≡ true → IsSpotOf past near (Some (Holding p m))
holding past near p m no_search no_closing h no_other used = record {
  search_there = λ which at there. absurd (no_search which at there);
  search_is = λ which at e. absurd (not_searching p m which at e);
  closing_there = λ thing at c. absurd (no_closing thing at c);
  closing_is = λ thing at e. absurd (not_closing p m thing at e);
  held_there = λ q at k. elim (same_end p q) [
    | inl d ↦
        let k' : IsHeldSince past near p at = subst (λ (r : List ℕ). IsHeldSince past near r at) (sym d.0) k in
        (λ i. Some (Holding (d.0 i) (one_moment past near near p m at h k' i)))
    | inr d ↦ absurd (no_other q at d.0 k)
  ];
  held_is = λ q at e. subst (λ (r : List ℕ). IsHeldSince past near r at) (is_peer p q m at e) (subst (λ (a : ℕ). IsHeldSince past near p a) (is_moment p q m at e) h);
  used = used;
}

-- Where nothing stands under a session ID there is no spot.
pub empty_spot : (past : Past) (near : ℕ) → ((which : Search) (at : ℕ) → IsSearch near which at past → ⊥) → ((thing : Held) (at : ℕ) → IsClosing near thing at past → ⊥) →
    ((q : List ℕ) (at : ℕ) → IsHeldSince past near q at → ⊥) → is_in_use near past ≡ false → IsSpotOf past near None
empty_spot past near no_search no_closing no_held used = record {
  search_there = λ which at there. absurd (no_search which at there);
  search_is = λ which at e. absurd cc;
  closing_there = λ thing at c. absurd (no_closing thing at c);
  closing_is = λ thing at e. absurd cc;
  held_there = λ q at k. absurd (no_held q at k);
  held_is = λ q at e. absurd cc;
  used = used;
}

none_of : (spot : Option Spot) → is_some spot ≡ false → spot ≡ None
none_of None e = refl
none_of (Some s) e = absurd cc

-- no spot but that of a search
abbrev NoneOrSearch : Option Spot → Type 0
NoneOrSearch spot = ((thing : Held) (at : ℕ) → spot ≡ Some (Closing thing at) → ⊥) × ((peer : List ℕ) (at : ℕ) → spot ≡ Some (Holding peer at) → ⊥)

none_there : (spot : Option Spot) → spot ≡ None → NoneOrSearch spot
none_there spot e = ((λ thing at is. absurd (let clash = sym e ∙ is in cc)), (λ peer at is. absurd (let clash = sym e ∙ is in cc)))

search_there : (spot : Option Spot) (which : Search) (at : ℕ) → spot ≡ Some (searching which at) → NoneOrSearch spot
search_there spot which at e = ((λ thing m is. absurd (let clash = sym e ∙ is in cc)), (λ peer m is. absurd (not_searching peer m which at (sym is ∙ e))))

first_is : (a b : Bool) → a ≡ true → (a || b) ≡ true
first_is true b e = refl
first_is false b e = absurd cc

same_id : (near : ℕ) → (near == near) ≡ true
same_id near = elim (tested near near) [ inl is ↦ is.1 | inr is ↦ absurd (is.0 refl) ]

module _ (own : List ℕ) (past : Past) (o : IsOrderly past) (now : ℕ) where
  abbrev HereFact : Fact → Option Spot → Option Spot → Type 0
  HereFact g spot left = IsSpotOf past (id_of g) spot → IsSpotOf (stamped now (FactEntry g) ∷ past) (id_of g) left

  -- what is held with the peer of a fact after it began now, or with its peer before
  begun : (g : Fact) (s : Stands own (count (facts_of past)) (facts_of past) g) (thing : Held) → after g (held (peer_of g) (facts_of past)) ≡ Some thing →
      (at : ℕ) × IsHeldSince (stamped now (FactEntry g) ∷ past) (near_of thing) (peer_of g) at
  begun g s thing e = (orderly_fact past o own now g s).since (peer_of g) thing (held_same g (facts_of past) (peer_of g) refl ∙ e)

  no_other_held : (g : Fact) (s : Stands own (count (facts_of past)) (facts_of past) g) (spot : Option Spot) → IsSpotOf past (id_of g) spot → ((q : List ℕ) (at : ℕ) → (peer_of g ≡ q → ⊥) → spot ≡ Some (Holding q at) → ⊥) →
      (q : List ℕ) (at : ℕ) → (peer_of g ≡ q → ⊥) → IsHeldSince (stamped now (FactEntry g) ∷ past) (id_of g) q at → ⊥
  no_other_held g s spot is none q at other h = none q at other (is.held_there q at (since_other_back past o own now g s (id_of g) q at other h))

  -- it began now
  since_now : (g : Fact) (s : Stands own (count (facts_of past)) (facts_of past) g) (thing : Held) → beginning (peer_of g) thing ≡ g → after g (held (peer_of g) (facts_of past)) ≡ Some thing →
      IsHeldSince (stamped now (FactEntry g) ∷ past) (near_of thing) (peer_of g) now
  since_now g s thing is e =
      let b = begun g s thing e in
      let same : b.1.thing ≡ thing = is_thing b.1.thing thing (sym b.1.is_held ∙ held_same g (facts_of past) (peer_of g) refl ∙ e) in
      let at : now ≡ b.0 = b.1.once now (inl (ap (λ (f : Fact). stamped now (FactEntry f)) (ap (beginning (peer_of g)) same ∙ is))) in
      subst (λ (m : ℕ). IsHeldSince (stamped now (FactEntry g) ∷ past) (near_of thing) (peer_of g) m) (sym at) b.1

  pub here_started : (peer : List ℕ) (n near : ℕ) (ni : List ℕ) → Stands own (count (facts_of past)) (facts_of past) (Started peer n near ni) → HasPlace past (Started peer n near ni) → (spot : Option Spot) →
      HereFact (Started peer n near ni) spot (Some (Holding peer now))
  here_started peer n near ni s place spot is =
      let non : NoneOrSearch spot = elim place [
        | inl free ↦ none_there spot (none_of spot (sym is.used ∙ free))
        | inr under ↦ search_there spot under.which under.at (is.search_there under.which under.at under.stands)
      ] in
      holding (stamped now (FactEntry (Started peer n near ni)) ∷ past) near peer now
      (λ which at there. elim there [ inl b ↦ absurd b.0 | inr p ↦ p.1 refl ])
      (λ thing at c. elim c [ inl b ↦ absurd b.0 | inr p ↦ non.0 thing at (is.closing_there thing at p.1) ])
      (since_now (Started peer n near ni) s (Opening n near ni) refl refl)
      (no_other_held (Started peer n near ni) s spot is (λ q at other e. non.1 q at e))
      (first_is (near == near) (has near (without near (ids_in_use past))) (same_id near))

  pub here_born : (j : Joined) → Stands own (count (facts_of past)) (facts_of past) (Born j) → HasPlace past (Born j) → (spot : Option Spot) → HereFact (Born j) spot (Some (Holding j.peer now))
  here_born j s place spot is =
      let none : spot ≡ None = none_of spot (sym is.used ∙ place) in
      holding (stamped now (FactEntry (Born j)) ∷ past) j.near j.peer now
      (λ which at there. elim there [ inl b ↦ absurd b.0 | inr p ↦ absurd (let clash = sym none ∙ is.search_there which at p.2 in cc) ])
      (λ thing at c. elim c [ inl b ↦ absurd b.0 | inr p ↦ absurd (let clash = sym none ∙ is.closing_there thing at p.1 in cc) ])
      (since_now (Born j) s (HalfOpen j) refl refl)
      (no_other_held (Born j) s spot is (λ q at other e. absurd (let clash = sym none ∙ e in cc)))
      (first_is (j.near == j.near) (has j.near (ids_in_use past)) (same_id j.near))

  -- Where a fact is of something that is held, its session ID has this spot.
  module _ (g : Fact) (s : Stands own (count (facts_of past)) (facts_of past) g) (spot : Option Spot) (is : IsSpotOf past (id_of g) spot) (thing : Held) (before : held (peer_of g) (facts_of past) ≡ Some thing) where
    pub since_old : (at : ℕ) × IsHeldSince past (id_of g) (peer_of g) at
    since_old =
        let old = o.since (peer_of g) thing before in
        (old.0, subst (λ (id : ℕ). IsHeldSince past id (peer_of g) old.0) (stands_before own past o now g s thing before) old.1)

    pub spot_was : spot ≡ Some (Holding (peer_of g) since_old.0)
    spot_was = is.held_there (peer_of g) since_old.0 since_old.1

    never_searching : (which : Search) (at : ℕ) → IsSearch (id_of g) which at past → ⊥
    never_searching which at there = not_searching (peer_of g) since_old.0 which at (sym spot_was ∙ is.search_there which at there)

    never_closing : (thing : Held) (at : ℕ) → IsClosing (id_of g) thing at past → ⊥
    never_closing t at c = not_closing (peer_of g) since_old.0 t at (sym spot_was ∙ is.closing_there t at c)

    never_other : (q : List ℕ) (at : ℕ) → (peer_of g ≡ q → ⊥) → IsHeldSince (stamped now (FactEntry g) ∷ past) (id_of g) q at → ⊥
    never_other = no_other_held g s spot is (λ q at other e. other (is_peer (peer_of g) q since_old.0 at (sym spot_was ∙ e)))

    pub was_used : is_in_use (id_of g) past ≡ true
    was_used = is.used ∙ ap is_some spot_was

  pub here_opened : (j : Joined) → Stands own (count (facts_of past)) (facts_of past) (Opened j) → (spot : Option Spot) → HereFact (Opened j) spot (Some (Holding j.peer now))
  here_opened j s spot is =
      holding (stamped now (FactEntry (Opened j)) ∷ past) j.near j.peer now
      (λ which at there. elim there [ inl b ↦ absurd b.0 | inr p ↦ never_searching (Opened j) s spot is (Opening j.n j.near j.ni) s which at p.2 ])
      (λ thing at c. elim c [ inl b ↦ absurd b.0 | inr p ↦ never_closing (Opened j) s spot is (Opening j.n j.near j.ni) s thing at p.1 ])
      (since_now (Opened j) s (KeptAsInitiator j) refl (ap (after (Opened j)) s))
      (never_other (Opened j) s spot is (Opening j.n j.near j.ni) s)
      (was_used (Opened j) s spot is (Opening j.n j.near j.ni) s)

  pub here_confirmed : (peer : List ℕ) (near : ℕ) → Stands own (count (facts_of past)) (facts_of past) (Confirmed peer near) → (spot : Option Spot) → HereFact (Confirmed peer near) spot spot
  here_confirmed peer near s spot is =
      let old = since_old (Confirmed peer near) s spot is (HalfOpen s.j) s.session in
      subst (λ (left : Option Spot). IsSpotOf (stamped now (FactEntry (Confirmed peer near)) ∷ past) near left) (sym (spot_was (Confirmed peer near) s spot is (HalfOpen s.j) s.session)) (
      holding (stamped now (FactEntry (Confirmed peer near)) ∷ past) near peer old.0
      (λ which at there. elim there [ inl b ↦ absurd b.0 | inr p ↦ never_searching (Confirmed peer near) s spot is (HalfOpen s.j) s.session which at p.2 ])
      (λ thing at c. elim c [ inl b ↦ absurd b.0 | inr p ↦ never_closing (Confirmed peer near) s spot is (HalfOpen s.j) s.session thing at p.1 ])
      (since_confirmed past o own now peer near s.j s s.session near old.0 old.1 (is_thing old.1.thing (HalfOpen s.j) (sym old.1.is_held ∙ s.session)))
      (never_other (Confirmed peer near) s spot is (HalfOpen s.j) s.session)
      (was_used (Confirmed peer near) s spot is (HalfOpen s.j) s.session))

  ended_held : (peer : List ℕ) (near : ℕ) (why : Why) (s : Stands own (count (facts_of past)) (facts_of past) (Ended peer near why)) (spot : Option Spot) → IsSpotOf past near spot →
      (q : List ℕ) (at : ℕ) → IsHeldSince (stamped now (FactEntry (Ended peer near why)) ∷ past) near q at → ⊥
  ended_held peer near why s spot is q at k = elim (same_end peer q) [
    | inl d ↦ absurd (let clash : None ≡ Some k.thing = sym (held_same (Ended peer near why) (facts_of past) q d.0) ∙ k.is_held in cc)
    | inr d ↦ never_other (Ended peer near why) s spot is s.h s.thing q at d.0 k
  ]

  pub here_closed_now : (peer : List ℕ) (near : ℕ) (why : Why) (s : Stands own (count (facts_of past)) (facts_of past) (Ended peer near why)) (thing : Held) → held peer (facts_of past) ≡ Some thing →
      is_close why ≡ true → (spot : Option Spot) → HereFact (Ended peer near why) spot (Some (Closing thing now))
  here_closed_now peer near why s thing before close spot is = record {
    search_there = λ which at there. elim there [ inl b ↦ absurd b.0 | inr p ↦ absurd (never_searching (Ended peer near why) s spot is s.h s.thing which at p.2) ];
    search_is = λ which at e. absurd cc;
    closing_there = λ t at c. elim c [
      | inl b ↦ (λ i. Some (Closing (is_thing thing t (sym before ∙ b.0.2) i) (b.1 i)))
      | inr p ↦ absurd (never_closing (Ended peer near why) s spot is s.h s.thing t at p.1)
    ];
    closing_is = λ t at e. let same : thing ≡ t = cc in let moment : now ≡ at = cc in inl ((refl, close, before ∙ ap (λ (h : Held). Some h) same), moment);
    held_there = λ q at k. absurd (ended_held peer near why s spot is q at k);
    held_is = λ q at e. absurd cc;
    used = ap (λ (b : Bool). has near (if b then ids_in_use past else without near (ids_in_use past))) close ∙ was_used (Ended peer near why) s spot is s.h s.thing;
  }

  pub here_over : (peer : List ℕ) (near : ℕ) (why : Why) → Stands own (count (facts_of past)) (facts_of past) (Ended peer near why) → is_close why ≡ false → (spot : Option Spot) → HereFact (Ended peer near why) spot None
  here_over peer near why s close spot is =
      empty_spot (stamped now (FactEntry (Ended peer near why)) ∷ past) near
      (λ which at there. elim there [ inl b ↦ absurd b.0 | inr p ↦ never_searching (Ended peer near why) s spot is s.h s.thing which at p.2 ])
      (λ t at c. elim c [ inl b ↦ absurd (let clash : false ≡ true = sym close ∙ b.0.1 in cc) | inr p ↦ never_closing (Ended peer near why) s spot is s.h s.thing t at p.1 ])
      (ended_held peer near why s spot is)
      (ap (λ (b : Bool). has near (if b then ids_in_use past else without near (ids_in_use past))) close ∙ has_gone near (ids_in_use past))

  -- ---- other entries

  pub here_closed : (near : ℕ) → ClosingUnder past near → (spot : Option Spot) → IsSpotOf past near spot → IsSpotOf (stamped now (Closed near) ∷ past) near None
  here_closed near under spot is =
      let was : spot ≡ Some (Closing under.0 under.1) = is.closing_there under.0 under.1 under.2 in
      empty_spot (stamped now (Closed near) ∷ past) near
      (λ which at there. elim there [ inl b ↦ absurd b.0 | inr p ↦ absurd (let clash = sym was ∙ is.search_there which at p.2 in cc) ])
      (λ t at c. elim c [ inl b ↦ absurd b.0 | inr p ↦ p.0 refl ])
      (λ q at k. absurd (let clash = sym was ∙ is.held_there q at (since_plain_back past o (stamped now (Closed near)) refl near q at k) in cc))
      (has_gone near (ids_in_use past))

  pub here_unsought : (near : ℕ) (why : Why) → SearchUnder past near → (spot : Option Spot) → IsSpotOf past near spot → IsSpotOf (stamped now (Unsought near why) ∷ past) near None
  here_unsought near why under spot is =
      let was : spot ≡ Some (searching under.which under.at) = is.search_there under.which under.at under.stands in
      empty_spot (stamped now (Unsought near why) ∷ past) near
      (λ which at there. elim there [ inl b ↦ absurd b.0 | inr p ↦ p.0 refl ])
      (λ t at c. elim c [ inl b ↦ absurd b.0 | inr p ↦ absurd (let clash = sym was ∙ is.closing_there t at p.1 in cc) ])
      (λ q at k. absurd (let clash = sym was ∙ is.held_there q at (since_plain_back past o (stamped now (Unsought near why)) refl near q at k) in cc))
      (has_gone near (ids_in_use past))

  draws_is : (seek : Option SeekCall) (drawn : Drawn) (which : Search) → drawn_in seek ≡ Some drawn → DrawsFor which seek → (drawn.tag ≡ which.tag) × (drawn.ni ≡ which.ni)
  draws_is None drawn which e d = absurd d
  draws_is (Some seek) drawn which e d =
      let same : record { tag = seek.draws.tag; ni = seek.draws.nonce } ≡ drawn = cc in
      (sym (ap (λ (r : Drawn). r.tag) same) ∙ sym d.0, sym (ap (λ (r : Drawn). r.ni) same) ∙ sym d.1)

  draws_back : (seek : Option SeekCall) (drawn : Drawn) (which : Search) → drawn_in seek ≡ Some drawn → drawn.tag ≡ which.tag → drawn.ni ≡ which.ni → DrawsFor which seek
  draws_back None drawn which e tag ni = absurd cc
  draws_back (Some seek) drawn which e tag ni =
      let same : record { tag = seek.draws.tag; ni = seek.draws.nonce } ≡ drawn = cc in
      (sym tag ∙ sym (ap (λ (r : Drawn). r.tag) same), sym ni ∙ sym (ap (λ (r : Drawn). r.ni) same))

  pub here_sought : (near : ℕ) (name : List ℕ) → is_in_use near past ≡ false → (drawn : Drawn) → drawn_of past ≡ Some drawn → (spot : Option Spot) → IsSpotOf past near spot →
      IsSpotOf (stamped now (Sought near name) ∷ past) near (Some (Searching name drawn.tag drawn.ni now))
  here_sought near name free drawn draws spot is =
      let none : spot ≡ None = none_of spot (sym is.used ∙ free) in
      record {
        search_there = λ which at there. elim there [
          | inl b ↦
              let d = draws_is (seek_of (last_call past)) drawn which draws b.0.2 in
              (λ i. Some (Searching (b.0.1 i) (d.0 i) (d.1 i) (b.1 i)))
          | inr p ↦ absurd (let clash = sym none ∙ is.search_there which at p.2 in cc)
        ];
        search_is = λ which at e.
            let named : name ≡ which.name = cc in
            let tagged : drawn.tag ≡ which.tag = cc in
            let drew : drawn.ni ≡ which.ni = cc in
            let moment : now ≡ at = cc in
            inl ((refl, named, draws_back (seek_of (last_call past)) drawn which draws tagged drew), moment);
        closing_there = λ t at c. elim c [ inl b ↦ absurd b.0 | inr p ↦ absurd (let clash = sym none ∙ is.closing_there t at p.1 in cc) ];
        closing_is = λ t at e. absurd cc;
        held_there = λ q at k. absurd (let clash = sym none ∙ is.held_there q at (since_plain_back past o (stamped now (Sought near name)) refl near q at k) in cc);
        held_is = λ q at e. absurd cc;
        used = first_is (near == near) (has near (ids_in_use past)) (same_id near);
      }
