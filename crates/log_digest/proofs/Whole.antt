-- All spots after an entry.
use Rattle.std.proofs.Common.{ℕ, List, [], ◌∷◌, ◌≡◌, inl, inr, refl, sym, ap, subst, length, Bool, true, false, Option, Some, None, is_some, if◌then◌else◌, ◌∙◌, arith}
use Rattle.std.specs.FinMap.{get, insert, remove, len, get-empty, len-empty, empty}
use Rattle.std.specs.Ordering.{nat_cmp}
use Rattle.std.proofs.lemmas.Bool.{cases_Bool}
use Rattle.rtmfp_base.proofs.Maps.{get_inserted, get_beside, get_removed, get_left, len_new, len_known, len_less}
use Rattle.glare_core.specs.declared.facts.Fact.{Fact}
use Rattle.glare_core.specs.declared.facts.Fact.TheVariants.{Started, Born, Opened, Confirmed, Ended}
use Rattle.glare_core.specs.declared.facts.Held.{Held}
use Rattle.glare_core.specs.declared.facts.Held.TheVariants.{Opening}
use Rattle.glare_core.specs.declared.facts.Why.{Why}
use Rattle.glare_core.specs.Standing.{peer_of, held, count}
use Rattle.glare_core.specs.Stands.{Stands}
use Rattle.endpoint_model.specs.declared.entry.Entry.TheVariants.{Fact as FactEntry, Closed, Sought, Unsought}
use Rattle.endpoint_model.proofs.Members.{has, without, tested, IsOnce, has_gone, same_without, one_less, once_without}
use Rattle.endpoint_laws.specs.Past.{Stamped, stamped, fact_done, closed_done, sought_done, unsought_done, facts_of, Past, is_close, ids_in_use, is_in_use, nothing_done}
use Rattle.endpoint_laws.specs.Contexts.{SearchUnder}
use Rattle.log_digest.specs.declared.spot.Change.TheVariants.{Takes}
use Rattle.log_digest.specs.declared.spot.Drawn.{Drawn}
use Rattle.log_digest.specs.declared.spot.Spot.{Spot}
use Rattle.log_digest.specs.declared.spot.Spot.TheVariants.{Searching, Holding, Closing}
use Rattle.log_digest.specs.Spots.{SpotTable, IsSpotOf, AreApart, AreSpotsOf, IsOrderly}
use Rattle.log_digest.specs.Changes.{HasPlace, ClosingUnder, drawn_of, changed, closing_change, fact_change}
use Rattle.log_digest.proofs.Stated.{id_of}
use Rattle.log_digest.proofs.Beside.{beside_fact, beside_closed, beside_sought, beside_unsought, beside_plain}
use Rattle.log_digest.proofs.Here.{empty_spot, here_started, here_born, here_opened, here_confirmed, here_closed_now, here_over, here_closed, here_unsought, here_sought, since_old, spot_was, was_used}

-- ---- session IDs in use, and how many

once_of : (ids : List ℕ) → AreApart ids → IsOnce ids
once_of [] apart = tt
once_of (near ∷ ids) apart = (apart.0, once_of ids apart.1)

apart_of : (ids : List ℕ) → IsOnce ids → AreApart ids
apart_of [] once = tt
apart_of (near ∷ ids) once = (once.0, apart_of ids once.1)

-- These are apart, and there are as many as spots.
record Fits (ids : List ℕ) (spots : SpotTable) : Type 0 where
  apart : AreApart ids
  uses : length ids ≡ len spots

none_of : (spot : Option Spot) → is_some spot ≡ false → spot ≡ None
none_of None e = refl
none_of (Some s) e = absurd cc

some_of : (spot : Option Spot) → is_some spot ≡ true → (s : Spot) × (spot ≡ Some s)
some_of None e = absurd cc
some_of (Some s) e = (s, refl)

module _ (ids : List ℕ) (spots : SpotTable) (fits : Fits ids spots) (near : ℕ) (used : has near ids ≡ is_some (get spots near)) where
  more : (v : Spot) → has near ids ≡ false → Fits (near ∷ ids) (insert spots near v)
  more v free = record { apart = (free, fits.apart); uses = omega (arith, fits.uses, len_new spots near v (none_of (get spots near) (sym used ∙ free))) }

  same : (v w : Spot) → get spots near ≡ Some w → Fits ids (insert spots near v)
  same v w there = record { apart = fits.apart; uses = fits.uses ∙ sym (len_known spots near v w there) }

  renewed : (v : Spot) → Fits (near ∷ without near ids) (insert spots near v)
  renewed v = record {
    apart = (has_gone near ids, apart_of (without near ids) (once_without near ids (once_of ids fits.apart)));
    uses = elim (cases_Bool (has near ids)) [
      | inl there ↦
          let is = some_of (get spots near) (sym used ∙ there) in
          omega (arith, fits.uses, one_less near ids (once_of ids fits.apart) there, len_known spots near v is.0 is.1)
      | inr free ↦ omega (arith, fits.uses, ap length (same_without near ids free), len_new spots near v (none_of (get spots near) (sym used ∙ free)))
    ];
  }

  less : has near ids ≡ true → Fits (without near ids) (remove spots near)
  less there =
      let is = some_of (get spots near) (sym used ∙ there) in
      record {
        apart = apart_of (without near ids) (once_without near ids (once_of ids fits.apart));
        uses = omega (arith, fits.uses, one_less near ids (once_of ids fits.apart) there, len_less spots near is.0 is.1);
      }

-- ---- all spots

-- Something stands under a session ID now.
puts : (past : Past) (spots : SpotTable) (near : ℕ) (v : Spot) → IsSpotOf past near (Some v) → ((q : ℕ) → (q ≡ near → ⊥) → IsSpotOf past q (get spots q)) → Fits (ids_in_use past) (insert spots near v) →
    AreSpotsOf past (insert spots near v)
puts past spots near v here beside fits = record {
  spot = λ q. elim (tested q near) [
    | inl is ↦ subst (λ (n : ℕ). IsSpotOf past n (get (insert spots near v) n)) (sym is.0) (subst (λ (o : Option Spot). IsSpotOf past near o) (sym (get_inserted spots near v)) here)
    | inr is ↦ subst (λ (o : Option Spot). IsSpotOf past q o) (sym (get_beside spots near v q is.0)) (beside q is.0)
  ];
  apart = fits.apart;
  uses = fits.uses;
}

takes : (past : Past) (spots : SpotTable) (near : ℕ) → IsSpotOf past near None → ((q : ℕ) → (q ≡ near → ⊥) → IsSpotOf past q (get spots q)) → Fits (ids_in_use past) (remove spots near) →
    AreSpotsOf past (remove spots near)
takes past spots near here beside fits = record {
  spot = λ q. elim (tested q near) [
    | inl is ↦ subst (λ (n : ℕ). IsSpotOf past n (get (remove spots near) n)) (sym is.0) (subst (λ (o : Option Spot). IsSpotOf past near o) (sym (get_removed spots near)) here)
    | inr is ↦ subst (λ (o : Option Spot). IsSpotOf past q o) (sym (get_left spots near q is.0)) (beside q is.0)
  ];
  apart = fits.apart;
  uses = fits.uses;
}

pub spots_first : AreSpotsOf nothing_done empty
spots_first = record {
  spot = λ q. subst (λ (o : Option Spot). IsSpotOf nothing_done q o) (sym (get-empty {X = Spot} nat_cmp q))
      (empty_spot nothing_done q (λ which at there. there) (λ thing at c. c) (λ p at h. let clash : None ≡ Some h.thing = h.is_held in absurd cc) refl);
  apart = tt;
  uses = sym (len-empty nat_cmp Spot);
}

module _ (own : List ℕ) (past : Past) (o : IsOrderly past) (now : ℕ) (spots : SpotTable) (are : AreSpotsOf past spots) where
  fits : Fits (ids_in_use past) spots
  fits = record { apart = are.apart; uses = are.uses }

  used_at : (near : ℕ) → has near (ids_in_use past) ≡ is_some (get spots near)
  used_at near = (are.spot near).used

  module _ (g : Fact) (s : Stands own (count (facts_of past)) (facts_of past) g) where
    beside : (q : ℕ) → (q ≡ id_of g → ⊥) → IsSpotOf (stamped now (FactEntry g) ∷ past) q (get spots q)
    beside q other = beside_fact own past o now g s q (get spots q) other (are.spot q)

    there : (thing : Held) (before : held (peer_of g) (facts_of past) ≡ Some thing) → get spots (id_of g) ≡ Some (Holding (peer_of g) (since_old own past o now g s (get spots (id_of g)) (are.spot (id_of g)) thing before).0)
    there thing before = spot_was own past o now g s (get spots (id_of g)) (are.spot (id_of g)) thing before

  ended : (peer : List ℕ) (near : ℕ) (why : Why) (s : Stands own (count (facts_of past)) (facts_of past) (Ended peer near why)) (close : Bool) → is_close why ≡ close →
      AreSpotsOf (stamped now (FactEntry (Ended peer near why)) ∷ past) (changed (if close then closing_change near now (held peer (facts_of past)) else Takes near) spots)
  ended peer near why s true close =
      subst (λ (h : Option Held). AreSpotsOf (stamped now (FactEntry (Ended peer near why)) ∷ past) (changed (closing_change near now h) spots)) (sym s.thing) (
      puts (stamped now (FactEntry (Ended peer near why)) ∷ past) spots near (Closing s.h now)
      (here_closed_now own past o now peer near why s s.h s.thing close (get spots near) (are.spot near)) (beside (Ended peer near why) s)
      (subst (λ (b : Bool). Fits (if b then ids_in_use past else without near (ids_in_use past)) (insert spots near (Closing s.h now))) (sym close)
      (same (ids_in_use past) spots fits near (used_at near) (Closing s.h now) (Holding peer (since_old own past o now (Ended peer near why) s (get spots near) (are.spot near) s.h s.thing).0) (there (Ended peer near why) s s.h s.thing))))
  ended peer near why s false close =
      takes (stamped now (FactEntry (Ended peer near why)) ∷ past) spots near
      (here_over own past o now peer near why s close (get spots near) (are.spot near)) (beside (Ended peer near why) s)
      (subst (λ (b : Bool). Fits (if b then ids_in_use past else without near (ids_in_use past)) (remove spots near)) (sym close)
      (less (ids_in_use past) spots fits near (used_at near) (was_used own past o now (Ended peer near why) s (get spots near) (are.spot near) s.h s.thing)))

  pub spots_fact : (g : Fact) → Stands own (count (facts_of past)) (facts_of past) g → HasPlace past g →
      AreSpotsOf (stamped now (FactEntry g) ∷ past) (changed (fact_change now (held (peer_of g) (facts_of past)) g) spots)
  spots_fact (Started peer n near ni) s place =
      puts (stamped now (FactEntry (Started peer n near ni)) ∷ past) spots near (Holding peer now)
      (here_started own past o now peer n near ni s place (get spots near) (are.spot near)) (beside (Started peer n near ni) s)
      (renewed (ids_in_use past) spots fits near (used_at near) (Holding peer now))
  spots_fact (Born j) s place =
      puts (stamped now (FactEntry (Born j)) ∷ past) spots j.near (Holding j.peer now)
      (here_born own past o now j s place (get spots j.near) (are.spot j.near)) (beside (Born j) s)
      (more (ids_in_use past) spots fits j.near (used_at j.near) (Holding j.peer now) place)
  spots_fact (Opened j) s place =
      puts (stamped now (FactEntry (Opened j)) ∷ past) spots j.near (Holding j.peer now)
      (here_opened own past o now j s (get spots j.near) (are.spot j.near)) (beside (Opened j) s)
      (same (ids_in_use past) spots fits j.near (used_at j.near) (Holding j.peer now) (Holding j.peer (since_old own past o now (Opened j) s (get spots j.near) (are.spot j.near) (Opening j.n j.near j.ni) s).0)
      (there (Opened j) s (Opening j.n j.near j.ni) s))
  spots_fact (Confirmed peer near) s place = record {
    spot = λ q. elim (tested q near) [
      | inl is ↦ subst (λ (n : ℕ). IsSpotOf (stamped now (FactEntry (Confirmed peer near)) ∷ past) n (get spots n)) (sym is.0) (here_confirmed own past o now peer near s (get spots near) (are.spot near))
      | inr is ↦ beside (Confirmed peer near) s q is.0
    ];
    apart = are.apart;
    uses = are.uses;
  }
  spots_fact (Ended peer near why) s place = ended peer near why s (is_close why) refl

  pub spots_closed : (near : ℕ) → ClosingUnder past near → AreSpotsOf (stamped now (Closed near) ∷ past) (remove spots near)
  spots_closed near under =
      takes (stamped now (Closed near) ∷ past) spots near (here_closed own past o now near under (get spots near) (are.spot near))
      (λ q other. beside_closed past o now near q (get spots q) other (are.spot q))
      (less (ids_in_use past) spots fits near (used_at near) (used_at near ∙ ap is_some ((are.spot near).closing_there under.0 under.1 under.2)))

  pub spots_unsought : (near : ℕ) (why : Why) → SearchUnder past near → AreSpotsOf (stamped now (Unsought near why) ∷ past) (remove spots near)
  spots_unsought near why under =
      takes (stamped now (Unsought near why) ∷ past) spots near (here_unsought own past o now near why under (get spots near) (are.spot near))
      (λ q other. beside_unsought past o now near q why (get spots q) other (are.spot q))
      (less (ids_in_use past) spots fits near (used_at near) (used_at near ∙ ap is_some ((are.spot near).search_there under.which under.at under.stands)))

  pub spots_sought : (near : ℕ) (name : List ℕ) → is_in_use near past ≡ false → (drawn : Drawn) → drawn_of past ≡ Some drawn →
      AreSpotsOf (stamped now (Sought near name) ∷ past) (insert spots near (Searching name drawn.tag drawn.ni now))
  spots_sought near name free drawn draws =
      puts (stamped now (Sought near name) ∷ past) spots near (Searching name drawn.tag drawn.ni now)
      (here_sought own past o now near name free drawn draws (get spots near) (are.spot near))
      (λ q other. beside_sought past o now near q name (get spots q) other (are.spot q))
      (more (ids_in_use past) spots fits near (used_at near) (Searching name drawn.tag drawn.ni now) free)

  pub spots_plain : (s : Stamped) → fact_done s.what ≡ None → closed_done s.what ≡ None → sought_done s.what ≡ None → unsought_done s.what ≡ None → AreSpotsOf (s ∷ past) spots
  spots_plain s fact closed sought unsought = record {
    spot = λ q. beside_plain past o now s fact closed sought unsought q (get spots q) (are.spot q);
    apart = rw (sought, unsought, closed, fact) are.apart;
    uses = rw (sought, unsought, closed, fact) are.uses;
  }
