-- What is told of an entry is what was before it.
use Rattle.std.proofs.Common.{ℕ, ◌≡◌, [], ◌∷◌, inl, inr, Bool, true, false, if◌then◌else◌, List, Option, Some, None, refl, sym, ap, subst, ◌∙◌}
use Rattle.std.specs.FinMap.{len}
use Rattle.glare_core.specs.declared.facts.Fact.{Fact}
use Rattle.glare_core.specs.declared.facts.Fact.TheVariants.{Started, Born, Opened, Confirmed, Ended}
use Rattle.glare_core.specs.declared.facts.Held.{Held}
use Rattle.glare_core.specs.declared.facts.Why.{Why}
use Rattle.glare_core.specs.declared.facts.Why.TheVariants.{Cancelled, Expired, Glare, Override, Unconfirmed, Near, Far, Idle}
use Rattle.glare_core.specs.Ledger.{row_in}
use Rattle.glare_core.specs.Standing.{count}
use Rattle.glare_core.specs.Stands.{IsForBorn, Stands}
use Rattle.endpoint_model.specs.declared.entry.Entry.{Entry}
use Rattle.endpoint_model.specs.declared.entry.Entry.TheVariants.{Fact as FactEntry}
use Rattle.endpoint_model.specs.Views.{NamedSearch, EndedSearch, fact_in, closed_in, sought_in, unsought_in}
use Rattle.endpoint_laws.specs.Past.{Past, fact_done, facts_of, with_entry}
use Rattle.log_digest.specs.Changes.{MayCome, MayComeBy}
use Rattle.log_digest.specs.Kept.{Digested}
use Rattle.log_digest.specs.Digest.{IsDigestOf}
use Rattle.log_births.specs.declared.party.Way.{Way}
use Rattle.log_births.specs.Births.{HasEnded, IsWay, MadeWay, NothingMadeWayBeforeAnEvent}
use Rattle.log_births.specs.Ways.{is_for_born, way_by, way_from}

one_of : {A : Type 0} (a b : A) → Some a ≡ Some b → a ≡ b
one_of a b e = cc

entry_is : (entry : Entry) (f : Fact) → fact_in entry ≡ Some f → entry ≡ FactEntry f
entry_is (FactEntry g) f e = ap FactEntry (one_of g f e)
entry_is entry f e = absurd cc

stands_of : (own : List ℕ) (past : Past) (f : Option Fact) (over : Option ℕ) (sought : Option NamedSearch) (ended : Option EndedSearch) → MayComeBy own past f over sought ended →
    (fact : Fact) → f ≡ Some fact → Stands own (count (facts_of past)) (facts_of past) fact
stands_of own past None over sought ended may fact e = absurd cc
stands_of own past (Some g) over sought ended may fact e = subst (λ (x : Fact). Stands own (count (facts_of past)) (facts_of past) x) (one_of g fact e) may.0

-- ---- causes

for_born : (why : Why) → is_for_born why ≡ true → IsForBorn why
for_born Cancelled e = absurd cc
for_born Expired e = absurd cc
for_born Glare e = inl refl
for_born Override e = inr refl
for_born Unconfirmed e = absurd cc
for_born Near e = absurd cc
for_born Far e = absurd cc
for_born Idle e = absurd cc

is_for : (why : Why) → IsForBorn why → is_for_born why ≡ true
is_for why (inl e) = ap is_for_born e
is_for why (inr e) = ap is_for_born e

-- ---- the last fact

abbrev last_fact : Past → Option Fact
last_fact [] = None
last_fact (s ∷ earlier) = fact_done s.what

-- whether it is an end that makes way
abbrev makes_way : Option Fact → Bool
makes_way None = false
makes_way (Some (Started peer n near ni)) = false
makes_way (Some (Born j)) = false
makes_way (Some (Opened j)) = false
makes_way (Some (Confirmed peer near)) = false
makes_way (Some (Ended peer near why)) = is_for_born why

pub none_before : NothingMadeWayBeforeAnEvent
none_before now moment e past = λ before peer h.
    let clash : false ≡ true = ap (λ (q : Past). makes_way (last_fact q)) h.last ∙ is_for h.why h.for_born in
    absurd cc

module _ (now : ℕ) (past : Past) (entry : Entry) where
  ended_is : (before : Past) (peer : List ℕ) → HasEnded now (with_entry now entry past) before peer → makes_way (fact_in entry) ≡ true
  ended_is before peer h = ap (λ (q : Past). makes_way (last_fact q)) h.last ∙ is_for h.why h.for_born

  none_made : (f : Option Fact) → fact_in entry ≡ f → makes_way f ≡ false → IsWay now (with_entry now entry past) None
  none_made f is other = λ before peer h. let clash : false ≡ true = sym other ∙ sym (ap makes_way is) ∙ ended_is before peer h in absurd cc

  module _ (own : List ℕ) (d : Digested) (is : IsDigestOf now past d) where
    by_end : (peer : List ℕ) (near : ℕ) (why : Why) → fact_in entry ≡ Some (Ended peer near why) → Stands own (count (facts_of past)) (facts_of past) (Ended peer near why) → (b : Bool) → is_for_born why ≡ b →
        IsWay now (with_entry now entry past) (if b then way_from peer (row_in d.roll.rows peer).held (len d.spots) else None)
    by_end peer near why e stands false b = none_made (Some (Ended peer near why)) e b
    by_end peer near why e stands true b =
        let thing_is : (row_in d.roll.rows peer).held ≡ Some stands.h = is.roll_is.held_is peer ∙ stands.thing in
        let made : MadeWay now (with_entry now entry past) (record { peer = peer; thing = stands.h; uses = len d.spots }) = record {
          before = past;
          ended = record { near = near; why = why; for_born = for_born why b; last = ap (λ (x : Entry). with_entry now x past) (entry_is entry (Ended peer near why) e) };
          thing_is = stands.thing;
          uses_are = is.spots_are.uses;
        } in
        subst (λ (o : Option Held). IsWay now (with_entry now entry past) (way_from peer o (len d.spots))) (sym thing_is) made

    by_fact : (f : Option Fact) → fact_in entry ≡ f → ((fact : Fact) → f ≡ Some fact → Stands own (count (facts_of past)) (facts_of past) fact) → IsWay now (with_entry now entry past) (way_by d f)
    by_fact None e stands = none_made None e refl
    by_fact (Some (Started peer n near ni)) e stands = none_made (Some (Started peer n near ni)) e refl
    by_fact (Some (Born j)) e stands = none_made (Some (Born j)) e refl
    by_fact (Some (Opened j)) e stands = none_made (Some (Opened j)) e refl
    by_fact (Some (Confirmed peer near)) e stands = none_made (Some (Confirmed peer near)) e refl
    by_fact (Some (Ended peer near why)) e stands = by_end peer near why e (stands (Ended peer near why) refl) (is_for_born why) refl

    pub way_is : MayCome own past entry → (found : Option Way) → found ≡ way_by d (fact_in entry) → IsWay now (with_entry now entry past) found
    way_is may found value =
        subst (λ (o : Option Way). IsWay now (with_entry now entry past) o) (sym value)
        (by_fact (fact_in entry) refl (stands_of own past (fact_in entry) (closed_in entry) (sought_in entry) (unsought_in entry) may))
