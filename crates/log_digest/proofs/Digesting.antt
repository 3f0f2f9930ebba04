-- A digest goes on being that of a log.
use Rattle.std.proofs.Common.{ℕ, List, [], ◌∷◌, ◌≡◌, max, refl, sym, subst, Option, None, ◌∙◌}
use Rattle.glare_core.specs.declared.facts.Fact.{Fact}
use Rattle.glare_core.specs.declared.facts.Held.{Held}
use Rattle.glare_core.specs.Standing.{peer_of, count}
use Rattle.glare_core.specs.Stands.{Stands}
use Rattle.glare_core.specs.Ledger.{row_in}
use Rattle.fact_digest.specs.Roll.{IsOfFacts}
use Rattle.fact_digest.proofs.Facts.{none_said, one_more}
use Rattle.endpoint_model.specs.declared.entry.Entry.{Entry}
use Rattle.endpoint_model.specs.declared.entry.Entry.TheVariants.{Fact as FactEntry, Closed, Sought, Unsought, Moved, Learnt, Advanced, FlowOpened, Queued, Finished, Abandoned, Handed, Discard, Out}
use Rattle.endpoint_model.specs.Event.{Event, moment_at, seek_in}
use Rattle.endpoint_laws.specs.Past.{stamped, begun, Past, facts_of, nothing_done, with_begun, with_entry, fact_done, closed_done, sought_done, unsought_done}
use Rattle.log_digest.specs.declared.spot.Drawn.{Drawn}
use Rattle.log_digest.specs.Spots.{AreSpotsOf, IsOrderly}
use Rattle.log_digest.specs.Changes.{HasPlace, MayCome, changed, drawn_in, drawn_of, fact_change, sought_change}
use Rattle.log_digest.specs.Kept.{Digested, nothing_kept}
use Rattle.log_digest.specs.Digest.{IsDigestOf, begun_with, added}
use Rattle.log_digest.proofs.Orderly.{orderly_first, orderly_plain, orderly_fact}
use Rattle.log_digest.proofs.Whole.{spots_first, spots_fact, spots_closed, spots_unsought, spots_sought, spots_plain}

pub digest_first : IsDigestOf 0 nothing_done nothing_kept
digest_first = record { moment_is = refl; drawn_is = refl; roll_is = none_said; spots_are = spots_first; orderly = orderly_first }

pub digest_begun : (last : ℕ) (past : Past) (d : Digested) (e : Event) (moment : ℕ) (drawn : Option Drawn) → IsDigestOf last past d → e.moment ≡ moment → drawn_in (seek_in e.call) ≡ drawn →
    IsDigestOf (moment_at last e) (with_begun (moment_at last e) e past) (begun_with moment drawn d)
digest_begun last past d e moment drawn is at draws = record {
  moment_is = (λ i. max (is.moment_is i) (sym at i));
  drawn_is = sym draws;
  roll_is = is.roll_is;
  spots_are = spots_plain [] past is.orderly (moment_at last e) d.spots is.spots_are (begun (moment_at last e) e) refl refl refl refl;
  orderly = orderly_plain past is.orderly (begun (moment_at last e) e) refl;
}

module _ (own : List ℕ) (last : ℕ) (past : Past) (d : Digested) (is : IsDigestOf last past d) where
  plain : (entry : Entry) → fact_done (stamped last entry).what ≡ None → closed_done (stamped last entry).what ≡ None → sought_done (stamped last entry).what ≡ None → unsought_done (stamped last entry).what ≡ None →
      AreSpotsOf (stamped last entry ∷ past) d.spots × IsOrderly (stamped last entry ∷ past)
  plain entry fact closed sought unsought = (spots_plain own past is.orderly last d.spots is.spots_are (stamped last entry) fact closed sought unsought, orderly_plain past is.orderly (stamped last entry) fact)

  of_fact : (g : Fact) → Stands own (count (facts_of past)) (facts_of past) g → HasPlace past g → IsDigestOf last (with_entry last (FactEntry g) past) (added (FactEntry g) d)
  of_fact g s place = record {
    moment_is = is.moment_is;
    drawn_is = is.drawn_is;
    roll_is = one_more (facts_of past) d.roll is.roll_is own g s;
    spots_are =
        subst (λ (m : ℕ). AreSpotsOf (stamped last (FactEntry g) ∷ past) (changed (fact_change m (row_in d.roll.rows (peer_of g)).held g) d.spots)) (sym is.moment_is)
        (subst (λ (h : Option Held). AreSpotsOf (stamped last (FactEntry g) ∷ past) (changed (fact_change last h g) d.spots)) (sym (is.roll_is.held_is (peer_of g)))
        (spots_fact own past is.orderly last d.spots is.spots_are g s place));
    orderly = orderly_fact past is.orderly own last g s;
  }

  of_plain : (entry : Entry) → AreSpotsOf (stamped last entry ∷ past) (added entry d).spots → IsOfFacts (facts_of (stamped last entry ∷ past)) (added entry d).roll → drawn_of (stamped last entry ∷ past) ≡ drawn_of past →
      IsOrderly (stamped last entry ∷ past) → IsDigestOf last (with_entry last entry past) (added entry d)
  of_plain entry spots roll drawn orderly = record { moment_is = is.moment_is; drawn_is = is.drawn_is ∙ sym drawn; roll_is = roll; spots_are = spots; orderly = orderly }

  pub digest_added : (entry : Entry) → MayCome own past entry → IsDigestOf last (with_entry last entry past) (added entry d)
  digest_added (FactEntry g) may = of_fact g may.0 may.1
  digest_added (Closed near) may =
      of_plain (Closed near) (spots_closed own past is.orderly last d.spots is.spots_are near may) is.roll_is refl (orderly_plain past is.orderly (stamped last (Closed near)) refl)
  digest_added (Sought near name) may =
      of_plain (Sought near name)
      (subst (λ (m : ℕ). AreSpotsOf (stamped last (Sought near name) ∷ past) (changed (sought_change m d.drawn (record { near = near; name = name })) d.spots)) (sym is.moment_is)
      (subst (λ (o : Option Drawn). AreSpotsOf (stamped last (Sought near name) ∷ past) (changed (sought_change last o (record { near = near; name = name })) d.spots)) (sym (is.drawn_is ∙ may.1.1))
      (spots_sought own past is.orderly last d.spots is.spots_are near name may.0 may.1.0 may.1.1)))
      is.roll_is refl (orderly_plain past is.orderly (stamped last (Sought near name)) refl)
  digest_added (Unsought near why) may =
      of_plain (Unsought near why) (spots_unsought own past is.orderly last d.spots is.spots_are near why may) is.roll_is refl (orderly_plain past is.orderly (stamped last (Unsought near why)) refl)
  digest_added (Moved near to) may = let p = plain (Moved near to) refl refl refl refl in of_plain (Moved near to) p.0 is.roll_is refl p.1
  digest_added (Learnt generation) may = let p = plain (Learnt generation) refl refl refl refl in of_plain (Learnt generation) p.0 is.roll_is refl p.1
  digest_added (Advanced generation) may = let p = plain (Advanced generation) refl refl refl refl in of_plain (Advanced generation) p.0 is.roll_is refl p.1
  digest_added (FlowOpened near flow) may = let p = plain (FlowOpened near flow) refl refl refl refl in of_plain (FlowOpened near flow) p.0 is.roll_is refl p.1
  digest_added (Queued near flow seq message) may = let p = plain (Queued near flow seq message) refl refl refl refl in of_plain (Queued near flow seq message) p.0 is.roll_is refl p.1
  digest_added (Finished near flow seq) may = let p = plain (Finished near flow seq) refl refl refl refl in of_plain (Finished near flow seq) p.0 is.roll_is refl p.1
  digest_added (Abandoned near flow seq) may = let p = plain (Abandoned near flow seq) refl refl refl refl in of_plain (Abandoned near flow seq) p.0 is.roll_is refl p.1
  digest_added (Handed near flow seq message) may = let p = plain (Handed near flow seq message) refl refl refl refl in of_plain (Handed near flow seq message) p.0 is.roll_is refl p.1
  digest_added (Discard place cause) may = let p = plain (Discard place cause) refl refl refl refl in of_plain (Discard place cause) p.0 is.roll_is refl p.1
  digest_added (Out to datagram context) may = let p = plain (Out to datagram context) refl refl refl refl in of_plain (Out to datagram context) p.0 is.roll_is refl p.1
