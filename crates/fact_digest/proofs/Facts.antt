-- What one more fact says.
use Rattle.std.proofs.Common.{ℕ, List, [], ◌∷◌, ◌≡◌, ◌+◌, inl, inr, length, refl, sym, ap, subst, arith, true, cond, is_some, Option, Some, None, ◌∙◌, max}
use Rattle.std.specs.List.{list_any}
use Rattle.std.specs.Str.{bytes_eq}
use Rattle.std.specs.Ordering.{nat_cmp}
use Rattle.std.specs.Cmp.Lexicographic.{slice_cmp}
use Rattle.std.specs.FinMap.{get, len, get-empty, len-empty}
use Rattle.glare_core.specs.declared.facts.Fact.{Fact}
use Rattle.glare_core.specs.declared.facts.Fact.TheVariants.{Started, Born, Opened, Confirmed, Ended}
use Rattle.glare_core.specs.declared.facts.Held.{Held}
use Rattle.glare_core.specs.declared.facts.Held.TheVariants.{Opening, HalfOpen}
use Rattle.glare_core.specs.Standing.{peer_of, after, held, seen_in, count, with_peer, peers_in}
use Rattle.glare_core.specs.Stands.{Stands}
use Rattle.glare_core.specs.Ledger.{PeerRow, PeerRows, row_or_blank, row_in, row_after}
use Rattle.glare_core.proofs.Accounts.{row_noted, any_same, any_with, length_with}
use Rattle.glare_core.proofs.Tails.{same_end}
use Rattle.glare_core.proofs.Maps.{known_inserted, len_inserted}
use Rattle.fact_digest.specs.Roll.{Rolled, no_facts, started_after, with_fact, IsOfFacts}

pub none_said : IsOfFacts [] no_facts
none_said = record {
  held_is = λ peer. ap (λ r. (row_or_blank r).held) (get-empty {X = PeerRow} (slice_cmp nat_cmp) peer);
  seen_is = λ peer. ap (λ r. (row_or_blank r).floor) (get-empty {X = PeerRow} (slice_cmp nat_cmp) peer);
  row_is = λ peer. ap is_some (get-empty {X = PeerRow} (slice_cmp nat_cmp) peer);
  rows_are = len-empty (slice_cmp nat_cmp) PeerRow;
  count_is = refl;
}

-- A peer with which something is held has a row.
has_row : (o : Option PeerRow) (h : Held) → (row_or_blank o).held ≡ Some h → is_some o ≡ true
has_row None h e = absurd cc
has_row (Some row) h e = refl

module _ (facts : List Fact) (r : Rolled) (is : IsOfFacts facts r) where
  holds : (p : List ℕ) (h : Held) → held p facts ≡ Some h → list_any (bytes_eq p) (peers_in facts) ≡ true
  holds p h e = sym (is.row_is p) ∙ has_row (get r.rows p) h (is.held_is p ∙ e)

  -- A fact that starts nothing and bears nothing is of a peer that is known.
  stays : (fact : Fact) (peers : List (List ℕ)) → peers ≡ peers_in facts → list_any (bytes_eq (peer_of fact)) peers ≡ true → (q : List ℕ) →
      list_any (bytes_eq q) peers ≡ cond (bytes_eq (peer_of fact) q) true (list_any (bytes_eq q) peers)
  stays fact peers e here q = elim (same_end (peer_of fact) q) [ inl d ↦ rw d.1 (any_same (peer_of fact) q peers d.0 here) | inr d ↦ rw d.1 refl ]

  known : (own : List ℕ) (fact : Fact) → Stands own (count facts) facts fact → (q : List ℕ) →
      list_any (bytes_eq q) (peers_in (fact ∷ facts)) ≡ cond (bytes_eq (peer_of fact) q) true (list_any (bytes_eq q) (peers_in facts))
  known own (Started peer n near ni) s q = any_with peer q (peers_in facts)
  known own (Born j) s q = any_with j.peer q (peers_in facts)
  known own (Opened j) s q = stays (Opened j) (peers_in facts) refl (holds j.peer (Opening j.n j.near j.ni) s) q
  known own (Confirmed peer near) s q = stays (Confirmed peer near) (peers_in facts) refl (holds peer (HalfOpen s.j) s.session) q
  known own (Ended peer near why) s q = stays (Ended peer near why) (peers_in facts) refl (holds peer s.h s.thing) q

  counted : (own : List ℕ) (fact : Fact) → Stands own (count facts) facts fact →
      length (peers_in (fact ∷ facts)) ≡ cond (list_any (bytes_eq (peer_of fact)) (peers_in facts)) (length (peers_in facts)) (length (peers_in facts) + 1)
  counted own (Started peer n near ni) s = length_with peer (peers_in facts)
  counted own (Born j) s = length_with j.peer (peers_in facts)
  counted own (Opened j) s = rw (holds j.peer (Opening j.n j.near j.ni) s) refl
  counted own (Confirmed peer near) s = rw (holds peer (HalfOpen s.j) s.session) refl
  counted own (Ended peer near why) s = rw (holds peer s.h s.thing) refl

  started : (own : List ℕ) (fact : Fact) → Stands own (count facts) facts fact → started_after fact r.started ≡ count (fact ∷ facts)
  started own (Started peer n near ni) s = omega (arith, s.next)
  started own (Born j) s = omega (arith, is.count_is)
  started own (Opened j) s = omega (arith, is.count_is)
  started own (Confirmed peer near) s = omega (arith, is.count_is)
  started own (Ended peer near why) s = omega (arith, is.count_is)

  pub one_more : (own : List ℕ) (fact : Fact) → Stands own (count facts) facts fact → IsOfFacts (fact ∷ facts) (with_fact fact r)
  one_more own fact s = record {
    held_is = λ q. ap (λ (row : PeerRow). row.held) (row_noted fact r.rows q) ∙ elim (same_end (peer_of fact) q) [ inl d ↦ rw d.1 (ap (after fact) (is.held_is q)) | inr d ↦ rw d.1 (is.held_is q) ];
    seen_is = λ q. ap (λ (row : PeerRow). row.floor) (row_noted fact r.rows q) ∙ elim (same_end (peer_of fact) q) [ inl d ↦ rw d.1 (ap (max (seen_in fact)) (is.seen_is q)) | inr d ↦ rw d.1 (is.seen_is q) ];
    row_is = λ q. known_inserted r.rows (peer_of fact) (row_after fact (row_in r.rows (peer_of fact))) q ∙ ap (cond (bytes_eq (peer_of fact) q) true) (is.row_is q) ∙ sym (known own fact s q);
    rows_are = len_inserted r.rows (peer_of fact) (row_after fact (row_in r.rows (peer_of fact))) ∙ ap (λ b. cond b (len r.rows) (len r.rows + 1)) (is.row_is (peer_of fact))
        ∙ ap (λ n. cond (list_any (bytes_eq (peer_of fact)) (peers_in facts)) n (n + 1)) is.rows_are ∙ sym (counted own fact s);
    count_is = started own fact s;
  }

-- the rows of a roll
abbrev pub rows_in : Rolled → PeerRows
rows_in r = r.rows
