-- What a ledger says of the facts that it stands for.
use Rattle.std.proofs.Common.{ℕ, List, [], ◌∷◌, ◌≡◌, ◌+◌, inl, inr, length, refl, sym, ap, subst, arith, true, cond, is_some, Option, Some, None, ◌∙◌, max}
use Rattle.std.specs.List.{list_any}
use Rattle.std.specs.Str.{bytes_eq}
use Rattle.std.specs.Ordering.{nat_cmp}
use Rattle.std.specs.Cmp.Lexicographic.{slice_cmp}
use Rattle.std.specs.FinMap.{len, get-empty, len-empty}
use Rattle.std.proofs.lemmas.Bool.{cases_Bool}
use Rattle.glare_core.specs.declared.facts.Fact.{Fact}
use Rattle.glare_core.specs.declared.facts.Fact.TheVariants.{Started, Born, Opened, Confirmed, Ended}
use Rattle.glare_core.specs.declared.facts.Held.{Held}
use Rattle.glare_core.specs.declared.facts.Held.TheVariants.{Opening, HalfOpen}
use Rattle.glare_core.specs.Standing.{peer_of, opened, confirmed, after, held, seen_in, seen, count, with_peer, peers_in}
use Rattle.glare_core.specs.Stands.{Stands}
use Rattle.glare_core.specs.Ledger.{PeerRow, PeerRows, Ledger, new_ledger, row_or_blank, row_in, held_with, floor_of, knows, row_count, row_after, rows_after, left_by}
use Rattle.glare_core.specs.Account.{AreLawful, StandsFor}
use Rattle.glare_core.proofs.Tails.{same_end}
use Rattle.glare_core.proofs.Maps.{bytes_eq_sym, row_inserted, known_inserted, len_inserted}

pub row_noted : (fact : Fact) (rows : PeerRows) (q : List ℕ) → row_in (rows_after fact rows) q ≡ cond (bytes_eq (peer_of fact) q) (row_after fact (row_in rows q)) (row_in rows q)
row_noted fact rows q =
    row_inserted rows (peer_of fact) (row_after fact (row_in rows (peer_of fact))) q ∙
    elim (same_end (peer_of fact) q) [ inl d ↦ rw d.1 (ap (λ r. row_after fact (row_in rows r)) d.0) | inr d ↦ rw d.1 refl ]

held_left : (own : List ℕ) (max_peers from : ℕ) (facts : List Fact) (q : List ℕ) → held_with (left_by facts (new_ledger own max_peers from)) q ≡ held q facts
held_left own max_peers from [] q = ap (λ r. (row_or_blank r).held) (get-empty {X = PeerRow} (slice_cmp nat_cmp) q)
held_left own max_peers from (fact ∷ earlier) q =
    let ih = held_left own max_peers from earlier q in
    ap (λ (r : PeerRow). r.held) (row_noted fact (left_by earlier (new_ledger own max_peers from)).rows q) ∙
    elim (same_end (peer_of fact) q) [ inl d ↦ rw d.1 (ap (after fact) ih) | inr d ↦ rw d.1 ih ]

floor_left : (own : List ℕ) (max_peers from : ℕ) (facts : List Fact) (q : List ℕ) → floor_of (left_by facts (new_ledger own max_peers from)) q ≡ seen q facts
floor_left own max_peers from [] q = ap (λ r. (row_or_blank r).floor) (get-empty {X = PeerRow} (slice_cmp nat_cmp) q)
floor_left own max_peers from (fact ∷ earlier) q =
    let ih = floor_left own max_peers from earlier q in
    ap (λ (r : PeerRow). r.floor) (row_noted fact (left_by earlier (new_ledger own max_peers from)).rows q) ∙
    elim (same_end (peer_of fact) q) [ inl d ↦ rw d.1 (ap (max (seen_in fact)) ih) | inr d ↦ rw d.1 ih ]

started_left : (own : List ℕ) (max_peers from : ℕ) (facts : List Fact) → (left_by facts (new_ledger own max_peers from)).started ≡ from + count facts
started_left own max_peers from [] = omega arith
started_left own max_peers from (fact ∷ earlier) = omega (arith, started_left own max_peers from earlier)

-- The different peers.
pub any_same : (p q : List ℕ) (peers : List (List ℕ)) → p ≡ q → list_any (bytes_eq p) peers ≡ true → list_any (bytes_eq q) peers ≡ true
any_same p q peers e h = subst (λ r. list_any (bytes_eq r) peers ≡ true) e h

pub any_with : (p q : List ℕ) (peers : List (List ℕ)) → list_any (bytes_eq q) (with_peer p peers) ≡ cond (bytes_eq p q) true (list_any (bytes_eq q) peers)
any_with p q peers =
    elim (cases_Bool (list_any (bytes_eq p) peers)) [
      | inl here ↦ rw here (elim (same_end p q) [ inl d ↦ rw d.1 (any_same p q peers d.0 here) | inr d ↦ rw d.1 refl ])
      | inr gone ↦ rw (gone, bytes_eq_sym q p) (elim (same_end p q) [ inl d ↦ rw d.1 refl | inr d ↦ rw d.1 refl ])
    ]

pub length_with : (p : List ℕ) (peers : List (List ℕ)) → length (with_peer p peers) ≡ cond (list_any (bytes_eq p) peers) (length peers) (length peers + 1)
length_with p peers = elim (cases_Bool (list_any (bytes_eq p) peers)) [ inl here ↦ rw here refl | inr gone ↦ rw gone (omega arith) ]

-- A peer with which something is held is among them.
holds_known : (p : List ℕ) (facts : List Fact) (h : Held) → held p facts ≡ Some h → list_any (bytes_eq p) (peers_in facts) ≡ true
holds_known p [] h e = absurd (cc)
holds_known p (Started peer n near ni ∷ earlier) h e = any_with peer p (peers_in earlier) ∙ elim (same_end peer p) [ inl d ↦ rw d.1 refl | inr d ↦ rw d.1 (holds_known p earlier h (rw d.1 at e)) ]
holds_known p (Born j ∷ earlier) h e = any_with j.peer p (peers_in earlier) ∙ elim (same_end j.peer p) [ inl d ↦ rw d.1 refl | inr d ↦ rw d.1 (holds_known p earlier h (rw d.1 at e)) ]
holds_known p (Opened j ∷ earlier) h e = elim (same_end j.peer p) [ inl d ↦ go (λ g is. holds_known p earlier g is) (held p earlier) refl (rw d.1 at e) | inr d ↦ holds_known p earlier h (rw d.1 at e) ]
  where
    go : ((g : Held) → held p earlier ≡ Some g → list_any (bytes_eq p) (peers_in earlier) ≡ true) → (o : Option Held) → held p earlier ≡ o → opened j o ≡ Some h → list_any (bytes_eq p) (peers_in earlier) ≡ true
    go known None is e = absurd (cc)
    go known (Some g) is e = known g is
holds_known p (Confirmed peer near ∷ earlier) h e = elim (same_end peer p) [ inl d ↦ go (λ g is. holds_known p earlier g is) (held p earlier) refl (rw d.1 at e) | inr d ↦ holds_known p earlier h (rw d.1 at e) ]
  where
    go : ((g : Held) → held p earlier ≡ Some g → list_any (bytes_eq p) (peers_in earlier) ≡ true) → (o : Option Held) → held p earlier ≡ o → confirmed o ≡ Some h → list_any (bytes_eq p) (peers_in earlier) ≡ true
    go known None is e = absurd (cc)
    go known (Some g) is e = known g is
holds_known p (Ended peer near why ∷ earlier) h e = elim (same_end peer p) [ inl d ↦ absurd (let e' = rw d.1 at e in cc) | inr d ↦ holds_known p earlier h (rw d.1 at e) ]

-- The peer of a lawful fact that is no Started and no Born is among those before.
stands_known : (own : List ℕ) (attempts : ℕ) (fact : Fact) (earlier : List Fact) → Stands own attempts earlier fact → list_any (bytes_eq (peer_of fact)) (peers_in (fact ∷ earlier)) ≡ true
stands_known own attempts (Started peer n near ni) earlier s = any_with peer peer (peers_in earlier) ∙ elim (same_end peer peer) [ inl d ↦ rw d.1 refl | inr d ↦ absurd (d.0 refl) ]
stands_known own attempts (Born j) earlier s = any_with j.peer j.peer (peers_in earlier) ∙ elim (same_end j.peer j.peer) [ inl d ↦ rw d.1 refl | inr d ↦ absurd (d.0 refl) ]
stands_known own attempts (Opened j) earlier s = holds_known j.peer earlier (Opening j.n j.near j.ni) s
stands_known own attempts (Confirmed peer near) earlier s = holds_known peer earlier (HalfOpen s.j) s.session
stands_known own attempts (Ended peer near why) earlier s = holds_known peer earlier s.h s.thing

-- A fact adds its peer to those before, or it is there.
any_in : (fact : Fact) (earlier : List Fact) (q : List ℕ) → list_any (bytes_eq (peer_of fact)) (peers_in (fact ∷ earlier)) ≡ true →
    list_any (bytes_eq q) (peers_in (fact ∷ earlier)) ≡ cond (bytes_eq (peer_of fact) q) true (list_any (bytes_eq q) (peers_in earlier))
any_in (Started peer n near ni) earlier q here = any_with peer q (peers_in earlier)
any_in (Born j) earlier q here = any_with j.peer q (peers_in earlier)
any_in (Opened j) earlier q here = elim (same_end j.peer q) [ inl d ↦ rw d.1 (any_same j.peer q (peers_in earlier) d.0 here) | inr d ↦ rw d.1 refl ]
any_in (Confirmed peer near) earlier q here = elim (same_end peer q) [ inl d ↦ rw d.1 (any_same peer q (peers_in earlier) d.0 here) | inr d ↦ rw d.1 refl ]
any_in (Ended peer near why) earlier q here = elim (same_end peer q) [ inl d ↦ rw d.1 (any_same peer q (peers_in earlier) d.0 here) | inr d ↦ rw d.1 refl ]

length_in : (fact : Fact) (earlier : List Fact) → list_any (bytes_eq (peer_of fact)) (peers_in (fact ∷ earlier)) ≡ true →
    length (peers_in (fact ∷ earlier)) ≡ cond (list_any (bytes_eq (peer_of fact)) (peers_in earlier)) (length (peers_in earlier)) (length (peers_in earlier) + 1)
length_in (Started peer n near ni) earlier here = length_with peer (peers_in earlier)
length_in (Born j) earlier here = length_with j.peer (peers_in earlier)
length_in (Opened j) earlier here = rw here refl
length_in (Confirmed peer near) earlier here = rw here refl
length_in (Ended peer near why) earlier here = rw here refl

knows_left : (own : List ℕ) (max_peers from : ℕ) (facts : List Fact) → AreLawful own from facts → (q : List ℕ) →
    knows (left_by facts (new_ledger own max_peers from)) q ≡ list_any (bytes_eq q) (peers_in facts)
knows_left own max_peers from [] lawful q = ap is_some (get-empty {X = PeerRow} (slice_cmp nat_cmp) q)
knows_left own max_peers from (fact ∷ earlier) lawful q =
    let rows : PeerRows = (left_by earlier (new_ledger own max_peers from)).rows in
    known_inserted rows (peer_of fact) (row_after fact (row_in rows (peer_of fact))) q ∙
    ap (cond (bytes_eq (peer_of fact) q) true) (knows_left own max_peers from earlier lawful.2 q) ∙
    sym (any_in fact earlier q (stands_known own (from + count earlier) fact earlier lawful.0))

rows_left : (own : List ℕ) (max_peers from : ℕ) (facts : List Fact) → AreLawful own from facts → row_count (left_by facts (new_ledger own max_peers from)) ≡ length (peers_in facts)
rows_left own max_peers from [] lawful = len-empty (slice_cmp nat_cmp) PeerRow
rows_left own max_peers from (fact ∷ earlier) lawful =
    let rows : PeerRows = (left_by earlier (new_ledger own max_peers from)).rows in
    len_inserted rows (peer_of fact) (row_after fact (row_in rows (peer_of fact))) ∙
    ap (λ b. cond b (len rows) (len rows + 1)) (knows_left own max_peers from earlier lawful.2 (peer_of fact)) ∙
    ap (λ n. cond (list_any (bytes_eq (peer_of fact)) (peers_in earlier)) n (n + 1)) (rows_left own max_peers from earlier lawful.2) ∙
    sym (length_in fact earlier (stands_known own (from + count earlier) fact earlier lawful.0))

-- What a ledger answers is what the facts say that it stands for.
module _ (from : ℕ) (l : Ledger) (facts : List Fact) (stands : StandsFor from l facts) where
  pub reads_held : (q : List ℕ) → held_with l q ≡ held q facts
  reads_held q = ap (λ m. held_with m q) stands.is ∙ held_left l.own l.max_peers from facts q

  pub reads_floor : (q : List ℕ) → floor_of l q ≡ seen q facts
  reads_floor q = ap (λ m. floor_of m q) stands.is ∙ floor_left l.own l.max_peers from facts q

  pub reads_started : l.started ≡ from + count facts
  reads_started = ap (λ (m : Ledger). m.started) stands.is ∙ started_left l.own l.max_peers from facts

  pub reads_knows : (q : List ℕ) → knows l q ≡ list_any (bytes_eq q) (peers_in facts)
  reads_knows q = ap (λ m. knows m q) stands.is ∙ knows_left l.own l.max_peers from facts stands.lawful q

  pub reads_rows : row_count l ≡ length (peers_in facts)
  reads_rows = ap row_count stands.is ∙ rows_left l.own l.max_peers from facts stands.lawful
