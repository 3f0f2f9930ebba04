-- With how many peers an end keeps a session, fact by fact.
use Rattle.std.proofs.Common.{ℕ, List, [], ◌∷◌, ◌≡◌, ◌≤◌, ◌+◌, inl, inr, length, refl, sym, ap, subst, arith, Bool, true, false, cond, is_some, Option, Some, None, ◌∙◌}
use Rattle.std.specs.List.{list_any, filter}
use Rattle.std.specs.Str.{bytes_eq}
use Rattle.std.specs.FinMap.{get, len}
use Rattle.std.proofs.lemmas.Bool.{cases_Bool}
use Rattle.std.proofs.lemmas.List.Sums.{count_by-le-length, length-filter}
use Rattle.glare_core.specs.declared.facts.Fact.{Fact}
use Rattle.glare_core.specs.declared.facts.Fact.TheVariants.{Started, Born, Opened, Confirmed, Ended}
use Rattle.glare_core.specs.Standing.{peer_of, after, held, with_peer, peers_in}
use Rattle.glare_core.specs.Ledger.{PeerRow, row_or_blank}
use Rattle.glare_core.proofs.Tails.{same_end}
use Rattle.fact_digest.specs.Roll.{Rolled, IsOfFacts}
use Rattle.endpoint_laws.specs.Past.{fact_and}
use Rattle.log_digest.specs.Digest.{held_before}
use Rattle.log_verdict.specs.Checks.{is_kept, kept_with}

abbrev one : Bool → ℕ
one b = cond b 1 0

-- ---- lists of peers in which none stands twice

abbrev Differ : List (List ℕ) → Type 0
Differ [] = Unit {0}
Differ (x ∷ xs) = (list_any (bytes_eq x) xs ≡ false) × Differ xs

with_differ : (peer : List ℕ) (peers : List (List ℕ)) → Differ peers → Differ (with_peer peer peers)
with_differ peer peers d = elim (cases_Bool (list_any (bytes_eq peer) peers)) [ inl here ↦ rw here d | inr gone ↦ rw gone (gone, d) ]

peers_differ : (facts : List Fact) → Differ (peers_in facts)
peers_differ [] = tt
peers_differ (Started peer n near ni ∷ earlier) = with_differ peer (peers_in earlier) (peers_differ earlier)
peers_differ (Born j ∷ earlier) = with_differ j.peer (peers_in earlier) (peers_differ earlier)
peers_differ (Opened j ∷ earlier) = peers_differ earlier
peers_differ (Confirmed peer near ∷ earlier) = peers_differ earlier
peers_differ (Ended peer near why ∷ earlier) = peers_differ earlier

-- ---- how many of them pass a test that changes for one of them alone

length_cond : (b : Bool) (x : List ℕ) (xs : List (List ℕ)) → length (cond b (x ∷ xs) xs) ≡ one b + length xs
length_cond true x xs = omega arith
length_cond false x xs = omega arith

module _ (p q : List ℕ → Bool) (peer : List ℕ) (beside : (x : List ℕ) → bytes_eq peer x ≡ false → q x ≡ p x) where
  none_changes : (xs : List (List ℕ)) → list_any (bytes_eq peer) xs ≡ false → filter q xs ≡ filter p xs
  none_changes [] none = refl
  none_changes (x ∷ xs) none = elim (same_end peer x) [
    | inl d ↦ absurd (let clash = rw d.1 at none in cc)
    | inr d ↦ rw (beside x d.1, none_changes xs (rw d.1 at none)) refl
  ]

  at_head : (xs : List (List ℕ)) → list_any (bytes_eq peer) xs ≡ false → length (filter q (peer ∷ xs)) + one (p peer) ≡ length (filter p (peer ∷ xs)) + one (q peer)
  at_head xs none = omega (arith, length_cond (q peer) peer (filter q xs), length_cond (p peer) peer (filter p xs), ap length (none_changes xs none))

  one_changes : (xs : List (List ℕ)) → Differ xs → list_any (bytes_eq peer) xs ≡ true → length (filter q xs) + one (p peer) ≡ length (filter p xs) + one (q peer)
  one_changes [] differ here = absurd cc
  one_changes (x ∷ xs) differ here = elim (same_end peer x) [
    | inl d ↦ subst (λ (y : List ℕ). length (filter q (y ∷ xs)) + one (p peer) ≡ length (filter p (y ∷ xs)) + one (q peer)) d.0
        (at_head xs (subst (λ (y : List ℕ). list_any (bytes_eq y) xs ≡ false) (sym d.0) differ.0))
    | inr d ↦ omega (arith, length_cond (q x) x (filter q xs), length_cond (p x) x (filter p xs), ap one (beside x d.1), one_changes xs differ.1 (rw d.1 at here))
  ]

-- ---- one more fact

-- It adds no peer but its own, and that only where it isn't there.
same_peers : (fact : Fact) (facts : List Fact) → list_any (bytes_eq (peer_of fact)) (peers_in facts) ≡ true → peers_in (fact ∷ facts) ≡ peers_in facts
same_peers (Started peer n near ni) facts here = rw here refl
same_peers (Born j) facts here = rw here refl
same_peers (Opened j) facts here = refl
same_peers (Confirmed peer near) facts here = refl
same_peers (Ended peer near why) facts here = refl

unkept_added : (test : List ℕ → Bool) (peer : List ℕ) (peers : List (List ℕ)) → list_any (bytes_eq peer) peers ≡ false → test peer ≡ false → filter test (with_peer peer peers) ≡ filter test peers
unkept_added test peer peers gone unkept = rw (gone, unkept) refl

new_unkept : (test : List ℕ → Bool) (fact : Fact) (facts : List Fact) → list_any (bytes_eq (peer_of fact)) (peers_in facts) ≡ false → test (peer_of fact) ≡ false → filter test (peers_in (fact ∷ facts)) ≡ filter test (peers_in facts)
new_unkept test (Started peer n near ni) facts gone unkept = unkept_added test peer (peers_in facts) gone unkept
new_unkept test (Born j) facts gone unkept = unkept_added test j.peer (peers_in facts) gone unkept
new_unkept test (Opened j) facts gone unkept = refl
new_unkept test (Confirmed peer near) facts gone unkept = refl
new_unkept test (Ended peer near why) facts gone unkept = refl

-- With a peer with which nothing is held, no fact makes a kept session at once.
begins_unkept : (fact : Fact) → is_kept (after fact None) ≡ false
begins_unkept (Started peer n near ni) = refl
begins_unkept (Born j) = refl
begins_unkept (Opened j) = refl
begins_unkept (Confirmed peer near) = refl
begins_unkept (Ended peer near why) = refl

blank_row : (o : Option PeerRow) → is_some o ≡ false → (row_or_blank o).held ≡ None
blank_row None e = refl
blank_row (Some row) e = absurd cc

held_after : (fact : Fact) (facts : List Fact) → held (peer_of fact) (fact ∷ facts) ≡ after fact (held (peer_of fact) facts)
held_after fact facts = elim (same_end (peer_of fact) (peer_of fact)) [ inl d ↦ rw d.1 refl | inr d ↦ absurd (d.0 refl) ]

held_beside : (fact : Fact) (facts : List Fact) (x : List ℕ) → bytes_eq (peer_of fact) x ≡ false → is_kept (held x (fact ∷ facts)) ≡ is_kept (held x facts)
held_beside fact facts x other = rw other refl

module _ (facts : List Fact) (r : Rolled) (is : IsOfFacts facts r) where
  unknown : (peer : List ℕ) → list_any (bytes_eq peer) (peers_in facts) ≡ false → held peer facts ≡ None
  unknown peer gone = sym (is.held_is peer) ∙ blank_row (get r.rows peer) (is.row_is peer ∙ gone)

  one_more : (fact : Fact) → kept_with (fact ∷ facts) + one (is_kept (held (peer_of fact) facts)) ≡ kept_with facts + one (is_kept (held (peer_of fact) (fact ∷ facts)))
  one_more fact = elim (cases_Bool (list_any (bytes_eq (peer_of fact)) (peers_in facts))) [
    | inl here ↦ subst (λ (peers : List (List ℕ)). length (filter new peers) + one (old (peer_of fact)) ≡ length (filter old (peers_in facts)) + one (new (peer_of fact))) (sym (same_peers fact facts here))
        (one_changes old new (peer_of fact) (held_beside fact facts) (peers_in facts) (peers_differ facts) here)
    | inr gone ↦
        let none : held (peer_of fact) facts ≡ None = unknown (peer_of fact) gone in
        let unkept : new (peer_of fact) ≡ false = ap is_kept (held_after fact facts ∙ ap (after fact) none) ∙ begins_unkept fact in
        omega (arith, ap length (new_unkept new fact facts gone unkept), ap length (none_changes old new (peer_of fact) (held_beside fact facts) (peers_in facts) gone), ap one unkept, ap (λ o. one (is_kept o)) none)
  ]
    where
      old : List ℕ → Bool
      old peer = is_kept (held peer facts)

      new : List ℕ → Bool
      new peer = is_kept (held peer (fact ∷ facts))

  -- There are no more than there are peers.
  pub kept_few : kept_with facts ≤ len r.rows
  kept_few = omega (arith, is.rows_are, length-filter (λ peer. is_kept (held peer facts)) (peers_in facts), count_by-le-length (λ peer. is_kept (held peer facts)) (peers_in facts))

  -- With an entry it changes by what is held with the peer of its fact before and after.
  kept_more : (o : Option Fact) (s : Rolled) → IsOfFacts (fact_and o facts) s → kept_with (fact_and o facts) + one (is_kept (held_before o r)) ≡ kept_with facts + one (is_kept (held_before o s))
  kept_more None s then = refl
  kept_more (Some fact) s then = omega (arith, one_more fact, ap (λ o. one (is_kept o)) (is.held_is (peer_of fact)), ap (λ o. one (is_kept o)) (then.held_is (peer_of fact)))

  -- So the count goes on, where it was right before.
  pub kept_on : (o : Option Fact) (s : Rolled) → IsOfFacts (fact_and o facts) s → (kept : ℕ) (before later : Bool) → kept ≡ kept_with facts → before ≡ is_kept (held_before o r) → later ≡ is_kept (held_before o s) →
      kept_with (fact_and o facts) + cond before 1 0 ≡ kept + cond later 1 0
  kept_on o s then kept before later is_count was will = omega (arith, kept_more o s then, is_count, ap one was, ap one will)
