-- The pairs of an ack tell of the spans.
use Rattle.std.proofs.Common.{◌≡◌, ℕ, ◌+◌, ◌-◌, ◌^◌, ◌<◌, ◌≤◌, ◌==◌, nat_lt, nat_le, cond, not, Bool, true, false, ◌&&◌, ◌||◌, List, [], ◌∷◌, ◌++◌, length, refl, ap, sym, subst, arith, inl, inr, ◌⊎◌}
use Rattle.std.proofs.lemmas.Bool.{eqb-true, leb-true, le-leb}
use Rattle.rtmfp_vlu.specs.Vlu.{VluSpells, vlu}
use Rattle.rtmfp_vlu.proofs.Shortest.{VluSpells-vlu}
use Rattle.rtmfp_data_chunks.specs.Acks.{PairsTell}
use Rattle.rtmfp_data_chunks.specs.Fields.{NumbersSpell}
use Rattle.rtmfp_data_chunks.specs.Runs.{Chunk}
use Rattle.flow_recv.specs.declared.spans.Span.{Span}
use Rattle.flow_recv.specs.Receiver.{Receiver, Apart, span, covers, knows, spans_after, taken}
use Rattle.flow_recv.specs.Acking.{pair_bytes, pairs_in, spans_in}
use Rattle.flow_recv.proofs.Knowing.{Formed, lacks_after}
use Rattle.flow_recv.proofs.Pairs.{next_span}

-- each number of the spans has 64 bits
abbrev pub AllFit : List Span → Type 0
AllFit [] = Unit {0}
AllFit (s ∷ later) = (s.last < 2 ^ 64) × AllFit later

pair_spells : (after : ℕ) (s : Span) → s.first ≤ s.last → s.last < 2 ^ 64 → NumbersSpell ((s.first - (after + 2)) ∷ (s.last - s.first) ∷ []) (pair_bytes after s)
pair_spells after s up fit =
    let e : s.first - after - 2 ≡ s.first - (after + 2) = omega arith in
    let f : s.first - (after + 2) < 2 ^ 64 = omega (arith, up, fit) in
    let a : VluSpells (s.first - (after + 2)) (vlu (s.first - after - 2)) = subst (λ (n : ℕ). VluSpells (s.first - (after + 2)) (vlu n)) (sym e) (VluSpells-vlu (s.first - (after + 2)) f) in
    (vlu (s.first - after - 2), vlu (s.last - s.first), a, refl, (vlu (s.last - s.first), [], VluSpells-vlu (s.last - s.first) (omega (arith, fit)), sym (append_nil (vlu (s.last - s.first))), refl))
  where
    append_nil : (xs : List ℕ) → xs ++ [] ≡ xs
    append_nil [] = refl
    append_nil (x ∷ xs) = ap (λ ys. x ∷ ys) (append_nil xs)

tell_if : (room after : ℕ) (s : Span) (later : List Span) (t : Bool) → after + 1 < s.first → s.first ≤ s.last → s.last < 2 ^ 64
    → PairsTell s.last (spans_in (room - length (pair_bytes after s)) s.last later) (pairs_in (room - length (pair_bytes after s)) s.last later)
    → PairsTell after (cond t [] ((s.first, s.last) ∷ spans_in (room - length (pair_bytes after s)) s.last later)) (cond t [] (pair_bytes after s ++ pairs_in (room - length (pair_bytes after s)) s.last later))
tell_if room after s later true lo up fit ih = refl
tell_if room after s later false lo up fit ih =
    (pair_bytes after s, pairs_in (room - length (pair_bytes after s)) s.last later, refl, omega (arith, lo), up, fit, pair_spells after s up fit, ih)

pub pairs_tell : (room after : ℕ) (above : List Span) → Apart (span 0 after ∷ above) → AllFit above → PairsTell after (spans_in room after above) (pairs_in room after above)
pairs_tell room after [] a f = refl
pairs_tell room after (s ∷ later) a f =
    let n = next_span after s later a in
    tell_if room after s later (nat_lt room (length (pair_bytes after s))) n.above n.order f.0 (pairs_tell (room - length (pair_bytes after s)) s.last later n.rest f.1)

or_left : (a b : Bool) → a ≡ true → (a || b) ≡ true
or_left true b e = refl
or_left false b e = absurd cc

or_right : (a b : Bool) → b ≡ true → (a || b) ≡ true
or_right true b e = refl
or_right false b e = e

last_known : (s : Span) (later : List Span) → s.first ≤ s.last → knows (s ∷ later) s.last ≡ true
last_known s later up = or_left (covers s.last s) (knows later s.last) (rw (le-leb s.first s.last up, le-leb s.last s.last (omega arith)) refl)

-- what is known is at most a number of 64 bits
pub all_fit : (top : ℕ) (ss : List Span) → top < 2 ^ 64 → Formed ss → ((n : ℕ) → knows ss n ≡ true → n ≤ top) → AllFit ss
all_fit top [] lt f h = tt
all_fit top (s ∷ later) lt f h = (let g = h s.last (last_known s later f.0) in omega (arith, g, lt), all_fit top later lt f.1 (λ n k. h n (or_right (covers n s) (knows later n) k)))

known_cases : (k l q p : Bool) → not k ≡ (not l && not (q || p)) → k ≡ true → (l ≡ true) ⊎ ((q ≡ true) ⊎ (p ≡ true))
known_cases true true q p e f = inl refl
known_cases true false true p e f = inr (inl refl)
known_cases true false false true e f = inr (inr refl)
known_cases true false false false e f = absurd cc
known_cases false l q p e f = absurd cc

pub top_taken : (r : Receiver) (c : Chunk) → Formed r.spans → c.forward ≤ c.seq → ((n : ℕ) → knows r.spans n ≡ true → n ≤ r.highest) → (n : ℕ) → knows (spans_after r c) n ≡ true → n ≤ (taken r c).highest
top_taken r c formed low h n k = elim (known_cases (knows (spans_after r c) n) (knows r.spans n) (n == c.seq) (nat_le n c.forward) (lacks_after r c n formed) k) [
  | inl a ↦ let g = h n a in omega (arith, g)
  | inr a ↦ elim a [
    | inl e ↦ omega (arith, eqb-true n c.seq e)
    | inr le ↦ omega (arith, leb-true n c.forward le, low)
  ]
]
