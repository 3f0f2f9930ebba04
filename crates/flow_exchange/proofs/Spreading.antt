-- The spans of a receiver, chunk by chunk.
use Rattle.std.proofs.Common.{◌≡◌, ◌≢◌, ℕ, ◌+◌, ◌<◌, ◌≤◌, ◌==◌, nat_le, not, cond, Bool, true, false, ◌&&◌, ◌||◌, List, [], ◌∷◌, refl, ap, sym, ◌∙◌, arith, inl, inr}
use Rattle.std.proofs.lemmas.Bool.{cases_lt, le-leb, lt-leb, ne_eqb}
use Rattle.std.proofs.lemmas.Bool.Decides.{nat_tests}
use Rattle.flow_recv.specs.declared.spans.Span.{Span}
use Rattle.rtmfp_data_chunks.specs.Runs.{Chunk, Number, Missing, Held, GivenUp, changed_by, first_change, number_of, is_missing, missing_of, highest, through, through_of}
use Rattle.flow_recv.specs.Receiver.{Apart, FromZero, covers, knows, lacks, end_of_first}
use Rattle.rtmfp_data_chunks.specs.HandsOver.{IsIn}
use Rattle.flow_exchange.proofs.Ready.{through_none, through_greatest, zero_known}

-- what is missing after a chunk
missing_if : (c : Chunk) (n : ℕ) (a b d : Bool) → is_missing (cond a (cond b GivenUp (Held c.part c.bytes)) (cond d GivenUp Missing)) ≡ not (a || d)
missing_if c n true true d = refl
missing_if c n true false d = refl
missing_if c n false b true = refl
missing_if c n false b false = refl

missing_first : (v w : Number) → is_missing (first_change v w) ≡ (is_missing v && is_missing w)
missing_first Missing w = refl
missing_first (Held p b) w = refl
missing_first GivenUp w = refl

pub missing_after : (c : Chunk) (earlier : List Chunk) (n : ℕ) → missing_of (c ∷ earlier) n ≡ (missing_of earlier n && not ((n == c.seq) || nat_le n c.forward))
unfolding number_of
missing_after c earlier n =
    missing_first (number_of earlier n) (changed_by c n) ∙ ap (λ x. is_missing (number_of earlier n) && x) (missing_if c n (n == c.seq) c.abandon (nat_le n c.forward))

-- above the highest taken number all is missing
pub high_missing : (chunks : List Chunk) (n : ℕ) → ((c : Chunk) → IsIn c chunks → c.forward ≤ c.seq) → highest chunks < n → number_of chunks n ≡ Missing
unfolding number_of
high_missing [] n h lt = rw (ne_eqb n 0 (λ e. omega (arith, e, lt))) refl
high_missing (c ∷ earlier) n h lt =
    let ih = high_missing earlier n (λ d k. h d (inr k)) (omega (arith, lt)) in
    let low = h c (inl refl) in
    let a : (n == c.seq) ≡ false = ne_eqb n c.seq (λ e. omega (arith, e, lt)) in
    let b : nat_le n c.forward ≡ false = lt-leb n c.forward (omega (arith, lt, low)) in
    ap (λ v. first_change v (changed_by c n)) ih ∙ (rw (a, b) refl)

missing_is : (v : Number) → is_missing v ≡ true → v ≡ Missing
missing_is Missing e = refl
missing_is (Held p b) e = absurd cc
missing_is GivenUp e = absurd cc

missing_not : (v : Number) → is_missing v ≡ false → v ≢ Missing
missing_not v e f = let x : true ≡ false = sym (ap is_missing f) ∙ e in cc

knows_low : (s : Span) (later : List Span) (n : ℕ) → s.first ≡ 0 → n ≤ s.last → lacks (s ∷ later) n ≡ false
knows_low s later n z le =
    let c : covers n s ≡ true = let a : nat_le s.first n ≡ true = le-leb s.first n (omega (arith, z)) in let b : nat_le n s.last ≡ true = le-leb n s.last le in (rw (a, b) refl) in
    ap (λ x. not (x || knows later n)) c

not_known : (later : List Span) (n : ℕ) → ((t : Span) → IsIn t later → n < t.first) → knows later n ≡ false
not_known [] n h = refl
not_known (s ∷ later) n h =
    let c : covers n s ≡ false = let a : nat_le s.first n ≡ false = lt-leb s.first n (h s (inl refl)) in (rw a refl) in
    ap (λ x. x || knows later n) c ∙ not_known later n (λ t k. h t (inr k))

lacks_next : (s : Span) (later : List Span) → s.first ≤ s.last → ((t : Span) → IsIn t later → s.last + 1 < t.first) → lacks (s ∷ later) (s.last + 1) ≡ true
lacks_next s later le h =
    let c : covers (s.last + 1) s ≡ false = let b : nat_le (s.last + 1) s.last ≡ false = lt-leb (s.last + 1) s.last (omega arith) in grind (arith, nat_tests) in
    ap (λ x. not (x || knows later (s.last + 1))) c ∙ ap not (not_known later (s.last + 1) h)

-- the end of the first span is the greatest number at or below which none is missing
pub end_is_through : (ss : List Span) (chunks : List Chunk) → ((c : Chunk) → IsIn c chunks → c.forward ≤ c.seq) → Apart ss → FromZero ss → ((n : ℕ) → lacks ss n ≡ missing_of chunks n) → end_of_first ss ≡ through_of chunks
end_is_through [] chunks h a z e = absurd z
end_is_through (s ∷ later) chunks h a z e =
    let f = number_of chunks in
    let top = highest chunks in
    let known : (k : ℕ) → k ≤ s.last → f k ≢ Missing = λ k le. missing_not (f k) (sym (e k) ∙ knows_low s later k z le) in
    let low : s.last ≤ top = elim (cases_lt top s.last) [ inl l ↦ absurd (known s.last (omega arith) (high_missing chunks s.last h l)) | inr l ↦ l ] in
    let ge : s.last ≤ through f top = through_greatest f top s.last low known in
    let next : f (s.last + 1) ≡ Missing = missing_is (f (s.last + 1)) (sym (e (s.last + 1)) ∙ lacks_next s later a.0 a.1) in
    let le : through f top ≤ s.last = elim (cases_lt s.last (through f top)) [
      | inl l ↦ absurd (through_none f top (s.last + 1) (zero_known chunks) (omega (arith, l)) next)
      | inr l ↦ l
    ] in
    omega (arith, ge, le)
