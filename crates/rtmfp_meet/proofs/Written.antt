-- What a sink took in several writes.
use Rattle.std.proofs.Common.{◌≡◌, ℕ, zero, suc, List, [], ◌∷◌, ◌++◌, length, take, refl, sym, ap, ◌∙◌, append_assoc, append-nil, subst, Option}
use Rattle.std.proofs.Math.Seq.{take-length}
use Rattle.std.specs.Prelude.{codes}
use Rattle.rtmfp_host.specs.Faults.{CountsWrote, Rose}
use Rattle.rtmfp_host.specs.Seen.{SinkSeen}
use Rattle.rtmfp_host.specs.Writing.{Appends, Passes, Writes}
use Rattle.rtmfp_host.specs.declared.sink.Wrote.{Wrote}
use Rattle.rtmfp_host.specs.declared.sink.Wrote.TheVariants.{Done, Failed}
use Rattle.rtmfp_lines.specs.Lines.{lines_of}
use Rattle.rtmfp_lines.specs.Reading.{Splits}
use Rattle.rtmfp_lines.proofs.Streams.{appends_more, appends_still}
use Rattle.rtmfp_meet.specs.declared.node.Node.{Node}
use Rattle.rtmfp_meet.specs.Nodes.{behind, marked, prefix_of}
use Rattle.rtmfp_meet.specs.Steps.{HandsOver}

-- ---- a first part of the bytes

-- a first part of the front is one of the whole
pub cut_front : (k : ℕ) (xs ys : List ℕ) → (n : ℕ) × (take n (xs ++ ys) ≡ take k xs)
cut_front zero xs ys = (0, refl)
cut_front (suc k) [] ys = (0, refl)
cut_front (suc k) (x ∷ xs) ys = let cut = cut_front k xs ys in (suc cut.0, ap (λ zs. x ∷ zs) cut.1)

-- the front, and a first part of the rest
pub cut_rest : (k : ℕ) (xs ys : List ℕ) → (n : ℕ) × (take n (xs ++ ys) ≡ xs ++ take k ys)
cut_rest k [] ys = (k, refl)
cut_rest k (x ∷ xs) ys = let cut = cut_rest k xs ys in (suc cut.0, ap (λ zs. x ∷ zs) cut.1)

-- ---- writes

-- a write failed, and nothing behind it was written
pub cut_there : (a b : Option (List ℕ)) (xs ys : List ℕ) → Writes a b Failed xs → Writes a b Failed (xs ++ ys)
cut_there a b xs ys writes =
    let cut = cut_front writes.0 xs ys in
    let P : List ℕ → Type 0 = λ zs. Appends a b zs in
    (cut.0, subst P (sym cut.1) writes.1)

-- bytes were written, and then more, or a part of it
pub write_then : (r : Wrote) (a b c : Option (List ℕ)) (xs ys : List ℕ) → Appends a b xs → Writes b c r ys → Writes a c r (xs ++ ys)
write_then Done a b c xs ys first writes = appends_more a b c xs ys first writes
write_then Failed a b c xs ys first writes =
    let cut = cut_rest writes.0 xs ys in
    let P : List ℕ → Type 0 = λ zs. Appends a c zs in
    (cut.0, subst P (sym cut.1) (appends_more a b c xs (take writes.0 ys) first writes.1))

-- all of it, as a part
pub whole_part : (a b : Option (List ℕ)) (xs : List ℕ) → Appends a b xs → (k : ℕ) × Appends a b (take k xs)
whole_part a b xs first = let P : List ℕ → Type 0 = λ zs. Appends a b zs in (length xs, subst P (sym (take-length xs)) first)

-- ---- lines

pub record Written (prefix text rest : List ℕ) (before after : SinkSeen) : Type 0 where
  pub done : List (List ℕ)
  pub split : lines_of text ≡ done ++ lines_of rest
  pub written : Appends before.written after.written (behind prefix done)
  pub faults : after.faults ≡ before.faults

behind-append : (prefix : List ℕ) (xs ys : List (List ℕ)) → behind prefix (xs ++ ys) ≡ behind prefix xs ++ behind prefix ys
behind-append prefix [] ys = refl
behind-append prefix (x ∷ xs) ys =
    let line : List ℕ = prefix ++ (x ++ codes "\n") in
    ap (λ zs. line ++ zs) (behind-append prefix xs ys) ∙ sym (append_assoc line (behind prefix xs) (behind prefix ys))

behind-one : (prefix line : List ℕ) → behind prefix (line ∷ []) ≡ prefix ++ (line ++ codes "\n")
behind-one prefix line = append-nil (prefix ++ (line ++ codes "\n"))

-- one line more
pub written_more : (prefix text rest line later : List ℕ) (before mid after : SinkSeen) → Written prefix text rest before mid → Splits rest line later →
    Appends mid.written after.written (prefix ++ (line ++ codes "\n")) → after.faults ≡ mid.faults → Written prefix text later before after
written_more prefix text rest line later before mid after so splits wrote same =
    let P : List ℕ → Type 0 = λ zs. Appends before.written after.written zs in
    let bytes : behind prefix (so.done ++ line ∷ []) ≡ behind prefix so.done ++ (prefix ++ (line ++ codes "\n")) =
    behind-append prefix so.done (line ∷ []) ∙ ap (λ zs. behind prefix so.done ++ zs) (behind-one prefix line) in
    record {
      done = so.done ++ line ∷ [];
      split = so.split ∙ ap (λ ls. so.done ++ ls) splits.lines ∙ sym (append_assoc so.done (line ∷ []) (lines_of later));
      written = subst P (sym bytes) (appends_more before.written mid.written after.written (behind prefix so.done) (prefix ++ (line ++ codes "\n")) so.written wrote);
      faults = same ∙ so.faults;
    }

-- a part of a line more
pub written_part : (prefix text rest line later : List ℕ) (before mid after : SinkSeen) → Written prefix text rest before mid → Splits rest line later →
    Writes mid.written after.written Failed (prefix ++ (line ++ codes "\n")) → Writes before.written after.written Failed (behind prefix (lines_of text))
written_part prefix text rest line later before mid after so splits wrote =
    let P : List ℕ → Type 0 = λ zs. Writes before.written after.written Failed zs in
    let piece : List ℕ = prefix ++ (line ++ codes "\n") in
    let bytes : behind prefix (lines_of text) ≡ behind prefix so.done ++ (piece ++ behind prefix (lines_of later)) =
    ap (behind prefix) so.split
    ∙ behind-append prefix so.done (lines_of rest)
    ∙ ap (λ ls. behind prefix so.done ++ behind prefix ls) splits.lines in
    subst P (sym bytes) (write_then Failed before.written mid.written after.written (behind prefix so.done) (piece ++ behind prefix (lines_of later)) so.written
    (cut_there mid.written after.written piece (behind prefix (lines_of later)) wrote))

-- all lines were written, and were passed on or not
pub handed : (r : Wrote) (node : Node) (text prefix : List ℕ) (before mid after : SinkSeen) → prefix ≡ prefix_of node → Appends before.written mid.written (behind prefix (lines_of text)) → mid.faults ≡ before.faults →
    Appends mid.written after.written [] → Passes r after.written after.passed → CountsWrote r mid.faults after.faults → HandsOver r (marked node text) before after
handed Done node text prefix before mid after same wrote calm kept passes counts =
    let P : List ℕ → Type 0 = λ p. Appends before.written after.written (behind p (lines_of text)) in
    (subst P same (appends_still before.written mid.written after.written (behind prefix (lines_of text)) wrote kept), counts ∙ calm, passes)
handed Failed node text prefix before mid after same wrote calm kept passes counts =
    let P : List ℕ → Type 0 = λ p. (k : ℕ) × Appends before.written after.written (take k (behind p (lines_of text))) in
    let Q : ℕ → Type 0 = λ n. Rose n after.faults in
    (subst P same (whole_part before.written after.written (behind prefix (lines_of text)) (appends_still before.written mid.written after.written (behind prefix (lines_of text)) wrote kept)), subst Q calm counts.0)
