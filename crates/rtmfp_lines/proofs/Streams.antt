-- What was taken from a source and what a sink took, over several calls.
use Rattle.std.proofs.Common.{◌≡◌, ℕ, ◌≤◌, length, take, arith, List, [], ◌++◌, refl, sym, ap, ◌∙◌, append_assoc, append-nil, subst, Option, Some, None, inr}
use Rattle.std.proofs.lemmas.List.{take_at, length-append}
use Rattle.rtmfp_host.specs.Taking.{Consumes}
use Rattle.rtmfp_host.specs.Writing.{Appends}
use Rattle.rtmfp_lines.specs.Pending.{Grows}
use Rattle.rtmfp_host.specs.Seen.{SourceSeen}
use Rattle.rtmfp_lines.specs.Reading.{Asks, HasRead, IsPart}

pub consumes_none : (o : Option (List ℕ)) → Consumes o o []
consumes_none None = refl
consumes_none (Some xs) = (xs, refl, refl)

pub consumes_more : (a b c : Option (List ℕ)) (x y : List ℕ) → Consumes a b x → Consumes b c y → Consumes a c (x ++ y)
consumes_more None None c x y p q = q
consumes_more None (Some b) c x y p q = absurd (cc)
consumes_more (Some a) None c x y p q = absurd (cc (p.2))
consumes_more (Some a) (Some b) c x y p q =
    let same : p.0 ≡ b = cc (p.2) in
    (q.0, p.1 ∙ ap (λ r. x ++ r) (sym (sym same) ∙ q.1) ∙ sym (append_assoc x y q.0), q.2)

pub appends_none : (o : Option (List ℕ)) → Appends o o []
appends_none None = tt
appends_none (Some xs) = sym (append-nil xs)

pub appends_more : (a b c : Option (List ℕ)) (x y : List ℕ) → Appends a b x → Appends b c y → Appends a c (x ++ y)
appends_more a b None x y p q = tt
appends_more a None (Some c) x y p q = absurd q
appends_more None (Some b) (Some c) x y p q = absurd p
appends_more (Some a) (Some b) (Some c) x y p q = q ∙ ap (λ s. s ++ y) p ∙ append_assoc a x y

-- more, and then nothing
pub appends_still : (a b c : Option (List ℕ)) (text : List ℕ) → Appends a b text → Appends b c [] → Appends a c text
appends_still a b c text p q = let P : List ℕ → Type 0 = λ xs. Appends a c xs in subst P (append-nil text) (appends_more a b c text [] p q)

pub has_read_more : (a b c : Option (List ℕ)) (old mid new : List ℕ) → HasRead a b old mid → Grows b c mid new → HasRead a c old new
has_read_more a b c old mid new p q = record {
  got = p.got ++ q.got;
  consumed = consumes_more a b c p.got q.got p.consumed q.consumed;
  joined = q.joined ∙ ap (λ xs. xs ++ q.got) p.joined ∙ append_assoc old p.got q.got;
}

-- a part of a line stood there, and a read gave more
pub asks_more : (limit : ℕ) (before after : SourceSeen) (left : Option (List ℕ)) (old part new : List ℕ) → IsPart limit part → after.asked ≡ left → Grows left after.left part new → Asks limit before after old new
asks_more limit before after left old part new is e grows =
    let P : Option (List ℕ) → Type 0 = λ o. Consumes o after.left grows.got in
    inr (record { part = part; got = grows.got; is_part = is; joined = grows.joined; consumed = subst P (sym e) grows.consumed })

-- what stood there, where more stands behind it
pub still_there : (before after : Option (List ℕ)) (xs old new : List ℕ) → xs ≡ old → Grows before after old new → take (length xs) new ≡ xs
still_there before after xs old new e grows = ap (take (length xs)) (grows.joined ∙ ap (λ ys. ys ++ grows.got) (sym e)) ∙ take_at xs grows.got (length xs) refl

pub not_shorter : (before after : Option (List ℕ)) (xs old new : List ℕ) → xs ≡ old → Grows before after old new → length xs ≤ length new
not_shorter before after xs old new e grows = omega (arith, ap length e, ap length grows.joined, length-append old grows.got)
