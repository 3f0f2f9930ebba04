-- Whole runs of held numbers are the queued messages.
use Rattle.std.proofs.Common.{◌≡◌, ℕ, zero, suc, ◌+◌, ◌-◌, ◌*◌, ◌<◌, ◌≤◌, List, ◌++◌, length, take, Option, Some, None, refl, ap, sym, ◌∙◌, subst, arith}
use Rattle.std.proofs.lemmas.List.{take_all}
use Rattle.std.proofs.Math.Seq.{take-add}
use Rattle.rtmfp_data_chunks.specs.declared.user_data.Part.{Part}
use Rattle.rtmfp_data_chunks.specs.declared.user_data.Part.TheVariants.{Whole, Begin, End, Middle}
use Rattle.rtmfp_data_chunks.specs.Fragments.{Message, Fragment, Spans, fragment_of, fragment_at, fragment_count, part_of, piece}
use Rattle.rtmfp_data_chunks.specs.Runs.{Number, Missing, Held, GivenUp}
use Rattle.flow_exchange.proofs.Ends.{open_with, open_at, whole_with, whole_at}
use Rattle.rtmfp_data_chunks.specs.HandsOver.{IsIn}
use Rattle.flow_exchange.proofs.Fragments.{Laid, count_covers, found, located, part_whole, part_begin, part_middle, part_end}

-- each number that is held has its fragment
abbrev pub HoldsFragments : List Message → (ℕ → Number) → Type 0
HoldsFragments qs s = (n : ℕ) (p : Part) (b : List ℕ) → s n ≡ Held p b → fragment_of qs n ≡ Some (record { part = p; bytes = b })

abbrev pub message : ℕ → List ℕ → Message
message n b = record { number = n; bytes = b }

pub message_eq : (n k : ℕ) (b d : List ℕ) → n ≡ k → b ≡ d → message n b ≡ message k d
message_eq n k b d e f = cc

-- the fragments up to one more, joined
pub join : (bytes : List ℕ) (k : ℕ) → take (1000 * k) bytes ++ piece bytes k ≡ take (1000 * (k + 1)) bytes
join bytes k =
    let e : 1000 * (k + 1) ≡ 1000 * k + 1000 = omega arith in
    rw e (sym (take-add (1000 * k) 1000 bytes))

pub first_piece : (bytes : List ℕ) → piece bytes 0 ≡ take (1000 * 1) bytes
first_piece bytes = join bytes 0

pub record OpenOf (qs : List Message) (n : ℕ) (m : Message) : Type 0 where
  pub whole : Message
  pub was_queued : IsIn whole qs
  pub number : m.number ≡ whole.number
  pub reached : whole.number ≤ n
  pub more : n + 1 < whole.number + fragment_count whole
  pub bytes : m.bytes ≡ take (1000 * (n - whole.number + 1)) whole.bytes

open_begin : (first : ℕ) (qs : List Message) (n : ℕ) (b : List ℕ) (m : Message) → Laid first qs
    → fragment_of qs n ≡ Some (record { part = Begin; bytes = b }) → record { number = n; bytes = b } ≡ m → OpenOf qs n m
open_begin first qs n b m laid f e =
    let l = located qs n (record { part = Begin; bytes = b }) f in
    let w = l.message in
    let part : part_of (fragment_count w) (n - w.number) ≡ Begin = sym (ap (λ (x : Fragment). x.part) l.is) in
    let at = part_begin (fragment_count w) (n - w.number) part (omega (arith, l.spans.0, l.spans.1)) in
    let bytes : b ≡ piece w.bytes (n - w.number) = ap (λ (x : Fragment). x.bytes) l.is in
    record {
      whole = w;
      was_queued = l.was_queued;
      number = sym (ap (λ (x : Message). x.number) e) ∙ omega (arith, at.0, l.spans.0);
      reached = l.spans.0;
      more = omega (arith, at.0, at.1, l.spans.0);
      bytes = sym (ap (λ (x : Message). x.bytes) e) ∙ (bytes ∙ (rw at.0 (first_piece w.bytes)));
    }

open_middle : (first : ℕ) (qs : List Message) (n : ℕ) (b : List ℕ) (before m : Message) → Laid first qs
    → fragment_of qs (suc n) ≡ Some (record { part = Middle; bytes = b }) → OpenOf qs n before
    → record { number = before.number; bytes = before.bytes ++ b } ≡ m → OpenOf qs (suc n) m
open_middle first qs n b before m laid f o e =
    let w = o.whole in
    let spans : Spans w (suc n) = (omega (arith, o.reached), omega (arith, o.more)) in
    let is : record { part = Middle; bytes = b } ≡ fragment_at w (suc n) = let g = found first qs w (suc n) laid o.was_queued spans in cc in
    let part : part_of (fragment_count w) (suc n - w.number) ≡ Middle = sym (ap (λ (x : Fragment). x.part) is) in
    let at = part_middle (fragment_count w) (suc n - w.number) part (omega (arith, spans.0, spans.1)) in
    let bytes : b ≡ piece w.bytes (suc n - w.number) = ap (λ (x : Fragment). x.bytes) is in
    let k : n - w.number + 1 ≡ suc n - w.number = omega (arith, o.reached) in
    record {
      whole = w;
      was_queued = o.was_queued;
      number = sym (ap (λ (x : Message). x.number) e) ∙ o.number;
      reached = spans.0;
      more = omega (arith, at.1, spans.0);
      bytes =
          sym (ap (λ (x : Message). x.bytes) e) ∙ (ap (λ x. x ++ b) (o.bytes ∙ ap (λ x. take (1000 * x) w.bytes) k)
          ∙ (ap (λ x. take (1000 * (suc n - w.number)) w.bytes ++ x) bytes ∙ join w.bytes (suc n - w.number)));
    }

open_is_with : (first : ℕ) (qs : List Message) (n : ℕ) (v : Number) (before : Option Message) (m : Message) → Laid first qs
    → ((p : Part) (b : List ℕ) → v ≡ Held p b → fragment_of qs (suc n) ≡ Some (record { part = p; bytes = b }))
    → ((x : Message) → before ≡ Some x → OpenOf qs n x)
    → open_with v (suc n) before ≡ Some m → OpenOf qs (suc n) m
open_is_with first qs n Missing before m laid f ih e = absurd cc
open_is_with first qs n GivenUp before m laid f ih e = absurd cc
open_is_with first qs n (Held Whole b) before m laid f ih e = absurd cc
open_is_with first qs n (Held End b) before m laid f ih e = absurd cc
open_is_with first qs n (Held Begin b) before m laid f ih e = open_begin first qs (suc n) b m laid (f Begin b refl) cc
open_is_with first qs n (Held Middle b) None m laid f ih e = absurd cc
open_is_with first qs n (Held Middle b) (Some x) m laid f ih e = open_middle first qs n b x m laid (f Middle b refl) (ih x refl) cc

-- what is open at a number is the front of a queued message that goes on
pub open_is : (first : ℕ) (qs : List Message) (s : ℕ → Number) (n : ℕ) (m : Message) → Laid first qs → HoldsFragments qs s → open_at s n ≡ Some m → OpenOf qs n m
unfolding open_at
open_is first qs s zero m laid h e = absurd cc
open_is first qs s (suc n) m laid h e = open_is_with first qs n (s (suc n)) (open_at s n) m laid (h (suc n)) (λ x. open_is first qs s n x laid h) e

pub record WholeOf (qs : List Message) (n : ℕ) (m : Message) : Type 0 where
  pub was_queued : IsIn m qs
  pub ends : n + 1 ≡ m.number + fragment_count m

whole_one : (first : ℕ) (qs : List Message) (n : ℕ) (b : List ℕ) (m : Message) → Laid first qs
    → fragment_of qs n ≡ Some (record { part = Whole; bytes = b }) → record { number = n; bytes = b } ≡ m → WholeOf qs n m
whole_one first qs n b m laid f e =
    let l = located qs n (record { part = Whole; bytes = b }) f in
    let w = l.message in
    let part : part_of (fragment_count w) (n - w.number) ≡ Whole = sym (ap (λ (x : Fragment). x.part) l.is) in
    let at = part_whole (fragment_count w) (n - w.number) part (omega (arith, l.spans.0, l.spans.1)) in
    let number : n ≡ w.number = omega (arith, at.0, l.spans.0) in
    let short : length w.bytes ≤ 1000 * 1 = omega (arith, (count_covers (length w.bytes)).1, at.1) in
    let bytes : b ≡ w.bytes = ap (λ (x : Fragment). x.bytes) l.is ∙ (rw at.0 (first_piece w.bytes ∙ take_all (1000 * 1) w.bytes short)) in
    let same : w ≡ m = message_eq w.number n w.bytes b (sym number) (sym bytes) ∙ e in
    let P : Message → Type 0 = λ x. WholeOf qs n x in
    subst P same (record { was_queued = l.was_queued; ends = omega (arith, number, at.1) })

whole_end : (first : ℕ) (qs : List Message) (n : ℕ) (b : List ℕ) (before m : Message) → Laid first qs
    → fragment_of qs (suc n) ≡ Some (record { part = End; bytes = b }) → OpenOf qs n before
    → record { number = before.number; bytes = before.bytes ++ b } ≡ m → WholeOf qs (suc n) m
whole_end first qs n b before m laid f o e =
    let w = o.whole in
    let spans : Spans w (suc n) = (omega (arith, o.reached), omega (arith, o.more)) in
    let is : record { part = End; bytes = b } ≡ fragment_at w (suc n) = let g = found first qs w (suc n) laid o.was_queued spans in cc in
    let part : part_of (fragment_count w) (suc n - w.number) ≡ End = sym (ap (λ (x : Fragment). x.part) is) in
    let at = part_end (fragment_count w) (suc n - w.number) part (omega (arith, spans.0, spans.1)) in
    let bytes : b ≡ piece w.bytes (suc n - w.number) = ap (λ (x : Fragment). x.bytes) is in
    let k : n - w.number + 1 ≡ suc n - w.number = omega (arith, o.reached) in
    let long : length w.bytes ≤ 1000 * (suc n - w.number + 1) = omega (arith, (count_covers (length w.bytes)).1, at.1) in
    let all : before.bytes ++ b ≡ w.bytes =
    ap (λ x. x ++ b) (o.bytes ∙ ap (λ x. take (1000 * x) w.bytes) k)
    ∙ (ap (λ x. take (1000 * (suc n - w.number)) w.bytes ++ x) bytes ∙ (join w.bytes (suc n - w.number) ∙ take_all (1000 * (suc n - w.number + 1)) w.bytes long)) in
    let same : w ≡ m = message_eq w.number before.number w.bytes (before.bytes ++ b) (sym o.number) (sym all) ∙ e in
    let P : Message → Type 0 = λ x. WholeOf qs (suc n) x in
    subst P same (record { was_queued = o.was_queued; ends = omega (arith, at.1, spans.0) })

whole_is_with : (first : ℕ) (qs : List Message) (n : ℕ) (v : Number) (before : Option Message) (m : Message) → Laid first qs
    → ((p : Part) (b : List ℕ) → v ≡ Held p b → fragment_of qs (suc n) ≡ Some (record { part = p; bytes = b }))
    → ((x : Message) → before ≡ Some x → OpenOf qs n x)
    → whole_with v (suc n) before ≡ Some m → WholeOf qs (suc n) m
whole_is_with first qs n Missing before m laid f ih e = absurd cc
whole_is_with first qs n GivenUp before m laid f ih e = absurd cc
whole_is_with first qs n (Held Whole b) before m laid f ih e = whole_one first qs (suc n) b m laid (f Whole b refl) cc
whole_is_with first qs n (Held Begin b) before m laid f ih e = absurd cc
whole_is_with first qs n (Held Middle b) before m laid f ih e = absurd cc
whole_is_with first qs n (Held End b) None m laid f ih e = absurd cc
whole_is_with first qs n (Held End b) (Some x) m laid f ih e = whole_end first qs n b x m laid (f End b refl) (ih x refl) cc

-- a whole run is a queued message
pub whole_is : (first : ℕ) (qs : List Message) (s : ℕ → Number) (n : ℕ) (m : Message) → Laid first qs → HoldsFragments qs s → whole_at s n ≡ Some m → WholeOf qs n m
unfolding whole_at
whole_is first qs s zero m laid h e = absurd cc
whole_is first qs s (suc n) m laid h e = whole_is_with first qs n (s (suc n)) (open_at s n) m laid (h (suc n)) (λ x. open_is first qs s n x laid h) e
