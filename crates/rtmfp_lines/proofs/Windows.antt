-- A window of a buffer: the bytes from a start up to an end.
use Rattle.std.proofs.Common.{◌≡◌, ℕ, zero, suc, ◌+◌, ◌-◌, ◌<◌, ◌≤◌, List, [], ◌∷◌, ◌++◌, length, take, drop, refl, sym, ap, ◌∙◌, arith, subst}
use Rattle.std.proofs.lemmas.List.{take_at, length-take, length-take-le, length-drop, drop-drop, drop-take}
use Rattle.std.proofs.Math.Seq.{take-length, take-append-add}
use Rattle.std.specs.Prelude.{Option}
use Rattle.rtmfp_host.specs.Taking.{Takes}
use Rattle.rtmfp_host.specs.declared.source.Taken.TheVariants.{Done}
use Rattle.rtmfp_lines.specs.Pending.{Behind, Grows}

-- a window is what is behind the start of the bytes before the end
pub window : (start end : ℕ) (xs : List ℕ) → start ≤ end → take (end - start) (drop start xs) ≡ drop start (take end xs)
window start end xs le =
    let e : end ≡ start + (end - start) = omega arith in
    sym (ap (λ n. drop start (take n xs)) e ∙ drop-take start (end - start) xs)

-- a window whose start moves on
pub window-later : (start end count : ℕ) (xs : List ℕ) → start + count ≤ end →
    take (end - (start + count)) (drop (start + count) xs) ≡ drop count (take (end - start) (drop start xs))
window-later start end count xs le =
    window (start + count) end xs le
    ∙ sym (drop-drop count start (take end xs))
    ∙ ap (drop count) (sym (window start end xs (omega arith)))

drop-append : (n : ℕ) (a b : List ℕ) → n ≤ length a → drop n (a ++ b) ≡ drop n a ++ b
drop-append zero a b le = refl
drop-append (suc n) [] b le = absurd (omega arith)
drop-append (suc n) (x ∷ a) b le = drop-append n a b (omega arith)

-- a window whose end moves on, over bytes that were read there
pub window-grows : (start end count : ℕ) (old new got : List ℕ) → start ≤ end → end ≤ length old → take (end + count) new ≡ take end old ++ got →
    take (end + count - start) (drop start new) ≡ take (end - start) (drop start old) ++ got
window-grows start end count old new got le within e =
    window start (end + count) new (omega arith)
    ∙ ap (drop start) e
    ∙ drop-append start (take end old) got (omega (arith, length-take end old))
    ∙ ap (λ xs. xs ++ got) (sym (window start end old le))

-- a window over bytes that stay
pub window-same : (start end : ℕ) (old new : List ℕ) → start ≤ end → take end new ≡ take end old → take (end - start) (drop start new) ≡ take (end - start) (drop start old)
window-same start end old new le e = window start end new le ∙ ap (drop start) e ∙ sym (window start end old le)

pub grows : (before after : Option (List ℕ)) (start end count : ℕ) (old new : List ℕ) → start ≤ end → end ≤ length old → Behind before after end count old new →
    Grows before after (take (end - start) (drop start old)) (take (end + count - start) (drop start new))
grows before after start end count old new le within behind =
    record { got = behind.got; some = omega (arith, behind.some, behind.size); consumed = behind.consumed; joined = window-grows start end count old new behind.got le within behind.joined }

-- a slice of a whole vector that was written to is what the vector holds then
pub written_back : (n : ℕ) (new old : List ℕ) → n ≡ length old → length new ≡ length old → take n (new ++ drop (length new) old) ≡ new
written_back n new old size same = take_at new (drop (length new) old) n (omega arith)

-- a slice from a start up to the end is what is behind the start
pub to_the_end : (n : ℕ) (xs : List ℕ) → take (length xs - n) (drop n xs) ≡ drop n xs
to_the_end n xs = ap (λ k. take k (drop n xs)) (sym (length-drop n xs)) ∙ take-length (drop n xs)

-- a read into the room behind an end
pub behind_read : (before after : Option (List ℕ)) (end count : ℕ) (old buf : List ℕ) → end < length old → length buf ≡ length old - end → Takes before after (Done count) buf →
    Behind before after end count old (take end old ++ buf)
behind_read before after end count old buf lt size taken =
    let front : length (take end old) ≡ end = length-take-le end old (omega arith) in
    record {
      got = take count buf;
      some = taken.0;
      size = length-take-le count buf taken.1;
      fits = omega (arith, taken.1, size);
      consumed = taken.2;
      joined = (let e : end + count ≡ length (take end old) + count = omega (arith, front) in ap (λ n. take n (take end old ++ buf)) e) ∙ take-append-add (take end old) buf count;
    }

pub behind_kept : (end : ℕ) (old buf : List ℕ) → end < length old → take end (take end old ++ buf) ≡ take end old
behind_kept end old buf lt = take_at (take end old) buf end (length-take-le end old (omega arith))

-- a whole vector, lent as a slice, and the window that is seen of it
pub record IsLent (len start end : ℕ) (items old own : List ℕ) : Type 0 where
  pub size : len ≡ length items
  pub value : old ≡ items
  pub ordered : start ≤ end
  pub within : end ≤ length items
  pub seen : take (end - start) (drop start items) ≡ own

stored : (len start end : ℕ) (items old own new : List ℕ) → IsLent len start end items old own → length new ≡ length old → take len (new ++ drop (length new) items) ≡ new
stored len start end items old own new is same = written_back len new items is.size (same ∙ ap length is.value)

pub fill_done : (before after : Option (List ℕ)) (len start end count : ℕ) (items old own new : List ℕ) → IsLent len start end items old own → length new ≡ length old →
    Behind before after end count old new → Grows before after own (take (end + count - start) (drop start (take len (new ++ drop (length new) items))))
fill_done before after len start end count items old own new is same behind =
    let P : List ℕ → Type 0 = λ xs. Behind before after end count xs new in
    let found = grows before after start end count items new is.ordered is.within (subst P is.value behind) in
    let Q : List ℕ → Type 0 = λ xs. Grows before after own (take (end + count - start) (drop start xs)) in
    let R : List ℕ → Type 0 = λ xs. Grows before after xs (take (end + count - start) (drop start new)) in
    subst Q (sym (stored len start end items old own new is same)) (subst R is.seen found)

pub fill_kept : (len start end : ℕ) (items old own new : List ℕ) → IsLent len start end items old own → length new ≡ length old → take end new ≡ take end old →
    take (end - start) (drop start (take len (new ++ drop (length new) items))) ≡ own
fill_kept len start end items old own new is same kept =
    ap (λ xs. take (end - start) (drop start xs)) (stored len start end items old own new is same)
    ∙ window-same start end items new is.ordered (kept ∙ ap (take end) is.value)
    ∙ is.seen
