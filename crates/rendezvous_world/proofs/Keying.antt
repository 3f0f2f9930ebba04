-- Whether a datagram was sent, by the datagrams with its key.
use Rattle.std.proofs.Common.{◌≡◌, ℕ, zero, suc, ◌+◌, ◌-◌, ◌<◌, ◌≤◌, ◌||◌, ◌&&◌, List, [], ◌∷◌, ◌++◌, map, length, min, take, drop, get_or, slice_get, Bool, true, false, Option, Some, None, refl, sym, ap, ◌∙◌, subst, arith, append-nil, append_assoc, length-append}
use Rattle.std.proofs.lemmas.List.{length-take, take-append-drop}
use Rattle.std.specs.List.{list_any}
use Rattle.std.specs.Str.{bytes_eq}
use Rattle.std.proofs.lemmas.Slice.Eq.{bytes_eq-Decides}
use Rattle.crypto_profile.specs.declared.keys.Context.{Context}
use Rattle.rendezvous_world.specs.Datagrams.{nth}
use Rattle.crypto_profile.specs.Keys.{same_context}
use Rattle.rendezvous_world.specs.Faults.{is_sent}
use Rattle.rendezvous_world.specs.Sent.{Sent}
use Rattle.rendezvous_world.specs.Keyed.{IsLast, key_of, AreKeys, is_one_sent}
use Rattle.rendezvous_world.proofs.Chained.{within}
use Rattle.rendezvous_world.proofs.Finding.{nth_front, nth_first, nth_later}

-- ---- keys of what was sent

pub keys_grow : (keys : List ℕ) (sent more : List Sent) → AreKeys keys sent → AreKeys keys (sent ++ more)
keys_grow [] sent more are = tt
keys_grow (key ∷ keys) [] more are = absurd are
keys_grow (key ∷ keys) (one ∷ sent) more are = (are.0, keys_grow keys sent more are.1)

pub keys_few : (keys : List ℕ) (sent : List Sent) → AreKeys keys sent → length keys ≤ length sent
keys_few [] sent are = omega arith
keys_few (key ∷ keys) [] are = absurd are
keys_few (key ∷ keys) (one ∷ sent) are = let few = keys_few keys sent are.1 in omega arith

pub one_more_key : (keys : List ℕ) (sent : List Sent) (one : Sent) → AreKeys keys sent → nth sent (length keys + 1) ≡ Some one → AreKeys (keys ++ key_of one.datagram ∷ []) sent
one_more_key [] [] one are there = absurd (cc)
one_more_key [] (x ∷ sent) one are there =
    let first : nth (x ∷ sent) (0 + 1) ≡ Some x = nth_first x sent (0 + 1) (omega arith) in
    let same : x ≡ one = cc in
    (ap (λ (s : Sent). key_of s.datagram) (sym same), tt)
one_more_key (key ∷ keys) [] one are there = absurd are
one_more_key (key ∷ keys) (x ∷ sent) one are there =
    let less : suc (length keys) + 1 - 1 ≡ length keys + 1 = omega arith in
    (are.0, one_more_key keys sent one are.1 (sym (nth_later x sent (suc (length keys) + 1) (omega arith) ∙ ap (nth sent) less) ∙ there))

-- ---- keys that are still to be noted

pub more_left : (keys : List ℕ) (sent : List Sent) (one : Sent) → AreKeys keys sent → nth sent (length keys + 1) ≡ Some one → length keys < length sent
more_left keys sent one are there =
    let few = keys_few (keys ++ key_of one.datagram ∷ []) sent (one_more_key keys sent one are there) in
    omega (arith, few, length-append keys (key_of one.datagram ∷ []))

pub last_below : (at last key : ℕ) (keys : List ℕ) → IsLast (Some last) key (take at keys) → last < at
last_below at last key keys is =
    let inside : last < length (take at keys) = within (take at keys) last key is.0 in
    omega (arith, inside, length-take at keys, min_at)
  where
    min_at : min at (length keys) ≤ at
    min_at = grind arith

-- how many indices are to be looked at, at most
abbrev pub count_left : Option ℕ → ℕ
count_left None = 0
count_left (Some at) = at + 1

pub fewer_left : (before : Option ℕ) (at key : ℕ) (keys : List ℕ) → IsLast before key (take at keys) → count_left before < count_left (Some at)
fewer_left None at key keys is = omega arith
fewer_left (Some last) at key keys is = let less : last < at = last_below at last key keys is in omega (arith, less)

abbrev pub keys_in : List Sent → List ℕ
keys_in sent = map (λ one. key_of one.datagram) sent

pub keys_are : (keys : List ℕ) (sent : List Sent) → AreKeys keys sent → length keys ≡ length sent → keys ≡ keys_in sent
keys_are [] [] are long = refl
keys_are [] (one ∷ sent) are long = absurd (omega arith)
keys_are (key ∷ keys) [] are long = absurd are
keys_are (key ∷ keys) (one ∷ sent) are long =
    ap (λ (k : ℕ). k ∷ keys) are.0 ∙ ap (λ (ks : List ℕ). key_of one.datagram ∷ ks) (keys_are keys sent are.1 (omega arith))

keys_front : (front back : List Sent) (at : ℕ) → at ≤ length front → take at (keys_in (front ++ back)) ≡ keys_in (take at front)
keys_front front back zero le = refl
keys_front [] back (suc at) le = absurd (omega arith)
keys_front (one ∷ front) back (suc at) le = ap (λ (ks : List ℕ). key_of one.datagram ∷ ks) (keys_front front back at (omega arith))

key_there : (front back : List Sent) (at key : ℕ) → slice_get (keys_in front) at ≡ Some key → get_or (keys_in (front ++ back)) at 0 ≡ key
key_there [] back at key e = absurd (cc)
key_there (one ∷ front) back zero key e = cc
key_there (one ∷ front) back (suc at) key e = key_there front back at key e

keys_long : (sent : List Sent) → length (keys_in sent) ≡ length sent
keys_long [] = refl
keys_long (one ∷ sent) = ap suc (keys_long sent)

-- ---- those with one key

or_none : (a : Bool) → (a || false) ≡ a
or_none true = refl
or_none false = refl

or_turn : (a b c : Bool) → (a || (b || c)) ≡ (b || (a || c))
or_turn true true c = refl
or_turn true false c = refl
or_turn false true c = refl
or_turn false false c = refl

first_true : (a b : Bool) → (a && b) ≡ true → a ≡ true
first_true true b e = refl
first_true false b e = absurd (cc)

module _ (bytes : List ℕ) (context : Context) where
  abbrev test : Sent → Bool
  test = is_sent bytes context

  key_same : (one : Sent) → test one ≡ true → key_of one.datagram ≡ key_of bytes
  key_same one e = ap key_of ((bytes_eq-Decides one.datagram bytes).0 (first_true (bytes_eq one.datagram bytes) (same_context one.context context) e))

  untested : (one : Sent) → ((◌≡◌ {A = Option ℕ} (Some (key_of one.datagram)) (Some (key_of bytes))) → ⊥) → test one ≡ false
  untested one h = by (test one) refl
    where
      by : (t : Bool) → test one ≡ t → test one ≡ false
      by false e = e
      by true e = absurd (h (ap (λ (k : ℕ). Some k) (key_same one e)))

  none_sent : (sent : List Sent) → IsLast None (key_of bytes) (keys_in sent) → list_any test sent ≡ false
  none_sent [] none = refl
  none_sent (one ∷ sent) none =
      ap (λ (t : Bool). t || list_any test sent) (untested one (λ e. none 0 e)) ∙ none_sent sent (λ k e. none (suc k) e)

  last_sent : (sent : List Sent) (at : ℕ) → IsLast (Some at) (key_of bytes) (keys_in sent) → list_any test sent ≡ (is_one_sent bytes context (nth sent (at + 1)) || list_any test (take at sent))
  last_sent [] at last = let there = last.0 in absurd (cc)
  last_sent (one ∷ sent) zero last =
      ap (λ (t : Bool). test one || t) (none_sent sent (λ k e. last.1 (suc k) (omega arith) e))
      ∙ ap (λ (o : Option Sent). is_one_sent bytes context o || false) (sym (nth_first one sent (0 + 1) (omega arith)))
  last_sent (one ∷ sent) (suc at) last =
      ap (λ (t : Bool). test one || t) (last_sent sent at (last.0, λ k above e. last.1 (suc k) (omega arith) e))
      ∙ or_turn (test one) (is_one_sent bytes context (nth sent (at + 1))) (list_any test (take at sent))
      ∙ ap (λ (o : Option Sent). is_one_sent bytes context o || (test one || list_any test (take at sent)))
      (sym (nth_later one sent (suc at + 1) (omega arith) ∙ ap (nth sent) (let less : suc at + 1 - 1 ≡ at + 1 = omega arith in less)))

  -- ---- the search

  -- Of what was sent the front is left to look at, from this index of the key on to the first.
  pub record IsLeft (sent : List Sent) (at : Option ℕ) : Type 0 where
    pub front : List Sent
    pub back : List Sent
    pub parts : sent ≡ front ++ back
    pub last : IsLast at (key_of bytes) (keys_in front)
    pub same : list_any test sent ≡ list_any test front

  pub left_all : (keys : List ℕ) (sent : List Sent) (at : Option ℕ) → AreKeys keys sent → length keys ≡ length sent → IsLast at (key_of bytes) keys → IsLeft sent at
  left_all keys sent at are long last = record {
    front = sent;
    back = [];
    parts = sym (append-nil sent);
    last = subst (λ (ks : List ℕ). IsLast at (key_of bytes) ks) (keys_are keys sent are long) last;
    same = refl;
  }

  pub left_none : (sent : List Sent) → IsLeft sent None → list_any test sent ≡ false
  left_none sent left = left.same ∙ none_sent left.front left.last

  pub left_over : (sent : List Sent) (at : Option ℕ) → ((k : ℕ) → at ≡ Some k → ⊥) → IsLeft sent at → list_any test sent ≡ false
  left_over sent None none left = left_none sent left
  left_over sent (Some at) none left = absurd (none at refl)

  pub inside_left : (sent : List Sent) (at : ℕ) → IsLeft sent (Some at) → at < length sent
  inside_left sent at left =
      let there : at < length (keys_in left.front) = within (keys_in left.front) at (key_of bytes) left.last.0 in
      let long = keys_long left.front in
      let parts : length sent ≡ length left.front + length left.back = ap (λ (l : List Sent). length l) left.parts ∙ length-append left.front left.back in
      omega (arith, there, long, parts)

  -- what is looked at next
  left_is : (sent : List Sent) (at : ℕ) (left : IsLeft sent (Some at)) → list_any test sent ≡ (is_one_sent bytes context (nth sent (at + 1)) || list_any test (take at left.front))
  left_is sent at left =
      let there : at < length (keys_in left.front) = within (keys_in left.front) at (key_of bytes) left.last.0 in
      let long = keys_long left.front in
      let one : nth left.front (at + 1) ≡ nth sent (at + 1) = sym (ap (λ (l : List Sent). nth l (at + 1)) left.parts ∙ nth_front left.front left.back (at + 1) (omega (arith, there, long))) in
      left.same ∙ last_sent left.front at left.last ∙ ap (λ (o : Option Sent). is_one_sent bytes context o || list_any test (take at left.front)) one

  pub left_found : (sent : List Sent) (at : ℕ) → IsLeft sent (Some at) → is_one_sent bytes context (nth sent (at + 1)) ≡ true → list_any test sent ≡ true
  left_found sent at left e = left_is sent at left ∙ ap (λ (t : Bool). t || list_any test (take at left.front)) e

  pub left_before : (keys : List ℕ) (sent : List Sent) (at : ℕ) (before : Option ℕ) → AreKeys keys sent → length keys ≡ length sent → IsLeft sent (Some at) → is_one_sent bytes context (nth sent (at + 1)) ≡ false →
      IsLast before (get_or keys at 0) (take at keys) → IsLeft sent before
  left_before keys sent at before are long left e last =
      let there : at < length (keys_in left.front) = within (keys_in left.front) at (key_of bytes) left.last.0 in
      let as_long = keys_long left.front in
      let all : keys ≡ keys_in (left.front ++ left.back) = keys_are keys sent are long ∙ ap keys_in left.parts in
      let key : get_or keys at 0 ≡ key_of bytes = ap (λ (ks : List ℕ). get_or ks at 0) all ∙ key_there left.front left.back at (key_of bytes) left.last.0 in
      let some : take at keys ≡ keys_in (take at left.front) = ap (take at) all ∙ keys_front left.front left.back at (omega (arith, there, as_long)) in
      record {
        front = take at left.front;
        back = drop at left.front ++ left.back;
        parts =
            left.parts ∙ ap (λ (l : List Sent). l ++ left.back) (sym (take-append-drop at left.front))
            ∙ append_assoc (take at left.front) (drop at left.front) left.back;
        last = subst (λ (ks : List ℕ). IsLast before (key_of bytes) ks) some (subst (λ (k : ℕ). IsLast before k (take at keys)) key last);
        same = left_is sent at left ∙ ap (λ (t : Bool). t || list_any test (take at left.front)) e;
      }
