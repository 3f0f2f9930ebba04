-- Ends of which no two have the same name or the same fingerprint.
use Rattle.std.proofs.Common.{◌≡◌, ℕ, zero, suc, ◌+◌, ◌<◌, ◌||◌, Bool, true, false, not, List, [], ◌∷◌, ◌++◌, length, Some, None, slice_get, cond, if◌then◌else◌, refl, sym, ap, ◌∙◌, subst, arith, nat_lt}
use Rattle.std.specs.List.{list_any, position, position_or_len}
use Rattle.std.specs.Str.{bytes_eq}
use Rattle.std.proofs.lemmas.Bool.{both_ways, or_from, or_parts, lt-ltb}
use Rattle.std.proofs.lemmas.List.Folds.{list_any-append}
use Rattle.std.proofs.lemmas.Slice.Eq.{bytes_eq-Decides}
use Rattle.rtmfp_text.specs.declared.names.Named.{Named}
use Rattle.rtmfp_text.specs.Names.{is_like, AreUnlike, is_called_at, peer_text}

-- ---- tests of bytes

same_bytes : (xs ys : List ℕ) → bytes_eq xs ys ≡ true → xs ≡ ys
same_bytes xs ys e = (bytes_eq-Decides xs ys).0 e

pub bytes_same : (xs ys : List ℕ) → xs ≡ ys → bytes_eq xs ys ≡ true
bytes_same xs ys e = (bytes_eq-Decides xs ys).1 e

turned : (xs ys : List ℕ) → bytes_eq xs ys ≡ false → bytes_eq ys xs ≡ false
turned xs ys e = other (bytes_eq ys xs) refl
  where
    other : (b : Bool) → bytes_eq ys xs ≡ b → bytes_eq ys xs ≡ false
    other false f = f
    other true f = absurd (both_ways (bytes_eq xs ys) e (bytes_same xs ys (sym (same_bytes ys xs f))))

or_first : (a b : Bool) → a ≡ true → (a || b) ≡ true
or_first true b e = refl
or_first false b e = absurd (cc)

or_second : (a b : Bool) → b ≡ true → (a || b) ≡ true
or_second true b e = refl
or_second false b e = e

-- ---- one more end

unlike_new : (x end : Named) → is_like end.name end.print x ≡ false → is_like x.name x.print end ≡ false
unlike_new x end e =
    let p = or_parts (bytes_eq x.name end.name) (bytes_eq x.print end.print) e in
    or_from (bytes_eq end.name x.name) (bytes_eq end.print x.print) (turned x.name end.name p.0) (turned x.print end.print p.1)

pub unlike_more : (ends : List Named) (end : Named) → AreUnlike ends → list_any (is_like end.name end.print) ends ≡ false → AreUnlike (ends ++ end ∷ [])
unlike_more [] end are none = (refl, tt)
unlike_more (x ∷ ends) end are none =
    let p = or_parts (is_like end.name end.print x) (list_any (is_like end.name end.print) ends) none in
    let new : list_any (is_like x.name x.print) (end ∷ []) ≡ false = or_from (is_like x.name x.print end) false (unlike_new x end p.0) refl in (
      list_any-append (is_like x.name x.print) ends (end ∷ []) ∙ or_from (list_any (is_like x.name x.print) ends) (list_any (is_like x.name x.print) (end ∷ [])) are.0 new,
      unlike_more ends end are.1 p.1,
    )

-- ---- the end with a name

abbrev pub has_name : List ℕ → Named → Bool
has_name name end = bytes_eq end.name name

any_called : (ends : List Named) (number : ℕ) (name print : List ℕ) → is_called_at ends number name ≡ true → list_any (is_like name print) ends ≡ true
any_called [] number name print e = absurd (cc)
any_called (x ∷ ends) zero name print e = or_first (is_like name print x) _ (or_first (bytes_eq x.name name) _ e)
any_called (x ∷ ends) (suc number) name print e = or_second (is_like name print x) _ (any_called ends number name print e)

first_is : (x : Named) (ends : List Named) (name : List ℕ) → has_name name x ≡ true → position_or_len (has_name name) (x ∷ ends) ≡ 0
first_is x ends name e = ap (λ (b : Bool). cond (not b) (1 + position_or_len (has_name name) ends) 0) e

later_is : (x : Named) (ends : List Named) (name : List ℕ) → has_name name x ≡ false → position_or_len (has_name name) (x ∷ ends) ≡ 1 + position_or_len (has_name name) ends
later_is x ends name e = ap (λ (b : Bool). cond (not b) (1 + position_or_len (has_name name) ends) 0) e

not_first : (x : Named) (ends : List Named) (number : ℕ) (name : List ℕ) → list_any (is_like x.name x.print) ends ≡ false → is_called_at ends number name ≡ true → has_name name x ≡ false
not_first x ends number name none e = other (has_name name x) refl
  where
    other : (b : Bool) → has_name name x ≡ b → has_name name x ≡ false
    other false f = f
    other true f =
        absurd (both_ways (list_any (is_like x.name x.print) ends) none (any_called ends number x.name x.print
        (subst (λ (n : List ℕ). is_called_at ends number n ≡ true) (sym (same_bytes x.name name f)) e)))

found_at : (ends : List Named) (number : ℕ) (name : List ℕ) → AreUnlike ends → is_called_at ends number name ≡ true → (position_or_len (has_name name) ends ≡ number) × (number < length ends)
found_at [] number name are e = absurd (cc)
found_at (x ∷ ends) zero name are e = (first_is x ends name e, omega arith)
found_at (x ∷ ends) (suc number) name are e =
    let more = found_at ends number name are.1 e in
    let later : position_or_len (has_name name) (x ∷ ends) ≡ 1 + position_or_len (has_name name) ends = later_is x ends name (not_first x ends number name are.0 e) in
    let at = more.0 in
    let lt = more.1 in
    (omega (arith, later, at), omega (arith, lt))

pub called_first : (ends : List Named) (number : ℕ) (name : List ℕ) → AreUnlike ends → is_called_at ends number name ≡ true → Some number ≡ position (has_name name) ends
called_first ends number name are e =
    let found = found_at ends number name are e in
    sym (ap (λ (k : ℕ). cond (nat_lt k (length ends)) (Some k) None) found.0
    ∙ ap (λ (b : Bool). cond b (Some number) None) (lt-ltb number (length ends) found.1))

-- ---- the end with a fingerprint

any_printed : (ends : List Named) (number : ℕ) (end : Named) (name print : List ℕ) → slice_get ends number ≡ Some end → end.print ≡ print → list_any (is_like name print) ends ≡ true
any_printed [] number end name print there is = absurd (cc)
any_printed (x ∷ ends) zero end name print there is =
    let same : x ≡ end = cc in
    or_first (is_like name print x) _ (or_second (bytes_eq x.name name) _ (bytes_same x.print print (ap (λ (e : Named). e.print) same ∙ is)))
any_printed (x ∷ ends) (suc number) end name print there is = or_second (is_like name print x) _ (any_printed ends number end name print there is)

chosen : (b : Bool) (x y z : List ℕ) → (b ≡ true → x ≡ z) → (b ≡ false → y ≡ z) → (if b then x else y) ≡ z
chosen b x y z left right = by b refl
  where
    by : (t : Bool) → b ≡ t → (if t then x else y) ≡ z
    by true e = left e
    by false e = right e

pub peer_there : (ends : List Named) (number : ℕ) (end : Named) (print : List ℕ) → AreUnlike ends → slice_get ends number ≡ Some end → end.print ≡ print → peer_text ends print ≡ end.name
peer_there [] number end print are there is = absurd (cc)
peer_there (x ∷ ends) zero end print are there is =
    let same : x ≡ end = cc in
    chosen (bytes_eq x.print print) x.name (peer_text ends print) end.name (λ e. ap (λ (n : Named). n.name) same)
    (λ e. absurd (both_ways (bytes_eq x.print print) e (bytes_same x.print print (ap (λ (n : Named). n.print) same ∙ is))))
peer_there (x ∷ ends) (suc number) end print are there is =
    chosen (bytes_eq x.print print) x.name (peer_text ends print) end.name
    (λ e. absurd (both_ways (list_any (is_like x.name x.print) ends) are.0 (any_printed ends number end x.name x.print there (is ∙ sym (same_bytes x.print print e)))))
    (λ e. peer_there ends number end print are.1 there is)
