-- Digits that are read piece by piece, the last by `hex` and each before by the reader of UUIDs.
use Rattle.std.proofs.Common.{◌≡◌, ℕ, zero, suc, ◌+◌, ◌-◌, ◌*◌, ◌/◌, ◌%◌, ◌≤◌, List, [], ◌∷◌, ◌++◌, append_assoc, length, take, drop, Bool, true, false, true≢false, ◌&&◌, if◌then◌else◌, Option, Some, None, is_some, unwrap_or, Result, Ok, Err, inl, inr, refl, sym, ap, ◌∙◌, subst, arith}
use Rattle.std.proofs.lemmas.Bool.{cases_eq}
use Rattle.std.proofs.lemmas.Bool.Decides.{nat_tests}
use Rattle.std.proofs.lemmas.List.{append-nil, take-append-drop, drop-drop, drop_all}
use Rattle.std.proofs.lemmas.List.Edits.{length-between}
use Rattle.std.proofs.lemmas.Slice.{between_to_end, take-put_mid}
use Rattle.std.specs.List.{between, list_all}
use Rattle.std.specs.Prelude.{MatchResult}
use Rattle.std.specs.Result.{is_ok}
use borrow.Rule.Slice.PartMut.{put_mid}
use Rattle.hex.proofs.HexLemmas.{decode_of-even, decode_of-odd}
use Rattle.hex.specs.Hex.{decode_of, decode_pairs, decode_sized, digit_or_error, hex_digit_value, ◌>>=◌}
use Rattle.hex.specs.declared.error.FromHexError.{FromHexError}
use Rattle.uuid.proofs.TextLemmas.{by_index_cong}
use Rattle.uuid.specs.Text.{by_index, byte_of_digits, is_hex_digit, parsed, value_of}

-- the byte of two digits, before others
abbrev pub byte_before : Option ℕ → Option ℕ → Option (List ℕ) → Option (List ℕ)
byte_before (Some high) (Some low) (Some rest) = Some ((high * 16 + low) ∷ rest)
byte_before (Some high) (Some low) None = None
byte_before (Some high) None rest = None
byte_before None low rest = None

-- the bytes of pairs of digits
unfoldable pub bytes_of : List ℕ → Option (List ℕ)
bytes_of [] = Some []
bytes_of (digit ∷ []) = None
bytes_of (high ∷ low ∷ rest) = byte_before (hex_digit_value high) (hex_digit_value low) (bytes_of rest)

-- bytes before those of a rest
abbrev pub behind : List ℕ → Option (List ℕ) → Option (List ℕ)
behind front (Some rest) = Some (front ++ rest)
behind front None = None

-- the bytes of two parts, where both are read
abbrev pub both : Option (List ℕ) → Option (List ℕ) → Option (List ℕ)
both (Some front) rest = behind front rest
both None rest = None

behind_nothing : (rest : Option (List ℕ)) → rest ≡ behind [] rest
behind_nothing (Some rest) = refl
behind_nothing None = refl

byte_both : (high low : Option ℕ) (front rest : Option (List ℕ)) → byte_before high low (both front rest) ≡ both (byte_before high low front) rest
byte_both (Some high) (Some low) (Some front) (Some rest) = refl
byte_both (Some high) (Some low) (Some front) None = refl
byte_both (Some high) (Some low) None rest = refl
byte_both (Some high) None front rest = refl
byte_both None low front rest = refl

-- the bytes of digits in two parts, of which the first has no half a byte
pub bytes_append : (a b : List ℕ) → length a % 2 ≡ 0 → bytes_of (a ++ b) ≡ both (bytes_of a) (bytes_of b)
unfolding bytes_of
bytes_append [] b even = behind_nothing (bytes_of b)
bytes_append (digit ∷ []) b even = absurd (omega arith)
bytes_append (high ∷ low ∷ rest) b even =
    ap (byte_before (hex_digit_value high) (hex_digit_value low)) (bytes_append rest b (omega arith))
    ∙ byte_both (hex_digit_value high) (hex_digit_value low) (bytes_of rest) (bytes_of b)

-- what is read, without the fault
abbrev pub ok_of : {A : Type 0} → Result A FromHexError → Option A
ok_of (Ok x) = Some x
ok_of (Err fault) = None

-- two digits and the bytes behind them, as `hex` puts them together
abbrev joined : (high low at : ℕ) → Option ℕ → Option ℕ → Result (List ℕ) FromHexError → Result (List ℕ) FromHexError
joined high low at h l rest =
    (digit_or_error high at h >>= (λ x. digit_or_error low (at + 1) l >>= (λ y. Ok (x * 16 + y))))
    >>= (λ byte. rest >>= (λ bytes. Ok (byte ∷ bytes)))

joined_ok : (high low at : ℕ) (h l : Option ℕ) (rest : Result (List ℕ) FromHexError) → ok_of (joined high low at h l rest) ≡ byte_before h l (ok_of rest)
joined_ok high low at (Some h) (Some l) (Ok rest) = refl
joined_ok high low at (Some h) (Some l) (Err fault) = refl
joined_ok high low at (Some h) None rest = refl
joined_ok high low at None l rest = refl

-- what `hex` reads is that, wherever the digits stand
pub hex_reads : (at : ℕ) (s : List ℕ) → ok_of (decode_pairs at s) ≡ bytes_of s
unfolding bytes_of decode_pairs
hex_reads at [] = refl
hex_reads at (digit ∷ []) = refl
hex_reads at (high ∷ low ∷ rest) =
    joined_ok high low at (hex_digit_value high) (hex_digit_value low) (decode_pairs (at + 2) rest)
    ∙ ap (byte_before (hex_digit_value high) (hex_digit_value low)) (hex_reads (at + 2) rest)

-- both crates know the same digits, with the same values
same_digit : (c : ℕ) → (if is_hex_digit c then Some (value_of c) else None) ≡ hex_digit_value c
same_digit c = grind (arith, nat_tests)

-- a place more, at the front
by_index_front : (n : ℕ) (f : ℕ → ℕ) → by_index (suc n) f ≡ f 0 ∷ by_index n (λ k. f (suc k))
unfolding by_index
by_index_front zero f = refl
by_index_front (suc n) f = ap (λ t. t ++ f (suc n) ∷ []) (by_index_front n f)

-- what the reader of UUIDs makes of the digits of n bytes
abbrev simple_of : ℕ → List ℕ → Option (List ℕ)
simple_of n s = if list_all is_hex_digit s then Some (by_index n (byte_of_digits s)) else None

byte_more : (high low : ℕ) (rest : List ℕ) (k : ℕ) → byte_of_digits (high ∷ low ∷ rest) (suc k) ≡ byte_of_digits rest k
byte_more high low rest k =
    let even : 2 * suc k ≡ suc (suc (2 * k)) = omega arith in
    let odd : suc (suc (2 * k)) + 1 ≡ suc (suc (2 * k + 1)) = omega arith in
    rw (even, odd) refl

more_bytes : (n high low : ℕ) (rest : List ℕ) → by_index (suc n) (byte_of_digits (high ∷ low ∷ rest)) ≡ (value_of high * 16 + value_of low) ∷ by_index n (byte_of_digits rest)
more_bytes n high low rest =
    by_index_front n (byte_of_digits (high ∷ low ∷ rest))
    ∙ ap (λ t. (value_of high * 16 + value_of low) ∷ t) (by_index_cong n _ _ (λ k within. byte_more high low rest k))

by_tests : (p q r : Bool) (h l : ℕ) (whole rest : List ℕ) → whole ≡ (h * 16 + l) ∷ rest
    → (if p && (q && r) then Some whole else None) ≡ byte_before (if p then Some h else None) (if q then Some l else None) (if r then Some rest else None)
by_tests true true true h l whole rest e = ap Some e
by_tests true true false h l whole rest e = refl
by_tests true false r h l whole rest e = refl
by_tests false q r h l whole rest e = refl

simple_reads : (n : ℕ) (s : List ℕ) → length s ≡ 2 * n → simple_of n s ≡ bytes_of s
unfolding bytes_of by_index
simple_reads zero [] len = refl
simple_reads zero (x ∷ rest) len = absurd (omega arith)
simple_reads (suc n) [] len = absurd (omega arith)
simple_reads (suc n) (x ∷ []) len = absurd (omega arith)
simple_reads (suc n) (high ∷ low ∷ rest) len =
    by_tests (is_hex_digit high) (is_hex_digit low) (list_all is_hex_digit rest) (value_of high) (value_of low) _ _ (more_bytes n high low rest)
    ∙ ap (λ h. byte_before h (if is_hex_digit low then Some (value_of low) else None) (simple_of n rest)) (same_digit high)
    ∙ ap (λ l. byte_before (hex_digit_value high) l (simple_of n rest)) (same_digit low)
    ∙ ap (byte_before (hex_digit_value high) (hex_digit_value low)) (simple_reads n rest (omega arith))

-- what the reader of UUIDs reads is that, too
pub uuid_reads : (s : List ℕ) → length s ≡ 32 → parsed s ≡ bytes_of s
uuid_reads s len =
    let is : parsed s ≡ simple_of 16 s = rw len refl in
    is ∙ simple_reads 16 s len

-- nothing comes of digits before others that aren't read
nothing_before : (high low : Option ℕ) → byte_before high low None ≡ None
nothing_before (Some high) (Some low) = refl
nothing_before (Some high) None = refl
nothing_before None low = refl

half_left : (s : List ℕ) → length s % 2 ≡ 1 → bytes_of s ≡ None
unfolding bytes_of
half_left [] odd = absurd (omega arith)
half_left (digit ∷ []) odd = refl
half_left (high ∷ low ∷ rest) odd =
    ap (byte_before (hex_digit_value high) (hex_digit_value low)) (half_left rest (omega arith))
    ∙ nothing_before (hex_digit_value high) (hex_digit_value low)

-- the same as `hex` reads, but for which fault it tells
pub decodes : (s : List ℕ) → ok_of (decode_of s) ≡ bytes_of s
decodes s =
    elim (cases_eq (length s % 2) 1) [
      | inl odd ↦ ap ok_of (decode_of-odd s odd) ∙ sym (half_left s odd)
      | inr even ↦ ap ok_of (decode_of-even s (omega arith)) ∙ hex_reads 0 s
    ]

-- what `decode` says of digits
abbrev pub IsDecoded : Result (List ℕ) FromHexError → Bool → List ℕ → Type 0
IsDecoded r good bytes = MatchResult r (λ read. (good ≡ true) × (bytes ≡ read)) (λ fault. good ≡ false)

some_is : {x y : List ℕ} → Some x ≡ Some y → x ≡ y
some_is e = ap (λ (o : Option (List ℕ)). unwrap_or o []) e

not_some : {x : List ℕ} → Some x ≡ None → ⊥
not_some e = true≢false (ap is_some e)

pub accepted : (r : Result (List ℕ) FromHexError) (bytes : List ℕ) → ok_of r ≡ Some bytes → IsDecoded r true bytes
accepted (Ok x) bytes e = (refl, some_is (sym e))
accepted (Err fault) bytes e = absurd (not_some (sym e))

pub refused : (r : Result (List ℕ) FromHexError) (bytes : List ℕ) → ok_of r ≡ None → IsDecoded r false bytes
refused (Ok x) bytes e = absurd (not_some e)
refused (Err fault) bytes e = refl

pub was_accepted : (r : Result (List ℕ) FromHexError) (good : Bool) (bytes : List ℕ) → IsDecoded r good bytes → good ≡ true → ok_of r ≡ Some bytes
was_accepted (Ok x) good bytes is fine = ap Some (sym is.1)
was_accepted (Err fault) good bytes is fine = absurd (true≢false (sym fine ∙ is))

pub was_refused : (r : Result (List ℕ) FromHexError) (good : Bool) (bytes : List ℕ) → IsDecoded r good bytes → good ≡ false → ok_of r ≡ None
was_refused (Ok x) good bytes is bad = absurd (true≢false (sym is.0 ∙ bad))
was_refused (Err fault) good bytes is bad = refl

-- the digits in front of a place are read
abbrev pub IsReadTo : ℕ → List ℕ → List ℕ → Type 0
IsReadTo piece digits bytes = bytes_of digits ≡ behind (take (piece * 16) bytes) (bytes_of (drop (piece * 32) digits))

-- a piece and what stands behind it
split : (a b : ℕ) (s : List ℕ) → a ≤ b → drop a s ≡ between a b s ++ drop b s
split a b s order =
    let end : a + (b - a) ≡ b = omega arith in
    sym (take-append-drop (b - a) (drop a s)) ∙ ap (λ t. between a b s ++ t) (drop-drop (b - a) a s ∙ ap (λ k. drop k s) end)

-- a piece is read
piece_reads : (a b : ℕ) (s : List ℕ) → a ≤ b → b ≤ length s → (b - a) % 2 ≡ 0
    → bytes_of (drop a s) ≡ both (ok_of (decode_of (between a b s))) (bytes_of (drop b s))
piece_reads a b s order fits even =
    let len = length-between s a b fits in
    ap bytes_of (split a b s order)
    ∙ bytes_append (between a b s) (drop b s) (rw len even)
    ∙ ap (λ piece. both piece (bytes_of (drop b s))) (sym (decodes (between a b s)))

behind_both : (front piece : List ℕ) (rest : Option (List ℕ)) → behind front (behind piece rest) ≡ behind (front ++ piece) rest
behind_both front piece (Some rest) = ap Some (sym (append_assoc front piece rest))
behind_both front piece None = refl

-- one piece more
pub read_more : (piece : ℕ) (digits bytes new : List ℕ) (good : Bool) → (piece + 1) * 32 ≤ length digits → piece * 16 ≤ length bytes → length new ≡ 16
    → IsReadTo piece digits bytes → IsDecoded (decode_of (between (piece * 32) ((piece + 1) * 32) digits)) good new → good ≡ true
    → IsReadTo (piece + 1) digits (put_mid (piece * 16) ((piece + 1) * 16 - piece * 16) bytes new)
read_more piece digits bytes new good fits room len so_far is fine =
    let rest = bytes_of (drop ((piece + 1) * 32) digits) in
    let front = take (piece * 16) bytes in
    let read = was_accepted _ good new is fine in
    let put = take-put_mid (piece * 16) ((piece + 1) * 16 - piece * 16) bytes new ((piece + 1) * 16) (omega (arith, len)) room in
    so_far
    ∙ ap (behind front) (piece_reads (piece * 32) ((piece + 1) * 32) digits (omega arith) fits (omega arith) ∙ ap (λ r. both r rest) read)
    ∙ behind_both front new rest
    ∙ ap (λ t. behind t rest) (sym put)

-- a piece that isn't read
pub piece_refused : (piece : ℕ) (digits bytes new last : List ℕ) (good : Bool) → (piece + 1) * 32 ≤ length digits
    → IsReadTo piece digits bytes → IsDecoded (decode_of (between (piece * 32) ((piece + 1) * 32) digits)) good new → good ≡ false
    → IsDecoded (decode_of digits) false last
piece_refused piece digits bytes new last good fits so_far is bad =
    let rest = bytes_of (drop ((piece + 1) * 32) digits) in
    let front = take (piece * 16) bytes in
    refused _ last (
    decodes digits ∙ so_far
    ∙ ap (behind front) (piece_reads (piece * 32) ((piece + 1) * 32) digits (omega arith) fits (omega arith) ∙ ap (λ r. both r rest) (was_refused _ good new is bad))
    )

-- room that fits is asked for by the digits alone
sized : (s : List ℕ) (n : ℕ) → length s / 2 ≡ n → decode_sized s n ≡ decode_of s
sized s n half = grind (arith)

-- what `hex` says of the rest
abbrev pub HexSays : Result (List ℕ) FromHexError → Result Unit FromHexError → List ℕ → Type 0
HexSays d r out = MatchResult d (λ bytes. (r ≡ Ok tt) × (out ≡ bytes)) (λ fault. r ≡ Err fault)

by_rest : (d w : Result (List ℕ) FromHexError) (r : Result Unit FromHexError) (front out new : List ℕ) → HexSays d r out
    → ok_of w ≡ behind front (ok_of d) → new ≡ front ++ out → IsDecoded w (is_ok r) new
by_rest (Ok x) w r front out new said whole e =
    let good : true ≡ is_ok r = sym (ap is_ok said.0) in
    subst (λ b. IsDecoded w b new) good (accepted w new (whole ∙ ap Some (ap (λ t. front ++ t) (sym said.1) ∙ sym e)))
by_rest (Err fault) w r front out new said whole e =
    let good : false ≡ is_ok r = sym (ap is_ok said) in
    subst (λ b. IsDecoded w b new) good (refused w new whole)

nothing_left : (a : ℕ) (bytes : List ℕ) → drop (length bytes - a) (drop a bytes) ≡ []
nothing_left a bytes = drop-drop (length bytes - a) a bytes ∙ drop_all (a + (length bytes - a)) bytes (omega arith)

-- the pieces are read, and `hex` is asked for the rest
pub rest_reads : (pieces : ℕ) (digits bytes out : List ℕ) (r : Result Unit FromHexError) (good : Bool) → length bytes ≡ length digits / 2 → pieces ≡ length digits / 32
    → IsReadTo pieces digits bytes
    → HexSays (decode_sized (between (pieces * 32) (length digits) digits) (length (between (pieces * 16) (length bytes) bytes))) r out
    → good ≡ is_ok r
    → IsDecoded (decode_of digits) good (put_mid (pieces * 16) (length bytes - pieces * 16) bytes out)
rest_reads pieces digits bytes out r good half all so_far said same =
    let rest = between (pieces * 32) (length digits) digits in
    let room = between (pieces * 16) (length bytes) bytes in
    let front = take (pieces * 16) bytes in
    let left : rest ≡ drop (pieces * 32) digits = between_to_end digits (pieces * 32) (length digits) (omega arith) in
    let long = length-between digits (pieces * 32) (length digits) (omega arith) in
    let wide = length-between bytes (pieces * 16) (length bytes) (omega arith) in
    let fits : length rest / 2 ≡ length room = omega (arith, long, wide, half, all) in
    let end : put_mid (pieces * 16) (length bytes - pieces * 16) bytes out ≡ front ++ out =
    ap (λ t. front ++ (out ++ t)) (nothing_left (pieces * 16) bytes) ∙ ap (λ t. front ++ t) (append-nil out) in
    let new = put_mid (pieces * 16) (length bytes - pieces * 16) bytes out in
    let whole = decodes digits ∙ so_far ∙ ap (λ t. behind front (bytes_of t)) (sym left)
    ∙ ap (behind front) (sym (ap ok_of (sized rest (length room) fits) ∙ decodes rest)) in
    subst (λ b. IsDecoded (decode_of digits) b new) (sym same)
    (by_rest (decode_sized rest (length room)) (decode_of digits) r front out new said whole end)

-- what parses to nothing
pub nothing_parsed : (o : Option (List ℕ)) → ((u : List ℕ) → o ≡ Some u → ⊥) → o ≡ None
nothing_parsed (Some u) never = absurd (never u refl)
nothing_parsed None never = refl
