-- Acks, probes and exceptions read as what spells them, and in no other way.
use Rattle.std.proofs.Common.{◌≡◌, ℕ, suc, ◌+◌, ◌-◌, ◌^◌, ◌≤◌, ◌⊎◌, List, [], ◌∷◌, ◌++◌, length, get_or, Option, Some, None, Result, Ok, Err, refl, ap, subst, ◌∙◌, inl, inr, arith}
use Rattle.std.proofs.lemmas.List.{length-append}
use Rattle.rtmfp_vlu.proofs.Bytes.{IsBytes}
use Rattle.rtmfp_forms.specs.OptionReading.{◌>>=◌}
use Rattle.rtmfp_data_chunks.specs.declared.user_data.Numbers.{Numbers}
use Rattle.rtmfp_data_chunks.specs.declared.view.DataFault.{DataFault}
use Rattle.rtmfp_data_chunks.specs.declared.view.DataFault.TheVariants.{Unknown, Malformed, BadOffset}
use Rattle.rtmfp_data_chunks.specs.Chunk.{DataChunk, AckBitmap, AckRanges, Probe, Exception}
use Rattle.rtmfp_data_chunks.specs.Fields.{NumbersSpell, NumbersBreak}
use Rattle.rtmfp_data_chunks.specs.Acks.{BitsPass, PairsBreak}
use Rattle.rtmfp_data_chunks.specs.Spelling.{BitmapSpells, AckRangesSpell, AckBreaks, NumbersStand, DataReading}
use Rattle.rtmfp_data_chunks.specs.Reader.{numbers_then, passing_byte, bits_checked, bitmap_then, pairs_then, ack_ranges_then, probe_then, exception_then}
use Rattle.rtmfp_data_chunks.proofs.NumberLaws.{bytes_behind, NumbersAre, numbers_are, numbers_found, numbers_broken}
use Rattle.rtmfp_data_chunks.proofs.Bits.{bits_fit, bits_pass, bits_fit_again, bits_pass_again}
use Rattle.rtmfp_data_chunks.proofs.Pairs.{PairsAre, pairs_are, pairs_found, pairs_broken}

-- a break of the numbers at the front of a payload
pub at_front : (count : ℕ) (b : List ℕ) (within begins : ℕ) → NumbersBreak count b within → begins ≡ length b - length b + within → NumbersBreak count b begins
at_front count b within begins h e = let same : within ≡ begins = omega (arith, e) in subst (NumbersBreak count b) same h

front_broken : (count : ℕ) (b : List ℕ) (at : ℕ) → NumbersBreak count b at → numbers_then count (length b) b ≡ Err (Malformed at)
front_broken count b at h = let same : length b - length b + at ≡ at = omega arith in numbers_broken count (length b) b at h (omega arith) ∙ ap (λ (n : ℕ). Err (Malformed n)) same

-- ---- bits

abbrev after_head : List ℕ → List ℕ × List ℕ → Result DataChunk DataFault
after_head b numbers =
    bits_checked (length b - length numbers.1) (AckBitmap (get_or numbers.0 0 0) (get_or numbers.0 1 0) (get_or numbers.0 2 0) numbers.1)
    (passing_byte (2 ^ 64 - (get_or numbers.0 2 0 + 2)) numbers.1)

bits_are : (last : Option Numbers) (flow blocks upto : ℕ) (b numbers bits : List ℕ) (found : Option ℕ) → IsBytes bits → b ≡ numbers ++ bits → NumbersSpell (flow ∷ blocks ∷ upto ∷ []) numbers
    → passing_byte (2 ^ 64 - (upto + 2)) bits ≡ found → DataReading last 0x50 b (bits_checked (length b - length bits) (AckBitmap flow blocks upto bits) found)
bits_are last flow blocks upto b numbers bits None fits e h f = (refl, record { numbers = numbers; spell = h; fit = bits_fit upto bits fits f; whole = e })
bits_are last flow blocks upto b numbers bits (Some byte) fits e h f = inr (inr (inl (
  refl,
  inr record {
    flow = flow;
    blocks = blocks;
    upto = upto;
    numbers = numbers;
    rest = bits;
    within = byte;
    spell = h;
    breaks = bits_pass upto bits byte fits f;
    whole = e;
    begins = omega (arith, ap length e, length-append numbers bits);
  },
)))

bitmap_behind : (last : Option Numbers) (b : List ℕ) (r : Result (List ℕ × List ℕ) DataFault) → IsBytes b → NumbersAre 3 (length b - length b) b r → DataReading last 0x50 b (r >>= after_head b)
bitmap_behind last b (Ok ([], rest)) fits n = absurd (omega (arith, n.3))
bitmap_behind last b (Ok (flow ∷ [], rest)) fits n = absurd (omega (arith, n.3))
bitmap_behind last b (Ok (flow ∷ blocks ∷ [], rest)) fits n = absurd (omega (arith, n.3))
bitmap_behind last b (Ok (flow ∷ blocks ∷ upto ∷ [], rest)) fits n =
    bits_are last flow blocks upto b n.0 rest (passing_byte (2 ^ 64 - (upto + 2)) rest) (bytes_behind b n.0 rest n.1 fits) n.1 n.2 refl
bitmap_behind last b (Ok (flow ∷ blocks ∷ upto ∷ more ∷ others, rest)) fits n = absurd (omega (arith, n.3))
bitmap_behind last b (Err (Unknown told)) fits n = absurd n
bitmap_behind last b (Err (Malformed begins)) fits n = inr (inr (inl (refl, inl (at_front 3 b n.0 begins n.1 n.2))))
bitmap_behind last b (Err (BadOffset begins)) fits n = absurd n

pub bitmap_is : (last : Option Numbers) (b : List ℕ) → IsBytes b → DataReading last 0x50 b (bitmap_then b)
unfolding bitmap_then
bitmap_is last b fits = bitmap_behind last b (numbers_then 3 (length b) b) fits (numbers_are 3 (length b) b fits (omega arith))

pub bitmap_found : (flow blocks upto : ℕ) (bits b : List ℕ) → IsBytes b → BitmapSpells flow blocks upto bits b → bitmap_then b ≡ Ok (AckBitmap flow blocks upto bits)
unfolding bitmap_then
bitmap_found flow blocks upto bits b fits h =
    rw (numbers_found (flow ∷ blocks ∷ upto ∷ []) (length b) b h.numbers bits h.whole h.spell, bits_fit_again upto bits (bytes_behind b h.numbers bits h.whole fits) h.fit) refl

pub bitmap_broken : (b : List ℕ) (at : ℕ) → IsBytes b → NumbersBreak 3 b at ⊎ AckBreaks BitsPass b at → bitmap_then b ≡ Err (Malformed at)
unfolding bitmap_then
bitmap_broken b at fits (inl h) = rw (front_broken 3 b at h) refl
bitmap_broken b at fits (inr h) =
    let begins : length b - length h.rest + h.within ≡ at = omega (arith, h.begins, ap length h.whole, length-append h.numbers h.rest) in
    rw (numbers_found (h.flow ∷ h.blocks ∷ h.upto ∷ []) (length b) b h.numbers h.rest h.whole h.spell, bits_pass_again h.upto h.rest h.within (bytes_behind b h.numbers h.rest h.whole fits) h.breaks)
    (ap (λ (n : ℕ). Err (Malformed n)) begins)

-- ---- pairs

abbrev after_walk : List ℕ × List ℕ → ℕ → Result DataChunk DataFault
after_walk numbers end = Ok (AckRanges (get_or numbers.0 0 0) (get_or numbers.0 1 0) (get_or numbers.0 2 0) numbers.1)

abbrev walk_behind : List ℕ → List ℕ × List ℕ → Result DataChunk DataFault
walk_behind b numbers = pairs_then (length b) (get_or numbers.0 2 0) numbers.1 >>= after_walk numbers

ranges_are : (last : Option Numbers) (flow blocks upto : ℕ) (b numbers pairs : List ℕ) (r : Result ℕ DataFault) → b ≡ numbers ++ pairs → NumbersSpell (flow ∷ blocks ∷ upto ∷ []) numbers
    → PairsAre upto (length b - length pairs) pairs r → DataReading last 0x51 b (r >>= after_walk (flow ∷ blocks ∷ upto ∷ [], pairs))
ranges_are last flow blocks upto b numbers pairs (Ok end) e h p = (refl, record { numbers = numbers; spans = p.0; spell = h; tell = p.1; whole = e })
ranges_are last flow blocks upto b numbers pairs (Err (Unknown told)) e h p = absurd p
ranges_are last flow blocks upto b numbers pairs (Err (Malformed begins)) e h p = inr (inr (inr (inl (
  refl,
  inr record {
    flow = flow;
    blocks = blocks;
    upto = upto;
    numbers = numbers;
    rest = pairs;
    within = p.0;
    spell = h;
    breaks = p.1;
    whole = e;
    begins = omega (arith, p.2, ap length e, length-append numbers pairs);
  },
))))
ranges_are last flow blocks upto b numbers pairs (Err (BadOffset begins)) e h p = absurd p

pairs_then_are : (size above : ℕ) (b : List ℕ) → IsBytes b → length b ≤ size → PairsAre above (size - length b) b (pairs_then size above b)
unfolding pairs_then
pairs_then_are size above b fits le = pairs_are (suc (length b)) size above b fits le (omega arith)

ranges_behind : (last : Option Numbers) (b : List ℕ) (r : Result (List ℕ × List ℕ) DataFault) → IsBytes b → NumbersAre 3 (length b - length b) b r → DataReading last 0x51 b (r >>= walk_behind b)
ranges_behind last b (Ok ([], rest)) fits n = absurd (omega (arith, n.3))
ranges_behind last b (Ok (flow ∷ [], rest)) fits n = absurd (omega (arith, n.3))
ranges_behind last b (Ok (flow ∷ blocks ∷ [], rest)) fits n = absurd (omega (arith, n.3))
ranges_behind last b (Ok (flow ∷ blocks ∷ upto ∷ [], rest)) fits n =
    let shorter : length rest ≤ length b = omega (arith, ap length n.1, length-append n.0 rest) in
    ranges_are last flow blocks upto b n.0 rest (pairs_then (length b) upto rest) n.1 n.2 (pairs_then_are (length b) upto rest (bytes_behind b n.0 rest n.1 fits) shorter)
ranges_behind last b (Ok (flow ∷ blocks ∷ upto ∷ more ∷ others, rest)) fits n = absurd (omega (arith, n.3))
ranges_behind last b (Err (Unknown told)) fits n = absurd n
ranges_behind last b (Err (Malformed begins)) fits n = inr (inr (inr (inl (refl, inl (at_front 3 b n.0 begins n.1 n.2)))))
ranges_behind last b (Err (BadOffset begins)) fits n = absurd n

pub ranges_is : (last : Option Numbers) (b : List ℕ) → IsBytes b → DataReading last 0x51 b (ack_ranges_then b)
unfolding ack_ranges_then
ranges_is last b fits = ranges_behind last b (numbers_then 3 (length b) b) fits (numbers_are 3 (length b) b fits (omega arith))

pub ranges_found : (flow blocks upto : ℕ) (pairs b : List ℕ) → AckRangesSpell flow blocks upto pairs b → ack_ranges_then b ≡ Ok (AckRanges flow blocks upto pairs)
unfolding ack_ranges_then pairs_then
ranges_found flow blocks upto pairs b h =
    let shorter : length pairs ≤ length b = omega (arith, ap length h.whole, length-append h.numbers pairs) in
    rw (numbers_found (flow ∷ blocks ∷ upto ∷ []) (length b) b h.numbers pairs h.whole h.spell, pairs_found (suc (length pairs)) (length b) upto h.spans pairs h.tell (omega arith) shorter) refl

pub ranges_broken : (b : List ℕ) (at : ℕ) → NumbersBreak 3 b at ⊎ AckBreaks PairsBreak b at → ack_ranges_then b ≡ Err (Malformed at)
unfolding ack_ranges_then pairs_then
ranges_broken b at (inl h) = rw (front_broken 3 b at h) refl
ranges_broken b at (inr h) =
    let shorter : length h.rest ≤ length b = omega (arith, ap length h.whole, length-append h.numbers h.rest) in
    let begins : length b - length h.rest + h.within ≡ at = omega (arith, h.begins, ap length h.whole, length-append h.numbers h.rest) in
    rw (numbers_found (h.flow ∷ h.blocks ∷ h.upto ∷ []) (length b) b h.numbers h.rest h.whole h.spell, pairs_broken (suc (length h.rest)) (length b) h.upto h.rest h.within h.breaks (omega arith) shorter)
    (ap (λ (n : ℕ). Err (Malformed n)) begins)

-- ---- numbers alone

probe_behind : (last : Option Numbers) (b : List ℕ) (r : Result (List ℕ × List ℕ) DataFault) → NumbersAre 1 (length b - length b) b r → DataReading last 0x18 b (r >>= λ numbers. Ok (Probe (get_or numbers.0 0 0)))
probe_behind last b (Ok ([], rest)) n = absurd (omega (arith, n.3))
probe_behind last b (Ok (flow ∷ [], rest)) n = (refl, (n.0, rest, n.2, n.1))
probe_behind last b (Ok (flow ∷ more ∷ others, rest)) n = absurd (omega (arith, n.3))
probe_behind last b (Err (Unknown told)) n = absurd n
probe_behind last b (Err (Malformed begins)) n = inr (inr (inr (inr (inl (refl, at_front 1 b n.0 begins n.1 n.2)))))
probe_behind last b (Err (BadOffset begins)) n = absurd n

pub probe_is : (last : Option Numbers) (b : List ℕ) → IsBytes b → DataReading last 0x18 b (probe_then b)
unfolding probe_then
probe_is last b fits = probe_behind last b (numbers_then 1 (length b) b) (numbers_are 1 (length b) b fits (omega arith))

pub probe_found : (flow : ℕ) (b : List ℕ) → NumbersStand (flow ∷ []) b → probe_then b ≡ Ok (Probe flow)
unfolding probe_then
probe_found flow b h = rw (numbers_found (flow ∷ []) (length b) b h.0 h.1 h.3 h.2) refl

pub probe_broken : (b : List ℕ) (at : ℕ) → NumbersBreak 1 b at → probe_then b ≡ Err (Malformed at)
unfolding probe_then
probe_broken b at h = rw (front_broken 1 b at h) refl

exception_behind : (last : Option Numbers) (b : List ℕ) (r : Result (List ℕ × List ℕ) DataFault) → NumbersAre 2 (length b - length b) b r
    → DataReading last 0x5e b (r >>= λ numbers. Ok (Exception (get_or numbers.0 0 0) (get_or numbers.0 1 0)))
exception_behind last b (Ok ([], rest)) n = absurd (omega (arith, n.3))
exception_behind last b (Ok (flow ∷ [], rest)) n = absurd (omega (arith, n.3))
exception_behind last b (Ok (flow ∷ code ∷ [], rest)) n = (refl, (n.0, rest, n.2, n.1))
exception_behind last b (Ok (flow ∷ code ∷ more ∷ others, rest)) n = absurd (omega (arith, n.3))
exception_behind last b (Err (Unknown told)) n = absurd n
exception_behind last b (Err (Malformed begins)) n = inr (inr (inr (inr (inr (refl, at_front 2 b n.0 begins n.1 n.2)))))
exception_behind last b (Err (BadOffset begins)) n = absurd n

pub exception_is : (last : Option Numbers) (b : List ℕ) → IsBytes b → DataReading last 0x5e b (exception_then b)
unfolding exception_then
exception_is last b fits = exception_behind last b (numbers_then 2 (length b) b) (numbers_are 2 (length b) b fits (omega arith))

pub exception_found : (flow code : ℕ) (b : List ℕ) → NumbersStand (flow ∷ code ∷ []) b → exception_then b ≡ Ok (Exception flow code)
unfolding exception_then
exception_found flow code b h = rw (numbers_found (flow ∷ code ∷ []) (length b) b h.0 h.1 h.3 h.2) refl

pub exception_broken : (b : List ℕ) (at : ℕ) → NumbersBreak 2 b at → exception_then b ≡ Err (Malformed at)
unfolding exception_then
exception_broken b at h = rw (front_broken 2 b at h) refl
