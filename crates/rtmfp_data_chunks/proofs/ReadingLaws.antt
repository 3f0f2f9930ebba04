-- A payload reads as what its chunk's type says, and in no other way.
use Rattle.std.proofs.Common.{◌≡◌, ℕ, ◌<◌, true, false, List, Option, Some, None, Result, Ok, Err, IfOk, refl, sym, ap, subst, ◌∙◌, inl, inr, arith}
use Rattle.std.proofs.lemmas.Bool.{cases_eq, ne_eqb}
use Rattle.rtmfp_vlu.proofs.Bytes.{IsBytes}
use Rattle.rtmfp_forms.specs.OptionReading.{◌>>=◌}
use Rattle.rtmfp_data_chunks.specs.declared.user_data.Numbers.{Numbers}
use Rattle.rtmfp_data_chunks.specs.declared.view.DataFault.{DataFault}
use Rattle.rtmfp_data_chunks.specs.declared.view.DataFault.TheVariants.{Unknown, Malformed, BadOffset}
use Rattle.rtmfp_data_chunks.specs.declared.view.DataView.{DataView}
use Rattle.rtmfp_data_chunks.specs.Chunk.{data_chunk, UserParts, DataChunk, Data, Next, AckBitmap, AckRanges, Probe, Exception}
use Rattle.rtmfp_data_chunks.specs.Spelling.{is_known, DataSpells, DataReading, shown, before_next, IsOrdered}
use Rattle.rtmfp_data_chunks.specs.Writing.{IsDataChunk}
use Rattle.rtmfp_data_chunks.specs.Reader.{Shows, data_then, next_then, bitmap_then, ack_ranges_then, probe_then, exception_then, data_reading}
use Rattle.rtmfp_data_chunks.proofs.UserLaws.{DataIs, data_is, data_found, data_bad, data_broken, NextIs, next_is, next_found, next_broken}
use Rattle.rtmfp_data_chunks.proofs.AckLaws.{bitmap_is, bitmap_found, bitmap_broken, ranges_is, ranges_found, ranges_broken, probe_is, probe_found, probe_broken, exception_is, exception_found, exception_broken}

-- ---- what the function gives is so

data_read : (last : Option Numbers) (b : List ℕ) (r : Result UserParts DataFault) → DataIs b r → DataReading last 0x10 b (r >>= λ user. Ok (Data user))
data_read last b (Ok user) h = (refl, h)
data_read last b (Err (Unknown told)) h = absurd h
data_read last b (Err (Malformed at)) h = inl (refl, h)
data_read last b (Err (BadOffset at)) h = (refl, h)

next_read : (last : Option Numbers) (b : List ℕ) (r : Result UserParts DataFault) → NextIs last b r → DataReading last 0x11 b (r >>= λ user. Ok (Next user))
next_read last b (Ok user) h = (refl, h)
next_read last b (Err (Unknown told)) h = absurd h
next_read last b (Err (Malformed at)) h = inr (inl (refl, h))
next_read last b (Err (BadOffset at)) h = absurd h

pub data_reads : (last : Option Numbers) (kind : ℕ) (b : List ℕ) → IsBytes b → DataReading last kind b (data_reading last kind b)
unfolding data_reading
data_reads last kind b fits =
    elim (cases_eq kind 0x10) [
      | inl e ↦ rw e (data_read last b (data_then b) (data_is b fits))
      | inr n1 ↦ rw (ne_eqb kind 0x10 n1)
          (elim (cases_eq kind 0x11) [
            | inl e ↦ rw e (next_read last b (next_then last b) (next_is last b fits))
            | inr n2 ↦ rw (ne_eqb kind 0x11 n2)
                (elim (cases_eq kind 0x50) [
                  | inl e ↦ rw e (bitmap_is last b fits)
                  | inr n3 ↦ rw (ne_eqb kind 0x50 n3)
                      (elim (cases_eq kind 0x51) [
                        | inl e ↦ rw e (ranges_is last b fits)
                        | inr n4 ↦ rw (ne_eqb kind 0x51 n4)
                            (elim (cases_eq kind 0x18) [
                              | inl e ↦ rw e (probe_is last b fits)
                              | inr n5 ↦ rw (ne_eqb kind 0x18 n5)
                                  (elim (cases_eq kind 0x5e) [
                                    | inl e ↦ rw e (exception_is last b fits)
                                    | inr n6 ↦ rw (ne_eqb kind 0x5e n6)
                                        (refl, rw (ne_eqb kind 0x10 n1, ne_eqb kind 0x11 n2, ne_eqb kind 0x50 n3, ne_eqb kind 0x51 n4, ne_eqb kind 0x18 n5, ne_eqb kind 0x5e n6) refl)
                                  ])
                            ])
                      ])
                ])
          ])
    ]

-- ---- what is so is what the function gives

abbrev as_data : UserParts → Result DataChunk DataFault
as_data user = Ok (Data user)

abbrev as_next : UserParts → Result DataChunk DataFault
as_next user = Ok (Next user)

at_data : (last : Option Numbers) (kind : ℕ) (b : List ℕ) → kind ≡ 0x10 → data_reading last kind b ≡ (data_then b >>= as_data)
unfolding data_reading
at_data last kind b e = rw e refl

at_next : (last : Option Numbers) (kind : ℕ) (b : List ℕ) → kind ≡ 0x11 → data_reading last kind b ≡ (next_then last b >>= as_next)
unfolding data_reading
at_next last kind b e = rw e refl

at_bitmap : (last : Option Numbers) (kind : ℕ) (b : List ℕ) → kind ≡ 0x50 → data_reading last kind b ≡ bitmap_then b
unfolding data_reading
at_bitmap last kind b e = rw e refl

at_ranges : (last : Option Numbers) (kind : ℕ) (b : List ℕ) → kind ≡ 0x51 → data_reading last kind b ≡ ack_ranges_then b
unfolding data_reading
at_ranges last kind b e = rw e refl

at_probe : (last : Option Numbers) (kind : ℕ) (b : List ℕ) → kind ≡ 0x18 → data_reading last kind b ≡ probe_then b
unfolding data_reading
at_probe last kind b e = rw e refl

at_exception : (last : Option Numbers) (kind : ℕ) (b : List ℕ) → kind ≡ 0x5e → data_reading last kind b ≡ exception_then b
unfolding data_reading
at_exception last kind b e = rw e refl

at_unknown : (last : Option Numbers) (kind : ℕ) (b : List ℕ) → is_known kind ≡ false → data_reading last kind b ≡ Err (Unknown kind)
unfolding data_reading
at_unknown last kind b none =
    let apart : (n : ℕ) → is_known n ≡ true → kind ≡ n → ⊥ = λ n known e. absurd (cc (none, known, ap is_known e)) in
    rw (ne_eqb kind 0x10 (apart 0x10 refl), ne_eqb kind 0x11 (apart 0x11 refl), ne_eqb kind 0x50 (apart 0x50 refl), ne_eqb kind 0x51 (apart 0x51 refl), ne_eqb kind 0x18 (apart 0x18 refl), ne_eqb kind 0x5e (apart 0x5e refl)) refl

-- of an ack by bits only the eight bits of each byte count
pub data_reading_is : (last : Option Numbers) (kind : ℕ) (b : List ℕ) (r : Result DataChunk DataFault) → (kind ≡ 0x50 → IsBytes b) → DataReading last kind b r → data_reading last kind b ≡ r
data_reading_is last kind b (Ok (Data user)) fits (e, h) = at_data last kind b e ∙ ap (λ x. x >>= as_data) (data_found b user h)
data_reading_is last kind b (Ok (Next user)) fits (e, h) = at_next last kind b e ∙ ap (λ x. x >>= as_next) (next_found last b user h)
data_reading_is last kind b (Ok (AckBitmap flow blocks upto bits)) fits (e, h) = at_bitmap last kind b e ∙ bitmap_found flow blocks upto bits b (fits e) h
data_reading_is last kind b (Ok (AckRanges flow blocks upto pairs)) fits (e, h) = at_ranges last kind b e ∙ ranges_found flow blocks upto pairs b h
data_reading_is last kind b (Ok (Probe flow)) fits (e, h) = at_probe last kind b e ∙ probe_found flow b h
data_reading_is last kind b (Ok (Exception flow code)) fits (e, h) = at_exception last kind b e ∙ exception_found flow code b h
data_reading_is last kind b (Err (Unknown told)) fits (e, none) = at_unknown last kind b none ∙ ap (λ (n : ℕ). Err (Unknown n)) (sym e)
data_reading_is last kind b (Err (Malformed at)) fits (inl (e, h)) = at_data last kind b e ∙ ap (λ x. x >>= as_data) (data_broken b at h)
data_reading_is last kind b (Err (Malformed at)) fits (inr (inl (e, h))) = at_next last kind b e ∙ ap (λ x. x >>= as_next) (next_broken last b at h)
data_reading_is last kind b (Err (Malformed at)) fits (inr (inr (inl (e, h)))) = at_bitmap last kind b e ∙ bitmap_broken b at (fits e) h
data_reading_is last kind b (Err (Malformed at)) fits (inr (inr (inr (inl (e, h))))) = at_ranges last kind b e ∙ ranges_broken b at h
data_reading_is last kind b (Err (Malformed at)) fits (inr (inr (inr (inr (inl (e, h)))))) = at_probe last kind b e ∙ probe_broken b at h
data_reading_is last kind b (Err (Malformed at)) fits (inr (inr (inr (inr (inr (e, h)))))) = at_exception last kind b e ∙ exception_broken b at h
data_reading_is last kind b (Err (BadOffset at)) fits (e, h) = at_data last kind b e ∙ ap (λ x. x >>= as_data) (data_bad b at h)

-- ---- what the reader's answer shows

pub shown_is : (r : Result DataView DataFault) (read : Result DataChunk DataFault) → Shows data_chunk r read → read ≡ shown r
shown_is (Ok view) read h = h
shown_is (Err fault) read h = h

pub reads_shown : (last : Option Numbers) (kind : ℕ) (b : List ℕ) (r : Result DataView DataFault) → IsBytes b → Shows data_chunk r (data_reading last kind b) → DataReading last kind b (shown r)
reads_shown last kind b r fits h = subst (DataReading last kind b) (shown_is r (data_reading last kind b) h) (data_reads last kind b fits)

pub only_shown : (last : Option Numbers) (kind : ℕ) (b : List ℕ) (r : Result DataView DataFault) → IsBytes b → Shows data_chunk r (data_reading last kind b)
    → (other : Result DataChunk DataFault) → DataReading last kind b other → other ≡ shown r
only_shown last kind b r fits h other reading = sym (data_reading_is last kind b other (λ bits. fits) reading) ∙ shown_is r (data_reading last kind b) h

-- ---- what is read can be written, and is ordered

pub can_write : (last : Option Numbers) (kind : ℕ) (b : List ℕ) (chunk : DataChunk) → IsOrdered last → DataSpells chunk last kind b → IsDataChunk chunk
can_write last kind b (Data user) ordered (e, h) = h.is_behind
can_write None kind b (Next user) ordered (e, h) = absurd h.has_next
can_write (Some before) kind b (Next user) ordered (e, h) =
    let forward : user.forward < user.seq = omega (arith, h.follows, ordered) in
    (omega (arith, forward), λ same. absurd (omega (arith, forward, same)))
can_write last kind b (AckBitmap flow blocks upto bits) ordered (e, h) = h.fit
can_write last kind b (AckRanges flow blocks upto pairs) ordered (e, h) = (h.spans, h.tell)
can_write last kind b (Probe flow) ordered h = tt
can_write last kind b (Exception flow code) ordered h = tt

pub view_whole : (last : Option Numbers) (kind : ℕ) (b : List ℕ) (r : Result DataView DataFault) → IsOrdered last → DataReading last kind b (shown r) → IfOk r (λ view. IsDataChunk (data_chunk view))
view_whole last kind b (Ok view) ordered h = can_write last kind b (data_chunk view) ordered h
view_whole last kind b (Err fault) ordered h = tt

pub stays_ordered : (last : Option Numbers) (kind : ℕ) (b : List ℕ) (r : Result DataChunk DataFault) → IsOrdered last → DataReading last kind b r → IsOrdered (before_next r)
stays_ordered last kind b (Ok (Data user)) ordered h = (can_write last kind b (Data user) ordered h).0
stays_ordered last kind b (Ok (Next user)) ordered h = (can_write last kind b (Next user) ordered h).0
stays_ordered last kind b (Ok (AckBitmap flow blocks upto bits)) ordered h = tt
stays_ordered last kind b (Ok (AckRanges flow blocks upto pairs)) ordered h = tt
stays_ordered last kind b (Ok (Probe flow)) ordered h = tt
stays_ordered last kind b (Ok (Exception flow code)) ordered h = tt
stays_ordered last kind b (Err fault) ordered h = tt

-- ---- a payload reads in one way

pub data_reading_same : (last : Option Numbers) (kind : ℕ) (b : List ℕ) (x y : Result DataChunk DataFault) → IsBytes b → DataReading last kind b x → DataReading last kind b y → x ≡ y
data_reading_same last kind b x y fits p q = sym (data_reading_is last kind b x (λ bits. fits) p) ∙ data_reading_is last kind b y (λ bits. fits) q
