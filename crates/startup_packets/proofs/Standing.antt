-- Where the fields of a keying's payload stand.
use Rattle.std.proofs.Common.{◌≡◌, ℕ, ◌+◌, List, ◌++◌, length, take, drop, Result, Ok, refl, ap, ◌∙◌, sym, append_assoc, arith}
use Rattle.std.proofs.Math.Seq.{drop-append_seam, take-append_seam}
use Rattle.std.proofs.lemmas.List.{length-append}
use Rattle.rtmfp_vlu.specs.Vlu.{VluSpells}
use Rattle.rtmfp_vlu.specs.Reading.{number_at}
use Rattle.rtmfp_vlu.specs.declared.reading.VluFault.{VluFault}
use Rattle.rtmfp_vlu.proofs.Fields.{stands}
use Rattle.rtmfp_vlu.proofs.Decoded.{reads_number}
use Rattle.startup_packets.specs.Readings.{bytes_used, behind_vlu, cert_offset, part_offset}
use Rattle.startup_packets.specs.Offsets.{CertificateStandsThere, PartStandsThere}

-- behind a number that is spelled after these bytes
behind_number : (v : ℕ) (before s rest : List ℕ) → VluSpells v s → behind_vlu (before ++ (s ++ rest)) (length before) ≡ length before + length s
behind_number v before s rest spells =
    let at = stands v (s ++ rest) s rest refl spells in
    let read : number_at (s ++ rest) ≡ Ok (v, length s) = reads_number (s ++ rest) v (length s) at.0 at.1 in
    let here : number_at (drop (length before) (before ++ (s ++ rest))) ≡ Ok (v, length s) = ap number_at (drop-append_seam before (s ++ rest)) ∙ read in
    ap (λ (found : Result (ℕ × ℕ) VluFault). length before + bytes_used found) here

-- the bytes behind five pieces
behind_pieces : (id a cookie b rest : List ℕ) (n : ℕ) → n ≡ length id + length a + length cookie + length b → drop n (id ++ (a ++ (cookie ++ (b ++ rest)))) ≡ rest
behind_pieces id a cookie b rest n e =
    let whole : id ++ (a ++ (cookie ++ (b ++ rest))) ≡ id ++ a ++ cookie ++ b ++ rest =
    sym (append_assoc id a (cookie ++ (b ++ rest))) ∙ sym (append_assoc (id ++ a) cookie (b ++ rest)) ∙ sym (append_assoc (id ++ a ++ cookie) b rest) in
    let len : n ≡ length (id ++ a ++ cookie ++ b) = omega (arith, e, length-append (id ++ a ++ cookie) b, length-append (id ++ a) cookie, length-append id a) in
    ap (λ (list : List ℕ). drop n list) whole ∙ ap (λ (k : ℕ). drop k (id ++ a ++ cookie ++ b ++ rest)) len ∙ drop-append_seam (id ++ a ++ cookie ++ b) rest

pub certificate_stands_there : CertificateStandsThere
unfolding cert_offset
certificate_stands_there id a cookie b cert others four spelled_a spelled_b =
    let payload : List ℕ = id ++ (a ++ (cookie ++ (b ++ (cert ++ others)))) in
    let first : behind_vlu payload 4 ≡ 4 + length a =
    ap (λ (n : ℕ). behind_vlu payload n) (sym four) ∙ behind_number (length cookie) id a (cookie ++ (b ++ (cert ++ others))) spelled_a ∙ ap (λ (n : ℕ). n + length a) four in
    let before : List ℕ = id ++ a ++ cookie in
    let grouped : payload ≡ before ++ (b ++ (cert ++ others)) =
    sym (append_assoc id a (cookie ++ (b ++ (cert ++ others)))) ∙ sym (append_assoc (id ++ a) cookie (b ++ (cert ++ others))) in
    let len : behind_vlu payload 4 + length cookie ≡ length before = omega (arith, first, four, length-append (id ++ a) cookie, length-append id a) in
    let second : cert_offset payload (length cookie) ≡ length before + length b =
    ap (λ (n : ℕ). behind_vlu payload n) len ∙ ap (λ (list : List ℕ). behind_vlu list (length before)) grouped ∙ behind_number (length cert) before b (cert ++ others) spelled_b in
    let sum : cert_offset payload (length cookie) ≡ length id + length a + length cookie + length b = omega (arith, second, length-append (id ++ a) cookie, length-append id a) in
    ap (λ (list : List ℕ). take (length cert) list) (behind_pieces id a cookie b (cert ++ others) (cert_offset payload (length cookie)) sum) ∙ take-append_seam cert others

pub part_stands_there : PartStandsThere
part_stands_there before part sign =
    let offset : part_offset (before ++ (part ++ sign)) part sign ≡ length before = omega (arith, length-append before (part ++ sign), length-append part sign) in
    ap (λ (n : ℕ). take (length part) (drop n (before ++ (part ++ sign)))) offset
    ∙ ap (λ (list : List ℕ). take (length part) list) (drop-append_seam before (part ++ sign)) ∙ take-append_seam part sign
