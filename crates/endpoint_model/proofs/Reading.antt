-- The packet of bytes, as one function, is what they read as.
use Rattle.std.proofs.Common.{◌≡◌, ℕ, suc, ◌+◌, ◌*◌, ◌/◌, ◌%◌, ◌<◌, ◌==◌, List, [], ◌∷◌, ◌++◌, length, Bool, true, false, is_some, Option, Some, None, refl, sym, ap, ◌∙◌, arith, length-append, if◌then◌else◌}
use Rattle.std.proofs.lemmas.Bool.Decides.{nat_tests}
use Rattle.std.specs.Int.{w16, to_be_bytes}
use Rattle.rtmfp_packet.specs.declared.head.PacketHead.{PacketHead}
use Rattle.rtmfp_packet.specs.declared.head.Mode.{Mode}
use Rattle.rtmfp_packet.specs.declared.head.Mode.TheVariants.{Initiator as FromInitiator, Responder as FromResponder, Startup as FromStartup}
use Rattle.rtmfp_packet.specs.Head.{flag, mode_number, stamp_bytes, IsStamp, flagged_len}
use Rattle.rtmfp_packet.specs.Reading.{PacketReading}
use Rattle.rtmfp_packet.proofs.Heads.{head_spelled}
use Rattle.rtmfp_packet.proofs.Readings.{packet_read}
use Rattle.rtmfp_vlu.proofs.Bytes.{IsBytes, IsBytes-tail}
use Rattle.endpoint_model.specs.Admission.{mode_in, stamp_in, with_echo, with_stamp, with_mode, packet_in}

-- two bytes as a number, and again
spelled_again : (high low : ℕ) → high < 256 → low < 256 → to_be_bytes w16 (high * 256 + low) ≡ high ∷ low ∷ []
spelled_again high low p q =
    let first : (high * 256 + low) / 256 % 256 ≡ high = omega arith in
    let second : (high * 256 + low) % 256 ≡ low = omega arith in
    ap (λ x. x ∷ (high * 256 + low) % 256 ∷ []) first ∙ ap (λ x. high ∷ x ∷ []) second

-- what a flagged stamp gives
record GivesStamp (flagged : Bool) (bytes : List ℕ) (found : Option ℕ × List ℕ) : Type 0 where
  there : flagged ≡ is_some found.0
  small : IsStamp found.0
  joined : bytes ≡ stamp_bytes found.0 ++ found.1
  rest : IsBytes found.1

abbrev StampIs : Bool → List ℕ → Option (Option ℕ × List ℕ) → Type 0
StampIs flagged bytes None = (flagged ≡ true) × (length bytes < 2)
StampIs flagged bytes (Some found) = GivesStamp flagged bytes found

stamp_is : (flagged : Bool) (bytes : List ℕ) → IsBytes bytes → StampIs flagged bytes (stamp_in flagged bytes)
stamp_is false bytes are = record { there = refl; small = tt; joined = refl; rest = are }
stamp_is true [] are = (refl, omega arith)
stamp_is true (high ∷ []) are = (refl, omega arith)
stamp_is true (high ∷ low ∷ rest) are = let p : high < 256 = are 0 in let q : low < 256 = are 1 in record {
  there = refl;
  small = omega arith;
  joined = ap (λ xs. xs ++ rest) (sym (spelled_again high low p q));
  rest = λ i. are (suc (suc i));
}

length_stamp : (flagged : Bool) (stamp : Option ℕ) → flagged ≡ is_some stamp → length (stamp_bytes stamp) ≡ flagged_len flagged
length_stamp flagged None e = ap flagged_len (sym e)
length_stamp flagged (Some stamp) e = ap flagged_len (sym e)

-- the mode that flags name
abbrev ModeIs : ℕ → Option Mode → Type 0
ModeIs flags None = flags % 4 ≡ 0
ModeIs flags (Some mode) = flags % 4 ≡ mode_number mode

named : (flags : ℕ) (a b c : Bool) → (flags % 4 == 1) ≡ a → (flags % 4 == 2) ≡ b → (flags % 4 == 3) ≡ c →
    ModeIs flags (if a then Some FromInitiator else if b then Some FromResponder else if c then Some FromStartup else None)
named flags true b c p q r = grind (arith, nat_tests)
named flags false true c p q r = grind (arith, nat_tests)
named flags false false true p q r = grind (arith, nat_tests)
named flags false false false p q r = grind (arith, nat_tests)

mode_is : (flags : ℕ) → ModeIs flags (mode_in flags)
mode_is flags = named flags (flags % 4 == 1) (flags % 4 == 2) (flags % 4 == 3) refl refl refl

mode_some : (flags : ℕ) (mode : Mode) → flags % 4 ≡ mode_number mode → flags % 4 ≡ 0 → ⊥
mode_some flags FromInitiator e z = omega arith
mode_some flags FromResponder e z = omega arith
mode_some flags FromStartup e z = omega arith

module _ (flags : ℕ) (rest : List ℕ) (are : IsBytes (flags ∷ rest)) where
  echo_reads : (mode : Mode) → flags % 4 ≡ mode_number mode → (stamp : Option ℕ × List ℕ) → GivesStamp (flag flags 3) rest stamp →
      (echo : Option (Option ℕ × List ℕ)) → StampIs (flag flags 2) stamp.1 echo → PacketReading (flags ∷ rest) (with_echo (flags ∷ rest) flags mode stamp.0 echo)
  echo_reads mode is stamp first None second = (
    mode_some flags mode is,
    omega (arith, ap flagged_len second.0, second.1, length_stamp (flag flags 3) stamp.0 first.there, ap length first.joined, length-append (stamp_bytes stamp.0) stamp.1),
  )
  echo_reads mode is stamp first (Some echo) second =
      let head : PacketHead = record { critical = flag flags 7; reverse = flag flags 6; stamp = stamp.0; echo = echo.0; mode = mode } in
      let found = head_spelled flags head rest stamp.1 echo.1
      (record { byte = are 0; critical = refl; reverse = refl; stamp = first.there; echo = second.there; mode = is })
      first.small second.small first.joined second.joined in
      packet_read head found.0 echo.1 (flags ∷ rest) found.1 found.2 are

  stamp_reads : (mode : Mode) → flags % 4 ≡ mode_number mode → (stamp : Option (Option ℕ × List ℕ)) → StampIs (flag flags 3) rest stamp →
      PacketReading (flags ∷ rest) (with_stamp (flags ∷ rest) flags mode stamp)
  stamp_reads mode is None first = (mode_some flags mode is, omega (arith, ap flagged_len first.0, first.1))
  stamp_reads mode is (Some stamp) first = echo_reads mode is stamp first (stamp_in (flag flags 2) stamp.1) (stamp_is (flag flags 2) stamp.1 first.rest)

  mode_reads : (mode : Option Mode) → ModeIs flags mode → PacketReading (flags ∷ rest) (with_mode (flags ∷ rest) flags rest mode)
  mode_reads None is = is
  mode_reads (Some mode) is = stamp_reads mode is (stamp_in (flag flags 3) rest) (stamp_is (flag flags 3) rest (IsBytes-tail flags rest are))

pub packet_reads : (b : List ℕ) → IsBytes b → PacketReading b (packet_in b)
unfolding packet_in
packet_reads [] are = refl
packet_reads (flags ∷ rest) are = mode_reads flags rest are (mode_in flags) (mode_is flags)
