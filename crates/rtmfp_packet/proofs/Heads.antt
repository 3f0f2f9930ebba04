-- The parts of a head make a spelling of it.
use Rattle.std.proofs.Common.{◌≡◌, ℕ, ◌+◌, ◌/◌, ◌%◌, ◌<◌, Bool, List, ◌∷◌, ◌++◌, length, Option, Some, None, is_some, refl, sym, ap, ◌∙◌, append_assoc, arith, subst}
use Rattle.std.proofs.lemmas.List.{length-append}
use Rattle.rtmfp_packet.specs.declared.head.Mode.{Mode}
use Rattle.rtmfp_packet.specs.declared.head.Mode.TheVariants.{Initiator, Responder, Startup}
use Rattle.rtmfp_packet.specs.declared.head.PacketHead.{PacketHead}
use Rattle.rtmfp_packet.specs.Head.{HeadSpells, FlagsTell, IsModeZero, IsShortStamp, IsStamp, stamp_bytes, flag, flagged_len, mode_number}

pub head_spelled : (flags : ℕ) (head : PacketHead) (b after rest : List ℕ) → FlagsTell flags head → IsStamp head.stamp → IsStamp head.echo →
    b ≡ stamp_bytes head.stamp ++ after → after ≡ stamp_bytes head.echo ++ rest →
    (front : List ℕ) × HeadSpells head front × (flags ∷ b ≡ front ++ rest)
head_spelled flags head b after rest tell stamp echo first second = (
  flags ∷ (stamp_bytes head.stamp ++ stamp_bytes head.echo),
  record { flags = flags; tell = tell; stamp = stamp; echo = echo; joined = refl },
  ap (λ xs. flags ∷ xs) (first ∙ ap (λ xs. stamp_bytes head.stamp ++ xs) second ∙ sym (append_assoc (stamp_bytes head.stamp) (stamp_bytes head.echo) rest)),
)

stamp_same : (a b : Option ℕ) (r s : List ℕ) → is_some a ≡ is_some b → IsStamp a → IsStamp b → stamp_bytes a ++ r ≡ stamp_bytes b ++ s → (a ≡ b) × (r ≡ s)
stamp_same None None r s i p q e = (refl, e)
stamp_same None (Some b) r s i p q e = absurd (cc)
stamp_same (Some a) None r s i p q e = absurd (cc)
stamp_same (Some a) (Some b) r s i p q e =
    let high : a / 256 % 256 ≡ b / 256 % 256 = cc in
    let low : a % 256 ≡ b % 256 = cc in
    let same : a ≡ b = omega (arith, p, q, high, low) in
    (ap Some same, cc)

mode_same : (a b : Mode) → mode_number a ≡ mode_number b → a ≡ b
mode_same Initiator Initiator e = refl
mode_same Initiator Responder e = absurd (cc)
mode_same Initiator Startup e = absurd (cc)
mode_same Responder Initiator e = absurd (cc)
mode_same Responder Responder e = refl
mode_same Responder Startup e = absurd (cc)
mode_same Startup Initiator e = absurd (cc)
mode_same Startup Responder e = absurd (cc)
mode_same Startup Startup e = refl

told_same : (flags : ℕ) (a b : PacketHead) → FlagsTell flags a → FlagsTell flags b → a.stamp ≡ b.stamp → a.echo ≡ b.echo → a ≡ b
told_same flags a b p q stamp echo =
    ap (λ x. record { critical = x; reverse = a.reverse; stamp = a.stamp; echo = a.echo; mode = a.mode }) (sym p.critical ∙ q.critical)
    ∙ ap (λ x. record { critical = b.critical; reverse = x; stamp = a.stamp; echo = a.echo; mode = a.mode }) (sym p.reverse ∙ q.reverse)
    ∙ ap (λ x. record { critical = b.critical; reverse = b.reverse; stamp = x; echo = a.echo; mode = a.mode }) stamp
    ∙ ap (λ x. record { critical = b.critical; reverse = b.reverse; stamp = b.stamp; echo = x; mode = a.mode }) echo
    ∙ ap (λ x. record { critical = b.critical; reverse = b.reverse; stamp = b.stamp; echo = b.echo; mode = x }) (mode_same a.mode b.mode (sym p.mode ∙ q.mode))

behind_same : (flags : ℕ) (a b : PacketHead) (r s : List ℕ) → FlagsTell flags a → FlagsTell flags b → IsStamp a.stamp → IsStamp a.echo → IsStamp b.stamp → IsStamp b.echo →
    (stamp_bytes a.stamp ++ stamp_bytes a.echo) ++ r ≡ (stamp_bytes b.stamp ++ stamp_bytes b.echo) ++ s → (a ≡ b) × (r ≡ s)
behind_same flags a b r s p q as1 as2 bs1 bs2 e =
    let spread = sym (append_assoc (stamp_bytes a.stamp) (stamp_bytes a.echo) r) ∙ e ∙ append_assoc (stamp_bytes b.stamp) (stamp_bytes b.echo) s in
    let first = stamp_same a.stamp b.stamp (stamp_bytes a.echo ++ r) (stamp_bytes b.echo ++ s) (sym p.stamp ∙ q.stamp) as1 bs1 spread in
    let second = stamp_same a.echo b.echo r s (sym p.echo ∙ q.echo) as2 bs2 first.1 in
    (told_same flags a b p q first.0 second.0, second.1)

mode_not_zero : (flags : ℕ) (mode : Mode) → flags % 4 ≡ mode_number mode → flags % 4 ≡ 0 → ⊥
mode_not_zero flags Initiator e z = cc
mode_not_zero flags Responder e z = cc
mode_not_zero flags Startup e z = cc

length-stamp : (flagged : Bool) (stamp : Option ℕ) → flagged ≡ is_some stamp → length (stamp_bytes stamp) ≡ flagged_len flagged
length-stamp flagged None e = sym (ap flagged_len e)
length-stamp flagged (Some s) e = sym (ap flagged_len e)

stamps_not_short : (flags : ℕ) (stamp echo : Option ℕ) (r : List ℕ) → flag flags 3 ≡ is_some stamp → flag flags 2 ≡ is_some echo →
    length ((stamp_bytes stamp ++ stamp_bytes echo) ++ r) < flagged_len (flag flags 3) + flagged_len (flag flags 2) → ⊥
stamps_not_short flags stamp echo r p q short =
    omega (arith, short, length-stamp (flag flags 3) stamp p, length-stamp (flag flags 2) echo q, length-append (stamp_bytes stamp ++ stamp_bytes echo) r, length-append (stamp_bytes stamp) (stamp_bytes echo))

-- bytes begin with one head at most
pub head_same : (a b : PacketHead) (front back r s : List ℕ) → HeadSpells a front → HeadSpells b back → front ++ r ≡ back ++ s → (a ≡ b) × (r ≡ s)
head_same a b front back r s p q e =
    let heads : p.flags ∷ ((stamp_bytes a.stamp ++ stamp_bytes a.echo) ++ r) ≡ q.flags ∷ ((stamp_bytes b.stamp ++ stamp_bytes b.echo) ++ s) =
    ap (λ xs. xs ++ r) (sym p.joined) ∙ e ∙ ap (λ xs. xs ++ s) q.joined in
    let flags : p.flags ≡ q.flags = cc in
    let rest : (stamp_bytes a.stamp ++ stamp_bytes a.echo) ++ r ≡ (stamp_bytes b.stamp ++ stamp_bytes b.echo) ++ s = cc in
    let T : ℕ → Type 0 = λ x. FlagsTell x a in
    behind_same q.flags a b r s (subst T flags p.tell) q.tell p.stamp p.echo q.stamp q.echo rest

-- what begins with a head has a mode
pub head_has_mode : (h : PacketHead) (front r : List ℕ) → HeadSpells h front → IsModeZero (front ++ r) → ⊥
head_has_mode h front r p zero =
    let P : List ℕ → Type 0 = λ xs. IsModeZero (xs ++ r) in
    mode_not_zero p.flags h.mode p.tell.mode (subst P p.joined zero)

-- what begins with a head has the timestamps that it flags
pub head_has_stamps : (h : PacketHead) (front r : List ℕ) → HeadSpells h front → IsShortStamp (front ++ r) → ⊥
head_has_stamps h front r p short =
    let P : List ℕ → Type 0 = λ xs. IsShortStamp (xs ++ r) in
    let at_flags = subst P p.joined short in
    stamps_not_short p.flags h.stamp h.echo r p.tell.stamp p.tell.echo at_flags.1
