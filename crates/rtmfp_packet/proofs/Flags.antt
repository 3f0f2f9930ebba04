-- The flags that are written tell the head.
use Rattle.std.proofs.Common.{◌≡◌, ℕ, ◌+◌, ◌*◌, ◌%◌, ◌<◌, ◌≤◌, Bool, true, false, is_some, refl, ap, ◌∙◌, arith, if◌then◌else◌}
use Rattle.std.specs.Prelude.{◌==◌}
use Rattle.std.specs.Int.{bit_at}
use Rattle.rtmfp_packet.specs.declared.head.Mode.{Mode}
use Rattle.rtmfp_packet.specs.declared.head.Mode.TheVariants.{Initiator, Responder, Startup}
use Rattle.rtmfp_packet.specs.declared.head.PacketHead.{PacketHead}
use Rattle.rtmfp_packet.specs.Head.{FlagsTell, HeadSpells, IsStamp, flag_value, head_flags, head_bytes, mode_number}

-- a bit as a number
bit : Bool → ℕ
bit b = if b then 1 else 0

bit_is : (b : Bool) (k : ℕ) → flag_value b k ≡ bit b * k
unfolding bit
bit_is true k = omega arith
bit_is false k = omega arith

bit_small : (b : Bool) → bit b ≤ 1
unfolding bit
bit_small true = omega arith
bit_small false = omega arith

bit_back : (b : Bool) → (bit b == 1) ≡ b
unfolding bit
bit_back true = refl
bit_back false = refl

mode_small : (mode : Mode) → mode_number mode < 4
mode_small Initiator = omega arith
mode_small Responder = omega arith
mode_small Startup = omega arith

-- what bits and a mode add up to
record Sums (c r s e m flags : ℕ) : Type 0 where
  sum : flags ≡ c * 128 + r * 64 + s * 8 + e * 4 + m
  c_small : c ≤ 1
  r_small : r ≤ 1
  s_small : s ≤ 1
  e_small : e ≤ 1
  m_small : m < 4

sums : (head : PacketHead) → Sums (bit head.critical) (bit head.reverse) (bit (is_some head.stamp)) (bit (is_some head.echo)) (mode_number head.mode) (head_flags head)
sums head = record {
  sum = omega (arith, bit_is head.critical 128, bit_is head.reverse 64, bit_is (is_some head.stamp) 8, bit_is (is_some head.echo) 4);
  c_small = bit_small head.critical;
  r_small = bit_small head.reverse;
  s_small = bit_small (is_some head.stamp);
  e_small = bit_small (is_some head.echo);
  m_small = mode_small head.mode;
}

highest : (c r s e m flags : ℕ) → Sums c r s e m flags → bit_at flags 7 ≡ c
highest c r s e m flags h = omega arith

second : (c r s e m flags : ℕ) → Sums c r s e m flags → bit_at flags 6 ≡ r
second c r s e m flags h = omega arith

fifth : (c r s e m flags : ℕ) → Sums c r s e m flags → bit_at flags 3 ≡ s
fifth c r s e m flags h = omega arith

sixth : (c r s e m flags : ℕ) → Sums c r s e m flags → bit_at flags 2 ≡ e
sixth c r s e m flags h = omega arith

lowest : (c r s e m flags : ℕ) → Sums c r s e m flags → flags % 4 ≡ m
lowest c r s e m flags h = omega arith

small : (c r s e m flags : ℕ) → Sums c r s e m flags → flags < 256
small c r s e m flags h = omega arith

told : (b : Bool) (n : ℕ) → n ≡ bit b → (n == 1) ≡ b
told b n e = ap (λ k. k == 1) e ∙ bit_back b

pub flags_tell : (head : PacketHead) → FlagsTell (head_flags head) head
flags_tell head =
    let h = sums head in
    record {
      byte = small _ _ _ _ _ (head_flags head) h;
      critical = told head.critical _ (highest _ _ _ _ _ (head_flags head) h);
      reverse = told head.reverse _ (second _ _ _ _ _ (head_flags head) h);
      stamp = told (is_some head.stamp) _ (fifth _ _ _ _ _ (head_flags head) h);
      echo = told (is_some head.echo) _ (sixth _ _ _ _ _ (head_flags head) h);
      mode = lowest _ _ _ _ _ (head_flags head) h;
    }

pub head_bytes-spells : (head : PacketHead) → IsStamp head.stamp → IsStamp head.echo → HeadSpells head (head_bytes head)
head_bytes-spells head stamp echo = record { flags = head_flags head; tell = flags_tell head; stamp = stamp; echo = echo; joined = refl }
