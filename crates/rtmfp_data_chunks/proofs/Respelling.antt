-- What is written spells the same chunk.
use Rattle.std.proofs.Common.{◌≡◌, ℕ, ◌-◌, ◌^◌, ◌<◌, ◌≤◌, Bool, true, false, eqb, List, [], ◌∷◌, ◌++◌, Option, is_some, refl, sym, ap, append_assoc, arith}
use Rattle.std.proofs.lemmas.List.{append-nil}
use Rattle.std.specs.Int.{bit_at}
use Rattle.rtmfp_vlu.specs.Vlu.{vlu}
use Rattle.rtmfp_vlu.proofs.Fields.{vlu-spells}
use Rattle.rtmfp_data_chunks.specs.declared.user_data.Part.{Part}
use Rattle.rtmfp_data_chunks.specs.declared.user_data.Part.TheVariants.{Whole, Begin, End, Middle}
use Rattle.rtmfp_data_chunks.specs.declared.user_data.Numbers.{Numbers}
use Rattle.rtmfp_data_chunks.specs.Chunk.{UserParts, Data, Next, AckBitmap, AckRanges, Probe, Exception}
use Rattle.rtmfp_data_chunks.specs.Fields.{NumbersSpell, part_number, FlagsTell, OptionsStand}
use Rattle.rtmfp_data_chunks.specs.Acks.{BitsFit, PairsTell}
use Rattle.rtmfp_data_chunks.specs.Spelling.{IsBehind, UserSpells, HasNext, Follows, NextSpells, BitmapSpells, AckRangesSpell, NumbersStand}
use Rattle.rtmfp_data_chunks.specs.Writing.{bit, flags_of, list_bytes, body_bytes, payload_bytes}

-- ---- flags

bit_le : (b : Bool) → bit b ≤ 1
bit_le true = omega arith
bit_le false = omega arith

part_le : (p : Part) → part_number p ≤ 3
part_le Whole = omega arith
part_le Begin = omega arith
part_le End = omega arith
part_le Middle = omega arith

bit_again : (b : Bool) (n : ℕ) → n ≡ bit b → eqb n 1 ≡ b
bit_again true n e = rw e refl
bit_again false n e = rw e refl

pub flags_tell : (user : UserParts) → FlagsTell (flags_of user) user
flags_tell user =
    let o = bit_le (is_some user.options) in
    let a = bit_le user.abandon in
    let l = bit_le user.last in
    let p = part_le user.part in
    record {
      options = bit_again (is_some user.options) (bit_at (flags_of user) 7) (omega (arith, o, a, l, p));
      part = omega (arith, o, a, l, p);
      abandon = bit_again user.abandon (bit_at (flags_of user) 1) (omega (arith, o, a, l, p));
      last = bit_again user.last (bit_at (flags_of user) 0) (omega (arith, o, a, l, p));
    }

-- ---- numbers

one_spelled : (a : ℕ) → a < 2 ^ 64 → NumbersSpell (a ∷ []) (vlu a)
one_spelled a fa = (vlu a, [], vlu-spells a fa, sym (append-nil (vlu a)), refl)

two_spelled : (a b : ℕ) → a < 2 ^ 64 → b < 2 ^ 64 → NumbersSpell (a ∷ b ∷ []) (vlu a ++ vlu b)
two_spelled a b fa fb = (vlu a, vlu b, vlu-spells a fa, refl, one_spelled b fb)

three_spelled : (a b d : ℕ) → a < 2 ^ 64 → b < 2 ^ 64 → d < 2 ^ 64 → NumbersSpell (a ∷ b ∷ d ∷ []) (vlu a ++ (vlu b ++ vlu d))
three_spelled a b d fa fb fd = (vlu a, vlu b ++ vlu d, vlu-spells a fa, refl, two_spelled b d fb fd)

joined : (a b d rest : List ℕ) → a ++ (b ++ (d ++ rest)) ≡ (a ++ (b ++ d)) ++ rest
joined a b d rest = simp append_assoc

-- ---- each chunk

pub data_spelled : (user : UserParts) → user.flow < 2 ^ 64 → user.seq < 2 ^ 64 → IsBehind user.forward user.seq user.abandon → OptionsStand user.options (list_bytes user.options)
    → UserSpells user (payload_bytes (Data user))
data_spelled user flow seq behind stand = record {
  flags = flags_of user;
  numbers = vlu user.flow ++ vlu user.seq;
  offset = vlu (user.seq - user.forward);
  options = list_bytes user.options;
  tell = flags_tell user;
  flow_seq = two_spelled user.flow user.seq flow seq;
  is_behind = behind;
  forward = vlu-spells (user.seq - user.forward) (omega (arith, seq));
  stand = stand;
  whole = ap (λ (t : List ℕ). flags_of user ∷ t) (sym (append_assoc (vlu user.flow) (vlu user.seq) (vlu (user.seq - user.forward) ++ body_bytes user)));
}

pub next_spelled : (user : UserParts) (last : Option Numbers) → HasNext last × Follows user last → OptionsStand user.options (list_bytes user.options) → NextSpells user last (payload_bytes (Next user))
next_spelled user last can stand = record {
  flags = flags_of user;
  options = list_bytes user.options;
  tell = flags_tell user;
  has_next = can.0;
  follows = can.1;
  stand = stand;
  whole = refl;
}

pub bitmap_spelled : (flow blocks upto : ℕ) (bits : List ℕ) → flow < 2 ^ 64 → blocks < 2 ^ 64 → upto < 2 ^ 64 → BitsFit upto bits → BitmapSpells flow blocks upto bits (payload_bytes (AckBitmap flow blocks upto bits))
bitmap_spelled flow blocks upto bits f b u fit = record {
  numbers = vlu flow ++ (vlu blocks ++ vlu upto);
  spell = three_spelled flow blocks upto f b u;
  fit = fit;
  whole = joined (vlu flow) (vlu blocks) (vlu upto) bits;
}

pub ranges_spelled : (flow blocks upto : ℕ) (pairs : List ℕ) → flow < 2 ^ 64 → blocks < 2 ^ 64 → upto < 2 ^ 64 → (spans : List (ℕ × ℕ)) × PairsTell upto spans pairs
    → AckRangesSpell flow blocks upto pairs (payload_bytes (AckRanges flow blocks upto pairs))
ranges_spelled flow blocks upto pairs f b u told = record {
  numbers = vlu flow ++ (vlu blocks ++ vlu upto);
  spans = told.0;
  spell = three_spelled flow blocks upto f b u;
  tell = told.1;
  whole = joined (vlu flow) (vlu blocks) (vlu upto) pairs;
}

pub probe_spelled : (flow : ℕ) → flow < 2 ^ 64 → NumbersStand (flow ∷ []) (payload_bytes (Probe flow))
probe_spelled flow f = (vlu flow, [], one_spelled flow f, sym (append-nil (vlu flow)))

pub exception_spelled : (flow code : ℕ) → flow < 2 ^ 64 → code < 2 ^ 64 → NumbersStand (flow ∷ code ∷ []) (payload_bytes (Exception flow code))
exception_spelled flow code f d = (vlu flow ++ vlu code, [], two_spelled flow code f d, sym (append-nil (vlu flow ++ vlu code)))
