-- A packet is read where the bytes spell one, and it is the only one that they spell.
use Rattle.std.proofs.Common.{◌≡◌, ℕ, suc, ◌-◌, ◌<◌, ◌≤◌, List, [], ◌∷◌, ◌++◌, length, take, drop, get_or, sym, ap, ◌∙◌, arith, append_assoc, subst, refl, Result, Ok, Err}
use Rattle.std.proofs.lemmas.List.{length-append}
use Rattle.std.proofs.Math.Seq.{take-length}
use Rattle.std.specs.List.{AllByRecursion, flat_map}
use Rattle.rtmfp_packet.specs.declared.head.PacketHead.{PacketHead}
use Rattle.rtmfp_packet.specs.Head.{HeadSpells, IsModeZero, IsShortStamp}
use Rattle.rtmfp_packet.specs.declared.head.PacketFault.{PacketFault}
use Rattle.rtmfp_packet.specs.declared.head.PacketFault.TheVariants.{Empty, ModeZero, ShortStamp}
use Rattle.rtmfp_packet.specs.Spelling.{chunk_bytes}
use Rattle.rtmfp_packet.specs.Walk.{Body, body_of}
use Rattle.rtmfp_packet.specs.Whole.{Whole}
use Rattle.rtmfp_packet.specs.Reading.{Reads, PacketReading}
use Rattle.rtmfp_packet.proofs.Heads.{head_same, head_has_mode, head_has_stamps}
use Rattle.rtmfp_packet.proofs.Bodies.{AreBytes, body_of-spells, body_of-spelled}

-- the first byte, and those behind it
pub first_and_rest : (b : List ℕ) → 1 ≤ length b → get_or b 0 0 ∷ take (length b - 1) (drop 1 b) ≡ b
first_and_rest [] h = absurd (omega arith)
first_and_rest (x ∷ b) h =
    let e : length (x ∷ b) - 1 ≡ length b = omega arith in
    ap (λ n. x ∷ take n b) e ∙ ap (λ xs. x ∷ xs) (take-length b)

pub are_bytes : (b : List ℕ) → ((i : ℕ) → get_or b i 0 < 256) → AreBytes b
are_bytes [] h = tt
are_bytes (x ∷ b) h = (h 0, are_bytes b (λ i. h (suc i)))

pub back_are : (P : ℕ → Type 0) (front back : List ℕ) → AllByRecursion P (front ++ back) → AllByRecursion P back
back_are P [] back all = all
back_are P (x ∷ front) back all = back_are P front back all.1

-- the value that is read from a head and what stands behind it
abbrev pub whole_of : PacketHead → List ℕ → List ℕ → Whole
whole_of head body b = record { head = head; start = length b - length body; chunks = (body_of body).chunks; padding = (body_of body).padding }

-- a head, and behind it the body that the walk finds
pub packet_read : (head : PacketHead) (front body b : List ℕ) → HeadSpells head front → b ≡ front ++ body → ((i : ℕ) → get_or b i 0 < 256) → Reads (whole_of head body b) b
packet_read head front body b spells whole small =
    let all : AreBytes (front ++ body) = subst AreBytes whole (are_bytes b small) in
    let found = body_of-spells body (back_are (λ x. x < 256) front body all) in
    record {
      spells = record {
        front = front;
        head_spelled = spells;
        each = found.each;
        is_padding = found.is_padding;
        joined = whole ∙ ap (λ xs. front ++ xs) found.joined ∙ sym (append_assoc front (flat_map chunk_bytes (body_of body).chunks) (body_of body).padding);
      };
      start = omega (arith, ap length found.joined, ap length whole, length-append front body);
    }

abbrev body_value : Whole → Body
body_value packet = record { chunks = packet.chunks; padding = packet.padding }

behind : Whole → List ℕ
behind packet = flat_map chunk_bytes packet.chunks ++ packet.padding

whole_same : (a c : Whole) → a.head ≡ c.head → a.start ≡ c.start → body_value a ≡ body_value c → a ≡ c
whole_same a c head start body =
    ap (λ h. record { head = h; start = a.start; chunks = a.chunks; padding = a.padding }) head
    ∙ ap (λ n. record { head = c.head; start = n; chunks = a.chunks; padding = a.padding }) start
    ∙ ap (λ (b : Body). record { head = c.head; start = c.start; chunks = b.chunks; padding = b.padding }) body

-- bytes spell one packet at most
reads_same : (b : List ℕ) (a c : Whole) → Reads a b → Reads c b → a ≡ c
unfolding behind
reads_same b a c p q =
    let joined = λ (w : Whole) (r : Reads w b). r.spells.joined ∙ append_assoc r.spells.front (flat_map chunk_bytes w.chunks) w.padding in
    let same = head_same a.head c.head p.spells.front q.spells.front (behind a) (behind c) p.spells.head_spelled q.spells.head_spelled (sym (joined a p) ∙ joined c q) in
    let start : a.start ≡ c.start = omega (arith, p.start, q.start, ap length same.1) in
    let body =
    sym (body_of-spelled a.chunks a.padding p.spells.each p.spells.is_padding)
    ∙ ap body_of same.1
    ∙ body_of-spelled c.chunks c.padding q.spells.each q.spells.is_padding in
    whole_same a c same.0 start body

headed : (b : List ℕ) (a : Whole) (p : Reads a b) → b ≡ p.spells.front ++ behind a
unfolding behind
headed b a p = p.spells.joined ∙ append_assoc p.spells.front (flat_map chunk_bytes a.chunks) a.padding

not_empty : (b : List ℕ) (a : Whole) → Reads a b → b ≡ [] → ⊥
not_empty b a p e =
    let flags = p.spells.head_spelled in
    let whole : p.spells.front ++ behind a ≡ [] = sym (headed b a p) ∙ e in
    let P : List ℕ → Type 0 = λ xs. xs ++ behind a ≡ [] in
    cc (subst P flags.joined whole)

not_mode_zero : (b : List ℕ) (a : Whole) → Reads a b → IsModeZero b → ⊥
not_mode_zero b a p zero = head_has_mode a.head p.spells.front (behind a) p.spells.head_spelled (subst IsModeZero (headed b a p) zero)

not_short : (b : List ℕ) (a : Whole) → Reads a b → IsShortStamp b → ⊥
not_short b a p short = head_has_stamps a.head p.spells.front (behind a) p.spells.head_spelled (subst IsShortStamp (headed b a p) short)

empty_is_none : (b : List ℕ) → b ≡ [] → IsModeZero b → ⊥
empty_is_none [] e zero = zero
empty_is_none (x ∷ b) e zero = cc

empty_is_whole : (b : List ℕ) → b ≡ [] → IsShortStamp b → ⊥
empty_is_whole [] e short = short
empty_is_whole (x ∷ b) e short = cc

zero_has_no_stamp : (b : List ℕ) → IsModeZero b → IsShortStamp b → ⊥
zero_has_no_stamp [] zero short = zero
zero_has_no_stamp (x ∷ b) zero short = short.0 zero

-- bytes read in one way
pub packet_reading_same : (b : List ℕ) (x y : Result Whole PacketFault) → PacketReading b x → PacketReading b y → x ≡ y
packet_reading_same b (Ok a) (Ok c) p q = ap Ok (reads_same b a c p q)
packet_reading_same b (Ok a) (Err Empty) p q = absurd (not_empty b a p q)
packet_reading_same b (Ok a) (Err ModeZero) p q = absurd (not_mode_zero b a p q)
packet_reading_same b (Ok a) (Err ShortStamp) p q = absurd (not_short b a p q)
packet_reading_same b (Err Empty) (Ok c) p q = absurd (not_empty b c q p)
packet_reading_same b (Err ModeZero) (Ok c) p q = absurd (not_mode_zero b c q p)
packet_reading_same b (Err ShortStamp) (Ok c) p q = absurd (not_short b c q p)
packet_reading_same b (Err Empty) (Err Empty) p q = refl
packet_reading_same b (Err Empty) (Err ModeZero) p q = absurd (empty_is_none b p q)
packet_reading_same b (Err Empty) (Err ShortStamp) p q = absurd (empty_is_whole b p q)
packet_reading_same b (Err ModeZero) (Err Empty) p q = absurd (empty_is_none b q p)
packet_reading_same b (Err ModeZero) (Err ModeZero) p q = refl
packet_reading_same b (Err ModeZero) (Err ShortStamp) p q = absurd (zero_has_no_stamp b p q)
packet_reading_same b (Err ShortStamp) (Err Empty) p q = absurd (empty_is_whole b q p)
packet_reading_same b (Err ShortStamp) (Err ModeZero) p q = absurd (zero_has_no_stamp b q p)
packet_reading_same b (Err ShortStamp) (Err ShortStamp) p q = refl
