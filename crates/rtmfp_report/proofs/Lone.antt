-- A packet's only chunk, told by its first bytes, is the packet's only chunk.
use Rattle.std.proofs.Common.{◌≡◌, ◌≢◌, ℕ, suc, zero, ◌+◌, ◌-◌, ◌*◌, ◌%◌, ◌<◌, ◌≤◌, Bool, true, false, nat_lt, List, [], ◌∷◌, length, take, drop, min, refl, sym, ap, ◌∙◌, arith, length-drop, length-take, Option, Some, None, if◌then◌else◌}
use Rattle.std.specs.Prelude.{◌==◌, ◌||◌, not}
use Rattle.std.proofs.lemmas.Bool.Decides.{nat_tests}
use Rattle.std.proofs.lemmas.List.{drop-drop, drop-take}
use Rattle.rtmfp_packet.specs.declared.head.Mode.TheVariants.{Initiator as FromInitiator, Responder as FromResponder, Startup as FromStartup}
use Rattle.rtmfp_packet.specs.Spelling.{Chunk}
use Rattle.rtmfp_packet.specs.Head.{flag, flagged_len}
use Rattle.rtmfp_packet.specs.Walk.{Placed, all_placed_from, body_of, is_ignored, visible}
use Rattle.rtmfp_packet.proofs.Walking.{body_of-chunk, body_of-padding}
use Rattle.rtmfp_packet.specs.declared.head.Mode.{Mode}
use Rattle.endpoint_model.specs.Admission.{packet_in, mode_in, stamp_in, with_echo, with_stamp, with_mode}
use Rattle.endpoint.specs.Kinds.{kinds_of, kinds_in, kinds_read}
use Rattle.rtmfp_report.specs.LoneChunk.{filling_kind, lone_kind, stamps_len}

-- what is shorter than a chunk's head has no chunk
no_chunks : (b : List ℕ) → length b < 3 → (body_of b).chunks ≡ []
no_chunks [] h = ap (λ body. body.chunks) (body_of-padding [] tt)
no_chunks (k ∷ []) h = ap (λ body. body.chunks) (body_of-padding (k ∷ []) tt)
no_chunks (k ∷ x ∷ []) h = ap (λ body. body.chunks) (body_of-padding (k ∷ x ∷ []) tt)
no_chunks (k ∷ x ∷ y ∷ b) h = absurd (omega arith)

-- a chunk that fills a body, but for two bytes at most, is its only chunk
only_chunk : (k h l : ℕ) (rest : List ℕ) → h * 256 + l ≤ length rest → length rest ≤ 2 + (h * 256 + l) →
    (body_of (k ∷ h ∷ l ∷ rest)).chunks ≡ record { kind = k; payload = take (h * 256 + l) rest } ∷ []
only_chunk k h l rest le few =
    let n = h * 256 + l in
    let chunk : Chunk = record { kind = k; payload = take n rest } in
    ap (λ body. body.chunks) (body_of-chunk k h l rest le)
    ∙ ap (λ chunks. chunk ∷ chunks) (no_chunks (drop n rest) (omega (arith, length-drop n rest)))

seen_kind : (at k : ℕ) (payload : List ℕ) → is_ignored k ≡ false →
    kinds_of (visible (all_placed_from at (record { kind = k; payload = payload } ∷ []))) ≡ k ∷ []
seen_kind at k payload e =
    let placed : Placed = record { kind = k; at = at; payload = payload } in
    ap (λ ignored. kinds_of (if not ignored then placed ∷ [] else [])) e

neither : (a b : Bool) → (a || b) ≡ false → (a ≡ false) × (b ≡ false)
neither true b e = grind arith
neither false b e = (refl, e)

taken : (refused : Bool) (x k : ℕ) → (if refused then None else Some x) ≡ Some k → (refused ≡ false) × (x ≡ k)
taken true x k e = grind arith
taken false x k e = (refl, grind arith)

not_below : (m n : ℕ) → nat_lt m n ≡ false → n ≤ m
not_below m n e = grind (arith, nat_tests)

-- of the body of which the first bytes are known
pub body_kind : (at n k : ℕ) (b : List ℕ) → filling_kind (length b) (take n b) ≡ Some k →
    kinds_of (visible (all_placed_from at (body_of b).chunks)) ≡ k ∷ []
body_kind at zero k b e = grind arith
body_kind at (suc n) k [] e = grind arith
body_kind at (suc zero) k (x ∷ b) e = grind arith
body_kind at (suc (suc n)) k (x ∷ []) e = grind arith
body_kind at (suc (suc zero)) k (x ∷ y ∷ b) e = grind arith
body_kind at (suc (suc (suc n))) k (x ∷ y ∷ []) e = grind arith
body_kind at (suc (suc (suc n))) k (x ∷ y ∷ z ∷ b) e =
    let len = y * 256 + z in
    let both = taken (nat_lt (length (x ∷ y ∷ z ∷ b)) (3 + len) || (nat_lt (5 + len) (length (x ∷ y ∷ z ∷ b)) || is_ignored x)) x k e in
    let first = neither (nat_lt (length (x ∷ y ∷ z ∷ b)) (3 + len)) (nat_lt (5 + len) (length (x ∷ y ∷ z ∷ b)) || is_ignored x) both.0 in
    let second = neither (nat_lt (5 + len) (length (x ∷ y ∷ z ∷ b))) (is_ignored x) first.1 in
    let whole : len ≤ length b = omega (arith, not_below (length (x ∷ y ∷ z ∷ b)) (3 + len) first.0) in
    let few : length b ≤ 2 + len = omega (arith, not_below (5 + len) (length (x ∷ y ∷ z ∷ b)) second.0) in
    ap (λ chunks. kinds_of (visible (all_placed_from at chunks))) (only_chunk x y z b whole few)
    ∙ seen_kind at x (take len b) second.1 ∙ ap (λ kind. kind ∷ []) both.1

-- a flagged stamp is passed over where it is there whole
passed : (flagged : Bool) (b : List ℕ) → flagged_len flagged ≤ length b → (stamp : Option ℕ) × (stamp_in flagged b ≡ Some (stamp, drop (flagged_len flagged) b))
passed false b h = (None, refl)
passed true [] h = absurd (omega (arith, h))
passed true (x ∷ []) h = absurd (omega (arith, h))
passed true (x ∷ y ∷ b) h = (Some (x * 256 + y), refl)

named : (a b c : Bool) → ((a ≡ false) → (b ≡ false) → (c ≡ false) → ⊥) →
    (mode : Mode) × ((if a then Some FromInitiator else if b then Some FromResponder else if c then Some FromStartup else None) ≡ Some mode)
named true b c h = (FromInitiator, refl)
named false true c h = (FromResponder, refl)
named false false true h = (FromStartup, refl)
named false false false h = absurd (h refl refl refl)

has_mode : (flags : ℕ) → flags % 4 ≢ 0 → (mode : Mode) × (mode_in flags ≡ Some mode)
has_mode flags h = named (flags % 4 == 1) (flags % 4 == 2) (flags % 4 == 3) (λ p q r. grind (arith, nat_tests))

-- the chunks of a packet are those of what stands behind its head
headed : (flags : ℕ) (rest : List ℕ) → flags % 4 ≢ 0 → stamps_len flags ≤ length rest →
    (at : ℕ) × (kinds_in (flags ∷ rest) ≡ kinds_of (visible (all_placed_from at (body_of (drop (stamps_len flags) rest)).chunks)))
unfolding packet_in
headed flags rest moded long =
    let bytes = flags ∷ rest in
    let s = flagged_len (flag flags 3) in
    let t = flagged_len (flag flags 2) in
    let mode = has_mode flags moded in
    let first = passed (flag flags 3) rest (omega (arith, long)) in
    let second = passed (flag flags 2) (drop s rest) (omega (arith, long, length-drop s rest)) in
    let at = length bytes - length (drop t (drop s rest)) in (
      at,
      ap (λ m. kinds_read (with_mode bytes flags rest m)) mode.1
          ∙ ap (λ x. kinds_read (with_stamp bytes flags mode.0 x)) first.1
          ∙ ap (λ x. kinds_read (with_echo bytes flags mode.0 first.0 x)) second.1
          ∙ ap (λ body. kinds_of (visible (all_placed_from at (body_of body).chunks))) (drop-drop t s rest),
    )

filled_len : (size k : ℕ) (b : List ℕ) → filling_kind size b ≡ Some k → 3 ≤ length b
filled_len size k [] e = grind arith
filled_len size k (x ∷ []) e = grind arith
filled_len size k (x ∷ y ∷ []) e = grind arith
filled_len size k (x ∷ y ∷ z ∷ b) e = omega arith

behind_head : (n k flags : ℕ) (rest : List ℕ) → flags % 4 ≢ 0 →
    filling_kind (length (flags ∷ rest) - (1 + stamps_len flags)) (drop (stamps_len flags) (take n rest)) ≡ Some k → kinds_in (flags ∷ rest) ≡ k ∷ []
behind_head n k flags rest moded e =
    let s = stamps_len flags in
    let long = filled_len (length (flags ∷ rest) - (1 + s)) k (drop s (take n rest)) e in
    let fits : s + 3 ≤ min n (length rest) = omega (arith, long, length-drop s (take n rest), length-take n rest) in
    let split : s + (n - s) ≡ n = omega arith in
    let front : drop s (take n rest) ≡ take (n - s) (drop s rest) = ap (λ m. drop s (take m rest)) (sym split) ∙ drop-take s (n - s) rest in
    let size : length (flags ∷ rest) - (1 + s) ≡ length (drop s rest) = omega (arith, length-drop s rest) in
    let found : filling_kind (length (drop s rest)) (take (n - s) (drop s rest)) ≡ Some k =
    ap (λ m. filling_kind m (take (n - s) (drop s rest))) (sym size) ∙ ap (filling_kind (length (flags ∷ rest) - (1 + s))) (sym front) ∙ e in
    let whole = headed flags rest moded (omega arith) in
    whole.1 ∙ body_kind whole.0 (n - s) k (drop s rest) found

chosen : (c : Bool) (o : Option ℕ) (k : ℕ) → (if c then None else o) ≡ Some k → (c ≡ false) × (o ≡ Some k)
chosen true o k e = grind arith
chosen false o k e = (refl, e)

-- the first bytes tell the only chunk of a packet
pub lone_kind-told : (n k : ℕ) (plain : List ℕ) → lone_kind (length plain) (take n plain) ≡ Some k → kinds_in plain ≡ k ∷ []
lone_kind-told zero k plain e = grind arith
lone_kind-told (suc n) k [] e = grind arith
lone_kind-told (suc n) k (flags ∷ rest) e =
    let both = chosen (flags % 4 == 0) (filling_kind (length (flags ∷ rest) - (1 + stamps_len flags)) (drop (stamps_len flags) (take n rest))) k e in
    behind_head n k flags rest (grind (arith, nat_tests, both.0)) both.1
