-- Acks that go into a packet.
use Rattle.std.proofs.Common.{◌≡◌, ℕ, ◌+◌, ◌-◌, Bool, true, false, cond, map, List, [], ◌∷◌, ◌++◌, length, drop, refl, sym, ap, ◌∙◌, arith, append_assoc, append-nil}
use Rattle.std.proofs.Math.Seq.{drop-append_seam}
use Rattle.rtmfp_forms.specs.Outgoing.{packet_limit}
use Rattle.flow_recv.specs.Acking.{ack_bytes}
use Rattle.session_flows.specs.declared.taking.TakingFlow.{TakingFlow}
use Rattle.session_flows.specs.Keeping.{FlowsState}
use Rattle.session_flows.specs.Owing.{Acked, with_front, acks_put, is_full_for, paid, after_acks}
use Rattle.session_flows.specs.Laws.{Rise, IsSound}

-- flows in front of those that are left
abbrev pub with_all : List TakingFlow → Acked → Acked
with_all ts a = record { taking = ts ++ a.taking; packet = a.packet }

-- ---- the IDs stay

pub rise_paid : (low : ℕ) (ts : List TakingFlow) → Rise low ts → Rise low (map paid ts)
rise_paid low [] h = tt
rise_paid low (t ∷ later) h = (h.0, rise_paid (t.id + 1) later h.1)

abbrev Same : List TakingFlow → List TakingFlow → Type 0
Same xs ys = (length ys ≡ length xs) × ((low : ℕ) → Rise low xs → Rise low ys)

put_by : (t : TakingFlow) (later : List TakingFlow) (packet : List ℕ) (owed full : Bool) → ((out : List ℕ) → Same later (acks_put later out).taking) →
    Same (t ∷ later) (cond owed (cond full (record { taking = t ∷ later; packet = packet }) (with_front (paid t) (acks_put later (packet ++ ack_bytes t.id (packet_limit - length packet - 3) t.receiver))))
    (with_front t (acks_put later packet))).taking
put_by t later packet true true ih = (refl, λ low h. h)
put_by t later packet true false ih =
    let r = ih (packet ++ ack_bytes t.id (packet_limit - length packet - 3) t.receiver) in
    let k : length (acks_put later (packet ++ ack_bytes t.id (packet_limit - length packet - 3) t.receiver)).taking ≡ length later = r.0 in
    (omega arith, λ low h. (h.0, r.1 (t.id + 1) h.1))
put_by t later packet false full ih =
    let r = ih packet in
    let k : length (acks_put later packet).taking ≡ length later = r.0 in
    (omega arith, λ low h. (h.0, r.1 (t.id + 1) h.1))

put_same : (ts : List TakingFlow) (packet : List ℕ) → Same ts (acks_put ts packet).taking
put_same [] packet = (refl, λ low h. h)
put_same (t ∷ later) packet = put_by t later packet t.owed (is_full_for t packet) (put_same later)

pub sound_put : (s : FlowsState) (packet : List ℕ) → IsSound s → IsSound (after_acks s packet)
sound_put s packet h =
    let r = put_same s.taking packet in
    let k : length (acks_put s.taking packet).taking ≡ length s.taking = r.0 in
    record {
      numbered = h.numbered;
      few = h.few;
      rise = r.1 0 h.rise;
      few_taking = omega (arith, h.few_taking);
    }

-- ---- what is put stands behind what was there

abbrev Behind : List TakingFlow → List ℕ → Type 0
Behind ts packet = (rest : List ℕ) × ((acks_put ts packet).packet ≡ packet ++ rest)

behind_by : (t : TakingFlow) (later : List TakingFlow) (packet : List ℕ) (owed full : Bool) → ((out : List ℕ) → Behind later out) →
    (rest : List ℕ) × ((cond owed (cond full (record { taking = t ∷ later; packet = packet }) (with_front (paid t) (acks_put later (packet ++ ack_bytes t.id (packet_limit - length packet - 3) t.receiver))))
    (with_front t (acks_put later packet))).packet ≡ packet ++ rest)
behind_by t later packet true true ih = ([], sym (append-nil packet))
behind_by t later packet true false ih =
    let bytes : List ℕ = ack_bytes t.id (packet_limit - length packet - 3) t.receiver in
    let r = ih (packet ++ bytes) in
    (bytes ++ r.0, r.1 ∙ append_assoc packet bytes r.0)
behind_by t later packet false full ih = ih packet

behind : (ts : List TakingFlow) (packet : List ℕ) → Behind ts packet
behind [] packet = ([], sym (append-nil packet))
behind (t ∷ later) packet = behind_by t later packet t.owed (is_full_for t packet) (behind later)

pub put_behind : (ts : List TakingFlow) (packet : List ℕ) → packet ++ drop (length packet) (acks_put ts packet).packet ≡ (acks_put ts packet).packet
put_behind ts packet =
    let r = behind ts packet in
    let rest : drop (length packet) (acks_put ts packet).packet ≡ r.0 = ap (λ (p : List ℕ). drop (length packet) p) r.1 ∙ drop-append_seam packet r.0 in
    ap (λ (p : List ℕ). packet ++ p) rest ∙ sym r.1
