-- A packet that goes out in its pieces, once it has its ID.
use Rattle.std.proofs.Common.{ℕ, ◌≡◌, ◌+◌, Bool, true, false, if◌then◌else◌, List, length, map, Option, Some, None, Ok, refl, sym, ap, ◌∙◌, subst}
use Rattle.std.specs.FinMap.{get}
use Rattle.rtmfp_forms.specs.Address.{AddressParts}
use Rattle.rtmfp_fragments.specs.declared.outcome.SplitRefusal.{SplitRefusal}
use Rattle.rtmfp_fragments.specs.Answers.{split_into, unless}
use Rattle.rtmfp_fragments.specs.Pieces.{PieceParts, pieces_of, split_refusal}
use Rattle.startup.specs.State.{StartupState}
use Rattle.session_table.specs.Table.{in_row, next_packet, packet_counted, with_changed}
use Rattle.endpoint_model.specs.declared.row.Row.{Row}
use Rattle.endpoint_model.specs.Added.{Added}
use Rattle.endpoint_model.specs.Sending.{has_counts, piece_body, pieces_for, sent_bodies}
use Rattle.endpoint_model.specs.State.{State, Did, Done, Sessions, nothing, then_do, with_row, with_sessions}
use Rattle.endpoint_model.proofs.Steps.{done_nothing}
use Rattle.end_state.specs.declared.settings.Settings.{Settings}
use Rattle.end_state.specs.declared.groups.Groups.{Groups}
use Rattle.end_state.specs.Stored.{state_of}
use Rattle.end_state.specs.Steps.{long_sent}
use Rattle.end_state.proofs.InSession.{insert_found}

pub split_ok : (packet : List ℕ) (size : ℕ) (pieces : List PieceParts) → Ok pieces ≡ split_into packet size → pieces ≡ pieces_of packet size
split_ok packet size pieces e = by (split_refusal packet size) e
  where
    by : (refusal : Option SplitRefusal) → Ok pieces ≡ unless refusal (pieces_of packet size) → pieces ≡ pieces_of packet size
    by None is = cc
    by (Some refusal) is = absurd (cc)

-- ---- with an ID

counted_as : (s : State) (near : ℕ) (to : AddressParts) (pieces : List PieceParts) (row : Row) (id : ℕ) (counts : Bool) → Some id ≡ (if counts then Some (row.packets + 1) else None) →
    sent_bodies (with_row s near (if counts then record row { packets = row.packets + 1 } else row)) near to (map (piece_body id) pieces)
    ≡ (if counts
    then then_do (nothing (with_row s near (record row { packets = row.packets + 1 }))) (λ t. sent_bodies t near to (map (piece_body (row.packets + 1)) pieces))
    else nothing s)
counted_as s near to pieces row id true is =
    let same : id ≡ row.packets + 1 = cc in
    ap (λ (k : ℕ). sent_bodies (with_row s near (record row { packets = row.packets + 1 })) near to (map (piece_body k) pieces)) same
counted_as s near to pieces row id false is = absurd (cc)

long_as : (s : State) (near : ℕ) (to : AddressParts) (packet : List ℕ) (id : ℕ) (o : Option Row) → Some id ≡ next_packet (length (pieces_for s packet)) o →
    sent_bodies (with_sessions s (with_changed (packet_counted (length (pieces_for s packet))) s.sessions near o)) near to (map (piece_body id) (pieces_for s packet)) ≡ long_sent s near to packet o
long_as s near to packet id None is = absurd (cc)
long_as s near to packet id (Some row) is = counted_as s near to (pieces_for s packet) row id (has_counts row (length (pieces_for s packet))) is

pub sent_long : (settings : Settings) (moment sealed limit : ℕ) (groups : Groups) (startup : StartupState) (old new : Sessions) (t u : State) (near count id : ℕ) (to : AddressParts) (packet : List ℕ) (all : List PieceParts) (before after : Added) →
    state_of settings moment sealed limit groups startup old ≡ t → all ≡ pieces_for t packet → count ≡ length (pieces_for t packet) → Some id ≡ next_packet count (get old near) → new ≡ in_row (packet_counted count) old near →
    Done (sent_bodies (state_of settings moment sealed limit groups startup new) near to (map (piece_body id) all)) u before after → Done (long_sent t near to packet (get t.sessions near)) u before after
sent_long settings moment sealed limit groups startup old new t u near count id to packet all before after view all_are count_is id_is new_is done =
    let s : State = state_of settings moment sealed limit groups startup old in
    let pieces : List PieceParts = pieces_for s packet in
    let back : pieces_for t packet ≡ pieces = ap (λ (x : State). pieces_for x packet) (sym view) in
    let counted : count ≡ length pieces = count_is ∙ ap length back in
    let id_so : Some id ≡ next_packet (length pieces) (get old near) = id_is ∙ ap (λ (n : ℕ). next_packet n (get old near)) counted in
    let left : new ≡ in_row (packet_counted (length pieces)) old near = new_is ∙ ap (λ (n : ℕ). in_row (packet_counted n) old near) counted in
    let did : sent_bodies (with_sessions s new) near to (map (piece_body id) all) ≡ long_sent s near to packet (get old near) =
    ap (λ (m : Sessions). sent_bodies (with_sessions s m) near to (map (piece_body id) all)) left
    ∙ ap (λ (xs : List PieceParts). sent_bodies (with_sessions s (in_row (packet_counted (length pieces)) old near)) near to (map (piece_body id) xs)) (all_are ∙ back)
    ∙ long_as s near to packet id (get old near) id_so in
    subst (λ (x : State). Done (long_sent x near to packet (get x.sessions near)) u before after) view (subst (λ (d : Did). Done d u before after) did done)

-- ---- without one

uncounted_by : (s : State) (near : ℕ) (to : AddressParts) (pieces : List PieceParts) (row : Row) (counts : Bool) (out : Added) → get s.sessions near ≡ Some row → None ≡ (if counts then Some (row.packets + 1) else None) →
    Done (if counts
    then then_do (nothing (with_row s near (record row { packets = row.packets + 1 }))) (λ t. sent_bodies t near to (map (piece_body (row.packets + 1)) pieces))
    else nothing s) (with_row s near (if counts then record row { packets = row.packets + 1 } else row)) out out
uncounted_by s near to pieces row true out found is = absurd (cc)
uncounted_by s near to pieces row false out found is =
    subst (λ (m : Sessions). Done (nothing s) (with_sessions s m) out out) (sym (insert_found s.sessions near row found)) (done_nothing s out)

unsent_as : (s : State) (near : ℕ) (to : AddressParts) (packet : List ℕ) (o : Option Row) (out : Added) → get s.sessions near ≡ o → None ≡ next_packet (length (pieces_for s packet)) o →
    Done (long_sent s near to packet o) (with_sessions s (with_changed (packet_counted (length (pieces_for s packet))) s.sessions near o)) out out
unsent_as s near to packet None out found is = done_nothing s out
unsent_as s near to packet (Some row) out found is = uncounted_by s near to (pieces_for s packet) row (has_counts row (length (pieces_for s packet))) out found is

pub unsent_long : (settings : Settings) (moment sealed limit : ℕ) (groups : Groups) (startup : StartupState) (old new : Sessions) (t : State) (near count : ℕ) (to : AddressParts) (packet : List ℕ) (out : Added) →
    state_of settings moment sealed limit groups startup old ≡ t → count ≡ length (pieces_for t packet) → None ≡ next_packet count (get old near) → new ≡ in_row (packet_counted count) old near →
    Done (long_sent t near to packet (get t.sessions near)) (state_of settings moment sealed limit groups startup new) out out
unsent_long settings moment sealed limit groups startup old new t near count to packet out view count_is none new_is =
    let s : State = state_of settings moment sealed limit groups startup old in
    let counted : count ≡ length (pieces_for s packet) = count_is ∙ ap (λ (x : State). length (pieces_for x packet)) (sym view) in
    let none_so : None ≡ next_packet (length (pieces_for s packet)) (get old near) = none ∙ ap (λ (n : ℕ). next_packet n (get old near)) counted in
    let left : new ≡ in_row (packet_counted (length (pieces_for s packet))) old near = new_is ∙ ap (λ (n : ℕ). in_row (packet_counted n) old near) counted in
    subst (λ (x : State). Done (long_sent x near to packet (get x.sessions near)) (with_sessions s new) out out) view
    (subst (λ (m : Sessions). Done (long_sent s near to packet (get old near)) (with_sessions s m) out out) (sym left) (unsent_as s near to packet (get old near) out refl none_so))
