-- What goes out in a session.
use Rattle.std.proofs.Common.{ℕ, List, [], ◌∷◌, ◌≡◌, ◌+◌, Bool, true, false, if◌then◌else◌, Option, Some, None, inl, inr, refl, sym, ap, ◌∙◌, subst}
use Rattle.std.specs.FinMap.{get, insert}
use Rattle.rtmfp_base.proofs.Maps.{same_tables, same_or_not, get_inserted, get_beside}
use Rattle.rtmfp_forms.specs.Address.{AddressParts}
use Rattle.session_core.specs.Session.{SessionState, context_of}
use Rattle.session_core.specs.Sealed.{after_seal, is_spent}
use Rattle.startup.specs.State.{StartupState}
use Rattle.session_table.specs.declared.sealing.Sealed.{Sealed}
use Rattle.session_table.specs.declared.sealing.Packed.{Packed}
use Rattle.session_table.specs.declared.sealing.Packed.TheVariants.{Nothing, Whole, Long}
use Rattle.session_table.specs.Table.{IsPacked, IsPackedBy, in_row, of_session, packed_in, with_changed, sealed_by}
use Rattle.endpoint_model.specs.declared.row.Row.{Row}
use Rattle.end_state.specs.declared.settings.Settings.{Settings}
use Rattle.end_state.specs.declared.groups.Groups.{Groups}
use Rattle.endpoint_model.specs.declared.entry.Entry.{Entry}
use Rattle.endpoint_model.specs.declared.entry.Entry.TheVariants.{Out}
use Rattle.endpoint_model.specs.Added.{Added}
use Rattle.endpoint_model.specs.Sending.{is_long, limit_of, pieces_for, sent_by, sent_in_pieces, sent_in_session, sent_whole, session_datagram, session_packet}
use Rattle.endpoint_model.specs.State.{State, Did, Done, Sessions, nothing, with_row, with_session, with_sessions}
use Rattle.end_state.specs.Stored.{state_of}
use Rattle.end_state.specs.Steps.{long_sent, packed_sent}

-- ---- one datagram goes out, or none

-- the entry of what was sealed
abbrev pub out_of : AddressParts → Option Sealed → List Entry
out_of to None = []
out_of to (Some x) = Out to x.datagram x.context ∷ []

-- a value that is put where it stands changes nothing
pub insert_found : (m : Sessions) (k : ℕ) (v : Row) → get m k ≡ Some v → insert m k v ≡ m
insert_found m k v there = same_tables _ _ (λ q. elim (same_or_not q k) [
  | inl is ↦ ap (get (insert m k v)) is.0 ∙ get_inserted m k v ∙ sym there ∙ ap (get m) (sym is.0)
  | inr is ↦ get_beside m k v q is.0
])

-- what the seal of a session leaves and adds, by what was sealed
abbrev pub sealed_did : State → ℕ → AddressParts → Option Row → Option Sealed → Did
sealed_did s near to o x = record { state = with_sessions s (with_changed (of_session after_seal) s.sessions near o); entries = out_of to x }

by_count : (s : State) (near : ℕ) (to : AddressParts) (body : List ℕ) (row : Row) (spent : Bool) → get s.sessions near ≡ Some row → is_spent row.session ≡ spent →
    (if spent then nothing s
    else record { state = with_session s near row (after_seal row.session); entries = Out to (session_datagram row.session s.moment body) (context_of row.session true) ∷ [] })
    ≡ sealed_did s near to (Some row) (if spent then None else Some (record { datagram = session_datagram row.session s.moment body; context = context_of row.session true }))
by_count s near to body row false found is = refl
by_count s near to body row true found is =
    let same : after_seal row.session ≡ row.session = ap (λ (b : Bool). if b then row.session else record row.session { sealed = row.session.sealed + 1 }) is in
    ap (λ (m : Sessions). record { state = with_sessions s m; entries = [] })
    (sym (ap (λ (x : SessionState). insert s.sessions near (record row { session = x })) same ∙ insert_found s.sessions near row found))

pub whole_as : (s : State) (near : ℕ) (to : AddressParts) (body : List ℕ) (o : Option Row) → get s.sessions near ≡ o → sent_whole s near to body o ≡ sealed_did s near to o (sealed_by s.moment body o)
whole_as s near to body None found = refl
whole_as s near to body (Some row) found = by_count s near to body row (is_spent row.session) found refl

-- ---- whole or in pieces

-- the session in a row once its packet was sealed, where it isn't long
abbrev sealed_row : Row → Bool → Row
sealed_row row long = record row { session = if long then row.session else after_seal row.session }

by_length : (s : State) (near : ℕ) (to : AddressParts) (body : List ℕ) (row : Row) (long : Bool) (packed : Packed) → get s.sessions near ≡ Some row → is_long s row body ≡ long →
    IsPacked (limit_of s) (session_packet row.session s.moment body) row.session packed →
    packed_sent (with_row s near (sealed_row row long)) near to packed
    ≡ (if long then sent_in_pieces s near to row (pieces_for s (session_packet row.session s.moment body)) else sent_whole s near to body (Some row))
by_length s near to body row true Nothing found long is = let short = is.0 in absurd (cc)
by_length s near to body row true (Whole x) found long is = let short = is.0 in absurd (cc)
by_length s near to body row false (Long packet blank) found long is = let longer = is.0 in absurd (cc)
by_length s near to body row false Nothing found long is =
    ap (sealed_did s near to (Some row)) (sym is.1) ∙ sym (whole_as s near to body (Some row) found)
by_length s near to body row false (Whole x) found long is =
    ap (sealed_did s near to (Some row)) (sym is.1) ∙ sym (whole_as s near to body (Some row) found)
by_length s near to body row true (Long packet blank) found long is =
    ap (λ (m : Sessions). long_sent (with_sessions s m) near to packet (get m near)) (insert_found s.sessions near row found)
    ∙ ap (long_sent s near to packet) found
    ∙ ap (λ (xs : List ℕ). sent_in_pieces s near to row (pieces_for s xs)) is.1

-- What became of a packet of a session goes out, where the session then is as it was left.
pub packed_as : (s : State) (near : ℕ) (to : AddressParts) (body : List ℕ) (row : Row) (packed : Packed) → get s.sessions near ≡ Some row → IsPacked (limit_of s) (session_packet row.session s.moment body) row.session packed →
    packed_sent (with_row s near (packed_in (limit_of s) s.moment (λ r. body) row)) near to packed ≡ sent_by s near to body (Some row)
packed_as s near to body row packed found is = by_length s near to body row (is_long s row body) packed found refl is

packed_where : (s : State) (near : ℕ) (to : AddressParts) (body : List ℕ) (o : Option Row) (packed : Packed) → get s.sessions near ≡ o → IsPackedBy (limit_of s) s.moment (λ r. body) o packed →
    packed_sent (with_sessions s (with_changed (packed_in (limit_of s) s.moment (λ r. body)) s.sessions near o)) near to packed ≡ sent_by s near to body o
packed_where s near to body None packed found is = ap (packed_sent s near to) is
packed_where s near to body (Some row) packed found is = packed_as s near to body row packed found is

pub sent_one : (settings : Settings) (moment sealed limit : ℕ) (groups : Groups) (startup : StartupState) (old new : Sessions) (t u : State) (near most : ℕ) (to : AddressParts) (body : List ℕ) (packed : Packed) (before after : Added) →
    state_of settings moment sealed limit groups startup old ≡ t → most ≡ limit_of t → IsPackedBy most moment (λ r. body) (get old near) packed → new ≡ in_row (packed_in most moment (λ r. body)) old near →
    Done (packed_sent (state_of settings moment sealed limit groups startup new) near to packed) u before after → Done (sent_in_session t near to body) u before after
sent_one settings moment sealed limit groups startup old new t u near most to body packed before after view most_is is new_is done =
    let s : State = state_of settings moment sealed limit groups startup old in
    let limited : most ≡ limit_of s = most_is ∙ ap limit_of (sym view) in
    let packed_so = subst (λ (n : ℕ). IsPackedBy n moment (λ r. body) (get old near) packed) limited is in
    let left : new ≡ in_row (packed_in (limit_of s) moment (λ r. body)) old near = new_is ∙ ap (λ (n : ℕ). in_row (packed_in n moment (λ r. body)) old near) limited in
    let did : packed_sent (with_sessions s new) near to packed ≡ sent_in_session s near to body =
    ap (λ (m : Sessions). packed_sent (with_sessions s m) near to packed) left ∙ packed_where s near to body (get old near) packed refl packed_so in
    subst (λ (x : State). Done (sent_in_session x near to body) u before after) view (subst (λ (d : Did). Done d u before after) did done)
