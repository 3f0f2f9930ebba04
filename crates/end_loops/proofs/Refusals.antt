-- Steps over chunks that add nothing but discards.
use Rattle.std.specs.Prelude.{◌==◌, if◌then◌else◌, not}
use Rattle.std.proofs.Common.{ℕ, ◌≡◌, ◌≤◌, ◌+◌, ◌⊎◌, inl, inr, List, [], ◌∷◌, ◌++◌, length, Option, Some, None, Result, Ok, IsSome, Bool, true, false, refl, sym, ap, ◌∙◌, subst, arith, length-append}
use Rattle.std.proofs.lemmas.Bool.{eqb-true, not-true}
use Rattle.std.specs.FinMap.{get}
use Rattle.rtmfp_forms.specs.Address.{AddressParts}
use Rattle.rtmfp_chunks.specs.declared.reading.ChunkFault.{ChunkFault}
use Rattle.rtmfp_chunks.specs.Chunk.{Chunk, Redirect, Fragment}
use Rattle.rtmfp_chunks.specs.FieldReading.{chunk_reading}
use Rattle.rtmfp_packet.specs.Walk.{Placed}
use Rattle.rtmfp_fragments.specs.declared.outcome.Gathered.{Gathered}
use Rattle.rtmfp_fragments.specs.declared.outcome.Gathered.TheVariants.{Again}
use Rattle.rtmfp_fragments.specs.declared.outcome.PieceRefusal.{PieceRefusal}
use Rattle.rtmfp_fragments.specs.Pieces.{PieceParts, piece}
use Rattle.rtmfp_fragments.specs.Held.{kept_at}
use Rattle.rtmfp_fragments.specs.Answers.{accepted, piece_refusal, unless}
use Rattle.startup.specs.Attempts.{has_tag, lowest}
use Rattle.startup.specs.Redirects.{redirect_spread, sent_by_spread, told_addresses}
use Rattle.rtmfp_base.specs.declared.cause.Cause.{Cause}
use Rattle.endpoint_model.specs.declared.row.Row.{Row}
use Rattle.endpoint_model.specs.declared.walk.Walk.{Walk}
use Rattle.endpoint_model.specs.declared.config.Draws.{Draws}
use Rattle.endpoint_model.specs.declared.place.Place.{Place}
use Rattle.endpoint_model.specs.Added.{Added}
use Rattle.endpoint_model.specs.State.{State, Did, Done, nothing}
use Rattle.endpoint_model.specs.Admission.{sid_at}
use Rattle.endpoint_model.specs.InSessions.{answers_by, told_in_session}
use Rattle.endpoint_model.specs.Gathering.{given, holds_it, is_held_piece, piece_taken, piece_taken_by, whole_faults}
use Rattle.endpoint_model.specs.Effects.{WalkStep, AreQuiet, IsQuiet, adds_nothing, chunk_did, discarded_or, discards_among, discards_for, effect, initiator_keyed, is_idle, is_idle_after, is_told_in_session, read_done, responder_keyed, steps_did}
use Rattle.endpoint_model.specs.FlowChunks.{is_of_flows, states_nothing}
use Rattle.endpoint_model.proofs.FlowChunks.{flows_effect, other_effect, adds_none}
use Rattle.rtmfp_data_chunks.specs.Reader.{data_reading}
use Rattle.endpoint_model.specs.Causes.{chunk_cause}
use Rattle.end_chunks.proofs.Introduced.{idle_redirect}
use Rattle.end_chunks.proofs.Relocating.{unmoved}

-- These steps add nothing but discards, and there is room for these.
pub record IsRoomy (place : Place) (from : AddressParts) (draws : Draws) (s : State) (xs : List WalkStep) (free : ℕ) : Type 0 where
  pub refused : AreQuiet place from draws s xs
  pub room : discards_among place from draws s xs ≤ free

-- what a chunk does that is none of flows
abbrev other_did : State → Place → AddressParts → Draws → Placed → Did
other_did s place from draws c =
    if c.kind == 0x38 then initiator_keyed s place from draws c.payload else if c.kind == 0x78 then responder_keyed s (sid_at place) from c.payload
    else if is_told_in_session c.kind then told_in_session s (sid_at place) from c
    else if c.kind == 0x7f then piece_taken s (sid_at place) c.at (chunk_reading c.kind c.payload) else read_done s place from (chunk_reading c.kind c.payload)

-- an answer to a ping that moves nothing
reply_does : (s : State) (place : Place) (from : AddressParts) (draws : Draws) (c : Placed) → (c.kind ≡ 0x41) × (answers_by from c.payload (get s.sessions (sid_at place)) ≡ false) →
    other_did s place from draws c ≡ nothing s
reply_does s place from draws c quiet =
    let as_kind : ℕ → Placed = λ x. record { kind = x; at = c.at; payload = c.payload } in
    ap (λ (x : ℕ). other_did s place from draws (as_kind x)) quiet.0 ∙ unmoved s (sid_at place) from c.payload (get s.sessions (sid_at place)) quiet.1

-- a redirect that adds no address
redirect_does : (s : State) (place : Place) (from : AddressParts) (draws : Draws) (c : Placed) (tag list : List ℕ) → c.kind ≡ 0x71 → chunk_reading c.kind c.payload ≡ Ok (Redirect tag list) →
    sent_by_spread (redirect_spread s.startup tag list from) ≡ 0 → other_did s place from draws c ≡ nothing s
redirect_does s place from draws c tag list is reads none =
    let as_kind : ℕ → Result Chunk ChunkFault → Did = λ k r. if k == 0x38 then initiator_keyed s place from draws c.payload else if k == 0x78 then responder_keyed s (sid_at place) from c.payload
    else if is_told_in_session k then told_in_session s (sid_at place) from c
    else if k == 0x7f then piece_taken s (sid_at place) c.at r else read_done s place from r in
    ap (λ r. as_kind c.kind r) reads ∙ ap (λ (k : ℕ). as_kind k (Ok (Redirect tag list))) is
    ∙ idle_redirect s (lowest (has_tag tag) s.startup.attempts) (told_addresses list from) none

-- a piece that is held already
held_by : (s : State) (near at id : ℕ) (x : PieceParts) (o : Option Row) → holds_it s.moment o id x ≡ true → length (piece_taken_by s near at id x o).entries ≡ 0
held_by s near at id x None e = absurd (cc)
held_by s near at id x (Some row) e =
    let now = kept_at s.moment row.gathering in
    let answer : Bool → Result Gathered PieceRefusal = λ b. if b then Ok Again else unless (piece_refusal id x now) (accepted id x now) in
    ap (λ (b : Bool). length (whole_faults s near at (given (answer b)))) e

held_adds : (s : State) (near at : ℕ) (read : Result Chunk ChunkFault) → is_held_piece s near read ≡ true → length (piece_taken s near at read).entries ≡ 0
held_adds s near at (Ok (Fragment more id number bytes)) e = held_by s near at id (piece number more bytes) (get s.sessions near) e
held_adds s near at read e = absurd (cc)

piece_adds : (s : State) (place : Place) (from : AddressParts) (draws : Draws) (c : Placed) → c.kind ≡ 0x7f → is_held_piece s (sid_at place) (chunk_reading c.kind c.payload) ≡ true →
    length (other_did s place from draws c).entries ≡ 0
piece_adds s place from draws c kind held =
    let as_kind : ℕ → Did = λ k. if k == 0x38 then initiator_keyed s place from draws c.payload else if k == 0x78 then responder_keyed s (sid_at place) from c.payload
    else if is_told_in_session k then told_in_session s (sid_at place) from c
    else if k == 0x7f then piece_taken s (sid_at place) c.at (chunk_reading c.kind c.payload) else read_done s place from (chunk_reading c.kind c.payload) in
    ap (λ (k : ℕ). length (as_kind k).entries) kind ∙ held_adds s (sid_at place) c.at (chunk_reading c.kind c.payload) held

idle_adds_none : (s : State) (place : Place) (from : AddressParts) (draws : Draws) (c : Placed) → is_idle s place from c ≡ true → length (other_did s place from draws c).entries ≡ 0
idle_adds_none s place from draws c quiet = by (c.kind == 0x41) (c.kind == 0x71) (c.kind == 0x7f) refl refl refl quiet
  where
    none : other_did s place from draws c ≡ nothing s → length (other_did s place from draws c).entries ≡ 0
    none does = ap (λ (d : Did). length d.entries) does

    read_by : (r : Result Chunk ChunkFault) → c.kind ≡ 0x71 → chunk_reading c.kind c.payload ≡ r → adds_nothing s from r ≡ true → other_did s place from draws c ≡ nothing s
    read_by (Ok (Redirect tag list)) kind is e = redirect_does s place from draws c tag list kind is (eqb-true (sent_by_spread (redirect_spread s.startup tag list from)) 0 e)
    read_by r kind is e = absurd (cc)

    by : (reply redirect fragment : Bool) → (c.kind == 0x41) ≡ reply → (c.kind == 0x71) ≡ redirect → (c.kind == 0x7f) ≡ fragment →
        (if reply then not (answers_by from c.payload (get s.sessions (sid_at place))) else if redirect then adds_nothing s from (chunk_reading c.kind c.payload)
        else if fragment then is_held_piece s (sid_at place) (chunk_reading c.kind c.payload) else false) ≡ true →
        length (other_did s place from draws c).entries ≡ 0
    by true redirect fragment is_a is_b is_c e = none (reply_does s place from draws c (eqb-true c.kind 0x41 is_a, not-true (answers_by from c.payload (get s.sessions (sid_at place))) e))
    by false true fragment is_a is_b is_c e = none (read_by (chunk_reading c.kind c.payload) (eqb-true c.kind 0x71 is_b) refl e)
    by false false true is_a is_b is_c e = piece_adds s place from draws c (eqb-true c.kind 0x7f is_c) e
    by false false false is_a is_b is_c e = absurd (cc)

module _ (s : State) (place : Place) (walk : Walk) (from : AddressParts) (draws : Draws) (c : Placed) where
  -- a chunk that adds nothing, of flows or another one
  idle_adds : is_idle_after s place walk from c ≡ true → length (effect s place walk from draws c).entries ≡ 0
  idle_adds quiet = by (is_of_flows c.kind) refl quiet
    where
      by : (b : Bool) → is_of_flows c.kind ≡ b → (if b then states_nothing (get s.sessions (sid_at place)) (data_reading walk.cursor c.kind c.payload) else is_idle s place from c) ≡ true →
          length (effect s place walk from draws c).entries ≡ 0
      by true is e = ap (λ (d : Did). length d.entries) (flows_effect s walk from draws c place is) ∙ adds_none s (sid_at place) (data_reading walk.cursor c.kind c.payload) e
      by false is e = ap (λ (d : Did). length d.entries) (other_effect s walk from draws c place is) ∙ idle_adds_none s place from draws c e

  discards_by : (cause : Option Cause) (d : Did) → IsSome cause ⊎ (length d.entries ≡ 0) → length (discarded_or s c.at cause d).entries ≡ discards_for cause
  discards_by None d (inl none) = absurd (cc)
  discards_by None d (inr e) = e
  discards_by (Some cause) d quiet = refl

  quiet_adds : IsQuiet s place walk from c → length (chunk_did place from draws walk s c).entries ≡ discards_for (chunk_cause s place walk from c)
  quiet_adds (inl some) = discards_by (chunk_cause s place walk from c) (effect s place walk from draws c) (inl some)
  quiet_adds (inr quiet) = discards_by (chunk_cause s place walk from c) (effect s place walk from draws c) (inr (idle_adds quiet))

module _ (place : Place) (from : AddressParts) (draws : Draws) where
  -- A chunk that adds nothing but its discard takes the place for it.
  pub one_refused : (s new : State) (x : WalkStep) (rest : List WalkStep) (before after : Added) → IsRoomy place from draws s (x ∷ rest) before.free →
      Done (chunk_did place from draws x.walk s x.chunk) new before after → IsRoomy place from draws new rest after.free
  one_refused s new x rest before after roomy done =
      let left : State = (chunk_did place from draws x.walk s x.chunk).state in
      let room : discards_among place from draws left rest ≤ after.free = omega (arith, roomy.room, done.free, quiet_adds s place x.walk from draws x.chunk roomy.refused.0) in
      record {
        refused = subst (λ t. AreQuiet place from draws t rest) (sym done.state) roomy.refused.1;
        room = subst (λ t. discards_among place from draws t rest ≤ after.free) (sym done.state) room;
      }

  -- ---- some of these steps, and then the others

  quiet_first : (s : State) (xs ys : List WalkStep) → AreQuiet place from draws s (xs ++ ys) → AreQuiet place from draws s xs
  quiet_first s [] ys quiet = tt
  quiet_first s (x ∷ xs) ys quiet = (quiet.0, quiet_first (chunk_did place from draws x.walk s x.chunk).state xs ys quiet.1)

  quiet_then : (s : State) (xs ys : List WalkStep) → AreQuiet place from draws s (xs ++ ys) → AreQuiet place from draws (steps_did place from draws s xs).state ys
  quiet_then s [] ys quiet = quiet
  quiet_then s (x ∷ xs) ys quiet = quiet_then (chunk_did place from draws x.walk s x.chunk).state xs ys quiet.1

  discards_then : (s : State) (xs ys : List WalkStep) →
      discards_among place from draws s (xs ++ ys) ≡ discards_among place from draws s xs + discards_among place from draws (steps_did place from draws s xs).state ys
  discards_then s [] ys = omega arith
  discards_then s (x ∷ xs) ys = let later = discards_then (chunk_did place from draws x.walk s x.chunk).state xs ys in omega (arith, later)

  quiet_entries : (s : State) (xs : List WalkStep) → AreQuiet place from draws s xs → length (steps_did place from draws s xs).entries ≡ discards_among place from draws s xs
  quiet_entries s [] quiet = refl
  quiet_entries s (x ∷ xs) quiet =
      let first : Did = chunk_did place from draws x.walk s x.chunk in
      let here = quiet_adds s place x.walk from draws x.chunk quiet.0 in
      let later = quiet_entries first.state xs quiet.1 in
      omega (arith, here, later, length-append first.entries (steps_did place from draws first.state xs).entries)

  pub roomy_first : (s : State) (xs ys : List WalkStep) (free : ℕ) → IsRoomy place from draws s (xs ++ ys) free → IsRoomy place from draws s xs free
  roomy_first s xs ys free roomy = record {
    refused = quiet_first s xs ys roomy.refused;
    room = omega (arith, roomy.room, discards_then s xs ys);
  }

  pub roomy_then : (s new : State) (xs ys : List WalkStep) (before after : Added) → IsRoomy place from draws s (xs ++ ys) before.free → Done (steps_did place from draws s xs) new before after →
      IsRoomy place from draws new ys after.free
  roomy_then s new xs ys before after roomy done =
      let left : State = (steps_did place from draws s xs).state in
      let room : discards_among place from draws left ys ≤ after.free =
      omega (arith, roomy.room, done.free, quiet_entries s xs (quiet_first s xs ys roomy.refused), discards_then s xs ys) in
      record {
        refused = subst (λ t. AreQuiet place from draws t ys) (sym done.state) (quiet_then s xs ys roomy.refused);
        room = subst (λ t. discards_among place from draws t ys ≤ after.free) (sym done.state) room;
      }
