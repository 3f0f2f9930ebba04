-- What the chunks of a datagram do.
use Rattle.std.specs.Prelude.{if◌then◌else◌}
use Rattle.std.proofs.Common.{◌≡◌, ℕ, zero, suc, ◌==◌, List, [], ◌∷◌, ◌++◌, take, Bool, true, false, ◌||◌}
use Rattle.std.proofs.Common.{Option, Some, None, Result, Ok, Err, inl, inr, ◌⊎◌, refl, sym, ap}
use Rattle.std.proofs.Common.{subst, ◌∙◌}
use Rattle.std.specs.FinMap.{get}
use Rattle.rtmfp_forms.specs.Address.{AddressParts}
use Rattle.rtmfp_packet.specs.Walk.{Placed}
use Rattle.rtmfp_chunks.specs.FieldReading.{chunk_reading}
use Rattle.rtmfp_data_chunks.specs.HandsOver.{IsIn}
use Rattle.rtmfp_data_chunks.specs.declared.user_data.Numbers.{Numbers}
use Rattle.rtmfp_data_chunks.specs.declared.view.DataFault.{DataFault}
use Rattle.rtmfp_data_chunks.specs.Chunk.{DataChunk}
use Rattle.rtmfp_data_chunks.specs.Spelling.{before_next}
use Rattle.rtmfp_data_chunks.specs.Reader.{data_reading}
use Rattle.glare_core.specs.declared.facts.Why.TheVariants.{Glare, Override}
use Rattle.glare_core.specs.declared.facts.Fact.{Fact}
use Rattle.glare_core.specs.declared.facts.Fact.TheVariants.{Born, Opened}
use Rattle.glare_core.specs.declared.facts.Held.{Held}
use Rattle.glare_core.specs.declared.facts.Held.TheVariants.{Opening, HalfOpen, KeptAsResponder}
use Rattle.glare_core.specs.declared.facts.Held.TheVariants.{KeptAsInitiator}
use Rattle.glare_core.specs.declared.facts.Joined.{Joined}
use Rattle.crypto_profile.specs.declared.group.GroupSecret.{GroupSecret}
use Rattle.glare_core.specs.Calls.{way_made}
use Rattle.session_core.specs.declared.stage.Role.TheVariants.{Initiator, Responder}
use Rattle.endpoint_model.specs.declared.config.Draws.{Draws}
use Rattle.endpoint_model.specs.declared.place.Place.{Place}
use Rattle.endpoint_model.specs.declared.place.Place.TheVariants.{Startup, Attempt, Session}
use Rattle.endpoint_model.specs.declared.walk.Walk.{Walk}
use Rattle.endpoint_model.specs.declared.row.Row.{Row}
use Rattle.endpoint_model.specs.declared.entry.Entry.TheVariants.{Fact as FactEntry}
use Rattle.endpoint_model.specs.State.{Sessions, State, Did, fact_entries}
use Rattle.endpoint_model.specs.State.{with_sessions, with_startup}
use Rattle.endpoint_model.specs.Admission.{sid_at, group_at, attempt_group}
use Rattle.endpoint_model.specs.FlowChunks.{is_of_flows, taking_cause, flow_cause, flow_taken_by}
use Rattle.endpoint_model.specs.FlowChunks.{flow_taken}
use Rattle.endpoint_model.specs.Causes.{takes, read_cause, chunk_cause}
use Rattle.endpoint_model.specs.Effects.{without_ended, with_born, with_opened}
use Rattle.endpoint_model.specs.Effects.{initiator_keyed, chunk_did, read_done, WalkStep, inset, walked}
use Rattle.endpoint_model.specs.Effects.{in_order, steps_did, whole_at, steps_of}
use Rattle.flow_history.specs.Deeds.{Context, back, Piece, History}
use Rattle.flow_history.specs.Lawful.{CameIn, WasSent}
use Rattle.endpoint_handing.specs.Told.{sending_context, facts_onto}
use Rattle.rtmfp_data_chunks.proofs.Fitting.{what_is_read_fits, small_next}
use Rattle.rtmfp_data_chunks.specs.Fitting.{FitsIn, AreSmall}
use Rattle.session_deeds.specs.Pieces.{pieces_read, parts_read, pieces_behind, pieces_at, pieces_of}
use Rattle.endpoint_handing.proofs.Pieces.{pieces_whole, pieces_plain}
use Rattle.endpoint_handing.proofs.Gathered.{parts_at, hands_taken, completed_sent, came_now, stands_in, hands_in}
use Rattle.endpoint_laws.proofs.Kin.{holds_still, group_known}
use Rattle.endpoint_handing.proofs.Kept.{End, away, Stands, AreNew, new_split, IsStill, Hands, Does}
use Rattle.endpoint_handing.proofs.Kept.{hands_after, does_after, does_nothing}
use Rattle.endpoint_handing.proofs.Silent.{AreSilent, AllHad, had_it, had_left, does_silent}
use Rattle.endpoint_handing.proofs.Begun.{does_begin}
use Rattle.endpoint_laws.proofs.Small.{birth, Begins}
use Rattle.endpoint_laws.proofs.Made.{by_hello, told_made, quiet_read_made, hello_made}
use Rattle.endpoint_laws.proofs.Made.{initiator_made, responder_made}
use Rattle.endpoint_laws.proofs.Spelled.{hello_kind}
use Rattle.endpoint_model.specs.Gathering.{piece_taken, whole_chunks, chunks_in}
use Rattle.endpoint_model.specs.Admission.{has_mode, mode_at, packet_in}
use Rattle.endpoint_model.specs.Keying.{chunks_of}
use Rattle.rtmfp_packet.specs.Whole.{Whole}
use Rattle.rtmfp_packet.specs.declared.head.PacketFault.{PacketFault}
use Rattle.rtmfp_base.specs.declared.cause.Cause.{Cause}
use Rattle.endpoint_model.proofs.FlowChunks.{of_flows}
use Rattle.endpoint_laws.proofs.ByKind.{is_kind, chunk_by_kind, is_taken}
use Rattle.endpoint_handing.proofs.Items.{ended_silent, DoesAlways, quiet_does, does_started, does_sought, reply_bare}
use Rattle.endpoint_handing.proofs.Owed.{FlowsHand}

-- ---- a session is born

way_silent : (peer : List ℕ) (o : Option Held) → AreSilent (fact_entries (way_made peer o))
way_silent peer None = tt
way_silent peer (Some (Opening n near ni)) = (ended_silent peer near Glare, tt)
way_silent peer (Some (HalfOpen j)) = (ended_silent peer j.near Override, tt)
way_silent peer (Some (KeptAsResponder j)) = (ended_silent peer j.near Override, tt)
way_silent peer (Some (KeptAsInitiator j)) = (ended_silent peer j.near Override, tt)

way_had : (m : Sessions) (peer : List ℕ) (o : Option Held) → AllHad m (without_ended m (way_made peer o))
way_had m peer None = had_it m
way_had m peer (Some (Opening n near ni)) = had_left m near
way_had m peer (Some (HalfOpen j)) = had_left m j.near
way_had m peer (Some (KeptAsResponder j)) = had_left m j.near
way_had m peer (Some (KeptAsInitiator j)) = had_left m j.near

module _ (e : End) (may : e.begins) (facts : List Fact) where
  does_birth : (s : State) (generation : ℕ) (peer : List ℕ) (o : Option Held) (j : Joined) (from : AddressParts) → Does e facts s (birth s (way_made peer o) j from (group_at s (Startup generation)))
  does_birth s generation peer o j from =
      let ended : Option Fact = way_made peer o in
      let rest : Sessions = without_ended s.sessions ended in
      let middle : State = with_sessions s rest in
      let g : GroupSecret = group_at s (Startup generation) in
      let born : State = with_born s ended (Born j) from g in
      does_after e facts s middle (fact_entries ended) (record { state = born; entries = FactEntry (Born j) ∷ [] })
      (does_silent e facts s middle (fact_entries ended) (way_silent peer o) (record { own = refl; holds = λ secrets holds. holds_still secrets s _ holds refl refl refl; rows = way_had s.sessions peer o }))
      (does_begin e (facts_onto (fact_entries ended) facts) middle born Responder j from g s.moment rest may refl (λ secrets holds. holds_still secrets middle born holds refl refl refl)
      (λ holds. group_known e.secrets middle holds (Startup generation)) (had_it rest) refl)

-- so it is of all that begins
pub begins_does : (e : End) → e.begins → Begins (DoesAlways e) (DoesAlways e)
begins_does e may = record {
  quiet = λ s d does. does;
  steps = (quiet_does e).sends.steps;
  starts = does_started e;
  seeks = does_sought e;
  bears = λ s generation peer o j from facts. does_birth e may facts s generation peer o j from;
  opens = λ s startup j from kin facts.
      (let g : GroupSecret = attempt_group s.group (get s.startup.attempts j.near) in
      let opened : State = with_opened (with_startup s startup) (Opened j) from g in
      does_begin e facts s opened Initiator j from g s.moment s.sessions may kin.own (λ secrets holds. holds_still secrets (with_startup s startup) opened (kin.holds secrets holds) refl refl refl)
      (λ holds. group_known e.secrets s holds (Attempt j.near 0)) (had_it s.sessions) refl);
}

-- ---- which place takes which chunk

not_taken : (place : Place) (kind n : ℕ) → takes place n ≡ false → takes place kind ≡ true → (kind == n) ≡ true → ⊥
not_taken place kind n outside here e = let clash : false ≡ true = sym outside ∙ ap (takes place) (sym (is_kind kind n e)) ∙ here in cc

none_of : (a b c d f g : Bool) → (a ≡ true → ⊥) → (b ≡ true → ⊥) → (c ≡ true → ⊥) → (d ≡ true → ⊥) → (f ≡ true → ⊥) → (g ≡ true → ⊥) → (a || b || c || d || f || g) ≡ true → ⊥
none_of true b c d f g p q r s t u is = p refl
none_of false true c d f g p q r s t u is = q refl
none_of false false true d f g p q r s t u is = r refl
none_of false false false true f g p q r s t u is = s refl
none_of false false false false true g p q r s t u is = t refl
none_of false false false false false true p q r s t u is = u refl
none_of false false false false false false p q r s t u is = absurd cc

-- chunks of flows come in sessions alone
no_flows_at_startup : (kind : ℕ) → takes (Startup 0) kind ≡ true → is_of_flows kind ≡ true → ⊥
no_flows_at_startup kind here is = none_of (kind == 0x10) (kind == 0x11) (kind == 0x50) (kind == 0x51) (kind == 0x18) (kind == 0x5e)
    (not_taken (Startup 0) kind 0x10 refl here) (not_taken (Startup 0) kind 0x11 refl here) (not_taken (Startup 0) kind 0x50 refl here) (not_taken (Startup 0) kind 0x51 refl here)
    (not_taken (Startup 0) kind 0x18 refl here) (not_taken (Startup 0) kind 0x5e refl here) is

no_flows_at_attempt : (near kind : ℕ) → takes (Attempt near 0) kind ≡ true → is_of_flows kind ≡ true → ⊥
no_flows_at_attempt near kind here is = none_of (kind == 0x10) (kind == 0x11) (kind == 0x50) (kind == 0x51) (kind == 0x18) (kind == 0x5e)
    (not_taken (Attempt near 0) kind 0x10 refl here) (not_taken (Attempt near 0) kind 0x11 refl here) (not_taken (Attempt near 0) kind 0x50 refl here) (not_taken (Attempt near 0) kind 0x51 refl here)
    (not_taken (Attempt near 0) kind 0x18 refl here) (not_taken (Attempt near 0) kind 0x5e refl here) is

-- ---- what a chunk is given

-- Sessions begin outside of sessions alone.
abbrev pub BeginsAt : End → Place → Type 0
BeginsAt e (Startup generation) = e.begins
BeginsAt e (Attempt near generation) = e.begins
BeginsAt e (Session near) = e.begins → ⊥

may_begin : (e : End) (place : Place) (n : ℕ) → ((near : ℕ) → takes (Session near) n ≡ false) → BeginsAt e place → takes place n ≡ true → e.begins
may_begin e (Startup generation) n outside at here = at
may_begin e (Attempt near generation) n outside at here = at
may_begin e (Session near) n outside at here = let clash : false ≡ true = sym (outside near) ∙ here in absurd (cc)

-- In a session, what the chunk has of flows came towards it.
abbrev CameTo : End → Place → State → List Piece → History → Type 0
CameTo e (Startup generation) s pieces h = Unit {0}
CameTo e (Attempt near generation) s pieces h = Unit {0}
CameTo e (Session near) s pieces h = (row : Row) → get s.sessions near ≡ Some row → (x : Piece) → IsIn x pieces → CameIn e.who (back (away row.session)) x h

module _ (e : End) (owed : FlowsHand e) (facts : List Fact) (s : State) (h : History) (stands : Stands e facts s h) where
  taken_by_row : (near : ℕ) (chunk : DataChunk) (o : Option Row) → get s.sessions near ≡ o → taking_cause o chunk ≡ None → FitsIn chunk → CameTo e (Session near) s (pieces_read (Ok chunk)) h → Hands e facts (flow_taken_by s near chunk o) h
  taken_by_row near chunk None is none fits came = absurd cc
  taken_by_row near chunk (Some row) is none fits came = owed.taken facts s near row is chunk none fits h stands (came row is)

  taken_read : (near : ℕ) (read : Result DataChunk DataFault) → ((chunk : DataChunk) → read ≡ Ok chunk → FitsIn chunk) → flow_cause (get s.sessions near) read ≡ None → CameTo e (Session near) s (pieces_read read) h → Hands e facts (flow_taken s near read) h
  taken_read near (Ok chunk) fits none came = taken_by_row near chunk (get s.sessions near) refl none (fits chunk refl) came
  taken_read near (Err fault) fits none came = does_nothing e facts s h stands tt

  taken_at : (place : Place) (kind : ℕ) (read : Result DataChunk DataFault) → ((chunk : DataChunk) → read ≡ Ok chunk → FitsIn chunk) → takes place kind ≡ true → is_of_flows kind ≡ true → flow_cause (get s.sessions (sid_at place)) read ≡ None → CameTo e place s (pieces_read read) h →
      Hands e facts (flow_taken s (sid_at place) read) h
  taken_at (Startup generation) kind read fits here is none came = absurd (no_flows_at_startup kind here is)
  taken_at (Attempt near generation) kind read fits here is none came = absurd (no_flows_at_attempt near kind here is)
  taken_at (Session near) kind read fits here is none came = taken_read near read fits none came

  module _ (place : Place) (walk : Walk) (from : AddressParts) (draws : Draws) (c : Placed) (at : BeginsAt e place) (small : AreSmall walk.cursor) (came : CameTo e place s (pieces_at walk.cursor c.kind c.payload) h) where
    pub hands_chunk : AreNew e facts (chunk_did place from draws walk s c).entries → Hands e facts (chunk_did place from draws walk s c) h
    hands_chunk = chunk_by_kind (λ d. AreNew e facts d.entries → Hands e facts d h) place from draws walk s c (record {
      discarded = λ cause. (quiet_does e).discards s c.at cause facts h stands;
      initiator = λ kind taken none formed. initiator_at place (is_taken place walk 0x38 taken) (may_begin e place 0x38 (λ q. refl) at (is_taken place walk 0x38 taken));
      responder = λ kind taken none formed. responder_made (quiet_does e) (begins_does e (may_begin e place 0x78 (λ q. refl) at (is_taken place walk 0x78 taken))) s (sid_at place) from c.payload facts h stands;
      told = λ told taken has. told_made (quiet_does e) s (sid_at place) from c facts h stands;
      flows = λ is taken none new. taken_at place c.kind (data_reading walk.cursor c.kind c.payload) (λ chunk read. (what_is_read_fits walk.cursor c.kind c.payload chunk small read).0) (is_taken place walk c.kind taken) is none (flows_came is);
      piece = λ kind taken new. piece_at place (is_taken place walk 0x7f taken) (part_came kind) new;
      reads = λ taken formed none.
          by_hello (λ read. chunk_reading c.kind c.payload ≡ read → read_cause s place from read ≡ None → AreNew e facts (read_done s place from read).entries → Hands e facts (read_done s place from read) h)
          (λ tag cookie cert is none. hello_made (quiet_does e) (begins_does e (may_begin e place 0x70 (λ q. refl) at (subst (λ (k : ℕ). takes place k ≡ true) (hello_kind c.kind c.payload tag cookie cert is) (is_taken place walk c.kind taken)))) s place from tag cookie cert facts h stands)
          (λ read other is none. quiet_read_made (quiet_does e) s place from read other (reply_bare s place from read none) facts h stands) (chunk_reading c.kind c.payload) refl none;
    })
      where
        -- what a chunk of flows has came
        flows_came : is_of_flows c.kind ≡ true → CameTo e place s (pieces_read (data_reading walk.cursor c.kind c.payload)) h
        flows_came is =
            subst (λ (pieces : List Piece). CameTo e place s pieces h)
            (ap (λ (b : Bool). if b then parts_read (chunk_reading c.kind c.payload) else pieces_read (data_reading walk.cursor c.kind c.payload)) (of_flows (λ k. (k == 0x7f) ≡ false) refl refl refl refl refl refl c.kind is)) came

        -- and so did a piece of a packet
        piece_at : (p : Place) → takes p 0x7f ≡ true → CameTo e p s (parts_read (chunk_reading c.kind c.payload)) h → AreNew e facts (piece_taken s (sid_at p) c.at (chunk_reading c.kind c.payload)).entries → Hands e facts (piece_taken s (sid_at p) c.at (chunk_reading c.kind c.payload)) h
        piece_at (Startup generation) here part new = absurd (cc)
        piece_at (Attempt near generation) here part new = absurd (cc)
        piece_at (Session near) here part new = hands_taken e facts s near h stands c.at (chunk_reading c.kind c.payload) part new

        part_came : c.kind ≡ 0x7f → CameTo e place s (parts_read (chunk_reading c.kind c.payload)) h
        part_came kind = subst (λ (pieces : List Piece). CameTo e place s pieces h) (parts_at walk.cursor c kind) came

        initiator_at : (p : Place) → takes p 0x38 ≡ true → e.begins → AreNew e facts (initiator_keyed s p from draws c.payload).entries → Hands e facts (initiator_keyed s p from draws c.payload) h
        initiator_at (Startup generation) taken may = initiator_made (quiet_does e) (begins_does e may) s generation from draws c.payload facts h stands
        initiator_at (Attempt near generation) taken may = absurd (cc)
        initiator_at (Session near) taken may = absurd (cc)

-- ---- one chunk after another

in_first : (x : Piece) (xs ys : List Piece) → IsIn x xs → IsIn x (xs ++ ys)
in_first x [] ys among = absurd among
in_first x (y ∷ xs) ys (inl is) = inl is
in_first x (y ∷ xs) ys (inr among) = inr (in_first x xs ys among)

in_second : (x : Piece) (xs ys : List Piece) → IsIn x ys → IsIn x (xs ++ ys)
in_second x [] ys among = among
in_second x (y ∷ xs) ys among = inr (in_second x xs ys among)

-- The session has this context, and what these chunks have of flows came towards it.
pub record AllCame (e : End) (near : ℕ) (facts : List Fact) (before : Option Numbers) (cs : List Placed) (h : History) : Type 0 where
  pub context : Context
  pub named : sending_context e.own near facts ≡ Some context
  pub came : (x : Piece) → IsIn x (pieces_behind before cs) → CameIn e.who (back context) x h

abbrev pub AllCameAt : End → Place → List Fact → Option Numbers → List Placed → History → Type 0
AllCameAt e (Startup generation) facts before cs h = Unit {0}
AllCameAt e (Attempt near generation) facts before cs h = Unit {0}
AllCameAt e (Session near) facts before cs h = AllCame e near facts before cs h

first_came : (e : End) (place : Place) (facts : List Fact) (s : State) (before : Option Numbers) (c : Placed) (cs : List Placed) (h : History) → Stands e facts s h → AllCameAt e place facts before (c ∷ cs) h →
    CameTo e place s (pieces_at before c.kind c.payload) h
first_came e (Startup generation) facts s before c cs h stands all = tt
first_came e (Attempt near generation) facts s before c cs h stands all = tt
first_came e (Session near) facts s before c cs h stands all = λ row there x among.
    let both : Some all.context ≡ Some (away row.session) = sym all.named ∙ (stands.state.rows near row there).named in
    let is : all.context ≡ away row.session = cc in
    let one : List Piece = pieces_at before c.kind c.payload in
    subst (λ (d : Context). CameIn e.who (back d) x h) is (all.came x (in_first x one (pieces_behind (before_next (data_reading before c.kind c.payload)) cs) among))

stays : (e : End) (near : ℕ) (facts more : List Fact) → (e.begins → ⊥) → e.begins ⊎ IsStill e.own near facts more → IsStill e.own near facts more
stays e near facts more never (inl may) = absurd (never may)
stays e near facts more never (inr still) = still

rest_came : (e : End) (place : Place) (facts : List Fact) (before : Option Numbers) (c : Placed) (cs : List Placed) (h : History) (d : Did) → BeginsAt e place → (one : Hands e facts d h) → AllCameAt e place facts before (c ∷ cs) h →
    AllCameAt e place (facts_onto d.entries facts) (before_next (data_reading before c.kind c.payload)) cs one.after
rest_came e (Startup generation) facts before c cs h d at one all = tt
rest_came e (Attempt near generation) facts before c cs h d at one all = tt
rest_came e (Session near) facts before c cs h d at one all = record {
  context = all.context;
  named = stays e near facts (facts_onto d.entries facts) at (one.still near) ∙ all.named;
  came = λ x among. one.grows.came e.who (back all.context) x (all.came x (in_second x (pieces_at before c.kind c.payload) (pieces_behind (before_next (data_reading before c.kind c.payload)) cs) among));
}

pub came_after : (e : End) (place : Place) (facts : List Fact) (before : Option Numbers) (cs : List Placed) (h : History) (d : Did) → BeginsAt e place → (one : Hands e facts d h) → AllCameAt e place facts before cs h →
    AllCameAt e place (facts_onto d.entries facts) before cs one.after
came_after e (Startup generation) facts before cs h d at one all = tt
came_after e (Attempt near generation) facts before cs h d at one all = tt
came_after e (Session near) facts before cs h d at one all = record {
  context = all.context;
  named = stays e near facts (facts_onto d.entries facts) at (one.still near) ∙ all.named;
  came = λ x among. one.grows.came e.who (back all.context) x (all.came x among);
}

-- ---- the packet that a chunk completes

-- what its chunks have of flows is among what the packet has
among_read : (s : State) (near : ℕ) (read : Result Whole PacketFault) (x : Piece) → IsIn x (pieces_of (whole_chunks s near read)) → IsIn x (pieces_whole read)
among_read s near (Err fault) x among = among
among_read s near (Ok packet) x among = by (has_mode packet.head (mode_at s (Session near))) among
  where
    by : (b : Bool) → IsIn x (pieces_of (if b then chunks_of packet else [])) → IsIn x (pieces_of (chunks_of packet))
    by true among = among
    by false among = absurd among

-- What comes after a chunk, where the packet that the chunk completes, if it does, has come.
module _ (e : End) (facts : List Fact) (s : State) (h : History) (stands : Stands e facts s h) (before : Option Numbers) (c : Placed) (cs : List Placed) (o : Option Cause) (d : Did) (one : Hands e facts d h) (later : Did) where
  abbrev more : List Fact
  more = facts_onto d.entries facts

  abbrev next : Option Numbers
  next = before_next (data_reading before c.kind c.payload)

  abbrev Follows : Place → List Placed → Type 0
  Follows place inner = (g : History) → Stands e more d.state g → AllCameAt e place more None inner g → AllCameAt e place more next cs g → Hands e more later g

  in_session : (near : ℕ) → BeginsAt e (Session near) → AllCame e near facts before (c ∷ cs) h → (w : Option (List ℕ)) → whole_at s (Session near) o c ≡ w → Follows (Session near) (chunks_in s near w) → Hands e more later one.after
  in_session near at all w is follows =
      let still : sending_context e.own near more ≡ Some all.context = stays e near facts more at (one.still near) ∙ all.named in
      let rest : (x : Piece) → IsIn x (pieces_behind next cs) → CameIn e.who (back all.context) x one.after =
      λ x among. one.grows.came e.who (back all.context) x (all.came x (in_second x (pieces_at before c.kind c.payload) (pieces_behind next cs) among)) in
      by still rest w is follows
    where
      by : sending_context e.own near more ≡ Some all.context → ((x : Piece) → IsIn x (pieces_behind next cs) → CameIn e.who (back all.context) x one.after) →
          (w : Option (List ℕ)) → whole_at s (Session near) o c ≡ w → Follows (Session near) (chunks_in s near w) → Hands e more later one.after
      by still rest None is follows = follows one.after one.stands
          (record { context = all.context; named = still; came = λ x none. absurd none }) (record { context = all.context; named = still; came = rest })
      by still rest (Some packet) is follows =
          let sent = completed_sent e facts s near h stands before c (first_came e (Session near) facts s before c cs h stands all) o packet is in
          let both : Some all.context ≡ Some (away sent.0.session) = sym all.named ∙ (stands.state.rows near sent.0 sent.1).named in
          let same : all.context ≡ away sent.0.session = cc in
          let here : Context = back all.context in
          let pieces : List Piece = pieces_plain packet in
          let went : WasSent here pieces h = subst (λ (a : Context). WasSent (back a) pieces h) (sym same) sent.2 in
          hands_in e more here pieces one.after later (follows (came_now e more here pieces one.after)
          (stands_in e more here pieces one.after d.state (one.grows.sent here pieces went) one.stands)
          (record { context = all.context; named = still; came = λ x among. inl (refl, (refl, among_read s near (packet_in packet) x among)) })
          (record { context = all.context; named = still; came = λ x among. inr (rest x among) }))

  with_packet : (place : Place) → BeginsAt e place → AllCameAt e place facts before (c ∷ cs) h → Follows place (chunks_in s (sid_at place) (whole_at s place o c)) → Hands e more later one.after
  with_packet (Startup generation) at all follows = follows one.after one.stands tt tt
  with_packet (Attempt near generation) at all follows = follows one.after one.stands tt tt
  with_packet (Session near) at all follows = in_session near at all (whole_at s (Session near) o c) refl follows

-- ---- one step after another

module _ (e : End) (owed : FlowsHand e) (place : Place) (from : AddressParts) (draws : Draws) (at : BeginsAt e place) where
  -- So many of the steps, in this state, with which come the chunks of a packet.
  abbrev GoesOn : State → List WalkStep → Option Numbers → List Placed → Type 0
  GoesOn s xs before cs = (count : ℕ) (facts : List Fact) (h : History) → Stands e facts s h → AllCameAt e place facts before cs h → AreNew e facts (steps_did place from draws s (take count xs)).entries →
      Hands e facts (steps_did place from draws s (take count xs)) h

  -- the chunks of a packet that was gathered, and then what comes behind it
  hands_inner : (inner : List Placed) (walk : Walk) (s : State) (rest : List WalkStep) (before : Option Numbers) (cs : List Placed) → AreSmall walk.cursor → GoesOn (steps_did place from draws s (in_order walk inner)).state rest before cs →
      (count : ℕ) (facts : List Fact) (h : History) → Stands e facts s h → AllCameAt e place facts walk.cursor inner h → AllCameAt e place facts before cs h →
      AreNew e facts (steps_did place from draws s (take count (in_order walk inner ++ rest))).entries → Hands e facts (steps_did place from draws s (take count (in_order walk inner ++ rest))) h
  hands_inner [] walk s rest before cs small goes count facts h stands all later new = goes count facts h stands later new
  hands_inner (c ∷ inner) walk s rest before cs small goes zero facts h stands all later new = does_nothing e facts s h stands tt
  hands_inner (c ∷ inner) walk s rest before cs small goes (suc count) facts h stands all later new =
      let d : Did = chunk_did place from draws walk s c in
      let onward : Did = steps_did place from draws d.state (take count (in_order (walked walk c) inner ++ rest)) in
      let parts = new_split e d.entries onward.entries facts new in
      let one : Hands e facts d h = hands_chunk e owed facts s h stands place walk from draws c at small (first_came e place facts s walk.cursor c inner h stands all) parts.0 in
      hands_after e facts d.state d.entries onward h one
      (hands_inner inner (walked walk c) d.state rest before cs (small_next walk.cursor c.kind c.payload small) goes count (facts_onto d.entries facts) one.after one.stands
      (rest_came e place facts walk.cursor c inner h d at one all) (came_after e place facts before cs h d at one later) parts.1)

  -- the chunks of a packet, and behind each piece that completes another packet those of that one
  pub hands_steps : (cs : List Placed) (walk : Walk) (s : State) → AreSmall walk.cursor → GoesOn s (steps_of place from draws walk s cs) walk.cursor cs
  hands_steps [] walk s small zero facts h stands all new = does_nothing e facts s h stands tt
  hands_steps [] walk s small (suc count) facts h stands all new = does_nothing e facts s h stands tt
  hands_steps (c ∷ cs) walk s small zero facts h stands all new = does_nothing e facts s h stands tt
  hands_steps (c ∷ cs) walk s small (suc count) facts h stands all new =
      let o : Option Cause = chunk_cause s place walk from c in
      let inner : List Placed = chunks_in s (sid_at place) (whole_at s place o c) in
      let d : Did = chunk_did place from draws walk s c in
      let t : State = (steps_did place from draws d.state (in_order inset inner)).state in
      let rest : List WalkStep = steps_of place from draws (walked walk c) t cs in
      let onward : Did = steps_did place from draws d.state (take count (in_order inset inner ++ rest)) in
      let parts = new_split e d.entries onward.entries facts new in
      let one : Hands e facts d h = hands_chunk e owed facts s h stands place walk from draws c at small (first_came e place facts s walk.cursor c cs h stands all) parts.0 in
      let next : Option Numbers = before_next (data_reading walk.cursor c.kind c.payload) in
      let goes : GoesOn t rest next cs = hands_steps cs (walked walk c) t (small_next walk.cursor c.kind c.payload small) in
      hands_after e facts d.state d.entries onward h one
      (with_packet e facts s h stands walk.cursor c cs o d one onward place at all
      (λ g now gathered later. hands_inner inner inset d.state rest next cs tt goes count (facts_onto d.entries facts) g now gathered later parts.1))
