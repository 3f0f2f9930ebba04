-- What an end does with the flows of a session goes with deeds of a history of flows.
use Rattle.std.proofs.Common.{◌≡◌, ◌≤◌, arith, ℕ, List, [], ◌∷◌, ◌++◌, map, length, drop, Bool}
use Rattle.std.proofs.Common.{Option, Some, None, inl, inr, refl, sym, ap, subst, ◌∙◌, append-nil}
use Rattle.std.specs.Option.{option_map}
use Rattle.std.specs.List.{flat_map}
use Rattle.std.specs.FinMap.{get}
use Rattle.rtmfp_base.proofs.Maps.{found_inserted, get_inserted}
use Rattle.rtmfp_packet.specs.Spelling.{chunk_bytes as written_bytes}
use Rattle.rtmfp_packet.specs.Walk.{Body, body_of, all_placed_from, visible}
use Rattle.rtmfp_packet.proofs.Bodies.{body_of-spelled}
use Rattle.rtmfp_data_chunks.specs.HandsOver.{IsIn}
use Rattle.flow_send.specs.Flow.{Flow}
use Rattle.glare_core.specs.declared.facts.Fact.{Fact}
use Rattle.glare_core.specs.declared.facts.Joined.{Joined}
use Rattle.session_flows.specs.Keeping.{FlowsState, sending_at, Did as FlowsDid}
use Rattle.session_flows.specs.Keeping.{nothing as nothing_done}
use Rattle.session_flows.specs.Keeping.{Stated, Opened as OpenedOf, Queued as QueuedOf}
use Rattle.session_flows.specs.Keeping.{Abandoned as AbandonedOf}
use Rattle.session_flows.specs.Keeping.{Finished as FinishedOf, Handed as HandedOf}
use Rattle.endpoint_model.specs.declared.row.Row.{Row}
use Rattle.endpoint_model.specs.declared.entry.Entry.{Entry}
use Rattle.endpoint_model.specs.Views.{fact_in}
use Rattle.endpoint_laws.specs.Contexts.{Secrets}
use Rattle.endpoint_model.specs.State.{State, nothing, then_do, with_row}
use Rattle.endpoint_model.specs.OnFlows.{flow_entry}
use Rattle.endpoint_model.specs.InSessions.{sent_home_by, sent_home}
use Rattle.endpoint_laws.specs.Past.{fact_and}
use Rattle.flow_history.specs.Deeds.{Context, back, Name, name, Piece, Data, Ack, Part, Out, History}
use Rattle.flow_history.specs.Lawful.{MayDo, WasSplitBy}
use Rattle.rtmfp_fragments.specs.Held.{PacketParts}
use Rattle.endpoint_handing.proofs.Pieces.{pieces_plain}
use Rattle.endpoint_handing.proofs.PartsHeld.{AllHeld, held_wider}
use Rattle.flow_history.specs.Log.{Entry as Tell, Queued as TellQueued, Abandoned as TellAbandoned}
use Rattle.flow_history.specs.Log.{Handed as TellHanded, log_of}
use Rattle.flow_history.specs.Keeping.{Flows}
use Rattle.session_deeds.specs.Shows.{opened_of, Shows}
use Rattle.session_deeds.specs.Deeds.{Deed, did_all}
use Rattle.session_deeds.specs.Goes.{IsDoneBy, Goes, IsSaid, AllSaid}
use Rattle.session_deeds.specs.Pieces.{pieces_of, IsPutBehind}
use Rattle.session_deeds.specs.Laws.{Puts}
use Rattle.endpoint_handing.specs.Told.{AllHaveContext, sending_context, told_in, told_at}
use Rattle.endpoint_handing.specs.Told.{facts_onto, told_onto}
use Rattle.endpoint_laws.proofs.Kin.{holds_still}
use Rattle.endpoint_handing.proofs.Kept.{End, away, FlowsKept, PartCame, RowKept, Stands, OutsWent, Hands}
use Rattle.endpoint_handing.proofs.Kept.{Does, hands_after}
use Rattle.endpoint_handing.proofs.Silent.{away_same, keys_same}
use Rattle.endpoint_handing.proofs.Begun.{contexts_apart}
use Rattle.endpoint_handing.proofs.Bodies.{body_pieces}
use Rattle.endpoint_handing.proofs.Parting.{hands_sent}
use Rattle.endpoint_handing.proofs.Running.{HaveCome, Said, tell_of, told_on, messages_told}
use Rattle.endpoint_handing.proofs.Running.{AllOpenAs, open_as, Ran, ran}

-- ---- what is stated of flows, as entries

flow_fact : (near : ℕ) (x : Stated) → fact_in (flow_entry near x) ≡ None
flow_fact near (OpenedOf flow) = refl
flow_fact near (QueuedOf flow seq message) = refl
flow_fact near (AbandonedOf flow seq) = refl
flow_fact near (FinishedOf flow seq) = refl
flow_fact near (HandedOf flow seq message) = refl

pub flows_facts : (near : ℕ) (stated : List Stated) (facts : List Fact) → facts_onto (map (flow_entry near) stated) facts ≡ facts
flows_facts near [] facts = refl
flows_facts near (x ∷ rest) facts = ap (λ (o : Option Fact). facts_onto (map (flow_entry near) rest) (fact_and o facts)) (flow_fact near x) ∙ flows_facts near rest facts

flows_outs : (secrets : Secrets) (near : ℕ) (stated : List Stated) (h : History) → OutsWent secrets (map (flow_entry near) stated) h
flows_outs secrets near [] h = tt
flows_outs secrets near (OpenedOf flow ∷ rest) h = (tt, flows_outs secrets near rest h)
flows_outs secrets near (QueuedOf flow seq message ∷ rest) h = (tt, flows_outs secrets near rest h)
flows_outs secrets near (AbandonedOf flow seq ∷ rest) h = (tt, flows_outs secrets near rest h)
flows_outs secrets near (FinishedOf flow seq ∷ rest) h = (tt, flows_outs secrets near rest h)
flows_outs secrets near (HandedOf flow seq message ∷ rest) h = (tt, flows_outs secrets near rest h)

module _ (own : List ℕ) (near : ℕ) (facts : List Fact) (c : Context) (named : sending_context own near facts ≡ Some c) where
  one_told : (x : Stated) → told_at own facts (flow_entry near x) ≡ tell_of c x
  one_told (OpenedOf flow) = refl
  one_told (QueuedOf flow seq message) = ap (λ (o : Option Context). told_in o (λ (d : Context). TellQueued (name d flow) (record { number = seq; bytes = message }))) named
  one_told (AbandonedOf flow seq) = ap (λ (o : Option Context). told_in o (λ (d : Context). TellAbandoned (name d flow) seq)) named
  one_told (FinishedOf flow seq) = refl
  one_told (HandedOf flow seq message) = ap (λ (o : Option Context). told_in o (λ (d : Context). TellHanded (name (back d) flow) (record { number = seq; bytes = message }))) named

  pub flows_told : (stated : List Stated) (before : List Tell) → told_onto own facts (map (flow_entry near) stated) before ≡ told_on c stated before
  flows_told [] before = refl
  flows_told (x ∷ rest) before =
      ap (λ (o : Option Fact). told_onto own (fact_and o facts) (map (flow_entry near) rest) (told_at own facts (flow_entry near x) ++ before)) (flow_fact near x)
      ∙ ap (λ (l : List Tell). told_onto own facts (map (flow_entry near) rest) (l ++ before)) (one_told x)
      ∙ flows_told rest _

  pub flows_named : (stated : List Stated) → AllHaveContext own facts (map (flow_entry near) stated)
  flows_named [] = tt
  flows_named (OpenedOf flow ∷ rest) = (tt, flows_named rest)
  flows_named (QueuedOf flow seq message ∷ rest) = ((c, named), flows_named rest)
  flows_named (AbandonedOf flow seq ∷ rest) = ((c, named), flows_named rest)
  flows_named (FinishedOf flow seq ∷ rest) = (tt, flows_named rest)
  flows_named (HandedOf flow seq message ∷ rest) = ((c, named), flows_named rest)

-- ---- which flows are opened

-- No flow is there that wasn't.
abbrev pub OpensNone : FlowsState → FlowsState → Type 0
OpensNone s t = (f : ℕ) → sending_at s f ≡ None → sending_at t f ≡ None

unmapped : (o : Option Flow) → option_map opened_of o ≡ None → o ≡ None
unmapped None e = refl
unmapped (Some f) e = absurd cc

none_opened : (c : Context) (came : List Piece) (s : FlowsState) (fl : Flows) (d : FlowsDid) (deeds : List Deed) → Shows s fl → IsDoneBy came fl d deeds → OpensNone s d.flows → (b : Bool) (n : Name) → AllOpenAs b n c deeds
none_opened c came s fl d deeds shows done none b n = open_as b n c came deeds fl done.may (λ f k unopened opened is. absurd (
    let gone : sending_at d.flows f ≡ None = none f (unmapped (sending_at s f) (sym (shows.opened f) ∙ unopened)) in
    let clash : None ≡ Some k = sym (done.shows.opened f ∙ ap (option_map opened_of) gone) ∙ opened in
    cc
    ))

-- ---- one thing that is done with the flows of a session

module _ (e : End) (facts : List Fact) (s : State) (near : ℕ) (row : Row) (there : get s.sessions near ≡ Some row) where
  abbrev context : Context
  context = away row.session

  -- what the row becomes is of the same session
  pub record IsOfIt (new : Row) : Type 0 where
    pub joined : new.session.joined ≡ row.session.joined
    pub own : new.session.own ≡ row.session.own
    pub role : new.session.role ≡ row.session.role
    pub generation : new.session.generation ≡ row.session.generation
    pub inward : new.session.inward ≡ row.session.inward
    pub outward : new.session.outward ≡ row.session.outward
    pub gathering : new.gathering ≡ row.gathering
    pub packets : row.packets ≤ new.packets

  pub its_flows : (flows : FlowsState) → IsOfIt (record row { flows = flows })
  its_flows flows = record { joined = refl; own = refl; role = refl; generation = refl; inward = refl; outward = refl; gathering = refl; packets = omega arith }

  module _ (new : Row) (it : IsOfIt new) (came : List Piece) (d : FlowsDid) (left : new.flows ≡ d.flows) (h : History) (stands : Stands e facts s h) (all : HaveCome e.who context came h) where
    abbrev row_kept : RowKept e facts near row h
    row_kept = stands.state.rows near row there

    abbrev fl : Flows
    fl = row_kept.flows.kept

    abbrev entries : List Entry
    entries = map (flow_entry near) d.stated

    abbrev after_it : State
    after_it = with_row s near new

    -- the thing, and that what its deeds say is said
    pub record Went (deeds : List Deed) : Type 0 where
      pub hands : Hands e facts (record { state = after_it; entries = entries }) h
      pub said : (p : Piece) → IsSaid fl deeds p → Said e.who context hands.after p

    module _ (deeds : List Deed) (done : IsDoneBy came fl d deeds) (asked : (b : Bool) (n : Name) → e.orders b n → AllOpenAs b n context deeds) where
      run : Ran e.who context fl deeds h
      run = ran e.who context came deeds fl h stands.lawful stands.honest (record { sends = row_kept.flows.sends; takes = row_kept.flows.takes }) all done.may

      same : away new.session ≡ context
      same = away_same row.session new.session it.joined it.own it.role

      new_kept : RowKept e facts near new run.after
      new_kept = record {
        id = ap (λ (j : Joined). j.near) it.joined ∙ row_kept.id;
        own = it.own ∙ row_kept.own;
        keyed = keys_same e.secrets row.session new.session it.joined it.own it.role it.generation it.inward it.outward row_kept.keyed;
        named = row_kept.named ∙ ap (λ (c : Context). Some c) (sym same);
        flows = subst (λ (c : Context). FlowsKept e.who c new.flows run.after) (sym same) (record {
          kept = did_all fl deeds;
          shows = subst (λ (f : FlowsState). Shows f (did_all fl deeds)) (sym left) done.shows;
          sends = run.kept.sends;
          takes = run.kept.takes;
        });
        held = subst (λ (g : List PacketParts). AllHeld (PartCame e.who (away new.session) run.after) g) (sym it.gathering)
            (subst (λ (c : Context). AllHeld (PartCame e.who c run.after) row.gathering) (sym same)
            (held_wider (PartCame e.who context h) (PartCame e.who context run.after) row.gathering (λ id x came. run.grows.came e.who (back context) (Part id x) came) row_kept.held));
        split = λ id was. omega (arith, it.packets, row_kept.split id (run.split_by e.who context id (subst (λ (c : Context). WasSplitBy e.who c id run.after) same was)));
      }

      beside_kept : (q : ℕ) (other : Row) → (q ≡ near → ⊥) → get s.sessions q ≡ Some other → RowKept e facts q other run.after
      beside_kept q other ne is =
          let k = stands.state.rows q other is in
          record {
            id = k.id;
            own = k.own;
            keyed = k.keyed;
            named = k.named;
            flows = run.beside (away other.session) other.flows
                (contexts_apart row.session.role other.session.role row.session.own other.session.own row.session.joined other.session.joined
                (λ (one : other.session.joined.near ≡ row.session.joined.near). ne (sym k.id ∙ one ∙ row_kept.id))) k.flows;
            held = held_wider (PartCame e.who (away other.session) h) (PartCame e.who (away other.session) run.after) other.gathering (λ id x came. run.grows.came e.who (back (away other.session)) (Part id x) came) k.held;
            split = λ id was. k.split id (run.split_by e.who (away other.session) id was);
          }

      rows_kept : (q : ℕ) (other : Row) → get after_it.sessions q ≡ Some other → RowKept e facts q other run.after
      rows_kept q other is = elim (found_inserted s.sessions near new q other is) [
        | inl at ↦ subst (λ (r : Row). RowKept e facts q r run.after) at.1 (subst (λ (k : ℕ). RowKept e facts k new run.after) (sym at.0) new_kept)
        | inr beside ↦ beside_kept q other beside.0 beside.1
      ]

      stands_after : Stands e facts after_it run.after
      stands_after = record {
        lawful = run.lawful;
        honest = run.honest;
        begun = λ at was. stands.begun at (run.begun at was);
        splits = λ at id size packet was. run.grows.sent at (pieces_plain packet) (stands.splits at id size packet (run.split at id size packet was));
        state = record { own = stands.state.own; rows = rows_kept };
        holds = holds_still e.secrets s after_it stands.holds refl refl refl;
      }

      pub went : Went deeds
      went = record {
        hands = record {
          after = run.after;
          grows = run.grows;
          stands = subst (λ (f : List Fact). Stands e f after_it run.after) (sym (flows_facts near d.stated facts)) stands_after;
          log = run.log ∙ ap (λ (l : List Stated). told_on context l (log_of h)) done.states ∙ messages_told context d.stated (log_of h)
              ∙ sym (flows_told e.own near facts context row_kept.named d.stated (log_of h));
          named = flows_named e.own near facts context row_kept.named d.stated;
          outs = flows_outs e.secrets near d.stated run.after;
          still = λ q. inr (ap (sending_context e.own q) (flows_facts near d.stated facts));
          order = λ b n o was. run.order b n (asked b n o) was;
        };
        said = run.said;
      }

    -- a thing that opens no flow
    pub hands_goes : Goes came row.flows d → OpensNone row.flows d.flows → Hands e facts (record { state = after_it; entries = entries }) h
    hands_goes goes none =
        let found = goes fl row_kept.flows.shows in
        let w = went found.0 found.1 (λ b n o. none_opened context came row.flows fl d found.0 row_kept.flows.shows found.1 none b n) in
        w.hands

  pub none_came : (h : History) → HaveCome e.who context [] h
  none_came h p none = absurd none

  pub does_goes : (new : Row) → IsOfIt new → (d : FlowsDid) → new.flows ≡ d.flows → Goes [] row.flows d → OpensNone row.flows d.flows → Does e facts s (record { state = with_row s near new; entries = map (flow_entry near) d.stated })
  does_goes new it d left goes none h stands fresh = hands_goes new it [] d left h stands (none_came h) goes none

  -- ---- a packet of what its flows say

  said_in : (fl : Flows) (deeds : List Deed) (pieces : List Piece) → AllSaid fl deeds pieces → (p : Piece) → IsIn p pieces → IsSaid fl deeds p
  said_in fl deeds [] all p among = absurd among
  said_in fl deeds (x ∷ rest) all p (inl is) = subst (λ (q : Piece). IsSaid fl deeds q) (sym is) all.0
  said_in fl deeds (x ∷ rest) all p (inr among) = said_in fl deeds rest all.1 p among

  behind : (front back : List ℕ) → drop (length front) (front ++ back) ≡ back
  behind [] back = refl
  behind (x ∷ front) back = behind front back

  put_pieces : (front packet : List ℕ) (pieces : List Piece) → IsPutBehind front packet pieces → body_pieces (drop (length front) packet) ≡ pieces
  put_pieces front packet pieces put =
      let bytes : List ℕ = flat_map written_bytes put.chunks in
      let body : drop (length front) packet ≡ bytes = ap (drop (length front)) put.whole ∙ behind front bytes in
      let spelled : body_of bytes ≡ record { chunks = put.chunks; padding = [] } = ap body_of (sym (append-nil bytes)) ∙ body_of-spelled put.chunks [] put.each tt in
      ap body_pieces body ∙ ap (λ (b : Body). pieces_of (visible (all_placed_from 0 b.chunks))) spelled ∙ put.read 0

  pub does_put : (left : FlowsState) (front packet : List ℕ) → ((fl : Flows) → Shows row.flows fl → Puts [] fl left front packet) → OpensNone row.flows left →
      Does e facts s (then_do (nothing (with_row s near (record row { flows = left }))) (λ t. sent_home t near (drop (length front) packet)))
  does_put left front packet puts none h stands fresh =
      let new : Row = record row { flows = left } in
      let body : List ℕ = drop (length front) packet in
      let t : State = with_row s near new in
      let kept : RowKept e facts near row h = stands.state.rows near row there in
      let p : Puts [] kept.flows.kept left front packet = puts kept.flows.kept kept.flows.shows in
      let w : Went new (its_flows left) [] (nothing_done left) refl h stands (none_came h) p.deeds =
      went new (its_flows left) [] (nothing_done left) refl h stands (none_came h) p.deeds p.done (λ b n o. none_opened context [] row.flows kept.flows.kept (nothing_done left) p.deeds kept.flows.shows p.done none b n) in
      let found : get t.sessions near ≡ Some new = get_inserted s.sessions near new in
      let may : MayDo w.hands.after e.who (Out context (body_pieces body)) =
      subst (λ (ps : List Piece). MayDo w.hands.after e.who (Out context ps)) (sym (put_pieces front packet p.pieces p.put))
      ((λ f x among. w.said (Data f x) (said_in kept.flows.kept p.deeds p.pieces p.said (Data f x) among)), (λ f a among. w.said (Ack f a) (said_in kept.flows.kept p.deeds p.pieces p.said (Ack f a) among)), (λ id x among. w.said (Part id x) (said_in kept.flows.kept p.deeds p.pieces p.said (Part id x) among))) in
      hands_after e facts t [] (sent_home t near body) h w.hands
      (subst (λ (o : Option Row). Hands e facts (sent_home_by t near body o) w.hands.after) (sym found) (hands_sent e facts t near new.session.address body new found w.hands.after w.hands.stands may))
