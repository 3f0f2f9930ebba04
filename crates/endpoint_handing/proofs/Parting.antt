-- A packet goes out in pieces: it counts as one that went out whole, and is split under the next ID of
-- its session.
use Rattle.std.proofs.Common.{◌≡◌, ℕ, ◌+◌, ◌-◌, ◌==◌, ◌<◌, ◌≤◌, ◌^◌, List, [], ◌∷◌, length, map, Bool, true, false, if◌then◌else◌}
use Rattle.std.proofs.Common.{Option, Some, None, inl, inr, refl, sym, ap, subst, ◌∙◌, arith}
use Rattle.std.specs.FinMap.{get}
use Rattle.rtmfp_base.proofs.Maps.{found_inserted}
use Rattle.rtmfp_forms.specs.Address.{AddressParts}
use Rattle.glare_core.specs.declared.facts.Fact.{Fact}
use Rattle.rtmfp_data_chunks.specs.HandsOver.{IsIn}
use Rattle.rtmfp_fragments.specs.Pieces.{PieceParts, pieces_of}
use Rattle.session_core.specs.Session.{context_of}
use Rattle.session_core.specs.Sealed.{after_seal}
use Rattle.endpoint_model.specs.declared.row.Row.{Row}
use Rattle.endpoint_model.specs.declared.entry.Entry.TheVariants.{Out as OutEntry}
use Rattle.endpoint_model.specs.State.{State, Did, nothing, then_do, with_row, with_session}
use Rattle.endpoint_model.specs.Sending.{last_count, limit_of, has_counts, is_long, piece_body, session_packet, session_datagram}
use Rattle.endpoint_model.specs.Sending.{sent_whole, sent_bodies, sent_in_pieces, sent_by}
use Rattle.endpoint_laws.proofs.Small.{its_pieces, in_pieces}
use Rattle.endpoint_laws.proofs.Kin.{holds_still}
use Rattle.flow_send.specs.Acks.{Told}
use Rattle.flow_history.specs.Flow.{Carried}
use Rattle.flow_history.specs.Deeds.{Context, Piece, Data, Ack, Part, Out, Splits, done, History}
use Rattle.flow_history.specs.Lawful.{HasBegunAt, WasSplit, WasSplitBy, WasSent, HasPart, MayDo}
use Rattle.flow_history.proofs.Splitting.{sending_begun, split_mine}
use Rattle.endpoint_handing.specs.Told.{sending_context}
use Rattle.endpoint_handing.proofs.Pieces.{pieces_plain}
use Rattle.endpoint_handing.proofs.PartsHeld.{held_wider}
use Rattle.endpoint_handing.proofs.Kept.{End, away, PartCame, RowKept, Stands, grows_then, Hands, Does, hands_after, does_nothing}
use Rattle.endpoint_handing.proofs.Deeding.{grows_by, kept_by, out_orders}
use Rattle.endpoint_handing.proofs.Silent.{had_it}
use Rattle.endpoint_handing.proofs.Begun.{contexts_apart}
use Rattle.endpoint_handing.proofs.Bodies.{body_pieces, packet_pieces}
use Rattle.endpoint_handing.proofs.Sent.{stands_out, hands_out, hands_whole}
use Rattle.endpoint_handing.proofs.Parted.{IsSmall, part_alone, all_small}

module _ (e : End) (facts : List Fact) (s : State) (near : ℕ) (to : AddressParts) (body : List ℕ) (row : Row) (there : get s.sessions near ≡ Some row) where
  abbrev context : Context
  context = away row.session

  abbrev plain : List ℕ
  plain = session_packet row.session s.moment body

  abbrev size : ℕ
  size = limit_of s - 32

  abbrev id : ℕ
  id = row.packets + 1

  abbrev counted : State
  counted = with_row s near (record row { packets = id })

  -- ---- it is split

  module _ (h : History) (stands : Stands e facts s h) (may : MayDo h e.who (Out context (body_pieces body))) where
    abbrev gone : History
    gone = done e.who (Out context (body_pieces body)) ∷ h

    abbrev split : History
    split = done e.who (Splits context id size plain) ∷ gone

    stands_gone : Stands e facts s gone
    stands_gone = stands_out e facts context (body_pieces body) h s s (record { own = refl; holds = λ secrets holds. holds; rows = had_it s.sessions }) may stands

    its_row : RowKept e facts near row gone
    its_row = stands_gone.state.rows near row there

    begun : HasBegunAt e.who context gone
    begun = sending_begun e.who 0 context gone (its_row.flows.kept.opened 0) (its_row.flows.sends 0)

    id_is_new : (i : ℕ) → i ≡ id → WasSplitBy e.who context i gone → ⊥
    id_is_new i is was = omega (arith, is, its_row.split i was)

    may_split : MayDo gone e.who (Splits context id size plain)
    may_split = (begun, λ other packet was. id_is_new id refl (split_mine e.who context id other packet gone stands_gone.lawful begun was))

    -- another session is in another context
    beside : (q : ℕ) (other : Row) → (q ≡ near → ⊥) → RowKept e facts q other gone → RowKept e facts q other split
    beside q other apart k = record {
      id = k.id;
      own = k.own;
      keyed = k.keyed;
      named = k.named;
      flows = kept_by e.who (away other.session) other.flows (Splits context id size plain) gone (record { sends = λ f was. refl; takes = λ f was. refl }) k.flows;
      held = held_wider (PartCame e.who (away other.session) gone) (PartCame e.who (away other.session) split) other.gathering (λ i x came. inr came) k.held;
      split = λ i was. elim was [
        | inl is ↦ absurd (contexts_apart row.session.role other.session.role row.session.own other.session.own row.session.joined other.session.joined
            (λ (one : other.session.joined.near ≡ row.session.joined.near). apart (sym k.id ∙ one ∙ its_row.id)) is.1.0)
        | inr before ↦ k.split i before
      ];
    }

    own_row : RowKept e facts near (record row { packets = id }) split
    own_row = record {
      id = its_row.id;
      own = its_row.own;
      keyed = its_row.keyed;
      named = its_row.named;
      flows = kept_by e.who context row.flows (Splits context id size plain) gone (record { sends = λ f was. refl; takes = λ f was. refl }) its_row.flows;
      held = held_wider (PartCame e.who context gone) (PartCame e.who context split) row.gathering (λ i x came. inr came) its_row.held;
      split = λ i was. elim was [
        | inl is ↦ subst (λ (n : ℕ). n ≤ id) is.1.1 (omega arith)
        | inr before ↦ omega (arith, its_row.split i before)
      ];
    }

    rows_split : (q : ℕ) (other : Row) → get counted.sessions q ≡ Some other → RowKept e facts q other split
    rows_split q other is = elim (found_inserted s.sessions near (record row { packets = id }) q other is) [
      | inl at ↦ subst (λ (r : Row). RowKept e facts q r split) at.1 (subst (λ (k : ℕ). RowKept e facts k (record row { packets = id }) split) (sym at.0) own_row)
      | inr apart ↦ beside q other apart.0 (stands_gone.state.rows q other apart.1)
    ]

    splits_sent : (c : Context) (i other : ℕ) (packet : List ℕ) → WasSplit c i other packet split → WasSent c (pieces_plain packet) split
    splits_sent c i other packet (inl is) = inr (inl (is.0, sym (packet_pieces row.session s.moment body) ∙ ap pieces_plain is.3))
    splits_sent c i other packet (inr before) = inr (stands_gone.splits c i other packet before)

    stands_split : Stands e facts counted split
    stands_split = record {
      lawful = (may_split, stands_gone.lawful);
      honest = (tt, stands_gone.honest);
      begun = λ d was. elim was [ inl none ↦ absurd none | inr before ↦ stands_gone.begun d before ];
      splits = splits_sent;
      state = record { own = stands_gone.state.own; rows = rows_split };
      holds = holds_still e.secrets s counted stands_gone.holds refl refl refl;
    }

    hands_split : Hands e facts (nothing counted) h
    hands_split = record {
      after = split;
      grows = grows_then e.who h gone split (grows_by e.who (Out context (body_pieces body)) h) (grows_by e.who (Splits context id size plain) gone);
      stands = stands_split;
      log = refl;
      named = tt;
      outs = tt;
      still = λ q. inr refl;
      order = λ b n asked was. (tt, (out_orders b n context (body_pieces body), was));
    }

  -- ---- its pieces go out

  -- each of these pieces is one of the packet's, and can be written
  abbrev AreIts : List PieceParts → Type 0
  AreIts pieces = (x : PieceParts) → IsIn x pieces → IsIn x (pieces_of plain size) × IsSmall x

  module _ (named : sending_context e.own near facts ≡ Some context) (left : id < 2 ^ 64) where
    module _ (x : PieceParts) (its : IsIn x (pieces_of plain size)) (small : IsSmall x) (t : State) (r : Row) (at : get t.sessions near ≡ Some r) (h : History) (stands : Stands e facts t h) (was : WasSplit context id size plain h) where
      same : context ≡ away r.session
      same = let both : Some context ≡ Some (away r.session) = sym named ∙ (stands.state.rows near r at).named in cc

      part_of : (i : ℕ) (y : PieceParts) → IsIn (Part i y) (Part id x ∷ []) → HasPart context i y h
      part_of i y (inl is) =
          let ids : i ≡ id = cc in
          let pieces : y ≡ x = cc in
          (size, plain, subst (λ (n : ℕ). WasSplit context n size plain h) (sym ids) was, subst (λ (z : PieceParts). IsIn z (pieces_of plain size)) (sym pieces) its)
      part_of i y (inr none) = absurd none

      no_data : (f : ℕ) (y : Carried) → IsIn (Data f y) (Part id x ∷ []) → ⊥
      no_data f y (inl is) = absurd cc
      no_data f y (inr none) = none

      no_ack : (f : ℕ) (a : Told) → IsIn (Ack f a) (Part id x ∷ []) → ⊥
      no_ack f a (inl is) = absurd cc
      no_ack f a (inr none) = none

      may_part : MayDo h e.who (Out (away r.session) (body_pieces (piece_body id x)))
      may_part =
          subst (λ (c : Context). MayDo h e.who (Out c (body_pieces (piece_body id x)))) same
          (subst (λ (ps : List Piece). MayDo h e.who (Out context ps)) (sym (part_alone id x left small))
          ((λ f y among. absurd (no_data f y among)), (λ f a among. absurd (no_ack f a among)), part_of))

    -- one of them, and then what comes
    abbrev Rest : (State → Did) → Type 0
    Rest next = (u : State) (h : History) → Stands e facts u h → WasSplit context id size plain h → Hands e facts (next u) h

    hands_then : (x : PieceParts) → IsIn x (pieces_of plain size) → IsSmall x → (next : State → Did) → Rest next → (t : State) (h : History) → Stands e facts t h → WasSplit context id size plain h →
        (o : Option Row) → get t.sessions near ≡ o → Hands e facts (then_do (sent_whole t near to (piece_body id x) o) next) h
    hands_then x its small next rest t h stands was None at = rest t h stands was
    hands_then x its small next rest t h stands was (Some r) at = by (r.session.sealed == last_count)
      where
        sent : Did
        sent = record { state = with_session t near r (after_seal r.session); entries = OutEntry to (session_datagram r.session t.moment (piece_body id x)) (context_of r.session true) ∷ [] }

        by : (b : Bool) → Hands e facts (then_do (if b then nothing t else sent) next) h
        by true = rest t h stands was
        by false =
            let one : Hands e facts sent h = hands_out e facts t near to (piece_body id x) r at h stands (may_part x its small t r at h stands was) in
            hands_after e facts sent.state sent.entries (next sent.state) h one (rest sent.state one.after one.stands (one.grows.split context id size plain was))

    hands_bodies : (pieces : List PieceParts) → AreIts pieces → Rest (λ t. sent_bodies t near to (map (piece_body id) pieces))
    hands_bodies [] are t h stands was = does_nothing e facts t h stands tt
    hands_bodies (x ∷ rest) are t h stands was =
        let mine = are x (inl refl) in
        hands_then x mine.0 mine.1 (λ u. sent_bodies u near to (map (piece_body id) rest)) (hands_bodies rest (λ y among. are y (inr among))) t h stands was (get t.sessions near) refl

  -- ---- all of it

  module _ (h : History) (stands : Stands e facts s h) (may : MayDo h e.who (Out context (body_pieces body))) where
    pub hands_in_pieces : has_counts row (length (its_pieces s row body)) ≡ true → Hands e facts (in_pieces s near row to body) h
    unfolding hands_split
    hands_in_pieces has =
        let small = all_small s row body has in
        let first : Hands e facts (nothing counted) h = hands_split h stands may in
        hands_after e facts counted [] (sent_bodies counted near to (map (piece_body id) (its_pieces s row body))) h first
        (hands_bodies (stands.state.rows near row there).named small.0 (its_pieces s row body) (λ x among. (among, small.1 x among)) counted first.after first.stands (inl (refl, refl, refl, refl)))

    pub hands_sent : Hands e facts (sent_by s near to body (Some row)) h
    hands_sent = by (is_long s row body)
      where
        counts : (b : Bool) → has_counts row (length (its_pieces s row body)) ≡ b → Hands e facts (if b then in_pieces s near row to body else nothing s) h
        counts true has = hands_in_pieces has
        counts false has = does_nothing e facts s h stands tt

        by : (b : Bool) → Hands e facts (if b then sent_in_pieces s near to row (its_pieces s row body) else sent_whole s near to body (Some row)) h
        by true = counts (has_counts row (length (its_pieces s row body))) refl
        by false = hands_whole e facts s near to body row there h stands may

  -- a body without pieces
  pub does_in_pieces : has_counts row (length (its_pieces s row body)) ≡ true → body_pieces body ≡ [] → Does e facts s (in_pieces s near row to body)
  does_in_pieces has none h stands new =
      hands_in_pieces h stands (subst (λ (p : List Piece). MayDo h e.who (Out context p)) (sym none) ((λ f x among. absurd among), (λ f a among. absurd among), (λ i x among. absurd among))) has
