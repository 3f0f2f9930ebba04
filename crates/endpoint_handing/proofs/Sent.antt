-- A datagram goes out, in the startup context or in a session.
use Rattle.std.proofs.Common.{arith, ◌≡◌, ℕ, ◌+◌, ◌==◌, List, [], ◌∷◌, Bool, true, false, if◌then◌else◌}
use Rattle.std.proofs.Common.{Option, Some, inl, inr, refl, sym, ap, subst, ◌∙◌}
use Rattle.std.specs.FinMap.{get}
use Rattle.rtmfp_forms.specs.Address.{AddressParts}
use Rattle.glare_core.specs.declared.facts.Fact.{Fact}
use Rattle.crypto_profile.specs.declared.keys.Context.TheVariants.{Startup}
use Rattle.session_core.specs.Session.{context_of}
use Rattle.session_core.specs.Sealed.{is_spent, after_seal}
use Rattle.endpoint_model.specs.declared.row.Row.{Row}
use Rattle.endpoint_model.specs.declared.entry.Entry.TheVariants.{Out as OutEntry}
use Rattle.endpoint_model.specs.State.{State, Did, nothing, with_session}
use Rattle.endpoint_model.specs.Sending.{last_count}
use Rattle.endpoint_model.specs.Sending.{session_datagram, sent_whole}
use Rattle.flow_history.specs.Deeds.{Context, Piece, Out, done, History}
use Rattle.flow_history.specs.Lawful.{MayDo, WasSent}
use Rattle.flow_history.proofs.Splitting.{split_before, split_by_before}
use Rattle.endpoint_handing.proofs.PartsHeld.{held_wider}
use Rattle.endpoint_handing.proofs.Pieces.{pieces_in}
use Rattle.endpoint_laws.proofs.Kin.{holds_still}
use Rattle.endpoint_handing.proofs.Kept.{End, away, HasKeys, PartCame, RowKept, Stands, WentIn, Hands, Does}
use Rattle.endpoint_handing.proofs.Kept.{does_nothing}
use Rattle.endpoint_handing.proofs.Deeding.{grows_by, kept_by, out_leaves_be, out_orders}
use Rattle.endpoint_handing.proofs.Silent.{IsSilent, IsSame, same_itself, row_same, had_row}
use Rattle.endpoint_handing.proofs.Silent.{IsAlike}
use Rattle.endpoint_handing.proofs.Bodies.{body_pieces, datagram_pieces, session_away, session_generation}

-- ---- in the startup context

pub startup_silent : (to : AddressParts) (datagram : List ℕ) (generation : ℕ) → IsSilent (OutEntry to datagram (Startup generation))
startup_silent to datagram generation = record { told = λ own facts. refl; context = λ own near facts. refl; out = λ secrets h. tt; no_message = refl }

-- ---- in a session

sealed_same : (b : Bool) (row : Row) → IsSame row (record row { session = if b then row.session else record row.session { sealed = row.session.sealed + 1 } })
sealed_same true row = same_itself row
sealed_same false row = record { joined = refl; own = refl; role = refl; generation = refl; inward = refl; outward = refl; flows = refl; gathering = refl; packets = omega arith }

module _ (e : End) (facts : List Fact) (c : Context) (pieces : List Piece) (h : History) where
  abbrev after : History
  after = done e.who (Out c pieces) ∷ h

  row_out : (near : ℕ) (row : Row) → RowKept e facts near row h → RowKept e facts near row after
  row_out near row k = record {
    id = k.id;
    own = k.own;
    keyed = k.keyed;
    named = k.named;
    flows = kept_by e.who (away row.session) row.flows (Out c pieces) h (out_leaves_be c pieces (away row.session)) k.flows;
    held = held_wider (PartCame e.who (away row.session) h) (PartCame e.who (away row.session) after) row.gathering (λ id x came. inr came) k.held;
    split = λ id was. k.split id (split_by_before e.who e.who (Out c pieces ∷ []) (away row.session) id h (tt, tt) was);
  }

  pub stands_out : (s t : State) → IsAlike s t → MayDo h e.who (Out c pieces) → Stands e facts s h → Stands e facts t after
  stands_out s t alike may stands = record {
    lawful = (may, stands.lawful);
    honest = (tt, stands.honest);
    begun = λ d was. elim was [ inl none ↦ absurd none | inr before ↦ stands.begun d before ];
    splits = λ d id size packet was. inr (stands.splits d id size packet (split_before e.who (Out c pieces ∷ []) d id size packet h (tt, tt) was));
    state = record {
      own = alike.own ∙ stands.state.own;
      rows = λ near row there.
          (let was = alike.rows near row there in
          row_out near row (row_same e facts near h was.old row was.same (stands.state.rows near was.old was.there)));
    };
    holds = alike.holds e.secrets stands.holds;
  }

module _ (e : End) (facts : List Fact) (s : State) (near : ℕ) (to : AddressParts) (body : List ℕ) where
  module _ (row : Row) (there : get s.sessions near ≡ Some row) where
    abbrev context : Context
    context = away row.session

    abbrev sent : List ℕ
    sent = session_datagram row.session s.moment body

    abbrev out : Did
    out = record { state = with_session s near row (after_seal row.session); entries = OutEntry to sent (context_of row.session true) ∷ [] }

    module _ (h : History) (stands : Stands e facts s h) (may : MayDo h e.who (Out context (body_pieces body))) where
      abbrev later : History
      later = after e facts context (body_pieces body) h

      keyed : HasKeys e.secrets row.session
      keyed = (stands.state.rows near row there).keyed

      its : pieces_in keyed.secret context sent ≡ body_pieces body
      its = datagram_pieces keyed.secret row.session keyed.keyed s.moment body

      went : WasSent context (pieces_in keyed.secret context sent) later
      went = inl (refl, sym its)

      -- whose pieces were given and told before
      pub hands_out : Hands e facts out h
      hands_out = record {
        after = later;
        grows = grows_by e.who (Out context (body_pieces body)) h;
        stands = stands_out e facts context (body_pieces body) h s (with_session s near row (after_seal row.session))
            (record { own = refl; holds = λ secrets holds. holds_still secrets s _ holds refl refl refl; rows = had_row s.sessions near row (record row { session = after_seal row.session }) there (sealed_same (is_spent row.session) row) }) may stands;
        log = refl;
        named = (tt, tt);
        outs = (
          subst (λ (o : Option Context). WentIn e.secrets (context_of row.session true) sent o later) (sym (session_away row.session))
              (keyed.secret, ap (get e.secrets) (session_generation row.session true) ∙ keyed.known, went),
          tt,
        );
        still = λ q. inr refl;
        order = λ b n asked was. (out_orders b n context (body_pieces body), was);
      }

      pub hands_whole : Hands e facts (sent_whole s near to body (Some row)) h
      hands_whole = by (row.session.sealed == last_count)
        where
          by : (b : Bool) → Hands e facts (if b then nothing s else out) h
          by true = does_nothing e facts s h stands tt
          by false = hands_out

    -- a body without pieces
    pub does_out : body_pieces body ≡ [] → Does e facts s out
    does_out none h stands new = hands_out h stands (subst (λ (p : List Piece). MayDo h e.who (Out context p)) (sym none) ((λ f x among. absurd among), (λ f a among. absurd among), (λ id x among. absurd among)))
