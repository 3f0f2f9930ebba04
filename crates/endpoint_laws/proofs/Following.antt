-- What an end does that begins no session: each session that it leaves descends from one that was there.
use Rattle.std.proofs.Common.{sym, ◌≡◌, ℕ, ◌+◌, List, [], ◌∷◌, map, Bool, true, false, if◌then◌else◌, Some, refl, subst}
use Rattle.std.specs.FinMap.{get, insert}
use Rattle.session_core.specs.Session.{SessionState}
use Rattle.session_core.specs.Sealed.{after_seal, is_spent}
use Rattle.endpoint_model.specs.declared.row.Row.{Row}
use Rattle.endpoint_model.specs.declared.entry.Entry.{Entry}
use Rattle.endpoint_model.specs.State.{Sessions, State, with_row}
use Rattle.endpoint_model.specs.OnFlows.{flow_entry}
use Rattle.endpoint_laws.proofs.Unseen.{AreUnseen, flows_unseen}
use Rattle.endpoint_laws.proofs.Hearing.{BeginsNone, NoneBegin, Descends, descends_same, had_it, had_inserted, had_left, Follows, follows_nothing, follows_then}
use Rattle.endpoint_laws.proofs.FlowChunks.{like_after}
use Rattle.endpoint_laws.proofs.FlowTimes.{late_like}
use Rattle.endpoint_laws.proofs.Made.{all_law}
use Rattle.endpoint_laws.proofs.PacketPieces.{any_sends}
use Rattle.endpoint_laws.proofs.Small.{Quiet, FlowThing, Called, Came, Acked, Unowed, Late, Overdue, Packed, row_after, stated_of, Any, All}

-- entries that are unseen
none_begin : (entries : List Entry) → AreUnseen entries → NoneBegin entries
none_begin [] are = tt
none_begin (entry ∷ rest) are = (subst BeginsNone (sym are.0.no_fact) (λ near. refl), none_begin rest are.1)

-- a row that is replaced
follows_row : (s t : State) (near : ℕ) (old new : Row) (entries : List Entry) → get s.sessions near ≡ Some old → Descends old.session new.session → NoneBegin entries → t.moment ≡ s.moment → t.sessions ≡ s.sessions →
    Follows s (record { state = with_row t near new; entries = entries })
follows_row s t near old new entries is d none moment same = record {
  none = none;
  had = λ q row e. had_inserted s.sessions near old new is d q row (subst (λ (m : Sessions). get (insert m near new) q ≡ Some row) same e);
  moment = moment;
}

-- entries that begin none, beside which no session is other than it was
follows_still : (s t : State) (entries : List Entry) → NoneBegin entries → t.sessions ≡ s.sessions → t.moment ≡ s.moment → Follows s (record { state = t; entries = entries })
follows_still s t entries none same moment = record { none = none; had = λ near row e. had_it s.sessions near row (subst (λ (m : Sessions). get m near ≡ Some row) same e); moment = moment }

sealed_by : (b : Bool) (s : SessionState) → Descends s (if b then s else record s { sealed = s.sealed + 1 })
sealed_by true s = descends_same s
sealed_by false s = record { same = refl; opening = λ e. (e, refl) }

after_descends : (moment : ℕ) (row : Row) (thing : FlowThing) → Descends row.session (row_after moment row thing).session
after_descends moment row (Called call) = descends_same row.session
after_descends moment row (Came chunk) = (like_after moment row.session row.flows chunk).descends
after_descends moment row Acked = descends_same row.session
after_descends moment row Unowed = descends_same row.session
after_descends moment row Late = (late_like moment row).descends
after_descends moment row (Overdue flow seq) = descends_same row.session
after_descends moment row Packed = descends_same row.session

pub follows_quiet : Quiet Any Follows
follows_quiet = record {
  sends = any_sends (record {
    steps = record { does_nothing = follows_nothing; and_then = λ s d e first later. follows_then s d (λ t. e) first later };
    out = λ s generation keys to sid plain. follows_still s _ _ ((λ near. refl), tt) refl refl;
    out_in = λ s near row to body is. follows_row s s near row (record row { session = after_seal row.session }) _ is (sealed_by (is_spent row.session) row.session) ((λ q. refl), tt) refl refl;
    packets = λ s near row is. follows_row s s near row (record row { packets = row.packets + 1 }) [] is (descends_same row.session) tt refl refl;
  });
  attempts = λ s startup kin. follows_still s _ [] tt refl refl;
  close = tt;
  close_ack = tt;
  empty_ping = tt;
  discards = λ s at cause. follows_still s s _ ((λ near. refl), tt) refl refl;
  ends = λ s startup peer near why kin. follows_still s _ _ ((λ q. refl), tt) refl refl;
  unseeks = λ s startup near why kin. follows_still s _ _ ((λ q. refl), tt) refl refl;
  confirms = λ s startup peer near kin. follows_still s _ _ ((λ q. refl), tt) refl refl;
  closes = λ s near. record { none = ((λ q. refl), tt); had = λ q row e. had_left s.sessions near q row e; moment = refl };
  forgets = λ s near. record { none = tt; had = λ q row e. had_left s.sessions near q row e; moment = refl };
  moves = λ s near to. follows_still s s _ ((λ q. refl), tt) refl refl;
  goes_on = λ s near old new is goes. follows_row s s near old new [] is goes.descends tt refl refl;
}

pub follows_law : All Any Follows
follows_law = all_law follows_quiet (λ s near row thing is may. follows_row s s near row (row_after s.moment row thing) _ is (after_descends s.moment row thing) (none_begin (map (flow_entry near) (stated_of row thing)) (flows_unseen near (stated_of row thing))) refl refl)
    (λ s near id row x is. follows_row s s near row _ [] is (descends_same row.session) tt refl refl)
