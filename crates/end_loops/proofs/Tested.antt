-- How an address is tested.
use Rattle.std.proofs.Common.{ℕ, ◌≡◌, List, Bool, true, false, if◌then◌else◌, Option, Some, None, refl, sym, ap, ◌∙◌, subst}
use Rattle.std.specs.FinMap.{get}
use Rattle.rtmfp_forms.specs.Address.{AddressParts}
use Rattle.rtmfp_chunks.specs.Chunk.{Ping}
use Rattle.rtmfp_chunks.specs.Writing.{chunk_bytes}
use Rattle.mobility.specs.Tests.{asks}
use Rattle.session_core.specs.Closing.{is_held}
use Rattle.endpoint_model.specs.declared.row.Row.{Row}
use Rattle.endpoint_model.specs.Added.{Added}
use Rattle.endpoint_model.specs.State.{State, Did, Done, nothing}
use Rattle.endpoint_model.specs.Sending.{sent_in_session}
use Rattle.endpoint_model.specs.InSessions.{asks_by, if_held, held_row, tested_by, test_begun}
use Rattle.endpoint_model.proofs.Steps.{done_nothing, joined}
use Rattle.end_loops.specs.Pending.{test_pending}

pub untested : (s : State) (near : ℕ) (from : AddressParts) (token : List ℕ) (o : Option Row) → asks_by s from o ≡ false → tested_by s near from token o ≡ nothing s
untested s near from token None e = refl
untested s near from token (Some row) e = ap (λ (b : Bool). if b then test_begun s near row from token else nothing s) e

pub untested_done : (s : State) (near : ℕ) (from : AddressParts) (token : List ℕ) (o : Option Row) (out : Added) → asks_by s from o ≡ false → Done (tested_by s near from token o) s out out
untested_done s near from token o out e = subst (λ (d : Did). Done d s out out) (sym (untested s near from token o e)) (done_nothing s out)

pub tested_done : (s t u : State) (near : ℕ) (from : AddressParts) (token : List ℕ) (before after : Added) → asks_by s from (held_row s near) ≡ true →
    t ≡ test_pending s near from token (get s.sessions near) → Done (sent_in_session t near from (chunk_bytes (Ping token))) u before after →
    Done (tested_by s near from token (held_row s near)) u before after
tested_done s t u near from token before after asked pending sent = by (get s.sessions near) refl asked pending
  where
    P : Did → Type 0
    P d = Done d u before after

    begun : (row : Row) (held asked : Bool) → is_held row.session.stage ≡ held → asks row.moves row.session.address from s.moment ≡ asked → asks_by s from (if held then Some row else None) ≡ true →
        t ≡ test_pending s near from token (Some row) → P (tested_by s near from token (if held then Some row else None))
    begun row false asked held_is asked_is e is = absurd (cc)
    begun row true false held_is asked_is e is = let clash : true ≡ false = sym e ∙ asked_is in absurd (cc)
    begun row true true held_is asked_is e is =
        subst P (sym (ap (λ (b : Bool). if b then test_begun s near row from token else nothing s) asked_is))
        (joined (nothing (test_pending s near from token (Some row))) (λ x. sent_in_session x near from (chunk_bytes (Ping token))) t u before before after
        (subst (λ (x : State). Done (nothing (test_pending s near from token (Some row))) x before before) (sym is) (done_nothing (test_pending s near from token (Some row)) before)) sent)

    by : (o : Option Row) → get s.sessions near ≡ o → asks_by s from (if_held o) ≡ true → t ≡ test_pending s near from token o → P (tested_by s near from token (if_held o))
    by None is e pend = absurd (cc)
    by (Some row) is e pend = begun row (is_held row.session.stage) (asks row.moves row.session.address from s.moment) refl refl e pend
