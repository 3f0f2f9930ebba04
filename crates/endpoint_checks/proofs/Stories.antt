-- Histories that aren't honest, aren't fresh, or aren't agreed.
use Rattle.std.proofs.Common.{ℕ, List, [], ◌∷◌, length, drop, ◌≡◌, ◌⊎◌, inl, inr, refl, sym, ap, subst, cond, Some, None, true, arith}
use Rattle.std.specs.Str.{bytes_eq}
use Rattle.crypto_profile.specs.declared.keys.Context.{Context}
use Rattle.crypto_profile.specs.declared.keys.Context.TheVariants.{Startup}
use Rattle.crypto_profile.specs.Sealing.{Opens}
use Rattle.packet_scramble.specs.Datagram.{sid_of}
use Rattle.glare_core.specs.declared.facts.Why.{Why}
use Rattle.glare_core.specs.declared.facts.Fact.TheVariants.{Started, Born, Ended}
use Rattle.glare_core.specs.declared.facts.Held.TheVariants.{Opening, HalfOpen}
use Rattle.glare_core.specs.Tells.{as_responder}
use Rattle.endpoint_model.specs.Views.{out_in}
use Rattle.endpoint_model.specs.declared.entry.Entry.TheVariants.{Learnt, Out}
use Rattle.endpoint_model.specs.Event.{Setup, own_of}
use Rattle.std.specs.FinMap.{get}
use Rattle.endpoint_laws.specs.Past.{Past, is_close, current_of}
use Rattle.endpoint_laws.specs.Contexts.{Secrets, generation_of, session_context, startup_contexts, OpensFirst, ContextsOf}
use Rattle.endpoint_laws.specs.History.{History, IsOut, WasSent, past_at}
use Rattle.endpoint_laws.proofs.Resealed.{opens_again}
use Rattle.endpoint_checks.specs.Histories.{did, took, startup_sent, HistoriesRefuseForged, HistoriesRefuseForgedInSessions, HistoriesRefuseStale}
use Rattle.endpoint_checks.specs.Logs.{says}
use Rattle.endpoint_checks.proofs.Logs.{same}
use Rattle.endpoint_checks.proofs.Ending.{holds}
use Rattle.endpoint_checks.proofs.Sending.{isnt_end}
use Rattle.endpoint_checks.proofs.Still.{no_keying}

-- ---- honest

-- a datagram that opens in the startup context of the current generation under session ID 0 was sent in it
sent_so : (secrets : Secrets) (setup : Setup) (past : Past) (earlier : History) (number plain : List ℕ) → get secrets setup.generation ≡ Some setup.secret → length number ≡ 16 → current_of setup past ≡ setup.generation →
    ((contexts : List Context) (context : Context) (p : List ℕ) → ContextsOf secrets setup past (sid_of (startup_sent setup 0 number plain)) contexts →
    OpensFirst secrets contexts (sid_of (startup_sent setup 0 number plain)) (startup_sent setup 0 number plain) context p → WasSent (startup_sent setup 0 number plain) context earlier) →
    WasSent (startup_sent setup 0 number plain) (Startup setup.generation) earlier
sent_so secrets setup past earlier number plain known size first honest =
    let opens = opens_again secrets setup.secret setup.generation 0 number plain known (omega arith) size in
    honest (startup_contexts setup past) (Startup setup.generation) plain (inl (inl (opens.id, refl)))
    (inl (
      ap Startup first,
      record {
        secret = opens.secret;
        known = opens.known;
        id = refl;
        opens = subst (λ (sid : ℕ). Opens opens.secret (Startup setup.generation) sid (drop 4 (startup_sent setup 0 number plain)) plain) (sym opens.id) opens.opens;
      },
    ))

-- the one entry of the one event before
one_out : (P : Type 0) → (P ⊎ ⊥) ⊎ ⊥ → P
one_out P (inl (inl p)) = p
one_out P (inl (inr none)) = absurd none
one_out P (inr none) = absurd none

none_out : (⊥ ⊎ ⊥) ⊎ ((⊥ ⊎ ⊥) ⊎ ⊥) → ⊥
none_out (inl none) = one_out ⊥ (inl none)
none_out (inr later) = one_out ⊥ later

-- and of the event before a statement
out_then : (P : Type 0) → (P ⊎ ⊥) ⊎ ((⊥ ⊎ ⊥) ⊎ ⊥) → P
out_then P (inl (inl p)) = p
out_then P (inl (inr none)) = absurd none
out_then P (inr later) = absurd (one_out ⊥ later)

pub forged_refused : HistoriesRefuseForged
forged_refused secrets ends from to draws number plain other_bytes peer ni context n size known = record {
  unsent = λ h. let sent = sent_so secrets (ends 0) [] [] number plain known size refl h.0 in sent;
  others_sent = λ differ h. differ (one_out (IsOut (startup_sent (ends 0) 0 number plain) (Startup (ends 0).generation) (out_in (Out to other_bytes (Startup (ends 0).generation)))) (sent_so secrets (ends 0) [] (did 1 (Out to other_bytes (Startup (ends 0).generation) ∷ []) ∷ []) number plain known size refl h.0)).0;
  other_context = λ differ h. differ (one_out (IsOut (startup_sent (ends 0) 0 number plain) (Startup (ends 0).generation) (out_in (Out to (startup_sent (ends 0) 0 number plain) context))) (sent_so secrets (ends 0) [] (did 1 (Out to (startup_sent (ends 0) 0 number plain) context ∷ []) ∷ []) number plain known size refl h.0)).1;
  other_generation = λ generation other h. other (ap generation_of (one_out (IsOut (startup_sent (ends 0) 0 number plain) (Startup (ends 0).generation) (out_in (Out to (startup_sent (ends 0) 0 number plain) (Startup generation)))) (sent_so secrets (ends 0) [] (did 1 (Out to (startup_sent (ends 0) 0 number plain) (Startup generation) ∷ []) ∷ []) number plain known size refl h.0)).1);
  sent_later = λ h. let sent = sent_so secrets (ends 0) [] [] number plain known size refl h.1.0 in sent;
  sent_itself = λ h. let sent = sent_so secrets (ends 0) [] [] number plain known size refl h.0 in sent;
  under_attempt = λ h.
      let opens = opens_again secrets (ends 0).secret (ends 0).generation 5 number plain known (omega arith) size in
      let past : Past = past_at 0 (did 0 (says (Started peer n 5 ni)) ∷ []) in
      let named : ContextsOf secrets (ends 0) past 5 (Startup (ends 0).generation ∷ []) =
      inl (inr (
        five,
        inr (record { peer = peer; n = n; ni = ni; is_held = holds (bytes_eq peer peer) (Opening n 5 ni) (same peer peer refl) }),
        ((ends 0).generation, inr ((λ g went. no_keying secrets 5 g past (refl, refl, refl, (refl, refl, refl, tt)) went), refl), refl),
      )) in
      let sent = h.0 (Startup (ends 0).generation ∷ []) (Startup (ends 0).generation) plain
      (subst (λ (sid : ℕ). ContextsOf secrets (ends 0) past sid (Startup (ends 0).generation ∷ [])) (sym opens.id) named)
      (inl (refl, record { secret = opens.secret; known = opens.known; id = refl; opens = subst (λ (sid : ℕ). Opens opens.secret (Startup (ends 0).generation) sid (drop 4 (startup_sent (ends 0) 5 number plain)) plain) (sym opens.id) opens.opens })) in
      one_out ⊥ sent;
  known_next = λ next other h. other (ap generation_of (out_then (IsOut (startup_sent (ends 0) 0 number plain) (Startup (ends 0).generation) (out_in (Out to (startup_sent (ends 0) 0 number plain) (Startup next)))) (sent_so secrets (ends 0) (past_at 0 (did 0 (Learnt next ∷ []) ∷ [])) (did 1 (Out to (startup_sent (ends 0) 0 number plain) (Startup next) ∷ []) ∷ did 0 (Learnt next ∷ []) ∷ []) number plain known size refl h.0)).1);
  in_next = λ next again there other closed opens h.
      let sent = h.0 (Startup (ends 0).generation ∷ Startup next ∷ []) (Startup next) there (inl (inl (opens.id, refl)))
      (subst (λ (sid : ℕ). OpensFirst secrets (Startup (ends 0).generation ∷ Startup next ∷ []) sid again (Startup next) there) (sym opens.id) (inr (closed, inl (refl, opens)))) in
      other (sym (ap generation_of (out_then (IsOut again (Startup next) (out_in (Out to again (Startup (ends 0).generation)))) sent).1));
}
  where
    five : ◌≡◌ {A = ℕ} 5 0 → ⊥
    five e = omega (arith, e)

pub forged_in_sessions_refused : HistoriesRefuseForgedInSessions
forged_in_sessions_refused secrets ends from to draws keying sent plain generation context j opened opens = record {
  unsent = λ h. one_out ⊥ (h.0 (here ∷ []) here plain there again);
  other_context = λ differ h. differ (out_then (IsOut sent here (out_in (Out to sent context))) (h.0 (here ∷ []) here plain there again)).1;
  other_generation = λ other differ h.
      differ (ap generation_of (out_then (IsOut sent here (out_in (Out to sent (session_context other (as_responder (own_of (ends 0)) j) true)))) (h.0 (here ∷ []) here plain there again)).1);
  closing = λ why closes h. none_out (h.0 (here ∷ []) here plain (closed why closes) again);
}
  where
    here : Context
    here = session_context generation (as_responder (own_of (ends 0)) j) true

    born : cond (bytes_eq j.peer j.peer) (Some (HalfOpen j)) None ≡ Some (HalfOpen j)
    born = holds (bytes_eq j.peer j.peer) (HalfOpen j) (same j.peer j.peer refl)

    there : ContextsOf secrets (ends 0) (past_at 0 (took 0 from keying draws (says (Born j)) ∷ [])) (sid_of sent) (here ∷ [])
    there = inr (HalfOpen j, generation, inl (record { peer = j.peer; is_held = born; id = sym opens.id }), tt, inl (refl, opened), refl)

    closed : (why : Why) → is_close why ≡ true → ContextsOf secrets (ends 0) (past_at 0 (did 0 (says (Ended j.peer j.near why)) ∷ took 0 from keying draws (says (Born j)) ∷ [])) (sid_of sent) (here ∷ [])
    closed why closes =
        inr (
          HalfOpen j,
          generation,
          inr (0, inl ((sym opens.id, closes, born), refl)),
          tt,
          inr ((λ clash. isnt_end j.peer j.near why j clash), inr ((λ none. none), inl (refl, opened))),
          refl,
        )

    again : OpensFirst secrets (here ∷ []) (sid_of sent) sent here plain
    again = inl (refl, record { secret = opens.secret; known = opens.known; id = refl; opens = subst (λ (sid : ℕ). Opens opens.secret here sid (drop 4 sent) plain) (sym opens.id) opens.opens })

-- ---- fresh

pub stale_refused : HistoriesRefuseStale
stale_refused ends p q ni n m near id j k = record {
  attempts = λ f. f.nonces.0 (inl refl);
  one_end = λ f. f.nonces.0 (inl refl);
  in_one_call = λ f. f.nonces.0 (inl refl);
  attempt_and_session = λ e f. f.nonces.0 (inl (sym e));
  sessions = λ e f. f.nonces.0 (inl e);
  prints = λ e f. let one : 0 ≡ 1 = f.prints 0 1 (inl refl) (inr (inl refl)) e in omega (arith, one);
}
