-- What the table refuses of a Closed.
use Rattle.std.proofs.Common.{ℕ, ◌+◌, ◌≤◌, [], ◌∷◌, ◌≡◌, ◌⊎◌, inl, inr, sym, subst, refl, cond, Some, None, true, false, ◌∙◌, arith}
use Rattle.std.specs.Str.{bytes_eq}
use Rattle.rtmfp_chunks.specs.Chunk.{CloseAck}
use Rattle.glare_core.specs.declared.facts.Why.{Why}
use Rattle.glare_core.specs.declared.facts.Why.TheVariants.{Near}
use Rattle.glare_core.specs.declared.facts.Fact.{Fact}
use Rattle.glare_core.specs.declared.facts.Fact.TheVariants.{Started, Born, Ended}
use Rattle.glare_core.specs.declared.facts.Held.{Held}
use Rattle.glare_core.specs.declared.facts.Held.TheVariants.{HalfOpen}
use Rattle.glare_core.specs.declared.facts.Joined.{Joined}
use Rattle.endpoint_model.specs.declared.entry.Entry.TheVariants.{Fact as FactEntry, Closed}
use Rattle.endpoint_laws.specs.Past.{Past, begun, stamped, IsClosing}
use Rattle.endpoint_laws.specs.Taken.{TakesChunkOf}
use Rattle.endpoint_checks.specs.Closings.{TheTableRefusesClosings}
use Rattle.endpoint_checks.proofs.Logs.{same}
use Rattle.endpoint_checks.proofs.Pasts.{some_event, is_end, OneClosed, none_closing, one_closing}
use Rattle.endpoint_checks.proofs.Ending.{held_here, young}
use Rattle.endpoint_checks.proofs.Sending.{half_open_now, isnt_end}
use Rattle.endpoint_checks.proofs.Taking.{untaken}
use Rattle.endpoint_checks.proofs.SessionEnding.{born_now, takes_it}

-- nothing was closed where nothing was done, and where one fact ended nothing
closed_nothing : (near : ℕ) (thing : Held) (at m : ℕ) → IsClosing near thing at (begun m some_event ∷ []) → ⊥
closed_nothing near thing at m closing = none_closing near thing at (begun m some_event ∷ []) (refl, tt) closing

closed_none : (near : ℕ) (thing : Held) (at m n : ℕ) (fact : Fact) → is_end (Some fact) ≡ false → IsClosing near thing at (begun m some_event ∷ stamped n (FactEntry fact) ∷ begun n some_event ∷ []) → ⊥
closed_none near thing at m n fact goes_on closing = none_closing near thing at (begun m some_event ∷ stamped n (FactEntry fact) ∷ begun n some_event ∷ []) (refl, (goes_on, (refl, tt))) closing

-- what was done in the log of a session that was born and ended
abbrev ended_at : ℕ → Joined → Why → Past
ended_at n j why = stamped n (FactEntry (Ended j.peer j.near why)) ∷ begun n some_event ∷ stamped 0 (FactEntry (Born j)) ∷ begun 0 some_event ∷ []

closed_so : (near : ℕ) (thing : Held) (at m n : ℕ) (j : Joined) (why : Why) → IsClosing near thing at (begun m some_event ∷ ended_at n j why) → OneClosed near thing at n j.peer j.near why (Born j ∷ [])
closed_so near thing at m n j why closing =
    one_closing near thing at (begun m some_event ∷ []) n j.peer j.near why (begun n some_event ∷ stamped 0 (FactEntry (Born j)) ∷ begun 0 some_event ∷ []) (refl, tt) (refl, (refl, (refl, tt))) closing

-- and one event more
closed_later : (near : ℕ) (thing : Held) (at m l n : ℕ) (j : Joined) (why : Why) → IsClosing near thing at (begun m some_event ∷ begun l some_event ∷ ended_at n j why) → OneClosed near thing at n j.peer j.near why (Born j ∷ [])
closed_later near thing at m l n j why closing =
    one_closing near thing at (begun m some_event ∷ begun l some_event ∷ []) n j.peer j.near why (begun n some_event ∷ stamped 0 (FactEntry (Born j)) ∷ begun 0 some_event ∷ []) (refl, (refl, tt))
    (refl, (refl, (refl, tt))) closing

-- and where that is over
closed_before : (thing : Held) (at m l n : ℕ) (j : Joined) (why : Why) → IsClosing j.near thing at (begun m some_event ∷ stamped l (Closed j.near) ∷ begun l some_event ∷ ended_at n j why) → ⊥
closed_before thing at m l n j why (inl none) = none.0
closed_before thing at m l n j why (inr (go, inl none)) = none.0
closed_before thing at m l n j why (inr (go, inr (differ, closing))) = differ refl

neither : (A : Type 0) → ⊥ ⊎ (⊥ × A) → ⊥
neither A (inl none) = none
neither A (inr none) = none.0

pub closings_refused : TheTableRefusesClosings
closings_refused secrets setup moment c d e from sent draws j why = record {
  of_nothing = λ near h. let line = h.0.0 in closed_nothing near line.thing line.at _ line.closing;
  of_attempt = λ peer h. let line = h.1.0.0 in closed_none 5 line.thing line.at _ _ (Started peer 1 5 peer) refl line.closing;
  of_held = λ h. let line = h.1.0.0 in closed_none j.near line.thing line.at _ _ (Born j) refl line.closing;
  of_dropped = λ dropped h.
      let line = h.1.1.0.0 in
      let clash : true ≡ false = sym (closed_so j.near line.thing line.at _ _ j why line.closing).closes ∙ dropped in
      cc;
  other_id = λ near differ h. let line = h.1.1.0.0 in differ (sym (closed_so near line.thing line.at _ _ j why line.closing).id_is);
  again = λ f h. let line = h.1.1.1.0.0 in closed_before line.thing line.at _ _ _ j why line.closing;
  in_open = λ towards candidates h. neither _ h.1.1.0.0.by;
  in_cancel = λ m h. neither _ h.1.1.0.0.by;
  in_close = λ id h. neither _ h.1.1.0.0.by;
  early = λ h. let line = h.1.1.0.0 in in_tick 0 18999 line.at (sym (closed_so j.near line.thing line.at _ _ j why line.closing).moment_is) line.by (omega arith);
  early_later = λ h. let line = h.1.1.0.0 in in_tick 7 19006 line.at (sym (closed_so j.near line.thing line.at _ _ j why line.closing).moment_is) line.by (omega arith);
  untaken = untaken secrets setup from sent draws j CloseAck _ _ _ _ _ (refl, refl, refl, (refl, refl, refl, (refl, refl, refl, (refl, refl, refl, (refl, refl, refl, tt))))) (λ first. (refl, refl, refl, (refl, refl, refl, (refl, refl, refl, (refl, refl, refl, (refl, refl, refl, (refl, refl, refl, tt)))))))
      (λ no h. let line = h.1.1.0.0 in no (taken line.thing (closed_so j.near line.thing line.at _ _ j Near line.closing).was_held line.by))
      (λ first no h. let line = h.1.1.1.0.0 in no (taken line.thing (closed_later j.near line.thing line.at _ _ _ j Near line.closing).was_held line.by))
      (λ chunks no h. let line = h.1.1.0.0 in no (taken line.thing (closed_so j.near line.thing line.at _ _ j Near line.closing).was_held line.by))
      (λ first. _) (λ first. refl) (λ chunks. born_now j _);
  in_time = λ closes before first. record {
    thing = HalfOpen j;
    at = 0;
    closing = inl ((refl, closes, half_open_now (bytes_eq j.peer j.peer) j _ (same j.peer j.peer refl)), refl);
    by = inr (tt, omega arith);
  };
  by_answer = λ generation before first born b. record {
    thing = HalfOpen j;
    at = 0;
    closing = inr (tt, inl ((refl, refl, half_open_now (bytes_eq j.peer j.peer) j _ (same j.peer j.peer refl)), refl));
    by = inl (takes_it secrets setup generation from sent draws j CloseAck moment _ _ refl (born_now j _) (inr ((λ none. none), inr ((λ clash. isnt_end j.peer j.near Near j clash), inl (refl, born)))) b);
  };
}
  where
    in_tick : (begun now at : ℕ) → at ≡ begun → ⊥ ⊎ (Unit {0} × (at + 19000 ≤ now)) → now + 1 ≡ begun + 19000 → ⊥
    in_tick begun now at e (inl none) edge = none
    in_tick begun now at e (inr late) edge = young begun now at 19000 e late.1 edge

    taken : {past : Past} {A : Type 0} (thing : Held) → cond (bytes_eq j.peer j.peer) (Some (HalfOpen j)) None ≡ Some thing →
        TakesChunkOf secrets setup past thing j.near (record { from = from; datagram = sent; draws = draws }) CloseAck ⊎ (⊥ × A) →
        TakesChunkOf secrets setup past (HalfOpen j) j.near (record { from = from; datagram = sent; draws = draws }) CloseAck
    taken {past} thing is (inl t) =
        subst (λ (x : Held). TakesChunkOf secrets setup past x j.near (record { from = from; datagram = sent; draws = draws }) CloseAck) (sym (held_here j.peer (HalfOpen j) thing is)) t
    taken {past} thing is (inr none) = absurd none.0
