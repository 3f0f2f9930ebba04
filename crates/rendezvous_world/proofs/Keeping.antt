-- The first world, one at another moment, and one with one more end.
use Rattle.std.proofs.Common.{◌≡◌, ◌≢◌, ℕ, zero, suc, ◌^◌, ◌<◌, ◌≤◌, ◌==◌, List, [], ◌∷◌, ◌++◌, length, slice_get, nat_lt, nat_le, Bool, true, false, ◌||◌, Option, None, Some, inl, inr, refl, sym, ap, subst, ◌∙◌, arith}
use Rattle.std.specs.Str.{bytes_eq}
use Rattle.std.specs.FinMap.{get}
use Rattle.std.specs.List.{list_any, AllByRecursion}
use Rattle.std.proofs.lemmas.Bool.{or_parts}
use Rattle.std.proofs.lemmas.Bool.Decides.{nat_tests}
use Rattle.std.proofs.lemmas.Slice.Eq.{bytes_eq-Decides}
use Rattle.sha2.specs.Sha256.{sha256}
use Rattle.sha2.proofs.Facts256.{length-sha256}
use Rattle.identity.specs.Certificates.{IsCertificate}
use Rattle.glare_core.specs.Steps.{Among}
use Rattle.glare_core.specs.Told.{AllDifferent}
use Rattle.endpoint_model.specs.Event.{Event, own_of}
use Rattle.endpoint_model.specs.State.{fresh}
use Rattle.endpoint_laws.specs.Contexts.{Knows}
use Rattle.endpoint_laws.specs.Laws.{IsSetup, AreCalls}
use Rattle.endpoint_laws.specs.Past.{past_of_log}
use Rattle.endpoint_laws.specs.Draws.{drawn_in}
use Rattle.endpoint_laws.specs.History.{History, log_of, past_at, IsHonest, TakesPart}
use Rattle.counted_secrets.specs.Secrets.{counted_secret}
use Rattle.counted_secrets.proofs.Counted.{known_below}
use Rattle.rendezvous_world.specs.declared.journal.JournalLine.{JournalLine}
use Rattle.rendezvous_world.specs.declared.step.Step.TheVariants.{End}
use Rattle.rendezvous_world.specs.Deed.{Deed, Calls, deed_of}
use Rattle.rendezvous_world.specs.Calls.{peer_in}
use Rattle.rendezvous_world.specs.Seen.{group_secrets, first_generation, EndSeen, Seen, setup_at}
use Rattle.rendezvous_world.specs.History.{history_of}
use Rattle.rendezvous_world.specs.Sound.{StandsUpTo}
use Rattle.rendezvous_world.specs.Stepping.{new_setup, new_end, with_end, with_moment}
use Rattle.rendezvous_world.specs.Faults.{is_like, is_outside, is_bad}
use Rattle.rendezvous_world.specs.Laws.{empty_world}
use Rattle.rendezvous_world.specs.Kept.{name_of, print_of, IsNamed, HasPeerIn, IsLineIn, IsOfLine, IsWorld}
use Rattle.rendezvous_world.proofs.Ends.{setups_stay_before, length-more, before_or_new, NoneHas, apart_with_end}
use Rattle.rendezvous_world.proofs.Noting.{stands_whole, stands_later}
use Rattle.rendezvous_world.proofs.Told.{SameSetups, same_lines, all_mapped, takes_part_below, log_absent, honest_same}

-- ---- the first world

none_there : {A : Type 0} (who : ℕ) (x : A) → slice_get {X = A} [] who ≡ Some x → ⊥
none_there who x e = cc

pub new_world : IsWorld empty_world
new_world = record {
  stand = λ who end there. absurd (none_there who end there);
  given = λ who end there. absurd (none_there who end there);
  known = λ who end there. absurd (none_there who end there);
  names = λ a b x y there. absurd (none_there a x there);
  prints = λ a b x y there. absurd (none_there a x there);
  calls = λ who. tt;
  lines = tt;
  rise = tt;
  answers = tt;
  honest = tt;
  nonces = tt;
  drawn = λ nonce among. absurd among;
}

-- ---- another moment

pub with_moment_is_world : (w : Seen) (moment : ℕ) → w.moment ≤ moment → IsWorld w → IsWorld (with_moment w moment)
with_moment_is_world w moment le is = record {
  stand = λ who end there. stands_later w.moment moment end.setup (log_of who (history_of w)) end.state le (is.stand who end there);
  given = is.given;
  known = is.known;
  names = is.names;
  prints = is.prints;
  calls = is.calls;
  lines = is.lines;
  rise = is.rise;
  answers = is.answers;
  honest = is.honest;
  nonces = is.nonces;
  drawn = is.drawn;
}

-- ---- one more end

not_outside : (most count : ℕ) → is_outside most count ≡ false → count ≤ most
not_outside most count e = let both = or_parts (count == 0) (nat_lt most count) e in let last : nat_lt most count ≡ false = both.1 in grind (arith, nat_tests)

other_bytes : (x y : List ℕ) → bytes_eq x y ≡ false → x ≢ y
other_bytes x y e is = let clash : true ≡ false = sym ((bytes_eq-Decides x y).1 is) ∙ e in cc

module _ (name cert : List ℕ) where
  none_like : (ends : List EndSeen) (who : ℕ) (end : EndSeen) → list_any (is_like name cert) ends ≡ false → slice_get ends who ≡ Some end → is_like name cert end ≡ false
  none_like [] who end e there = absurd (cc)
  none_like (x ∷ ends) zero end e there =
      let same : x ≡ end = cc in
      sym (ap (is_like name cert) same) ∙ (or_parts (is_like name cert x) (list_any (is_like name cert) ends) e).0
  none_like (x ∷ ends) (suc who) end e there = none_like ends who end ((or_parts (is_like name cert x) (list_any (is_like name cert) ends) e).1) there

  no_name : (ends : List EndSeen) → list_any (is_like name cert) ends ≡ false → NoneHas name_of name ends
  no_name ends e who end there = other_bytes end.name name (or_parts (bytes_eq end.name name) (bytes_eq (own_of end.setup) (sha256 cert)) (none_like ends who end e there)).0

  no_print : (ends : List EndSeen) → list_any (is_like name cert) ends ≡ false → NoneHas print_of (sha256 cert) ends
  no_print ends e who end there =
      other_bytes (own_of end.setup) (sha256 cert) (or_parts (bytes_eq end.name name) (bytes_eq (own_of end.setup) (sha256 cert)) (none_like ends who end e there)).1

named_more : (few many : ℕ) (peer : Option ℕ) → few ≤ many → IsNamed few peer → IsNamed many peer
named_more few many None le has = tt
named_more few many (Some peer) le has = omega arith

has_peer_more : (few many : ℕ) (deed : Deed) → few ≤ many → HasPeerIn few deed → HasPeerIn many deed
has_peer_more few many (Calls end call) le has = named_more few many (peer_in call) le has
has_peer_more few many deed le has = tt

line_in_more : (few many : ℕ) → few ≤ many → (line : JournalLine) → IsLineIn few line → IsLineIn many line
line_in_more few many le line is = record {
  end = (let below : line.end < few = is.end in omega arith);
  peer = has_peer_more few many (deed_of line.step) le is.peer;
  small = is.small;
}

pub new_setup_is : (max_peers max_sessions : ℕ) (cert : List ℕ) → IsCertificate cert → max_sessions ≤ 65536 → IsSetup (new_setup max_peers max_sessions cert)
new_setup_is max_peers max_sessions cert is most = record { cert = is; secret = refl; cookie_secret = length-sha256 cert; sessions = most }

-- the secret of the first generation is that of the group
first_known : get group_secrets first_generation ≡ Some (counted_secret first_generation)
first_known = known_below (2 ^ 64) first_generation (omega arith)

module _ (w : Seen) (is : IsWorld w) (new : EndSeen) (given : IsSetup new.setup) (first : get group_secrets new.setup.generation ≡ Some new.setup.secret) (begun : new.state ≡ fresh new.setup) (other_name : NoneHas name_of new.name w.ends) (other_print : NoneHas print_of (own_of new.setup) w.ends) where
  stay : SameSetups (length w.ends) w.ends (w.ends ++ new ∷ [])
  stay who below = setups_stay_before w.ends new who below

  same_history : history_of (with_end w new) ≡ history_of w
  same_history = same_lines (length w.ends) w.ends (w.ends ++ new ∷ []) stay w.lines [] is.lines

  takes_part : (who : ℕ) → TakesPart who (history_of w) → who < length w.ends
  takes_part who h = takes_part_below (length w.ends) w.ends w.lines who is.lines h

  stand_now : (who : ℕ) (end : EndSeen) → slice_get (w.ends ++ new ∷ []) who ≡ Some end → StandsUpTo w.moment end.setup (log_of who (history_of w)) end.state
  stand_now who end there = elim (before_or_new w.ends new who end there) [
    | inl before ↦ is.stand who end before
    | inr at ↦
        (let none : log_of who (history_of w) ≡ [] = log_absent who (history_of w) (λ h. (let below : who < length w.ends = takes_part who h in let place : who ≡ length w.ends = at.0 in omega arith)) in
        subst (λ (x : EndSeen). StandsUpTo w.moment x.setup (log_of who (history_of w)) x.state) (sym at.1)
        (subst (λ (log : List Event). StandsUpTo w.moment new.setup log new.state) (sym none) (stands_whole w.moment new.setup [] new.state (sym begun))))
  ]

  given_now : (who : ℕ) (end : EndSeen) → slice_get (w.ends ++ new ∷ []) who ≡ Some end → IsSetup end.setup
  given_now who end there = elim (before_or_new w.ends new who end there) [
    | inl before ↦ is.given who end before
    | inr at ↦ subst (λ (x : EndSeen). IsSetup x.setup) (sym at.1) given
  ]

  -- nothing was learnt yet by the new end
  absent : log_of (length w.ends) (history_of w) ≡ []
  absent = log_absent (length w.ends) (history_of w) (λ h. (let below : length w.ends < length w.ends = takes_part (length w.ends) h in omega arith))

  known_now : (who : ℕ) (end : EndSeen) → slice_get (w.ends ++ new ∷ []) who ≡ Some end → Knows group_secrets end.setup (past_at who (history_of w))
  known_now who end there = elim (before_or_new w.ends new who end there) [
    | inl before ↦ is.known who end before
    | inr at ↦
        subst (λ (x : EndSeen). Knows group_secrets x.setup (past_at who (history_of w))) (sym at.1)
        (subst (λ (k : ℕ). Knows group_secrets new.setup (past_at k (history_of w))) (sym at.0)
        (subst (λ (log : List Event). Knows group_secrets new.setup (past_of_log log)) (sym absent) (record { first = first; learnt = λ generation secret was. absurd was })))
  ]

  lines_now : AllByRecursion (IsLineIn (length (w.ends ++ new ∷ []))) w.lines
  lines_now =
      let more : length w.ends ≤ length (w.ends ++ new ∷ []) = omega (arith, length-more w.ends new) in
      all_mapped (IsLineIn (length w.ends)) (IsLineIn (length (w.ends ++ new ∷ []))) w.lines (line_in_more (length w.ends) (length (w.ends ++ new ∷ [])) more) is.lines

  pub one_more_end : IsWorld (with_end w new)
  one_more_end = record {
    stand = subst (λ (h : History). (who : ℕ) (end : EndSeen) → slice_get (w.ends ++ new ∷ []) who ≡ Some end → StandsUpTo w.moment end.setup (log_of who h) end.state) (sym same_history) stand_now;
    given = given_now;
    known = subst (λ (h : History). (who : ℕ) (end : EndSeen) → slice_get (w.ends ++ new ∷ []) who ≡ Some end → Knows group_secrets end.setup (past_at who h)) (sym same_history) known_now;
    names = apart_with_end name_of w.ends new other_name is.names;
    prints = apart_with_end print_of w.ends new other_print is.prints;
    calls = subst (λ (h : History). (who : ℕ) → AreCalls (log_of who h)) (sym same_history) is.calls;
    lines = lines_now;
    rise = is.rise;
    answers = is.answers;
    honest = subst (λ (h : History). IsHonest group_secrets (setup_at (w.ends ++ new ∷ [])) h) (sym same_history)
        (honest_same group_secrets (setup_at w.ends) (setup_at (w.ends ++ new ∷ [])) (history_of w) (λ who h. stay who (takes_part who h)) is.honest);
    nonces = subst (λ (h : History). AllDifferent (drawn_in h)) (sym same_history) is.nonces;
    drawn = subst (λ (h : History). (nonce : List ℕ) → Among nonce (drawn_in h) → IsOfLine nonce w.lines) (sym same_history) is.drawn;
  }

-- a new end whose step isn't bad
pub with_end_is_world : (w : Seen) (name cert : List ℕ) (max_peers max_sessions : ℕ) → IsWorld w → IsCertificate cert → is_bad w (End name max_peers max_sessions cert) ≡ false →
    IsWorld (with_end w (new_end name (new_setup max_peers max_sessions cert)))
with_end_is_world w name cert max_peers max_sessions is certified fine =
    let like : Bool = list_any (is_like name cert) w.ends in
    let last = or_parts (like || nat_le 1024 (length w.ends) || is_outside 1048576 max_peers) (is_outside 65536 max_sessions) fine in
    let limits = or_parts (like || nat_le 1024 (length w.ends)) (is_outside 1048576 max_peers) last.0 in
    let first = or_parts like (nat_le 1024 (length w.ends)) limits.0 in
    one_more_end w is (new_end name (new_setup max_peers max_sessions cert)) (new_setup_is max_peers max_sessions cert certified (not_outside 65536 max_sessions last.1)) first_known refl
    (no_name name cert w.ends first.0) (no_print name cert w.ends first.0)
