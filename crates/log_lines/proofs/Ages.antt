-- How long ago things began, by what stands under their session IDs.
use Rattle.std.proofs.Common.{ℕ, List, [], ◌∷◌, ◌≡◌, ◌+◌, ◌≤◌, inl, inr, sym, subst, Decides, nat_le, Some, ◌∙◌}
use Rattle.std.specs.FinMap.{get}
use Rattle.std.proofs.lemmas.Bool.Decides.{Decides-at, Decides-like}
use Rattle.glare_core.specs.declared.facts.Held.{Held}
use Rattle.glare_core.specs.Standing.{held}
use Rattle.glare_core.specs.Things.{near_of}
use Rattle.endpoint_model.specs.Event.{Setup}
use Rattle.endpoint_laws.specs.Past.{Past, facts_of, WasStated}
use Rattle.endpoint_laws.specs.Contexts.{Secrets, BegunUnder}
use Rattle.endpoint_laws.proofs.Unique.{event_one}
use Rattle.log_digest.specs.declared.spot.Spot.TheVariants.{Holding}
use Rattle.log_digest.specs.Spots.{beginning, IsHeldSince}
use Rattle.log_digest.specs.Kept.{Digested}
use Rattle.log_digest.specs.Digest.{IsDigestOf}
use Rattle.log_digest.proofs.Stated.{is_thing}
use Rattle.log_lines.specs.Decisions.{is_over, held_since, is_old}
use Rattle.log_lines.specs.Lines.{HearingsTellTheLast}
use Rattle.log_lines.proofs.Asked.{le_decides}

-- What is held with this peer began so many milliseconds ago.
pub record BeganAgo (span now : ℕ) (past : Past) (peer : List ℕ) (thing : Held) : Type 0 where
  pub at : ℕ
  pub began : WasStated at (beginning peer thing) past
  pub over : at + span ≤ now

pub old_decides : (span now : ℕ) (past : Past) (d : Digested) → IsDigestOf now past d → (peer : List ℕ) (thing : Held) → held peer (facts_of past) ≡ Some thing →
    Decides (is_old span (near_of thing) d) (BeganAgo span now past peer thing)
old_decides span now past d is peer thing is_held =
    let since = is.orderly.since peer thing is_held in
    let at : ℕ = since.0 in
    let h : IsHeldSince past (near_of thing) peer at = since.1 in
    let same : h.thing ≡ thing = is_thing h.thing thing (sym h.is_held ∙ is_held) in
    let spot : get d.spots (near_of thing) ≡ Some (Holding peer at) = (is.spots_are.spot (near_of thing)).held_there peer at h in
    Decides-at _ (nat_le (at + span) now) (λ i. is_over span (held_since (spot i)) (is.moment_is i))
    (Decides-like _
    (λ (over : at + span ≤ now). record { at = at; began = subst (λ (t : Held). WasStated at (beginning peer t) past) same h.began; over = over })
    (λ (b : BeganAgo span now past peer thing).
    let one : b.at ≡ at = h.once b.at (subst (λ (t : Held). WasStated b.at (beginning peer t) past) (sym same) b.began) in
    subst (λ (m : ℕ). m + span ≤ now) one b.over)
    (le_decides (at + span) now))

-- A session began in one generation.
pub begun_one : (secrets : Secrets) (setup : Setup) (thing : Held) (g h : ℕ) (past : Past) → BegunUnder secrets setup thing g past → BegunUnder secrets setup thing h past → g ≡ h
begun_one secrets setup thing g h [] a b = absurd a
begun_one secrets setup thing g h (s ∷ earlier) (inl a) (inl b) = event_one secrets setup earlier g h a.1 b.1
begun_one secrets setup thing g h (s ∷ earlier) (inl a) (inr b) = absurd (b.0 a.0)
begun_one secrets setup thing g h (s ∷ earlier) (inr a) (inl b) = absurd (a.0 b.0)
begun_one secrets setup thing g h (s ∷ earlier) (inr a) (inr b) = begun_one secrets setup thing g h earlier a.1 b.1

pub hearing_tells : HearingsTellTheLast
hearing_tells secrets setup past thing near generation h begun is = record { generation = generation; begun = begun; took = is.took; within = is.within }
