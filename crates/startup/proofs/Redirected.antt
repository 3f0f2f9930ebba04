-- Redirects: the addresses that join the candidates.
use Rattle.std.proofs.Common.{◌≡◌, ℕ, ◌≤◌, Bool, true, false, if◌then◌else◌, List, [], ◌∷◌, ◌++◌, length, Some, None, sym, ap, ◌∙◌, arith, length-append}
use Rattle.std.specs.List.{fold, list_any}
use Rattle.rtmfp_forms.specs.Address.{AddressParts, is_same_place}
use Rattle.startup.specs.State.{AttemptState, StartupState}
use Rattle.startup.specs.Attempts.{has_tag, lowest}
use Rattle.startup.specs.Redirects.{joined_beside, new_candidates, redirect_cause_among, redirect_spread_of, sent_by_spread, added, after_extension, after_redirect_of}
use Rattle.startup.specs.Sought.{IsExtension}
use Rattle.startup.specs.Judging.{IsFound, ExtensionParts, Extends, after_extension_of, extension_spread}

-- ---- new candidates

one_or_none : (b c : Bool) (new : List AddressParts) (a : AddressParts) → length new ≤ length (if b then new else if c then new else new ++ a ∷ [])
one_or_none true c new a = omega arith
one_or_none false true new a = omega arith
one_or_none false false new a = omega (arith, length-append new (a ∷ []))

-- There are never fewer after some more addresses.
pub beside_grows : (candidates new rest : List AddressParts) → length new ≤ length (fold (joined_beside candidates) new rest)
beside_grows candidates new [] = omega arith
beside_grows candidates new (a ∷ rest) =
    omega (
      arith,
      one_or_none (list_any (is_same_place a) candidates) (list_any (is_same_place a) new) new a,
      beside_grows candidates (joined_beside candidates new a) rest,
    )

-- ---- what a redirect does to the attempt that it is for
module _ (s : StartupState) (e : ℕ × AttemptState) (tag : List ℕ) (told new : List AddressParts) (chosen : lowest (has_tag tag) s.attempts ≡ Some e) (is : new ≡ new_candidates e.1.candidates told) where
  -- how many hellos it sends
  pub count_is : redirect_cause_among s.attempts tag told ≡ None → length new ≡ added (redirect_cause_among s.attempts tag told) (redirect_spread_of (lowest (has_tag tag) s.attempts) told)
  count_is none =
      ap length is ∙ sym (ap (λ o. added o (redirect_spread_of (lowest (has_tag tag) s.attempts) told)) none ∙ ap (λ o. sent_by_spread (redirect_spread_of o told)) chosen)

-- what a redirect adds that has this tag and tells these addresses
module _ (s : StartupState) (tag : List ℕ) (told : List AddressParts) (e : ExtensionParts) (is : IsExtension s.attempts tag told e.found.near e.new) where
  pub extends : Extends s e
  extends = record { attempt = is.attempt; there = is.there; few = is.few }

  pub is_found : IsFound s e.found (lowest (has_tag tag) s.attempts)
  is_found = record { attempt = is.attempt; chosen_is = is.chosen_is; there = is.there }

  -- the hellos that it sends
  pub spread_is : extension_spread (lowest (has_tag tag) s.attempts) e.new ≡ redirect_spread_of (lowest (has_tag tag) s.attempts) told
  spread_is =
      ap (λ o. extension_spread o e.new) is.chosen_is ∙ ap (λ l. extension_spread (Some (e.found.near, is.attempt)) l) is.new_is
      ∙ sym (ap (λ o. redirect_spread_of o told) is.chosen_is)

  -- what it leaves
  pub left_is : (moment : ℕ) → after_extension_of s (lowest (has_tag tag) s.attempts) e.new moment ≡ after_redirect_of s (lowest (has_tag tag) s.attempts) told moment
  left_is moment =
      ap (λ o. after_extension_of s o e.new moment) is.chosen_is ∙ ap (λ l. after_extension s (e.found.near, is.attempt) l moment) is.new_is
      ∙ sym (ap (λ o. after_redirect_of s o told moment) is.chosen_is)
