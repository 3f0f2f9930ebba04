-- A hello that is forwarded, and a redirect that adds nothing.
use Rattle.std.proofs.Common.{ℕ, ◌≡◌, ◌≤◌, List, [], ◌∷◌, length, Bool, true, false, Option, Some, None, refl, nat_lt, arith}
use Rattle.std.proofs.lemmas.Bool.{ltb-false}
use Rattle.rtmfp_forms.specs.Address.{AddressParts}
use Rattle.rtmfp_chunks.specs.Chunk.{FIHello}
use Rattle.rtmfp_chunks.specs.Writing.{chunk_bytes}
use Rattle.identity.specs.declared.discriminator.Epd.{Epd}
use Rattle.identity.specs.Discriminators.{discriminator_of}
use Rattle.rtmfp_base.specs.Reasons.{where_true}
use Rattle.rtmfp_base.specs.declared.cause.Cause.TheVariants.{Wide}
use Rattle.startup.specs.State.{AttemptState}
use Rattle.startup.specs.Attempts.{wide, hello_spread}
use Rattle.startup.specs.Redirects.{sent_by_spread, redirect_spread_of, after_redirect_of, after_extension, new_candidates}
use Rattle.startup_packets.proofs.Sizes.{fihello_length}
use Rattle.endpoint_model.specs.State.{State, nothing, with_startup}
use Rattle.endpoint_model.specs.Effects.{sent_spread_if}
use Rattle.endpoint_laws.proofs.Replies.{discriminator_length}

-- ---- a hello that is forwarded fits

pub narrow_tag : (tag : List ℕ) → wide tag ≡ None → length tag ≤ 128
narrow_tag tag narrow = by (nat_lt 128 (length tag)) refl narrow
  where
    by : (b : Bool) → nat_lt 128 (length tag) ≡ b → where_true b (Wide (length tag)) ≡ None → length tag ≤ 128
    by true is e = absurd (cc)
    by false is e = ltb-false 128 (length tag) is

pub forwarded_length : (epd tag : List ℕ) (reply : AddressParts) (selected : Epd) → wide tag ≡ None → discriminator_of epd ≡ Some selected → length (chunk_bytes (FIHello epd reply tag)) ≤ 288
forwarded_length epd tag reply selected narrow is =
    omega (arith, fihello_length epd reply tag (omega (arith, discriminator_length epd selected is)) (narrow_tag tag narrow))

-- ---- redirects

-- one that adds none does nothing
pub idle_redirect : (s : State) (o : Option (ℕ × AttemptState)) (addresses : List AddressParts) → sent_by_spread (redirect_spread_of o addresses) ≡ 0 →
    sent_spread_if (with_startup s (after_redirect_of s.startup o addresses s.moment)) (redirect_spread_of o addresses) ≡ nothing s
idle_redirect s None addresses e = refl
idle_redirect s (Some attempt) addresses e = by (new_candidates attempt.1.candidates addresses) e
  where
    by : (new : List AddressParts) → length new ≡ 0 →
        sent_spread_if (with_startup s (after_extension s.startup attempt new s.moment)) (Some (hello_spread attempt.1 new)) ≡ nothing s
    by [] e = refl
    by (first ∷ others) e = absurd (omega (arith, e))
