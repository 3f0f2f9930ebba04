-- The texts of facts.
use Rattle.std.specs.Prelude.{ℕ, List, [], ◌∷◌, codes}
use Rattle.glare_core.specs.declared.facts.Why.{Why}
use Rattle.glare_core.specs.declared.facts.Why.TheVariants.{Cancelled, Expired, Glare, Override, Unconfirmed, Near, Far, Idle}
use Rattle.glare_core.specs.declared.facts.Joined.{Joined}
use Rattle.glare_core.specs.declared.facts.Fact.{Fact}
use Rattle.glare_core.specs.declared.facts.Fact.TheVariants.{Started, Born, Opened, Confirmed, Ended}
use Rattle.rtmfp_text.specs.Words.{number_field_text, text_of}
use Rattle.rtmfp_text.specs.Names.{peer_text}
use Rattle.rtmfp_text.specs.declared.names.Named.{Named}
use Rattle.rtmfp_report.specs.NonceText.{nonce_text}

unfoldable pub why_text : Why → List ℕ
why_text Cancelled = codes "cancelled"
why_text Expired = codes "expired"
why_text Glare = codes "glare"
why_text Override = codes "override"
why_text Unconfirmed = codes "unconfirmed"
why_text Near = codes "near"
why_text Far = codes "far"
why_text Idle = codes "idle"

-- the values of a session; its other end is called as among these ends
unfoldable pub joined_text : List Named → Joined → List ℕ
joined_text ends joined = text_of (
    codes "peer=" ∷ peer_text ends joined.peer
    ∷ number_field_text (codes " n=") joined.n
    ∷ number_field_text (codes " near=") joined.near
    ∷ number_field_text (codes " far=") joined.far
    ∷ codes " ni=" ∷ nonce_text joined.ni
    ∷ codes " nr=" ∷ nonce_text joined.nr
    ∷ number_field_text (codes " k=") joined.k ∷ [])

unfoldable pub ended_text : ℕ → Why → List ℕ
ended_text near why =
    text_of (number_field_text (codes "ended near=") near ∷ codes " " ∷ why_text why ∷ [])

-- a fact, its peer called as among these ends
unfoldable pub fact_text : List Named → Fact → List ℕ
fact_text ends (Started peer n near ni) = text_of (
    codes "started peer=" ∷ peer_text ends peer
    ∷ number_field_text (codes " n=") n
    ∷ number_field_text (codes " near=") near
    ∷ codes " ni=" ∷ nonce_text ni ∷ [])
fact_text ends (Born joined) = text_of (codes "born " ∷ joined_text ends joined ∷ [])
fact_text ends (Opened joined) = text_of (codes "opened " ∷ joined_text ends joined ∷ [])
fact_text ends (Confirmed peer near) = number_field_text (codes "confirmed near=") near
fact_text ends (Ended peer near why) = ended_text near why
