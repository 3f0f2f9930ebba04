-- Redirects: further addresses at which the peer of an attempt may be (RFC 7016 section 3.5.1.4;
-- how many there may be, and what an empty list says, is own).
use Rattle.std.specs.Prelude.{ℕ, ◌+◌, nat_lt, not, if◌then◌else◌, List, [], ◌∷◌, ◌++◌, length, Option, Some, None}
use Rattle.std.specs.List.{fold, list_any}
use Rattle.crypto_profile.specs.declared.group.GroupSecret.{GroupSecret}
use Rattle.rtmfp_forms.specs.Address.{AddressParts, is_same_place}
use Rattle.rtmfp_chunks.specs.FieldReading.{addresses_in}
use Rattle.rtmfp_base.specs.Reasons.{where_true, first_that_stands}
use Rattle.startup.specs.declared.answer.Answer.{Answer}
use Rattle.rtmfp_base.specs.declared.cause.Cause.{Cause}
use Rattle.rtmfp_base.specs.declared.cause.Cause.TheVariants.{NoAttempt, WrongState, CandidatesFull}
use Rattle.startup.specs.State.{AttemptState, Attempts, StartupState, SpreadParts}
use Rattle.startup.specs.Attempts.{lowest, has_tag, wide, joined, with_attempt, hello_spread}
use Rattle.startup.specs.Answers.{answer_under}
use Rattle.startup.specs.Keyings.{is_in_hello}
use Rattle.startup_packets.specs.Packets.{redirect_packet}

-- ---- what a redirect tells

-- A redirect without addresses tells the one that it came from.
abbrev pub or_source : List AddressParts → AddressParts → List AddressParts
or_source [] from = from ∷ []
or_source (first ∷ others) from = first ∷ others

-- the addresses that a list tells which came from an address
abbrev pub told_addresses : List ℕ → AddressParts → List AddressParts
told_addresses list from = or_source (addresses_in list) from

-- An address joins the new ones, unless a candidate or one of them is at its place.
abbrev pub joined_beside : List AddressParts → List AddressParts → AddressParts → List AddressParts
joined_beside candidates new address =
    if list_any (is_same_place address) candidates then new else joined new address

-- those of some addresses that aren't candidates yet; of those at one place the first
abbrev pub new_candidates : List AddressParts → List AddressParts → List AddressParts
new_candidates candidates addresses = fold (joined_beside candidates) [] addresses

-- ---- why it is discarded

-- The new addresses would pass 16 beside the candidates.
abbrev pub full_cause : List AddressParts → List AddressParts → Option Cause
full_cause candidates new =
    where_true (nat_lt 16 (length candidates + length new)) (CandidatesFull (length candidates))

abbrev pub redirect_cause_at : Option (ℕ × AttemptState) → List AddressParts → Option Cause
redirect_cause_at None addresses = Some NoAttempt
redirect_cause_at (Some e) addresses = first_that_stands
    (where_true (not (is_in_hello e.1.stage)) WrongState
    ∷ full_cause e.1.candidates (new_candidates e.1.candidates addresses) ∷ [])

abbrev pub redirect_cause_among : Attempts → List ℕ → List AddressParts → Option Cause
redirect_cause_among attempts tag addresses = first_that_stands
    (wide tag ∷ redirect_cause_at (lowest (has_tag tag) attempts) addresses ∷ [])

-- why a redirect with this tag and list is discarded that came from an address
abbrev pub redirect_cause : StartupState → List ℕ → List ℕ → AddressParts → Option Cause
redirect_cause s tag list from = redirect_cause_among s.attempts tag (told_addresses list from)

-- ---- what it does

-- an attempt with further candidates, which hellos went to
abbrev pub extended : AttemptState → List AddressParts → ℕ → AttemptState
extended a new moment = record a { candidates = a.candidates ++ new; last = moment }

-- A redirect that adds no candidate leaves all as it was.
abbrev pub after_extension : StartupState → ℕ × AttemptState → List AddressParts → ℕ → StartupState
after_extension s e [] moment = s
after_extension s e (first ∷ others) moment =
    with_attempt s e.0 (extended e.1 (first ∷ others) moment)

abbrev pub after_redirect_of : StartupState → Option (ℕ × AttemptState) → List AddressParts → ℕ →
    StartupState
after_redirect_of s None addresses moment = s
after_redirect_of s (Some e) addresses moment =
    after_extension s e (new_candidates e.1.candidates addresses) moment

-- a hello to each of the new candidates
abbrev pub redirect_spread_of : Option (ℕ × AttemptState) → List AddressParts → Option SpreadParts
redirect_spread_of None addresses = None
redirect_spread_of (Some e) addresses =
    Some (hello_spread e.1 (new_candidates e.1.candidates addresses))

-- what a redirect leaves, and the hellos that it sends
abbrev pub after_redirect : StartupState → List ℕ → List ℕ → AddressParts → ℕ → StartupState
after_redirect s tag list from moment =
    after_redirect_of s (lowest (has_tag tag) s.attempts) (told_addresses list from) moment

abbrev pub redirect_spread : StartupState → List ℕ → List ℕ → AddressParts → Option SpreadParts
redirect_spread s tag list from =
    redirect_spread_of (lowest (has_tag tag) s.attempts) (told_addresses list from)

-- how many hellos these are
abbrev pub sent_by_spread : Option SpreadParts → ℕ
sent_by_spread None = 0
sent_by_spread (Some spread) = length spread.to

-- how many it sends, which are none where it is discarded
abbrev pub added : Option Cause → Option SpreadParts → ℕ
added None spread = sent_by_spread spread
added (Some cause) spread = 0

abbrev pub adds : StartupState → List ℕ → List ℕ → AddressParts → ℕ
adds s tag list from =
    added (redirect_cause s tag list from) (redirect_spread s tag list from)

-- ---- the redirect of an introducer

-- the redirect that answers a hello with this tag, to where it came from, under the secret of the
-- group under which the hello opened
abbrev pub redirect_answer : List ℕ → List AddressParts → AddressParts → GroupSecret → Answer
redirect_answer tag addresses to g = answer_under g to 0 (redirect_packet tag addresses)
