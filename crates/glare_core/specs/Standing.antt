-- What an end holds and has counted, by the list of its facts, the newest first.
use Rattle.std.specs.Prelude.{ℕ, List, [], ◌∷◌, ◌+◌, Option, Some, None, max, cond, if◌then◌else◌}
use Rattle.std.specs.List.{list_any}
use Rattle.std.specs.Str.{bytes_eq}
use Rattle.glare_core.specs.declared.facts.Fact.{Fact}
use Rattle.glare_core.specs.declared.facts.Fact.TheVariants.{Started, Born, Opened, Confirmed, Ended}
use Rattle.glare_core.specs.declared.facts.Joined.{Joined}
use Rattle.glare_core.specs.declared.facts.Held.{Held}
use Rattle.glare_core.specs.declared.facts.Held.TheVariants.{Opening, HalfOpen, KeptAsResponder, KeptAsInitiator}

-- the peer that a fact speaks of
abbrev pub peer_of : Fact → List ℕ
peer_of (Started peer n near ni) = peer
peer_of (Born j) = j.peer
peer_of (Opened j) = j.peer
peer_of (Confirmed peer near) = peer
peer_of (Ended peer near why) = peer

-- what is held after an Opened: a held attempt is a kept session from then on
abbrev pub opened : Joined → Option Held → Option Held
opened j None = None
opened j (Some (Opening n near ni)) = Some (KeptAsInitiator j)
opened j (Some (HalfOpen h)) = Some (HalfOpen h)
opened j (Some (KeptAsResponder h)) = Some (KeptAsResponder h)
opened j (Some (KeptAsInitiator h)) = Some (KeptAsInitiator h)

-- what is held after a Confirmed: a half-open session is kept from then on
abbrev pub confirmed : Option Held → Option Held
confirmed None = None
confirmed (Some (Opening n near ni)) = Some (Opening n near ni)
confirmed (Some (HalfOpen j)) = Some (KeptAsResponder j)
confirmed (Some (KeptAsResponder j)) = Some (KeptAsResponder j)
confirmed (Some (KeptAsInitiator j)) = Some (KeptAsInitiator j)

-- What is held with the peer of a fact after it, by what was held before it: from its Started or
-- Born until its Ended.
abbrev pub after : Fact → Option Held → Option Held
after (Started peer n near ni) before = Some (Opening n near ni)
after (Born j) before = Some (HalfOpen j)
after (Opened j) before = opened j before
after (Confirmed peer near) before = confirmed before
after (Ended peer near why) before = None

-- what is held with a peer after these facts
abbrev pub held : List ℕ → List Fact → Option Held
held peer [] = None
held peer (fact ∷ earlier) = cond (bytes_eq (peer_of fact) peer) (after fact (held peer earlier))
    (held peer earlier)

-- the number that a fact adds to those seen of its peer: the n of a Born, the k of an Opened
abbrev pub seen_in : Fact → ℕ
seen_in (Started peer n near ni) = 0
seen_in (Born j) = j.n
seen_in (Opened j) = j.k
seen_in (Confirmed peer near) = 0
seen_in (Ended peer near why) = 0

-- the greatest number seen of a peer, 0 at first
abbrev pub seen : List ℕ → List Fact → ℕ
seen peer [] = 0
seen peer (fact ∷ earlier) = cond (bytes_eq (peer_of fact) peer)
    (max (seen_in fact) (seen peer earlier)) (seen peer earlier)

-- 1 for a Started
abbrev pub starts_in : Fact → ℕ
starts_in (Started peer n near ni) = 1
starts_in (Born j) = 0
starts_in (Opened j) = 0
starts_in (Confirmed peer near) = 0
starts_in (Ended peer near why) = 0

-- how many attempts were started, with whatever peer
abbrev pub count : List Fact → ℕ
count [] = 0
count (fact ∷ earlier) = starts_in fact + count earlier

-- the different peers with this one
abbrev pub with_peer : List ℕ → List (List ℕ) → List (List ℕ)
with_peer peer peers = if list_any (bytes_eq peer) peers then peers else peer ∷ peers

-- the different peers of the Started and the Born
abbrev pub peers_in : List Fact → List (List ℕ)
peers_in [] = []
peers_in (Started peer n near ni ∷ earlier) = with_peer peer (peers_in earlier)
peers_in (Born j ∷ earlier) = with_peer j.peer (peers_in earlier)
peers_in (Opened j ∷ earlier) = peers_in earlier
peers_in (Confirmed peer near ∷ earlier) = peers_in earlier
peers_in (Ended peer near why ∷ earlier) = peers_in earlier
