-- Packets that go out in parts.
use Rattle.std.specs.Prelude.{ℕ, ◌≡◌, true, false, List, [], ◌∷◌}
use Rattle.rtmfp_fragments.specs.Pieces.{PieceParts, piece}
use Rattle.flow_history.specs.Deeds.{Context, Data, Part, MakesFlow, TakesFrom, HandsOn, In, Out}
use Rattle.flow_history.specs.Deeds.{Splits, done, History}
use Rattle.flow_history.specs.Lawful.{WasSplit, HasPart, CameIn, IsLawful, IsHonest}
use Rattle.flow_history.specs.Lively.{there, flow, chunk, carried, at_sent}

-- A part that comes is one of a packet that was split in the context under its ID.
abbrev pub WhatComesWasSplit : Type 0
WhatComesWasSplit = (h : History) (who : ℕ) (c : Context) (id : ℕ) (x : PieceParts) → IsLawful h →
    IsHonest h → CameIn who c (Part id x) h → HasPart c id x h

-- Under one ID of a context one packet was split, and into pieces of one size.
abbrev pub AnIdIsGivenOnce : Type 0
AnIdIsGivenOnce = (h : History) (c : Context) (id size size' : ℕ) (packet packet' : List ℕ) →
    IsLawful h → WasSplit c id size packet h → WasSplit c id size' packet' h →
    (size ≡ size') × (packet ≡ packet')

-- ---- such a history

abbrev pub packet : List ℕ
packet = 1 ∷ 2 ∷ 3 ∷ []

abbrev pub first_part : PieceParts
first_part = piece 0 true (1 ∷ 2 ∷ [])

abbrev pub last_part : PieceParts
last_part = piece 1 false (3 ∷ [])

-- The packet goes out in two pieces under ID 7.
abbrev pub at_split : History
at_split = done 1 (Splits there 7 2 packet) ∷ at_sent

abbrev pub at_parts : History
at_parts =
    done 1 (Out there (Part 7 last_part ∷ [])) ∷ done 1 (Out there (Part 7 first_part ∷ []))
    ∷ at_split

-- They come in the other order, and then the packet is there, of which a flow is made that hands
-- its message over.
abbrev pub at_gathered : History
at_gathered =
    done 2 (In there (Data 0 carried ∷ [])) ∷ done 2 (In there (Part 7 first_part ∷ []))
    ∷ done 2 (In there (Part 7 last_part ∷ [])) ∷ at_parts

abbrev pub parted : History
parted =
    done 2 (HandsOn flow) ∷ done 2 (TakesFrom flow chunk) ∷ done 2 (MakesFlow flow false)
    ∷ at_gathered
