-- What an attempt is towards, by cases: what it is named by, what it sends, and what ends with it.
-- It is the end with a fingerprint, or each end whose certificate has a name: then it is a search.
use Rattle.std.specs.Prelude.{ℕ, ◌==◌, ◌≡◌, Bool, true, false, List, [], ◌∷◌, Option, Some, None}
use Rattle.std.specs.Str.{bytes_eq}
use Rattle.glare_core.specs.declared.facts.Why.{Why}
use Rattle.glare_core.specs.declared.facts.Fact.{Fact}
use Rattle.glare_core.specs.declared.facts.Fact.TheVariants.{Ended}
use Rattle.glare_core.specs.declared.facts.Held.TheVariants.{Opening}
use Rattle.glare_core.specs.Ledger.{Ledger, held_with}
use Rattle.startup.specs.declared.aim.Aim.{Aim}
use Rattle.startup.specs.declared.aim.Aim.TheVariants.{AtPeer, ByName}
use Rattle.startup_packets.specs.Packets.{iikeying_signed}

-- whether it is a search
abbrev pub is_search : Aim → Bool
is_search (AtPeer peer n) = false
is_search (ByName name) = true

-- the peer that is aimed at, where it is known
abbrev pub peer_of_aim : Aim → Option (List ℕ)
peer_of_aim (AtPeer peer n) = Some peer
peer_of_aim (ByName name) = None

-- whether it is the attempt with this number: a search has none
abbrev pub is_numbered : ℕ → Aim → Bool
is_numbered number (AtPeer peer n) = n == number
is_numbered number (ByName name) = false

-- the word that it is found by: its number, where it has one
abbrev pub aim_word : Aim → Option ℕ
aim_word (AtPeer peer n) = Some n
aim_word (ByName name) = None

-- whether the end with this fingerprint is aimed at
abbrev pub is_towards : List ℕ → Aim → Bool
is_towards print (AtPeer peer n) = bytes_eq print peer
is_towards print (ByName name) = false

-- the discriminator in its hellos
abbrev pub discriminator_of_aim : Aim → List ℕ
discriminator_of_aim (AtPeer peer n) = 0x01 ∷ peer
discriminator_of_aim (ByName name) = 0x02 ∷ name

-- the packet of its keying, under the signature key and with the own certificate; a search sends
-- none
abbrev pub keying_of_aim : List ℕ → ℕ → List ℕ → List ℕ → List ℕ → Aim → List ℕ
keying_of_aim key near cookie cert ni (AtPeer peer n) = iikeying_signed key near cookie cert ni n
    peer
keying_of_aim key near cookie cert ni (ByName name) = []

-- An attempt with this near id and nonce is held as what it aims at. A search is towards no peer
-- yet, so nothing of it is held.
abbrev pub IsHeldAs : Ledger → ℕ → List ℕ → Aim → Type 0
IsHeldAs ledger near ni (AtPeer peer n) = held_with ledger peer ≡ Some (Opening n near ni)
IsHeldAs ledger near ni (ByName name) = Unit {0}

-- the fact with which it ends: no fact speaks of a search
abbrev pub end_of_aim : ℕ → Why → Aim → Option Fact
end_of_aim near why (AtPeer peer n) = Some (Ended peer near why)
end_of_aim near why (ByName name) = None
