-- Told histories: lists of events, the newest first, and which of them are lawful, honest and
-- fresh.
use Rattle.std.specs.Prelude.{ℕ, List, [], ◌∷◌}
use Rattle.glare_core.specs.declared.facts.Fact.TheVariants.{Started, Born, Opened, Confirmed, Ended}
use Rattle.glare_core.specs.Table.{Meets, Followed}
use Rattle.glare_core.specs.Tells.{Tell}
use Rattle.glare_core.specs.Steps.{Item, Told, Did, Sends, Step, step, Among, view}

pub record Event : Type 0 where
  -- the end
  pub who : List ℕ
  -- what its datagram told
  pub told : List Tell
  -- its facts and the tells that it sent, in order
  pub done : List Item

-- items of one end, one after another, on top of the steps before
abbrev pub onto : List ℕ → List Item → List Step → List Step
onto who [] before = before
onto who (item ∷ items) before = onto who items (step who item ∷ before)

-- what a datagram told an end, on top of the steps before
abbrev pub onto_told : List ℕ → List Tell → List Step → List Step
onto_told who [] before = before
onto_told who (t ∷ ts) before = onto_told who ts (step who (Told t) ∷ before)

-- An event is what its datagram told, and then what the end did.
abbrev pub steps : List Event → List Step
steps [] = []
steps (e ∷ earlier) = onto e.who e.done (onto_told e.who e.told (steps earlier))

-- The items of an event, in order, on top of the end's log.
abbrev pub DoneLawful : List ℕ → List Item → List Item → Type 0
DoneLawful own log [] = Unit {0}
DoneLawful own log (item ∷ rest) = Meets own log item × Followed item rest ×
    DoneLawful own (item ∷ log) rest

-- the log of an end, after a datagram told it these
abbrev pub told_to : List Tell → List Item → List Item
told_to [] log = log
told_to (t ∷ ts) log = told_to ts (Told t ∷ log)

-- Each fact, and each tell that was sent, meets the table, judged by what its end was told and did
-- before.
abbrev pub IsLawful : List Event → Type 0
IsLawful [] = Unit {0}
IsLawful (e ∷ earlier) = DoneLawful e.who (told_to e.told (view e.who (steps earlier))) e.done ×
    IsLawful earlier

-- The tell was sent, by whatever end.
abbrev pub WasSent : Tell → List Step → Type 0
WasSent t before = (who : List ℕ) × Among (step who (Sends t)) before

abbrev pub AllSent : List Tell → List Step → Type 0
AllSent [] before = Unit {0}
AllSent (t ∷ ts) before = WasSent t before × AllSent ts before

-- Each told tell was sent in an earlier event.
abbrev pub IsHonest : List Event → Type 0
IsHonest [] = Unit {0}
IsHonest (e ∷ earlier) = AllSent e.told (steps earlier) × IsHonest earlier

-- the nonces before, and in front of them the ni of a Started or the nr of a Born
abbrev pub with_nonce : Item → List (List ℕ) → List (List ℕ)
with_nonce (Told t) before = before
with_nonce (Sends t) before = before
with_nonce (Did (Started peer n near ni) generation) before = ni ∷ before
with_nonce (Did (Born j) generation) before = j.nr ∷ before
with_nonce (Did (Opened j) generation) before = before
with_nonce (Did (Confirmed peer near) generation) before = before
with_nonce (Did (Ended peer near why) generation) before = before

-- the ni of each Started and the nr of each Born
abbrev pub nonces : List Step → List (List ℕ)
nonces [] = []
nonces (s ∷ earlier) = with_nonce s.item (nonces earlier)

-- no two of them are the same
abbrev pub AllDifferent : {A : Type 0} → List A → Type 0
AllDifferent [] = Unit {0}
AllDifferent (x ∷ xs) = (Among x xs → ⊥) × AllDifferent xs

-- The nonces are all different. That the fingerprints of ends differ is no condition here, since
-- they name the ends.
abbrev pub IsFresh : List Event → Type 0
IsFresh history = AllDifferent (nonces (steps history))
