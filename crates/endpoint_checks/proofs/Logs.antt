-- Facts of short logs.
use Rattle.std.proofs.Common.{ℕ, List, [], ◌∷◌, ◌++◌, ◌≡◌, ◌≢◌, true, false, refl}
use Rattle.std.specs.Str.{bytes_eq}
use Rattle.std.proofs.lemmas.Slice.Eq.{bytes_eq-Decides}
use Rattle.std.specs.Prelude.{Bool}
use Rattle.endpoint_model.specs.Event.{Setup, Event, moment_at}
use Rattle.endpoint_laws.specs.Contexts.{Secrets}
use Rattle.endpoint_laws.specs.Past.{Past, past_of, last_moment, begun, with_event}
use Rattle.endpoint_laws.specs.Lawful.{EntriesLawful, LawfulFrom}

-- bytes are themselves, and no others
pub same : (x y : List ℕ) → x ≡ y → bytes_eq x y ≡ true
same x y e = (bytes_eq-Decides x y).1 e

pub other : (x y : List ℕ) → x ≢ y → bytes_eq x y ≡ false
other x y differ = by (bytes_eq x y) refl
  where
    by : (b : Bool) → bytes_eq x y ≡ b → bytes_eq x y ≡ false
    by true e = absurd (differ ((bytes_eq-Decides x y).0 e))
    by false e = e

-- the last event of a lawful log is judged by what was done before
pub last_lawful : (secrets : Secrets) (setup : Setup) (last : ℕ) (past : Past) (log : List Event) (e : Event) → LawfulFrom secrets setup last past (log ++ e ∷ []) →
    EntriesLawful secrets setup (moment_at (last_moment last log) e) e.call (begun (moment_at (last_moment last log) e) e ∷ past_of last past log) e.entries
last_lawful secrets setup last past [] e h = h.0
last_lawful secrets setup last past (d ∷ log) e h = last_lawful secrets setup (moment_at last d) (with_event (moment_at last d) d past) log e h.1
