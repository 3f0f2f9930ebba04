-- What a checker keeps of the session IDs of one end, beside what stands under them.
use Rattle.std.specs.Prelude.{ℕ, List, Option, Some, None, refl}
use Rattle.std.specs.Ordering.{nat_cmp}
use Rattle.std.specs.FinMap.{FinMap, empty, get, code}
use Rattle.std.specs.Coded.{Coded, code_by, coded×, coded_ℕ, coded_list, coded_option}
use Rattle.log_contexts.specs.declared.threads.Thread.{Thread}
use Rattle.log_contexts.specs.declared.sessions.Session.{Session}

-- ---- what began last under each session ID

abbrev pub ThreadTable : Type 0
ThreadTable = FinMap nat_cmp Thread

-- the tag, and the generation of the keying
abbrev pub tag_in : Option Thread → Option (List ℕ)
tag_in None = None
tag_in (Some thread) = thread.tag

abbrev pub keying_in : Option Thread → Option ℕ
keying_in None = None
keying_in (Some thread) = thread.keying

abbrev pub tag_at : ℕ → ThreadTable → Option (List ℕ)
tag_at near threads = tag_in (get threads near)

abbrev pub keying_at : ℕ → ThreadTable → Option ℕ
keying_at near threads = keying_in (get threads near)

-- ---- the session that began last under each session ID

abbrev pub SessionTable : Type 0
SessionTable = FinMap nat_cmp Session

-- the generation in which it began, and when it took the last datagram
abbrev pub generation_in : Option Session → Option ℕ
generation_in None = None
generation_in (Some session) = Some session.generation

abbrev pub last_in : Option Session → Option ℕ
last_in None = None
last_in (Some session) = session.hearing.last

-- ---- how they are kept

-- the threads, and how many more there is room for
pub record ThreadMap : Type 0 where
  pub table : ThreadTable
  pub spare : ℕ

abbrev pub thread_map_code : Coded Thread → Coded ThreadMap
thread_map_code thread =
    code_by (ThreadTable × ℕ) (coded× (code coded_ℕ thread) coded_ℕ) (λ m. (m.table, m.spare))
    (λ p. record { table = p.0; spare = p.1 }) (λ _. refl)

-- the tag that the last call drew if it was an open, and if it was a seek; and those above
pub record KeptContexts : Type 0 where
  pub opened : Option (List ℕ)
  pub sought : Option (List ℕ)
  pub threads : ThreadTable
  pub sessions : SessionTable

abbrev pub nothing_kept : KeptContexts
nothing_kept = record { opened = None; sought = None; threads = empty; sessions = empty }

-- It is stored as the tuple of its fields.
abbrev pub contexts_code : Coded Thread → Coded Session → Coded KeptContexts
contexts_code thread session =
    code_by (Option (List ℕ) × (Option (List ℕ) × (ThreadTable × SessionTable)))
    (coded× (coded_option (coded_list coded_ℕ))
    (coded× (coded_option (coded_list coded_ℕ))
    (coded× (code coded_ℕ thread) (code coded_ℕ session))))
    (λ c. (c.opened, (c.sought, (c.threads, c.sessions))))
    (λ p. record { opened = p.0; sought = p.1.0; threads = p.1.1.0; sessions = p.1.1.1 })
    (λ _. refl)
