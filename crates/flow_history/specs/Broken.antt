-- A history in which two sessions send in one context, each other condition met: a message is
-- passed over that wasn't abandoned.
use Rattle.std.specs.Prelude.{ℕ, false, [], ◌∷◌, Some, None}
use Rattle.rtmfp_data_chunks.specs.declared.user_data.Part.TheVariants.{Whole}
use Rattle.rtmfp_data_chunks.specs.Fragments.{Message}
use Rattle.flow_exchange.specs.Sending.{Queues, Sends}
use Rattle.flow_history.specs.Flow.{Carried}
use Rattle.flow_history.specs.Deeds.{back, Data, Deed, Begins, OpensFlow, ActsOn, MakesFlow}
use Rattle.flow_history.specs.Deeds.{TakesFrom, HandsOn, In, Out, done, History}
use Rattle.flow_history.specs.Lawful.{MayDo}
use Rattle.flow_history.specs.Lively.{there, flow}

abbrev pub said : ℕ → ℕ → Message
said n b = record { number = n; bytes = b ∷ [] }

abbrev pub part : ℕ → ℕ → Carried
part n b = record {
  chunk = record {
    part = Whole;
    abandon = false;
    last = false;
    seq = n;
    forward = 0;
    bytes = b ∷ [];
  };
  order = Some false;
}

abbrev pub queue : ℕ → Deed
queue b = ActsOn flow (Queues (b ∷ []) (record { deadline = None; resends = None }))

abbrev pub send : Deed
send = ActsOn flow (Sends 0 1000)

-- Ends 1 and 3 send in one context. 1 queues 7, and 3 queues 8 and 9.
abbrev pub before : History
before =
    done 3 send ∷ done 3 send ∷ done 1 send ∷ done 3 (queue 9) ∷ done 3 (queue 8)
    ∷ done 1 (queue 7) ∷ done 3 (OpensFlow flow false) ∷ done 1 (OpensFlow flow false)
    ∷ done 2 (Begins (back there)) ∷ done 3 (Begins there) ∷ done 1 (Begins there) ∷ []

abbrev pub gone : History
gone =
    done 3 (Out there (Data 0 (part 2 9) ∷ [])) ∷ done 1 (Out there (Data 0 (part 1 7) ∷ []))
    ∷ before

-- End 2 takes number 1 of the one and number 2 of the other.
abbrev pub broken : History
broken =
    done 2 (HandsOn flow) ∷ done 2 (TakesFrom flow (part 2 9).chunk) ∷ done 2 (HandsOn flow)
    ∷ done 2 (TakesFrom flow (part 1 7).chunk) ∷ done 2 (MakesFlow flow false)
    ∷ done 2 (In there (Data 0 (part 2 9) ∷ [])) ∷ done 2 (In there (Data 0 (part 1 7) ∷ []))
    ∷ gone

-- Each deed may be done, but for the second session that begins to send in the context.
abbrev pub MayBut : History → ℕ → Deed → Type 0
MayBut h who (Begins c) = Unit {0}
MayBut h who deed = MayDo h who deed

abbrev pub IsLawfulBut : History → Type 0
IsLawfulBut [] = Unit {0}
IsLawfulBut (d ∷ earlier) = MayBut earlier d.who d.deed × IsLawfulBut earlier
