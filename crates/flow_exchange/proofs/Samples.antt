-- Small exchanges, computed.
use Rattle.std.proofs.Common.{◌≡◌, ℕ, true, false, List, [], ◌∷◌, Some, None, refl}
use Rattle.rtmfp_data_chunks.specs.declared.user_data.Part.TheVariants.{Whole}
use Rattle.rtmfp_data_chunks.specs.Fragments.{Message}
use Rattle.flow_recv.specs.Receiver.{span}
use Rattle.flow_exchange.specs.Pair.{Happening, Queues, Abandons, Finishes, Sends, Takes, Hands, pair, exchanged}

abbrev message : ℕ → List ℕ → Message
message n b = record { number = n; bytes = b }

abbrev queues : List ℕ → Happening
queues b = Queues b (record { deadline = None; resends = None })

-- one message
one : (exchanged (pair 1 false) (queues (1 ∷ 2 ∷ []) ∷ Sends 0 1000 ∷ Takes 0 ∷ Hands ∷ [])).world.handed ≡ message 1 (1 ∷ 2 ∷ []) ∷ []
one = refl

-- the second comes first and waits; it comes again and is handed over once
again : (exchanged (pair 1 false) (queues (1 ∷ []) ∷ queues (2 ∷ []) ∷ Sends 0 1000 ∷ Sends 0 1000 ∷ Takes 0 ∷ Hands ∷ Takes 0 ∷ Takes 1 ∷ Hands ∷ Hands ∷ Hands ∷ Takes 0 ∷ Hands ∷ [])).world.handed ≡ message 1 (1 ∷ []) ∷ message 2 (2 ∷ []) ∷ []
again = refl

-- in arrival order it doesn't wait
arriving : (exchanged (pair 1 true) (queues (1 ∷ []) ∷ queues (2 ∷ []) ∷ Sends 0 1000 ∷ Sends 0 1000 ∷ Takes 0 ∷ Hands ∷ Takes 1 ∷ Hands ∷ [])).world.handed ≡ message 2 (2 ∷ []) ∷ message 1 (1 ∷ []) ∷ []
arriving = refl

-- an abandoned message is skipped, by the forward number of the next chunk
skipped : (exchanged (pair 1 false) (queues (1 ∷ []) ∷ queues (2 ∷ []) ∷ Sends 0 1000 ∷ Abandons 1 ∷ Sends 0 1000 ∷ Takes 0 ∷ Hands ∷ Takes 1 ∷ Hands ∷ [])).world.handed ≡ message 2 (2 ∷ []) ∷ []
skipped = refl

-- with nothing left to send, a notice tells it, once in the resend time
notice : (exchanged (pair 1 false) (queues (1 ∷ []) ∷ Abandons 1 ∷ Sends 6 1000 ∷ Sends 7 1000 ∷ [])).world.sent ≡ record { part = Whole; abandon = true; last = false; seq = 1; forward = 1; bytes = [] } ∷ []
notice = refl

-- the end
ended : (exchanged (pair 1 false) (Finishes ∷ Sends 0 1000 ∷ Takes 0 ∷ [])).receiver ≡ record { arriving = false; spans = span 0 1 ∷ []; runs = []; last = Some 1; highest = 1 }
ended = refl
