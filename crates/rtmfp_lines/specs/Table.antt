-- The table of statuses, a second time: the number that the program ends with, and what it prints
-- on standard error.
use Rattle.std.specs.Prelude.{◌≡◌, ℕ, suc, pos, negsuc, List, [], ◌++◌, codes, decimal}
use Rattle.rtmfp_lines.specs.declared.status.Status.{Status as RunStatus}
use Rattle.rtmfp_lines.specs.declared.status.Status.TheVariants.{Done, Memory, BadWords, BadScript, Forged}
use Rattle.rtmfp_lines.specs.declared.status.Status.TheVariants.{LinkFault, SinkFault, SourceFault, EntropyFault, SpawnFault, ScriptLong, ChildFailed, NotAgreed}
use Rattle.rtmfp_lines.specs.Status.{complaint, status_code}

abbrev pub EndsAs : RunStatus → ℕ → List ℕ → Type 0
EndsAs status code printed = (status_code status ≡ code) × (complaint status ≡ printed)

-- text on a line of its own
abbrev pub said : List ℕ → List ℕ
said text = codes "rtmfp: " ++ (text ++ codes "\n")

pub record StatusTable : Type 0 where
  pub done : EndsAs Done 0 []
  pub memory : EndsAs Memory 1 (said (codes "out of memory"))
  pub bad_words : EndsAs BadWords 2 (said (codes "bad command line"))
  pub bad_script : (n : ℕ) → EndsAs (BadScript n) 3 (said (codes "bad line " ++ decimal n))
  pub forged : (n : ℕ) → EndsAs (Forged n) 4 (said (codes "forged datagram at line " ++ decimal n))
  pub link_fault : EndsAs LinkFault 5 (said (codes "network fault"))
  pub sink_fault : EndsAs SinkFault 6 (said (codes "write fault"))
  pub source_fault : EndsAs SourceFault 7 (said (codes "read fault"))
  pub entropy_fault : EndsAs EntropyFault 8 (said (codes "random source fault"))
  pub spawn_fault : EndsAs SpawnFault 9 (said (codes "child fault"))
  pub script_long : EndsAs ScriptLong 10 (said (codes "more than 1000000 lines"))
  pub child_failed : (n : ℕ) →
      EndsAs (ChildFailed (pos n)) 11 (said (codes "child ended with " ++ decimal n))
  pub below_zero : (n : ℕ) →
      EndsAs (ChildFailed (negsuc n)) 11 (said (codes "child ended with -" ++ decimal (suc n)))
  pub not_agreed : (n : ℕ) →
      EndsAs (NotAgreed n) 12 (said (codes "logs refused at line " ++ decimal n))
