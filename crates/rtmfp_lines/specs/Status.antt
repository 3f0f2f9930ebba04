-- The number of each status, and what the program prints of it.
use Rattle.std.specs.Prelude.{ℕ, ℤ, List, [], ◌∷◌, codes, decimal}
use Rattle.std.specs.Fmt.{signed_decimal}
use Rattle.rtmfp_text.specs.Words.{text_of}
use Rattle.rtmfp_lines.specs.declared.status.Status.{Status as RunStatus}
use Rattle.rtmfp_lines.specs.declared.status.Status.TheVariants.{Done, Memory, BadWords, BadScript, Forged}
use Rattle.rtmfp_lines.specs.declared.status.Status.TheVariants.{LinkFault, SinkFault, SourceFault, EntropyFault, SpawnFault, ScriptLong, ChildFailed, NotAgreed}

abbrev pub status_code : RunStatus → ℕ
status_code Done = 0
status_code Memory = 1
status_code BadWords = 2
status_code (BadScript n) = 3
status_code (Forged n) = 4
status_code LinkFault = 5
status_code SinkFault = 6
status_code SourceFault = 7
status_code EntropyFault = 8
status_code SpawnFault = 9
status_code ScriptLong = 10
status_code (ChildFailed c) = 11
status_code (NotAgreed n) = 12

-- words, a number and LF
unfoldable pub numbered : List ℕ → ℕ → List ℕ
numbered words n = text_of (words ∷ decimal n ∷ codes "\n" ∷ [])

-- a child's exit status, which may be below 0
unfoldable pub ended : ℤ → List ℕ
ended c = text_of (codes "rtmfp: child ended with " ∷ signed_decimal c ∷ codes "\n" ∷ [])

-- what is printed on standard error
abbrev pub complaint : RunStatus → List ℕ
complaint Done = []
complaint Memory = codes "rtmfp: out of memory\n"
complaint BadWords = codes "rtmfp: bad command line\n"
complaint (BadScript n) = numbered (codes "rtmfp: bad line ") n
complaint (Forged n) = numbered (codes "rtmfp: forged datagram at line ") n
complaint LinkFault = codes "rtmfp: network fault\n"
complaint SinkFault = codes "rtmfp: write fault\n"
complaint SourceFault = codes "rtmfp: read fault\n"
complaint EntropyFault = codes "rtmfp: random source fault\n"
complaint SpawnFault = codes "rtmfp: child fault\n"
complaint ScriptLong = codes "rtmfp: more than 1000000 lines\n"
complaint (ChildFailed c) = ended c
complaint (NotAgreed n) = numbered (codes "rtmfp: logs refused at line ") n
