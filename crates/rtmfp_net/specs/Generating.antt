-- What a generator gives.
use Rattle.std.specs.Prelude.{◌≡◌, ℕ, List, Option, Some, None}
use Rattle.rand_core.specs.Stream.{Stream, fill_bytes}
use Rattle.rand_core.specs.Steps.{stream_of, steps_u32}
use Rattle.rand_chacha.specs.ChaCha.{ChaCha, next_word}
use Rattle.rtmfp_host.specs.Drawing.{EntropySeen}
use Rattle.rtmfp_host.specs.declared.entropy.Drawn.{Drawn}
use Rattle.rtmfp_host.specs.declared.entropy.Drawn.TheVariants.{Done, Failed}
use Rattle.rtmfp_net.specs.declared.generator.Generator.{Generator}

-- the generator that is held, if any: its key, its stream's number and its place there
abbrev pub held : Generator → Option ChaCha
held g = g.generator

abbrev pub generator_faults : Generator → ℕ
generator_faults g = g.faults

-- it doesn't tell its blocks
abbrev pub generator_seen : Generator → EntropySeen
generator_seen g = record { blocks = None; faults = g.faults }

-- all that a generator with ten double rounds will answer
abbrev pub stream : ChaCha → Stream
stream g = stream_of (steps_u32 (next_word 10)) g

-- what one draw does: the block is the next 64 bytes of the stream; without a generator it fails
abbrev pub TakesNext : Option ChaCha → Option ChaCha → Drawn → List ℕ → Type 0
TakesNext (Some before) (Some now) Done block =
    (block, stream now) ≡ fill_bytes 64 (stream before)
TakesNext (Some before) None Done block = ⊥
TakesNext (Some before) now Failed block = ⊥
TakesNext None now Done block = ⊥
TakesNext None now Failed block = now ≡ None
